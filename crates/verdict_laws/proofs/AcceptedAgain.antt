-- What is written of an accepted list breaks no folding rule.
use Rattle.std.proofs.Common.{◌≡◌, ℕ, ◌≤◌, Bool, true, false, ◌||◌, cond, List, [], ◌∷◌, ◌++◌, map, flat_map, length, Option, Some, None, is_some, refl, sym, ap, subst, ◌∙◌, append_assoc, option_to_list, slice_get, arith, true≢false, Contains, inl, inr}
use Rattle.std.specs.List.{filter}
use Rattle.std.specs.Str.{bytes_eq}
use Rattle.std.proofs.lemmas.List.{append-nil, map-append, length-append}
use Rattle.std.proofs.lemmas.List.Elements.{filter-append}
use Rattle.std.proofs.lemmas.Grind.{flat_map-append}
use Rattle.std.proofs.lemmas.Option.{same_Some}
use Rattle.std.proofs.lemmas.Slice.Eq.{bytes_eq-Decides}
use Rattle.graphql_names.specs.Placed.{Place}
use Rattle.tree_definitions.specs.DefinitionTree.{DefinitionTree}
use Rattle.tree_definitions.specs.Queries.{is_executable}
use Rattle.schema_components.specs.Lists.{firsts, has_name, is_among, IsRepeated}
use Rattle.schema_components.proofs.Places.{Contains-cons, not_in_nil}
use Rattle.schema_types.specs.SchemaTree.{same_kind}
use Rattle.schema_types.specs.TypeParts.{TypeDefinition, type_here}
use Rattle.schema_fold.specs.NumberedDefinition.{Definitions, numbered, type_name, types_in, directive_name, directives_in}
use Rattle.schema_fold.specs.SchemaFold.{schema_here, roots_given, root_key}
use Rattle.schema_fold.specs.BuildErrors as rule
use Rattle.schema_fold.specs.BuildErrors.{FoldingRules}
use Rattle.verdict_laws.specs.Table.{IsTable, AreOwn}
use Rattle.verdict_laws.specs.Twice.{WrittenOf}
use Rattle.verdict_laws.proofs.Order.{Each}
use Rattle.verdict_laws.proofs.Types.{HasNoRepeats}
use Rattle.verdict_laws.proofs.Names.{AreNew, kept_new}
use Rattle.verdict_laws.proofs.TypesTwice.{types_append}
use Rattle.verdict_laws.proofs.DirectivesTwice.{directives_append}
use Rattle.verdict_laws.proofs.SchemaWhole.{how_many}
use Rattle.verdict_laws.proofs.Twice.{types_distinct, directives_distinct, again_no_repeats_of, roots_few, none_executable, one_schema, extended_defined, no_orphans}

-- ---- places of a list

at_place : {X : Type 0} (P : X → Type 0) (xs before after : List X) (x : X) → xs ≡ before ++ x ∷ after → Each P xs → P x
at_place P xs before after x e h = go before (subst (Each P) e h)
  where
    go : (bs : List _) → Each P (bs ++ x ∷ after) → P x
    go [] k = k.0
    go (b ∷ bs) k = go bs k.1

member : {X : Type 0} (P : X → Type 0) (xs : List X) (x : X) → Each P xs → Contains xs x → P x
member P [] x h c = absurd (not_in_nil x c)
member P (y ∷ ys) x h c = elim (Contains-cons y ys x c) [ inl e ↦ subst P e h.0 | inr r ↦ member P ys x h.1 r ]

new_at : (bs ns ms : List (List ℕ)) (m : List ℕ) → AreNew bs (ns ++ m ∷ ms) → is_among m (bs ++ ns) ≡ false
new_at bs [] ms m h = ap (is_among m) (append-nil bs) ∙ h.0
new_at bs (n ∷ ns) ms m h = ap (is_among m) (sym (append_assoc bs (n ∷ []) ns)) ∙ new_at (bs ++ n ∷ []) ns ms m h.1

module _ {X : Type 0} (key : X → List ℕ) where
  -- where the first of each name are all, none has the name of an earlier one
  unseen_at : (xs before after : List X) (x : X) → firsts key xs ≡ xs → xs ≡ before ++ x ∷ after → has_name key (key x) before ≡ false
  unseen_at xs before after x all e =
      new_at [] (map key before) (map key after) (key x) (subst (AreNew []) (ap (map key) e ∙ map-append key before (x ∷ after)) (kept_new key [] xs all))

  none_repeats : (xs : List X) → firsts key xs ≡ xs → (x : X) → IsRepeated key xs x → ⊥
  none_repeats xs all x r =
      let before = r.0 in
      let y = r.1.0 in
      let after = r.1.1.0.0 in
      let seen : has_name key (key y) before ≡ true = ap (λ z. has_name key (key z) before) r.1.1.1.0 ∙ r.1.1.1.1 in
      absurd (true≢false (sym seen ∙ unseen_at xs before after y all r.1.1.0.1))

  -- where at most one has a name, none has that of an earlier one
  some_before : (n : List ℕ) (xs : List X) → has_name key n xs ≡ true → 1 ≤ length (filter (λ x. bytes_eq n (key x)) xs)
  some_before n [] h = absurd (true≢false (sym h))
  some_before n (x ∷ xs) h = by (bytes_eq n (key x)) h (some_before n xs)
    where
      by : (b : Bool) → (b || has_name key n xs) ≡ true → (has_name key n xs ≡ true → 1 ≤ length (filter (λ x. bytes_eq n (key x)) xs)) → 1 ≤ length (cond b (x ∷ filter (λ x. bytes_eq n (key x)) xs) (filter (λ x. bytes_eq n (key x)) xs))
      by true k rest = omega arith
      by false k rest = rest k

  few_repeat_none : (xs : List X) (x : X) → length (filter (λ y. bytes_eq (key x) (key y)) xs) ≤ 1 → IsRepeated key xs x → ⊥
  few_repeat_none xs x few r =
      let before = r.0 in
      let y = r.1.0 in
      let after = r.1.1.0.0 in
      let p : X → Bool = λ y. bytes_eq (key x) (key y) in
      let whole = ap (λ l. length (filter p l)) r.1.1.0.1 ∙ ap length (filter-append p before (y ∷ after)) ∙ length-append (filter p before) (filter p (y ∷ after)) in
      let first = some_before (key x) before r.1.1.1.1 in
      let own : p y ≡ true = ap p r.1.1.1.0 ∙ (bytes_eq-Decides (key x) (key x)).1 refl in
      let second = ap (λ b. length (cond b (y ∷ filter p after) (filter p after))) own in
      absurd (omega (arith, whole, first, second, few))

some_long : {X : Type 0} (xs : List X) → is_some (slice_get xs 0) ≡ true → 1 ≤ length xs
some_long [] h = absurd (true≢false (sym h))
some_long (x ∷ xs) h = omega arith

some_one : {X : Type 0} (o : Option X) → is_some o ≡ true → length (option_to_list o) ≡ 1
some_one None h = absurd (true≢false (sym h))
some_one (Some x) h = refl

module _ (built_in : Definitions) (first again_first : ℕ) (texts : Definitions) (table : IsTable built_in) (own : AreOwn texts) (rules : FoldingRules built_in first texts) where
  abbrev out : Definitions
  out = WrittenOf built_in first texts

  abbrev again : Definitions
  again = built_in ++ out

  no_second : (before after : Definitions) (d : DefinitionTree Place) (t : TypeDefinition Place) → out ≡ before ++ d ∷ after → type_here d ≡ Some t → has_name type_name (type_name t) (types_in (built_in ++ before)) ≡ true → ⊥
  no_second before after d t e here seen =
      let are : types_in again ≡ types_in (built_in ++ before) ++ t ∷ types_in after =
      ap (λ l. types_in (built_in ++ l)) e ∙ ap types_in (sym (append_assoc built_in before (d ∷ after))) ∙ types_append (built_in ++ before) (d ∷ after)
      ∙ ap (λ o. types_in (built_in ++ before) ++ (option_to_list o ++ types_in after)) here in
      absurd (true≢false (sym seen ∙ unseen_at type_name (types_in again) (types_in (built_in ++ before)) (types_in after) t (types_distinct built_in first again_first texts table own rules) are))

  no_repeats : (t : TypeDefinition Place) → Contains (firsts type_name (types_in again)) t → HasNoRepeats (numbered again_first again) t
  no_repeats t c = member (HasNoRepeats (numbered again_first again)) (firsts type_name (types_in again)) t (again_no_repeats_of built_in first again_first texts table own rules) c

  pub accepted_again : FoldingRules built_in again_first out
  accepted_again fault (rule.executable_definition (before, (d, ((after, e), (h, _))))) =
      absurd (true≢false (sym h ∙ at_place (λ d. is_executable d ≡ false) out before after d e (none_executable built_in first again_first texts table own rules)))
  accepted_again fault (rule.schema_definition_collision (before, (d, ((after, e), (here, there, _))))) =
      let f : DefinitionTree Place → List _ = λ d. option_to_list (schema_here d) in
      let whole = ap (λ l. length (flat_map f l)) e ∙ ap length (flat_map-append f before (d ∷ after)) ∙ length-append (flat_map f before) (f d ++ flat_map f after) in
      let more = length-append (f d) (flat_map f after) in
      let one = some_one (schema_here d) here in
      let other = some_long (flat_map f before) there in
      let few = one_schema built_in first again_first texts table own rules in
      absurd (omega (arith, whole, more, one, other, few))
  accepted_again fault (rule.directive_definition_collision (before, (d, ((after, e), (x, (here, seen, _)))))) =
      let are : directives_in out ≡ directives_in before ++ x ∷ directives_in after =
      ap directives_in e ∙ directives_append before (d ∷ after) ∙ ap (λ o. directives_in before ++ (option_to_list o ++ directives_in after)) here in
      absurd (true≢false (sym seen ∙ unseen_at directive_name (directives_in out) (directives_in before) (directives_in after) x (directives_distinct built_in first again_first texts table own rules) are))
  accepted_again fault (rule.type_definition_collision (before, (d, ((after, e), (t, (second, _, _)))))) = no_second before after d t e second.0 second.1
  accepted_again fault (rule.built_in_scalar_type_redefinition (before, (d, ((after, e), (t, (second, _, _)))))) = no_second before after d t e second.0 second.1
  accepted_again fault (rule.orphan_schema_extension (before, (d, ((after, e), (here, undefined, _))))) =
      absurd (true≢false (sym (at_place _ out before after d e (extended_defined built_in first again_first texts table own rules) here) ∙ undefined))
  accepted_again fault (rule.orphan_type_extension (before, (d, ((after, e), (p, (here, none, _)))))) =
      let found = at_place _ out before after d e (no_orphans built_in first again_first texts table own rules) p here in
      absurd (true≢false (ap is_some (sym found.1.0 ∙ none)))
  accepted_again fault (rule.type_extension_kind_mismatch (before, (d, ((after, e), (p, (t, (here, named, other, _))))))) =
      let found = at_place _ out before after d e (no_orphans built_in first again_first texts table own rules) p here in
      absurd (true≢false (sym found.1.1 ∙ ap (λ t. same_kind t.parts.kind p.kind) (same_Some _ _ (sym found.1.0 ∙ named)) ∙ other))
  accepted_again fault (rule.duplicate_root_operation (g, (repeated, _))) =
      let fits = roots_few built_in first again_first texts table own rules in
      few_repeat_none root_key (roots_given again_first again) g (subst (λ n. n ≤ 1) (sym (how_many again_first again fits.0 g.it.it.operation_type)) (fits.1 g.it.it.operation_type)) repeated
  accepted_again fault (rule.duplicate_implements_interface_in_object (t, (g, (c, _, repeated, _)))) = none_repeats _ _ (no_repeats t c).interfaces g repeated
  accepted_again fault (rule.duplicate_implements_interface_in_interface (t, (g, (c, _, repeated, _)))) = none_repeats _ _ (no_repeats t c).interfaces g repeated
  accepted_again fault (rule.object_field_name_collision (t, (g, (c, _, repeated, _)))) = none_repeats _ _ (no_repeats t c).fields g repeated
  accepted_again fault (rule.interface_field_name_collision (t, (g, (c, _, repeated, _)))) = none_repeats _ _ (no_repeats t c).fields g repeated
  accepted_again fault (rule.enum_value_name_collision (t, (g, (c, _, repeated, _)))) = none_repeats _ _ (no_repeats t c).values g repeated
  accepted_again fault (rule.union_member_name_collision (t, (g, (c, _, repeated, _)))) = none_repeats _ _ (no_repeats t c).members g repeated
  accepted_again fault (rule.input_field_name_collision (t, (g, (c, _, repeated, _)))) = none_repeats _ _ (no_repeats t c).inputs g repeated
