-- In what definitions fold to, each thing stands under its own name.
use Rattle.std.proofs.Common.{◌≡◌, ℕ, Bool, true, false, ◌||◌, List, [], ◌∷◌, ◌++◌, map, Some, refl, sym, ap, subst, ◌∙◌, cond, if◌then◌else◌, true≢false, All}
use Rattle.std.specs.List.{IsDistinct, AllByRecursion, find}
use Rattle.std.specs.Map.{keys_of, values_of}
use Rattle.std.specs.Option.{option_map_or}
use Rattle.std.specs.Str.{bytes_eq}
use Rattle.std.proofs.lemmas.List.Elements.{All-map}
use Rattle.std.proofs.lemmas.Slice.Eq.{bytes_eq-Decides}
use Rattle.graphql_names.specs.Placed.{Placed, Place}
use Rattle.tree_operations.specs.in_directives.DirectiveTree.{DirectiveDefinitionTree}
use Rattle.schema_fold_index.specs.in_components.Lists.{each_place_after, firsts, has_name}
use Rattle.schema_fold_index.specs.in_components.Names.{Entries}
use Rattle.schema_fold_index.specs.in_components.Given.{given_name}
use Rattle.schema_fold_index.proofs.in_components.Firsts.{has_name-push}
use Rattle.schema_fold_index.specs.in_schema_types.TypeParts.{TypeDefinition}
use Rattle.schema_fold_index.specs.in_fold.NumberedDefinition.{Definitions, NumberedDefinition, numbered, type_name, types_in, directive_name, directives_in}
use Rattle.schema_fold_index.specs.in_fold.Components.{components, field_key, value_key, input_key}
use Rattle.schema_fold_index.specs.in_fold.Fold.{folded_type, folded_types, chosen_directive, folded_directives, fold}
use Rattle.schema_fold_types.specs.OwnNames.{AreNamed, HasOwnNames, TypesUnderOwnNames, UnderOwnNames}

module _ {X : Type 0} (key : X → List ℕ) where
  abbrev kept_from : List X → List X → List X
  kept_from = each_place_after (λ before x. if has_name key (key x) before then [] else x ∷ [])

  abbrev IsNone : List ℕ → List X → Type 0
  IsNone n xs = AllByRecursion (λ y. bytes_eq n y ≡ false) (map key xs)

  or_true : (a b : Bool) → a ≡ true → (a || b) ≡ true
  or_true a b e = ap (λ c. c || b) e

  or_right : (a b : Bool) → b ≡ true → (a || b) ≡ true
  or_right true b e = refl
  or_right false b e = e

  -- none is kept of a name that is there before
  none_kept : (n : List ℕ) (before xs : List X) → has_name key n before ≡ true → IsNone n (kept_from before xs)
  none_kept n before [] there = cc
  none_kept n before (x ∷ xs) there = by (has_name key (key x) before) refl (none_kept n (before ++ x ∷ []) xs (has_name-push key n before x ∙ or_true (has_name key n before) (bytes_eq n (key x)) there))
    where
      other : has_name key (key x) before ≡ false → (b : Bool) → bytes_eq n (key x) ≡ b → bytes_eq n (key x) ≡ false
      other new true e = absurd (true≢false (sym there ∙ ap (λ m. has_name key m before) ((bytes_eq-Decides n (key x)).0 e) ∙ new))
      other new false e = e

      by : (b : Bool) → has_name key (key x) before ≡ b → IsNone n (kept_from (before ++ x ∷ []) xs) → IsNone n (cond b [] (x ∷ []) ++ kept_from (before ++ x ∷ []) xs)
      by true e rest = rest
      by false e rest = (other e (bytes_eq n (key x)) refl, rest)

  itself : (n : List ℕ) → bytes_eq n n ≡ true
  itself n = (bytes_eq-Decides n n).1 refl

  distinct_after : (before xs : List X) → IsDistinct bytes_eq (map key (kept_from before xs))
  unfolding IsDistinct
  distinct_after before [] = cc
  distinct_after before (x ∷ xs) = by (has_name key (key x) before) (distinct_after (before ++ x ∷ []) xs)
    where
      by : (b : Bool) → IsDistinct bytes_eq (map key (kept_from (before ++ x ∷ []) xs)) → IsDistinct bytes_eq (map key (cond b [] (x ∷ []) ++ kept_from (before ++ x ∷ []) xs))
      by true rest = rest
      by false rest = (none_kept (key x) (before ++ x ∷ []) xs (has_name-push key (key x) before x ∙ or_right (has_name key (key x) before) (bytes_eq (key x) (key x)) (itself (key x))), rest)

  -- no two of the firsts have one name
  pub distinct_firsts : (xs : List X) → IsDistinct bytes_eq (map key (firsts key xs))
  distinct_firsts xs = distinct_after [] xs

  module _ {V : Type 0} (made : X → V) where
    abbrev entries : List X → Entries V
    entries xs = map (λ x. (key x, made x)) xs

    keys_are : (xs : List X) → keys_of (entries xs) ≡ map key xs
    keys_are [] = refl
    keys_are (x ∷ xs) = ap (λ l. key x ∷ l) (keys_are xs)

    pub values_are : (xs : List X) → values_of (entries xs) ≡ map made xs
    values_are [] = refl
    values_are (x ∷ xs) = ap (λ l. made x ∷ l) (values_are xs)

    names_are : (name : V → List ℕ) → ((x : X) → name (made x) ≡ key x) → (xs : List X) → map name (map made xs) ≡ map key xs
    names_are name same [] = refl
    names_are name same (x ∷ xs) = λ i. same x i ∷ names_are name same xs i

    -- what is made of the firsts, under their names
    pub firsts_named : (name : V → List ℕ) → ((x : X) → name (made x) ≡ key x) → (xs : List X) → AreNamed name (entries (firsts key xs))
    firsts_named name same xs = (
      keys_are (firsts key xs) ∙ sym (ap (map name) (values_are (firsts key xs)) ∙ names_are name same (firsts key xs)),
      subst (IsDistinct bytes_eq) (sym (keys_are (firsts key xs))) (distinct_firsts xs),
    )

-- of one type
pub folded_own : (list : List NumberedDefinition) (t : TypeDefinition Place) → HasOwnNames (folded_type list t)
folded_own list t = record {
  interfaces = distinct_firsts given_name (components (λ p. p.interfaces) list t);
  fields = firsts_named field_key (λ x. x) field_key (λ x. refl) (components (λ p. p.fields) list t);
  members = distinct_firsts given_name (components (λ p. p.members) list t);
  values = firsts_named value_key (λ x. x) value_key (λ x. refl) (components (λ p. p.values) list t);
  inputs = firsts_named input_key (λ x. x) input_key (λ x. refl) (components (λ p. p.inputs) list t);
}

-- of all types
pub types_own : (list : List NumberedDefinition) (ts : List (TypeDefinition Place)) → TypesUnderOwnNames (map (λ t. (type_name t, folded_type list t)) (firsts type_name ts))
types_own list ts =
    let folded = folded_type list in (
      firsts_named type_name folded (λ t. t.name.it) (λ t. refl) ts,
      subst (All HasOwnNames) (sym (values_are type_name folded (firsts type_name ts))) (All-map HasOwnNames folded (firsts type_name ts) (λ k d h. folded_own list _)),
    )

pub types_under_own_names : (first : ℕ) (ds : Definitions) → TypesUnderOwnNames (folded_types first ds)
types_under_own_names first ds = types_own (numbered first ds) (types_in ds)

-- of directives
abbrev Directive : Type 0
Directive = Placed Place (DirectiveDefinitionTree Place)

found_named : (n : List ℕ) (xs : List Directive) (d : Directive) → directive_name d ≡ n
    → directive_name (option_map_or (λ own. own) (find (λ own. bytes_eq n (directive_name own)) xs) d) ≡ n
found_named n [] d is = is
found_named n (x ∷ xs) d is = by (bytes_eq n (directive_name x)) refl (found_named n xs d is)
  where
    by : (b : Bool) → bytes_eq n (directive_name x) ≡ b → directive_name (option_map_or (λ own. own) (find (λ own. bytes_eq n (directive_name own)) xs) d) ≡ n
        → directive_name (option_map_or (λ own. own) (cond b (Some x) (find (λ own. bytes_eq n (directive_name own)) xs)) d) ≡ n
    by true e rest = sym ((bytes_eq-Decides n (directive_name x)).0 e)
    by false e rest = rest

pub directives_under_own_names : (built_in texts : Definitions) → AreNamed directive_name (folded_directives built_in texts)
directives_under_own_names built_in texts =
    firsts_named directive_name (chosen_directive texts) directive_name (λ d. found_named (directive_name d) (directives_in texts) d refl) (directives_in (built_in ++ texts))

-- of a schema
pub under_own_names : (built_in : Definitions) (first : ℕ) (texts : Definitions) → UnderOwnNames (fold built_in first texts)
under_own_names built_in first texts = (directives_under_own_names built_in texts, types_under_own_names first (built_in ++ texts))
