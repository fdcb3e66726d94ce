-- What the check of repeated names has noted.
use Rattle.std.proofs.Common.{◌≡◌, Bool, true, false, cond, [], ◌∷◌, ◌++◌, Option, None, Some, is_some, refl, sym, ap, subst, ◌∙◌, if◌then◌else◌, true≢false}
use Rattle.std.specs.Option.{option_map, option_map_or, option_or}
use Rattle.std.specs.Str.{bytes_eq}
use Rattle.std.proofs.lemmas.Slice.Eq.{bytes_eq-Decides}
use Rattle.indexmap.specs.IndexMap.{IndexMap, get}
use Rattle.graphql_names.specs.NameValue.{NameValue}
use Rattle.graphql_names.specs.Placed.{Place}
use Rattle.tree_directives.specs.DirectiveTree.{InputValues}
use Rattle.schema_components.specs.Names.{same_text}
use Rattle.schema_types.specs.TypeView.{name_text}
use Rattle.fault_data.specs.in_rule_definitions.Diagnostics.{UniqueInputValue}
use Rattle.fault_data.specs.in_rule_definitions.Faults.{wrong}
use Rattle.fault_data.specs.in_rule_definitions.PlacedFaults.{PlacedFault}
use Rattle.rule_types.specs.FaultLists.{first_named, unique_input_value}
use Rattle.rule_types.specs.InterfaceFaults.{Input}
use Rattle.rule_types.specs.Seen.{AreSeen}
use Rattle.rule_types.proofs.FirstNamed.{first_push, or_none}

abbrev pub place : Input → Place
place v = v.place

abbrev again : Input → Place → PlacedFault
again v p = wrong p (UniqueInputValue v.it.name.it p v.place)

-- what is told where this place was noted under the name
pub told_seen : (before : InputValues Place) (v : Input) (o : Option Place) → o ≡ option_map place (first_named before v.it.name.it)
    → option_map_or (λ p. again v p ∷ []) o [] ≡ unique_input_value before v
told_seen before v o e = ap (λ o. option_map_or (λ p. again v p ∷ []) o []) e ∙ by (first_named before v.it.name.it)
  where
    by : (f : Option Input) → option_map_or (λ (p : Place). again v p ∷ []) (option_map place f) [] ≡ option_map_or (λ (w : Input). again v w.place ∷ []) f []
    by None = refl
    by (Some w) = refl

module _ {S : Type 0} (before : InputValues Place) (v : Input) where
  -- a name that was noted already
  pub seen_again : (seen : IndexMap NameValue Place S) (k : NameValue) → k.text ≡ v.it.name.it → AreSeen seen before → is_some (get (same_text name_text) seen k) ≡ true → AreSeen seen (before ++ v ∷ [])
  seen_again seen k named are there n = are n ∙ ap (option_map place) (sym (first_push before v n.text ∙ by (bytes_eq n.text v.it.name.it) refl))
    where
      found : (o : Option Input) → is_some (option_map place o) ≡ true → (x : Option Input) → option_or o x ≡ o
      found None h x = absurd (true≢false (sym h))
      found (Some w) h x = refl

      by : (b : Bool) → bytes_eq n.text v.it.name.it ≡ b → option_or (first_named before n.text) (if b then Some v else None) ≡ first_named before n.text
      by false e = or_none (first_named before n.text)
      by true e =
          let same : k.text ≡ n.text = named ∙ sym ((bytes_eq-Decides n.text v.it.name.it).0 e) in
          found (first_named before n.text) (subst (λ m. is_some (option_map place (first_named before m)) ≡ true) same (sym (ap is_some (are k)) ∙ there)) (Some v)

  -- a new name, noted with its place
  pub seen_first : (old new : IndexMap NameValue Place S) (k : NameValue) → k.text ≡ v.it.name.it → AreSeen old before → is_some (get (same_text name_text) old k) ≡ false
      → ((q : NameValue) → get (same_text name_text) new q ≡ cond (same_text name_text k q) (Some v.place) (get (same_text name_text) old q)) → AreSeen new (before ++ v ∷ [])
  seen_first old new k named are absent puts n = puts n ∙ by (bytes_eq n.text v.it.name.it) refl (bytes_eq k.text n.text) refl ∙ ap (option_map place) (sym (first_push before v n.text))
    where
      none : (o : Option Input) → is_some (option_map place o) ≡ false → o ≡ None
      none None h = refl
      none (Some w) h = absurd (true≢false h)

      by : (b : Bool) → bytes_eq n.text v.it.name.it ≡ b → (c : Bool) → bytes_eq k.text n.text ≡ c
          → cond (bytes_eq k.text n.text) (Some v.place) (get (same_text name_text) old n) ≡ option_map place (option_or (first_named before n.text) (if bytes_eq n.text v.it.name.it then Some v else None))
      by true e true d =
          let same : k.text ≡ n.text = (bytes_eq-Decides k.text n.text).0 d in
          let nothing : first_named before n.text ≡ None = none (first_named before n.text) (subst (λ m. is_some (option_map place (first_named before m)) ≡ false) same (sym (ap is_some (are k)) ∙ absent)) in
          ap (λ c. cond c (Some v.place) (get (same_text name_text) old n)) d
          ∙ sym (ap (λ o. option_map place (option_or o (if bytes_eq n.text v.it.name.it then Some v else None))) nothing ∙ ap (λ c. option_map place (if c then Some v else None)) e)
      by false e false d =
          ap (λ c. cond c (Some v.place) (get (same_text name_text) old n)) d ∙ are n
          ∙ sym (ap (λ c. option_map place (option_or (first_named before n.text) (if c then Some v else None))) e ∙ ap (option_map place) (or_none (first_named before n.text)))
      by true e false d = absurd (true≢false (sym ((bytes_eq-Decides k.text n.text).1 (named ∙ sym ((bytes_eq-Decides n.text v.it.name.it).0 e))) ∙ d))
      by false e true d = absurd (true≢false (sym ((bytes_eq-Decides n.text v.it.name.it).1 (sym ((bytes_eq-Decides k.text n.text).0 d) ∙ named)) ∙ e))
