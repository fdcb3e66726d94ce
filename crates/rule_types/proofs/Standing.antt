-- What is under a name in a schema, and what is known of the arguments of a field of one of its types.
use Rattle.std.proofs.Common.{◌≡◌, ℕ, ◌<◌, List, map, length, get_or, Contains, Option, None, Some, IfSome, Bor, sym, ap, subst, ◌∙◌}
use Rattle.std.proofs.lemmas.List.{get_or-map, length-map}
use Rattle.std.proofs.lemmas.List.Elements.{Contains-get_or}
use Rattle.std.proofs.lemmas.Option.{same_Some}
use Rattle.graphql_names.specs.NameValue.{NameValue}
use Rattle.graphql_names.specs.Placed.{Place}
use Rattle.schema_types.specs.SchemaTree.{SchemaType}
use Rattle.schema_types.specs.Addresses.{under}
use Rattle.schema_types.specs.Distinct.{AreUnder}
use Rattle.schema_types.specs.TypeView.{name_text, extended_type}
use Rattle.schema_types.specs.declared.extended_type.ExtendedType.{ExtendedType}
use Rattle.fault_data.proofs.in_rule_definitions.Lookups.{under_found}
use Rattle.schema_inputs.specs.Inputs.{HasAt}

-- a type at an index of a map in which no two names are the same
pub entry_stands : (es : List (NameValue × ExtendedType)) (i : ℕ) (e : NameValue × ExtendedType) → AreUnder (map (λ x. (name_text x.0, extended_type x.1)) es) → i < length es → e ≡ get_or es i e
    → under e.0.text (map (λ x. (name_text x.0, extended_type x.1)) es) ≡ Some (extended_type e.1)
entry_stands es i e distinct inside is =
    let seen : NameValue × ExtendedType → List ℕ × SchemaType Place = λ x. (name_text x.0, extended_type x.1) in
    let at = get_or-map seen es i e (seen e) inside ∙ ap seen (sym is) in
    under_found (map seen es) distinct (seen e) (subst (Contains (map seen es)) at (Contains-get_or (map seen es) i (seen e) (subst (λ k. i < k) (sym (length-map es seen)) inside)))

module _ {T F : Type 0} (type : Option T) (field : T → Option F) (f : F) where
  known_there : (P : F → Type 0) → HasAt type (λ t. field t ≡ Some f) → HasAt type (λ t. HasAt (field t) P) → P f
  known_there P (t, (is, has)) (u, (is_also, (g, (has_also, known)))) =
      subst P (same_Some _ _ (sym has_also ∙ ap field (same_Some _ _ (sym is_also ∙ is)) ∙ has)) known

  pub known_if : {K : Type 0} (P : F → K → Type 0) (r : Option (Bor K)) → HasAt type (λ t. field t ≡ Some f) → IfSome r (λ k. HasAt type (λ t. HasAt (field t) (λ g. P g k.now))) → IfSome r (λ k. P f k.now)
  known_if P None there known = tt
  known_if P (Some k) there known = known_there (λ g. P g k.now) there known
