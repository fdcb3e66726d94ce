-- The parts of a group: what is shared with what is of one type.
use Rattle.std.proofs.Common.{◌≡◌, ◌⊎◌, ◌∙◌, List, [], ◌∷◌, ◌++◌, map, Vec, Global, Contains, refl, sym, ap, inl, inr}
use Rattle.std.proofs.lemmas.List.{map-append}
use Rattle.std.proofs.lemmas.List.Elements.{Contains-append_left}
use Rattle.rule_selection_queries.proofs.in_definitions.in_schema_types.in_components.Places.{not_in_nil, only, Contains-first}
use Rattle.rule_selection_queries.proofs.in_document_definitions.Unplaced.{contains_map, contains_unmap}
use Rattle.std.proofs.lemmas.Simd.{map-map}
use Rattle.rule_field_groups.specs.Members.{field_of, fields_of}
use Rattle.rule_field_sets.specs.declared.member.Member.{Member}
use Rattle.rule_field_groups.specs.KeyGroups.{with_own}

module _ {X : Type 0} where
  -- one part has all that is shared
  pub part_of_shared : (shared : List X) (owns : List (List X)) → (part : List X) × (Contains (with_own shared owns) part × ((y : X) → Contains shared y → Contains part y))
  part_of_shared shared [] = (shared, (Contains-first shared [] shared refl, λ y k. k))
  part_of_shared shared (own ∷ owns) =
      (shared ++ own, (Contains-first (shared ++ own) (map (λ l. shared ++ l) owns) (shared ++ own) refl, λ y k. Contains-append_left shared own y k))

  -- what is of one type is in one part with all that is shared
  pub part_of_own : (shared : List X) (owns : List (List X)) (own : List X) → Contains owns own → Contains (with_own shared owns) (shared ++ own)
  part_of_own shared [] own c = absurd (not_in_nil own c)
  part_of_own shared (first ∷ owns) own c = contains_map (λ l. shared ++ l) (first ∷ owns) own c

  -- a part is what is shared, with what is of one type or nothing
  pub of_parts : (shared : List X) (owns : List (List X)) (part : List X) → Contains (with_own shared owns) part → (part ≡ shared) ⊎ ((own : List X) × (Contains owns own × (part ≡ shared ++ own)))
  of_parts shared [] part c = inl (only shared part c)
  of_parts shared (first ∷ owns) part c = let o = contains_unmap (λ l. shared ++ l) (first ∷ owns) part c in inr (o.0, (o.1.0, sym o.1.1))

-- fields of parts are parts of fields
fields_parts : (shared : List Member) (owns : List (List Member)) → map fields_of (with_own shared owns) ≡ with_own (fields_of shared) (map fields_of owns)
fields_parts shared [] = refl
fields_parts shared (own ∷ owns) = each (own ∷ owns)
  where
    each : (ls : List (List Member)) → map fields_of (map (λ l. shared ++ l) ls) ≡ map (λ l. fields_of shared ++ l) (map fields_of ls)
    each [] = refl
    each (l ∷ ls) = λ i. map-append field_of shared l i ∷ each ls i

pub own_fields_parts : (shared : List Member) (owns : List (Vec Member Global)) → map fields_of (with_own shared (map (λ o. o.items) owns)) ≡ with_own (fields_of shared) (map (λ o. fields_of o.items) owns)
own_fields_parts shared owns = fields_parts shared (map (λ (o : Vec Member Global). o.items) owns) ∙ ap (with_own (fields_of shared)) (map-map fields_of (λ (o : Vec Member Global). o.items) owns)
