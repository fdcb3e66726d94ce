-- The kinds of types by name, as rules read them and as lists of faults have them.
use Rattle.std.proofs.Common.{◌≡◌, ℕ, ◌↔◌, List, sym, ap, subst, ◌∙◌, None}
use Rattle.std.specs.Option.{option_map}
use Rattle.graphql_names.specs.Placed.{Place}
use Rattle.schema_types.specs.SchemaTree.{SchemaType, SchemaTree}
use Rattle.schema_types.specs.Looks.{TypeLooks}
use Rattle.schema_types.specs.Addresses.{under}
use Rattle.schema_types.specs.declared.type_kind.TypeKind.{TypeKind}
use Rattle.fault_data.specs.in_rule_definitions.Judged.{judged}
use Rattle.fault_data.specs.in_rule_definitions.Words.{Present}
use Rattle.fault_data.proofs.in_rule_definitions.Lists.{mapped_some, mapped_none}
use Rattle.fault_data.proofs.Judgings.{type_seen, type_look}
use Rattle.rule_types.specs.FaultLists.{kind_named}

-- the kinds of types by name
module _ (s : SchemaTree Place) (n : List ℕ) where
  pub missing_kind : ((judged s).type_named n ≡ None) ↔ (kind_named s n ≡ None)
  missing_kind = (
    λ e. ap (option_map (λ (t : SchemaType Place). t.kind)) (mapped_none type_seen (under n s.types) (sym (type_look s n) ∙ e)),
    λ e. type_look s n ∙ ap (option_map type_seen) (mapped_none (λ (t : SchemaType Place). t.kind) (under n s.types) e),
  )

  pub present_kind : (K : TypeKind → Type 0) → Present (kind_named s n) K ↔ Present ((judged s).type_named n) (λ t. K t.kind)
  present_kind K = (
    λ p. let (x, (there, is)) = mapped_some (λ (t : SchemaType Place). t.kind) (under n s.types) p.0 p.1.0 in
        (type_seen x, (type_look s n ∙ ap (option_map type_seen) there, subst K is p.1.1)),
    λ p. let (x, (there, is)) = mapped_some type_seen (under n s.types) p.0 (sym (type_look s n) ∙ p.1.0) in
        (x.kind, (ap (option_map (λ (t : SchemaType Place). t.kind)) there, subst (λ (t : TypeLooks). K t.kind) is p.1.1)),
  )
