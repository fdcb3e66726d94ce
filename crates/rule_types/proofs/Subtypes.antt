-- What is a subtype by a schema's lookups is one by what rules read of it.
use Rattle.std.proofs.Common.{◌≡◌, ℕ, Bool, false, ◌&&◌, ◌||◌, List, map, refl, ap, ◌∙◌, Option, None, Some}
use Rattle.std.specs.Option.{option_map, option_map_or}
use Rattle.graphql_names.specs.Placed.{Place}
use Rattle.schema_components.specs.Lists.{is_among}
use Rattle.schema_components.specs.Given.{given_name}
use Rattle.schema_types.specs.SchemaTree.{SchemaType, SchemaTree, same_kind}
use Rattle.schema_types.specs.Looks.{TypeLooks}
use Rattle.schema_types.specs.Addresses.{under}
use Rattle.schema_types.specs.declared.type_kind.TypeKind.TheVariants as kind
use Rattle.graphql_schema.specs.LookUps as look
use Rattle.fault_data.specs.in_rule_definitions.Judged.{judged}
use Rattle.fault_data.specs.in_rule_definitions.Subtypes.{is_subtype}
use Rattle.fault_data.proofs.Judgings.{type_seen, type_look, member_look, interface_look}

module _ (s : SchemaTree Place) (n m : List ℕ) where
  named : (o : Option (SchemaType Place)) → option_map_or (λ (b : TypeLooks). b.implements n) (option_map type_seen o) false ≡ option_map_or (λ b. look.implements s b n) o false
  named None = refl
  named (Some b) = interface_look b n

  implements_seen : option_map_or (λ (b : TypeLooks). b.implements n) ((judged s).type_named m) false ≡ option_map_or (λ b. look.implements s b n) (under m s.types) false
  implements_seen = ap (λ o. option_map_or (λ (b : TypeLooks). b.implements n) o false) (type_look s m) ∙ named (under m s.types)

  abbrev wanted : TypeLooks → Bool
  wanted a = (same_kind a.kind kind.Union && a.has_member m) || (same_kind a.kind kind.Interface && option_map_or (λ b. b.implements n) ((judged s).type_named m) false)

  abbrev found : SchemaType Place → Bool
  found a = (same_kind a.kind kind.Union && is_among m (map given_name a.members)) || (same_kind a.kind kind.Interface && option_map_or (λ b. look.implements s b n) (under m s.types) false)

  by : (o : Option (SchemaType Place)) → option_map_or wanted (option_map type_seen o) false ≡ option_map_or found o false
  by None = refl
  by (Some a) = λ i. (same_kind a.kind kind.Union && member_look a m i) || (same_kind a.kind kind.Interface && implements_seen i)

  pub subtype_seen : is_subtype (judged s) n m ≡ look.is_subtype s n m
  subtype_seen = ap (λ o. option_map_or wanted o false) (type_look s n) ∙ by (under n s.types)
