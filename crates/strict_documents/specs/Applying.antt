-- Fragments that no object of their set's type can be of, beyond what the checker refuses (GraphQL, October 2021, sections 5.2.3.1, 5.5.2.3 and 6.3.2).
use Rattle.std.specs.Prelude.{ℕ, Bool, false, List, [], ◌&&◌, ◌||◌, not, bytes_eq, Option, None}
use Rattle.std.specs.List.{list_any}
use Rattle.std.specs.Option.{option_map, option_map_or}
use Rattle.graphql_names.specs.Placed.{Place}
use Rattle.schema_components.specs.Names.{Entries}
use Rattle.schema_types.specs.SchemaTree.{SchemaTree, SchemaType, same_kind}
use Rattle.schema_types.specs.Addresses.{type_at, under}
use Rattle.schema_types.specs.declared.type_kind.TypeKind.TheVariants as type
use Rattle.graphql_schema.specs.LookUps.{is_subtype, implements}
use Rattle.spec_document.specs.MeantTree.{MeantSelection, MeantField, MeantSpread, MeantInline, MeantFragment}
use Rattle.rule_document_definitions.specs.Selected.{selection_place}
use Rattle.strict_documents.specs.Departure.{Departure}
use Rattle.strict_documents.specs.Departing.{departure_if}
use Rattle.strict_documents.specs.declared.departure.DepartureKind.TheVariants as kind

-- the type that a fragment is on: of one that is spread, or of an inline fragment with a condition
abbrev pub condition_of : {P : Type 0} → Entries (MeantFragment P) → MeantSelection P → Option (List ℕ)
condition_of fragments (MeantField p d h v) = None
condition_of fragments (MeantSpread p n ds) = option_map (λ f. f.type_condition.it) (under n.it fragments)
condition_of fragments (MeantInline p c ds v) = option_map (λ n. n.it) c

module _ (t : SchemaTree Place) where
  -- some object implements the interface
  abbrev pub is_implemented : List ℕ → Bool
  is_implemented n = list_any (λ e. same_kind e.1.kind type.Object && implements t e.1 n) t.types

  -- GetPossibleTypes(type) is empty: an interface that no object implements; an object is of its own type, and a union has members (section 3.8)
  abbrev pub is_without_object : List ℕ → Bool
  is_without_object n = option_map_or (λ (ty : SchemaType Place). same_kind ty.kind type.Interface) (type_at t n) false && not (is_implemented n)

  -- DoesFragmentTypeApply(objectType, fragmentType): they are the same, or the object implements the interface or is a member of the union
  abbrev pub does_fragment_type_apply : List ℕ → List ℕ → Bool
  does_fragment_type_apply object fragment = bytes_eq object fragment || is_subtype t fragment object

  module _ (fragments : Entries (MeantFragment Place)) where
    -- SpreadWithoutObject: a fragment on the type of its own set, of which no object is
    abbrev pub spread_departures : List ℕ → MeantSelection Place → List (Departure Place)
    spread_departures parent x = option_map_or (λ c. departure_if (bytes_eq c parent && is_without_object c) (selection_place x) kind.SpreadWithoutObject c) (condition_of fragments x) []

    -- SubscriptionOfNothing: a fragment that CollectFields(objectType, selectionSet) passes over, since its type does not apply to the object
    abbrev pub root_departures : List ℕ → MeantSelection Place → List (Departure Place)
    root_departures object x = option_map_or (λ c. departure_if (not (does_fragment_type_apply object c)) (selection_place x) kind.SubscriptionOfNothing c) (condition_of fragments x) []
