-- Private: leads to `InvalidFragmentSpreadAt` of the rules' definitions. Fragments that selections apply, and what the check tells of them.
use Rattle.std.specs.Prelude.{ℕ, Bool, true, List, [], ◌∷◌, Option, None, Some, bytes_eq, if◌then◌else◌}
use Rattle.std.specs.List.{list_all}
use Rattle.std.specs.Option.{option_map, option_map_or}
use Rattle.graphql_names.specs.Placed.{Place}
use Rattle.schema_components.specs.Names.{Entries}
use Rattle.schema_types.specs.SchemaTree.{SchemaTree}
use Rattle.schema_types.specs.Addresses.{TypeAt, under, place_at}
use Rattle.spec_document.specs.MeantTree.{MeantSelection, MeantField, MeantSpread, MeantInline, MeantFragment}
use Rattle.rule_definitions.specs.Diagnostics.{InvalidFragmentSpread}
use Rattle.rule_definitions.specs.Faults.{wrong}
use Rattle.rule_definitions.specs.PlacedFaults.{PlacedFault}
use Rattle.rule_reach.specs.Reach.{Member}
use Rattle.rule_fragments.specs.Held.{may_apply}
use Rattle.rule_fragments.specs.Possible.{ObjectsOfTypes}
use Rattle.rule_fragments.specs.declared.applications.Application.{Application}

-- a fragment that a selection applies: its name, if it has one, its condition, where it is applied and where it is defined
pub record ApplicationTree : Type 0 where
  pub name : Option (List ℕ)
  pub condition : List ℕ
  pub place : Place
  pub fragment_place : Place

abbrev pub application_tree : Application → ApplicationTree
application_tree a = record { name = option_map (λ n. n.now.text) a.name; condition = a.condition.now.text; place = a.location; fragment_place = a.fragment_location }

-- the fragment that a selection applies: one of these, if it spreads one; or the selection itself, if it is an inline fragment with a condition
abbrev pub application_in : Entries (MeantFragment Place) → MeantSelection Place → Option ApplicationTree
application_in fragments (MeantField p d h s) = None
application_in fragments (MeantSpread p n ds) = option_map (λ f. record { name = Some n.it; condition = f.type_condition.it; place = p; fragment_place = f.place }) (under n.it fragments)
application_in fragments (MeantInline p c ds s) = option_map (λ n. record { name = None; condition = n.it; place = p; fragment_place = p }) c

-- the selection, with the name of the type of its set before it, applies no fragment, or one on that very type
abbrev pub is_on_its_type : Entries (MeantFragment Place) → Member Place → Bool
is_on_its_type fragments e = option_map_or (λ a. bytes_eq a.condition e.0) (application_in fragments e.1) true

abbrev pub all_are_on_their_types : Entries (MeantFragment Place) → List (Member Place) → Bool
all_are_on_their_types fragments = list_all (is_on_its_type fragments)

module _ (s : SchemaTree Place) where
  -- the fault of a fragment that cannot apply in a set on the type `parent`
  abbrev pub spread_told : List ℕ → ApplicationTree → PlacedFault
  spread_told parent a = wrong a.place (InvalidFragmentSpread a.name parent a.condition a.fragment_place (place_at s (TypeAt parent)))

  module _ (possible : ObjectsOfTypes) where
    abbrev pub application_fault : List ℕ → ApplicationTree → List PlacedFault
    application_fault parent a = if may_apply possible parent a.condition then [] else spread_told parent a ∷ []

    -- InvalidFragmentSpread: what is told of a selection after the name of the type of its set
    abbrev pub invalid_fragment_spread : Entries (MeantFragment Place) → Member Place → List PlacedFault
    invalid_fragment_spread fragments e = option_map_or (application_fault e.0) (application_in fragments e.1) []
