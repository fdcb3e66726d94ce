-- Private: leads to `Fragments.antt` of the rules' definitions. What is told of one fragment, given the used names.
use Rattle.std.specs.Prelude.{ℕ, List, [], ◌∷◌, bytes_eq, if◌then◌else◌}
use Rattle.std.specs.List.{list_any}
use Rattle.graphql_names.specs.Placed.{Place}
use Rattle.spec_document.specs.MeantTree.{MeantFragment}
use Rattle.rule_definitions.specs.Diagnostics.{UnusedFragment}
use Rattle.rule_definitions.specs.Faults.{wrong}
use Rattle.rule_definitions.specs.PlacedFaults.{PlacedFault}

abbrev pub unused_fragment : List (List ℕ) → MeantFragment Place → List PlacedFault
unused_fragment names f = if list_any (bytes_eq f.name.it) names then [] else wrong f.place (UnusedFragment f.name.it) ∷ []
