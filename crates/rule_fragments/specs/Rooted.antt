-- Private: leads to `Subscriptions.antt` and `Defer.antt` of the rules' definitions.
-- What contracts see of borrowed selections, and of those at the root of an operation.
use Rattle.std.specs.Prelude.{◌≡◌, ◌↔◌, ◌<◌, Bool, false, Option, List, [], ◌∷◌, length, map, Contains}
use Rattle.std.specs.Option.{option_map_or}
use Rattle.graphql_names.specs.Node.{content}
use Rattle.graphql_names.specs.declared.node.Node.{Node}
use Rattle.graphql_names.specs.Placed.{Place}
use Rattle.document_typed_selections.specs.TypedTree.{typed_set_tree}
use Rattle.document_typed_operations.specs.declared.operation.Operation.{Operation}
use Rattle.document_typed_operations.specs.declared.operation.Fragment.{Fragment}
use Rattle.spec_document.specs.MeantTree.{MeantSelection, MeantSet, MeantOperation, MeantDocument, meant_of_set}
use Rattle.rule_document_definitions.specs.Selected.{Standing, StandingField}
use Rattle.rule_document_definitions.specs.Reached.{AtRoot}
use Rattle.rule_document_definitions.specs.RootFields.{AreRootFields}
use Rattle.rule_fragments.specs.Used.{AreUnderOwnNames}

-- the selections of an operation; those of a fragment
abbrev pub operation_set : Node Operation → MeantSet Place
operation_set n = meant_of_set (typed_set_tree (content n).selection_set)

abbrev pub fragment_set : Node Fragment → MeantSet Place
fragment_set n = meant_of_set (typed_set_tree (content n).selection_set)

-- `h` is true of the selections of the operation without a name, if there is one
abbrev pub alone_so : (MeantSet Place → Bool) → Option (Node Operation) → Bool
alone_so h o = option_map_or (λ n. h (operation_set n)) o false

-- what `h` gives for the selections of the operation without a name, if there is one
abbrev pub alone_told : {B : Type 0} → (MeantSet Place → List B) → Option (Node Operation) → List B
alone_told h o = option_map_or (λ n. h (operation_set n)) o []

-- the list has nothing twice
abbrev pub Apart : {X : Type 0} → List X → Type 0
Apart [] = Unit {0}
Apart (x ∷ xs) = (Contains xs x → ⊥) × Apart xs

-- the list has exactly the selections at the root of the operation, and each position once if each fragment is
-- under its own name
abbrev pub AreRoots : {P : Type 0} → MeantDocument P → MeantOperation P → List (MeantSelection P) → Type 0
AreRoots {P} d o ss = (xs : List (Standing P)) × ((map (λ x. x.it) xs ≡ ss)
    × (((x : Standing P) → Contains xs x ↔ AtRoot d o x) × (AreUnderOwnNames d → Apart (map (λ x. x.position) xs))))

-- the operation has more than one field at its root
abbrev pub HasSeveralFields : {P : Type 0} → MeantDocument P → MeantOperation P → Type 0
HasSeveralFields {P} d o = (fs : List (StandingField P)) × (AreRootFields d o fs × (1 < length fs))
