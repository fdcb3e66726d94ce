-- The words of the book. Its documents have no places: each place is the unit value.
use Rattle.std.specs.Prelude.{◌≡◌, ℕ, true, List, Contains, slice_get, find, bytes_eq, is_some, Option, Some}
use Rattle.tree_directives.specs.DirectiveTree.{Arguments, Directives}
use Rattle.spec_document.specs.MeantTree.{MeantOperation, MeantFragment, MeantDocument}
use Rattle.rule_definitions.specs.GivenValues.{Variables}
use Rattle.rule_document_definitions.specs.Selected.{Standing, StandingField}

abbrev pub Document : Type 0
Document = MeantDocument (Unit {0})

abbrev pub Operation : Type 0
Operation = MeantOperation (Unit {0})

abbrev pub Fragment : Type 0
Fragment = MeantFragment (Unit {0})

-- a selection at its position; a field at its position, with its definition
abbrev pub Selection : Type 0
Selection = Standing (Unit {0})

abbrev pub Field : Type 0
Field = StandingField (Unit {0})

-- the variables that an operation defines; the arguments that are given; the directives that are applied
abbrev pub OperationVariables : Type 0
OperationVariables = Variables (Unit {0})

abbrev pub Given : Type 0
Given = Arguments (Unit {0})

abbrev pub Applied : Type 0
Applied = Directives (Unit {0})

-- it does not hold
abbrev pub Never : Type 0 → Type 0
Never A = A → ⊥

-- `Q` holds of each of these
abbrev pub Each : {X : Type 0} → List X → (X → Type 0) → Type 0
Each {X} xs Q = (x : X) → Contains xs x → Q x

-- there is one
abbrev pub IsThere : {X : Type 0} → Option X → Type 0
IsThere o = is_some o ≡ true

module _ {X : Type 0} (name : X → List ℕ) (xs : List X) where
  -- no two of these have one name
  abbrev pub AreUnique : Type 0
  AreUnique = (i j : ℕ) (x y : X) → slice_get xs i ≡ Some x → slice_get xs j ≡ Some y → name x ≡ name y → i ≡ j

  -- the one of these that has the name: the first, if there are several
  abbrev pub named : List ℕ → Option X
  named n = find (λ x. bytes_eq (name x) n) xs
