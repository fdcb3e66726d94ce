-- The walks of small documents, computed.
use Rattle.std.proofs.Common.{◌≡◌, ℕ, List, [], ◌∷◌, codes, true, false, None, refl, subst}
use Rattle.graphql_names.specs.Placed.{Placed, Text}
use Rattle.document_typed_selections.specs.in_type_members.TypeSystemTree.{FieldDefinitionTree}
use Rattle.document_typed_selections.specs.TypedTree.{TypedSelection, TypedField, TypedSpread, TypedSet, typed_set, TypedSelections, no_typed, typed_then}
use Rattle.document_typed_operations.specs.Reached.{Fragments, IsWalk}
use Rattle.document_typed_operations.specs.Left.{left_members, fields_among, at_start}
use Rattle.document_typed_operations.proofs.Whole.{whole, fields_walk}

abbrev U : Type 0
U = Unit {0}

abbrev Selections : Type 0
Selections = List (TypedSelection U)

abbrev text : List ℕ → Text U
text t = record { it = t; place = tt }

abbrev members : Selections → TypedSelections U
members [] = no_typed
members (s ∷ ss) = typed_then s (members ss)

abbrev set : Selections → TypedSet U
set ss = typed_set (text (codes "Query")) (members ss)

abbrev spread : List ℕ → TypedSelection U
spread name = TypedSpread tt (text name) []

-- whatever the fields' definitions are
module _ (d : Placed U (FieldDefinitionTree U)) where
  abbrev field : List ℕ → Selections → TypedSelection U
  field name ss = TypedField tt d (record { alias = None; name = text name; arguments = []; directives = [] }) (set ss)

  abbrev b : TypedSelection U
  b = field (codes "b") []

  abbrev a : TypedSelection U
  a = field (codes "a") (b ∷ [])

  abbrev leaf : TypedSelection U
  leaf = field (codes "a") []

  -- { a { b } ...F ...F } fragment F on Query { b a { b } }
  abbrev start : TypedSet U
  start = set (a ∷ spread (codes "F") ∷ spread (codes "F") ∷ [])

  abbrev fragments : Fragments U
  fragments = (codes "F", set (b ∷ a ∷ [])) ∷ []

  five : fields_among (left_members (at_start true fragments start)) ≡ a ∷ b ∷ b ∷ a ∷ b ∷ []
  five = refl

  three : fields_among (left_members (at_start false fragments start)) ≡ a ∷ b ∷ a ∷ []
  three = refl

  all_are_five : IsWalk true fragments start (a ∷ b ∷ b ∷ a ∷ b ∷ [])
  all_are_five = subst (IsWalk true fragments start) five (fields_walk true fragments start _ (whole true fragments start))

  roots_are_three : IsWalk false fragments start (a ∷ b ∷ a ∷ [])
  roots_are_three = subst (IsWalk false fragments start) three (fields_walk false fragments start _ (whole false fragments start))

  -- the same with the types of the sets, root selections alone
  six : left_members (at_start false fragments start) ≡ (text (codes "Query"), a) ∷ (text (codes "Query"), spread (codes "F")) ∷ (text (codes "Query"), spread (codes "F")) ∷ (text (codes "Query"), b) ∷ (text (codes "Query"), a) ∷ []
  six = refl

  -- { ...F } fragment F on Query { ...F a }
  abbrev cyclic_start : TypedSet U
  cyclic_start = set (spread (codes "F") ∷ [])

  abbrev cyclic : Fragments U
  cyclic = (codes "F", set (spread (codes "F") ∷ leaf ∷ [])) ∷ []

  cyclic_once : fields_among (left_members (at_start true cyclic cyclic_start)) ≡ leaf ∷ []
  cyclic_once = refl

  cyclic_is_one : IsWalk true cyclic cyclic_start (leaf ∷ [])
  cyclic_is_one = subst (IsWalk true cyclic cyclic_start) cyclic_once (fields_walk true cyclic cyclic_start _ (whole true cyclic cyclic_start))

  -- { ...G a } without a fragment G
  missing_passed : fields_among (left_members (at_start true [] (set (spread (codes "G") ∷ leaf ∷ [])))) ≡ leaf ∷ []
  missing_passed = refl
