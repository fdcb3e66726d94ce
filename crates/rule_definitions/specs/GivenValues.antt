-- What is given and what is expected: the entries of an object, the variables of an operation, the expected type of a value.
use Rattle.std.specs.Prelude.{ℕ, Bool, true, List, [], ◌∷◌, Contains, find, bytes_eq, Option, option_map, ◌⊎◌}
use Rattle.std.specs.Option.{option_map_or}
use Rattle.graphql_names.specs.Placed.{Placed, Text}
use Rattle.tree_literals.specs.TypeTree.{TypeTree}
use Rattle.tree_literals.specs.TypeQueries.{inner_name}
use Rattle.tree_literals.specs.ValueTree.{ValueTree, EntryTrees, no_entries, entry_then}
use Rattle.tree_literals.specs.ValueQueries.{is_null_value}
use Rattle.schema_types.specs.in_operations.OperationTree.{VariableDefinitionTree}
use Rattle.schema_types.specs.Looks.{TypeLooks}
use Rattle.rule_definitions.specs.Judged.{Judged, IsBuiltInScalar, IsCustomScalar}

-- an expected type: a reference to a type, and a P for its place
abbrev pub Wanted : Type 0 → Type 0
Wanted P = Placed P (TypeTree (Unit {0}))

abbrev pub wanted_name : {P : Type 0} → Wanted P → List ℕ
wanted_name ty = (inner_name ty.it).it

-- the variables of an operation, in order
abbrev pub Variables : Type 0 → Type 0
Variables P = List (Placed P (VariableDefinitionTree P))

-- the keys and values of an object, in order
abbrev pub entry_list : {P : Type 0} → EntryTrees P → List (Text P × Placed P (ValueTree P))
entry_list no_entries = []
entry_list (entry_then n p v ts) = (n, record { it = v; place = p }) ∷ entry_list ts

-- the value under a key: that of the first entry with the key
abbrev pub entry_named : {P : Type 0} → List ℕ → EntryTrees P → Option (Placed P (ValueTree P))
entry_named n es = option_map (λ e. e.1) (find (λ e. bytes_eq e.0.it n) (entry_list es))

-- there is no value, or it is the literal null
abbrev pub is_absent_or_null : {P : Type 0} → Option (Placed P (ValueTree P)) → Bool
is_absent_or_null v = option_map_or (λ x. is_null_value x.it) v true

-- a custom scalar, or a built-in one of these names
abbrev pub IsScalarAmong : Judged → List (List ℕ) → List ℕ → TypeLooks → Type 0
IsScalarAmong s names n t = IsCustomScalar s n t ⊎ (IsBuiltInScalar s n t × Contains names n)
