-- The names by which rules find and compare things.
use Rattle.std.specs.Prelude.{ℕ, Bool, false, List, [], ◌∷◌, ◌==◌, ◌&&◌, codes}
use Rattle.graphql_names.specs.Placed.{Placed}
use Rattle.tree_literals.specs.TypeTree.{TypeTree}
use Rattle.tree_literals.specs.TypeQueries.{inner_name}
use Rattle.tree_directives.specs.DirectiveTree.{ArgumentTree, DirectiveTree, InputValueTree}
use Rattle.schema_types.specs.in_operations.OperationTree.{VariableDefinitionTree}

-- the name begins with `__` (section 2.1.9)
abbrev pub is_reserved : List ℕ → Bool
is_reserved (a ∷ b ∷ rest) = (a == 95) && (b == 95)
is_reserved _ = false

-- the names of the five built-in scalars (section 3.5)
abbrev pub scalar_names : List (List ℕ)
scalar_names = codes "Int" ∷ codes "Float" ∷ codes "String" ∷ codes "Boolean" ∷ codes "ID" ∷ []

-- the inner name of a reference to a type
abbrev pub named_in : TypeTree (Unit {0}) → List ℕ
named_in ty = (inner_name ty).it

module _ {P : Type 0} where
  -- the name of a given argument; below, of an argument definition or input field, of an applied directive, of a variable
  abbrev pub argument_name : Placed P (ArgumentTree P) → List ℕ
  argument_name a = a.it.name.it

  abbrev pub input_name : Placed P (InputValueTree P) → List ℕ
  input_name v = v.it.name.it

  abbrev pub directive_name : Placed P (DirectiveTree P) → List ℕ
  directive_name d = d.it.name.it

  abbrev pub defined_name : Placed P (VariableDefinitionTree P) → List ℕ
  defined_name v = v.it.name.it
