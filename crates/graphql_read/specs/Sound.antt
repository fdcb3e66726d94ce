-- What is true of every tree that is read (GraphQL, October 2021, appendix B).
use Rattle.std.specs.Prelude.{◌≡◌, ◌≢◌, ℕ, Bool, true, not, List}
use Rattle.std.specs.List.{list_all}
use Rattle.graphql_names.specs.Places.{is_built_in}
use Rattle.graphql_names.specs.Placed.{Place}
use Rattle.tree_literals.specs.TypeTree.{TypeTree}
use Rattle.tree_operations.specs.SelectionTree.{SelectionTrees}
use Rattle.read_types.specs.in_values.Writable.{type_writable, has_selection, selections_writable}
use Rattle.read_types.specs.in_definitions.DefinitionTree.{DefinitionTree, Schema}
use Rattle.read_types.specs.in_definitions.Writable.{has_some, document_writable}
use Rattle.graphql_read.specs.EachPlace.{all_in_type, all_in_selections, all_in_document}

-- if the definition is a schema definition, it names a root operation type (section 3.3)
abbrev pub names_root : {P : Type 0} → DefinitionTree P → Bool
names_root (Schema place description parts) = has_some parts.roots
names_root _ = true

abbrev pub is_own : Place → Bool
is_own p = not (is_built_in p)

-- The document can be written, and each of its schema definitions names a root operation type. If the file that it was
-- read from is not that of the built-in definitions (file 0), no place in it is built in, at any depth.
pub record IsSound (file : ℕ) (tree : List (DefinitionTree Place)) : Type 0 where
  pub writable : document_writable tree ≡ true
  pub rooted : list_all names_root tree ≡ true
  pub own : file ≢ 0 → all_in_document is_own tree ≡ true

-- The type can be written. If it was read from a file other than file 0, no place in it is built in.
pub record IsSoundType (file : ℕ) (tree : TypeTree Place) : Type 0 where
  pub writable : type_writable tree ≡ true
  pub own : file ≢ 0 → all_in_type is_own tree ≡ true

-- There is a selection, and all can be written. If they were read from a file other than file 0, no place in them is
-- built in.
pub record AreSound (file : ℕ) (trees : SelectionTrees Place) : Type 0 where
  pub some : has_selection trees ≡ true
  pub writable : selections_writable trees ≡ true
  pub own : file ≢ 0 → all_in_selections is_own trees ≡ true
