-- Operations, fragments and documents without places, and without the order of named operations and of fragments.
use Rattle.std.specs.Prelude.{map, Option}
use Rattle.std.specs.Option.{option_map}
use Rattle.graphql_names.specs.Placed.{Placed, unplaced_text, unplaced_node}
use Rattle.tree_directives.specs.DirectiveTree.{unplaced_directives}
use Rattle.tree_operations.specs.OperationTree.{unplaced_variable_definition}
use Rattle.schema_types.specs.in_components.Names.{NamedMap, named}
use Rattle.document_typed_selections.specs.TypedTree.{unplaced_typed_set}
use Rattle.document_typed_operations.specs.TypedDocument.{TypedOperation, TypedFragment, TypedOperations, TypedDocumentTree}

pub record PlainOperations : Type 0 where
  pub anonymous : Option (TypedOperation (Unit {0}))
  pub named : NamedMap (TypedOperation (Unit {0}))

pub record PlainDocument : Type 0 where
  pub operations : PlainOperations
  pub fragments : NamedMap (TypedFragment (Unit {0}))

module _ {P : Type 0} where
  abbrev pub unplaced_typed_operation : TypedOperation P → TypedOperation (Unit {0})
  unplaced_typed_operation o = record {
    operation_type = o.operation_type;
    name = option_map unplaced_text o.name;
    variables = map (unplaced_node unplaced_variable_definition) o.variables;
    directives = unplaced_directives o.directives;
    set = unplaced_typed_set o.set;
  }

  abbrev pub unplaced_typed_fragment : TypedFragment P → TypedFragment (Unit {0})
  unplaced_typed_fragment f = record {
    name = unplaced_text f.name;
    directives = unplaced_directives f.directives;
    set = unplaced_typed_set f.set;
  }

  -- the same for an operation and a fragment with a place
  abbrev pub plain_operation : Placed P (TypedOperation P) → TypedOperation (Unit {0})
  plain_operation o = unplaced_typed_operation o.it

  abbrev pub plain_fragment : Placed P (TypedFragment P) → TypedFragment (Unit {0})
  plain_fragment f = unplaced_typed_fragment f.it

  abbrev pub plain_operations : TypedOperations P → PlainOperations
  plain_operations t = record { anonymous = option_map plain_operation t.anonymous; named = named plain_operation t.named }

  -- two documents are equal when `plain_document` of both is the same
  abbrev pub plain_document : TypedDocumentTree P → PlainDocument
  plain_document d = record {
    operations = record { anonymous = option_map plain_operation d.anonymous; named = named plain_operation d.named };
    fragments = named plain_fragment d.fragments;
  }
