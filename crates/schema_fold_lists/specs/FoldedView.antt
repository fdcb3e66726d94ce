-- Private: leads to `folded`. What contracts see of what a list folds to.
use Rattle.graphql_names.specs.Placed.{Place}
use Rattle.schema_fold.specs.in_schema_types.SchemaTree.{SchemaTree}
use Rattle.schema_fold.specs.in_schema_types.SchemaView.{schema_view}
use Rattle.schema_fold_lists.specs.declared.fold.Folded.{Folded}

abbrev pub folded_view : Folded → SchemaTree Place
folded_view f = schema_view f.schema_definition f.directive_definitions f.types
