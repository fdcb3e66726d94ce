-- Private: leads to `folded_directives`. What contracts see of directive definitions.
use Rattle.graphql_names.specs.NameValue.{NameValue}
use Rattle.graphql_names.specs.declared.node.Node.{Node}
use Rattle.graphql_names.specs.Placed.{node_tree}
use Rattle.tree_directives.specs.DirectiveTree.{directive_definition_tree}
use Rattle.tree_directives.specs.declared.directive.DirectiveDefinition.{DirectiveDefinition}
use Rattle.schema_components.specs.Names.{Entries, entries_of}
use Rattle.schema_fold.specs.in_schema_types.TypeView.{name_text}
use Rattle.schema_fold_roots.specs.DirectiveFold.{Directive}
use Rattle.indexmap.specs.IndexMap.{IndexMap}

abbrev pub directive_view : Node DirectiveDefinition → Directive
directive_view n = node_tree directive_definition_tree n

-- a map of definitions, in order
abbrev pub entries_view : {S : Type 0} → IndexMap NameValue (Node DirectiveDefinition) S → Entries Directive
entries_view m = entries_of name_text directive_view m
