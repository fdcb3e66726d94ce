-- Private: leads to `value_writable`, `directive_writable` and `selection_writable`, which it re-exports from three crates. What the grammar requires of a tree apart from its form.
pub use Rattle.tree_directives.specs.in_literals.ValueWritable.{is_text, type_writable, can_be_enum, value_writable, items_writable, entries_writable, default_writable}
pub use Rattle.tree_directives.specs.DirectiveWritable.{argument_writable, arguments_writable, directive_writable, directives_writable, is_none_of, directive_list_writable, input_value_writable, input_values_writable, directive_definition_writable}
pub use Rattle.tree_operations.specs.OperationWritable.{can_be_fragment, head_writable, has_selection, selection_writable, selections_writable, variable_writable, variables_writable, operation_writable, fragment_writable}
