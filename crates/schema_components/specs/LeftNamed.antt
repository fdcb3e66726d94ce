-- The directives of one name that an iterator has still to yield.
use Rattle.std.specs.Prelude.{List, filter}
use Rattle.tree_operations.specs.in_directives.declared.directive.Directive.{Directive}
use Rattle.schema_components.specs.Applied.{component_has_name}
use Rattle.schema_components.specs.declared.component.Component.{Component}
use Rattle.schema_components.specs.declared.directive_list.NamedComponents.{NamedComponents}

abbrev pub left_named : NamedComponents → List (Component Directive)
left_named s = filter (component_has_name s.name.now) s.rest.now
