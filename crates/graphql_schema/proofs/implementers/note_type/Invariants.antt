use Rattle.std.proofs.Common.{◌≡◌, map, take}
use Rattle.std.specs.Prelude.{fold}
use Rattle.graphql_names.specs.NameValue.{NameValue}
use Rattle.schema_components.specs.Given.{component_name_tree}
use Rattle.graphql_schema.specs.Noting.{and_naming, naming}
use Rattle.graphql_schema.specs.ImplementersView.{implementers_at}
use Rattle.graphql_schema.proofs.implementers.note_type.Given as goal

abbrev pub invariant-loop-interface : goal.invariant-loop-interface
invariant-loop-interface l = (i : NameValue) → implementers_at l.noted i ≡ fold (and_naming i.text) (implementers_at l.fn.noted i) (map (naming l.is_object l.name.text) (map component_name_tree (take l.interface-index l.interfaces)))
