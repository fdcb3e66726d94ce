use Rattle.std.proofs.Common.{◌++◌, map, ap, ◌∙◌}
use Rattle.std.specs.List.{flat_map}
use Rattle.tree_definitions.specs.DefinitionTree.{definition_tree}
use Rattle.schema_types.specs.SchemaView.{schema_view}
use Rattle.schema_types.specs.Out.{written_schema}
use Rattle.schema_writing.specs.Contents.{type_contents, written_contents}
use Rattle.schema_writing.specs.SchemaParts.{written_node}
use Rattle.schema_writing.proofs.Written.{directives_written, types_written}
use Rattle.schema_writing.proofs.write.written_definitions.Goals as goal

pub returns : goal.returns
returns c =
    let s = schema_view c.args.definition.now c.args.directives.now c.args.types.now in
    let start = ap (map definition_tree) c.new-out.ensures.items in
    let one = c.in_ok-write_schema.ensures ∙ ap (λ l. l ++ written_schema s) start in
    let two = c.in_ok-write_directives.ensures ∙ (λ i. one i ++ (ap (flat_map written_node) (c.as_slice.ensures ∙ c.values.ensures.rest) ∙ directives_written c.args.directives.now.entries) i) in
    c.in_ok-write_types.ensures
    ∙ (λ i. two i ++ (ap (flat_map (λ t. written_contents (type_contents t))) (c.as_slice-2.ensures ∙ c.values-2.ensures.rest) ∙ types_written c.args.types.now.entries) i)
