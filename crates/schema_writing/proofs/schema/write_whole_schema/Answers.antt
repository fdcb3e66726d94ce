use Rattle.std.proofs.Common.{map, ap, ◌∙◌}
use Rattle.std.proofs.lemmas.Result.{IfOk-weaker}
use Rattle.tree_directives.specs.DirectiveTree.{directive_tree}
use Rattle.tree_definitions.specs.DefinitionTree.{definition_tree}
use Rattle.schema_types.specs.Out.{given_by}
use Rattle.schema_types.specs.TypeView.{schema_roots}
use Rattle.schema_writing.specs.Filed.{filed_under, given_contents}
use Rattle.graphql_names.specs.Placed.{node_tree}
use Rattle.schema_writing.proofs.Growing.{filed_grown}
use Rattle.schema_writing.proofs.Written.{schema_written}
use Rattle.schema_writing.proofs.schema.write_whole_schema.Goals as goal

pub returns : goal.returns
returns c =
    let filed = c.file_components.new.filed.entries in
    let lists = c.deref.ensures.value ∙ ap (λ s. s.directives.0.items) c.content.ensures in
    let old = map definition_tree c.args.out.now.items in
    let mid = map definition_tree c.write_definition.new.out.items in
    let new = map definition_tree c.write_schema_extensions.new.out.items in
    IfOk-weaker _ _ _ (λ _ h. schema_written (schema_roots c.args.definition.now) (λ giver. map (node_tree directive_tree) (filed_under giver filed)) c.args.extensions.now old mid new
    (λ giver. filed_grown directive_tree giver (filed_under giver filed) _ (c.in_ok-file_components.ensures giver ∙ ap (λ cs. given_by giver (given_contents cs)) lists)) c.in_ok-write_definition.ensures h) c.write_schema_extensions.ensures
