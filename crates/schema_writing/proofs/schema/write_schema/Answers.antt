use Rattle.std.proofs.Common.{map, refl, sym, ap, ◌∙◌}
use Rattle.std.proofs.lemmas.Result.{IfOk-weaker}
use Rattle.tree_definitions.specs.DefinitionTree.{definition_tree}
use Rattle.schema_types.specs.Origins.{schema_origins, extensions_in}
use Rattle.schema_writing.specs.SchemaParts.{schema_and_types}
use Rattle.schema_writing.proofs.Written.{nothing_written, all_written}
use Rattle.schema_writing.proofs.schema.write_schema.Goals as goal

pub is_left_out-requires : goal.is_left_out-requires
is_left_out-requires c = c.as_slice.ensures.keys ∙ c.in_ok-extensions.ensures ∙ ap (λ s. extensions_in (schema_origins s)) c.content.ensures

pub returns-then-is_left_out : goal.returns-then-is_left_out
returns-then-is_left_out c = nothing_written (schema_and_types c.args.definition.now c.args.types.now) (map definition_tree c.args.out.now.items) (sym c.is_left_out.ensures ∙ c.if-is_left_out.true)

pub returns : goal.returns
returns c =
    let n = c.args.definition.now in
    let are = c.as_slice-2.ensures.keys ∙ c.in_ok-extensions.ensures ∙ ap (λ s. extensions_in (schema_origins s)) c.content.ensures in
    IfOk-weaker _ _ _ (λ _ h. all_written n (schema_and_types n c.args.types.now) c.as_slice-2.result.now (map definition_tree c.args.out.now.items) (map definition_tree c.write_whole_schema.new.out.items) refl are
    (sym c.is_left_out.ensures ∙ c.if-is_left_out.false) h) c.write_whole_schema.ensures
