use Rattle.std.proofs.Common.{map, refl, ◌∙◌}
use Rattle.std.proofs.lemmas.Result.{IfOk-weaker}
use Rattle.tree_definitions.specs.DefinitionTree.{definition_tree}
use Rattle.schema_writing.specs.Contents.{type_contents}
use Rattle.schema_writing.specs.ContentsView.{filed_parts}
use Rattle.schema_writing.proofs.Written.{type_written}
use Rattle.schema_writing.proofs.Whole.{whole_written}
use Rattle.schema_writing.proofs.types.write_filed.Goals as goal

pub returns-then-is_empty : goal.returns-then-is_empty
returns-then-is_empty c =
    let old = map definition_tree c.args.out.now.items in
    let new = map definition_tree c.write_whole.new.out.items in
    IfOk-weaker _ _ _ (λ _ h. whole_written c.args.t.now c.in_ok-extensions.extensions.keys old new c.in_ok-extensions.ensures (c.is_empty.ensures.0 c.if-is_empty.true) h) c.write_whole.ensures

pub returns : goal.returns
returns c =
    let t = c.args.t.now in
    let filed = c.file.new.self in
    let old = map definition_tree c.args.out.now.items in
    let mid = map definition_tree c.write_definition.new.out.items in
    let new = map definition_tree c.write_extensions.new.out.items in
    let ids = c.as_slice.result.now in
    let are = c.as_slice.ensures.keys ∙ c.in_ok-extensions.ensures in
    IfOk-weaker _ _ _ (λ _ h. type_written t (type_contents t) (λ giver. filed_parts giver filed) ids old mid new refl c.in_ok-file.ensures are c.in_ok-write_definition.ensures h) c.write_extensions.ensures
