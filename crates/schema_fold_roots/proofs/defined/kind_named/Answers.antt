use Rattle.std.proofs.Common.{◌<◌, ◌+◌, ◌∷◌, List, Option, map, drop, length, sym, ap, ◌∙◌, arith}
use Rattle.std.proofs.lemmas.List.{at_drop_more}
use Rattle.schema_fold.specs.in_definitions.DefinitionTree.{definition_tree}
use Rattle.schema_fold.specs.in_schema_types.declared.type_kind.TypeKind.{TypeKind}
use Rattle.schema_fold.specs.NumberedDefinition.{definitions_of}
use Rattle.schema_fold.specs.ListedView.{listed_view}
use Rattle.schema_fold.specs.declared.numbered_definition.NumberedDefinition.{NumberedDefinition}
use Rattle.schema_fold_roots.specs.KindNamed.{kind_named}
use Rattle.schema_fold_roots.proofs.Listing.{kind_some}
use Rattle.schema_fold_roots.proofs.defined.kind_named.Goals as goal

pub returns-in-Some : goal.returns-in-Some
returns-in-Some c =
    let xs = c.args.list.now in
    let i = c.loop-listed.listed-index in
    let x = c.listed-item.result in
    let h : i < length xs = omega arith in
    let of : List NumberedDefinition → Option TypeKind = λ ls. kind_named c.args.name.now (definitions_of (map listed_view ls)) in
    sym (kind_some c.args.name.now (definitions_of (map listed_view (drop (i + 1) xs))) (definition_tree x.definition) c.in-Some.kind (sym c.in-Some.ensures))
    ∙ ap (λ y. of (y ∷ drop (i + 1) xs)) c.listed-item.is ∙ sym (at_drop_more of xs i x h) ∙ c.loop-listed.invariant
