use Rattle.std.proofs.Common.{◌<◌, ◌≤◌, map, take, length, sym, subst, ◌∙◌, arith}
use Rattle.std.proofs.lemmas.List.{length-map, length-take-le}
use Rattle.schema_fold.specs.NumberedDefinition.{definitions_of}
use Rattle.schema_fold.specs.ListedView.{listed_view}
use Rattle.schema_fold_index.specs.Index.{IsIndexOf}
use Rattle.schema_fold_index.proofs.Listing.{taken_more}
use Rattle.schema_fold_index.proofs.index.Index.file_rest.Goals as goal

pub loop-position-preserved : goal.loop-position-preserved
loop-position-preserved c = λ was.
    let xs = c.args.list.now in
    let i = c.loop-position.position in
    let ds = definitions_of (map listed_view xs) in
    let h : i < length xs = omega arith in
    let many = length-map (map listed_view xs) (λ l. l.definition) ∙ length-map xs listed_view in
    let within : i ≤ length ds = omega (arith, many, h) in
    subst (λ l. IsIndexOf l c.file.new.self) (sym (taken_more xs i c.index-list-position.result h))
    (c.in_ok-file.ensures (take i ds) (length-take-le i ds within) (c.loop-position.invariant was))
