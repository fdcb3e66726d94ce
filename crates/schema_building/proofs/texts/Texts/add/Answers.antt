use Rattle.std.proofs.Common.{map, sym, subst, ◌∙◌}
use Rattle.std.proofs.lemmas.List.{length-map}
use Rattle.schema_built_in.specs.in_fold.ListedView.{listed_view}
use Rattle.schema_fold_index.specs.Index.{IsIndexOf}
use Rattle.schema_building.specs.KeptView.{definitions}
use Rattle.schema_building.proofs.texts.Texts.add.Goals as goal

pub returns-clause-filed : goal.returns-clause-filed
returns-clause-filed c = λ filed.
    let old = c.args.self.now in
    let many = length-map (map listed_view old.list.items) (λ l. l.definition) ∙ length-map old.list.items listed_view ∙ sym old.list.ok.0 ∙ sym c.len-position.ensures in
    subst (λ ds. IsIndexOf ds c.file.new.self) (sym c.in_ok-push.ensures.following)
    (c.in_ok-file.ensures (definitions old) many (subst (λ i. IsIndexOf (definitions old) i) (sym c.push.ensures.index) filed))
