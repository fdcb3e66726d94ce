use Rattle.std.proofs.lemmas.Result.{on_ok_weaker}
use Rattle.rule_merging.specs.Examined.{schema_of, document_of}
use Rattle.rule_merging.proofs.Joining.{together_examined}
use Rattle.rule_merging.proofs.examination.Examination.examine_together.Goals as goal

pub returns-clause-examined : goal.returns-clause-examined
returns-clause-examined c =
    let e = c.args.self.now in
    let told = c.in_ok-compare.ensures.told in
    on_ok_weaker c.push_below.result
    (λ h. (
      told.0,
      (
        h.0,
        (
          told.1.0,
          (
            h.1.0,
            together_examined e.pass (schema_of e) (document_of e) c.args.fields.now told.0 h.0 c.requires.together told.1.1 h.1.1,
          ),
        ),
      ),
    ))
    c.push_below.ensures
