use Rattle.std.proofs.Common.{Contains, sym, subst}
use Rattle.std.proofs.lemmas.Result.{on_ok_weaker}
use Rattle.rule_field_groups.specs.Below.{IsMergedIn}
use Rattle.rule_field_groups.specs.Members.{meant_sets, AreMembersOf}
use Rattle.rule_field_groups.specs.MergeState.{account_of, kept_of}
use Rattle.rule_merging.specs.Examined.{schema_of, document_of, sets_of}
use Rattle.rule_merging.specs.Twos.{are_of, FieldsPaired}
use Rattle.rule_merging.proofs.Counting.{grows_given}
use Rattle.rule_merging.proofs.TwoByTwo.{two_listed, sets_paired}
use Rattle.rule_merging.proofs.examination.Examination.examine_unpaid.Goals as goal

pub examine_each-requires-clause-ones : goal.examine_each-requires-clause-ones
examine_each-requires-clause-ones c = subst (AreMembersOf (sets_of c.args.self.now)) (sym c.deref.ensures.value) c.requires.members

pub examine_each-requires-clause-others : goal.examine_each-requires-clause-others
examine_each-requires-clause-others c = subst (AreMembersOf (sets_of c.args.self.now)) (sym c.deref-2.ensures.value) c.requires.members

pub returns-clause-examined : goal.returns-clause-examined
returns-clause-examined c =
    let e = c.args.self.now in
    let s = schema_of e in
    let d = document_of e in
    let w = sets_of e in
    let sets = meant_sets w c.args.nodes.now in
    let items = c.args.list.now.members.items in
    let ones = c.deref.result.now in
    let others = c.deref-2.result.now in
    let old = kept_of w c.args.examined.now in
    let new = kept_of w c.examine_each.new.examined in
    let merged : IsMergedIn d sets items = c.requires.whole (c.has_few.ensures c.if-not-has_few.false) in
    on_ok_weaker c.examine_each.result
    (λ h. (
      h.0,
      (
        h.1.0,
        (
          h.1.1.0,
          (
            h.1.1.1.0,
            sets_paired e.pass s d sets items merged old new h.0 h.1.0
                (subst (λ l. FieldsPaired e.pass s d (are_of l items) old new h.0 h.1.0) c.deref.ensures.value
                (subst (λ l. FieldsPaired e.pass s d (are_of ones l) old new h.0 h.1.0) c.deref-2.ensures.value h.1.1.1.1)),
          ),
        ),
      ),
    ))
    c.examine_each.ensures.examined

pub returns-clause-counted : goal.returns-clause-counted
returns-clause-counted c =
    let e = c.args.self.now in
    let d = document_of e in
    let w = sets_of e in
    let sets = meant_sets w c.args.nodes.now in
    let items = c.args.list.now.members.items in
    let merged : IsMergedIn d sets items = c.requires.whole (c.has_few.ensures c.if-not-has_few.false) in
    grows_given d _ _
    (λ os listed p q k. two_listed e.pass (schema_of e) d sets items merged os listed p q (subst (λ l. Contains l p) c.deref.ensures.value k.0, subst (λ l. Contains l q) c.deref-2.ensures.value k.1))
    e.pass (account_of w c.args.examined.now) (account_of w c.examine_each.new.examined) c.examine_each.ensures.counted
