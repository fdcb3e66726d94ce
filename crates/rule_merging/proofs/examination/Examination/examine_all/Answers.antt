use Rattle.std.proofs.Common.{◌≡◌, ◌≤◌, Contains, [], ◌∷◌, length, map, sym, ap, subst, append-nil, arith}
use Rattle.std.proofs.lemmas.Result.{IfOk-weaker}
use Rattle.list_interner.specs.NumberRows.{rows_of}
use Rattle.rule_field_groups.proofs.in_definitions.Lists.{not_in_nil}
use Rattle.rule_field_groups.specs.in_document_definitions.Limits.{chain_bound}
use Rattle.rule_field_groups.specs.in_sets.in_reach.Broken.{brokens_of}
use Rattle.rule_field_groups.specs.MergeState.{account_of, kept_of}
use Rattle.rule_merging.specs.Counted.{AreListed}
use Rattle.rule_merging.specs.Examined.{ExaminesSets, schema_of, document_of, sets_of}
use Rattle.rule_field_groups.specs.Under.{Sets, all_sets, sets_in}
use Rattle.rule_field_groups.specs.Members.{meant_sets}
use Rattle.rule_field_groups.specs.in_sets.Read.{set_at}
use Rattle.rule_merging.proofs.Examining.{no_items, SoFar, first_level, level_step, no_more_levels}
use Rattle.rule_merging.proofs.Counting.{grows_not, grows_with, listed_next}
use Rattle.rule_merging.proofs.examination.Examination.examine_all.Goals as goal
use Rattle.rule_merging.proofs.examination.Examination.examine_all.Goals.{then-loop-length-test+else-len-ne0, else-loop-length-test}

pub returns-in_err-level-clause-counted : goal.returns-in_err-level-clause-counted
returns-in_err-level-clause-counted c =
    let e = c.args.self.now in
    grows_not (document_of e) (λ os. AreListed (document_of e) os ((set_at (sets_of e) c.args.start ∷ []) ∷ [])) e.pass (account_of (sets_of e) c.args.examined.now)

pub loop-length-init : goal.loop-length-init
loop-length-init c =
    let e = c.args.self.now in
    let old = kept_of (sets_of e) c.args.examined.now in
    let first = ap (map (meant_sets (sets_of e))) c.in_ok-level.ensures in
    record {
      examined = λ o is. (
        [],
        (
          sym (append-nil (brokens_of c.args.breaches.now)),
          subst (SoFar e.pass (schema_of e) (document_of e) o old old 0 []) (sym first) (first_level e.pass (schema_of e) (document_of e) o (set_at (sets_of e) c.args.start) old is),
        ),
      );
      listed = λ os listed. subst (AreListed (document_of e) os) (sym first) listed;
      counted = grows_not (document_of e) (λ os. AreListed (document_of e) os ((set_at (sets_of e) c.args.start ∷ []) ∷ [])) e.pass (account_of (sets_of e) c.args.examined.now);
      short = omega arith;
    }

pub returns-in_err-level-2-clause-counted : goal.returns-in_err-level-2-clause-counted
returns-in_err-level-2-clause-counted c =
    let e = c.args.self.now in
    let d = document_of e in
    grows_with d (λ os. AreListed d os ((set_at (sets_of e) c.args.start ∷ []) ∷ [])) (λ os. AreListed d os (sets_in (sets_of e) c.loop-length.level)) e.pass
    (account_of (sets_of e) c.args.examined.now) (account_of (sets_of e) c.loop-length.examined) (account_of (sets_of e) c.examine_level.new.examined)
    c.loop-length.invariant.counted c.loop-length.invariant.listed c.in_err-level-2.ensures.counted

pub loop-length-preserved : goal.loop-length-preserved
loop-length-preserved c =
    let e = c.args.self.now in
    let s = schema_of e in
    let d = document_of e in
    let start = kept_of (sets_of e) c.args.examined.now in
    let old = kept_of (sets_of e) c.loop-length.examined in
    let new = kept_of (sets_of e) c.examine_level.new.examined in
    let level = sets_in (sets_of e) c.loop-length.level in
    let next = sets_in (sets_of e) c.in_ok-level-2.level in
    let inv = c.loop-length.invariant in
    let here : ExaminesSets e level old new c.loop-length.breaches c.examine_level.new.breaches [] next = c.in_ok-level-2.ensures.examined in
    record {
      examined = λ o is.
          level_step e.pass s d o (brokens_of c.args.breaches.now) (brokens_of c.loop-length.breaches) (brokens_of c.examine_level.new.breaches) start old new c.loop-length.length level next
          (inv.examined o is) here;
      listed = λ os listed. subst (AreListed d os) (sym here.1.1.1.0) (listed_next d os e.pass s level old new here.0 here.1.0 (inv.listed os listed) here.1.1.1.1);
      counted = grows_with d (λ os. AreListed d os ((set_at (sets_of e) c.args.start ∷ []) ∷ [])) (λ os. AreListed d os (sets_in (sets_of e) c.loop-length.level)) e.pass
          (account_of (sets_of e) c.args.examined.now) (account_of (sets_of e) c.loop-length.examined) (account_of (sets_of e) c.examine_level.new.examined)
          inv.counted inv.listed c.in_ok-level-2.ensures.counted;
      short = omega arith;
    }

pub returns-clause-examined : goal.returns-clause-examined
returns-clause-examined c =
    let e = c.args.self.now in
    let level = sets_in (sets_of e) c.loop-length.level in
    let long : (sets : Sets) → Contains level sets → chain_bound ≤ c.loop-length.length = λ sets there. elim c.loop-length-test.branch [
      | then-loop-length-test+else-len-ne0 w ↦
          let none : length (rows_of c.loop-length.level) ≡ 0 = omega (arith, w.len.ensures, w.if-len-ne0.false) in
          not_in_nil sets (subst (λ l. Contains l sets) (ap (all_sets (sets_of e)) (no_items (rows_of c.loop-length.level) none)) there)
      | else-loop-length-test w ↦ omega (arith, w.loop-length-test.false)
    ] in
    IfOk-weaker c.have_fields.result _ _
    (λ left h o is.
    let t = c.loop-length.invariant.examined o is in (
      t.0,
      (
        t.1.0,
        no_more_levels e.pass (schema_of e) (document_of e) o (kept_of (sets_of e) c.args.examined.now) (kept_of (sets_of e) c.loop-length.examined) c.loop-length.length t.0 level left t.1.1 h long,
      ),
    ))
    c.have_fields.ensures

pub returns-clause-counted : goal.returns-clause-counted
returns-clause-counted c = c.loop-length.invariant.counted
