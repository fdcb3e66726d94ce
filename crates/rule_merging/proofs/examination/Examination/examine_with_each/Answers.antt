use Rattle.std.proofs.Common.{◌<◌, ◌+◌, ◌∷◌, [], take, length, Contains, sym, subst, arith, inl, inr}
use Rattle.std.proofs.lemmas.List.{take_all}
use Rattle.rule_field_groups.proofs.in_definitions.Lists.{not_in_nil, only, Contains-first}
use Rattle.rule_field_groups.specs.in_sets.in_reach.Broken.{brokens_of}
use Rattle.rule_field_groups.specs.Under.{sets_in}
use Rattle.rule_field_groups.specs.MergeState.{account_of, kept_of}
use Rattle.rule_merging.specs.Examined.{schema_of, document_of, sets_of}
use Rattle.rule_merging.specs.Twos.{are_two, are_of, PairsFields}
use Rattle.rule_merging.proofs.Pairing.{told_none, told_both, front_of, of_front}
use Rattle.rule_merging.proofs.Counting.{grows_not, grows_with}
use Rattle.rule_merging.proofs.examination.Examination.examine_with_each.Goals as goal

pub loop-other-init : goal.loop-other-init
loop-other-init c =
    let e = c.args.self.now in
    let w = sets_of e in
    record {
      examined = told_none e.pass (schema_of e) (document_of e) (are_of (c.args.one ∷ []) (take 0 c.args.others.now)) (λ p q w. not_in_nil q w.0.1) (kept_of w c.args.examined.now) (brokens_of c.args.breaches.now) (sets_in w c.args.examined.now.next);
      counted = grows_not (document_of e) _ e.pass (account_of w c.args.examined.now);
    }

pub examine_two_fields-requires-clause-other : goal.examine_two_fields-requires-clause-other
examine_two_fields-requires-clause-other c =
    let h : c.loop-other.other-index < length c.args.others.now = omega arith in
    c.requires.others c.other-item.result (c.loop-other.other-index, h, sym c.other-item.is)

pub returns-in_err-examine_two_fields-clause-counted : goal.returns-in_err-examine_two_fields-clause-counted
returns-in_err-examine_two_fields-clause-counted c =
    let e = c.args.self.now in
    let w = sets_of e in
    let d = document_of e in
    let xs = c.args.others.now in
    let x = c.other-item.result in
    let i = c.loop-other.other-index in
    let h : i < length xs = omega arith in
    grows_with d _ _ e.pass (account_of w c.args.examined.now) (account_of w c.loop-other.examined) (account_of w c.examine_two_fields.new.examined)
    c.loop-other.invariant.counted (λ os given p q w. given p q (Contains-first c.args.one [] p (sym w.0), subst (Contains xs) (sym w.1) (i, h, sym c.other-item.is))) c.in_err-examine_two_fields.ensures.counted

pub loop-other-preserved : goal.loop-other-preserved
loop-other-preserved c =
    let e = c.args.self.now in
    let w = sets_of e in
    let d = document_of e in
    let xs = c.args.others.now in
    let x = c.other-item.result in
    let i = c.loop-other.other-index in
    let h : i < length xs = omega arith in
    record {
      examined = told_both e.pass (schema_of e) d (are_of (c.args.one ∷ []) (take i c.args.others.now)) (are_two c.args.one x) (are_of (c.args.one ∷ []) (take (i + 1) c.args.others.now)) (λ p q w. elim w [ inl a ↦ (a.0, of_front xs i x h c.other-item.is q (inl a.1)) | inr b ↦ (Contains-first c.args.one [] p (sym b.0), of_front xs i x h c.other-item.is q (inr b.1)) ]) (λ p q w. elim (front_of xs i x h c.other-item.is q w.1) [ inl a ↦ inl (w.0, a) | inr b ↦ inr (only c.args.one p w.0, b) ])
          (kept_of w c.args.examined.now) (kept_of w c.loop-other.examined) (kept_of w c.examine_two_fields.new.examined) (brokens_of c.args.breaches.now) (brokens_of c.loop-other.breaches) (brokens_of c.examine_two_fields.new.breaches)
          (sets_in w c.args.examined.now.next) (sets_in w c.loop-other.examined.next) (sets_in w c.examine_two_fields.new.examined.next) c.loop-other.invariant.examined c.in_ok-examine_two_fields.ensures.examined;
      counted = grows_with d _ _ e.pass (account_of w c.args.examined.now) (account_of w c.loop-other.examined) (account_of w c.examine_two_fields.new.examined)
          c.loop-other.invariant.counted (λ os given p q w. given p q (Contains-first c.args.one [] p (sym w.0), subst (Contains xs) (sym w.1) (i, h, sym c.other-item.is))) c.in_ok-examine_two_fields.ensures.counted;
    }

pub returns-clause-examined : goal.returns-clause-examined
returns-clause-examined c =
    subst (λ l. PairsFields c.args.self.now (are_of (c.args.one ∷ []) l) (kept_of (sets_of c.args.self.now) c.args.examined.now) (kept_of (sets_of c.args.self.now) c.loop-other.examined) c.args.breaches.now c.loop-other.breaches (sets_in (sets_of c.args.self.now) c.args.examined.now.next) (sets_in (sets_of c.args.self.now) c.loop-other.examined.next))
    (take_all c.loop-other.other-index c.args.others.now c.loop-other-test.false) c.loop-other.invariant.examined

pub returns-clause-counted : goal.returns-clause-counted
returns-clause-counted c = c.loop-other.invariant.counted
