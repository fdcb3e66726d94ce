use Rattle.std.specs.Prelude.{Contains}
use Rattle.std.proofs.lemmas.List.{take-append-drop}
use Rattle.std.proofs.lemmas.List.Elements.{Contains-append_left}
use Rattle.std.proofs.Common.{List, drop, ◌<◌, ◌+◌, ◌∷◌, [], take, length, sym, ap, subst, arith, inl, inr}
use Rattle.std.proofs.lemmas.List.{take_all}
use Rattle.rule_field_groups.proofs.in_definitions.Lists.{not_in_nil, only, Contains-first}
use Rattle.rule_field_groups.specs.in_sets.in_reach.Broken.{brokens_of}
use Rattle.rule_field_groups.specs.Under.{sets_in}
use Rattle.rule_field_groups.specs.MergeState.{account_of, kept_of}
use Rattle.rule_merging.specs.Examined.{schema_of, document_of, sets_of}
use Rattle.rule_merging.specs.Twos.{are_of, PairsFields}
use Rattle.rule_field_groups.proofs.in_document_definitions.Unplaced.{contains_map}
use Rattle.rule_field_groups.specs.in_document_definitions.ReadFields.{field_read}
use Rattle.rule_field_groups.specs.Members.{field_of, fields_of, content_of, contents_of}
use Rattle.rule_field_groups.specs.in_sets.declared.member.Member.{Member}
use Rattle.rule_merging.proofs.Pairing.{told_none, told_standing, told_both, told_early, brokens_long, front_of, of_front}
use Rattle.rule_merging.proofs.Counting.{grows_not, grows_with}
use Rattle.rule_merging.proofs.examination.Examination.examine_each.Goals as goal

-- what is in front is in the whole
whole : {X : Type 0} (xs : List X) (i : _) (x : X) → Contains (take i xs) x → Contains xs x
whole xs i x c = subst (λ l. Contains l x) (take-append-drop i xs) (Contains-append_left (take i xs) (drop i xs) x c)

-- what is read of a member is read of the list
is_read : (ms : List Member) (m : Member) → Contains ms m → Contains (contents_of ms) (content_of m)
is_read ms m c = contains_map field_read (fields_of ms) (field_of m) (contains_map field_of ms m c)

pub returns-then-stand_together-clause-examined : goal.returns-then-stand_together-clause-examined
returns-then-stand_together-clause-examined c =
    let e = c.args.self.now in
    let w = sets_of e in
    let all = c.stand_together.ensures c.if-stand_together.true w c.requires.sets.are c.requires.ones c.requires.others in
    told_standing e.pass (schema_of e) (document_of e) (are_of c.args.ones.now c.args.others.now) (kept_of w c.args.examined.now)
    (λ p q h. all (content_of p) (content_of q) (is_read c.args.ones.now p h.0.0) (is_read c.args.others.now q h.0.1))
    (brokens_of c.args.breaches.now) (sets_in w c.args.examined.now.next)

pub returns-then-stand_together-clause-counted : goal.returns-then-stand_together-clause-counted
returns-then-stand_together-clause-counted c =
    let e = c.args.self.now in grows_not (document_of e) _ e.pass (account_of (sets_of e) c.args.examined.now)

pub loop-one-init : goal.loop-one-init
loop-one-init c =
    let e = c.args.self.now in
    let w = sets_of e in
    record {
      examined = told_none e.pass (schema_of e) (document_of e) (are_of (take 0 c.args.ones.now) c.args.others.now) (λ p q w. not_in_nil p w.0.0) (kept_of w c.args.examined.now) (brokens_of c.args.breaches.now) (sets_in w c.args.examined.now.next);
      counted = grows_not (document_of e) _ e.pass (account_of w c.args.examined.now);
    }

pub examine_with_each-requires-clause-one : goal.examine_with_each-requires-clause-one
examine_with_each-requires-clause-one c =
    let h : c.loop-one.one-index < length c.args.ones.now = omega arith in
    c.requires.ones c.one-item.result (c.loop-one.one-index, h, sym c.one-item.is)

pub returns-in_err-examine_with_each-clause-counted : goal.returns-in_err-examine_with_each-clause-counted
returns-in_err-examine_with_each-clause-counted c =
    let e = c.args.self.now in
    let w = sets_of e in
    let d = document_of e in
    let xs = c.args.ones.now in
    let x = c.one-item.result in
    let i = c.loop-one.one-index in
    let h : i < length xs = omega arith in
    grows_with d _ _ e.pass (account_of w c.args.examined.now) (account_of w c.loop-one.examined) (account_of w c.examine_with_each.new.examined)
    c.loop-one.invariant.counted (λ os given p q w. given p q (subst (Contains xs) (sym (only x p w.0)) (i, h, sym c.one-item.is), w.1)) c.in_err-examine_with_each.ensures.counted

pub loop-one-preserved : goal.loop-one-preserved
loop-one-preserved c =
    let e = c.args.self.now in
    let w = sets_of e in
    let d = document_of e in
    let xs = c.args.ones.now in
    let x = c.one-item.result in
    let i = c.loop-one.one-index in
    let h : i < length xs = omega arith in
    record {
      examined = told_both e.pass (schema_of e) d (are_of (take i c.args.ones.now) c.args.others.now) (are_of (x ∷ []) c.args.others.now) (are_of (take (i + 1) c.args.ones.now) c.args.others.now) (λ p q w. elim w [ inl a ↦ (of_front xs i x h c.one-item.is p (inl a.0), a.1) | inr b ↦ (of_front xs i x h c.one-item.is p (inr (only x p b.0)), b.1) ]) (λ p q w. elim (front_of xs i x h c.one-item.is p w.0) [ inl a ↦ inl (a, w.1) | inr b ↦ inr (Contains-first x [] p (sym b), w.1) ])
          (kept_of w c.args.examined.now) (kept_of w c.loop-one.examined) (kept_of w c.examine_with_each.new.examined) (brokens_of c.args.breaches.now) (brokens_of c.loop-one.breaches) (brokens_of c.examine_with_each.new.breaches)
          (sets_in w c.args.examined.now.next) (sets_in w c.loop-one.examined.next) (sets_in w c.examine_with_each.new.examined.next) c.loop-one.invariant.examined c.in_ok-examine_with_each.ensures.examined;
      counted = grows_with d _ _ e.pass (account_of w c.args.examined.now) (account_of w c.loop-one.examined) (account_of w c.examine_with_each.new.examined)
          c.loop-one.invariant.counted (λ os given p q w. given p q (subst (Contains xs) (sym (only x p w.0)) (i, h, sym c.one-item.is), w.1)) c.in_ok-examine_with_each.ensures.counted;
    }

pub returns-clause-examined : goal.returns-clause-examined
returns-clause-examined c =
    subst (λ l. PairsFields c.args.self.now (are_of l c.args.others.now) (kept_of (sets_of c.args.self.now) c.args.examined.now) (kept_of (sets_of c.args.self.now) c.loop-one.examined) c.args.breaches.now c.loop-one.breaches (sets_in (sets_of c.args.self.now) c.args.examined.now.next) (sets_in (sets_of c.args.self.now) c.loop-one.examined.next))
    (take_all c.loop-one.one-index c.args.ones.now c.loop-one-test.false) c.loop-one.invariant.examined

pub returns-clause-counted : goal.returns-clause-counted
returns-clause-counted c = c.loop-one.invariant.counted

pub returns-then-is_told-clause-examined : goal.returns-then-is_told-clause-examined
returns-then-is_told-clause-examined c =
    let e = c.args.self.now in
    let w = sets_of e in
    let i = c.loop-one.one-index in
    told_early e.pass (schema_of e) (document_of e) (are_of (take i c.args.ones.now) c.args.others.now) (are_of c.args.ones.now c.args.others.now) (λ p q w. (whole c.args.ones.now i p w.0, w.1))
    (kept_of w c.args.examined.now) (kept_of w c.loop-one.examined) (brokens_of c.args.breaches.now) (brokens_of c.loop-one.breaches) (sets_in w c.args.examined.now.next) (sets_in w c.loop-one.examined.next)
    (brokens_long c.args.breaches.now c.loop-one.breaches (omega (arith, c.len-told.ensures, c.is_told.ensures c.if-is_told.true, ap length c.deref.ensures.value))) c.loop-one.invariant.examined

pub returns-then-is_told-clause-counted : goal.returns-then-is_told-clause-counted
returns-then-is_told-clause-counted c = c.loop-one.invariant.counted
