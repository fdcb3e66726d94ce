use Rattle.std.proofs.Common.{◌<◌, ◌≤◌, [], ◌∷◌, map, take, length, get_or, sym, ap, subst, arith}
use Rattle.std.proofs.lemmas.List.{take_all, get_or_default}
use Rattle.list_interner.specs.NumberRows.{rows_of}
use Rattle.list_interner.specs.declared.number_rows.NumberRows.{NumberRows}
use Rattle.rule_field_groups.proofs.in_document_definitions.Unplaced.{contains_map}
use Rattle.rule_field_groups.specs.in_sets.in_reach.Broken.{brokens_of}
use Rattle.rule_merging.specs.Counted.{AreListed}
use Rattle.rule_field_groups.specs.Members.{meant_sets}
use Rattle.rule_field_groups.specs.MergeState.{account_of, kept_of}
use Rattle.rule_merging.specs.Examined.{ExaminesSets, schema_of, document_of, sets_of}
use Rattle.rule_field_groups.specs.Under.{all_sets, sets_in}
use Rattle.rule_merging.proofs.Examining.{front_more, none_told, lists_step}
use Rattle.rule_merging.proofs.Counting.{grows_not, grows_with, one_listed}
use Rattle.rule_merging.proofs.examination.Examination.examine_level.Goals as goal

pub loop-place-init : goal.loop-place-init
loop-place-init c =
    let e = c.args.self.now in
    let old = kept_of (sets_of e) c.args.examined.now in
    record {
      examined = subst (λ l. ExaminesSets e [] old old c.args.breaches.now c.args.breaches.now [] l) (sym (ap (all_sets (sets_of e)) c.new.ensures)) (none_told e.pass (schema_of e) (document_of e) (brokens_of c.args.breaches.now) old []);
      counted = grows_not (document_of e) (λ os. AreListed (document_of e) os (sets_in (sets_of e) c.args.level.now)) e.pass (account_of (sets_of e) c.args.examined.now);
    }

pub returns-in_err-examine_at-clause-counted : goal.returns-in_err-examine_at-clause-counted
returns-in_err-examine_at-clause-counted c =
    let e = c.args.self.now in
    let d = document_of e in
    let w = sets_of e in
    let level = rows_of c.args.level.now in
    let i = c.loop-place.place in
    let x = get_or level i [] in
    let h : i < length level = omega arith in
    grows_with d (λ os. AreListed d os (map (meant_sets w) level)) (λ os. AreListed d os (meant_sets w x ∷ [])) e.pass
    (account_of w c.args.examined.now) (account_of w c.loop-place.examined) (account_of w c.examine_at.new.examined)
    c.loop-place.invariant.counted
    (λ os listed. one_listed d os (map (meant_sets w) level) (meant_sets w x) listed (contains_map (meant_sets w) level x (i, h, get_or_default level i x [] h)))
    c.in_err-examine_at.ensures.counted

pub loop-place-preserved : goal.loop-place-preserved
loop-place-preserved c =
    let e = c.args.self.now in
    let d = document_of e in
    let w = sets_of e in
    let level = rows_of c.args.level.now in
    let i = c.loop-place.place in
    let x = get_or level i [] in
    let h : i < length level = omega arith in
    let old = kept_of w c.args.examined.now in
    let mid = kept_of w c.loop-place.examined in
    let new = kept_of w c.examine_at.new.examined in
    let between = sets_in w c.loop-place.examined.next in
    let last = sets_in w c.examine_at.new.examined.next in
    record {
      examined = subst (λ ls. ExaminesSets e ls old new c.args.breaches.now c.examine_at.new.breaches [] last) (sym (front_more (meant_sets w) level i x h (get_or_default level i [] x h)))
          (lists_step e.pass (schema_of e) d (brokens_of c.args.breaches.now) (brokens_of c.loop-place.breaches) (brokens_of c.examine_at.new.breaches) [] between last
          (map (meant_sets w) (take i level)) (meant_sets w x ∷ []) old mid new c.loop-place.invariant.examined c.in_ok-examine_at.ensures.examined);
      counted = grows_with d (λ os. AreListed d os (map (meant_sets w) level)) (λ os. AreListed d os (meant_sets w x ∷ [])) e.pass
          (account_of w c.args.examined.now) (account_of w c.loop-place.examined) (account_of w c.examine_at.new.examined)
          c.loop-place.invariant.counted
          (λ os listed. one_listed d os (map (meant_sets w) level) (meant_sets w x) listed (contains_map (meant_sets w) level x (i, h, get_or_default level i x [] h)))
          c.in_ok-examine_at.ensures.counted;
    }

pub returns-clause-examined : goal.returns-clause-examined
returns-clause-examined c =
    let e = c.args.self.now in
    let w = sets_of e in
    let level = rows_of c.args.level.now in
    let old = kept_of w c.args.examined.now in
    let new = kept_of w c.loop-place.examined in
    let end : length level ≤ c.loop-place.place = omega arith in
    subst (λ (v : NumberRows). ExaminesSets e (map (meant_sets w) level) old new c.args.breaches.now c.loop-place.breaches [] (sets_in w v)) (sym c.replace.ensures.value)
    (subst (λ ls. ExaminesSets e (map (meant_sets w) ls) old new c.args.breaches.now c.loop-place.breaches [] (sets_in w c.loop-place.examined.next)) (take_all c.loop-place.place level end) c.loop-place.invariant.examined)

pub returns-clause-counted : goal.returns-clause-counted
returns-clause-counted c = c.loop-place.invariant.counted
