use Rattle.std.proofs.Common.{◌≡◌, ◌∙◌, ◌<◌, ◌+◌, ◌-◌, ◌^◌, List, ◌∷◌, ◌++◌, [], Option, Some, Contains, length, map, refl, sym, ap, subst, append-nil, arith}
use Rattle.std.specs.Prelude.{option_to_list}
use Rattle.std.proofs.lemmas.List.{length-map, length-append, map-append, nil_from_length}
use Rattle.std.proofs.lemmas.List.Elements.{Contains-append_right}
use Rattle.graphql_names.specs.Placed.{Place}
use Rattle.rule_field_groups.specs.in_spec_document.MeantTree.{MeantOperation, MeantDocument}
use Rattle.rule_field_groups.proofs.in_definitions.Lists.{only, Contains-first}
use Rattle.list_interner.specs.NumberPairs.{pairs_kept}
use Rattle.rule_field_groups.specs.in_sets.in_reach.Broken.{brokens_of}
use Rattle.rule_field_groups.specs.in_sets.Read.{set_content_at}
use Rattle.rule_field_groups.specs.in_sets.declared.field_sets.FieldSets.{FieldSets}
use Rattle.rule_field_groups.specs.in_document_definitions.PlainFields.{IsSelected}
use Rattle.rule_field_groups.specs.in_document_definitions.ReadFields.{ReadSet}
use Rattle.rule_field_groups.specs.Under.{sets_in}
use Rattle.rule_merging.specs.Counted.{AreListed}
use Rattle.rule_field_groups.specs.MergeState.{account_of, kept_of, looked_in, both_in, two_of}
use Rattle.rule_merging.specs.Examined.{Sets, SelectsAsMuch, ExaminesSome, schema_of, document_of, sets_of}
use Rattle.rule_merging.proofs.Pairing.{brokens_long}
use Rattle.rule_merging.proofs.PairStep.{no_pairs, pairs_step}
use Rattle.rule_merging.proofs.Counting.{grows_not, grows_with, listed_wider, looked_bounded}
use Rattle.rule_field_groups.specs.declared.merge_state.Pair.{Pair}
use Rattle.rule_field_groups.specs.declared.merge_state.MergeState.{MergeState}
use Rattle.rule_merging.proofs.examination.Examination.examine_pairs.Goals as goal

-- the pair that is taken is the last one
taken : (here rest : List Pair) (found : Option Pair) (pair : Pair) → here ≡ rest ++ option_to_list found → found ≡ Some pair → here ≡ rest ++ pair ∷ []
taken here rest found pair items is = items ∙ ap (λ o. rest ++ option_to_list o) is

last_two : (w : FieldSets) (here rest : List Pair) (pair : Pair) → here ≡ rest ++ pair ∷ [] → map (two_of w) here ≡ map (two_of w) rest ++ two_of w pair ∷ []
last_two w here rest pair is = ap (map (two_of w)) is ∙ map-append (two_of w) rest (pair ∷ [])

-- it is given of the pair, since it is of those that were left
pair_given : (d : MeantDocument Place) (os : List (MeantOperation Place)) (was here rest : List Sets) (two : Sets)
    → ((part : Sets) → Contains here part → (sets : Sets) × (Contains was sets × SelectsAsMuch d sets part)) → here ≡ rest ++ two ∷ [] → AreListed d os was → AreListed d os (two ∷ [])
pair_given d os was here rest two within is given = listed_wider d os was (two ∷ []) given (λ part k.
    let s = within two (subst (λ (l : List Sets). Contains l two) (sym is) (Contains-append_right rest (two ∷ []) two (Contains-first two [] two refl))) in
    (s.0, (s.1.0, λ x h. s.1.1 x (subst (λ l. IsSelected d l x) (only two part k) h))))

pub loop-pair-init : goal.loop-pair-init
loop-pair-init c =
    let e = c.args.self.now in
    let w = sets_of e in
    record {
      examined = ([], ([], (sym (append-nil (brokens_of c.args.breaches.now)), (sym (append-nil (sets_in w c.args.examined.now.next)), no_pairs e.pass (schema_of e) (document_of e) (kept_of w c.args.examined.now)))));
      counted = grows_not (document_of e) _ e.pass (account_of w c.args.examined.now);
    }

-- the pair that is looked at
pub returns-in_err-examine_pair-clause-counted : goal.returns-in_err-examine_pair-clause-counted
returns-in_err-examine_pair-clause-counted c =
    let e = c.args.self.now in
    let w = sets_of e in
    let d = document_of e in
    let inv = c.loop-pair.invariant in
    let here = c.loop-pair.examined.pairs.items in
    let rest = c.pop.new.self.items in
    let pair = c.in-Some.pair in
    let is = last_two w here rest pair (taken here rest c.pop.result pair c.pop.ensures.items c.in-Some.is) in
    grows_with d _ _ e.pass (account_of w c.args.examined.now) (account_of w c.loop-pair.examined) (account_of w c.examine_pair.new.examined)
    inv.counted (λ os given. pair_given d os (kept_of w c.args.examined.now).pairs (map (two_of w) here) (map (two_of w) rest) (two_of w pair) inv.examined.1.1.1.1.within is given) c.in_err-examine_pair.ensures.counted

pub loop-pair-preserved : goal.loop-pair-preserved
loop-pair-preserved c =
    let e = c.args.self.now in
    let w = sets_of e in
    let d = document_of e in
    let inv = c.loop-pair.invariant in
    let old = kept_of w c.args.examined.now in
    let here = c.loop-pair.examined.pairs.items in
    let rest = c.pop.new.self.items in
    let pair = c.in-Some.pair in
    let is = last_two w here rest pair (taken here rest c.pop.result pair c.pop.ensures.items c.in-Some.is) in
    record {
      examined = pairs_step e.pass (schema_of e) d old (kept_of w c.loop-pair.examined) (kept_of w c.examine_pair.new.examined)
          (brokens_of c.args.breaches.now) (brokens_of c.loop-pair.breaches) (brokens_of c.examine_pair.new.breaches) (sets_in w c.args.examined.now.next) (sets_in w c.loop-pair.examined.next) (sets_in w c.examine_pair.new.examined.next)
          (map (two_of w) rest) (two_of w pair) is inv.examined c.in_ok-examine_pair.ensures.examined;
      counted = grows_with d _ _ e.pass (account_of w c.args.examined.now) (account_of w c.loop-pair.examined) (account_of w c.examine_pair.new.examined)
          inv.counted (λ os given. pair_given d os old.pairs (map (two_of w) here) (map (two_of w) rest) (two_of w pair) inv.examined.1.1.1.1.within is given) c.in_ok-examine_pair.ensures.counted;
    }

-- one pair less waits, or is looked at, for each that comes
fewer : (w : FieldSets) (old new : MergeState) (here rest here' : List Pair) (pair : Pair) (pairs : List Sets) → here ≡ rest ++ pair ∷ [] → map (two_of w) here' ≡ map (two_of w) rest ++ pairs
    → length (looked_in w new) ≡ length (looked_in w old) + length pairs
    → (2 ^ 126 - length (pairs_kept new.looked)) + length here' < (2 ^ 126 - length (pairs_kept old.looked)) + length here
fewer w old new here rest here' pair pairs is more count = omega (
  arith,
  looked_bounded new,
  ap length is,
  length-append rest (pair ∷ []),
  ap length more,
  length-append (map (two_of w) rest) pairs,
  length-map rest (two_of w),
  length-map here' (two_of w),
  count,
  length-map {B = List ReadSet} (pairs_kept new.looked) (λ p. map (set_content_at w) (both_in p)),
  length-map {B = List ReadSet} (pairs_kept old.looked) (λ p. map (set_content_at w) (both_in p)),
)

pub loop-pair-smaller : goal.loop-pair-smaller
loop-pair-smaller c =
    let w = sets_of c.args.self.now in
    let here = c.loop-pair.examined.pairs.items in
    let rest = c.pop.new.self.items in
    let one = c.in_ok-examine_pair.ensures.examined.1.1.1.1 in
    fewer w c.loop-pair.examined c.examine_pair.new.examined here rest c.examine_pair.new.examined.pairs.items c.in-Some.pair one.pairs (taken here rest c.pop.result c.in-Some.pair c.pop.ensures.items c.in-Some.is) one.is_pairs one.count

-- none is left
pub returns-clause-examined : goal.returns-clause-examined
returns-clause-examined c =
    let e = c.args.self.now in
    let w = sets_of e in
    let was = nil_from_length c.loop-pair.examined.pairs.items (omega (arith, c.in_default.ensures.cases.0)) in
    let is = nil_from_length c.pop.new.self.items (omega (arith, c.in_default.ensures.cases.1)) in (
      (λ same. ap (map (two_of w)) is),
      subst
          (λ (l : List Sets). ExaminesSome e (kept_of w c.args.examined.now) (record (kept_of w c.loop-pair.examined) { pairs = l }) c.args.breaches.now c.loop-pair.breaches (sets_in w c.args.examined.now.next) (sets_in w c.loop-pair.examined.next))
          (ap (map (two_of w)) (was ∙ sym is)) c.loop-pair.invariant.examined,
    )

pub returns-clause-counted : goal.returns-clause-counted
returns-clause-counted c = c.loop-pair.invariant.counted

pub returns-then-is_told-clause-examined : goal.returns-then-is_told-clause-examined
returns-then-is_told-clause-examined c =
    let e = c.args.self.now in
    let w = sets_of e in
    let here = c.loop-pair.examined.pairs.items in
    let rest = c.pop.new.self.items in
    let pair = c.in-Some.pair in
    let is = last_two w here rest pair (taken here rest c.pop.result pair c.pop.ensures.items c.in-Some.is) in (
      (λ e. absurd (omega (
        arith,
        ap length e,
        brokens_long c.args.breaches.now c.examine_pair.new.breaches (omega (arith, c.len-told.ensures, c.is_told.ensures c.if-is_told.true, ap length c.deref.ensures.value)),
      ))),
      pairs_step e.pass (schema_of e) (document_of e) (kept_of w c.args.examined.now) (kept_of w c.loop-pair.examined) (kept_of w c.examine_pair.new.examined)
          (brokens_of c.args.breaches.now) (brokens_of c.loop-pair.breaches) (brokens_of c.examine_pair.new.breaches) (sets_in w c.args.examined.now.next) (sets_in w c.loop-pair.examined.next) (sets_in w c.examine_pair.new.examined.next)
          (map (two_of w) rest) (two_of w pair) is c.loop-pair.invariant.examined c.in_ok-examine_pair.ensures.examined,
    )

pub returns-then-is_told-clause-counted : goal.returns-then-is_told-clause-counted
returns-then-is_told-clause-counted c =
    let e = c.args.self.now in
    let w = sets_of e in
    let d = document_of e in
    let inv = c.loop-pair.invariant in
    let here = c.loop-pair.examined.pairs.items in
    let rest = c.pop.new.self.items in
    let pair = c.in-Some.pair in
    let is = last_two w here rest pair (taken here rest c.pop.result pair c.pop.ensures.items c.in-Some.is) in
    grows_with d _ _ e.pass (account_of w c.args.examined.now) (account_of w c.loop-pair.examined) (account_of w c.examine_pair.new.examined)
    inv.counted (λ os given. pair_given d os (kept_of w c.args.examined.now).pairs (map (two_of w) here) (map (two_of w) rest) (two_of w pair) inv.examined.1.1.1.1.within is given) c.in_ok-examine_pair.ensures.counted
