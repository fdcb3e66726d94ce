use Rattle.std.proofs.Common.{◌∙◌, ◌∷◌, ◌++◌, [], ℕ, List, Contains, refl, ap, subst}
use Rattle.std.proofs.lemmas.Result.{on_ok_weaker}
use Rattle.graphql_names.specs.Placed.{Place}
use Rattle.rule_field_groups.specs.in_spec_document.MeantTree.{MeantOperation, MeantDocument}
use Rattle.rule_field_groups.specs.in_sets.declared.field_sets.FieldSets.{FieldSets}
use Rattle.rule_field_groups.specs.in_sets.in_reach.Broken.{brokens_of}
use Rattle.rule_field_groups.specs.in_sets.Read.{set_at}
use Rattle.rule_field_groups.specs.Under.{Sets, sets_in}
use Rattle.rule_merging.specs.Counted.{AreListed}
use Rattle.rule_field_groups.specs.MergeState.{Kept, account_of, kept_of}
use Rattle.rule_merging.specs.Examined.{schema_of, document_of, sets_of, ExaminesPairs}
use Rattle.rule_field_groups.specs.Pairs.{AreTwosOf, Looks, each_with}
use Rattle.rule_field_groups.proofs.Looking.{looks_both, no_twos, twos_more}
use Rattle.rule_merging.proofs.PairStep.{twos_looked, sets_told}
use Rattle.rule_merging.proofs.Counting.{grows_same, grows_with, part_listed}
use Rattle.rule_merging.proofs.examination.Examination.examine_two.Goals as goal

-- the two sets, and the pairs of them
abbrev both : FieldSets → ℕ → ℕ → Sets
both w one other = set_at w one ∷ set_at w other ∷ []

abbrev pairs_of : FieldSets → ℕ → ℕ → List Sets
pairs_of w one other = each_with (set_at w one ∷ []) (set_at w one) ++ each_with (both w one other) (set_at w other)

are_pairs : (w : FieldSets) (one other : ℕ) → AreTwosOf (both w one other) (pairs_of w one other)
are_pairs w one other = twos_more (set_at w one ∷ []) (set_at w other) (each_with (set_at w one ∷ []) (set_at w one)) (twos_more [] (set_at w one) [] no_twos)

-- of pairs that are looked at while no other waits
pairs_listed : (d : MeantDocument Place) (os : List (MeantOperation Place)) (w : FieldSets) (one other : ℕ) (old mid : Kept) → Looks (pairs_of w one other) (record old { pairs = [] }) mid
    → AreListed d os (both w one other ∷ []) → AreListed d os mid.pairs
pairs_listed d os w one other old mid looks listed part c =
    part_listed d os (both w one other) (pairs_of w one other) listed (are_pairs w one other).within part (looks.within part (subst (λ (l : List Sets). Contains l part) looks.is_pairs c))

pub returns-in_err-look_at_each-clause-counted : goal.returns-in_err-look_at_each-clause-counted
returns-in_err-look_at_each-clause-counted c =
    let e = c.args.self.now in
    let w = sets_of e in
    grows_same (document_of e) _ e.pass (account_of w c.args.examined.now) (account_of w c.look_at_each.new.self) (ap (λ b. b.0) (c.in_err-look_at_each.ensures.beside ∙ c.begin_pairs.ensures.beside w))

pub returns-in_err-look_at_each-2-clause-counted : goal.returns-in_err-look_at_each-2-clause-counted
returns-in_err-look_at_each-2-clause-counted c =
    let e = c.args.self.now in
    let w = sets_of e in
    grows_same (document_of e) _ e.pass (account_of w c.args.examined.now) (account_of w c.look_at_each-2.new.self)
    (ap (λ b. b.0) (c.in_err-look_at_each-2.ensures.beside ∙ c.in_ok-look_at_each.ensures.beside ∙ c.begin_pairs.ensures.beside w))

pub returns-clause-examined : goal.returns-clause-examined
returns-clause-examined c =
    let e = c.args.self.now in
    let w = sets_of e in
    let one = c.args.one in
    let other = c.args.other in
    let begun = kept_of w c.begin_pairs.new.self in
    let half = kept_of w c.look_at_each.new.self in
    let mid = kept_of w c.look_at_each-2.new.self in
    let new = kept_of w c.examine_pairs.new.examined in
    let both_looked = looks_both (each_with (set_at w one ∷ []) (set_at w one)) (each_with (both w one other) (set_at w other)) begun half mid c.in_ok-look_at_each.ensures.looks c.in_ok-look_at_each-2.ensures.looks in
    let looks : Looks (pairs_of w one other) (record (kept_of w c.args.examined.now) { pairs = [] }) mid = subst (λ k. Looks (pairs_of w one other) k mid) (c.begin_pairs.ensures.kept w) both_looked in
    on_ok_weaker c.examine_pairs.result
    (λ h. sets_told e.pass (schema_of e) (document_of e) (both w one other) (both w one other) (kept_of w c.args.examined.now) new
    (brokens_of c.args.breaches.now) (brokens_of c.examine_pairs.new.breaches) (sets_in w c.args.examined.now.next) (sets_in w c.examine_pairs.new.examined.next)
    (λ v there. there) (λ same. refl) (
      pairs_of w one other,
      (
        are_pairs w one other,
        twos_looked e.pass (schema_of e) (document_of e) (pairs_of w one other) (kept_of w c.args.examined.now) mid new
            (brokens_of c.args.breaches.now) (brokens_of c.examine_pairs.new.breaches) (sets_in w c.args.examined.now.next) (sets_in w c.examine_pairs.new.examined.next) looks
            (subst (λ n. ExaminesPairs e mid new c.args.breaches.now c.examine_pairs.new.breaches n (sets_in w c.examine_pairs.new.examined.next))
            (ap (λ b. b.1) (c.in_ok-look_at_each-2.ensures.beside ∙ c.in_ok-look_at_each.ensures.beside ∙ c.begin_pairs.ensures.beside w)) h),
      ),
    ))
    c.examine_pairs.ensures.examined

pub returns-clause-counted : goal.returns-clause-counted
returns-clause-counted c =
    let e = c.args.self.now in
    let w = sets_of e in
    let d = document_of e in
    let one = c.args.one in
    let other = c.args.other in
    let old = kept_of w c.args.examined.now in
    let begun = kept_of w c.begin_pairs.new.self in
    let half = kept_of w c.look_at_each.new.self in
    let mid = kept_of w c.look_at_each-2.new.self in
    let both_looked = looks_both (each_with (set_at w one ∷ []) (set_at w one)) (each_with (both w one other) (set_at w other)) begun half mid c.in_ok-look_at_each.ensures.looks c.in_ok-look_at_each-2.ensures.looks in
    let looks : Looks (pairs_of w one other) (record old { pairs = [] }) mid = subst (λ k. Looks (pairs_of w one other) k mid) (c.begin_pairs.ensures.kept w) both_looked in
    grows_with d (λ os. AreListed d os (both w one other ∷ [])) (λ os. AreListed d os mid.pairs) e.pass
    (account_of w c.args.examined.now) (account_of w c.look_at_each-2.new.self) (account_of w c.examine_pairs.new.examined)
    (grows_same d (λ os. AreListed d os (both w one other ∷ [])) e.pass (account_of w c.args.examined.now) (account_of w c.look_at_each-2.new.self)
    (ap (λ b. b.0) (c.in_ok-look_at_each-2.ensures.beside ∙ c.in_ok-look_at_each.ensures.beside ∙ c.begin_pairs.ensures.beside w)))
    (λ os. pairs_listed d os w one other old mid looks) c.examine_pairs.ensures.counted
