use Rattle.std.proofs.Common.{◌∙◌, [], List, Contains, ap, subst}
use Rattle.std.proofs.lemmas.Result.{on_ok_weaker}
use Rattle.graphql_names.specs.Placed.{Place}
use Rattle.rule_field_groups.specs.in_spec_document.MeantTree.{MeantOperation, MeantDocument}
use Rattle.rule_field_groups.specs.in_sets.in_reach.Broken.{brokens_of}
use Rattle.rule_field_groups.specs.in_sets.Read.{set_at}
use Rattle.rule_field_groups.specs.Under.{Sets, sets_in}
use Rattle.rule_field_groups.specs.Members.{meant_sets}
use Rattle.rule_merging.specs.Counted.{AreListed}
use Rattle.rule_field_groups.specs.MergeState.{Kept, account_of, kept_of}
use Rattle.rule_merging.specs.Examined.{schema_of, document_of, sets_of, ExaminesPairs}
use Rattle.rule_field_groups.specs.Pairs.{Looks, each_with}
use Rattle.rule_merging.proofs.PairStep.{twos_looked}
use Rattle.rule_merging.proofs.Counting.{grows_same, grows_with}
use Rattle.rule_merging.proofs.examination.Examination.examine_with_those.Goals as goal

-- of pairs that are looked at while no other waits
pairs_listed : (d : MeantDocument Place) (os : List (MeantOperation Place)) (twos : List Sets) (old mid : Kept) → Looks twos (record old { pairs = [] }) mid → AreListed d os twos → AreListed d os mid.pairs
pairs_listed d os twos old mid looks listed part c = listed part (looks.within part (subst (λ (l : List Sets). Contains l part) looks.is_pairs c))

pub returns-in_err-look_at_each-clause-counted : goal.returns-in_err-look_at_each-clause-counted
returns-in_err-look_at_each-clause-counted c =
    let e = c.args.self.now in
    let w = sets_of e in
    grows_same (document_of e) _ e.pass (account_of w c.args.examined.now) (account_of w c.look_at_each.new.self) (ap (λ b. b.0) (c.in_err-look_at_each.ensures.beside ∙ c.begin_pairs.ensures.beside w))

pub returns-clause-examined : goal.returns-clause-examined
returns-clause-examined c =
    let e = c.args.self.now in
    let w = sets_of e in
    let twos = each_with (meant_sets w c.args.nodes.now) (set_at w c.args.other) in
    let mid = kept_of w c.look_at_each.new.self in
    let new = kept_of w c.examine_pairs.new.examined in
    let looks : Looks twos (record (kept_of w c.args.examined.now) { pairs = [] }) mid = subst (λ k. Looks twos k mid) (c.begin_pairs.ensures.kept w) c.in_ok-look_at_each.ensures.looks in
    on_ok_weaker c.examine_pairs.result
    (λ h. twos_looked e.pass (schema_of e) (document_of e) twos (kept_of w c.args.examined.now) mid new
    (brokens_of c.args.breaches.now) (brokens_of c.examine_pairs.new.breaches) (sets_in w c.args.examined.now.next) (sets_in w c.examine_pairs.new.examined.next) looks
    (subst (λ n. ExaminesPairs e mid new c.args.breaches.now c.examine_pairs.new.breaches n (sets_in w c.examine_pairs.new.examined.next))
    (ap (λ b. b.1) (c.in_ok-look_at_each.ensures.beside ∙ c.begin_pairs.ensures.beside w)) h))
    c.examine_pairs.ensures.examined

pub returns-clause-counted : goal.returns-clause-counted
returns-clause-counted c =
    let e = c.args.self.now in
    let w = sets_of e in
    let d = document_of e in
    let twos = each_with (meant_sets w c.args.nodes.now) (set_at w c.args.other) in
    let old = kept_of w c.args.examined.now in
    let mid = kept_of w c.look_at_each.new.self in
    let looks : Looks twos (record old { pairs = [] }) mid = subst (λ k. Looks twos k mid) (c.begin_pairs.ensures.kept w) c.in_ok-look_at_each.ensures.looks in
    grows_with d (λ os. AreListed d os twos) (λ os. AreListed d os mid.pairs) e.pass
    (account_of w c.args.examined.now) (account_of w c.look_at_each.new.self) (account_of w c.examine_pairs.new.examined)
    (grows_same d (λ os. AreListed d os twos) e.pass (account_of w c.args.examined.now) (account_of w c.look_at_each.new.self) (ap (λ b. b.0) (c.in_ok-look_at_each.ensures.beside ∙ c.begin_pairs.ensures.beside w)))
    (λ os. pairs_listed d os twos old mid looks) c.examine_pairs.ensures.counted
