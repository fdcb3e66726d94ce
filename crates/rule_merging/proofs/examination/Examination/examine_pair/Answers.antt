use Rattle.std.proofs.Common.{◌≡◌, ◌∙◌, ◌∷◌, [], ℕ, List, Contains, refl, ap, sym, subst}
use Rattle.std.specs.Prelude.{Some, slice_get}
use Rattle.std.specs.List.{AllZip}
use Rattle.std.proofs.lemmas.Result.{on_ok_weaker}
use Rattle.rule_field_groups.specs.in_sets.declared.member.Member.{Member}
use Rattle.rule_field_groups.specs.in_sets.declared.member.SetNode.{SetNode}
use Rattle.rule_field_groups.specs.in_sets.declared.field_sets.FieldSets.{FieldSets}
use Rattle.rule_field_groups.specs.in_sets.Nodes.{set_nodes, fragment_nodes}
use Rattle.rule_field_groups.specs.in_sets.Read.{set_at}
use Rattle.rule_field_groups.specs.Members.{meant_sets, AreMembersOf}
use Rattle.rule_field_groups.specs.MergeState.{account_of, kept_of}
use Rattle.rule_field_groups.specs.Pairs.{with_each, each_with}
use Rattle.rule_merging.specs.Examined.{Sets, HasSets, GrowsOverTwo, schema_of, document_of, sets_of}
use Rattle.rule_merging.specs.Twos.{are_of, GrowsByTwo}
use Rattle.rule_merging.specs.declared.examination.Examination.{Examination}
use Rattle.rule_field_groups.specs.declared.merge_state.MergeState.{MergeState}
use Rattle.rule_field_groups.proofs.Looking.{looks_none, looks_both}
use Rattle.rule_field_groups.proofs.NodeFacts.{member_selected}
use Rattle.rule_merging.proofs.PairStep.{IsOpened, pair_examined, pair_listed}
use Rattle.rule_merging.proofs.OpenedNodes.{opened_node}
use Rattle.rule_merging.proofs.Counting.{grows_not, grows_same, grows_on, grows_given}
use Rattle.rule_merging.proofs.examination.Examination.examine_pair.Goals as goal

-- the members of a node
members_at : (w : FieldSets) (n : ℕ) (v : SetNode) → slice_get (set_nodes w) n ≡ Some v → (list : List Member) → list ≡ v.members.items → AreMembersOf w list
members_at w n v at list is m c = (n, (v, (at, subst (λ (l : List Member). Contains l m) is c)))

-- its set with these and with the nodes of what it spreads
opened_at : (e : Examination) → HasSets e → (n : ℕ) (v : SetNode) → slice_get (set_nodes (sets_of e)) n ≡ Some v → (list : List Member) → list ≡ v.members.items → (places nodes others : List ℕ) → places ≡ v.spreads.items
    → AllZip (λ p k. slice_get (fragment_nodes (sets_of e)) p ≡ Some k) places nodes → others ≡ nodes → IsOpened (document_of e) (set_at (sets_of e) n) list (meant_sets (sets_of e) others)
opened_at e has n v at list is places nodes others is_too led same =
    let w = sets_of e in
    let whole = opened_node w has.are has.starts (document_of e) has.fragments n v at nodes (subst (λ (l : List ℕ). AllZip (λ p k. slice_get (fragment_nodes w) p ≡ Some k) l nodes) is_too led) in
    subst (λ (l : List Member). IsOpened (document_of e) (set_at w n) l (meant_sets w others)) (sym is) (subst (λ (l : List ℕ). IsOpened (document_of e) (set_at w n) v.members.items (meant_sets w l)) (sym same) whole)

-- two nodes, with their members
module _ (e : Examination) (has : HasSets e) (n m : ℕ) (v u : SetNode) (at : slice_get (set_nodes (sets_of e)) n ≡ Some v) (there : slice_get (set_nodes (sets_of e)) m ≡ Some u) (ones others : List Member)
    (is : ones ≡ v.members.items) (is_too : others ≡ u.members.items) where
  abbrev two : Sets
  two = set_at (sets_of e) n ∷ set_at (sets_of e) m ∷ []

  -- what comes to lists of fields for their members comes for the two
  by_members : (old new : MergeState) → GrowsByTwo e (are_of ones others) old new → GrowsOverTwo e two old new
  by_members old new grows =
      let w = sets_of e in
      let d = document_of e in
      grows_given d _ _ (λ os. pair_listed e.pass (schema_of e) d (set_at w n) (set_at w m) ones others
      (λ p c. member_selected w has.are has.starts d has.fragments n v at p (subst (λ (l : List Member). Contains l p) is c))
      (λ q c. member_selected w has.are has.starts d has.fragments m u there q (subst (λ (l : List Member). Contains l q) is_too c)) os)
      e.pass (account_of w old) (account_of w new) grows

  -- and where nothing more is counted
  and_no_more : (old mid new : MergeState) → GrowsByTwo e (are_of ones others) old mid → account_of (sets_of e) new ≡ account_of (sets_of e) mid → GrowsOverTwo e two old new
  and_no_more old mid new grows same =
      let w = sets_of e in
      grows_on (document_of e) _ e.pass (account_of w old) (account_of w mid) (account_of w new) (by_members old mid grows) (grows_same (document_of e) _ e.pass (account_of w mid) (account_of w new) same)

pub returns-in_err-first-clause-counted : goal.returns-in_err-first-clause-counted
returns-in_err-first-clause-counted c = grows_not (document_of c.args.self.now) _ c.args.self.now.pass (account_of (sets_of c.args.self.now) c.args.examined.now)

pub returns-in_err-second-clause-counted : goal.returns-in_err-second-clause-counted
returns-in_err-second-clause-counted c = grows_not (document_of c.args.self.now) _ c.args.self.now.pass (account_of (sets_of c.args.self.now) c.args.examined.now)

pub examine_each-requires-clause-ones : goal.examine_each-requires-clause-ones
examine_each-requires-clause-ones c = members_at (sets_of c.args.self.now) c.args.pair.one c.in_ok-first.first.now c.in_ok-first.ensures c.deref.result.now c.deref.ensures.value

pub examine_each-requires-clause-others : goal.examine_each-requires-clause-others
examine_each-requires-clause-others c = members_at (sets_of c.args.self.now) c.args.pair.other c.in_ok-second.second.now c.in_ok-second.ensures c.deref-2.result.now c.deref-2.ensures.value

pub returns-in_err-examine_each-clause-counted : goal.returns-in_err-examine_each-clause-counted
returns-in_err-examine_each-clause-counted c =
    by_members c.args.self.now c.requires.sets c.args.pair.one c.args.pair.other c.in_ok-first.first.now c.in_ok-second.second.now c.in_ok-first.ensures c.in_ok-second.ensures c.deref.result.now c.deref-2.result.now c.deref.ensures.value c.deref-2.ensures.value
    c.args.examined.now c.examine_each.new.examined c.in_err-examine_each.ensures.counted

pub returns-then-are_empty-clause-examined : goal.returns-then-are_empty-clause-examined
returns-then-are_empty-clause-examined c =
    let e = c.args.self.now in
    let w = sets_of e in
    let s = schema_of e in
    let d = document_of e in
    let a = set_at w c.args.pair.one in
    let b = set_at w c.args.pair.other in
    let ones = c.deref.result.now in
    let others = c.deref-2.result.now in
    let none = c.are_empty.ensures c.if-are_empty.true in
    let open_one : IsOpened d a ones [] = opened_at e c.requires.sets c.args.pair.one c.in_ok-first.first.now c.in_ok-first.ensures ones c.deref.ensures.value [] [] [] (sym none.0 ∙ c.deref-3.ensures.value) tt refl in
    let open_other : IsOpened d b others [] = opened_at e c.requires.sets c.args.pair.other c.in_ok-second.second.now c.in_ok-second.ensures others c.deref-2.ensures.value [] [] [] (sym none.1 ∙ c.deref-4.ensures.value) tt refl in
    let old = kept_of w c.args.examined.now in
    let mid = kept_of w c.examine_each.new.examined in
    let paired = c.in_ok-examine_each.ensures.examined in
    (paired.0, (paired.1.0, (paired.1.1.0, (paired.1.1.1.0, pair_examined e.pass s d a b ones others [] [] open_one open_other old mid mid paired.0 paired.1.0 paired.1.1.1.1 (looks_none mid)))))

pub returns-then-are_empty-clause-counted : goal.returns-then-are_empty-clause-counted
returns-then-are_empty-clause-counted c =
    by_members c.args.self.now c.requires.sets c.args.pair.one c.args.pair.other c.in_ok-first.first.now c.in_ok-second.second.now c.in_ok-first.ensures c.in_ok-second.ensures c.deref.result.now c.deref-2.result.now c.deref.ensures.value c.deref-2.ensures.value
    c.args.examined.now c.examine_each.new.examined c.in_ok-examine_each.ensures.counted

pub returns-in_err-starts-clause-counted : goal.returns-in_err-starts-clause-counted
returns-in_err-starts-clause-counted c =
    by_members c.args.self.now c.requires.sets c.args.pair.one c.args.pair.other c.in_ok-first.first.now c.in_ok-second.second.now c.in_ok-first.ensures c.in_ok-second.ensures c.deref.result.now c.deref-2.result.now c.deref.ensures.value c.deref-2.ensures.value
    c.args.examined.now c.examine_each.new.examined c.in_ok-examine_each.ensures.counted

pub returns-in_err-look_at_each-clause-counted : goal.returns-in_err-look_at_each-clause-counted
returns-in_err-look_at_each-clause-counted c =
    and_no_more c.args.self.now c.requires.sets c.args.pair.one c.args.pair.other c.in_ok-first.first.now c.in_ok-second.second.now c.in_ok-first.ensures c.in_ok-second.ensures c.deref.result.now c.deref-2.result.now c.deref.ensures.value c.deref-2.ensures.value
    c.args.examined.now c.examine_each.new.examined c.look_at_each.new.self c.in_ok-examine_each.ensures.counted (ap (λ b. b.0) c.in_err-look_at_each.ensures.beside)

pub returns-in_err-starts-2-clause-counted : goal.returns-in_err-starts-2-clause-counted
returns-in_err-starts-2-clause-counted c =
    and_no_more c.args.self.now c.requires.sets c.args.pair.one c.args.pair.other c.in_ok-first.first.now c.in_ok-second.second.now c.in_ok-first.ensures c.in_ok-second.ensures c.deref.result.now c.deref-2.result.now c.deref.ensures.value c.deref-2.ensures.value
    c.args.examined.now c.examine_each.new.examined c.look_at_each.new.self c.in_ok-examine_each.ensures.counted (ap (λ b. b.0) c.in_ok-look_at_each.ensures.beside)

pub returns-clause-examined : goal.returns-clause-examined
returns-clause-examined c =
    let e = c.args.self.now in
    let w = sets_of e in
    let s = schema_of e in
    let d = document_of e in
    let a = set_at w c.args.pair.one in
    let b = set_at w c.args.pair.other in
    let ones = c.deref.result.now in
    let others = c.deref-2.result.now in
    let vs = meant_sets w c.deref-6.result.now in
    let ws = meant_sets w c.deref-8.result.now in
    let open_one : IsOpened d a ones vs = opened_at e c.requires.sets c.args.pair.one c.in_ok-first.first.now c.in_ok-first.ensures ones c.deref.ensures.value c.deref-5.result.now _ c.deref-6.result.now c.deref-5.ensures.value
    c.in_ok-starts.ensures c.deref-6.ensures.value in
    let open_other : IsOpened d b others ws = opened_at e c.requires.sets c.args.pair.other c.in_ok-second.second.now c.in_ok-second.ensures others c.deref-2.ensures.value c.deref-7.result.now _ c.deref-8.result.now
    c.deref-7.ensures.value c.in_ok-starts-2.ensures c.deref-8.ensures.value in
    let old = kept_of w c.args.examined.now in
    let mid = kept_of w c.examine_each.new.examined in
    let half = kept_of w c.look_at_each.new.self in
    let new = kept_of w c.look_before_each.new.self in
    let paired = c.in_ok-examine_each.ensures.examined in
    on_ok_weaker c.look_before_each.result
    (λ other. (
      paired.0,
      (
        paired.1.0,
        (
          paired.1.1.0,
          (
            ap (λ b. b.1) (c.look_before_each.ensures.beside ∙ c.in_ok-look_at_each.ensures.beside) ∙ paired.1.1.1.0,
            pair_examined e.pass s d a b ones others vs ws open_one open_other old mid new paired.0 paired.1.0 paired.1.1.1.1
                (looks_both (each_with vs b) (with_each a ws) mid half new c.in_ok-look_at_each.ensures.looks other),
          ),
        ),
      ),
    ))
    c.look_before_each.ensures.looks

pub returns-clause-counted : goal.returns-clause-counted
returns-clause-counted c =
    and_no_more c.args.self.now c.requires.sets c.args.pair.one c.args.pair.other c.in_ok-first.first.now c.in_ok-second.second.now c.in_ok-first.ensures c.in_ok-second.ensures c.deref.result.now c.deref-2.result.now c.deref.ensures.value c.deref-2.ensures.value
    c.args.examined.now c.examine_each.new.examined c.look_before_each.new.self c.in_ok-examine_each.ensures.counted (ap (λ b. b.0) (c.look_before_each.ensures.beside ∙ c.in_ok-look_at_each.ensures.beside))
