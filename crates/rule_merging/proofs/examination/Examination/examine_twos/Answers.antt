use Rattle.std.proofs.Common.{◌≡◌, ◌∙◌, ◌<◌, ◌+◌, ℕ, ◌∷◌, ◌++◌, [], List, Contains, drop, get_or, take, length, map, refl, sym, ap, subst, arith}
use Rattle.std.proofs.lemmas.List.{map-append, take-append-drop, take_all, get_or_default}
use Rattle.std.proofs.lemmas.List.Elements.{Contains-append_left, Contains-append_right}
use Rattle.graphql_names.specs.Placed.{Place}
use Rattle.rule_field_groups.specs.in_spec_document.MeantTree.{MeantSet, MeantOperation, MeantDocument}
use Rattle.rule_field_groups.specs.in_sets.in_reach.Broken.{brokens_of}
use Rattle.rule_field_groups.specs.in_sets.Read.{set_at}
use Rattle.rule_field_groups.specs.Under.{Sets, sets_in}
use Rattle.rule_field_groups.specs.Members.{meant_sets}
use Rattle.rule_merging.specs.Counted.{AreListed}
use Rattle.rule_field_groups.specs.MergeState.{account_of, kept_of}
use Rattle.rule_merging.specs.Examined.{schema_of, document_of, sets_of, ExaminesTwos}
use Rattle.rule_field_groups.specs.Pairs.{AreTwosOf}
use Rattle.rule_field_groups.specs.Pairs.{each_with}
use Rattle.rule_field_groups.proofs.Looking.{one_more_of, no_twos, twos_more}
use Rattle.rule_merging.proofs.Pairing.{brokens_long}
use Rattle.rule_merging.proofs.PairStep.{twos_none, twos_step, sets_told}
use Rattle.rule_merging.proofs.Counting.{grows_not, grows_with, part_listed}
use Rattle.rule_merging.specs.declared.examination.Examination.{Examination}
use Rattle.rule_merging.proofs.examination.Examination.examine_twos.Goals as goal

-- the first of some things are among them
among : {X Y : Type 0} (f : X → Y) (xs : List X) (i : ℕ) (y : Y) → Contains (map f (take i xs)) y → Contains (map f xs) y
among f xs i y c = subst (λ l. Contains (map f l) y) (take-append-drop i xs) (subst (λ l. Contains l y) (sym (map-append f (take i xs) (drop i xs))) (Contains-append_left (map f (take i xs)) (map f (drop i xs)) y c))

-- pairs of the first sets select what the sets do
pairs_listed : (d : MeantDocument Place) (os : List (MeantOperation Place)) (sets front : Sets) (v : MeantSet Place) (twos : List Sets) → AreTwosOf front twos
    → ((u : MeantSet Place) → Contains (front ++ v ∷ []) u → Contains sets u) → AreListed d os (sets ∷ []) → AreListed d os (each_with (front ++ v ∷ []) v)
pairs_listed d os sets front v twos are within listed = part_listed d os sets (each_with (front ++ v ∷ []) v) listed (λ part c u k.
    within u ((twos_more front v twos are).within part (Contains-append_right twos (each_with (front ++ v ∷ []) v) part c) u k))

-- the next node
module _ (e : Examination) (xs : List ℕ) (i : ℕ) (h : i < length xs) (seen : ℕ) (was : seen ≡ i) where
  abbrev node : ℕ
  node = get_or xs i 0

  abbrev front : Sets
  front = meant_sets (sets_of e) (take i xs)

  is : node ≡ get_or xs i node
  is = get_or_default xs i 0 node h

  all_seen : meant_sets (sets_of e) (take (i + 1) xs) ≡ front ++ set_at (sets_of e) node ∷ []
  all_seen = one_more_of (set_at (sets_of e)) xs i node h is

  front_seen : meant_sets (sets_of e) (take (seen + 1) xs) ≡ front ++ set_at (sets_of e) node ∷ []
  front_seen = ap (λ k. meant_sets (sets_of e) (take (k + 1) xs)) was ∙ all_seen

  -- what is given of the sets is given of the pairs
  listed_here : (d : MeantDocument Place) (os : List (MeantOperation Place)) (twos : List Sets) → AreTwosOf front twos → AreListed d os (meant_sets (sets_of e) xs ∷ [])
      → AreListed d os (each_with (meant_sets (sets_of e) (take (seen + 1) xs)) (set_at (sets_of e) node))
  listed_here d os twos are listed =
      subst (λ (l : Sets). AreListed d os (each_with l (set_at (sets_of e) node))) (sym front_seen)
      (pairs_listed d os (meant_sets (sets_of e) xs) front (set_at (sets_of e) node) twos are (λ u c. among (set_at (sets_of e)) xs (i + 1) u (subst (λ (l : Sets). Contains l u) (sym all_seen) c)) listed)

pub loop-node-init : goal.loop-node-init
loop-node-init c =
    let e = c.args.self.now in
    let w = sets_of e in
    record {
      seen = refl;
      examined = ([], (no_twos, twos_none e.pass (schema_of e) (document_of e) (kept_of w c.args.examined.now) (brokens_of c.args.breaches.now) (sets_in w c.args.examined.now.next)));
      counted = grows_not (document_of e) _ e.pass (account_of w c.args.examined.now);
    }

pub returns-in_err-examine_with_those-clause-counted : goal.returns-in_err-examine_with_those-clause-counted
returns-in_err-examine_with_those-clause-counted c =
    let e = c.args.self.now in
    let w = sets_of e in
    let d = document_of e in
    let xs = c.args.nodes.now in
    let i = c.loop-node.node-index in
    let h : i < length xs = omega arith in
    let inv = c.loop-node.invariant in
    grows_with d _ _ e.pass (account_of w c.args.examined.now) (account_of w c.loop-node.examined) (account_of w c.examine_with_those.new.examined)
    inv.counted (λ os. listed_here e xs i h c.loop-node.seen inv.seen d os inv.examined.0 inv.examined.1.0) c.in_err-examine_with_those.ensures.counted

pub loop-node-preserved : goal.loop-node-preserved
loop-node-preserved c =
    let e = c.args.self.now in
    let w = sets_of e in
    let d = document_of e in
    let xs = c.args.nodes.now in
    let i = c.loop-node.node-index in
    let h : i < length xs = omega arith in
    let inv = c.loop-node.invariant in
    let seen = c.loop-node.seen in
    let v = set_at w (get_or xs i 0) in
    let before = meant_sets w (take i xs) in
    let old = kept_of w c.args.examined.now in
    let mid = kept_of w c.loop-node.examined in
    let new = kept_of w c.examine_with_those.new.examined in
    let next = sets_in w c.args.examined.now.next in
    let between = sets_in w c.loop-node.examined.next in
    let later = sets_in w c.examine_with_those.new.examined.next in
    let twos = inv.examined.0 in
    let more = each_with (before ++ v ∷ []) v in
    let here : ExaminesTwos e more mid new c.loop-node.breaches c.examine_with_those.new.breaches between later = subst (λ (l : Sets). ExaminesTwos e (each_with l v) mid new c.loop-node.breaches c.examine_with_those.new.breaches between later)
    (front_seen e xs i h seen inv.seen) c.in_ok-examine_with_those.ensures.examined in
    record {
      seen = omega (arith, inv.seen);
      examined = subst (λ (l : Sets). (twos : List Sets) × (AreTwosOf l twos × ExaminesTwos e twos old new c.args.breaches.now c.examine_with_those.new.breaches next later)) (sym (all_seen e xs i h seen inv.seen)) (
        twos ++ more,
        (
          twos_more before v twos inv.examined.1.0,
          twos_step e.pass (schema_of e) d twos more old mid new (brokens_of c.args.breaches.now) (brokens_of c.loop-node.breaches) (brokens_of c.examine_with_those.new.breaches) next between later inv.examined.1.1 here,
        ),
      );
      counted = grows_with d _ _ e.pass (account_of w c.args.examined.now) (account_of w c.loop-node.examined) (account_of w c.examine_with_those.new.examined)
          inv.counted (λ os. listed_here e xs i h seen inv.seen d os twos inv.examined.1.0) c.in_ok-examine_with_those.ensures.counted;
    }

pub returns-clause-examined : goal.returns-clause-examined
returns-clause-examined c =
    let e = c.args.self.now in
    let w = sets_of e in
    let xs = c.args.nodes.now in
    let i = c.loop-node.node-index in
    sets_told e.pass (schema_of e) (document_of e) (meant_sets w xs) (meant_sets w (take i xs)) (kept_of w c.args.examined.now) (kept_of w c.loop-node.examined) (brokens_of c.args.breaches.now) (brokens_of c.loop-node.breaches)
    (sets_in w c.args.examined.now.next) (sets_in w c.loop-node.examined.next) (among (set_at w) xs i) (λ same. ap (meant_sets w) (take_all i xs c.loop-node-test.false)) c.loop-node.invariant.examined

pub returns-clause-counted : goal.returns-clause-counted
returns-clause-counted c = c.loop-node.invariant.counted

pub returns-then-is_told-clause-examined : goal.returns-then-is_told-clause-examined
returns-then-is_told-clause-examined c =
    let e = c.args.self.now in
    let w = sets_of e in
    let xs = c.args.nodes.now in
    let i = c.loop-node.node-index in
    sets_told e.pass (schema_of e) (document_of e) (meant_sets w xs) (meant_sets w (take i xs)) (kept_of w c.args.examined.now) (kept_of w c.loop-node.examined) (brokens_of c.args.breaches.now) (brokens_of c.loop-node.breaches)
    (sets_in w c.args.examined.now.next) (sets_in w c.loop-node.examined.next) (among (set_at w) xs i)
    (λ same. absurd (omega (
      arith,
      ap length same,
      brokens_long c.args.breaches.now c.loop-node.breaches (omega (arith, c.len-told.ensures, c.is_told.ensures c.if-is_told.true, ap length c.deref.ensures.value)),
    ))) c.loop-node.invariant.examined

pub returns-then-is_told-clause-counted : goal.returns-then-is_told-clause-counted
returns-then-is_told-clause-counted c = c.loop-node.invariant.counted
