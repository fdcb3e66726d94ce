use Rattle.std.proofs.Common.{◌≡◌, ℕ, ◌<◌, ◌++◌, ◌∷◌, [], List, Some, length, slice_get, get_or, take, sym, subst, arith}
use Rattle.std.specs.List.{AllZip}
use Rattle.std.proofs.lemmas.List.{take_all, take_more}
use Rattle.rule_field_sets.specs.Nodes.{fragment_nodes}
use Rattle.rule_field_groups.proofs.nodes.starts_of.Goals as goal

zip_more : {X Y : Type 0} (R : X → Y → Type 0) (xs : List X) (ys : List Y) (x : X) (y : Y) → AllZip R xs ys → R x y → AllZip R (xs ++ x ∷ []) (ys ++ y ∷ [])
zip_more R [] [] x y all one = (one, tt)
zip_more R [] (z ∷ ys) x y all one = absurd all
zip_more R (z ∷ xs) [] x y all one = absurd all
zip_more R (z ∷ xs) (u ∷ ys) x y all one = (all.0, zip_more R xs ys x y all.1 one)

pub loop-fragment-init : goal.loop-fragment-init
loop-fragment-init c = subst (AllZip (λ (p n : ℕ). slice_get (fragment_nodes c.args.sets.now) p ≡ Some n) []) (sym c.in_ok-starts.ensures.items) tt

pub loop-fragment-preserved : goal.loop-fragment-preserved
loop-fragment-preserved c =
    let i = c.loop-fragment.fragment-index in
    let ps = c.args.fragments.now in
    let h : i < length ps = omega arith in
    let old = c.loop-fragment.starts.items in
    subst (λ l. AllZip (λ (p n : ℕ). slice_get (fragment_nodes c.args.sets.now) p ≡ Some n) l c.push.new.self.items) (sym (take_more ps i 0 h))
    (subst (AllZip (λ (p n : ℕ). slice_get (fragment_nodes c.args.sets.now) p ≡ Some n) (take i ps ++ get_or ps i 0 ∷ [])) (sym c.in_ok-push.ensures.items)
    (zip_more (λ (p n : ℕ). slice_get (fragment_nodes c.args.sets.now) p ≡ Some n) (take i ps) old (get_or ps i 0) c.in_ok-start.start c.loop-fragment.invariant c.in_ok-start.ensures))

pub returns : goal.returns
returns c =
    subst (λ l. AllZip (λ (p n : ℕ). slice_get (fragment_nodes c.args.sets.now) p ≡ Some n) l c.loop-fragment.starts.items)
    (take_all c.loop-fragment.fragment-index c.args.fragments.now c.loop-fragment-test.false) c.loop-fragment.invariant
