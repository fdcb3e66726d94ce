use Rattle.std.proofs.Common.{◌≡◌, ◌∙◌, ◌<◌, ◌≤◌, ℕ, List, length, get_or, slice_get, Option, None, Some, sym, ap, subst}
use Rattle.std.specs.Borrow.{Bor}
use Rattle.std.specs.List.{HoldsAt}
use Rattle.std.specs.Option.{option_map, MatchOption, IfSome}
use Rattle.std.proofs.lemmas.Option.{slice_get_past, slice_get-get_or}
use Rattle.rule_field_sets.specs.declared.member.SetNode.{SetNode}
use Rattle.rule_field_sets.proofs.field_sets.FieldSets.get.Goals as goal

got : (o : Option (Bor SetNode)) (xs : List SetNode) (i : ℕ) → IfSome o (λ x. x.now ≡ get_or xs i x.now)
    → MatchOption o (length xs ≤ i) (λ x. (i < length xs) × HoldsAt (λ y. x.now ≡ y) xs i) → option_map (λ v. v.now) o ≡ slice_get xs i
got None xs i is within = sym (slice_get_past xs i within)
got (Some x) xs i is within = ap (λ v. Some v) is ∙ sym (slice_get-get_or xs i x.now within.0)

pub returns : goal.returns
returns c =
    let h = c.get.ensures.lookup in
    got c.get.result c.deref.result.now c.args.node h.1 h.3 ∙ ap (λ l. slice_get l c.args.node) c.deref.ensures.value
