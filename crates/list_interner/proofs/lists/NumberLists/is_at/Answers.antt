use Rattle.std.proofs.Common.{◌∙◌, [], List, ℕ, Contains, sym, ap, subst}
use Rattle.std.specs.Option.{option_copied, option_map_or}
use Rattle.list_interner.proofs.Found.{found}
use Rattle.list_interner.proofs.lists.NumberLists.is_at.Goals as goal

pub returns-in-Some : goal.returns-in-Some
returns-in-Some c is =
    let n = c.args.number in
    let there = sym c.get_index.ensures.key ∙ ap option_copied c.in-Some.is in
    subst (λ (l : List ℕ). Contains l n) (c.deref.ensures.value ∙ sym (ap (λ v. option_map_or (λ u. u.items) v []) there))
    (found c.deref.result.now n c.binary_search.result c.binary_search.ensures.bound c.binary_search.ensures.ok (sym c.is_ok.ensures.value ∙ is))
