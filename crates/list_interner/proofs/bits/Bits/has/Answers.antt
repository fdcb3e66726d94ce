use Rattle.std.proofs.Common.{◌≡◌, ◌-◌, ◌/◌, ◌<◌, ◌∙◌, List, ℕ, length, get_or, ltb-true, sym, ap, subst, arith}
use Rattle.std.proofs.lemmas.List.{get_or_default}
use Rattle.list_interner.proofs.Words.{bit_is}
use Rattle.list_interner.proofs.bits.Bits.has.Goals as goal

pub returns-in-Some : goal.returns-in-Some
returns-in-Some c =
    let b = c.args.self.now in
    let place = c.args.number / 64 - b.before in
    let word = c.in-Some.word.now in
    let within : place < length b.words.items = subst (λ (l : List ℕ). place < length l) c.deref.ensures.value (ltb-true place (length c.deref.result.now) (sym c.in-Some.ensures.lookup.0)) in
    let is : word ≡ get_or b.words.items place word = c.in-Some.ensures.lookup.1 ∙ ap (λ l. get_or l place word) c.deref.ensures.value in
    bit_is b.before b.words.items c.args.number word (omega (arith, c.if-word-self.false)) (is ∙ sym (get_or_default b.words.items place 0 word within))
