use Rattle.std.proofs.Common.{◌≡◌, ◌++◌, ◌-◌, ◌/◌, ◌%◌, ◌==◌, not, true, get_or, set, replicate, bit_and, bit_or, sym, subst, ◌∙◌}
use Rattle.std.specs.Int.{bit_at}
use Rattle.std.proofs.lemmas.List.{get_or_default}
use Rattle.list_interner.specs.Bits.{has}
use Rattle.list_interner.proofs.Words.{one_bit, was_set, is_set, others_stay}
use Rattle.list_interner.proofs.bits.Bits.mark.Goals as goal

pub returns : goal.returns
returns c =
    let b = c.args.self.now in
    let number = c.args.number in
    let place = number / 64 - b.before in
    let word = c.index-word.result.now in
    let same : get_or b.words.items place 0 ≡ word = get_or_default b.words.items place 0 word c.requires.kept ∙ sym c.index-word.ensures in (
      subst (λ w. (bit_and w (one_bit (number % 64)) == 0) ≡ not (has b number)) same (was_set b.before b.words.items number c.requires.above c.requires.kept),
      (
        subst (λ w. (bit_at (get_or (replicate b.before 0 ++ set b.words.items place (bit_or w (one_bit (number % 64)))) (number / 64) 0) (number % 64) == 1) ≡ true) same
            (is_set b.before b.words.items number c.requires.above c.requires.kept),
        λ n differ. subst (λ w. (bit_at (get_or (replicate b.before 0 ++ set b.words.items place (bit_or w (one_bit (number % 64)))) (n / 64) 0) (n % 64) == 1) ≡ has b n) same
            (others_stay b.before b.words.items number c.requires.above c.requires.kept n differ),
      ),
    )
