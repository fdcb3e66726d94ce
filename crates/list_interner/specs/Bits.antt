-- A set of numbers that is stored as bits: `NumberPairs` and `NumberSet` are made of these.
use Rattle.std.specs.Prelude.{◌≡◌, ◌≢◌, ◌++◌, ℕ, ◌/◌, ◌%◌, ◌==◌, Bool, true, not, List, get_or, replicate}
use Rattle.std.specs.List.{filter, range_with_len}
use Rattle.std.specs.Int.{bit_at}
use Rattle.list_interner.specs.declared.bits.Bits.{Bits}

-- the word with index `k`: a word that is not stored has no bits
abbrev pub word_at : Bits → ℕ → ℕ
word_at b k = get_or (replicate b.before 0 ++ b.words.items) k 0

-- whether the number is in the set
abbrev pub has : Bits → ℕ → Bool
has b n = bit_at (word_at b (n / 64)) (n % 64) == 1

-- the numbers of the set below a bound, in ascending order
abbrev pub bits_below : Bits → ℕ → List ℕ
bits_below b bound = filter (has b) (range_with_len 0 bound)

-- the same words, and so the same numbers
abbrev pub HaveSameBits : Bits → Bits → Type 0
HaveSameBits old new = (k : ℕ) → word_at new k ≡ word_at old k

-- the number is put into the set, and `is_new` tells whether it was not in it before; of all other numbers the same are in it
abbrev pub Sets : Bits → ℕ → Bool → Bits → Type 0
Sets old number is_new new = (is_new ≡ not (has old number)) × ((has new number ≡ true) × ((n : ℕ) → n ≢ number → has new n ≡ has old n))
