-- Words in a table.
use Rattle.std.proofs.Common.{◌≡◌, ℕ, ◌+◌, ◌<◌, ◌≤◌, Bool, true, false, cond, ◌==◌, List, [], ◌∷◌, length, map, drop, get_or, refl, sym, ap, ◌∙◌, arith, Bor}
use Rattle.std.specs.Str.{bytes_eq}
use Rattle.std.proofs.lemmas.Bool.{eqb-false, ne_eqb}
use Rattle.std.proofs.lemmas.List.{at_drop_more}
use Rattle.read_tokens.specs.Terminals.{Word, words, spelled}
use Rattle.read_tokens.specs.Words.{starting}
use Rattle.read_tokens.specs.declared.terminal.Terminal.{Terminal}
use Rattle.read_tokens.specs.declared.terminal.Terminal.TheVariants as t

-- a word of the table
abbrev pub Entry : Type 0
Entry = Bor (List ℕ) × Terminal

abbrev pub word_of : Entry → Word
word_of entry = (entry.0.now, entry.1)

abbrev pub spelled_in : List Entry → List ℕ → Terminal
spelled_in entries text = spelled (map word_of entries) text

pub spelled_here : (entry : Entry) (others : List Entry) (text : List ℕ) → bytes_eq entry.0.now text ≡ true → spelled_in (entry ∷ others) text ≡ entry.1
spelled_here entry others text h = rw h refl

pub spelled_after : (entry : Entry) (others : List Entry) (text : List ℕ) → bytes_eq entry.0.now text ≡ false → spelled_in (entry ∷ others) text ≡ spelled_in others text
spelled_after entry others text h = rw h refl

pub word_here : (table : List Entry) (text : List ℕ) (i : ℕ) (d : Entry) → i < length table → bytes_eq (get_or table i d).0.now text ≡ true → spelled_in (drop i table) text ≡ (get_or table i d).1
word_here table text i d within h = at_drop_more (λ (entries : List Entry). spelled_in entries text) table i d within ∙ spelled_here (get_or table i d) (drop (i + 1) table) text h

pub word_after : (table : List Entry) (text : List ℕ) (i : ℕ) (d : Entry) → i < length table → bytes_eq (get_or table i d).0.now text ≡ false → spelled_in (drop i table) text ≡ spelled_in (drop (i + 1) table) text
word_after table text i d within h = at_drop_more (λ (entries : List Entry). spelled_in entries text) table i d within ∙ spelled_after (get_or table i d) (drop (i + 1) table) text h

-- ---- by the first byte

-- the empty text is no keyword
pub nothing_spelled : (text : List ℕ) → length text < 1 → t.Name ≡ spelled words text
unfolding words
nothing_spelled [] h = refl
nothing_spelled (b ∷ text) h = absurd (omega arith)

-- a text spells a word if it spells one of those that begin as it does
starting_spells : (table : List Word) (b : ℕ) (rest : List ℕ) → spelled (starting b table) (b ∷ rest) ≡ spelled table (b ∷ rest)
starting_spells [] b rest = refl
starting_spells (([], symbol) ∷ others) b rest = starting_spells others b rest
starting_spells ((x ∷ xs, symbol) ∷ others) b rest = go (b == x) refl (starting_spells others b rest)
  where
    go : (starts : Bool) → (b == x) ≡ starts → spelled (starting b others) (b ∷ rest) ≡ spelled others (b ∷ rest)
        → spelled (cond starts ((x ∷ xs, symbol) ∷ starting b others) (starting b others)) (b ∷ rest) ≡ spelled ((x ∷ xs, symbol) ∷ others) (b ∷ rest)
    go true e more = ap (λ (other : Terminal). cond (bytes_eq (x ∷ xs) (b ∷ rest)) symbol other) more
    go false e more = let apart : (x == b) ≡ false = ne_eqb x b (λ is. eqb-false b x e (sym is)) in rw apart more

pub first_spells : (text : List ℕ) → 1 ≤ length text → spelled (starting (get_or text 0 0) words) text ≡ spelled words text
first_spells [] h = absurd (omega arith)
first_spells (b ∷ text) h = starting_spells words b text
