-- Texts that are made of parts.
use Rattle.std.proofs.Common.{◌≡◌, ℕ, List, ◌++◌, String, string_bytes, sym, ap, ◌∙◌}
use Rattle.std.specs.Prelude.{Result, Ok, Err, IfOk, OnOk, is_ok, if◌then◌else◌}
use Rattle.std.proofs.lemmas.List.{append_assoc}

-- parts, grouped from the end and from the front
three : (a b c : List ℕ) → a ++ (b ++ c) ≡ (a ++ b) ++ c
three a b c = sym (append_assoc a b c)

pub four : (a b c d : List ℕ) → a ++ (b ++ (c ++ d)) ≡ ((a ++ b) ++ c) ++ d
four a b c d = three a b (c ++ d) ∙ three (a ++ b) c d

pub five : (a b c d e : List ℕ) → a ++ (b ++ (c ++ (d ++ e))) ≡ (((a ++ b) ++ c) ++ d) ++ e
five a b c d e = three a b (c ++ (d ++ e)) ∙ four (a ++ b) c d e

six : (a b c d e f : List ℕ) → a ++ (b ++ (c ++ (d ++ (e ++ f)))) ≡ ((((a ++ b) ++ c) ++ d) ++ e) ++ f
six a b c d e f = three a b (c ++ (d ++ (e ++ f))) ∙ five (a ++ b) c d e f

pub seven : (a b c d e f g : List ℕ) → a ++ (b ++ (c ++ (d ++ (e ++ (f ++ g))))) ≡ (((((a ++ b) ++ c) ++ d) ++ e) ++ f) ++ g
seven a b c d e f g = three a b (c ++ (d ++ (e ++ (f ++ g)))) ∙ six (a ++ b) c d e f g

eight : (a b c d e f g h : List ℕ) → a ++ (b ++ (c ++ (d ++ (e ++ (f ++ (g ++ h)))))) ≡ ((((((a ++ b) ++ c) ++ d) ++ e) ++ f) ++ g) ++ h
eight a b c d e f g h = three a b (c ++ (d ++ (e ++ (f ++ (g ++ h))))) ∙ seven (a ++ b) c d e f g h

nine : (a b c d e f g h i : List ℕ) → a ++ (b ++ (c ++ (d ++ (e ++ (f ++ (g ++ (h ++ i))))))) ≡ (((((((a ++ b) ++ c) ++ d) ++ e) ++ f) ++ g) ++ h) ++ i
nine a b c d e f g h i = three a b (c ++ (d ++ (e ++ (f ++ (g ++ (h ++ i)))))) ∙ eight (a ++ b) c d e f g h i

-- seven parts, and eight, after a text
pub seven_after : (a b c d e f g h : List ℕ) → ((((((a ++ b) ++ c) ++ d) ++ e) ++ f) ++ g) ++ h ≡ a ++ ((((((b ++ c) ++ d) ++ e) ++ f) ++ g) ++ h)
seven_after a b c d e f g h = sym (eight a b c d e f g h) ∙ ap (λ l. a ++ l) (seven b c d e f g h)

pub eight_after : (a b c d e f g h i : List ℕ) → (((((((a ++ b) ++ c) ++ d) ++ e) ++ f) ++ g) ++ h) ++ i ≡ a ++ (((((((b ++ c) ++ d) ++ e) ++ f) ++ g) ++ h) ++ i)
eight_after a b c d e f g h i = sym (nine a b c d e f g h i) ∙ ap (λ l. a ++ l) (eight b c d e f g h i)

-- three parts, one after another
pub between : (old a b c first second : List ℕ) → first ≡ old ++ a → second ≡ first ++ b → second ++ c ≡ old ++ (a ++ b ++ c)
between old a b c first second p q = ap (λ l. l ++ c) (q ∙ ap (λ l. l ++ b) p ∙ append_assoc old a b) ∙ append_assoc old (a ++ b) c

-- a text that is pushed, by other words for what is there then
pub pushed_as : {T E : Type 0} (r : Result T E) (old given new other : List ℕ) → new ≡ (if is_ok r then old ++ given else old) → old ++ given ≡ other → OnOk r (new ≡ other)
pushed_as (Ok x) old given new other e same = e ∙ same
pushed_as (Err x) old given new other e same = tt

-- what is left on success, by other words for it
pub left_as : {T E : Type 0} (r : Result T E) (new bytes other : List ℕ) → bytes ≡ other → OnOk r (new ≡ bytes) → OnOk r (new ≡ other)
left_as (Ok x) new bytes other same e = e ∙ same
left_as (Err x) new bytes other same e = tt

-- a text that is made, by other words for its bytes
pub made_as : {Z E : Type 0} (made : Result (String Z) E) (bytes other : List ℕ) → bytes ≡ other → IfOk made (λ text. string_bytes text ≡ bytes) → IfOk made (λ text. string_bytes text ≡ other)
made_as (Ok text) bytes other same h = h ∙ same
made_as (Err refused) bytes other same h = tt
