-- The bytes of answers and of their lines.
use Rattle.std.proofs.Common.{◌≡◌, ℕ, ◌+◌, ◌<◌, List, [], ◌∷◌, ◌++◌, length, map, take, get_or, Option, String, string_bytes, sym, ap, ◌∙◌}
use Rattle.std.specs.Prelude.{Result, Ok, Err, IfOk}
use Rattle.std.specs.List.{flat_map}
use Rattle.std.proofs.lemmas.List.{append_assoc, map_more, flat_map_more}

-- three texts, grouped from the end and from the front
pub three_texts : (a b c : List ℕ) → a ++ (b ++ c) ≡ (a ++ b) ++ c
three_texts a b c = sym (append_assoc a b c)

-- four texts
pub four_texts : (a b c d : List ℕ) → a ++ (b ++ (c ++ d)) ≡ ((a ++ b) ++ c) ++ d
four_texts a b c d = three_texts a b (c ++ d) ∙ three_texts (a ++ b) c d

-- a text that is made, by other words for its bytes
pub made_as : {Z E : Type 0} (made : Result (String Z) E) (bytes other : List ℕ) → bytes ≡ other → IfOk made (λ text. string_bytes text ≡ bytes) → IfOk made (λ text. string_bytes text ≡ other)
made_as (Ok text) bytes other same h = h ∙ same
made_as (Err refused) bytes other same h = tt

-- one more line after others
pub lines_more : {A B : Type 0} (line : B → List ℕ) (of : A → B) (start : List ℕ) (told : List A) (i : ℕ) (fault : A) → i < length told → fault ≡ get_or told i fault
    → (start ++ flat_map line (map of (take i told))) ++ line (of fault) ≡ start ++ flat_map line (map of (take (i + 1) told))
lines_more line of start told i fault inside is =
    flat_map_more line start (map of (take i told)) (of fault)
    ∙ ap (λ faults. start ++ flat_map line faults) (ap (λ f. map of (take i told) ++ of f ∷ []) is ∙ sym (map_more of told i fault inside))
