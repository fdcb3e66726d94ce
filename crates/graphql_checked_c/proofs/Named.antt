-- Texts that are cut, and their names.
use Rattle.std.proofs.Common.{◌≡◌, ℕ, suc, List, [], ◌∷◌, ◌+◌, length, map, Bor, refl, sym, ap, ◌∙◌}
use Rattle.std.proofs.lemmas.List.{length-map}
use Rattle.ffi_memory.specs.Cut.{ends_of, IsCut}

ends_many : (start : ℕ) (texts : List (List ℕ)) → length (ends_of start texts) ≡ length texts
ends_many start [] = refl
ends_many start (text ∷ texts) = ap suc (ends_many (start + length text) texts)

-- there are as many as ends
pub cut_many : (bytes ends : List ℕ) (pieces : List (Bor (List ℕ))) → IsCut bytes ends (map (λ t. t.now) pieces) → length pieces ≡ length ends
cut_many bytes ends pieces cut =
    sym (length-map pieces (λ (t : Bor (List ℕ)). t.now)) ∙ sym (ends_many 0 (map (λ (t : Bor (List ℕ)). t.now) pieces)) ∙ ap length (sym cut.1)

-- names and texts with as many ends are as many
pub as_many : (names name_ends texts ends : List ℕ) (some others found more : List (Bor (List ℕ))) → IsCut names name_ends (map (λ t. t.now) some) → IsCut texts ends (map (λ t. t.now) others)
    → length name_ends ≡ length ends → found ≡ some → more ≡ others → length found ≡ length more
as_many names name_ends texts ends some others found more cut also same is are =
    ap length is ∙ cut_many names name_ends some cut ∙ same ∙ sym (cut_many texts ends others also) ∙ sym (ap length are)
