-- One more character of an escaped text.
use Rattle.std.proofs.Common.{◌≡◌, ℕ, List, [], ◌∷◌, ◌++◌, sym, ◌∙◌, ap, flat_map, append-nil}
use Rattle.std.proofs.lemmas.List.{append_assoc}
use Rattle.std.proofs.lemmas.List.Concat.{flat_map-append}
use Rattle.std.proofs.lemmas.Str.{encodes-append}
use Rattle.std.specs.Str.{encode_utf8_all}

pub mapped_more : (base : List ℕ) (f : ℕ → List ℕ) (out old ys : List ℕ) (c : ℕ) → out ≡ old ++ encode_utf8_all (f c) → old ≡ base ++ encode_utf8_all (flat_map f ys)
    → out ≡ base ++ encode_utf8_all (flat_map f (ys ++ c ∷ []))
mapped_more base f out old ys c e h =
    e ∙ ap (λ l. l ++ encode_utf8_all (f c)) h ∙ append_assoc base (encode_utf8_all (flat_map f ys)) (encode_utf8_all (f c))
    ∙ ap (λ l. base ++ l) (sym (encodes-append (flat_map f ys) (f c))
    ∙ ap encode_utf8_all (sym (flat_map-append f ys (c ∷ []) ∙ ap (λ l. flat_map f ys ++ l) (append-nil (f c)))))
