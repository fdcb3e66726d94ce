-- The pieces of a text, one after the other, each replaced.
use Rattle.std.proofs.Common.{◌≡◌, ◌⊎◌, ℕ, ◌-◌, ◌<◌, ◌≤◌, true, false, ◌==◌, List, [], ◌∷◌, ◌++◌, length, take, drop, sym, ap, ◌∙◌, subst, inl, inr, arith, append_assoc, append-nil, eqb-true, IsUtf8}
use Rattle.std.specs.List.{prefix_len}
use Rattle.std.proofs.lemmas.List.{length-drop}
use Rattle.std.proofs.lemmas.Str.{IsUtf8-drop}
use Rattle.read_tokens.specs.Bytes.{begins_with, replaced}
use Rattle.read_tokens.specs.Values.{is_plain}
use Rattle.read_tokens.proofs.Ends.{EndsAt}
use Rattle.read_tokens.proofs.Values.{Keeps, ends_boundary, nothing_replaced, plain_boundary, plain_ends, replaced_plain, replaced_step}

-- ---- loops over the pieces of a text

abbrev pub Begins : List ℕ → Type 0
Begins text = begins_with (92 ∷ []) text ≡ true

abbrev pub plain_of : List ℕ → ℕ
plain_of text = prefix_len is_plain text

pub plain_utf8 : (text rest : List ℕ) → rest ≡ drop (plain_of text) text → IsUtf8 text → IsUtf8 rest
plain_utf8 text rest e utf8 = subst IsUtf8 (sym e) (IsUtf8-drop text (plain_of text) utf8 (plain_boundary text))

pub plain_begins : (text rest : List ℕ) → rest ≡ drop (plain_of text) text → (rest ≡ []) ⊎ Begins rest
plain_begins text rest e = subst (λ (bytes : List ℕ). (bytes ≡ []) ⊎ Begins bytes) (sym e) (plain_ends text)

pub plain_within : (text rest : List ℕ) → rest ≡ drop (plain_of text) text → length rest ≤ length text
plain_within text rest e =
    let size : length rest ≡ length text - plain_of text = ap (length {A = ℕ}) e ∙ length-drop (plain_of text) text in
    omega arith

pub plain_so_far : (rule : List ℕ → List ℕ × ℕ) → Keeps rule → (old new text rest : List ℕ) → new ≡ old ++ take (plain_of text) text → rest ≡ drop (plain_of text) text
    → new ++ replaced rule 0 rest ≡ old ++ replaced rule 0 text
plain_so_far rule keeps old new text rest a b =
    ap (λ (bytes : List ℕ). bytes ++ replaced rule 0 rest) a ∙ ap (λ (bytes : List ℕ). (old ++ take (plain_of text) text) ++ replaced rule 0 bytes) b
    ∙ append_assoc old (take (plain_of text) text) (replaced rule 0 (drop (plain_of text) text)) ∙ ap (λ (bytes : List ℕ). old ++ bytes) (sym (replaced_plain rule keeps text))

abbrev pub EndsWell : (List ℕ → List ℕ × ℕ) → Type 0
EndsWell rule = (text : List ℕ) → Begins text → EndsAt text (rule text).1

pub piece_utf8 : (rule : List ℕ → List ℕ × ℕ) → EndsWell rule → (text rest : List ℕ) → Begins text → rest ≡ drop (rule text).1 text → IsUtf8 text → IsUtf8 rest
piece_utf8 rule ends text rest begins e utf8 = subst IsUtf8 (sym e) (IsUtf8-drop text (rule text).1 utf8 (ends_boundary text (rule text).1 (ends text begins) utf8))

pub piece_shorter : (rule : List ℕ → List ℕ × ℕ) → EndsWell rule → (text rest : List ℕ) → Begins text → rest ≡ drop (rule text).1 text → length rest < length text
piece_shorter rule ends text rest begins e =
    let n : ℕ = (rule text).1 in
    let some : 0 < n = (ends text begins).some in
    let within : n ≤ length text = (ends text begins).within in
    let size : length rest ≡ length text - n = ap (length {A = ℕ}) e ∙ length-drop n text in
    omega arith

piece_step : (rule : List ℕ → List ℕ × ℕ) → EndsWell rule → (text : List ℕ) → Begins text → replaced rule 0 text ≡ (rule text).0 ++ replaced rule 0 (drop (rule text).1 text)
piece_step rule ends [] begins = absurd cc
piece_step rule ends (b ∷ text) begins = replaced_step rule b text (ends (b ∷ text) begins).some

pub piece_so_far : (rule : List ℕ → List ℕ × ℕ) → EndsWell rule → (old new text rest : List ℕ) → Begins text → new ≡ old ++ (rule text).0 → rest ≡ drop (rule text).1 text
    → new ++ replaced rule 0 rest ≡ old ++ replaced rule 0 text
piece_so_far rule ends old new text rest begins a b =
    ap (λ (bytes : List ℕ). bytes ++ replaced rule 0 rest) a ∙ ap (λ (bytes : List ℕ). (old ++ (rule text).0) ++ replaced rule 0 bytes) b
    ∙ append_assoc old (rule text).0 (replaced rule 0 (drop (rule text).1 text)) ∙ ap (λ (bytes : List ℕ). old ++ bytes) (sym (piece_step rule ends text begins))

pub begins_now : (text : List ℕ) → (text ≡ []) ⊎ Begins text → (length text == 0) ≡ false → Begins text
begins_now text (inr begins) h = begins
begins_now [] (inl e) h = absurd cc
begins_now (b ∷ text) (inl e) h = absurd cc

pub so_far_end : (rule : List ℕ → List ℕ × ℕ) (out all rest : List ℕ) → (length rest == 0) ≡ true → out ++ replaced rule 0 rest ≡ all → out ≡ all
so_far_end rule out all [] h e = sym (append-nil out) ∙ ap (λ (bytes : List ℕ). out ++ bytes) (sym (nothing_replaced rule)) ∙ e
so_far_end rule out all (b ∷ rest) h e = let none : length (b ∷ rest) ≡ 0 = eqb-true (length (b ∷ rest)) 0 h in absurd (omega arith)
