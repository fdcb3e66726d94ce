-- What is shown has no control character.
use Rattle.std.proofs.Common.{◌≡◌, ℕ, zero, suc, ◌+◌, ◌<◌, Bool, true, false, cond, List, [], ◌∷◌, ◌++◌, All, refl, sym, ◌∙◌, ap, subst, arith, inl, inr, flat_map, append-nil}
use Rattle.std.proofs.lemmas.Bool.Decides.{leb_tells, nat_tests}
use Rattle.std.proofs.lemmas.List.Concat.{flat_map-append}
use Rattle.std.proofs.lemmas.List.Elements.{All-append}
use Rattle.std.proofs.lemmas.Str.{encodes-append, encodes_same, encodes-chars}
use Rattle.std.specs.Prelude.{nat_lt, ◌==◌}
use Rattle.std.specs.Str.{chars, encode_utf8_all, IsUtf8}
use Rattle.report_forms.specs.Shown.{is_control, visible_character, shown_character, HasNoControl}

-- one more character
pub shown_more : (out old ys : List ℕ) (c : ℕ) → out ≡ old ++ encode_utf8_all (shown_character c) → old ≡ encode_utf8_all (flat_map shown_character ys)
    → out ≡ encode_utf8_all (flat_map shown_character (ys ++ c ∷ []))
shown_more out old ys c e h =
    e ∙ ap (λ l. l ++ encode_utf8_all (shown_character c)) h ∙ sym (encodes-append (flat_map shown_character ys) (shown_character c))
    ∙ ap encode_utf8_all (sym (flat_map-append shown_character ys (c ∷ []) ∙ ap (λ l. flat_map shown_character ys ++ l) (append-nil (shown_character c))))

-- a picture is no control
picture : (c : ℕ) → c < 32 → is_control (9216 + c) ≡ false
picture c less = grind (arith, nat_tests)

lies_in : (c : ℕ) → is_control (visible_character c) ≡ false
lies_in c = elim (is_control c) as (λ b. is_control c ≡ b → is_control (cond b (cond (nat_lt c 32) (9216 + c) (cond (c == 127) 9249 0xFFFD)) c) ≡ false) [
  | true ↦ λ e. elim (leb_tells (suc c) 32) [
    | inl h ↦ ap (λ b. is_control (cond b (9216 + c) (cond (c == 127) 9249 0xFFFD))) h.0 ∙ picture c (omega (arith, h.1))
    | inr h ↦ ap (λ b. is_control (cond b (9216 + c) (cond (c == 127) 9249 0xFFFD))) h.0 ∙ either (c == 127)
  ]
  | false ↦ λ e. e
] refl
  where
    either : (b : Bool) → is_control (cond b 9249 0xFFFD) ≡ false
    either true = refl
    either false = refl

one : (x : ℕ) → is_control x ≡ false → All (λ c. is_control c ≡ false) (x ∷ [])
one x h zero d less = h
one x h (suc k) d less = absurd (omega arith)

spaces : All (λ c. is_control c ≡ false) (32 ∷ 32 ∷ 32 ∷ 32 ∷ [])
spaces = All-append (λ c. is_control c ≡ false) (32 ∷ []) (32 ∷ 32 ∷ 32 ∷ []) (one 32 refl)
    (All-append (λ c. is_control c ≡ false) (32 ∷ []) (32 ∷ 32 ∷ []) (one 32 refl)
    (All-append (λ c. is_control c ≡ false) (32 ∷ []) (32 ∷ []) (one 32 refl) (one 32 refl)))

character_shown : (c : ℕ) → All (λ c. is_control c ≡ false) (shown_character c)
character_shown c = elim (c == 9) as (λ b. All (λ c. is_control c ≡ false) (cond b (32 ∷ 32 ∷ 32 ∷ 32 ∷ []) (visible_character c ∷ []))) [
  | true ↦ spaces
  | false ↦ one (visible_character c) (lies_in c)
]

none_at_all : All (λ (c : ℕ). is_control c ≡ false) []
none_at_all k d less = absurd (omega arith)

characters_shown : (cs : List ℕ) → All (λ c. is_control c ≡ false) (flat_map shown_character cs)
characters_shown [] = none_at_all
characters_shown (c ∷ cs) = All-append (λ c. is_control c ≡ false) (shown_character c) (flat_map shown_character cs) (character_shown c) (characters_shown cs)

pub shown-clean : (bytes cs : List ℕ) → IsUtf8 bytes → bytes ≡ encode_utf8_all (flat_map shown_character cs) → HasNoControl bytes
shown-clean bytes cs utf8 e =
    let same : flat_map shown_character cs ≡ chars bytes = encodes_same (flat_map shown_character cs) (chars bytes) (sym e ∙ sym (encodes-chars bytes utf8)) in
    subst (All (λ c. is_control c ≡ false)) same (characters_shown cs)
