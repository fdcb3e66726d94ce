-- A text cut at the first of a sign.
use Rattle.std.proofs.Common.{◌≡◌, ◌≢◌, ℕ, ◌<◌, suc, Bool, true, false, not, ◌==◌, ◌&&◌, List, [], ◌∷◌, ◌++◌, length, get_or, Option, None, Some, refl, sym, ap, ◌∙◌, if◌then◌else◌, arith, true≢false}
use Rattle.std.specs.List.{list_all}
use Rattle.std.specs.Option.{option_map}
use Rattle.std.specs.Cmp.{first_so, second_so}
use Rattle.std.proofs.lemmas.Bool.{ne_eqb}
use Rattle.std.proofs.lemmas.Str.Pattern.{IsSplitOnceResult, split_parts}
use Rattle.std.proofs.lemmas.Option.{same_Some}
use denote.Ref.{Bor}
use Rattle.schema_coordinates.specs.Reading.{cut_at}

-- the text has no such sign
abbrev pub lacks : ℕ → List ℕ → Bool
lacks s t = list_all (λ c. not (c == s)) t

eqb-same : (s : ℕ) → (s == s) ≡ true
eqb-same s = grind arith

pub and_true : (a b : Bool) → a ≡ true → b ≡ true → (a && b) ≡ true
and_true a b p q = (λ i. p i && b) ∙ q

pub not-true : (b : Bool) → not b ≡ true → b ≡ false
not-true true h = sym h
not-true false h = refl

lacks-from : (s : ℕ) (t : List ℕ) → ((i : ℕ) → i < length t → get_or t i 0 ≢ s) → lacks s t ≡ true
lacks-from s [] h = refl
lacks-from s (c ∷ cs) h = and_true (not (c == s)) (lacks s cs) (ap not (ne_eqb c s (h 0 (omega arith)))) (lacks-from s cs (λ i b. h (suc i) (omega arith)))

pub cut-none : (s : ℕ) (t : List ℕ) → lacks s t ≡ true → cut_at s t ≡ None
cut-none s [] h = refl
cut-none s (c ∷ cs) h =
    ap (λ b. if b then Some ([], cs) else option_map (λ p. (c ∷ p.0, p.1)) (cut_at s cs)) (not-true (c == s) (first_so (not (c == s)) _ h))
    ∙ ap (option_map (λ p. (c ∷ p.0, p.1))) (cut-none s cs (second_so (not (c == s)) _ h))

pub cut-some : (s : ℕ) (t u : List ℕ) → lacks s t ≡ true → cut_at s (t ++ s ∷ u) ≡ Some (t, u)
cut-some s [] u h = ap (λ b. if b then Some ([], u) else option_map (λ p. (s ∷ p.0, p.1)) (cut_at s u)) (eqb-same s)
cut-some s (c ∷ cs) u h =
    ap (λ b. if b then Some ([], cs ++ s ∷ u) else option_map (λ p. (c ∷ p.0, p.1)) (cut_at s (cs ++ s ∷ u))) (not-true (c == s) (first_so (not (c == s)) _ h))
    ∙ ap (option_map (λ p. (c ∷ p.0, p.1))) (cut-some s cs u (second_so (not (c == s)) _ h))

-- what `split_once` gives at an ASCII sign
pub cut_is : (s : ℕ) (t : List ℕ) (r : Option (Bor (List ℕ) × Bor (List ℕ))) → IsSplitOnceResult s t r → s < 128 → option_map (λ p. (p.0.now, p.1.now)) r ≡ cut_at s t
cut_is s t None is small = sym (cut-none s t (lacks-from s t (split_parts s t None is small)))
cut_is s t (Some x) is small =
    let p = split_parts s t (Some x) is small in
    sym (ap (cut_at s) p.0 ∙ cut-some s x.0.now x.1.now (lacks-from s x.0.now p.1))

abbrev later : ℕ → List ℕ × List ℕ → List ℕ × List ℕ
later c p = (c ∷ p.0, p.1)

-- a cut text is its parts with the sign between them
pub cut-joins : (s : ℕ) (t a b : List ℕ) → cut_at s t ≡ Some (a, b) → t ≡ a ++ s ∷ b
cut-joins s [] a b h = absurd (true≢false (ap (λ o. elim o [ None ↦ true | Some x ↦ false ]) h))
cut-joins s (c ∷ cs) a b h = by (cut-joins s cs) (c == s) refl h
  where
    rest : ((x y : List ℕ) → cut_at s cs ≡ Some (x, y) → cs ≡ x ++ s ∷ y) → (o : Option (List ℕ × List ℕ)) → cut_at s cs ≡ o → option_map (λ (p : List ℕ × List ℕ). later c p) o ≡ Some (a, b) → c ∷ cs ≡ a ++ s ∷ b
    rest inside None e k = absurd (true≢false (ap (λ o. elim o [ None ↦ true | Some x ↦ false ]) k))
    rest inside (Some p) e k = ap (λ l. c ∷ l) (inside p.0 p.1 e) ∙ ap (λ (q : List ℕ × List ℕ). q.0 ++ s ∷ q.1) (same_Some _ _ k)

    by : ((x y : List ℕ) → cut_at s cs ≡ Some (x, y) → cs ≡ x ++ s ∷ y) → (b2 : Bool) → (c == s) ≡ b2 → (if b2 then Some ([], cs) else option_map (λ (p : List ℕ × List ℕ). later c p) (cut_at s cs)) ≡ Some (a, b) → c ∷ cs ≡ a ++ s ∷ b
    by inside true e k = let is : c ≡ s = grind (arith, e) in ap (λ x. x ∷ cs) is ∙ ap (λ (q : List ℕ × List ℕ). q.0 ++ s ∷ q.1) (same_Some _ _ k)
    by inside false e k = rest inside (cut_at s cs) refl k
