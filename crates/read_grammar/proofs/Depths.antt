-- The depth of tokens is the largest number, over their prefixes, of opening brackets less closing ones.
use Rattle.std.proofs.Common.{◌≡◌, ℕ, zero, suc, ◌+◌, ◌-◌, ◌≤◌, Bool, true, false, cond, List, [], ◌∷◌, ◌++◌, refl, ap, arith}
use Rattle.read_tokens.specs.Input.{Token}
use Rattle.read_grammar.specs.Depth.{is_opening, is_closing, depth}
use Rattle.read_grammar.proofs.Nests.{opens, closes, not_both, open_depth, depth_front}

-- no front has more
pub depth_over : (xs ys : List Token) → opens xs ≤ depth (xs ++ ys) + closes xs
depth_over xs ys = let a = open_depth xs in let b = depth_front xs ys in omega arith

-- a front that has as many
pub record Reaches (ts : List Token) (d : ℕ) : Type 0 where
  pub front : List Token
  pub rest : List Token
  pub parts : ts ≡ front ++ rest
  pub full : opens front ≡ d + closes front

opening_reaches : (t : Token) (ts : List Token) (d : ℕ) → is_opening t.kind ≡ true → is_closing t.kind ≡ false → Reaches ts d → Reaches (t ∷ ts) (d + 1)
opening_reaches t ts d o c h =
    let ot : opens (t ∷ h.front) ≡ 1 + opens h.front = rw o refl in
    let ct : closes (t ∷ h.front) ≡ closes h.front = rw c (omega arith) in
    let f = h.full in
    record { front = t ∷ h.front; rest = h.rest; parts = ap (λ (us : List Token). t ∷ us) h.parts; full = omega arith }

closing_reaches : (t : Token) (ts : List Token) (d : ℕ) → is_opening t.kind ≡ false → is_closing t.kind ≡ true → Reaches ts d → Reaches (t ∷ ts) (d - 1)
closing_reaches t ts zero o c h = record { front = []; rest = t ∷ ts; parts = refl; full = omega arith }
closing_reaches t ts (suc d) o c h =
    let ot : opens (t ∷ h.front) ≡ opens h.front = rw o (omega arith) in
    let ct : closes (t ∷ h.front) ≡ 1 + closes h.front = rw c refl in
    let f = h.full in
    record { front = t ∷ h.front; rest = h.rest; parts = ap (λ (us : List Token). t ∷ us) h.parts; full = omega arith }

other_reaches : (t : Token) (ts : List Token) (d : ℕ) → is_opening t.kind ≡ false → is_closing t.kind ≡ false → Reaches ts d → Reaches (t ∷ ts) d
other_reaches t ts d o c h =
    let ot : opens (t ∷ h.front) ≡ opens h.front = rw o (omega arith) in
    let ct : closes (t ∷ h.front) ≡ closes h.front = rw c (omega arith) in
    let f = h.full in
    record { front = t ∷ h.front; rest = h.rest; parts = ap (λ (us : List Token). t ∷ us) h.parts; full = omega arith }

pub depth_reached : (ts : List Token) → Reaches ts (depth ts)
unfolding depth
depth_reached [] = record { front = []; rest = []; parts = refl; full = refl }
depth_reached (t ∷ ts) = go (is_opening t.kind) (is_closing t.kind) refl refl (not_both t.kind) (depth_reached ts)
  where
    go : (o c : Bool) → is_opening t.kind ≡ o → is_closing t.kind ≡ c → (o ≡ true → c ≡ false) → Reaches ts (depth ts) → Reaches (t ∷ ts) (cond o (depth ts + 1) (cond c (depth ts - 1) (depth ts)))
    go true true ho hc apart h = let never = apart refl in absurd cc
    go true false ho hc apart h = opening_reaches t ts (depth ts) ho hc h
    go false true ho hc apart h = closing_reaches t ts (depth ts) ho hc h
    go false false ho hc apart h = other_reaches t ts (depth ts) ho hc h
