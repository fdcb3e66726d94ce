-- How many bytes pieces take.
use Rattle.std.proofs.Common.{◌≡◌, ℕ, suc, ◌<◌, ◌≤◌, Bool, true, false, ◌&&◌, ◌==◌, cond, List, [], ◌∷◌, length, Option, Some, None, refl, sym, ap, subst, inl, inr, arith, one-add, eqb-true}
use Rattle.std.specs.List.{prefix_len}
use Rattle.std.proofs.lemmas.Bool.{and_parts}
use Rattle.std.proofs.lemmas.List.Sums.{prefix_len-le-length}
use Rattle.read_tokens.specs.Bytes.{begins_with}
use Rattle.read_tokens.specs.Blocks.{is_line_feed}
use Rattle.read_tokens.specs.Tokens.{is_ignored_byte, is_in_line, return_len, ignored_at, token_at}
use Rattle.read_tokens.specs.Lex.{Piece, piece_of, piece_at}
use Rattle.read_tokens.specs.declared.token.TokenKind.{TokenKind}
use Rattle.read_tokens.proofs.Ends.{token_ends}
use Rattle.read_tokens.proofs.Choices.{some_if}

-- some bytes, of which there are enough
pub record Takes (bytes : List ℕ) (n : ℕ) : Type 0 where
  pub some : 0 < n
  pub within : n ≤ length bytes

takes_one : (b : ℕ) (bytes : List ℕ) → Takes (b ∷ bytes) 1
takes_one b bytes = record { some = omega arith; within = omega arith }

takes_return : (b : ℕ) (bytes : List ℕ) → Takes (b ∷ bytes) (return_len bytes)
takes_return b [] = takes_one b []
takes_return b (c ∷ bytes) = go (is_line_feed c)
  where
    go : (t : Bool) → Takes (b ∷ c ∷ bytes) (cond t 2 1)
    go true = record { some = omega arith; within = omega arith }
    go false = takes_one b (c ∷ bytes)

takes_mark : (b : ℕ) (bytes : List ℕ) → begins_with (187 ∷ 191 ∷ []) bytes ≡ true → Takes (b ∷ bytes) 3
takes_mark b [] h = absurd cc
takes_mark b (c ∷ []) h = let p = (and_parts (c == 187) false h).1 in absurd cc
takes_mark b (c ∷ d ∷ bytes) h = record { some = omega arith; within = omega arith }

takes_line : (b : ℕ) (bytes : List ℕ) → is_in_line b ≡ true → Takes (b ∷ bytes) (prefix_len is_in_line (b ∷ bytes))
takes_line b bytes h =
    let more : prefix_len is_in_line (b ∷ bytes) ≡ suc (prefix_len is_in_line bytes) = rw h (one-add (prefix_len is_in_line bytes)) in
    let fits : prefix_len is_in_line bytes ≤ length bytes = prefix_len-le-length is_in_line bytes in
    record { some = omega arith; within = omega arith }

takes_comment : (b : ℕ) (bytes : List ℕ) → (b == 35) ≡ true → Takes (b ∷ bytes) (prefix_len is_in_line (b ∷ bytes))
takes_comment b bytes h = let is : b ≡ 35 = eqb-true b 35 h in subst (λ (c : ℕ). Takes (c ∷ bytes) (prefix_len is_in_line (c ∷ bytes))) (sym is) (takes_line 35 bytes refl)

ignored_takes : (bytes : List ℕ) (n : ℕ) → ignored_at bytes ≡ Some n → Takes bytes n
unfolding ignored_at
ignored_takes [] n h = absurd cc
ignored_takes (b ∷ bytes) n h = elim (some_if (is_ignored_byte b) 1 n _ h) [
  | inl e ↦ subst (Takes (b ∷ bytes)) e.1 (takes_one b bytes)
  | inr h ↦ elim (some_if (b == 13) (return_len bytes) n _ h) [
    | inl e ↦ subst (Takes (b ∷ bytes)) e.1 (takes_return b bytes)
    | inr h ↦ elim (some_if (b == 35) (prefix_len is_in_line (b ∷ bytes)) n _ h) [
      | inl e ↦ subst (Takes (b ∷ bytes)) e.1 (takes_comment b bytes e.0)
      | inr h ↦ elim (some_if (b == 239 && begins_with (187 ∷ 191 ∷ []) bytes) 3 n None h) [
        | inl e ↦ subst (Takes (b ∷ bytes)) e.1 (takes_mark b bytes (and_parts (b == 239) _ e.0).1)
        | inr h ↦ absurd cc
      ]
    ]
  ]
]

pub piece_takes : (bytes : List ℕ) (p : Piece) → piece_at bytes ≡ Some p → Takes bytes p.length
unfolding piece_at
piece_takes bytes p h = go (ignored_at bytes) (token_at bytes) refl refl h
  where
    go : (o : Option ℕ) (t : Option (TokenKind × ℕ)) → ignored_at bytes ≡ o → token_at bytes ≡ t → piece_of o t ≡ Some p → Takes bytes p.length
    go None None i e is = absurd cc
    go None (Some t) i e is =
        let ends = (token_ends bytes t e).ends in
        let same : t.1 ≡ p.length = ap (λ (q : Piece). q.length) (same_piece (record { kind = Some t.0; length = t.1 }) p is) in
        subst (Takes bytes) same (record { some = ends.some; within = ends.within })
      where
        same_piece : (p q : Piece) → Some p ≡ Some q → p ≡ q
        same_piece p q e = cc
    go (Some n) t i e is =
        let same : n ≡ p.length = ap (λ (q : Piece). q.length) (same_piece (record { kind = None; length = n }) p is) in
        subst (Takes bytes) same (ignored_takes bytes n i)
      where
        same_piece : (p q : Piece) → Some p ≡ Some q → p ≡ q
        same_piece p q e = cc
