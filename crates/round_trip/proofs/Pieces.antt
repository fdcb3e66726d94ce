-- Texts that are read piece by piece, by a rule that says how long a piece is and one that says what it stands for.
use Rattle.std.proofs.Common.{◌≡◌, ℕ, ◌+◌, ◌<◌, ◌≤◌, List, [], ◌∷◌, ◌++◌, length, drop, Option, Some, refl, sym, ap, ◌∙◌, subst, arith, append_assoc, length-append}
use Rattle.std.proofs.lemmas.List.{drop_at}
use Rattle.read_tokens.specs.Bytes.{run_len, replaced}
use Rattle.read_tokens.proofs.Bytes.{run_step}
use Rattle.read_tokens.proofs.Values.{replaced_step}

module _ (size : List ℕ → Option ℕ) (part : List ℕ → List ℕ × ℕ) where
  -- before this rest the text is passed over whole, and stands for the value
  pub record Reads (text value rest : List ℕ) : Type 0 where
    pub passed : run_len size 0 (text ++ rest) ≡ length text + run_len size 0 rest
    pub stands : replaced part 0 (text ++ rest) ≡ value ++ replaced part 0 rest

  -- the text is one piece
  pub record Piece (text value rest : List ℕ) : Type 0 where
    pub some : 0 < length text
    pub sized : size (text ++ rest) ≡ Some (length text)
    pub parted : part (text ++ rest) ≡ (value, length text)

  pub reads_none : (rest : List ℕ) → Reads [] [] rest
  reads_none rest = record { passed = omega arith; stands = refl }

  pub reads_piece : (text value rest : List ℕ) → Piece text value rest → Reads text value rest
  reads_piece [] value rest p = let none : 0 < 0 = p.some in absurd (omega arith)
  reads_piece (b ∷ text) value rest p = record {
    passed =
        let room : length (b ∷ text) ≤ length ((b ∷ text) ++ rest) = omega (arith, length-append (b ∷ text) rest) in
        run_step size ((b ∷ text) ++ rest) (length (b ∷ text)) p.sized p.some room
        ∙ ap (λ (r : List ℕ). length (b ∷ text) + run_len size 0 r) (drop_at (b ∷ text) rest (length (b ∷ text)) refl);
    stands =
        let takes : (part (b ∷ (text ++ rest))).1 ≡ length (b ∷ text) = ap (λ (q : List ℕ × ℕ). q.1) p.parted in
        let some : 0 < (part (b ∷ (text ++ rest))).1 = subst (λ (n : ℕ). 0 < n) (sym takes) p.some in
        replaced_step part b (text ++ rest) some
        ∙ ap (λ (q : List ℕ × ℕ). q.0 ++ replaced part 0 (drop q.1 (b ∷ (text ++ rest)))) p.parted
        ∙ ap (λ (r : List ℕ). value ++ replaced part 0 r) (drop_at (b ∷ text) rest (length (b ∷ text)) refl);
  }

  -- a text, then another
  pub reads_both : (text value more others rest : List ℕ) → Reads text value (more ++ rest) → Reads more others rest → Reads (text ++ more) (value ++ others) rest
  reads_both text value more others rest a b = record {
    passed =
        let whole : run_len size 0 ((text ++ more) ++ rest) ≡ run_len size 0 (text ++ (more ++ rest)) = ap (run_len size 0) (append_assoc text more rest) in
        let first : run_len size 0 (text ++ (more ++ rest)) ≡ length text + run_len size 0 (more ++ rest) = a.passed in
        let second : run_len size 0 (more ++ rest) ≡ length more + run_len size 0 rest = b.passed in
        let sizes : length (text ++ more) ≡ length text + length more = length-append text more in
        omega arith;
    stands =
        ap (replaced part 0) (append_assoc text more rest) ∙ a.stands
        ∙ ap (λ (v : List ℕ). value ++ v) b.stands
        ∙ sym (append_assoc value others (replaced part 0 rest));
  }
