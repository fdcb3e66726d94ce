-- Private: leads to `Serialized`. What a `Shown` does with a text.
use Rattle.std.specs.Prelude.{◌≡◌, ℕ, false, List, [], ◌∷◌, ◌++◌, refl}
use Rattle.std.proofs.Common.{◌∙◌, ap, sym, subst, append_assoc}
use Rattle.std.specs.List.{FoldsTo, concat}
use Rattle.std.specs.Fmt.{HasWritten, IsPlainFormatter, WritesInCalls}
use Rattle.tree_literals.specs.Joined.{joined, joined-push}
use Rattle.tree_literals.specs.declared.shown.Shown.{Shown}

-- the reference is the same; and unless writing has failed, it had not failed before, and the text was written if the formatter is plain
abbrev pub PutsShown : {W : Type 0} → (W → List ℕ → W → Type 0) → Shown W → List ℕ → Shown W → Type 0
PutsShown took s text t = (t.f.ghost_name ≡ s.f.ghost_name)
    × (t.failed ≡ false → (s.failed ≡ false) × (IsPlainFormatter s.f.now → HasWritten took s.f.now text t.f.now))

concat-append : (xs ys : List (List ℕ)) → concat (xs ++ ys) ≡ concat xs ++ concat ys
concat-append [] ys = refl
concat-append (x ∷ xs) ys = ap (λ (l : List ℕ). x ++ l) (concat-append xs ys) ∙ sym (append_assoc x (concat xs) (concat ys))

module _ {W : Type 0} (took : W → List ℕ → W → Type 0) where
  calls_both : (w : W) (xs : List (List ℕ)) (v : W) (ys : List (List ℕ)) (u : W) → FoldsTo took w xs v → FoldsTo took v ys u → FoldsTo took w (xs ++ ys) u
  calls_both w [] v ys u p q = subst (λ (x : W). FoldsTo took x ys u) (sym p) q
  calls_both w (x ∷ xs) v ys u p q = (p.0, p.1, calls_both p.0 xs v ys u p.2 q)

  writes_both : (w : W) (a : List ℕ) (v : W) (b : List ℕ) (u : W) → WritesInCalls took w a v → WritesInCalls took v b u → WritesInCalls took w (a ++ b) u
  writes_both w a v b u p q = record {
    parts = p.parts ++ q.parts;
    calls = calls_both w p.parts v q.parts u p.calls q.calls;
    whole = concat-append p.parts q.parts ∙ (λ i. p.whole i ++ q.whole i);
  }

  puts_both : (s t u : Shown W) (a b : List ℕ) → PutsShown took s a t → PutsShown took t b u → PutsShown took s (a ++ b) u
  puts_both s t u a b p q = (
    q.0 ∙ p.0,
    λ none.
        let second = q.1 none in
        let first = p.1 second.0 in
        (first.0, λ plain. let rest = second.1 (first.1 plain).plain in record { wrote = writes_both _ a _ b _ (first.1 plain).wrote rest.wrote; plain = rest.plain }),
  )

  pub PutsShown-none : (s : Shown W) → PutsShown took s (joined []) s
  unfolding joined
  PutsShown-none s = (refl, λ none. (none, λ plain. record { wrote = record { parts = []; calls = refl; whole = refl }; plain = plain }))

  pub PutsShown-part : (s t u : Shown W) (text : List ℕ) (texts : List (List ℕ)) → PutsShown took s text t → PutsShown took t (joined texts) u → PutsShown took s (joined (text ∷ texts)) u
  unfolding joined
  PutsShown-part s t u text texts = puts_both s t u text (joined texts)

  pub PutsShown-more : (s t u : Shown W) (texts : List (List ℕ)) (text : List ℕ) → PutsShown took s (joined texts) t → PutsShown took t text u → PutsShown took s (joined (texts ++ text ∷ [])) u
  PutsShown-more s t u texts text p q = rw joined-push (puts_both s t u (joined texts) text p q)
