-- A text is added to texts that have been read.
use Rattle.std.proofs.Common.{inl, inr, ◌≡◌, ◌≢◌, ℕ, ◌+◌, ◌<◌, ◌≤◌, ◌^◌, List, [], ◌∷◌, ◌++◌, length, length-append, refl, sym, ap, ◌∙◌, subst, arith}
use Rattle.std.proofs.Math.Nat.{lt_irrefl}
use Rattle.verdict_definitions.specs.in_read.Reads.{NestingBound}
use Rattle.verdict_definitions.specs.Texts.{SourceText, Tree, Terms, ReadsText, ReadsAll, document_number, PassesNumbers, IsRead}
use Rattle.verdict_definitions.specs.Says.{AnyFault, IsFaultOfText, UnreadFault, spent}
use Rattle.verdict_definitions.specs.Answer.{UnreadFaults}
use Rattle.verdict_definitions.specs.in_read.ReadFaults.{unnamed_source}
use Rattle.checker_calls.specs.TextSources.{Sources, text_sources}
use Rattle.checker_calls.specs.Added.{IsNextNumber, AreAdded}

-- ---- a text at the end of the texts, where the first has any number

module _ (text : SourceText) (number : ℕ) where
  read_more : (nesting first : ℕ) (texts : List SourceText) (faults : List AnyFault) → number ≡ length texts + first → UnreadFaults nesting first texts faults
      → IsRead nesting number text → UnreadFaults nesting first (texts ++ text ∷ []) faults
  read_more nesting first [] faults e h read = inl (subst (λ n. IsRead nesting n text) (e ∙ omega arith) read, h)
  read_more nesting first (t ∷ ts) faults e (inl h) read = inl (h.0, read_more nesting (first + 1) ts faults (omega (arith, e)) h.1 read)
  read_more nesting first (t ∷ ts) faults e (inr h) read = inr (h.0, (h.1.0, (h.1.1.0, h.1.1.1, read_more nesting (first + 1) ts h.1.0 (omega (arith, e)) h.1.1.2 read)))

  fault_more : (nesting first : ℕ) (texts : List SourceText) (faults : List AnyFault) (fault : AnyFault) → number ≡ length texts + first → UnreadFaults nesting first texts faults
      → UnreadFault nesting number text fault → UnreadFaults nesting first (texts ++ text ∷ []) (faults ++ fault ∷ [])
  fault_more nesting first [] faults fault e h unread =
      inr (fault, ([], (ap (λ l. l ++ fault ∷ []) h, subst (λ n. UnreadFault nesting n text fault) (e ∙ omega arith) unread, refl)))
  fault_more nesting first (t ∷ ts) faults fault e (inl h) unread = inl (h.0, fault_more nesting (first + 1) ts faults fault (omega (arith, e)) h.1 unread)
  fault_more nesting first (t ∷ ts) faults fault e (inr h) unread =
      inr (h.0, (h.1.0 ++ fault ∷ [], (ap (λ l. l ++ fault ∷ []) h.1.1.0, h.1.1.1, fault_more nesting (first + 1) ts h.1.0 fault (omega (arith, e)) h.1.1.2 unread)))

  reads_more : (first : ℕ) (texts : List SourceText) (trees : List Tree) (tree : Tree) → number ≡ length texts + first → ReadsAll first texts trees
      → ReadsText number text tree → ReadsAll first (texts ++ text ∷ []) (trees ++ tree ∷ [])
  reads_more first [] [] tree e h reads = (subst (λ n. ReadsText n text tree) (e ∙ omega arith) reads, tt)
  reads_more first [] (u ∷ us) tree e h reads = absurd h
  reads_more first (t ∷ ts) [] tree e h reads = absurd h
  reads_more first (t ∷ ts) (u ∷ us) tree e h reads = (h.0, reads_more (first + 1) ts us tree (omega (arith, e)) h.1 reads)

  sources_more : (first : ℕ) (texts : List SourceText) → number ≡ length texts + first → text_sources first (texts ++ text ∷ []) ≡ text_sources first texts ++ (number, unnamed_source text) ∷ []
  sources_more first [] e = let same : first ≡ number = omega (arith, e) in ap (λ n. (n, unnamed_source text) ∷ []) same
  sources_more first (t ∷ ts) e = ap (λ l. (first, unnamed_source t) ∷ l) (sources_more (first + 1) ts (omega (arith, e)))

-- ---- the texts of a checker

some_fault : (faults : List AnyFault) (fault : AnyFault) → faults ++ fault ∷ [] ≢ []
some_fault [] fault e = absurd cc
some_fault (f ∷ fs) fault e = absurd cc

module _ (terms : Terms) (texts : List SourceText) (number : ℕ) (text : SourceText) (faults : List AnyFault) where
  -- where a number is left, it is that of the next text
  number_left : IsNextNumber terms texts faults number → number + 1 < 2 ^ 64 → number ≡ length texts + terms.first_text
  number_left (inl e) left = e
  number_left (inr h) left = absurd (lt_irrefl (2 ^ 64) (omega (arith, left, h.0)))

  next_number : (faults' : List AnyFault) → number ≡ length texts + terms.first_text → IsNextNumber terms (texts ++ text ∷ []) faults' (number + 1)
  next_number faults' e = let l = length-append texts (text ∷ []) in inl (omega (arith, l, e))

  -- where none is left
  none_left : IsNextNumber terms texts faults number → number + 1 ≡ 2 ^ 64
      → PassesNumbers (length texts + terms.first_text) × IsNextNumber terms (texts ++ text ∷ []) (faults ++ spent ∷ []) number
  none_left next none =
      let l = length-append texts (text ∷ []) in
      let far : number ≤ length texts + terms.first_text = within next in
      (omega (arith, none, far), inr (none, (omega (arith, l, far), some_fault faults spent)))
    where
      within : IsNextNumber terms texts faults number → number ≤ length texts + terms.first_text
      within (inl e) = omega (arith, e)
      within (inr h) = let le = h.1.0 in omega (arith, le)

module _ (terms : Terms) (texts : List SourceText) (number : ℕ) (text : SourceText) (trees : List Tree) (sources : Sources) (faults : List AnyFault) (added : AreAdded terms texts number trees sources faults) where
  -- a text without a number
  pub spent_added : number + 1 ≡ 2 ^ 64 → AreAdded terms (texts ++ text ∷ []) number trees sources (faults ++ spent ∷ [])
  spent_added none =
      let none = none_left terms texts number text faults added.next none in
      record {
        unread = fault_more text (length texts + terms.first_text) terms.nesting terms.first_text texts faults spent refl added.unread (inr (refl, none.0));
        kept = λ silent. absurd (some_fault faults spent silent);
        sources = λ silent. absurd (some_fault faults spent silent);
        next = none.1;
      }

  module _ (left : number + 1 < 2 ^ 64) where
    here : number ≡ length texts + terms.first_text
    here = number_left terms texts number text faults added.next left

    -- a text that is not read
    pub fault_added : (fault : AnyFault) → IsFaultOfText terms.nesting number text fault → AreAdded terms (texts ++ text ∷ []) (number + 1) trees sources (faults ++ fault ∷ [])
    fault_added fault is = record {
      unread = fault_more text number terms.nesting terms.first_text texts faults fault here added.unread (inl is);
      kept = λ silent. absurd (some_fault faults fault silent);
      sources = λ silent. absurd (some_fault faults fault silent);
      next = next_number terms texts number text faults (faults ++ fault ∷ []) here;
    }

    module _ (tree : Tree) (reads : ReadsText number text tree) (nests : NestingBound terms.nesting text → ⊥) where
      -- a text that is read, whatever is kept of it
      read_added : (trees' : List Tree) (sources' : Sources) → (faults ≡ [] → ReadsAll terms.first_text (texts ++ text ∷ []) trees') → (faults ≡ [] → sources' ≡ text_sources terms.first_text (texts ++ text ∷ []))
          → AreAdded terms (texts ++ text ∷ []) (number + 1) trees' sources' faults
      read_added trees' sources' keeps keeps_sources = record {
        unread = read_more text number terms.nesting terms.first_text texts faults here added.unread (record {
          tree = tree;
          reads = reads;
          within = record { nests = nests; numbered = λ passes. lt_irrefl (2 ^ 64) (omega (arith, left, passes)) };
        });
        kept = keeps;
        sources = keeps_sources;
        next = next_number terms texts number text faults faults here;
      }

      -- after a text that was not read: any text
      pub after_added : faults ≢ [] → AreAdded terms (texts ++ text ∷ []) (number + 1) trees sources faults
      after_added some = read_added trees sources (λ silent. absurd (some silent)) (λ silent. absurd (some silent))

      -- after texts that were all read: a text whose tree is kept
      pub tree_added : AreAdded terms (texts ++ text ∷ []) (number + 1) (trees ++ tree ∷ []) (sources ++ (number, unnamed_source text) ∷ []) faults
      tree_added = read_added (trees ++ tree ∷ []) (sources ++ (number, unnamed_source text) ∷ [])
          (λ silent. reads_more text number terms.first_text texts trees tree here (added.kept silent) reads)
          (λ silent. ap (λ l. l ++ (number, unnamed_source text) ∷ []) (added.sources silent) ∙ sym (sources_more text number terms.first_text texts here))
