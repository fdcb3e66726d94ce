-- Ranks of faults, one after another.
use Rattle.std.proofs.Common.{◌≡◌, ℕ, suc, ◌+◌, ◌<◌, List, [], ◌∷◌, ◌++◌, length, map, get_or, take, sym, ◌∙◌, ap, subst, arith}
use Rattle.std.specs.Prelude.{Option}
use Rattle.std.specs.List.Sorted.{IsPermutation}
use Rattle.std.proofs.lemmas.List.{take_more, map-append, length-map, length-take-le}
use Rattle.std.proofs.Math.Seq.{take-length}
use Rattle.graphql_names.specs.declared.span.SourceSpan.{SourceSpan}
use Rattle.report_forms.specs.declared.order.Rank.{Rank}
use Rattle.report_forms.specs.Order.{rank_of, ranks_from}

ranks_push : (n : ℕ) (ps : List (Option SourceSpan)) (p : Option SourceSpan) → ranks_from n (ps ++ p ∷ []) ≡ ranks_from n ps ++ rank_of p (n + length ps) ∷ []
ranks_push n [] p = ap (λ k. rank_of p k ∷ []) (omega arith)
ranks_push n (q ∷ ps) p =
    ap (λ l. rank_of q n ∷ l) (ranks_push (suc n) ps p ∙ ap (λ k. ranks_from (suc n) ps ++ rank_of p k ∷ []) (omega arith))

module _ {T : Type 0} (told : List (Option SourceSpan × T)) where
  abbrev pub places : List (Option SourceSpan × T) → List (Option SourceSpan)
  places = map (λ t. t.0)

  pub ranks_more : (k : ℕ) (one : Option SourceSpan × T) (old new : List Rank) (r : Rank) → k < length told → one ≡ get_or told k one
      → old ≡ ranks_from 0 (places (take k told)) → new ≡ old ++ r ∷ [] → r ≡ rank_of one.0 k → new ≡ ranks_from 0 (places (take (k + 1) told))
  ranks_more k one old new r l is o n e =
      let more : places (take (k + 1) told) ≡ places (take k told) ++ one.0 ∷ [] =
      ap places (take_more told k one l) ∙ map-append (λ t. t.0) (take k told) (get_or told k one ∷ []) ∙ ap (λ (x : Option SourceSpan × T). places (take k told) ++ x.0 ∷ []) (sym is) in
      let size : 0 + length (places (take k told)) ≡ k = omega (arith, length-map (take k told) (λ (t : Option SourceSpan × T). t.0), length-take-le k told (omega (arith, l))) in
      n ∙ ap (λ l. l ++ r ∷ []) o ∙ ap (λ x. ranks_from 0 (places (take k told)) ++ x ∷ []) (e ∙ ap (rank_of one.0) (sym size))
      ∙ sym (ap (ranks_from 0) more ∙ ranks_push 0 (places (take k told)) one.0)

  pub all_ranks : (k : ℕ) (old sorted : List Rank) → old ≡ ranks_from 0 (places (take k told)) → k ≡ length told → IsPermutation old sorted → IsPermutation (ranks_from 0 (places told)) sorted
  all_ranks k old sorted o whole p =
      subst (λ (l : List Rank). IsPermutation l sorted) (o ∙ ap (λ l. ranks_from 0 (places l)) (ap (λ n. take n told) whole ∙ take-length told)) p
