-- Numbers that are known are read as they were, also when nodes are added: so is all that is remembered by them.
use Rattle.std.proofs.Common.{◌≡◌, List, [], ◌∷◌, map, length, Contains, refl, ap₂}
use Rattle.rule_cycle_search.proofs.Lists.{Contains-first}
use Rattle.list_interner.specs.NumberLists.{lists_kept}
use Rattle.list_interner.specs.NumberPairs.{pairs_kept}
use Rattle.list_interner.specs.NumberSet.{numbers_in}
use Rattle.list_interner.proofs.Few.{in_rest}
use Rattle.rule_field_groups.specs.in_sets.Numbered.{tables_of}
use Rattle.rule_field_groups.specs.in_sets.Nodes.{SetsGrow}
use Rattle.rule_field_groups.specs.in_sets.Read.{content_at, set_content_at}
use Rattle.rule_field_groups.specs.in_sets.declared.field_sets.FieldSets.{FieldSets}
use Rattle.rule_field_groups.proofs.in_sets.Meaning.{content_stays, set_content_stays}
use Rattle.rule_field_groups.specs.MergeState.{both_in, remembered, expanded_in, looked_in, kept_of, account_of, IsKnown}
use Rattle.rule_field_groups.specs.declared.merge_state.MergeState.{MergeState}

each_same : {A B : Type 0} (f g : A → B) (xs : List A) → ((x : A) → Contains xs x → f x ≡ g x) → map f xs ≡ map g xs
each_same f g [] all = refl
each_same f g (x ∷ xs) all = ap₂ (λ y ys. y ∷ ys) (all x (Contains-first x xs x refl)) (each_same f g xs (λ y c. all y (in_rest x xs y c)))

module _ (w w' : FieldSets) (grow : SetsGrow w w') (r : MergeState) (known : IsKnown (length (tables_of w.numbers).fields) (length (tables_of w.numbers).sets) r) where
  pub lists_stay : remembered w' r ≡ remembered w r
  lists_stay = each_same (map (content_at w')) (map (content_at w)) (lists_kept r.lists) (λ l c. each_same (content_at w') (content_at w) l (λ n k. content_stays w w' grow n (known.lists l c n k)))

  pub met_stays : map (content_at w') (numbers_in r.met) ≡ map (content_at w) (numbers_in r.met)
  met_stays = each_same (content_at w') (content_at w) (numbers_in r.met) (λ n c. content_stays w w' grow n (known.met n c))

  pub expanded_stays : expanded_in w' r ≡ expanded_in w r
  expanded_stays = each_same (map (set_content_at w')) (map (set_content_at w)) (lists_kept r.expanded) (λ l c. each_same (set_content_at w') (set_content_at w) l (λ n k. set_content_stays w w' grow n (known.expanded l c n k)))

  pub looked_stays : looked_in w' r ≡ looked_in w r
  looked_stays = each_same (λ p. map (set_content_at w') (both_in p)) (λ p. map (set_content_at w) (both_in p)) (pairs_kept r.looked)
      (λ p c. let b = known.looked p c in ap₂ (λ x y. x ∷ y ∷ []) (set_content_stays w w' grow p.0 b.0) (set_content_stays w w' grow p.1 b.1))

  -- what is counted of it
  pub account_stays : account_of w' r ≡ account_of w r
  account_stays = λ i. record { lists = lists_stay i; met = met_stays i; spent = r.spent; comparisons = r.comparisons }

  -- what was examined, but for the pairs that are left, which are nodes
  pub kept_stays : record (kept_of w' r) { pairs = [] } ≡ record (kept_of w r) { pairs = [] }
  kept_stays = λ i. record { lists = lists_stay i; expanded = expanded_stays i; looked = looked_stays i; pairs = [] }
