-- What leads back to itself by references, each with its place, leads back to itself by the steps of the book.
use Rattle.std.proofs.Common.{◌≡◌, ◌⊎◌, ℕ, List, [], ◌∷◌, ◌++◌, refl, sym, ap, subst, None, inl, inr}
use Rattle.tree_directives.specs.DirectiveTree.{InputValueTree}
use Rattle.rule_cycle_search.specs.Paths.{Leads}
use Rattle.rule_definitions.specs.Judged.{Judged, applied_directives}
use Rattle.rule_definitions.specs.Names.{named_in}
use Rattle.rule_definitions.specs.Things.{Thing, ADirective, AType}
use Rattle.rule_definitions.specs.Cycles.{RefersToInput, RefersByUse, RefersByInput, Refers}
use Rattle.rule_document_definitions.specs.Reached.{Closed, first, next}
use Rattle.book_validity.specs.Types.{Requires}
use Rattle.book_validity.specs.Words.{IsThere}
use Rattle.book_validity.specs.Schema.{Applies, IsOf, References, by_directive_of_argument, by_type_of_argument, by_directive_of_definition, by_directive_of_type, by_directive_of_value, by_directive_of_input_field, by_type_of_input_field}

module _ {X R : Type 0} (By : X → R → X → Type 0) (Step : X → X → Type 0) where
  module _ (step : (x : X) (by : R) (y : X) → By x by y → Step x y) (start : X) where
    onward : (x : X) (bys : List R) (y : X) → Closed (Step start) Step x → Leads By x bys y → Closed (Step start) Step y
    onward x [] y c e = subst (Closed (Step start) Step) e c
    onward x (by ∷ rest) y c (z, (r, l)) = onward z rest y (next c (step x by z r)) l

    pub leads_on : (by : R) (rest : List R) (y : X) → Leads By start (by ∷ rest) y → Closed (Step start) Step y
    leads_on by rest y (z, (r, l)) = onward z rest y (first (step start by z r)) l

  push : (x : X) (bys : List R) (y : X) (by : R) (z : X) → Leads By x bys y → By y by z → Leads By x (bys ++ by ∷ []) z
  push x [] y by z e r = (z, (subst (λ w. By w by z) (sym e) r, refl))
  push x (b ∷ bys) y by z (w, (s, l)) r = (w, (s, push w bys y by z l r))

  module _ (back : (x y : X) → Step x y → (by : R) × By x by y) (start : X) where
    pub leads_back : (y : X) → Closed (Step start) Step y → (by : R) × ((rest : List R) × Leads By start (by ∷ rest) y)
    leads_back y (first s) = let b = back start y s in (b.0, ([], (y, (b.1, refl))))
    leads_back y (next {x = x} c s) =
        let l = leads_back x c in
        let b = back x y s in
        (l.0, (l.1.0 ++ b.0 ∷ [], push start (l.0 ∷ l.1.0) x b.0 y l.1.1 b.1))

module _ (s : Judged) where
  pub input_step : (n : _) (by : _) (m : _) → RefersToInput s n by m → Requires s n m
  input_step n by m (t, (e, (k, ((i, (v, (has, (is, refers)))), to)))) = record { from = (t, (e, (k, (i, (v, (has, refers)))))); to = to }

  pub input_back : (n m : _) → Requires s n m → (by : _) × RefersToInput s n by m
  input_back n m h = let (t, (e, (k, (i, (v, (has, refers)))))) = h.from in (_, (t, (e, (k, ((i, (v, (has, (refl, refers)))), h.to)))))

  -- ---- what a directive or type refers to

  applied_step : (holder : _) (ds : _) (by : _) (to : Thing) → RefersByUse s holder ds by to → (m : List ℕ) × ((to ≡ ADirective m) × Applies s ds m)
  applied_step holder ds by to (i, (d, (e, (is, (same, there))))) = (d.name.it, (same, ((i, (d, (e, refl))), there)))

  applied_back : (holder : _) (ds : _) (m : List ℕ) → Applies s ds m → (by : _) × RefersByUse s holder ds by (ADirective m)
  applied_back holder ds m ((i, (d, (e, same))), there) = (_, (i, (d, (e, (refl, (ap ADirective (sym same), subst (λ k. IsThere (s.directive k)) (sym same) there))))))

  -- an argument or input field, by a directive or its type
  by_input_step : (at : _) (v : InputValueTree (Unit {0})) (by : _) (to : Thing) → RefersByInput s at v by to → (m : List ℕ) × (((to ≡ ADirective m) × Applies s (applied_directives v.directives) m) ⊎ ((to ≡ AType m) × IsOf s v m))
  by_input_step at v by to (inl u) = let (m, used) = applied_step at (applied_directives v.directives) by to u in (m, inl used)
  by_input_step at v by to (inr (is, (same, there))) = (named_in v.ty.it, inr (same, (refl, there)))

  by_directive_back : (at : _) (v : InputValueTree (Unit {0})) (m : List ℕ) → Applies s (applied_directives v.directives) m → (by : _) × RefersByInput s at v by (ADirective m)
  by_directive_back at v m u = let b = applied_back at (applied_directives v.directives) m u in (b.0, inl b.1)

  by_type_back : (at : _) (v : InputValueTree (Unit {0})) (m : List ℕ) → IsOf s v m → (by : _) × RefersByInput s at v by (AType m)
  by_type_back at v m (same, there) = (None, inr (refl, (ap AType (sym same), subst (λ k. IsThere (s.type_named k)) (sym same) there)))

  pub reference_step : (x : Thing) (by : _) (y : Thing) → Refers s x by y → References s x y
  reference_step (ADirective n) by y (d, (e, inl (i, (v, (a, r))))) = let (m, ways) = by_input_step _ v.it by y r in elim ways [
    | inl u ↦ subst (References s (ADirective n)) (sym u.0) (by_directive_of_argument (d, (e, (i, (v, (a, u.1))))))
    | inr u ↦ subst (References s (ADirective n)) (sym u.0) (by_type_of_argument (d, (e, (i, (v, (a, u.1))))))
  ]
  reference_step (ADirective n) by y (d, (e, inr u)) =
      let (m, (same, used)) = applied_step _ (applied_directives d.directives) by y u in subst (References s (ADirective n)) (sym same) (by_directive_of_definition (d, (e, used)))
  reference_step (AType n) by y (t, (e, inl u)) =
      let (m, (same, used)) = applied_step _ t.directives by y u in subst (References s (AType n)) (sym same) (by_directive_of_type (t, (e, used)))
  reference_step (AType n) by y (t, (e, inr (inl (k, (v, (a, u)))))) =
      let (m, (same, used)) = applied_step _ (applied_directives v.directives) by y u in subst (References s (AType n)) (sym same) (by_directive_of_value (t, (e, (k, (v, (a, used))))))
  reference_step (AType n) by y (t, (e, inr (inr (k, (v, (a, r)))))) = let (m, ways) = by_input_step _ v by y r in elim ways [
    | inl u ↦ subst (References s (AType n)) (sym u.0) (by_directive_of_input_field (t, (e, (k, (v, (a, u.1))))))
    | inr u ↦ subst (References s (AType n)) (sym u.0) (by_type_of_input_field (t, (e, (k, (v, (a, u.1))))))
  ]

  pub reference_back : (x y : Thing) → References s x y → (by : _) × Refers s x by y
  reference_back x y (by_directive_of_argument {n = n} {m = m} (d, (e, (i, (v, (a, u)))))) = let b = by_directive_back _ v.it m u in (b.0, (d, (e, inl (i, (v, (a, b.1))))))
  reference_back x y (by_type_of_argument {n = n} {m = m} (d, (e, (i, (v, (a, u)))))) = let b = by_type_back _ v.it m u in (b.0, (d, (e, inl (i, (v, (a, b.1))))))
  reference_back x y (by_directive_of_definition {n = n} {m = m} (d, (e, u))) = let b = applied_back _ (applied_directives d.directives) m u in (b.0, (d, (e, inr b.1)))
  reference_back x y (by_directive_of_type {n = n} {m = m} (t, (e, u))) = let b = applied_back _ t.directives m u in (b.0, (t, (e, inl b.1)))
  reference_back x y (by_directive_of_value {n = n} {m = m} (t, (e, (k, (v, (a, u)))))) = let b = applied_back _ (applied_directives v.directives) m u in (b.0, (t, (e, inr (inl (k, (v, (a, b.1)))))))
  reference_back x y (by_directive_of_input_field {n = n} {m = m} (t, (e, (k, (v, (a, u)))))) = let b = by_directive_back _ v m u in (b.0, (t, (e, inr (inr (k, (v, (a, b.1)))))))
  reference_back x y (by_type_of_input_field {n = n} {m = m} (t, (e, (k, (v, (a, u)))))) = let b = by_type_back _ v m u in (b.0, (t, (e, inr (inr (k, (v, (a, b.1)))))))
