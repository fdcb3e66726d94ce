-- Whatever two sets select that are looked at stands together, or a pair that is left selects it.
use Rattle.std.proofs.Common.{◌⊎◌, refl, sym, subst, inl, inr}
use Rattle.rule_field_groups.specs.in_document_definitions.Reached.{first, next}
use Rattle.rule_merging.specs.Paired.{LeadsTo, Selects, SelectEach, ArePairsDone}

module _ {F S : Type 0} (Own : S → F → Type 0) (Spreads : S → S → Type 0) (Together Stand : F → F → Type 0) (Looked Left : S → S → Type 0)
    (done : ArePairsDone Own Spreads Together Stand Looked Left) where
  -- along what the one set spreads the pair is looked at, or one on the way is left
  along_one : (a b s : S) → Looked a b → LeadsTo Own Spreads a s → Looked s b ⊎ ((t : S) × (Left t b × LeadsTo Own Spreads t s))
  along_one a b s looked (first e) = inl (subst (λ u. Looked u b) (sym e) looked)
  along_one a b s looked (next {x = u} r step) = elim (along_one a b u looked r) [
    | inl here ↦ elim (done u b here) [
      | inl left ↦ inr (u, (left, next (first refl) step))
      | inr is ↦ inl (is.one s step)
    ]
    | inr (t, (left, way)) ↦ inr (t, (left, next way step))
  ]

  -- and of the other
  along_other : (a b s : S) → Looked a b → LeadsTo Own Spreads b s → Looked a s ⊎ ((t : S) × (Left a t × LeadsTo Own Spreads t s))
  along_other a b s looked (first e) = inl (subst (λ u. Looked a u) (sym e) looked)
  along_other a b s looked (next {x = u} r step) = elim (along_other a b u looked r) [
    | inl here ↦ elim (done a u here) [
      | inl left ↦ inr (u, (left, next (first refl) step))
      | inr is ↦ inl (is.other s step)
    ]
    | inr (t, (left, way)) ↦ inr (t, (left, next way step))
  ]

  -- where both are own fields
  at_ends : (s t : S) (x y : F) → Looked s t → Own s x → Own t y → Together x y → Stand x y ⊎ SelectEach Own Spreads Left x y
  at_ends s t x y looked in_x in_y go = elim (done s t looked) [
    | inl left ↦ inr (s, (t, (left, ((s, (first refl, in_x)), (t, (first refl, in_y))))))
    | inr is ↦ inl (is.own x y in_x in_y go)
  ]

  pub pairs_stand : (a b : S) (x y : F) → Looked a b → Selects Own Spreads a x → Selects Own Spreads b y → Together x y → Stand x y ⊎ SelectEach Own Spreads Left x y
  pairs_stand a b x y looked (s, (way, in_x)) (t, (way_too, in_y)) go = elim (along_one a b s looked way) [
    | inl here ↦ elim (along_other s b t here way_too) [
      | inl there ↦ at_ends s t x y there in_x in_y go
      | inr (u, (left, rest)) ↦ inr (s, (u, (left, ((s, (first refl, in_x)), (t, (rest, in_y))))))
    ]
    | inr (u, (left, rest)) ↦ inr (u, (b, (left, ((s, (rest, in_x)), (t, (way_too, in_y))))))
  ]
