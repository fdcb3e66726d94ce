-- When a document is part of another: the other has all that it has, at any depth, and may have more.
use Rattle.std.specs.Prelude.{◌≡◌, ℕ, List, Contains, Some, ◌⊎◌}
use Rattle.spec_document.specs.MeantTree.{MeantSelection, MeantField, MeantSpread, MeantInline, MeantSet, meant_set, MeantSelections, no_meant, meant_then, MeantOperation, MeantFragment, MeantDocument}
use Rattle.rule_document_definitions.specs.Selected.{operations, fragment_named}

-- Q holds of one of these selections
abbrev pub AtSomeSelection : {P : Type 0} → (MeantSelection P → Type 0) → MeantSelections P → Type 0
AtSomeSelection Q no_meant = ⊥
AtSomeSelection Q (meant_then s ss) = Q s ⊎ AtSomeSelection Q ss

abbrev mutual
  -- the second selection is the first, and may have more inside
  pub IsPartOfSelection : {P : Type 0} → MeantSelection P → MeantSelection P → Type 0
  IsPartOfSelection {P} (MeantField p d h s) y = (t : MeantSet P) × ((y ≡ MeantField p d h t) × IsPartOfSet s t)
  IsPartOfSelection {P} (MeantSpread p n ds) y = y ≡ MeantSpread p n ds
  IsPartOfSelection {P} (MeantInline p c ds s) y = (t : MeantSet P) × ((y ≡ MeantInline p c ds t) × IsPartOfSet s t)

  -- the second set is on the same type, and has each selection of the first, in any order, among others
  pub IsPartOfSet : {P : Type 0} → MeantSet P → MeantSet P → Type 0
  IsPartOfSet (meant_set t ss) (meant_set u us) = (u ≡ t) × ArePartOf ss us

  pub ArePartOf : {P : Type 0} → MeantSelections P → MeantSelections P → Type 0
  ArePartOf no_meant us = Unit {0}
  ArePartOf (meant_then s ss) us = AtSomeSelection (λ u. IsPartOfSelection s u) us × ArePartOf ss us

module _ {P : Type 0} where
  -- the second operation is the first one, and may select more; the same for fragments
  abbrev pub IsPartOfOperation : MeantOperation P → MeantOperation P → Type 0
  IsPartOfOperation o w = (t : MeantSet P) × ((w ≡ record o { set = t }) × IsPartOfSet o.set t)

  abbrev pub IsPartOfFragment : MeantFragment P → MeantFragment P → Type 0
  IsPartOfFragment f g = (t : MeantSet P) × ((g ≡ record f { set = t }) × IsPartOfSet f.set t)

  -- The document e has each operation of d, and under each name the fragment that d has there, and in them all that d selects.
  pub record IsPartOf (d e : MeantDocument P) : Type 0 where
    pub operations : (o : MeantOperation P) → Contains (operations d) o → (w : MeantOperation P) × (Contains (operations e) w × IsPartOfOperation o w)
    pub fragments : (n : List ℕ) (f : MeantFragment P) → fragment_named d n ≡ Some f
        → (g : MeantFragment P) × ((fragment_named e n ≡ Some g) × IsPartOfFragment f g)
