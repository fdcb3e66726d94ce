-- What is known of a document before its fragments are judged.
use Rattle.std.specs.Prelude.{◌≡◌, ◌↔◌, ℕ, List, Contains}
use Rattle.spec_document.specs.MeantTree.{MeantFragment, MeantDocument}
use Rattle.rule_document_definitions.specs.Reached.{AtOperation, ReachesFragment}

module _ {P : Type 0} (d : MeantDocument P) where
  -- each fragment is under its own name, as in every document that is typed
  abbrev pub AreUnderOwnNames : Type 0
  AreUnderOwnNames = (e : List ℕ × MeantFragment P) → Contains d.fragments e → e.0 ≡ e.1.name.it

  -- some operation reaches the fragment
  abbrev pub IsUsed : MeantFragment P → Type 0
  IsUsed f = AtOperation d (λ o. ReachesFragment d o f)

  -- these are exactly the names of the fragments that some operation reaches
  abbrev pub AreUsed : List (List ℕ) → Type 0
  AreUsed names = (n : List ℕ) → Contains names n ↔ ((f : MeantFragment P) × (IsUsed f × (f.name.it ≡ n)))
