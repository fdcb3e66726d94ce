-- The fields at the root of an operation (GraphQL, October 2021, section 5.2.3.1), and the names of the meta-fields.
use Rattle.std.specs.Prelude.{◌↔◌, ℕ, List, [], ◌∷◌, codes, Contains}
use Rattle.spec_document.specs.MeantTree.{MeantOperation, MeantDocument}
use Rattle.rule_cycle_search.specs.Paths.{HasNoRepeat}
use Rattle.rule_document_definitions.specs.Selected.{InOperation, StandingField, operation_name}
use Rattle.rule_document_definitions.specs.Reached.{IsFieldOf}

-- the names of the three meta-fields (sections 4.1 and 4.2)
abbrev pub meta_field_names : List (List ℕ)
meta_field_names = codes "__typename" ∷ codes "__schema" ∷ codes "__type" ∷ []

module _ {P : Type 0} (d : MeantDocument P) (o : MeantOperation P) where
  abbrev pub IsRootField : StandingField P → Type 0
  IsRootField f = IsFieldOf d (InOperation (operation_name o)) o.set f

  -- all fields at the root, each once, in some order
  abbrev pub AreRootFields : List (StandingField P) → Type 0
  AreRootFields fs = HasNoRepeat fs × ((f : StandingField P) → Contains fs f ↔ IsRootField f)
