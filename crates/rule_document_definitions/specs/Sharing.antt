-- Private: leads to `FieldsMerge`. Groups of a list of fields: those of one key, and those of one key that one object may have (GraphQL, October 2021, section
-- 5.3.2).
use Rattle.std.specs.Prelude.{◌≡◌, ℕ, List, Contains, ◌⊎◌}
use Rattle.rule_definitions.specs.Judged.{Judged}
use Rattle.rule_document_definitions.specs.Selected.{StandingField, response_key}
use Rattle.rule_document_definitions.specs.Merging.{IsAbstract}

module _ {P : Type 0} where
  -- each field is in a group that has all fields with its key, and each group has fields of one key only
  pub record AreKeyGroups (list : List (StandingField P)) (groups : List (List (StandingField P))) : Type 0 where
    pub has : (f : StandingField P) → Contains list f
        → (group : List (StandingField P)) × (Contains groups group × ((g : StandingField P) → Contains list g → response_key g ≡ response_key f → Contains group g))
    pub only : (group : List (StandingField P)) → Contains groups group
        → (key : List ℕ) × ((f : StandingField P) → Contains group f → Contains list f × (response_key f ≡ key))

  -- the parent type of the field is `parent`, or an abstract type
  abbrev pub IsOn : Judged → List ℕ → StandingField P → Type 0
  IsOn s parent f = (f.parent ≡ parent) ⊎ IsAbstract s f.parent

  -- each field is in a group with all fields of its key whose parent type is its own or abstract; the fields of a group have one key, and
  -- their parent type is one type or abstract: so a key has a group for each object type among its parent types, or one group if there is
  -- none
  pub record AreShareGroups (s : Judged) (list : List (StandingField P)) (groups : List (List (StandingField P))) : Type 0 where
    pub has : (f : StandingField P) → Contains list f
        → (group : List (StandingField P)) × (Contains groups group × ((g : StandingField P) → Contains list g → response_key g ≡ response_key f → IsOn s f.parent g → Contains group g))
    pub only : (group : List (StandingField P)) → Contains groups group
        → (key : List ℕ) × ((parent : List ℕ) × ((f : StandingField P) → Contains group f → Contains list f × ((response_key f ≡ key) × IsOn s parent f)))
