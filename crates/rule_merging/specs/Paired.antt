-- Pairs of fields from pairs of sets that are looked at: one set selects the one field, the other set the other, each through what
-- it spreads (GraphQL, October 2021, section 5.3.2). A spread is a step in one of the two sets only.
use Rattle.std.specs.Prelude.{◌≡◌, ◌⊎◌}
use Rattle.rule_field_groups.specs.in_document_definitions.Reached.{Closed}

module _ {F S : Type 0} (Own : S → F → Type 0) (Spreads : S → S → Type 0) where
  -- spreads lead from the one set to the other, or the two are equal
  abbrev pub LeadsTo : S → S → Type 0
  LeadsTo a = Closed (λ s. s ≡ a) Spreads

  -- the set selects the field: it is an own field of a set to which spreads lead
  abbrev pub Selects : S → F → Type 0
  Selects a x = (s : S) × (LeadsTo a s × Own s x)

  -- the first set of one of these pairs selects the one field, the second set the other
  abbrev pub SelectEach : (S → S → Type 0) → F → F → Type 0
  SelectEach Pair x y = (a : S) × ((b : S) × (Pair a b × (Selects a x × Selects b y)))

  module _ (Together : F → F → Type 0) (Stand : F → F → Type 0) where
    -- own fields of the two sets that go together satisfy `Stand`, and what one of the sets spreads is looked at with the other
    pub record IsPairDone (Looked : S → S → Type 0) (a b : S) : Type 0 where
      pub own : (x y : F) → Own a x → Own b y → Together x y → Stand x y
      pub one : (s : S) → Spreads a s → Looked s b
      pub other : (s : S) → Spreads b s → Looked a s

    -- each pair that is looked at is done, or is left
    abbrev pub ArePairsDone : (S → S → Type 0) → (S → S → Type 0) → Type 0
    ArePairsDone Looked Left = (a b : S) → Looked a b → Left a b ⊎ IsPairDone Looked a b
