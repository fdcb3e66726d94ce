-- Private: leads to `FieldsMerge`. Merging by groups: each list of fields is examined once, by its groups, instead of once for each pair of chains.
use Rattle.std.specs.Prelude.{List, [], ◌∷◌, Contains}
use Rattle.std.specs.List.{AllByRecursion}

module _ {F : Type 0} where
  -- each field of a group agrees with the first
  abbrev pub AgreeWithHead : (F → F → Type 0) → List F → Type 0
  AgreeWithHead Agree [] = Unit {0}
  AgreeWithHead Agree (head ∷ fs) = AllByRecursion (Agree head) (head ∷ fs)

  -- the groups of a list: any two fields that go together share a group, and the fields of a group go together
  pub record AreGroups (Together : F → F → Type 0) (list : List F) (groups : List (List F)) : Type 0 where
    pub covered : (f g : F) → Contains list f → Contains list g → Together f g → (group : List F) × (Contains groups group × (Contains group f × Contains group g))
    pub within : (group : List F) (f g : F) → Contains groups group → Contains group f → Contains group g → Contains list f × Together f g
