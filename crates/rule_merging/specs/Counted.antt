-- How often shapes were compared, and the lists that were examined for it.
use Rattle.std.specs.Prelude.{◌≡◌, ◌≤◌, ◌+◌, ◌*◌, ◌++◌, ◌∷◌, ◌⊎◌, ℕ, List, [], map, length, slice_get, Some, Contains}
use Rattle.std.specs.List.{sum}
use Rattle.std.specs.List.Sorted.{IsPermutation}
use Rattle.graphql_names.specs.Placed.{Place}
use Rattle.rule_cycle_search.specs.Paths.{HasNoRepeat}
use Rattle.list_interner.specs.NumberLists.{HaveSame, length_above_two}
use Rattle.rule_field_groups.specs.in_spec_document.MeantTree.{MeantSet, MeantOperation, MeantDocument}
use Rattle.rule_field_groups.specs.in_document_definitions.Selected.{StandingField}
use Rattle.rule_field_groups.specs.in_document_definitions.Chains.{Chain}
use Rattle.rule_field_groups.specs.in_document_definitions.Merging.{Below, Starts}
use Rattle.rule_field_groups.specs.in_document_definitions.ReadFields.{field_read}
use Rattle.rule_field_groups.specs.in_document_definitions.ReadFields.{ReadField}
use Rattle.rule_field_groups.specs.in_document_definitions.PlainFields.{IsSelected}
use Rattle.rule_field_groups.specs.Compared.{compared}
use Rattle.rule_field_groups.specs.Paid.{Account, most_members, IsWithin}
use Rattle.rule_field_groups.specs.declared.pass.Pass.{Pass}

-- no two of these lists have the same members
abbrev pub DifferInMembers : List (List ReadField) → Type 0
DifferInMembers lists = (i j : ℕ) (a b : List ReadField) → slice_get lists i ≡ Some a → slice_get lists j ≡ Some b → HaveSame a b → i ≡ j

-- none of these lists has a member twice
abbrev pub AreApart : List (List ReadField) → Type 0
AreApart lists = (list : List ReadField) → Contains lists list → HasNoRepeat list

-- how often shapes are compared, at most, for so many fields
abbrev pub most_comparisons : ℕ → ℕ
most_comparisons n = n * n + most_members n

module _ (d : MeantDocument Place) where
  module _ (os : List (MeantOperation Place)) where
    -- x is the content of the last field of a chain of one of these operations, in the document
    abbrev pub IsLast : ReadField → Type 0
    IsLast x = (o : MeantOperation Place) × ((c : List (StandingField Place)) × ((f : StandingField Place) × (Contains os o
        × (Chain (Below d) (Starts d o) (c ++ f ∷ []) × (field_read f ≡ x)))))

    abbrev pub AreLast : List ReadField → Type 0
    AreLast list = (x : ReadField) → Contains list x → IsLast x

    -- the list has no member twice, and all its members are contents of last fields of chains
    pub record IsListed (list : List ReadField) : Type 0 where
      pub apart : HasNoRepeat list
      pub last : AreLast list

    -- what one of these lists of sets selects has the content of a last field of a chain
    abbrev pub AreListed : List (List (MeantSet Place)) → Type 0
    AreListed lists = (sets : List (MeantSet Place)) → Contains lists sets → (x : StandingField Place) → IsSelected d sets x → IsLast (field_read x)

    -- shapes were compared at most as often as the examined lists have members in all; no two of these have the same members, none has a
    -- member twice, and all members are contents of last fields of chains
    pub record IsCountedBy (lists : List (List ReadField)) (count : ℕ) : Type 0 where
      pub bound : count ≤ sum (map length lists)
      pub different : DifferInMembers lists
      pub listed : (list : List ReadField) → Contains lists list → IsListed list

    -- at least as much was spent as the lists of more than two have members, and at most what the fields pay that were met: these are
    -- different contents, all of them of last fields of chains
    pub record IsPaidBy (lists : List (List ReadField)) (met : List ReadField) (spent : ℕ) : Type 0 where
      pub paid : sum (map length_above_two lists) ≤ spent
      pub within : spent ≤ most_members (length met)
      pub once : HasNoRepeat met
      pub last : AreLast met

  -- new lists are added to those that were examined, in any order: none has a member twice, and no two of all lists have the same members, if that was so
  -- before; shapes are compared at most as often as the new lists have members in all, and the count never falls. Those of more than two are paid. For
  -- operations that are Given, their members, and the fields that are met, are contents of last fields of chains
  pub record Grows (Given : List (MeantOperation Place) → Type 0) (pass : Pass) (old new : Account) : Type 0 where
    pub added : List (List ReadField)
    pub is : IsPermutation (added ++ old.lists) new.lists
    pub more : old.comparisons ≤ new.comparisons
    pub count : new.comparisons ≤ old.comparisons + sum (map (compared pass) added)
    pub apart : AreApart added
    pub different : AreApart old.lists → DifferInMembers old.lists → DifferInMembers new.lists
    pub last : (os : List (MeantOperation Place)) → Given os → (list : List ReadField) → Contains added list → AreLast os list
    pub paid : old.spent + sum (map length_above_two added) ≤ new.spent
    pub within : IsWithin old → IsWithin new
    pub once : HasNoRepeat old.met → HasNoRepeat new.met
    pub meets : (os : List (MeantOperation Place)) → Given os → (x : ReadField) → Contains new.met x → Contains old.met x ⊎ IsLast os x
