-- What selection sets select, each content once, and the sets of a group of fields (GraphQL, October 2021, section 5.3.2).
use Rattle.std.specs.Prelude.{◌≡◌, ◌⊎◌, ◌++◌, List, Contains}
use Rattle.graphql_names.specs.Placed.{Place}
use Rattle.rule_selection_queries.specs.in_definitions.in_components.Names.{Entries}
use Rattle.rule_selection_queries.specs.in_spec_document.MeantTree.{MeantSet, meant_set, no_meant, meant_then, MeantFragment, MeantDocument}
use Rattle.rule_cycle_search.specs.Paths.{HasNoRepeat}
use Rattle.rule_selection_queries.specs.in_document_definitions.Selected.{StandingField}
use Rattle.rule_selection_queries.specs.in_document_definitions.PlainFields.{IsSelected}
use Rattle.rule_selection_queries.specs.in_document_definitions.ReadFields.{field_read, list_read}
use Rattle.rule_field_sets.specs.declared.member.Member.{Member}
use Rattle.rule_field_groups.specs.Members.{fields_of, contents_of, read_sets}

-- each field of the list is selected by one of the sets, each field that one of them selects has the content of one of the
-- list, and no two of the list have the same content
pub record IsMergedIn (d : MeantDocument Place) (sets : List (MeantSet Place)) (list : List Member) : Type 0 where
  pub within : (x : StandingField Place) → Contains (fields_of list) x → IsSelected d sets x
  pub covers : (x : StandingField Place) → IsSelected d sets x → Contains (contents_of list) (field_read x)
  pub apart : HasNoRepeat (contents_of list)

-- the same in every document with these fragments
abbrev pub IsMerged : Entries (MeantFragment Place) → List (MeantSet Place) → List Member → Type 0
IsMerged fragments sets list = (d : MeantDocument Place) → d.fragments ≡ fragments → IsMergedIn d sets list

-- each field of the list is selected by one of the sets, and no two of the list have the same content
pub record IsPartOfMergedIn (d : MeantDocument Place) (sets : List (MeantSet Place)) (list : List Member) : Type 0 where
  pub within : (x : StandingField Place) → Contains (fields_of list) x → IsSelected d sets x
  pub apart : HasNoRepeat (contents_of list)

abbrev pub IsPartOfMerged : Entries (MeantFragment Place) → List (MeantSet Place) → List Member → Type 0
IsPartOfMerged fragments sets list = (d : MeantDocument Place) → d.fragments ≡ fragments → IsPartOfMergedIn d sets list

-- a set without selections
abbrev pub IsBare : {P : Type 0} → MeantSet P → Type 0
IsBare (meant_set t no_meant) = Unit {0}
IsBare (meant_set t (meant_then s ss)) = ⊥

-- each is the set of a field of the group, and the set of each field of the group has no selections or the content of one of
-- these
pub record AreSetsOf (group : List (StandingField Place)) (sets : List (MeantSet Place)) : Type 0 where
  pub within : (s : MeantSet Place) → Contains sets s → (f : StandingField Place) × (Contains group f × (f.set ≡ s))
  pub covers : (f : StandingField Place) → Contains group f → IsBare f.set ⊎ Contains (read_sets sets) (list_read f.set)

-- nothing but the set of the field is appended; and that set has no selections, or the content of one in the new list
pub record NotesSet (field : StandingField Place) (old new : List (MeantSet Place)) : Type 0 where
  pub added : List (MeantSet Place)
  pub is : new ≡ old ++ added
  pub its : (s : MeantSet Place) → Contains added s → field.set ≡ s
  pub there : IsBare field.set ⊎ Contains (read_sets new) (list_read field.set)
