-- Fields that are written in a set, and in the sets to which spreads lead.
use Rattle.std.specs.Prelude.{◌≡◌, ℕ, List, flat_map, None, Some, option_map, option_to_list, Contains}
use Rattle.spec_document.specs.in_components.Names.{Entries}
use Rattle.spec_document.specs.MeantTree.{MeantSet, MeantFragment, MeantDocument}
use Rattle.rule_definitions.specs.in_schema_types.Addresses.{under}
use Rattle.rule_document_definitions.specs.Selected.{Position, InOperation, StandingField, field_there}
use Rattle.rule_document_definitions.specs.Reached.{Closed, IsFieldOf}
use Rattle.rule_document_definitions.specs.Contents.{content}
use Rattle.rule_document_definitions.specs.Written.{Written, written_in, spreads_written}

module _ {P : Type 0} where
  -- the field, if it is one, with nothing told of where it stands
  abbrev pub field_written : Written P → List (StandingField P)
  field_written e = option_to_list (field_there (InOperation None) e.0 e.1)

  -- the fields of a set
  abbrev pub fields_written : MeantSet P → List (StandingField P)
  fields_written s = flat_map field_written (written_in s)

  module _ (fragments : Entries (MeantFragment P)) where
    -- the set spreads a fragment whose set this is
    abbrev pub SpreadsSet : MeantSet P → MeantSet P → Type 0
    SpreadsSet s t = (n : List ℕ) × (Contains (spreads_written s) n × (option_map (λ f. f.set) (under n fragments) ≡ Some t))

    -- spreads lead from the set to this one: the least sets with the set itself, and those of the fragments that each spreads
    abbrev pub IsSetFrom : MeantSet P → MeantSet P → Type 0
    IsSetFrom s = Closed (λ t. t ≡ s) SpreadsSet

    -- the field is written in a set to which spreads lead
    abbrev pub IsWrittenFrom : MeantSet P → StandingField P → Type 0
    IsWrittenFrom s x = (t : MeantSet P) × (IsSetFrom s t × Contains (fields_written t) x)

-- a field with this content is one of the set, through fragments
abbrev pub HasContent : {P : Type 0} → MeantDocument P → Position → MeantSet P → StandingField P → Type 0
HasContent {P} d at s x = (f : StandingField P) × (IsFieldOf d at s f × (content f ≡ x))
