-- Fields by their contents: what merging reads of a field, whatever its position. In a document without places, contents are all
-- that equality of fields compares.
use Rattle.std.specs.Prelude.{◌≡◌, None}
use Rattle.tree_operations.specs.SelectionTree.{unplaced_head}
use Rattle.spec_document.specs.MeantTree.{MeantOperation, MeantDocument}
use Rattle.spec_document.specs.Unplaced.{unplaced_set}
use Rattle.rule_definitions.specs.Judged.{Judged}
use Rattle.rule_document_definitions.specs.Selected.{InOperation, StandingField}
use Rattle.rule_document_definitions.specs.Reached.{IsFieldOf}
use Rattle.rule_document_definitions.specs.Chains.{Merge}
use Rattle.rule_document_definitions.specs.Merging.{SameKey, SameShape, MayShare, SameNameAndArguments}

-- the field without its position
abbrev pub content : {P : Type 0} → StandingField P → StandingField P
content f = record f { position = InOperation None }

-- the field without its position and without the places in it
abbrev pub unplaced_content : {P : Type 0} → StandingField P → StandingField (Unit {0})
unplaced_content f = record {
  position = InOperation None;
  parent = f.parent;
  place = tt;
  definition = f.definition;
  head = unplaced_head f.head;
  set = unplaced_set f.set;
}

module _ {P : Type 0} (d : MeantDocument P) where
  -- e is the content of a field that c selects, through fragments; below, of a field that the operation o selects
  abbrev pub ContentBelow : StandingField P → StandingField P → Type 0
  ContentBelow c e = (f : StandingField P) × (IsFieldOf d (InOperation None) c.set f × (content f ≡ e))

  abbrev pub ContentStarts : MeantOperation P → StandingField P → Type 0
  ContentStarts o e = (f : StandingField P) × (IsFieldOf d (InOperation None) o.set f × (content f ≡ e))

-- `FieldsMerge`, for chains of contents
pub record ContentsMerge {P : Type 0} (s : Judged) (d : MeantDocument P) (o : MeantOperation P) : Type 0 where
  pub shapes : Merge (ContentBelow d) SameKey (ContentStarts d o) (SameShape s)
  pub selections : Merge (ContentBelow d) (MayShare s) (ContentStarts d o) SameNameAndArguments
