-- Contents of fields without places: an examination of merging compares lists of fields by them, and settles them.
use Rattle.std.specs.Prelude.{◌≡◌, List, None, Contains}
use Rattle.spec_document.specs.MeantTree.{MeantSet, MeantOperation, MeantDocument}
use Rattle.spec_document.specs.Unplaced.{unplaced_operation, unplaced_document}
use Rattle.rule_definitions.specs.Judged.{Judged}
use Rattle.rule_document_definitions.specs.Selected.{InOperation, StandingField}
use Rattle.rule_document_definitions.specs.Reached.{IsFieldOf}
use Rattle.rule_document_definitions.specs.Merging.{SameKey, SameShape, MayShare, SameNameAndArguments}
use Rattle.rule_document_definitions.specs.Contents.{content, ContentBelow, ContentStarts}
use Rattle.rule_document_definitions.specs.Settled.{IsSettledIn, IsSettled}
use Rattle.rule_document_definitions.specs.Going.{IsGoing}

-- a field without places
abbrev pub PlainField : Type 0
PlainField = StandingField (Unit {0})

-- a selection set without places
abbrev pub PlainSet : Type 0
PlainSet = MeantSet (Unit {0})

module _ {P : Type 0} (d : MeantDocument P) where
  -- e is the content of a field that one of the sets selects, through fragments
  abbrev pub IsSelected : List (MeantSet P) → StandingField P → Type 0
  IsSelected sets e = (s : MeantSet P) × (Contains sets s × ((f : StandingField P) × (IsFieldOf d (InOperation None) s f × (content f ≡ e))))

  -- `ContentBelow`, without places
  abbrev pub PlainBelow : PlainField → PlainField → Type 0
  PlainBelow c e = ContentBelow (unplaced_document d) c e

  -- `ContentStarts`, without places
  abbrev pub PlainStarts : MeantOperation P → PlainField → Type 0
  PlainStarts o e = ContentStarts (unplaced_document d) (unplaced_operation o) e

  -- ---- settled lists: by keys for shapes, by keys and parents for names and arguments

  module _ (s : Judged) where
    -- lists are settled by keys, in shape
    abbrev pub AreShapesSettled : List (List PlainField) → Type 0
    AreShapesSettled lists = IsSettled PlainBelow SameKey (SameShape s) lists

    -- lists are settled by keys and parents, in name and arguments
    abbrev pub AreSelectionsSettled : List (List PlainField) → Type 0
    AreSelectionsSettled lists = IsSettled PlainBelow (MayShare s) SameNameAndArguments lists

    -- fields for which `Stand` holds are settled: by keys, in shape
    abbrev pub AreShapesStanding : (PlainField → PlainField → Type 0) → Type 0
    AreShapesStanding Stand = IsSettledIn PlainBelow SameKey (SameShape s) Stand

    -- the same by keys and parents, in name and arguments
    abbrev pub AreSelectionsStanding : (PlainField → PlainField → Type 0) → Type 0
    AreSelectionsStanding Stand = IsSettledIn PlainBelow (MayShare s) SameNameAndArguments Stand

  -- ---- lists of contents that chains lead to

  module _ (o : MeantOperation P) where
    -- any two fields with one key are the ends of two chains with equal keys
    abbrev pub IsGoingByKeys : List (StandingField P) → Type 0
    IsGoingByKeys list = IsGoing (ContentBelow d) (ContentStarts d o) SameKey list

    -- any two fields with one key that one object may have are the ends of two chains of such fields
    abbrev pub IsGoingByParents : Judged → List (StandingField P) → Type 0
    IsGoingByParents s list = IsGoing (ContentBelow d) (ContentStarts d o) (MayShare s) list
