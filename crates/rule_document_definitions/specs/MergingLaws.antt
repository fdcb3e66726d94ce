-- Merging by groups of fields gives the same answer as merging of all pairs of chains: laws of lists of contents.
use Rattle.std.specs.Prelude.{ℕ, ◌<◌, List, Contains}
use Rattle.graphql_names.specs.Placed.{Place}
use Rattle.fault_document_errors.specs.DocumentBreaches.{ConflictingFieldName, ConflictingFieldArgument, ConflictingFieldType}
use Rattle.spec_document.specs.MeantTree.{MeantOperation, MeantDocument}
use Rattle.rule_definitions.specs.Judged.{Judged}
use Rattle.rule_document_definitions.specs.DocumentFaults.{broken}
use Rattle.rule_document_definitions.specs.Selected.{StandingField, response_key}
use Rattle.rule_document_definitions.specs.Merging.{FieldsMerge, SameKey, SameShape, MayShare, SameName, SameArgument, SameNameAndArguments, telling, telling_argument, MergingBreaks}
use Rattle.rule_document_definitions.specs.Contents.{ContentBelow, ContentStarts}
use Rattle.rule_document_definitions.specs.Limits.{chain_bound, PassesChainBound}
use Rattle.rule_document_definitions.specs.Settled.{StandWhere, HasStart, StartsStand}
use Rattle.rule_document_definitions.specs.Going.{IsEndOf}
use Rattle.rule_document_definitions.specs.PlainFields.{PlainField, PlainStarts, AreShapesSettled, AreSelectionsSettled, AreShapesStanding, AreSelectionsStanding, IsGoingByKeys, IsGoingByParents}

-- if lists of contents are settled, and one list for shapes and one for selections have all root fields, the fields merge
abbrev pub SettledFieldsMerge : Type 0
SettledFieldsMerge = (s : Judged) (d : MeantDocument Place) (o : MeantOperation Place) (shapes selections : List (List PlainField))
    → AreShapesSettled d s shapes → HasStart (PlainStarts d o) (Contains shapes)
    → AreSelectionsSettled d s selections → HasStart (PlainStarts d o) (Contains selections)
    → FieldsMerge s d o

-- if fields that go together and are in one of these lists are settled, and any two root fields that go together are in one of them, the fields merge
abbrev pub StandingFieldsMerge : Type 0
StandingFieldsMerge = (s : Judged) (d : MeantDocument Place) (o : MeantOperation Place) (shapes selections : List (List PlainField))
    → AreShapesStanding d s (StandWhere SameKey shapes) → StartsStand (PlainStarts d o) (StandWhere SameKey shapes)
    → AreSelectionsStanding d s (StandWhere (MayShare s) selections) → StartsStand (PlainStarts d o) (StandWhere (MayShare s) selections)
    → FieldsMerge s d o

module _ (s : Judged) (d : MeantDocument Place) (o : MeantOperation Place) where
  -- if the fields of the operation merge, two fields of a list that chains lead to agree
  abbrev pub GoingFieldsAgree : Type 0
  GoingFieldsAgree = FieldsMerge s d o → (list : List (StandingField Place)) (f g : StandingField Place) → Contains list f → Contains list g
      → (IsGoingByKeys d o list → SameKey f g → SameShape s f g) × (IsGoingByParents d o s list → MayShare s f g → SameNameAndArguments f g)

  -- if two fields of such a list do not agree, what is told of them is a fault of a rule on merging
  abbrev pub GoingFieldsBreak : Type 0
  GoingFieldsBreak = (list : List (StandingField Place)) (f g : StandingField Place) → Contains list f → Contains list g → (
      (IsGoingByKeys d o list → SameKey f g → (SameShape s f g → ⊥)
      → MergingBreaks s d o (broken g.place (ConflictingFieldType (response_key g) (telling f f.definition.ty) (telling g g.definition.ty))))
      × ((IsGoingByParents d o s list → MayShare s f g → (SameName f g → ⊥)
      → MergingBreaks s d o (broken g.place (ConflictingFieldName (response_key g) (telling f tt) (telling g tt))))
      × (IsGoingByParents d o s list → MayShare s f g → (n : List ℕ) → (SameArgument n f g → ⊥)
      → MergingBreaks s d o (broken g.place (ConflictingFieldArgument (response_key g) (telling_argument n f) (telling_argument n g))))))

-- if a list has a field, and its fields are the ends of chains that are longer than the bound, the operation passes the bound
abbrev pub LongChainsPassTheBound : Type 0
LongChainsPassTheBound = (d : MeantDocument Place) (o : MeantOperation Place) (k : ℕ) (list : List (StandingField Place)) (f : StandingField Place)
    → IsEndOf (ContentBelow d) (ContentStarts d o) k list → Contains list f → chain_bound < k → PassesChainBound d o

-- `GoingFieldsAgree`, for every operation
abbrev pub GoingAgrees : Type 0
GoingAgrees = (s : Judged) (d : MeantDocument Place) (o : MeantOperation Place) → GoingFieldsAgree s d o

-- `GoingFieldsBreak`, for every operation
abbrev pub GoingBreaks : Type 0
GoingBreaks = (s : Judged) (d : MeantDocument Place) (o : MeantOperation Place) → GoingFieldsBreak s d o
