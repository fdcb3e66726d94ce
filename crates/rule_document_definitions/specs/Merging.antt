-- Merging: fields that may be under one response key agree, for all pairs of chains of an operation (GraphQL, October 2021, section 5.3.2).
use Rattle.std.specs.Prelude.{◌≡◌, ℕ, List, [], Option, ◌⊎◌}
use Rattle.tree_literals.specs.TypeTree.{TypeTree, NamedTree, NonNullNamedTree, ListTree, NonNullListTree}
use Rattle.schema_coordinates.specs.Coordinate.{OfAttribute, OfArgument}
use Rattle.rule_definitions.specs.in_schema_types.declared.type_kind.TypeKind.TheVariants as kind
use Rattle.fault_document_errors.specs.DocumentBreaches.{Selected, ConflictingFieldName, ConflictingFieldArgument, ConflictingFieldType}
use Rattle.spec_document.specs.MeantTree.{MeantOperation, MeantDocument}
use Rattle.rule_definitions.specs.Words.{Present}
use Rattle.rule_definitions.specs.Judged.{Judged}
use Rattle.rule_definitions.specs.Names.{named_in}
use Rattle.rule_document_definitions.specs.DocumentFaults.{Broken, broken}
use Rattle.rule_document_definitions.specs.Selected.{InOperation, StandingField, field_name, response_key, operation_name}
use Rattle.rule_document_definitions.specs.Reached.{IsFieldOf}
use Rattle.rule_document_definitions.specs.PossibleTypes.{IsComposite}
use Rattle.rule_document_definitions.specs.Chains.{Meet, Merge}
use Rattle.rule_document_definitions.specs.SameValues.{Plain, plain_given, SameGiven, SameArguments}

-- a reference to a type with an empty name: its lists and marks alone
abbrev pub lists_and_marks : TypeTree (Unit {0}) → TypeTree (Unit {0})
lists_and_marks (NamedTree n) = NamedTree (record { it = []; place = tt })
lists_and_marks (NonNullNamedTree n) = NonNullNamedTree (record { it = []; place = tt })
lists_and_marks (ListTree t) = ListTree (lists_and_marks t)
lists_and_marks (NonNullListTree t) = NonNullListTree (lists_and_marks t)

module _ (s : Judged) where
  abbrev pub IsAbstract : List ℕ → Type 0
  IsAbstract n = Present (s.type_named n) (λ t. (t.kind ≡ kind.Interface) ⊎ (t.kind ≡ kind.Union))

  -- "If typeA or typeB is Scalar or Enum, typeA and typeB must be the same type"; else both are composite
  abbrev pub SameInner : List ℕ → List ℕ → Type 0
  SameInner a b = (a ≡ b) ⊎ (IsComposite s a × IsComposite s b)

  -- "If typeA or typeB is Non-Null, both must be, and if one is List, both": the same lists and marks
  abbrev pub SameType : TypeTree (Unit {0}) → TypeTree (Unit {0}) → Type 0
  SameType a b = (lists_and_marks a ≡ lists_and_marks b) × SameInner (named_in a) (named_in b)

module _ {P : Type 0} where
  -- "fieldsForName": the fields have one response key
  abbrev pub SameKey : StandingField P → StandingField P → Type 0
  SameKey f g = response_key f ≡ response_key g

  -- "the parent types of fieldA and fieldB are equal or either is not an Object Type": one object may have both
  abbrev pub MayShare : Judged → StandingField P → StandingField P → Type 0
  MayShare s f g = SameKey f g × ((f.parent ≡ g.parent) ⊎ (IsAbstract s f.parent ⊎ IsAbstract s g.parent))

  -- "SameResponseShape(fieldA, fieldB)"
  abbrev pub SameShape : Judged → StandingField P → StandingField P → Type 0
  SameShape s f g = SameType s f.definition.ty g.definition.ty

  -- "fieldA and fieldB must have identical field names"
  abbrev pub SameName : StandingField P → StandingField P → Type 0
  SameName f g = field_name f ≡ field_name g

  -- "and identical sets of arguments"
  abbrev pub SameArgument : List ℕ → StandingField P → StandingField P → Type 0
  SameArgument n f g = SameGiven (plain_given n f.head.arguments) (plain_given n g.head.arguments)

  abbrev pub SameNameAndArguments : StandingField P → StandingField P → Type 0
  SameNameAndArguments f g = SameName f g × SameArguments f.head.arguments g.head.arguments

  -- ---- chains: the first field is a root field of the operation, each next one is selected by the one before, through fragments

  abbrev pub Below : MeantDocument P → StandingField P → StandingField P → Type 0
  Below d f g = IsFieldOf d f.position f.set g

  abbrev pub Starts : MeantDocument P → MeantOperation P → StandingField P → Type 0
  Starts d o f = IsFieldOf d (InOperation (operation_name o)) o.set f

  -- a field as a fault names it
  abbrev pub telling : {A : Type 0} → StandingField P → A → Selected P A
  telling f a = record { location = f.place; coordinate = OfAttribute f.parent (field_name f); what = a }

  abbrev pub telling_argument : List ℕ → StandingField P → Selected P (Option Plain)
  telling_argument n f = record {
    location = f.place;
    coordinate = OfArgument f.parent (field_name f) n;
    what = plain_given n f.head.arguments;
  }

module _ {P : Type 0} (s : Judged) (d : MeantDocument P) (o : MeantOperation P) where
  -- the fields of the operation merge ("FieldsInSetCanMerge(set) must be true")
  pub record FieldsMerge : Type 0 where
    -- the last fields of two chains with equal keys at each step have one shape
    pub shapes : Merge (Below d) SameKey (Starts d o) (SameShape s)
    -- the last fields of two chains with fields that one object may have at each step have one name and the same arguments
    pub selections : Merge (Below d) (MayShare s) (Starts d o) SameNameAndArguments

  -- ---- fields that do not merge, with the fault, which is at the second of two fields

  module _ (fault : Broken P) where
    -- Q holds of the last fields of two chains that go together, and these fields do not agree
    abbrev pub AtMeeting : (StandingField P → StandingField P → Type 0) → (StandingField P → StandingField P → Type 0) → (StandingField P → StandingField P → Type 0) → Type 0
    AtMeeting Together Agree Q = (f : StandingField P) × ((g : StandingField P) × (Meet (Below d) Together (Starts d o) f g × ((Agree f g → ⊥) × Q f g)))

    -- ConflictingFieldType: a selection set is valid only if fields of one response key have one shape (section 5.3.2)
    abbrev pub ConflictingFieldTypeAt : Type 0
    ConflictingFieldTypeAt = AtMeeting SameKey (SameShape s) (λ f g.
        fault ≡ broken g.place (ConflictingFieldType (response_key g) (telling f f.definition.ty) (telling g g.definition.ty)))

    -- ConflictingFieldName: a selection set is valid only if fields that one object may have under one response key have
    -- one name (section 5.3.2)
    abbrev pub ConflictingFieldNameAt : Type 0
    ConflictingFieldNameAt = AtMeeting (MayShare s) SameName (λ f g.
        fault ≡ broken g.place (ConflictingFieldName (response_key g) (telling f tt) (telling g tt)))

    -- ConflictingFieldArgument: a selection set is valid only if fields that one object may have under one response key
    -- have the same arguments (section 5.3.2)
    abbrev pub ConflictingFieldArgumentAt : Type 0
    ConflictingFieldArgumentAt = (n : List ℕ) × AtMeeting (MayShare s) (SameArgument n) (λ f g.
        fault ≡ broken g.place (ConflictingFieldArgument (response_key g) (telling_argument n f) (telling_argument n g)))

    -- a rule on merging is broken, with this fault
    abbrev pub MergingBreaks : Type 0
    MergingBreaks = ConflictingFieldTypeAt ⊎ (ConflictingFieldNameAt ⊎ ConflictingFieldArgumentAt)
