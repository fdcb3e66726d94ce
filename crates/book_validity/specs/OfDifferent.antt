-- The algorithms of section 5.3.2 again, read so that a pair of members is two different fields, and each selection set is checked ("Let set be any
-- selection set defined in the GraphQL document"). This reading has the same answer (`EitherReading`).
use Rattle.std.specs.Prelude.{◌≡◌, ℕ, zero, suc, List, ◌⊎◌}
use Rattle.rule_definitions.specs.Judged.{Judged}
use Rattle.rule_document_definitions.specs.Selected.{field_name}
use Rattle.rule_document_definitions.specs.PossibleTypes.{IsComposite}
use Rattle.rule_document_definitions.specs.SameValues.{SameArguments}
use Rattle.book_validity.specs.Words.{Document, Operation, Selection, Field}
use Rattle.book_validity.specs.FieldSelectionMerging.{Unwrapped, IsScalarOrEnum, ParentsMayMeet, merged_set, fieldsForName}
use Rattle.book_validity.specs.FieldSelectionMerging.{ReachesSet}

-- they are at different positions in the document
abbrev pub AreDifferent : Field → Field → Type 0
AreDifferent fieldA fieldB = fieldA.position ≡ fieldB.position → ⊥

module _ (s : Judged) (d : Document) where
  abbrev pub EachDifferentPair : List Selection → (Field → Field → Type 0) → Type 0
  EachDifferentPair set Holds = (name : List ℕ) (fieldA fieldB : Field) → fieldsForName d name set fieldA → fieldsForName d name set fieldB → AreDifferent fieldA fieldB → Holds fieldA fieldB

  abbrev pub SameResponseShapeOfDifferent : (depth : ℕ) → Field → Field → Type 0
  SameResponseShapeOfDifferent zero fieldA fieldB = Unit {0}
  SameResponseShapeOfDifferent (suc depth) fieldA fieldB = Unwrapped fieldA.definition.ty fieldB.definition.ty (λ typeA typeB.
      ((IsScalarOrEnum s typeA ⊎ IsScalarOrEnum s typeB) × (typeA ≡ typeB))
      ⊎ ((IsComposite s typeA × IsComposite s typeB)
      × EachDifferentPair (merged_set fieldA fieldB) (λ subfieldA subfieldB. SameResponseShapeOfDifferent depth subfieldA subfieldB)))

  abbrev pub FieldsInSetCanMergeOfDifferent : (depth : ℕ) → List Selection → Type 0
  FieldsInSetCanMergeOfDifferent zero set = Unit {0}
  FieldsInSetCanMergeOfDifferent (suc depth) set = EachDifferentPair set (λ fieldA fieldB.
      SameResponseShapeOfDifferent depth fieldA fieldB
      × (ParentsMayMeet s fieldA fieldB →
      (field_name fieldA ≡ field_name fieldB)
      × (SameArguments fieldA.head.arguments fieldB.head.arguments
      × FieldsInSetCanMergeOfDifferent depth (merged_set fieldA fieldB))))

  -- each set that the operation reaches can merge
  abbrev pub AnySetCanMerge : Operation → Type 0
  AnySetCanMerge o = (set : List Selection) → ReachesSet d o set → (depth : ℕ) → FieldsInSetCanMergeOfDifferent depth set
