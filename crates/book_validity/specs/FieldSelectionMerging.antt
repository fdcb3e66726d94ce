-- Field Selection Merging (section 5.3.2): its two algorithms line by line, to be read next to the specification. Fragments may spread one another in
-- a cycle, and then the algorithms do not end; so each is stated to a depth: calls that are nested deeper are taken to return true. Wherever the
-- algorithms end, they return true if that is so at every depth.
use Rattle.std.specs.Prelude.{◌≡◌, ℕ, zero, suc, List, ◌++◌, Contains, Some, ◌⊎◌}
use Rattle.tree_literals.specs.TypeTree.{TypeTree, NamedTree, NonNullNamedTree, ListTree, NonNullListTree}
use Rattle.schema_types.specs.declared.type_kind.TypeKind.TheVariants as kind
use Rattle.rule_definitions.specs.Words.{Present}
use Rattle.rule_definitions.specs.Judged.{Judged}
use Rattle.rule_document_definitions.specs.Selected.{standing_in, as_field, field_name, response_key, in_inline, spread_name, fragment_named, own, held}
use Rattle.rule_document_definitions.specs.Reached.{Closed, InFragmentOf, Reached}
use Rattle.rule_document_definitions.specs.PossibleTypes.{IsComposite}
use Rattle.rule_document_definitions.specs.SameValues.{SameArguments}
use Rattle.book_validity.specs.Words.{Document, Operation, Selection, Field, Never}

-- ---- types

-- Steps 3 and 4 of SameResponseShape; what follows them (`Then`) is given the names inside:
-- "If typeA or typeB is Non-Null: If typeA or typeB is nullable, return false. Let typeA be the nullable type of typeA. Let typeB be
-- the nullable type of typeB."
-- "If typeA or typeB is List: If typeA or typeB is not List, return false. Let typeA be the item type of typeA. Let typeB be the item
-- type of typeB. Repeat from step 3."
abbrev pub Unwrapped : TypeTree (Unit {0}) → TypeTree (Unit {0}) → (List ℕ → List ℕ → Type 0) → Type 0
Unwrapped (NonNullListTree typeA) (NonNullListTree typeB) Then = Unwrapped typeA typeB Then
Unwrapped (NonNullNamedTree typeA) (NonNullNamedTree typeB) Then = Then typeA.it typeB.it
Unwrapped (ListTree typeA) (ListTree typeB) Then = Unwrapped typeA typeB Then
Unwrapped (NamedTree typeA) (NamedTree typeB) Then = Then typeA.it typeB.it
Unwrapped typeA typeB Then = ⊥

module _ (s : Judged) where
  -- "is Scalar or Enum"
  abbrev pub IsScalarOrEnum : List ℕ → Type 0
  IsScalarOrEnum n = Present (s.type_named n) (λ t. (t.kind ≡ kind.Scalar) ⊎ (t.kind ≡ kind.Enum))

  -- "is an Object Type"
  abbrev pub IsObjectType : List ℕ → Type 0
  IsObjectType n = Present (s.type_named n) (λ t. t.kind ≡ kind.Object)

  -- "the parent types of fieldA and fieldB are equal or if either is not an Object Type"
  abbrev pub ParentsMayMeet : Field → Field → Type 0
  ParentsMayMeet fieldA fieldB = (fieldA.parent ≡ fieldB.parent) ⊎ (Never (IsObjectType fieldA.parent) ⊎ Never (IsObjectType fieldB.parent))

-- ---- sets of selections

-- the selection set of a field
abbrev pub selection_set : Field → List Selection
selection_set field = standing_in field.position field.set

-- "Let mergedSet be the result of adding the selection set of fieldA and the selection set of fieldB."
abbrev pub merged_set : Field → Field → List Selection
merged_set fieldA fieldB = selection_set fieldA ++ selection_set fieldB

module _ (d : Document) where
  -- a field "in set including visiting fragments and inline fragments"
  abbrev pub IsIn : List Selection → Field → Type 0
  IsIn set field = (x : Selection) × (Closed (Contains set) (InFragmentOf d) x × (as_field x ≡ Some field))

  -- "Let fieldsForName be the set of selections with a given response name in set including visiting fragments and inline fragments."
  abbrev pub fieldsForName : List ℕ → List Selection → Field → Type 0
  fieldsForName name set field = IsIn set field × (response_key field ≡ name)

  -- "Given each pair of members fieldA and fieldB in fieldsForName": a field makes a pair with itself too
  abbrev pub EachPair : List Selection → (Field → Field → Type 0) → Type 0
  EachPair set Holds = (name : List ℕ) (fieldA fieldB : Field) → fieldsForName name set fieldA → fieldsForName name set fieldB → Holds fieldA fieldB

  -- the selection set of a field, of an inline fragment, of the fragment that is spread
  abbrev pub IsSetOf : Selection → List Selection → Type 0
  IsSetOf x set =
      Present (as_field x) (λ f. selection_set f ≡ set)
      ⊎ ((in_inline x.position x.it ≡ set)
      ⊎ Present (spread_name x.it) (λ n. Present (fragment_named d n) (λ f. held f ≡ set)))

  -- an operation's own selection set, or one of a selection that it reaches
  abbrev pub ReachesSet : Operation → List Selection → Type 0
  ReachesSet o set = (own o ≡ set) ⊎ ((x : Selection) × (Reached d o x × IsSetOf x set))

-- ---- the algorithms

module _ (s : Judged) (d : Document) where
  -- SameResponseShape(fieldA, fieldB):
  abbrev pub SameResponseShape : (depth : ℕ) → Field → Field → Type 0
  SameResponseShape zero fieldA fieldB = Unit {0}
  SameResponseShape (suc depth) fieldA fieldB =
      -- "Let typeA be the return type of fieldA. Let typeB be the return type of fieldB." Then steps 3 and 4, above.
      Unwrapped fieldA.definition.ty fieldB.definition.ty (λ typeA typeB.
      -- "If typeA or typeB is Scalar or Enum: If typeA and typeB are the same type return true, otherwise return false."
      ((IsScalarOrEnum s typeA ⊎ IsScalarOrEnum s typeB) × (typeA ≡ typeB))
      -- "Assert: typeA and typeB are both composite types."
      ⊎ ((IsComposite s typeA × IsComposite s typeB)
      -- "Let mergedSet be .. Let fieldsForName be .. Given each pair of members subfieldA and subfieldB in fieldsForName: If
      -- SameResponseShape(subfieldA, subfieldB) is false, return false. Return true."
      × EachPair d (merged_set fieldA fieldB) (λ subfieldA subfieldB. SameResponseShape depth subfieldA subfieldB)))

  -- FieldsInSetCanMerge(set):
  abbrev pub FieldsInSetCanMerge : (depth : ℕ) → List Selection → Type 0
  FieldsInSetCanMerge zero set = Unit {0}
  FieldsInSetCanMerge (suc depth) set =
      -- "Let fieldsForName be .. Given each pair of members fieldA and fieldB in fieldsForName:"
      EachPair d set (λ fieldA fieldB.
      -- "SameResponseShape(fieldA, fieldB) must be true."
      SameResponseShape depth fieldA fieldB
      -- "If the parent types of fieldA and fieldB are equal or if either is not an Object Type:"
      × (ParentsMayMeet s fieldA fieldB →
      -- "fieldA and fieldB must have identical field names."
      (field_name fieldA ≡ field_name fieldB)
      -- "fieldA and fieldB must have identical sets of arguments."
      × (SameArguments fieldA.head.arguments fieldB.head.arguments
      -- "Let mergedSet be the result of adding the selection set of fieldA and the selection set of fieldB."
      -- "FieldsInSetCanMerge(mergedSet) must be true."
      × FieldsInSetCanMerge depth (merged_set fieldA fieldB))))

  -- FieldsInSetCanMerge(set) is true
  abbrev pub CanMerge : List Selection → Type 0
  CanMerge set = (depth : ℕ) → FieldsInSetCanMerge depth set

  -- "Let set be any selection set defined in the GraphQL document. FieldsInSetCanMerge(set) must be true.": here of each selection set that the
  -- operation reaches; where each fragment is used (5.5.1.4), each set is reached by some operation
  abbrev pub DoItsFieldsMerge : Operation → Type 0
  DoItsFieldsMerge o = (set : List Selection) → ReachesSet d o set → CanMerge set
