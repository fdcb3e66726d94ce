-- Private: leads to `FieldsMerge`. The results of examining two fields, which are own fields of two sets that are looked at together.
use Rattle.std.specs.Prelude.{◌≡◌, ◌++◌, ◌∷◌, ◌⊎◌, IsTrue, List, [], Contains}
use Rattle.std.specs.List.{AllByRecursion}
use Rattle.graphql_names.specs.Placed.{Place}
use Rattle.rule_field_groups.specs.in_spec_document.MeantTree.{MeantDocument}
use Rattle.rule_field_groups.specs.in_definitions.Judged.{Judged}
use Rattle.rule_field_groups.specs.in_document_definitions.DocumentFaults.{Broken}
use Rattle.rule_field_groups.specs.in_document_definitions.Selected.{StandingField}
use Rattle.rule_field_groups.specs.in_document_definitions.ReadFields.{ReadField}
use Rattle.rule_field_groups.specs.in_document_definitions.Settled.{AreInOne}
use Rattle.rule_field_groups.specs.in_sets.in_reach.Broken.{brokens_of}
use Rattle.rule_field_groups.specs.Members.{field_of, fields_of, content_of}
use Rattle.rule_field_groups.specs.in_sets.declared.member.Member.{Member}
use Rattle.rule_field_groups.specs.Passes.{Together, Conflict}
use Rattle.rule_field_groups.specs.declared.pass.Pass.{Pass}
use Rattle.rule_field_groups.specs.declared.pass.Pass.TheVariants.{Shapes, Selections}
use Rattle.rule_field_groups.specs.MergeState.{Kept, account_of}
use Rattle.rule_merging.specs.Counted.{IsLast, Grows}
use Rattle.rule_merging.specs.Examined.{Sets, Breaches, AreOf, IsFresh, all_read, schema_of, document_of, sets_of}
use Rattle.rule_field_groups.specs.declared.merge_state.MergeState.{MergeState}
use Rattle.rule_merging.specs.declared.examination.Examination.{Examination}

-- which two fields are wanted
abbrev pub TwoFields : Type 1
TwoFields = Member → Member → Type 0

-- these two fields
abbrev pub are_two : Member → Member → TwoFields
are_two one other p q = (p ≡ one) × (q ≡ other)

-- a field of the first list and one of the second
abbrev pub are_of : List Member → List Member → TwoFields
are_of ones others p q = Contains ones p × Contains others q

-- the list of the two fields; of the first one only, if both are read alike
abbrev pub IsListOf : Member → Member → List Member → Type 0
IsListOf one other list = ((content_of one ≡ content_of other) × (list ≡ one ∷ [])) ⊎ ((content_of one ≡ content_of other → ⊥) × (list ≡ one ∷ other ∷ []))

-- the same by their numbers
abbrev pub IsListOfTwo : Member → Member → List Member → Type 0
IsListOfTwo one other list = ((one.number ≡ other.number) × (list ≡ one ∷ [])) ⊎ ((one.number ≡ other.number → ⊥) × (list ≡ one ∷ other ∷ []))

-- one object may have both fields, by their numbers: they are on one type, or one of them is on an abstract type
abbrev pub HaveOneObject : Member → Member → Type 0
HaveOneObject p q = (p.parent ≡ q.parent) ⊎ (IsTrue p.is_shared ⊎ IsTrue q.is_shared)

-- that is asked if names and arguments are compared, and not if shapes are
abbrev pub IsAsked : Pass → Member → Member → Type 0
IsAsked Shapes p q = Unit {0}
IsAsked Selections p q = HaveOneObject p q

-- the two fields go together, by their numbers
abbrev pub GoTogetherByNumbers : Pass → Member → Member → Type 0
GoTogetherByNumbers pass p q = (p.key ≡ q.key) × IsAsked pass p q

-- their numbers show that they agree: those of their types, or else those of their names and arguments
abbrev pub AgreeByNumbers : Pass → Member → Member → Type 0
AgreeByNumbers Shapes p q = p.ty ≡ q.ty
AgreeByNumbers Selections p q = p.call ≡ q.call

-- so they show that all fields of the list agree with its first
abbrev pub AllAgreeByNumbers : Pass → List Member → Type 0
AllAgreeByNumbers pass [] = Unit {0}
AllAgreeByNumbers pass (p ∷ ps) = AllByRecursion (AgreeByNumbers pass p) ps

-- any two fields of the list go together
abbrev pub GoAllTogether : Pass → Judged → List Member → Type 0
GoAllTogether pass s list = (f g : StandingField Place) → Contains (fields_of list) f → Contains (fields_of list) g → Together pass s f g

abbrev pub both_of : Member → Member → List (StandingField Place)
both_of p q = field_of p ∷ field_of q ∷ []

module _ (pass : Pass) (s : Judged) (d : MeantDocument Place) where
  -- the two fields are wanted and go together
  abbrev pub GoTogether : TwoFields → Member → Member → Type 0
  GoTogether Wanted p q = Wanted p q × Together pass s (field_of p) (field_of q)

  -- the breach tells of two fields that go together, among two that are wanted
  abbrev pub TellsOfTwo : TwoFields → Broken Place → Type 0
  TellsOfTwo Wanted fault = (p : Member) × ((q : Member) × (Wanted p q
      × ((f : StandingField Place) × ((g : StandingField Place) × (Contains (both_of p q) f × (Contains (both_of p q) g × (Together pass s f g × Conflict pass s fault f g)))))))

  -- any two fields of the group go together, and all are among these two
  abbrev pub IsGroupOfTwo : Member → Member → List (StandingField Place) → Type 0
  IsGroupOfTwo p q group = (f g : StandingField Place) → Contains group f → Contains group g → Contains (both_of p q) f × Together pass s f g

  -- the sets are those of such a group of two wanted fields
  abbrev pub LiesUnderTwo : TwoFields → Sets → Type 0
  LiesUnderTwo Wanted sets = (p : Member) × ((q : Member) × (Wanted p q × ((group : List (StandingField Place)) × (IsGroupOfTwo p q group × AreOf group sets))))

  -- any two wanted fields that go together are compared, and lists of their sets are made
  pub record FieldsPaired (Wanted : TwoFields) (old new : Kept) (added : List (Broken Place)) (next : List Sets) : Type 0 where
    pub right : (fault : Broken Place) → Contains added fault → TellsOfTwo Wanted fault
    pub under : (sets : Sets) → Contains next sets → LiesUnderTwo Wanted sets
    pub same : new ≡ record old { lists = new.lists }
    pub more : (list : List ReadField) → Contains old.lists list → Contains new.lists list
    -- if nothing is told
    pub stand : added ≡ [] → (p q : Member) → GoTogether Wanted p q → AreInOne new.lists (content_of p) (content_of q)
    pub fresh : added ≡ [] → (list : List ReadField) → Contains new.lists list → Contains old.lists list ⊎ IsFresh pass s d (all_read next) list

abbrev pub PairsFields : Examination → TwoFields → Kept → Kept → Breaches → Breaches → List Sets → List Sets → Type 0
PairsFields e Wanted examined examined' old new next next' = (added : List (Broken Place)) × ((below : List Sets) × ((brokens_of new ≡ brokens_of old ++ added) × ((next' ≡ next ++ below)
    × FieldsPaired e.pass (schema_of e) (document_of e) Wanted examined examined' added below)))

-- the lists that were examined grow when wanted fields are examined, two by two
abbrev pub GrowsByTwo : Examination → TwoFields → MergeState → MergeState → Type 0
GrowsByTwo e Wanted old new = Grows (document_of e) (λ os. (p q : Member) → Wanted p q → IsLast (document_of e) os (content_of p) × IsLast (document_of e) os (content_of q)) e.pass (account_of (sets_of e) old) (account_of (sets_of e) new)
