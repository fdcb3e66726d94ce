-- Private: leads to `MergingBreaks` and `FieldsMerge`. The results of examining groups, a list, a level and all levels.
use Rattle.std.specs.Prelude.{◌≡◌, ◌+◌, ◌++◌, ◌∷◌, ℕ, Bool, true, false, List, [], map, length, Some, option_map, Vec, Contains}
use Rattle.std.specs.declared.alloc.Global.{Global}
use Rattle.graphql_names.specs.Placed.{Place}
use Rattle.graphql_faults.specs.in_document_errors.declared.build_error.BuildError.{BuildError}
use Rattle.rule_field_groups.specs.in_sets.in_schema.SchemaOf.{schema_tree}
use Rattle.rule_field_groups.specs.in_spec_document.MeantTree.{MeantSet, MeantOperation, MeantDocument}
use Rattle.rule_field_groups.specs.in_definitions.in_schema_types.Addresses.{under}
use Rattle.rule_field_groups.specs.in_sets.in_reach.in_typed_operations.DocumentView.{document_meant}
use Rattle.rule_field_groups.specs.in_definitions.Judged.{Judged, judged}
use Rattle.rule_field_groups.specs.in_document_definitions.DocumentFaults.{Broken}
use Rattle.rule_field_groups.specs.in_document_definitions.Selected.{StandingField}
use Rattle.rule_field_groups.specs.in_document_definitions.Groups.{AgreeWithHead, AreGroups}
use Rattle.rule_field_groups.specs.in_document_definitions.Limits.{PassesChainBound}
use Rattle.rule_field_groups.specs.in_sets.in_reach.Broken.{brokens_of}
use Rattle.rule_field_groups.specs.Members.{fields_of}
use Rattle.rule_field_groups.specs.in_sets.declared.member.Member.{Member}
use Rattle.rule_field_groups.specs.in_document_definitions.ReadFields.{ReadField, ReadSet, list_read, fields_in, spreads_in, fragments_read, SelectsRead, ReadBelow, ReadStarts}
use Rattle.rule_field_groups.specs.in_document_definitions.PlainFields.{IsSelected}
use Rattle.rule_field_groups.specs.in_document_definitions.Settled.{AreInOne, StandWhere, StartsStand, IsSettledIn, IsUnderWay}
use Rattle.rule_merging.specs.Paired.{ArePairsDone}
use Rattle.rule_field_groups.specs.LaterField.{BreaksAtLater}
use Rattle.rule_field_groups.specs.Passes.{Together, Agree, Conflict, ReadTogether, ReadAgree}
pub use Rattle.rule_field_groups.specs.Under.{Sets, all_sets, sets_in, AreOf, IsAmong, HaveBoth}
use Rattle.rule_field_groups.specs.Members.{read_sets}
use Rattle.rule_field_groups.specs.declared.pass.Pass.{Pass}
use Rattle.rule_field_groups.specs.MergeState.{Kept, HasLooked, account_of, kept_of}
use Rattle.rule_merging.specs.Counted.{AreListed, Grows}
use Rattle.rule_field_groups.specs.in_sets.in_reach.Fields.{meant_fragments}
use Rattle.rule_field_groups.specs.in_sets.Nodes.{AreSets, HasAllStarts, schema_in}
use Rattle.rule_field_groups.specs.in_sets.declared.field_sets.FieldSets.{FieldSets}
use Rattle.rule_field_groups.specs.declared.merge_state.MergeState.{MergeState}
use Rattle.rule_merging.specs.declared.examination.Examination.{Examination}

abbrev pub schema_of : Examination → Judged
schema_of e = judged (schema_tree e.schema.now)

abbrev pub document_of : Examination → MeantDocument Place
document_of e = document_meant e.document.now

-- the document's sets as nodes
abbrev pub sets_of : Examination → FieldSets
sets_of e = e.sets.now

-- the examination has the sets of its document, those of all fragments among them, under its schema
pub record HasSets (e : Examination) : Type 0 where
  pub are : AreSets (sets_of e)
  pub starts : HasAllStarts (sets_of e)
  pub schema : schema_in (sets_of e) ≡ schema_of e
  pub fragments : meant_fragments (sets_of e).fragments.now ≡ (document_of e).fragments

-- a list of breaches
abbrev pub Breaches : Type 0
Breaches = Vec (Place × BuildError) Global

-- what merging reads of lists of sets
abbrev pub all_read : List Sets → List (List ReadSet)
all_read lists = map read_sets lists

-- if two fields go together, both are in one of the lists
abbrev pub StandTogether : Pass → Judged → List (List ReadField) → ReadField → ReadField → Type 0
StandTogether pass s lists = StandWhere (ReadTogether pass s) lists

-- ---- pairs of sets

-- the two sets are one of these pairs
abbrev pub AreLookedAt : List (List ReadSet) → ReadSet → ReadSet → Type 0
AreLookedAt looked a b = HasLooked looked (a ∷ b ∷ [])

module _ (d : MeantDocument Place) where
  -- what one of the sets selects, through fragments
  abbrev pub ReadSelected : List ReadSet → ReadField → Type 0
  ReadSelected sets x = (s : ReadSet) × (Contains sets s × SelectsRead (fragments_read d) s x)

  -- one of these lists of sets selects both fields
  abbrev pub IsLeft : List (List ReadSet) → ReadField → ReadField → Type 0
  IsLeft left x y = (sets : List ReadSet) × (Contains left sets × (ReadSelected sets x × ReadSelected sets y))

  -- any two fields that one of these lists of sets selects are in one of the lists, if they go together
  abbrev pub AllStand : Pass → Judged → List (List ReadSet) → List (List ReadField) → Type 0
  AllStand pass s looked lists = (sets : List ReadSet) → Contains looked sets → (x y : ReadField) → ReadSelected sets x → ReadSelected sets y → StandTogether pass s lists x y

  -- a field of the set or of its inline fragments; the set of a fragment that these spread
  abbrev pub ReadOwn : ReadSet → ReadField → Type 0
  ReadOwn a x = Contains (fields_in a) x

  abbrev pub ReadSpreads : ReadSet → ReadSet → Type 0
  ReadSpreads a b = (n : List ℕ) × (Contains (spreads_in a) n × (option_map (λ f. list_read f.set) (under n d.fragments) ≡ Some b))

  -- each pair that was looked at is one of those that are left, or its own fields that go together are in one of the lists, and what one of
  -- the two spreads was looked at with the other
  abbrev pub PairsAreDone : Pass → Judged → List (List ReadSet) → Kept → Type 0
  PairsAreDone pass s twos kept = ArePairsDone ReadOwn ReadSpreads (ReadTogether pass s) (AreInOne kept.lists) (AreLookedAt kept.looked) (AreLookedAt twos)

  -- fields of the lists that go together are settled, what the expanded sets select is in the lists, and all pairs are done
  pub record AreSettled (pass : Pass) (s : Judged) (kept : Kept) : Type 0 where
    pub fields : IsSettledIn (ReadBelow d) (ReadTogether pass s) (ReadAgree pass s) (StandTogether pass s kept.lists)
    pub sets : AllStand pass s kept.expanded kept.lists
    pub pairs : PairsAreDone pass s [] kept

  -- the same while pairs and lists of sets are left, with what the operation starts with
  pub record AreUnderWay (pass : Pass) (s : Judged) (o : MeantOperation Place) (twos : List (List ReadSet)) (left : List (List ReadSet)) (kept : Kept) : Type 0 where
    pub fields : IsUnderWay (ReadBelow d) (ReadTogether pass s) (ReadAgree pass s) (ReadStarts d o) (IsLeft left) (StandTogether pass s kept.lists)
    pub sets : AllStand pass s kept.expanded kept.lists
    pub pairs : PairsAreDone pass s twos kept

  -- whatever the second list of sets selects, the first selects too
  abbrev pub SelectsAsMuch : Sets → Sets → Type 0
  SelectsAsMuch sets part = (x : StandingField Place) → IsSelected d part x → IsSelected d sets x

  -- whether one of the lists of sets selects a field
  abbrev pub HaveFields : Bool → List Sets → Type 0
  HaveFields true lists = (sets : Sets) × (Contains lists sets × ((x : StandingField Place) × IsSelected d sets x))
  HaveFields false lists = (sets : Sets) → Contains lists sets → (x : StandingField Place) → IsSelected d sets x → ⊥

module _ (pass : Pass) (s : Judged) (d : MeantDocument Place) where
  -- ---- groups

  -- the breach tells of two fields of one of the groups
  abbrev pub TellsOf : List (List (StandingField Place)) → Broken Place → Type 0
  TellsOf groups fault = (group : List (StandingField Place)) × (Contains groups group × ((f : StandingField Place) × ((g : StandingField Place)
      × (Contains group f × (Contains group g × Conflict pass s fault f g)))))

  -- the sets are those of fields of one of the groups
  abbrev pub LieUnder : List (List (StandingField Place)) → Sets → Type 0
  LieUnder groups sets = (group : List (StandingField Place)) × (Contains groups group × AreOf group sets)

  -- what is told of groups, and the lists of the sets of their fields
  pub record GroupsExamined (groups : List (List (StandingField Place))) (added : List (Broken Place)) (next : List Sets) : Type 0 where
    pub right : (fault : Broken Place) → Contains added fault → TellsOf groups fault
    pub under : (sets : Sets) → Contains next sets → LieUnder groups sets
    -- if nothing is told
    pub agree : added ≡ [] → (group : List (StandingField Place)) → Contains groups group → AgreeWithHead (Agree pass s) group
    pub below : (group : List (StandingField Place)) → Contains groups group → (f g : StandingField Place) → Contains group f → Contains group g → HaveBoth next f g

  -- ---- a list of fields

  pub record ListExamined (list : List Member) (added : List (Broken Place)) (next : List Sets) : Type 0 where
    pub groups : List (List (StandingField Place))
    pub are : AreGroups (Together pass s) (fields_of list) groups
    pub examined : GroupsExamined groups added next

  -- any two of the list that go together agree, and for any two fields below them one of the lists of sets that are left selects both
  abbrev pub IsFresh : List (List ReadSet) → List ReadField → Type 0
  IsFresh left list = (x y : ReadField) → Contains list x → Contains list y → ReadTogether pass s x y
      → ReadAgree pass s x y × ((u v : ReadField) → ReadBelow d x u → ReadBelow d y v → IsLeft d left u v)

  -- ---- lists of sets

  -- the breach tells of two fields that one of the lists selects and that go together
  abbrev pub TellsIn : List Sets → Broken Place → Type 0
  TellsIn lists fault = (sets : Sets) × (Contains lists sets × ((f : StandingField Place) × ((g : StandingField Place)
      × (IsSelected d sets f × (IsSelected d sets g × (Together pass s f g × Conflict pass s fault f g))))))

  -- the sets select the fields, and any two of these go together
  abbrev pub IsGroupIn : Sets → List (StandingField Place) → Type 0
  IsGroupIn sets group = (f g : StandingField Place) → Contains group f → Contains group g → IsSelected d sets f × Together pass s f g

  -- the sets are those of fields of such a group, which one of the lists selects
  abbrev pub ComeFrom : List Sets → Sets → Type 0
  ComeFrom lists next = (sets : Sets) × (Contains lists sets × ((group : List (StandingField Place)) × (IsGroupIn sets group × AreOf group next)))

  -- these lists of sets, each of which was left, are examined
  pub record SetsExamined (lists : List Sets) (old new : Kept) (added : List (Broken Place)) (next : List Sets) : Type 0 where
    pub right : (fault : Broken Place) → Contains added fault → TellsIn lists fault
    pub under : (sets : Sets) → Contains next sets → ComeFrom lists sets
    pub more : (list : List ReadField) → Contains old.lists list → Contains new.lists list
    -- if nothing is told, whatever else is left
    pub settled : added ≡ [] → (o : MeantOperation Place) (left : List (List ReadSet))
        → AreUnderWay d pass s o [] (all_read lists ++ left) old → AreUnderWay d pass s o [] (left ++ all_read next) new × AllStand d pass s (all_read lists) new.lists

  -- ---- pairs of sets

  -- a pair is looked at: what each of the two spreads becomes a pair with the other, and the sets of fields of the two that go together become
  -- lists
  pub record PairExamined (two : Sets) (old new : Kept) (added : List (Broken Place)) (next : List Sets) : Type 0 where
    pub right : (fault : Broken Place) → Contains added fault → TellsIn (two ∷ []) fault
    pub under : (sets : Sets) → Contains next sets → ComeFrom (two ∷ []) sets
    pub more : (list : List ReadField) → Contains old.lists list → Contains new.lists list
    pub looks : (known : List ReadSet) → Contains old.looked known → Contains new.looked known
    pub pairs : List Sets
    pub is_pairs : new.pairs ≡ old.pairs ++ pairs
    pub count : length new.looked ≡ length old.looked + length pairs
    pub within : (part : Sets) → Contains pairs part → SelectsAsMuch d two part
    -- if nothing is told, whatever else is left
    pub settled : added ≡ [] → (o : MeantOperation Place) (twos : List (List ReadSet)) (left : List (List ReadSet))
        → AreUnderWay d pass s o (read_sets two ∷ twos) left old → AreUnderWay d pass s o (twos ++ all_read pairs) (left ++ all_read next) new

  -- the same for the pairs that are left, and of those that are added to them: some are examined, and the others stay left
  pub record PairsExamined (old new : Kept) (added : List (Broken Place)) (next : List Sets) : Type 0 where
    pub right : (fault : Broken Place) → Contains added fault → TellsIn old.pairs fault
    pub under : (sets : Sets) → Contains next sets → ComeFrom old.pairs sets
    pub more : (list : List ReadField) → Contains old.lists list → Contains new.lists list
    pub looks : (known : List ReadSet) → Contains old.looked known → Contains new.looked known
    pub within : (part : Sets) → Contains new.pairs part → (two : Sets) × (Contains old.pairs two × SelectsAsMuch d two part)
    -- if nothing is told, whatever else is left
    pub settled : added ≡ [] → (o : MeantOperation Place) (left : List (List ReadSet))
        → AreUnderWay d pass s o (all_read old.pairs) left old → AreUnderWay d pass s o (all_read new.pairs) (left ++ all_read next) new

  -- these pairs are looked at, and examined with those that are added to them
  pub record TwosExamined (twos : List Sets) (old new : Kept) (added : List (Broken Place)) (next : List Sets) : Type 0 where
    pub right : (fault : Broken Place) → Contains added fault → TellsIn twos fault
    pub under : (sets : Sets) → Contains next sets → ComeFrom twos sets
    pub more : (list : List ReadField) → Contains old.lists list → Contains new.lists list
    pub looks : (known : List ReadSet) → Contains old.looked known → Contains new.looked known
    pub has : (two : Sets) → Contains twos two → HasLooked new.looked (read_sets two)
    -- if nothing is told, no pair is left, whatever else is left
    pub settled : added ≡ [] → (o : MeantOperation Place) (left : List (List ReadSet)) → AreUnderWay d pass s o [] left old → AreUnderWay d pass s o [] (left ++ all_read next) new

  -- ---- all

  -- all that an operation selects is examined, at any level, except for what is left
  pub record AllExamined (o : MeantOperation Place) (old new : Kept) (added : List (Broken Place)) (left : Bool) : Type 0 where
    pub right : (fault : Broken Place) → Contains added fault → BreaksAtLater s d o fault
    pub settled : added ≡ [] → left ≡ false → AreSettled d pass s old → AreSettled d pass s new × StartsStand (ReadStarts d o) (StandTogether pass s new.lists)
    pub bound : left ≡ true → PassesChainBound d o

-- ---- the same for breaches and lists of the program

abbrev pub ExaminesGroups : Examination → List (List (StandingField Place)) → Breaches → Breaches → List Sets → List Sets → Type 0
ExaminesGroups e groups old new next next' = (added : List (Broken Place)) × ((below : List Sets) × ((brokens_of new ≡ brokens_of old ++ added) × ((next' ≡ next ++ below)
    × GroupsExamined e.pass (schema_of e) (document_of e) groups added below)))

abbrev pub ExaminesList : Examination → List Member → Breaches → Breaches → List Sets → List Sets → Type 0
ExaminesList e list old new next next' = (added : List (Broken Place)) × ((below : List Sets) × ((brokens_of new ≡ brokens_of old ++ added) × ((next' ≡ next ++ below)
    × ListExamined e.pass (schema_of e) (document_of e) list added below)))

abbrev pub ExaminesSets : Examination → List Sets → Kept → Kept → Breaches → Breaches → List Sets → List Sets → Type 0
ExaminesSets e lists examined examined' old new next next' = (added : List (Broken Place)) × ((below : List Sets) × ((brokens_of new ≡ brokens_of old ++ added) × ((next' ≡ next ++ below)
    × SetsExamined e.pass (schema_of e) (document_of e) lists examined examined' added below)))

abbrev pub ExaminesPair : Examination → Sets → Kept → Kept → Breaches → Breaches → List Sets → List Sets → Type 0
ExaminesPair e two examined examined' old new next next' = (added : List (Broken Place)) × ((below : List Sets) × ((brokens_of new ≡ brokens_of old ++ added) × ((next' ≡ next ++ below)
    × PairExamined e.pass (schema_of e) (document_of e) two examined examined' added below)))

abbrev pub ExaminesSome : Examination → Kept → Kept → Breaches → Breaches → List Sets → List Sets → Type 0
ExaminesSome e examined examined' old new next next' = (added : List (Broken Place)) × ((below : List Sets) × ((brokens_of new ≡ brokens_of old ++ added) × ((next' ≡ next ++ below)
    × PairsExamined e.pass (schema_of e) (document_of e) examined examined' added below)))

-- all pairs are examined, if nothing is told
abbrev pub ExaminesPairs : Examination → Kept → Kept → Breaches → Breaches → List Sets → List Sets → Type 0
ExaminesPairs e examined examined' old new next next' = (brokens_of new ≡ brokens_of old → examined'.pairs ≡ []) × ExaminesSome e examined examined' old new next next'

abbrev pub ExaminesTwos : Examination → List Sets → Kept → Kept → Breaches → Breaches → List Sets → List Sets → Type 0
ExaminesTwos e twos examined examined' old new next next' = (added : List (Broken Place)) × ((below : List Sets) × ((brokens_of new ≡ brokens_of old ++ added) × ((next' ≡ next ++ below)
    × TwosExamined e.pass (schema_of e) (document_of e) twos examined examined' added below)))

abbrev pub ExaminesAll : Examination → MeantSet Place → Kept → Kept → Breaches → Breaches → Bool → Type 0
ExaminesAll e start examined examined' old new left = (o : MeantOperation Place) → o.set ≡ start
    → (added : List (Broken Place)) × ((brokens_of new ≡ brokens_of old ++ added) × AllExamined e.pass (schema_of e) (document_of e) o examined examined' added left)

-- the lists that were examined grow when what these lists of sets select is examined
abbrev pub GrowsOver : Examination → List Sets → MergeState → MergeState → Type 0
GrowsOver e lists old new = Grows (document_of e) (λ os. AreListed (document_of e) os lists) e.pass (account_of (sets_of e) old) (account_of (sets_of e) new)

-- the same for two sets; for the pairs that are left
abbrev pub GrowsOverTwo : Examination → Sets → MergeState → MergeState → Type 0
GrowsOverTwo e two old new = GrowsOver e (two ∷ []) old new

abbrev pub GrowsHere : Examination → MergeState → MergeState → Type 0
GrowsHere e old new = GrowsOver e (kept_of (sets_of e) old).pairs old new
