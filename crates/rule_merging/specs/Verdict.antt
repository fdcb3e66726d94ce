-- The results of examining an operation.
use Rattle.std.specs.Prelude.{◌≡◌, ◌⊎◌, ◌≤◌, ◌+◌, ◌*◌, ◌++◌, ℕ, Bool, true, false, List, [], length, Contains}
use Rattle.graphql_names.specs.Placed.{Place}
use Rattle.rule_field_groups.specs.in_spec_document.MeantTree.{MeantOperation, MeantDocument}
use Rattle.rule_field_groups.specs.in_definitions.Judged.{Judged}
use Rattle.rule_field_groups.specs.in_document_definitions.DocumentFaults.{Broken}
use Rattle.rule_field_groups.specs.in_document_definitions.Merging.{FieldsMerge}
use Rattle.rule_field_groups.specs.in_document_definitions.Limits.{PassesChainBound}
use Rattle.rule_field_groups.specs.in_sets.in_reach.Broken.{brokens_of}
use Rattle.rule_field_groups.specs.in_document_definitions.ReadFields.{ReadField, ReadSet, ReadStarts, fragments_read, set_read}
use Rattle.rule_field_groups.specs.in_document_definitions.Settled.{StartsStand}
use Rattle.rule_reach.specs.LoneKeys.{AreKeysLone}
use Rattle.rule_field_groups.specs.LaterField.{BreaksAtLater}
use Rattle.rule_field_groups.specs.Paid.{Account}
use Rattle.rule_merging.specs.Counted.{IsCountedBy, IsPaidBy}
use Rattle.rule_field_groups.specs.in_sets.in_reach.Fields.{meant_fragments}
use Rattle.rule_field_groups.specs.in_sets.Numbered.{tables_of}
use Rattle.rule_field_groups.specs.in_sets.Nodes.{AreSets, SetsGrow, schema_in}
use Rattle.rule_field_groups.specs.in_sets.declared.field_sets.FieldSets.{FieldSets}
use Rattle.rule_field_groups.specs.MergeState.{Kept, remembered, looked_in, account_of, kept_of, IsKnown}
use Rattle.rule_merging.specs.Examined.{Breaches, StandTogether, AreSettled}
use Rattle.rule_merging.specs.declared.operation.Examined.{Examined}
use Rattle.rule_field_groups.specs.declared.merge_state.MergeState.{MergeState}
use Rattle.rule_field_groups.specs.declared.pass.Pass.TheVariants.{Shapes, Selections}

module _ (s : Judged) (d : MeantDocument Place) where
  -- what was examined is settled, in both passes
  abbrev pub AreBothSettled : Examined → Type 0
  AreBothSettled e = AreSettled d Shapes s (kept_of e.sets e.shapes) × AreSettled d Selections s (kept_of e.sets e.selections)

  -- any two fields that the operation starts with are in one of the examined lists, if they go together, in both passes
  abbrev pub StartsBothStand : MeantOperation Place → Examined → Type 0
  StartsBothStand o e = StartsStand (ReadStarts d o) (StandTogether Shapes s (remembered e.sets e.shapes)) × StartsStand (ReadStarts d o) (StandTogether Selections s (remembered e.sets e.selections))

  -- the same; or no two fields of the operation have one key, in any of its sets: then its fields need not be in lists
  abbrev pub StartsOrIsLone : MeantOperation Place → Examined → Type 0
  StartsOrIsLone o e = StartsBothStand o e ⊎ AreKeysLone (fragments_read d) (set_read o.set)

  -- what is told is right; if nothing is told and nothing is left, what is settled stays so, what the operation starts with is in the lists
  -- unless its keys are lone, and its fields merge; if something is left, the bound on chains is passed
  pub record OperationExamined (o : MeantOperation Place) (old new : Examined) (added : List (Broken Place)) (left : Bool) : Type 0 where
    pub right : (fault : Broken Place) → Contains added fault → BreaksAtLater s d o fault
    pub settled : added ≡ [] → left ≡ false → AreBothSettled old → AreBothSettled new × (StartsOrIsLone o new × FieldsMerge s d o)
    pub bound : left ≡ true → PassesChainBound d o

  abbrev pub ExaminesOperation : MeantOperation Place → Examined → Examined → Breaches → Breaches → Bool → Type 0
  ExaminesOperation o old new breaches told left = (added : List (Broken Place)) × ((brokens_of told ≡ brokens_of breaches ++ added) × OperationExamined o old new added left)

-- what is counted of the lists that were examined for shapes
abbrev pub account_in : Examined → Account
account_in e = account_of e.sets e.shapes

abbrev pub lists_examined : Examined → List (List ReadField)
lists_examined e = (account_in e).lists

abbrev pub comparisons_of : Examined → ℕ
comparisons_of e = (account_in e).comparisons

-- the count is right, the members of the lists are last fields of chains of these operations, and the fields that were met pay for long lists
abbrev pub IsCountedIn : MeantDocument Place → List (MeantOperation Place) → Account → Type 0
IsCountedIn d os a = IsCountedBy d os a.lists a.comparisons × IsPaidBy d os a.lists a.met a.spent

abbrev pub IsCounted : MeantDocument Place → List (MeantOperation Place) → Examined → Type 0
IsCounted d os e = IsCountedIn d os (account_in e)

-- the account of these operations stays right, if the operation is one of them
abbrev pub StaysCountedIn : MeantDocument Place → MeantOperation Place → Examined → Examined → Type 0
StaysCountedIn d o old new = (os : List (MeantOperation Place)) → Contains os o → IsCounted d os old → IsCounted d os new

-- each list stays, more lists may be added, and the count never falls
abbrev pub OnlyGrow : List (List ReadField) → ℕ → List (List ReadField) → ℕ → Type 0
OnlyGrow old before new after = ((list : List ReadField) → Contains old list → Contains new list) × (before ≤ after)

-- the pairs of sets that were looked at, in both passes
abbrev pub pairs_looked : Examined → List (List ReadSet)
pairs_looked e = looked_in e.sets e.shapes ++ looked_in e.sets e.selections

-- how many numbers sets have: one for each content of a set of these operations and of fragments, at any depth
abbrev pub sets_numbered : Examined → ℕ
sets_numbered e = length (tables_of e.sets.numbers).sets

-- there are at most so many pairs of so many sets: in each of two passes each two sets once, and each set with itself
abbrev pub AreFewPairs : List (List ReadSet) → ℕ → Type 0
AreFewPairs pairs sets = length pairs ≤ sets * (sets + 1)

abbrev pub LooksAtFew : Examined → Type 0
LooksAtFew e = AreFewPairs (pairs_looked e) (sets_numbered e)

-- the sets are those of a document under a schema, as nodes with right numbers
pub record AreSetsFor (s : Judged) (d : MeantDocument Place) (w : FieldSets) : Type 0 where
  pub are : AreSets w
  pub schema : schema_in w ≡ s
  pub fragments : meant_fragments w.fragments.now ≡ d.fragments

-- what was examined, without the pairs of sets that are left: these are nodes, and nothing that is settled mentions them
abbrev pub without_pairs : Kept → Kept
without_pairs k = record k { pairs = [] }

-- all numbers in what was examined are numbers of these sets
abbrev pub IsKnownIn : FieldSets → MergeState → Type 0
IsKnownIn w r = IsKnown (length (tables_of w.numbers).fields) (length (tables_of w.numbers).sets) r

abbrev pub AreKnown : Examined → Type 0
AreKnown e = IsKnownIn e.sets e.shapes × IsKnownIn e.sets e.selections

-- sets may be added, and what was examined means what it meant, ignoring the pairs that are left
pub record Begins (old new : Examined) : Type 0 where
  pub are : AreSets new.sets
  pub grown : SetsGrow old.sets new.sets
  pub shapes : without_pairs (kept_of new.sets new.shapes) ≡ without_pairs (kept_of old.sets old.shapes)
  pub account : account_in new ≡ account_in old
  pub selections : without_pairs (kept_of new.sets new.selections) ≡ without_pairs (kept_of old.sets old.selections)
