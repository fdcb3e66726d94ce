-- What contracts see of a `FieldsInSetCanMerge`.
use Rattle.std.specs.Prelude.{◌≡◌, ◌≤◌, ◌↔◌, ◌++◌, ◌∷◌, ℕ, Bool, List, [], map, flat_map, length, Contains, IsTrue}
use Rattle.std.specs.List.{sum, cons_option}
use Rattle.std.specs.Option.{option_map}
use Rattle.graphql_names.specs.Placed.{Place}
use Rattle.rule_field_groups.specs.in_sets.in_schema.SchemaOf.{schema_tree}
use Rattle.rule_field_groups.specs.in_spec_document.MeantTree.{MeantOperation, MeantDocument}
use Rattle.rule_field_groups.specs.in_sets.in_reach.in_typed_operations.DocumentView.{document_meant}
use Rattle.rule_field_groups.specs.in_definitions.Judged.{Judged, judged}
use Rattle.rule_field_groups.specs.in_document_definitions.Merging.{FieldsMerge}
use Rattle.rule_field_groups.specs.in_document_definitions.Selected.{Standing, as_field, all_selections, operations}
use Rattle.rule_field_groups.specs.in_document_definitions.ReadFields.{ReadField, ReadSet, field_read, ReadSameKey, ReadStarts, AreReadShapesStanding}
use Rattle.rule_field_groups.specs.in_document_definitions.Settled.{StandWhere, StartsStand}
use Rattle.list_interner.specs.NumberLists.{length_above_two}
use Rattle.rule_field_groups.specs.Paid.{most_members}
use Rattle.rule_merging.specs.Counted.{IsLast, IsCountedBy, IsPaidBy, most_comparisons}
use Rattle.rule_merging.specs.Verdict.{AreSetsFor, account_in, lists_examined, comparisons_of, pairs_looked, sets_numbered, AreFewPairs, OnlyGrow}
use Rattle.graphql_faults.specs.DetailsTree.{Telling}
use Rattle.graphql_faults.specs.DetailsView.{diagnostics_of}
use Rattle.graphql_faults.specs.declared.diagnostic_list.DiagnosticList.{DiagnosticList}
use Rattle.rule_merging.specs.Merged.{MergingTold}
use Rattle.rule_merging.specs.declared.merging.FieldsInSetCanMerge.{FieldsInSetCanMerge}

pub record Merger : Type 0 where
  pub schema : Judged
  pub document : MeantDocument Place
  -- whether each call so far ended and told nothing
  pub is_clean : Bool
  -- the lists of fields that were examined for shapes, the fields that were met, how many members of lists these paid for, and how often
  -- the shapes of two fields were compared
  pub lists : List (List ReadField)
  pub met : List ReadField
  pub paid : ℕ
  pub comparisons : ℕ
  -- the pairs of sets that were looked at together, and how many contents of sets were met
  pub pairs : List (List ReadSet)
  pub sets : ℕ

abbrev pub merger_of : FieldsInSetCanMerge → Merger
merger_of m = record {
  schema = judged (schema_tree m.schema.now);
  document = document_meant m.document.now;
  is_clean = m.is_clean;
  lists = lists_examined m.examined;
  met = (account_in m.examined).met;
  paid = (account_in m.examined).spent;
  comparisons = comparisons_of m.examined;
  pairs = pairs_looked m.examined;
  sets = sets_numbered m.examined;
}

-- the selection sets that the value has are those of its document under its schema, with right numbers: from the start, and after each call
abbrev pub IsReady : FieldsInSetCanMerge → Type 0
IsReady m = AreSetsFor (judged (schema_tree m.schema.now)) (document_meant m.document.now) m.examined.sets

-- shapes were compared at most as often as the lists have members in all; no two lists have the same members, none has a member twice, and
-- all members are last fields of chains of these operations, in the document; the lists of more than two have in all at most so many
-- members as the fields pay for that were met, which are different ones, all of them last fields of chains
abbrev pub IsCountedOver : List (MeantOperation Place) → Merger → Type 0
IsCountedOver os m = IsCountedBy m.document os m.lists m.comparisons × IsPaidBy m.document os m.lists m.met m.paid

-- the same for the operations of the document
abbrev pub IsCountedMerger : Merger → Type 0
IsCountedMerger m = IsCountedOver (operations m.document) m

-- how time grows: if the last fields of chains of these operations have no other contents than those of a list of n, shapes were
-- compared at most `most_comparisons` n times, which is n * n + 4 * n + 200; and the lists of more than two have at most `most_members` n
-- members in all
abbrev pub ComparesFew : Merger → Type 0
ComparesFew m = (os : List (MeantOperation Place)) (all : List ReadField) → IsCountedOver os m → ((x : ReadField) → IsLast m.document os x → Contains all x)
    → (m.comparisons ≤ most_comparisons (length all)) × (sum (map length_above_two m.lists) ≤ most_members (length all))

-- the content of a selection, if it is a field; the contents of the fields of a document at any depth, as often as they are written
abbrev pub written : Standing Place → List ReadField
written x = cons_option (option_map field_read (as_field x)) []

abbrev pub fields_written : MeantDocument Place → List ReadField
fields_written d = flat_map written (all_selections d)

-- the same for the operations of a document, where n is the number of fields that are written in it
abbrev pub ComparesFewInDocument : Merger → Type 0
ComparesFewInDocument m = IsCountedMerger m
    → (m.comparisons ≤ most_comparisons (length (fields_written m.document))) × (sum (map length_above_two m.lists) ≤ most_members (length (fields_written m.document)))

-- at most n * (n + 1) pairs of sets are looked at over both passes, where n is the number of contents of sets
abbrev pub LooksAtFewPairs : Merger → Type 0
LooksAtFewPairs m = AreFewPairs m.pairs m.sets

-- nothing is appended but what merging tells of the operation, under the schema and in the document of the value
abbrev pub MergerTold : Merger → MeantOperation Place → Telling → Telling → Type 0
MergerTold m o old new = MergingTold m.schema m.document o old new

-- if a clean value tells nothing of the operation, its fields merge
abbrev pub SilenceMeansMerging : Merger → MeantOperation Place → Telling → Telling → Type 0
SilenceMeansMerging m o old new = IsTrue m.is_clean → new ≡ old → FieldsMerge m.schema m.document o

-- the lists are closed: fields of one key that are in one of them have one shape, and if a field below the one has the key of a field below
-- the other, these two are in one list as well; so are fields of one key that the operation starts with
abbrev pub AreClosed : Judged → MeantDocument Place → MeantOperation Place → List (List ReadField) → Type 0
AreClosed s d o lists = AreReadShapesStanding d s (StandWhere ReadSameKey lists) × StartsStand (ReadStarts d o) (StandWhere ReadSameKey lists)

-- these lists, and for each of these fields one that has it alone
abbrev pub with_alone : List (List ReadField) → List ReadField → List (List ReadField)
with_alone lists fields = lists ++ map (λ x. x ∷ []) fields

-- if a clean value tells nothing of the operation, the lists that it keeps are closed, together with some fields alone: those of the
-- operation, if no two of them have one key, since then no lists of them are made
abbrev pub KeepsClosed : Merger → Merger → MeantOperation Place → (TellsNothing : Type 0) → Type 0
KeepsClosed before after o TellsNothing = IsTrue before.is_clean → TellsNothing
    → ∥ ((lone : List ReadField) × AreClosed before.schema before.document o (with_alone after.lists lone)) ∥₁

-- a call adds nothing to the list
abbrev pub AddsNothing : DiagnosticList → DiagnosticList → Type 0
AddsNothing old new = diagnostics_of new ≡ diagnostics_of old

-- the value is clean after the call exactly when it was before and nothing is told
abbrev pub StaysCleanInSilence : Merger → Merger → Telling → Telling → Type 0
StaysCleanInSilence before after old new = IsTrue after.is_clean ↔ (IsTrue before.is_clean × (new ≡ old))

-- after a call on one of these operations it is counted so, if it was before: those of the document, or any others
abbrev pub StaysCounted : Merger → Merger → MeantOperation Place → Type 0
StaysCounted before after o = (os : List (MeantOperation Place)) → Contains os o → IsCountedOver os before → IsCountedOver os after

-- each list stays, more lists may be added, and the count never falls
abbrev pub OnlyGrows : Merger → Merger → Type 0
OnlyGrows before after = OnlyGrow before.lists before.comparisons after.lists after.comparisons
