-- Private: leads to `MergingBreaks` and `FieldsMerge`. The results of an examination, for what is remembered and for the lists of the program.
use Rattle.std.specs.Prelude.{◌≡◌, ℕ, ◌++◌, ◌∷◌, Bool, List, [], map}
use Rattle.list_interner.specs.declared.number_rows.NumberRows.{NumberRows}
use Rattle.graphql_faults.specs.DetailsTree.{of_document}
use Rattle.graphql_faults.specs.DetailsView.{diagnostics_of}
use Rattle.graphql_faults.specs.declared.diagnostic_list.DiagnosticList.{DiagnosticList}
use Rattle.rule_field_groups.specs.in_document_definitions.PlacedDocumentFaults.{PlacedDocumentFault}
use Rattle.rule_field_groups.specs.Members.{meant_sets}
use Rattle.rule_field_groups.specs.Under.{Sets, sets_in}
use Rattle.rule_field_groups.specs.in_sets.Read.{set_at}
use Rattle.rule_field_groups.specs.in_sets.declared.field_sets.FieldSets.{FieldSets}
use Rattle.rule_merging.specs.Examined.{Breaches, sets_of, ExaminesSets, ExaminesAll}
use Rattle.rule_field_groups.specs.MergeState.{Kept, kept_of}
use Rattle.rule_merging.specs.Twos.{TwoFields, PairsFields}
use Rattle.rule_merging.specs.declared.examination.Examination.{Examination}
use Rattle.rule_field_groups.specs.declared.merge_state.MergeState.{MergeState}

-- such an examination, of what is remembered, of breaches, and of the lists of sets that are left
abbrev pub Comes : FieldSets → (Kept → Kept → Breaches → Breaches → List Sets → List Sets → Type 0) → MergeState → MergeState → Breaches → Breaches → Type 0
Comes w Examines examined examined' old new = Examines (kept_of w examined) (kept_of w examined') old new (sets_in w examined.next) (sets_in w examined'.next)

-- the examination of the sets of these nodes; that of wanted pairs of fields
abbrev pub ExaminesThese : Examination → List ℕ → MergeState → MergeState → Breaches → Breaches → Type 0
ExaminesThese e nodes = Comes (sets_of e) (ExaminesSets e (meant_sets (sets_of e) nodes ∷ []))

abbrev pub PairsOf : Examination → TwoFields → MergeState → MergeState → Breaches → Breaches → Type 0
PairsOf e Wanted = Comes (sets_of e) (PairsFields e Wanted)

-- the examination of a level, before which no lists are left for the next one
abbrev pub ExaminesLevel : Examination → NumberRows → MergeState → MergeState → Breaches → Breaches → NumberRows → Type 0
ExaminesLevel e level examined examined' old new next =
    ExaminesSets e (sets_in (sets_of e) level) (kept_of (sets_of e) examined) (kept_of (sets_of e) examined') old new [] (sets_in (sets_of e) next)

-- the examination of all levels, from the set of a node on
abbrev pub ExaminesFrom : Examination → ℕ → MergeState → MergeState → Breaches → Breaches → Bool → Type 0
ExaminesFrom e start examined examined' old new left = ExaminesAll e (set_at (sets_of e) start) (kept_of (sets_of e) examined) (kept_of (sets_of e) examined') old new left

-- the old list, and then these faults of documents
abbrev pub AddsDetails : DiagnosticList → DiagnosticList → List PlacedDocumentFault → Type 0
AddsDetails old new told = diagnostics_of new ≡ diagnostics_of old ++ map of_document told
