-- Of two fields that do not merge, the fault is at the one that comes later in the text.
use Rattle.std.specs.Prelude.{◌≡◌, ◌≤◌, Some}
use Rattle.graphql_names.specs.Placed.{Place}
use Rattle.fault_document_errors.specs.DocumentBreaches.{DocumentBreach, ConflictingFieldName, ConflictingFieldArgument, ConflictingFieldType}
use Rattle.rule_selection_queries.specs.in_definitions.Judged.{Judged}
use Rattle.rule_selection_queries.specs.in_spec_document.MeantTree.{MeantOperation, MeantDocument}
use Rattle.rule_selection_queries.specs.in_document_definitions.DocumentFaults.{Broken}
use Rattle.rule_selection_queries.specs.in_document_definitions.Merging.{MergingBreaks}

-- where both are in one text, the first does not come after the second
abbrev pub IsInOrder : Place → Place → Type 0
IsInOrder (Some p) (Some q) = p.file_id ≡ q.file_id → p.offset ≤ q.offset
IsInOrder p q = Unit {0}

-- the field that such a breach names first, does not come after this place
abbrev FirstComesBefore : DocumentBreach Place → Place → Type 0
FirstComesBefore (ConflictingFieldName alias original conflicting) place = IsInOrder original.location place
FirstComesBefore (ConflictingFieldArgument alias original conflicting) place = IsInOrder original.location place
FirstComesBefore (ConflictingFieldType alias original conflicting) place = IsInOrder original.location place
FirstComesBefore breach place = Unit {0}

-- of two fields that do not merge, the fault is at the one that comes later in the text, where both are in one text
abbrev pub IsAtLater : Broken Place → Type 0
IsAtLater fault = FirstComesBefore fault.it fault.place

-- a rule on merging breaks in the operation with this fault, which is at the later field
abbrev pub BreaksAtLater : Judged → MeantDocument Place → MeantOperation Place → Broken Place → Type 0
BreaksAtLater s d o fault = MergingBreaks s d o fault × IsAtLater fault
