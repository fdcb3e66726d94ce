-- Equal documents under equal schemas with equal marks: what does not read places is said of the same things.
use Rattle.std.proofs.Common.{◌≡◌, ◌↔◌, sym, subst}
use Rattle.spec_document.specs.Unplaced.{unplaced_operation, unplaced_document}
use Rattle.rule_definitions.proofs.Same.{read_the_same}
use Rattle.rule_document_definitions.specs.Verdict.{DocumentRules, Merging, WithinBounds, FieldSetRules, StandaloneRules}
use Rattle.rule_document_definitions.specs.Laws.{MergesByContents, SameDocumentVerdict, SameBounds, SameFieldSetVerdict, SameVerdictAlone}
use Rattle.rule_document_definitions.proofs.MergingUnplaced.{fields_merge_without_places}
use Rattle.rule_document_definitions.proofs.ContentFacts.{contents_merge}

-- what holds of one thing holds of an equal one
both_ways : {X : Type 0} (Q : X → Type 0) {x y : X} → x ≡ y → Q x ↔ Q y
both_ways Q e = (subst Q e, subst Q (sym e))

-- of two
both_of_two : {X Y : Type 0} (Q : X → Y → Type 0) {x y : X} {v w : Y} → x ≡ y → v ≡ w → Q x v ↔ Q y w
both_of_two Q {x} {y} {v} {w} e f = (λ h. subst (λ z. Q z w) e (subst (Q x) f h), λ h. subst (λ z. Q z v) (sym e) (subst (Q y) (sym f) h))

pub same_document_verdict : SameDocumentVerdict
same_document_verdict a b equal d e same = both_of_two (λ s x. DocumentRules s x × Merging s x) (read_the_same a b equal) same

pub same_bounds : SameBounds
same_bounds d e same = both_ways WithinBounds same

pub same_field_set_verdict : SameFieldSetVerdict
same_field_set_verdict a b equal d e same = both_of_two FieldSetRules (read_the_same a b equal) same

pub same_verdict_alone : SameVerdictAlone
same_verdict_alone d e same = both_ways StandaloneRules same

pub merges_by_contents : MergesByContents
merges_by_contents s d o = (
  (λ m. (contents_merge (unplaced_document d) s (unplaced_operation o)).0 ((fields_merge_without_places s d o).0 m)),
  (λ m. (fields_merge_without_places s d o).1 ((contents_merge (unplaced_document d) s (unplaced_operation o)).1 m)),
)
