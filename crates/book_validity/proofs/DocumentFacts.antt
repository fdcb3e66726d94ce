-- A document is valid by the book exactly when no rule on documents is broken.
use Rattle.std.proofs.Common.{refl, Contains, inl, inr}
use Rattle.rule_definitions.specs.Judged.{Judged}
use Rattle.rule_document_definitions.specs.Selected.{operations}
use Rattle.rule_document_definitions.specs.Named.{FragmentsFoundByName}
use Rattle.rule_document_definitions.specs.DocumentFaults.{OfData, OfDocument, OfLimit}
use Rattle.rule_document_definitions.specs.Verdict.{DocumentRules}
use Rattle.book_validity.specs.Words.{Document, Operation}
use Rattle.book_validity.specs.Document.{IsValidOperation, IsValidDocument}
use Rattle.book_validity.specs.Laws.{RulesHoldByTheBook}
use Rattle.rule_document_definitions.proofs.Decided.{stable}
use Rattle.book_validity.proofs.VariableFacts.{variables_quiet, quiet_variables}
use Rattle.book_validity.proofs.SelectionFacts.{reached_quiet, quiet_reached}
use Rattle.book_validity.proofs.FragmentFacts.{used_or_not}
use Rattle.book_validity.proofs.OperationFacts.{subscription_quiet, quiet_subscription, defers_quiet, quiet_defers, labels_quiet, quiet_labels}

module _ (s : Judged) (d : Document) where
  valid_quiet : IsValidDocument s d → DocumentRules s d
  valid_quiet h (OfData fault) (inl (o, (c, inl b))) = variables_quiet s d o (h.operations o c).variables fault b
  valid_quiet h (OfData fault) (inl (o, (c, inr b))) =
      let v = h.operations o c in
      reached_quiet s d o (record { selections = v.selections; fragments = v.fragments; directives = v.directives }) fault b
  valid_quiet h (OfData fault) (inr (f, (c, (unused, told)))) = unused (h.fragments f c)
  valid_quiet h (OfDocument fault) (inl (o, (c, b))) = subscription_quiet d o (h.operations o c).subscription fault b
  valid_quiet h (OfDocument fault) (inr (inl (o, (c, b)))) = defers_quiet d o (h.operations o c).defers fault b
  valid_quiet h (OfDocument fault) (inr (inr b)) = labels_quiet d h.labels fault b
  valid_quiet h (OfLimit place) b = b

  module _ (by_name : FragmentsFoundByName d) (q : DocumentRules s d) where
    operation : (o : Operation) → Contains (operations d) o → IsValidOperation s d o
    operation o c =
        let r = quiet_reached s d o (λ fault b. q (OfData fault) (inl (o, (c, inr b)))) in
        record {
          subscription = quiet_subscription d o by_name (λ fault b. q (OfDocument fault) (inl (o, (c, b))));
          selections = r.selections;
          fragments = r.fragments;
          directives = r.directives;
          variables = quiet_variables s d o (λ fault b. q (OfData fault) (inl (o, (c, inl b))));
          defers = quiet_defers d o (λ fault b. q (OfDocument fault) (inr (inl (o, (c, b)))));
        }

    quiet_valid : IsValidDocument s d
    quiet_valid = record {
      operations = operation;
      fragments = λ f c. stable (used_or_not d by_name f c) (λ unused. q (OfData _) (inr (f, (c, (unused, refl)))));
      labels = quiet_labels d (λ fault b. q (OfDocument fault) (inr (inr b)));
    }

pub rules_hold : RulesHoldByTheBook
rules_hold s d by_name = (valid_quiet s d, quiet_valid s d by_name)
