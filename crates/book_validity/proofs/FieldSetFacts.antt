-- A field set is valid by the book exactly when no rule on field sets is broken.
use Rattle.std.proofs.Common.{◌≡◌, ℕ, List, [], None, Some, Contains, is_some, refl, sym, ap, subst, inl, inr, true≢false}
use Rattle.tree_directives.specs.OperationQueries.{location_of_operation}
use Rattle.tree_directives.specs.declared.operation_type.OperationType.TheVariants as operation
use Rattle.spec_document.specs.MeantTree.{MeantSet}
use Rattle.rule_definitions.specs.Judged.{Judged}
use Rattle.rule_definitions.proofs.Lists.{not_in_nil, only, Contains-first}
use Rattle.rule_document_definitions.specs.DocumentFaults.{OfData, OfDocument, OfLimit}
use Rattle.rule_document_definitions.specs.Selected.{fragment_named}
use Rattle.rule_document_definitions.specs.FieldSets.{document_of_set}
use Rattle.rule_document_definitions.specs.Variables.{VariablesBreak}
use Rattle.rule_document_definitions.specs.Verdict.{no_places, FieldSetRules}
use Rattle.book_validity.specs.Words.{Document, Operation, Fragment}
use Rattle.book_validity.specs.Directives.{AreDirectivesValid}
use Rattle.book_validity.specs.Variables.{AreVariablesValid}
use Rattle.book_validity.specs.FieldSets.{IsValidFieldSet}
use Rattle.book_validity.specs.Laws.{SetRulesHoldByTheBook}
use Rattle.book_validity.proofs.VariableFacts.{variables_quiet}
use Rattle.book_validity.proofs.SelectionFacts.{ReachedBreaks, IsReachedValid, reached_quiet, quiet_reached}

module _ (s : Judged) (set : MeantSet (Unit {0})) where
  abbrev d : Document
  d = document_of_set tt set

  abbrev alone : Operation
  alone = record { place = tt; operation_type = operation.Query; name = None; variables = []; directives = []; set = set }

  no_fragment : {A : Type 0} (n : List ℕ) (f : Fragment) → fragment_named d n ≡ Some f → A
  no_fragment n f e = absurd (true≢false (sym (ap is_some e)))

  no_directives : AreDirectivesValid s [] (location_of_operation operation.Query) []
  no_directives = record {
    defined = λ e c. not_in_nil e c;
    located = λ e c. not_in_nil e c;
    unique = λ i j e f a b same. absurd (true≢false (sym (ap is_some a)));
    arguments = λ e c. not_in_nil e c;
  }

  no_variables : AreVariablesValid s d alone
  no_variables = record {
    unique = λ i j x y a b same. absurd (true≢false (sym (ap is_some a)));
    input_types = λ x c. not_in_nil x c;
    used = λ x c. not_in_nil x c;
    defaults = λ x c. not_in_nil x c;
    keys = λ x c. not_in_nil x c;
    directives = λ x c. not_in_nil x c;
  }

  reached_valid : IsValidFieldSet s set → IsReachedValid s d alone
  reached_valid h = record {
    selections = h alone (Contains-first alone [] alone refl);
    fragments = λ f reaches. no_fragment reaches.1.1.0 f reaches.1.1.1.1;
    directives = no_directives;
  }

  valid_quiet : IsValidFieldSet s set → FieldSetRules s set
  valid_quiet h (OfData fault) (inl (o, (c, inl b))) = variables_quiet s d alone no_variables fault (subst (λ w. VariablesBreak no_places s d w fault) (only alone o c) b)
  valid_quiet h (OfData fault) (inl (o, (c, inr b))) = reached_quiet s d alone (reached_valid h) fault (subst (λ w. ReachedBreaks s d w fault) (only alone o c) b)
  valid_quiet h (OfData fault) (inr (f, (c, told))) = not_in_nil f c
  valid_quiet h (OfDocument fault) b = b
  valid_quiet h (OfLimit place) b = b

  quiet_valid : FieldSetRules s set → IsValidFieldSet s set
  quiet_valid q o c = (quiet_reached s d o (λ fault b. q (OfData fault) (inl (o, (c, inr b))))).selections

pub set_rules_hold : SetRulesHoldByTheBook
set_rules_hold s set = (valid_quiet s set, quiet_valid s set)
