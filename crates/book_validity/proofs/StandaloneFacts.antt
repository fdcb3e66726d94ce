-- A document is valid without a schema by the book exactly when no rule on such documents is broken.
use Rattle.std.proofs.Common.{◌≡◌, ℕ, None, Contains, refl, inl, inr}
use Rattle.rule_definitions.proofs.Lists.{index_found, index_given}
use Rattle.rule_definitions.specs.Names.{argument_name, defined_name}
use Rattle.rule_document_definitions.specs.DocumentFaults.{OfData, OfDocument, OfLimit}
use Rattle.rule_document_definitions.specs.Selected.{operations, as_field, selection_directives, fragment_named}
use Rattle.rule_document_definitions.specs.Reached.{Reached, ReachesFragment}
use Rattle.rule_document_definitions.specs.Named.{FragmentsFoundByName}
use Rattle.rule_document_definitions.specs.Fragments.{RefersBySpread}
use Rattle.rule_document_definitions.specs.Defer.{DeferBreaks}
use Rattle.rule_document_definitions.specs.Standalone.{GivenBreaksAlone, UsesBreakAlone, GivenInBreaks, OperationBreaksAlone}
use Rattle.rule_document_definitions.specs.Verdict.{no_places, StandaloneRules}
use Rattle.rule_document_definitions.proofs.Decided.{stable}
use Rattle.book_validity.specs.Words.{Document, Operation, Fragment, Selection, Given, Applied}
use Rattle.book_validity.specs.Fragments.{Spreads}
use Rattle.book_validity.specs.Standalone.{UsesNone, AreArgumentsValidAlone, IsValidSelectionAlone, IsValidFragmentAlone, IsValidOperationAlone, IsValidAlone}
use Rattle.book_validity.specs.Laws.{RulesAloneHoldByTheBook}
use Rattle.book_validity.proofs.Naming.{Quiet, is_there, not_there, unique_from, unique_never}
use Rattle.book_validity.proofs.KeyFacts.{keys_quiet, quiet_keys}
use Rattle.book_validity.proofs.Loops.{leads_on, leads_back}
use Rattle.book_validity.proofs.SelectionFacts.{spread_step, spread_back}
use Rattle.book_validity.proofs.VariableFacts.{used_or_not as variable_used_or_not}
use Rattle.book_validity.proofs.FragmentFacts.{used_or_not}
use Rattle.book_validity.proofs.OperationFacts.{defers_quiet, quiet_defers, labels_quiet, quiet_labels}

module _ (d : Document) where
  -- ---- what is given and applied

  given_quiet : (given : Given) → AreArgumentsValidAlone given → Quiet (λ fault. GivenBreaksAlone no_places d fault given)
  given_quiet given h fault (inl r) = unique_never argument_name given h.unique r
  given_quiet given h fault (inr (j, (a, (e, k)))) = keys_quiet a.it.value.it (h.keys a (index_given given j a e)) fault k

  quiet_given : (given : Given) → Quiet (λ fault. GivenBreaksAlone no_places d fault given) → AreArgumentsValidAlone given
  quiet_given given q = record {
    unique = unique_from argument_name given (λ r. q _ (inl (r.0, (r.1.0, (r.1.1.0, (r.1.1.1.0, (r.1.1.1.1.0, (r.1.1.1.1.1.0, (r.1.1.1.1.1.1.0, (r.1.1.1.1.1.1.1.0, (r.1.1.1.1.1.1.1.1.0, refl)))))))))));
    keys = λ a c. let (j, e) = index_found given a c in quiet_keys a.it.value.it (λ fault k. q fault (inr (j, (a, (e, k)))));
  }

  uses_quiet : (ds : Applied) → UsesNone ds → Quiet (λ fault. UsesBreakAlone no_places d fault ds)
  uses_quiet ds h fault (i, (e, (a, broken))) = h e (index_given ds i e a)

  quiet_uses : (ds : Applied) → Quiet (λ fault. UsesBreakAlone no_places d fault ds) → UsesNone ds
  quiet_uses ds q e c = let (i, a) = index_found ds e c in q _ (i, (e, (a, inl (refl, refl))))

  -- ---- an operation

  module _ (o : Operation) where
    operation_quiet : IsValidOperationAlone d o → Quiet (λ fault. OperationBreaksAlone no_places d fault o)
    operation_quiet h fault (inl r) = unique_never defined_name o.variables h.unique r
    operation_quiet h fault (inr (inl (i, (x, (e, (v, (is, k))))))) = keys_quiet v.it (h.keys x (index_given o.variables i x e) v is) fault k
    operation_quiet h fault (inr (inr (inl (i, (x, (e, (unused, told))))))) = unused (h.used x (index_given o.variables i x e))
    operation_quiet h fault (inr (inr (inr (inl (x, (r, (n, (is, (none, told))))))))) = not_there (fragment_named d n) ((h.selections x r).defined n is) none
    operation_quiet h fault (inr (inr (inr (inr (inl (f, (r, (by, (rest, (leads, told)))))))))) = (h.fragments f r).acyclic (leads_on (RefersBySpread d) (Spreads d) (spread_step d) f.name.it by rest f.name.it leads)
    operation_quiet h fault (inr (inr (inr (inr (inr b))))) = given b
      where
        given : GivenInBreaks no_places d fault o → ⊥
        given (inl b) = uses_quiet o.directives h.directives fault b
        given (inr (inl (i, (x, (e, b))))) = uses_quiet x.it.directives (h.variable_directives x (index_given o.variables i x e)) fault b
        given (inr (inr (inl (x, (r, b))))) = uses_quiet (selection_directives x.it) (h.selections x r).directives fault b
        given (inr (inr (inr (inl (x, (r, (f, (is, b)))))))) = given_quiet f.head.arguments ((h.selections x r).arguments f is) fault b
        given (inr (inr (inr (inr (f, (r, b)))))) = uses_quiet f.directives (h.fragments f r).directives fault b

    module _ (q : Quiet (λ fault. OperationBreaksAlone no_places d fault o)) where
      given_told : Quiet (λ fault. GivenInBreaks no_places d fault o)
      given_told fault b = q fault (inr (inr (inr (inr (inr b)))))

      selection : (x : Selection) → Reached d o x → IsValidSelectionAlone d x
      selection x r = record {
        arguments = λ f is. quiet_given f.head.arguments (λ fault b. given_told fault (inr (inr (inr (inl (x, (r, (f, (is, b)))))))));
        defined = λ n is. is_there (fragment_named d n) (λ none. q _ (inr (inr (inr (inl (x, (r, (n, (is, (none, refl))))))))));
        directives = quiet_uses (selection_directives x.it) (λ fault b. given_told fault (inr (inr (inl (x, (r, b))))));
      }

      fragment : (f : Fragment) → ReachesFragment d o f → IsValidFragmentAlone d f
      fragment f r = record {
        acyclic = λ c. let h = leads_back (RefersBySpread d) (Spreads d) (spread_back d) f.name.it f.name.it c in
            q _ (inr (inr (inr (inr (inl (f, (r, (h.0, (h.1.0, (h.1.1, (tt, (tt, refl))))))))))));
        directives = quiet_uses f.directives (λ fault b. given_told fault (inr (inr (inr (inr (f, (r, b)))))));
      }

      quiet_operation : ((fault : _) → DeferBreaks d o fault → ⊥) → IsValidOperationAlone d o
      quiet_operation deferred = record {
        unique = unique_from defined_name o.variables (λ r. q _ (inl (r.0, (r.1.0, (r.1.1.0, (r.1.1.1.0, (r.1.1.1.1.0, (r.1.1.1.1.1.0, (r.1.1.1.1.1.1.0, (r.1.1.1.1.1.1.1.0, (r.1.1.1.1.1.1.1.1.0, refl)))))))))));
        keys = λ x c v is. let (i, e) = index_found o.variables x c in quiet_keys v.it (λ fault k. q fault (inr (inl (i, (x, (e, (v, (is, k))))))));
        used = λ x c. let (i, e) = index_found o.variables x c in
            stable (variable_used_or_not (defined_name x) d o) (λ unused. q _ (inr (inr (inl (i, (x, (e, (unused, (tt, (tt, refl))))))))));
        selections = selection;
        fragments = fragment;
        directives = quiet_uses o.directives (λ fault b. given_told fault (inl b));
        variable_directives = λ x c. let (i, e) = index_found o.variables x c in quiet_uses x.it.directives (λ fault b. given_told fault (inr (inl (i, (x, (e, b))))));
        defers = quiet_defers d o deferred;
      }

  -- ---- the document

  valid_quiet : IsValidAlone d → StandaloneRules d
  valid_quiet h (OfData fault) (inl (o, (c, b))) = operation_quiet o (h.operations o c) fault b
  valid_quiet h (OfData fault) (inr (f, (c, (unused, told)))) = unused (h.fragments f c)
  valid_quiet h (OfDocument fault) (inl (o, (c, b))) = defers_quiet d o (h.operations o c).defers fault b
  valid_quiet h (OfDocument fault) (inr b) = labels_quiet d h.labels fault b
  valid_quiet h (OfLimit place) b = b

  quiet_valid : FragmentsFoundByName d → StandaloneRules d → IsValidAlone d
  quiet_valid by_name q = record {
    operations = λ o c. quiet_operation o (λ fault b. q (OfData fault) (inl (o, (c, b)))) (λ fault b. q (OfDocument fault) (inl (o, (c, b))));
    fragments = λ f c. stable (used_or_not d by_name f c) (λ unused. q (OfData _) (inr (f, (c, (unused, refl)))));
    labels = quiet_labels d (λ fault b. q (OfDocument fault) (inr b));
  }

pub rules_hold_alone : RulesAloneHoldByTheBook
rules_hold_alone d by_name = (valid_quiet d, quiet_valid d by_name)
