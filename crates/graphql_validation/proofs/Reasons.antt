-- What breaks a rule that stays broken breaks a rule on documents; and a document is part of itself.
use Rattle.std.proofs.Common.{◌⊎◌, refl, inl, inr}
use Rattle.spec_document.specs.MeantTree.{MeantSelection, MeantField, MeantSpread, MeantInline, MeantSet, meant_set, MeantSelections, no_meant, meant_then, MeantOperation, MeantDocument}
use Rattle.rule_definitions.specs.Faults.{FaultAt}
use Rattle.rule_definitions.specs.Judged.{Judged}
use Rattle.rule_document_definitions.specs.Places.{Places}
use Rattle.rule_document_definitions.specs.DocumentFaults.{DocumentFault, OfData, OfDocument, OfLimit}
use Rattle.rule_document_definitions.specs.DocumentRules.{RulesFail}
use Rattle.rule_document_definitions.specs.Fragments.{FragmentsBreak}
use Rattle.rule_document_definitions.specs.Selections.{SelectionsBreak}
use Rattle.rule_document_definitions.specs.Variables.{VariablesBreak}
use Rattle.graphql_validation.specs.Parts.{IsPartOfSelection, IsPartOfSet, ArePartOf, IsPartOf}
use Rattle.graphql_validation.specs.LastingRules.{LastingVariablesBreak, LastingSelectionsBreak, LastingFragmentsBreak, LastingDataBreaks, LastingBreaks, CycleBreaks}

module _ {P E : Type 0} (places : Places P) (s : Judged) (d : MeantDocument P) where
  module _ (o : MeantOperation P) (fault : FaultAt P E) where
    pub of_variables : LastingVariablesBreak places s d o fault → VariablesBreak places s d o fault
    of_variables (inl h) = inl h
    of_variables (inr (inl h)) = inr (inl h)
    of_variables (inr (inr h)) = inr (inr (inr h))

    pub of_selections : LastingSelectionsBreak places s d o fault → SelectionsBreak places s d o fault
    of_selections h = inr h

    of_fragments : LastingFragmentsBreak places s d o fault → FragmentsBreak places s d o fault
    of_fragments h = inr (inr h)

    of_data : LastingDataBreaks places s d o fault → VariablesBreak places s d o fault ⊎ (SelectionsBreak places s d o fault ⊎ FragmentsBreak places s d o fault)
    of_data (inl h) = inl (of_variables h)
    of_data (inr (inl h)) = inr (inl (of_selections h))
    of_data (inr (inr h)) = inr (inr (of_fragments h))

  pub lasting_is_fault : (fault : DocumentFault P E) → LastingBreaks places s d fault → RulesFail places s d fault
  lasting_is_fault (OfData fault) (o, (c, h)) = inl (o, (c, of_data o fault h))
  lasting_is_fault (OfDocument fault) (o, (c, inl h)) = inr (inl (o, (c, h)))
  lasting_is_fault (OfDocument fault) (o, (c, inr (subscribes, inl h))) = inl (o, (c, (subscribes, inr (inl h))))
  lasting_is_fault (OfDocument fault) (o, (c, inr (subscribes, inr h))) = inl (o, (c, (subscribes, inr (inr h))))
  lasting_is_fault (OfLimit place) h = h

  pub cycle_is_fault : (fault : DocumentFault P E) → CycleBreaks places d fault → RulesFail places s d fault
  cycle_is_fault (OfData fault) (o, (c, h)) = inl (o, (c, inr (inr (inr (inl h)))))
  cycle_is_fault (OfDocument fault) h = absurd h
  cycle_is_fault (OfLimit place) h = h

-- ---- a document is part of itself

module _ {P : Type 0} where
  -- more in front changes nothing
  later : (s : MeantSelection P) (ss us : MeantSelections P) → ArePartOf ss us → ArePartOf ss (meant_then s us)
  later s no_meant us h = h
  later s (meant_then x xs) us h = (inr h.0, later s xs us h.1)

  mutual
    same_selection : (s : MeantSelection P) → IsPartOfSelection s s
    same_selection (MeantField p d h s) = (s, (refl, same_set s))
    same_selection (MeantSpread p n ds) = refl
    same_selection (MeantInline p c ds s) = (s, (refl, same_set s))

    same_set : (s : MeantSet P) → IsPartOfSet s s
    same_set (meant_set t ss) = (refl, same_all ss)

    same_all : (ss : MeantSelections P) → ArePartOf ss ss
    same_all no_meant = tt
    same_all (meant_then s ss) = (inl (same_selection s), later s ss ss (same_all ss))

  pub same_document : (d : MeantDocument P) → IsPartOf d d
  same_document d = record {
    operations = λ o c. (o, (c, (o.set, (refl, same_set o.set))));
    fragments = λ n f is. (f, (is, (f.set, (refl, same_set f.set))));
  }
