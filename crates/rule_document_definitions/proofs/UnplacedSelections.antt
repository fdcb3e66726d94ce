-- What rules on selections, and those without a schema, tell of a document without places.
use Rattle.std.proofs.Common.{◌↔◌, [], map, refl}
use Rattle.tree_directives.specs.DirectiveTree.{Arguments, Directives}
use Rattle.tree_directives.specs.OperationQueries.{location_of_operation}
use Rattle.tree_directives.specs.declared.directive_location.DirectiveLocation.TheVariants as location
use Rattle.spec_document.specs.MeantTree.{MeantSelection, MeantField, MeantSpread, MeantInline, MeantSet, meant_set, no_meant, meant_then, MeantOperation, MeantDocument}
use Rattle.spec_document.specs.Unplaced.{unplaced_meant, unplaced_set, unplaced_operation, unplaced_document}
use Rattle.rule_definitions.specs.Judged.{Judged}
use Rattle.rule_definitions.specs.Names.{named_in}
use Rattle.rule_definitions.specs.Uses.{UsesBreak}
use Rattle.rule_document_definitions.specs.Places.{Places}
use Rattle.rule_document_definitions.specs.Verdict.{no_places}
use Rattle.rule_document_definitions.specs.Selected.{selection_location, selection_directives, HasNone}
use Rattle.rule_document_definitions.specs.Selections.{field_taker, MissingSubselectionAt, FieldArgumentsBreak, DirectivesBreak, SelectionsBreak}
use Rattle.rule_document_definitions.specs.Standalone.{no_schema, GivenBreaksAlone, UsesBreakAlone, GivenInBreaks, OperationBreaksAlone}
use Rattle.rule_document_definitions.proofs.Moves.{same, moves_either, moves_where, moves_same, moves_index}
use Rattle.rule_document_definitions.proofs.UnplacedValues.{bare_variable, Bared, Moved, moves_wrong, unique_input_value_bared}
use Rattle.rule_document_definitions.proofs.UnplacedUses.{bare_argument, bare_directive, unique_argument_bared, given_bared, taker_bared, undefined_directive_bared, uses_bared}
use Rattle.rule_document_definitions.proofs.UnplacedReached.{moves_reached, moves_reached_field, moves_reached_fragment}
use Rattle.rule_document_definitions.proofs.UnplacedVariables.{HasSpans, unique_variable_bared, default_key_bared, unused_variable_bared}
use Rattle.rule_document_definitions.proofs.UnplacedFragments.{undefined_fragment_bared, recursive_fragment_bared}

none_selected : {P : Type 0} (s : MeantSet P) → HasNone s ↔ HasNone (unplaced_set s)
none_selected (meant_set t no_meant) = same
none_selected (meant_set t (meant_then s ss)) = same

-- ---- under a schema

module _ {P E : Type 0} (places : Places P) (d : MeantDocument P) (o : MeantOperation P) (s : Judged) where
  missing_subselection_bared : Moved {E = E} (MissingSubselectionAt s d o) (MissingSubselectionAt s (unplaced_document d) (unplaced_operation o))
  missing_subselection_bared =
      moves_reached_field Bared d o _ _ (λ f.
      moves_same Bared (s.type_named (named_in f.definition.ty)) _ _ (λ t.
      moves_where Bared same (moves_where Bared (none_selected f.set) (moves_wrong f.place _))))

  field_arguments_bared : Moved {E = E} (λ g. FieldArgumentsBreak s d o g places) (λ f. FieldArgumentsBreak s (unplaced_document d) (unplaced_operation o) f no_places)
  field_arguments_bared =
      moves_reached_field Bared d o _ _ (λ f.
      moves_either Bared (given_bared places.at s o.variables f.head.arguments) (taker_bared places.at s o.variables (field_taker places f)))

  uses_of_selection : (m : MeantSelection P) → Moved {E = E} (UsesBreak places.at s o.variables (selection_location m) (selection_directives m))
      (UsesBreak (λ a. tt) s (map bare_variable o.variables) (selection_location (unplaced_meant m)) (selection_directives (unplaced_meant m)))
  uses_of_selection (MeantField p x h t) = uses_bared places.at s o.variables location.Field h.directives
  uses_of_selection (MeantSpread p n ds) = uses_bared places.at s o.variables location.FragmentSpread ds
  uses_of_selection (MeantInline p c ds t) = uses_bared places.at s o.variables location.InlineFragment ds

  directives_bared : Moved {E = E} (λ g. DirectivesBreak s d o g places) (λ f. DirectivesBreak s (unplaced_document d) (unplaced_operation o) f no_places)
  directives_bared =
      moves_either Bared (uses_bared places.at s o.variables (location_of_operation o.operation_type) o.directives)
      (moves_either Bared
      (moves_reached Bared d o _ _ (λ x. uses_of_selection x.it))
      (moves_reached_fragment Bared d o _ _ (λ f. uses_bared places.at s o.variables location.FragmentDefinition f.directives)))

  pub selections_bared : Moved {E = E} (SelectionsBreak places s d o) (SelectionsBreak no_places s (unplaced_document d) (unplaced_operation o))
  selections_bared = moves_either Bared missing_subselection_bared (moves_either Bared field_arguments_bared directives_bared)

-- ---- without a schema

module _ {P E : Type 0} (places : Places P) (d : MeantDocument P) where
  given_alone_bared : (given : Arguments P) → Moved {E = E} (λ g. GivenBreaksAlone places d g given) (λ f. GivenBreaksAlone no_places (unplaced_document d) f (map bare_argument given))
  given_alone_bared given =
      moves_either Bared (unique_argument_bared places.at no_schema [] given)
      (moves_index Bared bare_argument given (map bare_argument given) refl _ _ (λ i a. unique_input_value_bared a.it.value.it))

  uses_alone_bared : (ds : Directives P) → Moved {E = E} (λ g. UsesBreakAlone places d g ds) (λ f. UsesBreakAlone no_places (unplaced_document d) f (map bare_directive ds))
  uses_alone_bared ds =
      moves_index Bared bare_directive ds (map bare_directive ds) refl _ _ (λ i e.
      moves_either Bared (undefined_directive_bared places.at no_schema [] e) (given_alone_bared e.it.arguments))

  selection_alone_bared : (m : MeantSelection P) → Moved {E = E} (λ g. UsesBreakAlone places d g (selection_directives m)) (λ f. UsesBreakAlone no_places (unplaced_document d) f (selection_directives (unplaced_meant m)))
  selection_alone_bared (MeantField p x h t) = uses_alone_bared h.directives
  selection_alone_bared (MeantSpread p n ds) = uses_alone_bared ds
  selection_alone_bared (MeantInline p c ds t) = uses_alone_bared ds

  module _ (o : MeantOperation P) where
    pub given_in_bared : Moved {E = E} (λ g. GivenInBreaks places d g o) (λ f. GivenInBreaks no_places (unplaced_document d) f (unplaced_operation o))
    given_in_bared =
        moves_either Bared (uses_alone_bared o.directives)
        (moves_either Bared (moves_index Bared bare_variable o.variables (map bare_variable o.variables) refl _ _ (λ i x. uses_alone_bared x.it.directives))
        (moves_either Bared (moves_reached Bared d o _ _ (λ x. selection_alone_bared x.it))
        (moves_either Bared (moves_reached_field Bared d o _ _ (λ f. given_alone_bared f.head.arguments))
        (moves_reached_fragment Bared d o _ _ (λ f. uses_alone_bared f.directives)))))

    pub operation_alone_bared : HasSpans places → Moved {E = E} (λ g. OperationBreaksAlone places d g o) (λ f. OperationBreaksAlone no_places (unplaced_document d) f (unplaced_operation o))
    operation_alone_bared spans =
        moves_either Bared (unique_variable_bared places d o)
        (moves_either Bared (default_key_bared places d o)
        (moves_either Bared (unused_variable_bared places d o spans)
        (moves_either Bared (undefined_fragment_bared places d o)
        (moves_either Bared (recursive_fragment_bared places d o spans) given_in_bared))))
