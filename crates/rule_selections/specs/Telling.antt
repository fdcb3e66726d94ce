-- Private: leads to `SelectionsBreak`. What the checks of fields, selections and fragments add, and what settles a fragment, in terms of the program's types.
use Rattle.std.specs.Prelude.{List, Vec, Contains}
use Rattle.std.specs.declared.alloc.Global.{Global}
use Rattle.graphql_names.specs.Node.{content}
use Rattle.graphql_names.specs.NameValue.{NameValue}
use Rattle.graphql_names.specs.Placed.{Place}
use Rattle.graphql_names.specs.declared.node.Node.{Node}
use Rattle.tree_directives.specs.declared.directive_location.DirectiveLocation.TheVariants as location
use Rattle.schema_components.specs.Names.{Entries}
use Rattle.schema_types.specs.SchemaTree.{SchemaTree}
use Rattle.schema_types.specs.Plain.{plain}
use Rattle.schema_types.specs.Addresses.{place_at}
use Rattle.document_typed_selections.specs.TypedTree.{typed_selection_tree, typed_set_tree}
use Rattle.document_typed_selections.specs.declared.selection.Selection.{Selection}
use Rattle.document_typed_selections.specs.declared.selection.SelectionSet.{SelectionSet}
use Rattle.document_typed_operations.specs.TypedDocument.{typed_fragment_tree}
use Rattle.document_typed_operations.specs.declared.operation.Fragment.{Fragment}
use Rattle.spec_document.specs.MeantTree.{MeantFragment, meant, meant_of_set}
use Rattle.document_typing.specs.Meanings.{meanings}
use Rattle.document_typing.specs.TypedByPlace.{IsTyped}
use Rattle.fault_data.specs.Adds.{Adds}
use Rattle.fault_data.specs.declared.fault.Fault.{Fault}
use Rattle.rule_arguments.specs.in_rule_values.Wanting.{variables_of}
use Rattle.rule_definitions.specs.GivenValues.{Variables}
use Rattle.rule_definitions.specs.Judged.{judged}
use Rattle.rule_definitions.specs.Uses.{TakerBreaks, UsesBreak}
use Rattle.rule_definitions.specs.Words.{AtSomeIndex}
use Rattle.rule_document_definitions.specs.Selected.{StandingField}
use Rattle.rule_document_definitions.specs.Selections.{field_taker}
use Rattle.rule_document_definitions.specs.PlacedDocumentFaults.{place_or_built_in, places_in}
use Rattle.rule_reach.specs.Reach.{Member}
use Rattle.graphql_schema.specs.SchemaOf.{schema_tree}
use Rattle.rule_selections.specs.Settled.{Terms, UsesAll, ApplyWhereNoted, IsSettled, LeavesBelow, LeavesOfTyped, KeepsUnlessSettled, MayReplace}
use Rattle.rule_selections.specs.SelectionFaults.{IsDefined, FieldBreaks, SelectionBreaks}
use Rattle.rule_selections.specs.declared.common.Common.{Common}

-- a list of faults
abbrev pub Faults : Type 0
Faults = Vec Fault Global

-- what operations have in common, as contracts see it; and that the inline fragments with the noted conditions apply
abbrev pub terms_of : Common → Terms
terms_of common = record { schema = schema_tree common.schema.now; variables = variables_of common.variables.now }

abbrev pub IsRight : Common → Type 0
IsRight common = ApplyWhereNoted (schema_tree common.schema.now) common.applying.now

-- a selection of a set on the type `parent`
abbrev pub member_there : NameValue → Selection → Member Place
member_there parent selection = (parent.text, meant (typed_selection_tree selection))

module _ (s : SchemaTree Place) where
  module _ (variables : Variables Place) where
    -- if the field has the definition of its parent type, the faults of its arguments by that definition are added; all faults of the field
    abbrev pub AddsTaken : StandingField Place → Faults → Faults → Type 0
    AddsTaken x old new = IsDefined s x → Adds old new (TakerBreaks (place_or_built_in s) (judged s) variables (field_taker (places_in s) x))

    abbrev pub AddsOfField : StandingField Place → Faults → Faults → Type 0
    AddsOfField x old new = IsDefined s x → Adds old new (FieldBreaks s variables x)

    -- if the selection is typed, its faults are added; those of several selections, if all are typed
    abbrev pub AddsOfSelection : Member Place → Faults → Faults → Type 0
    AddsOfSelection e old new = IsTyped (meanings (plain s)) e.0 e.1 → Adds old new (SelectionBreaks s variables e)

    abbrev pub AddsOfSelections : List (Member Place) → Faults → Faults → Type 0
    AddsOfSelections es old new = ((e : Member Place) → Contains es e → IsTyped (meanings (plain s)) e.0 e.1) → Adds old new (λ f. AtSomeIndex es (λ i e. SelectionBreaks s variables e f))

    -- the faults of the directives of a fragment are added; those of the directives of several fragments
    abbrev pub AddsOfFragment : Node Fragment → Faults → Faults → Type 0
    AddsOfFragment n old new = Adds old new (UsesBreak (place_at s) (judged s) variables location.FragmentDefinition (typed_fragment_tree (content n)).directives)

    abbrev pub AddsOfFragments : List (MeantFragment Place) → Faults → Faults → Type 0
    AddsOfFragments fragments old new = Adds old new (λ f. AtSomeIndex fragments (λ i x. UsesBreak (place_at s) (judged s) variables location.FragmentDefinition x.directives f))

module _ (s : Terms) where
  -- what stays of the selection is appended, or the selection is settled and left out
  abbrev pub KeepsSelection : NameValue → Selection → SelectionSet → SelectionSet → Type 0
  KeepsSelection ty selection old new = KeepsUnlessSettled s ty.text (typed_selection_tree selection) (typed_set_tree old) (typed_set_tree new)

  -- if `left` is what is left of the selection's own set, the selection is settled
  abbrev pub SettlesIfLeft : NameValue → Selection → SelectionSet → Type 0
  SettlesIfLeft ty selection left = LeavesBelow s (meant (typed_selection_tree selection)) (meant_of_set (typed_set_tree left)) → IsSettled s ty.text (meant (typed_selection_tree selection))

  -- if the `old` fragments may replace these, so may the `new` ones
  abbrev pub StillMayReplace : (fragments old new : Entries (MeantFragment Place)) → Type 0
  StillMayReplace fragments old new = MayReplace s fragments old → MayReplace s fragments new

  -- `left` is what is left of the set, and uses all variables that the set uses
  abbrev pub SettlesSet : SelectionSet → SelectionSet → Type 0
  SettlesSet whole left = LeavesOfTyped s (typed_set_tree whole) (typed_set_tree left) × UsesAll (meant_of_set (typed_set_tree left)) (meant_of_set (typed_set_tree whole))
