-- Private: leads to `Selections.antt` and `Standalone.antt` of the rules' definitions. What the checks tell of single selections.
use Rattle.std.specs.Prelude.{◌≡◌, Bool, true, false, ◌&&◌, not, List, [], ◌∷◌, None, Some, ◌⊎◌, if◌then◌else◌}
use Rattle.std.specs.Option.{option_map, option_map_or}
use Rattle.graphql_names.specs.Node.{content, place}
use Rattle.graphql_names.specs.NameValue.{NameValue}
use Rattle.graphql_names.specs.Placed.{Place}
use Rattle.graphql_names.specs.declared.node.Node.{Node}
use Rattle.schema_coordinates.specs.Coordinate.{OfAttribute}
use Rattle.tree_type_members.specs.TypeSystemTree.{field_definition_tree, unplaced_field_definition}
use Rattle.schema_types.specs.SchemaTree.{SchemaTree, kind_words, is_leaf_kind, is_output_kind}
use Rattle.schema_types.specs.Plain.{plain}
use Rattle.schema_types.specs.Addresses.{place_at}
use Rattle.schema_types.specs.declared.type_kind.TypeKind.{TypeKind}
use Rattle.document_typed_selections.specs.TypedTree.{typed_set_tree}
use Rattle.document_typed_selections.specs.TypedParts.{typed_head}
use Rattle.document_typed_selections.specs.declared.selection.Field.{Field}
use Rattle.spec_document.specs.MeantTree.{MeantSet, meant_set, no_meant, meant_of_set}
use Rattle.document_typing.specs.Meanings.{meanings}
use Rattle.rule_definitions.specs.Diagnostics.{MissingSubselection}
use Rattle.rule_definitions.specs.Words.{Present}
use Rattle.rule_definitions.specs.Faults.{wrong}
use Rattle.rule_definitions.specs.PlacedFaults.{PlacedFault}
use Rattle.rule_definitions.specs.Judged.{Judged, judged}
use Rattle.rule_definitions.specs.Names.{named_in}
use Rattle.rule_definitions.specs.GivenValues.{Variables}
use Rattle.rule_definitions.specs.Uses.{GivenBreaks, TakerBreaks, UsesBreak}
use Rattle.rule_document_definitions.specs.Selected.{InOperation, StandingField, field_name, selection_location, selection_directives, HasNone}
use Rattle.rule_document_definitions.specs.PossibleTypes.{IsCompositeType}
use Rattle.rule_document_definitions.specs.Selections.{field_taker}
use Rattle.rule_document_definitions.specs.PlacedDocumentFaults.{place_or_built_in, places_in}
use Rattle.rule_arguments.specs.Alone.{ArgumentsBreak, DirectivesAloneBreak}
use Rattle.rule_reach.specs.Reach.{Member, field_of}

-- the field of a node on the type `parent`, without its position: that is always `InOperation None`
abbrev pub standing_field : NameValue → Node Field → StandingField Place
standing_field parent n = record {
  position = InOperation None;
  parent = parent.text;
  place = place n;
  definition = unplaced_field_definition (field_definition_tree (content (content n).definition));
  head = typed_head (content n);
  set = meant_of_set (typed_set_tree (content n).selection_set);
}

-- whether a set has no selections
abbrev pub selects_none : {P : Type 0} → MeantSet P → Bool
selects_none (meant_set t no_meant) = true
selects_none _ = false

-- the fault of a field that selects nothing though its type, of the kind `k`, has fields
abbrev pub without_subselection : StandingField Place → TypeKind → PlacedFault
without_subselection x k = wrong x.place (MissingSubselection (OfAttribute x.parent (field_name x)) (named_in x.definition.ty) (kind_words k))

abbrev pub missing_on : StandingField Place → TypeKind → List PlacedFault
missing_on x k = if is_output_kind k && not (is_leaf_kind k) then without_subselection x k ∷ [] else []

abbrev pub missing_subselection : Judged → StandingField Place → List PlacedFault
missing_subselection s x = if selects_none x.set then option_map_or (missing_on x) (option_map (λ t. t.kind) (s.type_named (named_in x.definition.ty))) [] else []

module _ (s : SchemaTree Place) where
  -- the field has the definition that the schema has for it on its parent type
  abbrev pub IsDefined : StandingField Place → Type 0
  IsDefined x = (meanings (plain s)).field x.parent (field_name x) ≡ Some x.definition

  abbrev pub MissesSubselection : StandingField Place → PlacedFault → Type 0
  MissesSubselection x f = Present ((judged s).type_named (named_in x.definition.ty)) (λ t. IsCompositeType t × (HasNone x.set × (f ≡ without_subselection x t.kind)))

  module _ (variables : Variables Place) where
    -- the arguments of a field break a rule
    abbrev pub ArgumentsOfBreak : StandingField Place → PlacedFault → Type 0
    ArgumentsOfBreak x f = GivenBreaks (place_or_built_in s) (judged s) variables x.head.arguments f ⊎ TakerBreaks (place_or_built_in s) (judged s) variables (field_taker (places_in s) x) f

    abbrev pub FieldBreaks : StandingField Place → PlacedFault → Type 0
    FieldBreaks x f = MissesSubselection x f ⊎ ArgumentsOfBreak x f

    -- the selection breaks a rule by its directives, or by itself if it is a field
    abbrev pub SelectionBreaks : Member Place → PlacedFault → Type 0
    SelectionBreaks e f = UsesBreak (place_at s) (judged s) variables (selection_location e.1) (selection_directives e.1) f ⊎ Present (field_of e) (λ x. FieldBreaks x f)

-- the selection breaks a rule without a schema: by its directives, or by its arguments if it is a field
abbrev pub SelectionAloneBreaks : Member Place → PlacedFault → Type 0
SelectionAloneBreaks e f = DirectivesAloneBreak (selection_directives e.1) f ⊎ Present (field_of e) (λ x. ArgumentsBreak x.head.arguments f)
