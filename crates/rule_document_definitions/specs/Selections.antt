-- Rules on each selection that an operation reaches (GraphQL, October 2021, sections 5.3.3, 5.4, 5.6, 5.7 and 5.8).
use Rattle.std.specs.Prelude.{◌≡◌, ◌⊎◌}
use Rattle.tree_directives.specs.declared.directive_location.DirectiveLocation.TheVariants as location
use Rattle.tree_directives.specs.OperationQueries.{location_of_operation}
use Rattle.schema_coordinates.specs.Coordinate.{OfAttribute, OfArgument}
use Rattle.rule_definitions.specs.in_schema_types.SchemaTree.{kind_words}
use Rattle.rule_definitions.specs.in_schema_types.Addresses.{FieldAt}
use Rattle.spec_document.specs.MeantTree.{MeantOperation, MeantDocument}
use Rattle.rule_definitions.specs.Diagnostics.{MissingSubselection}
use Rattle.rule_definitions.specs.Words.{Present}
use Rattle.rule_definitions.specs.Faults.{FaultAt, wrong}
use Rattle.rule_definitions.specs.Judged.{Judged}
use Rattle.rule_definitions.specs.Names.{named_in}
use Rattle.rule_definitions.specs.Uses.{Taker, GivenBreaks, TakerBreaks, UsesBreak}
use Rattle.rule_document_definitions.specs.Places.{Places}
use Rattle.rule_document_definitions.specs.Selected.{StandingField, HasNone, field_name, selection_location, selection_directives}
use Rattle.rule_document_definitions.specs.Reached.{AtReached, AtReachedField, AtReachedFragment}
use Rattle.rule_document_definitions.specs.PossibleTypes.{IsCompositeType}

-- the field as a `Taker`
abbrev pub field_taker : {P : Type 0} → Places P → StandingField P → Taker P
field_taker places f = record {
  place = f.place;
  given = f.head.arguments;
  holder = FieldAt f.parent (field_name f);
  definitions = f.definition.arguments;
  definition_location = places.at (FieldAt f.parent (field_name f));
  coordinate = OfAttribute f.parent (field_name f);
  argument_coordinate = OfArgument f.parent (field_name f);
}

module _ {P E : Type 0} (s : Judged) (d : MeantDocument P) (o : MeantOperation P) (fault : FaultAt P E) where
  -- MissingSubselection: a field whose values have fields is valid only if it selects some of them (section 5.3.3)
  abbrev pub MissingSubselectionAt : Type 0
  MissingSubselectionAt = AtReachedField d o (λ f. Present (s.type_named (named_in f.definition.ty)) (λ t. IsCompositeType t × (HasNone f.set
      × (fault ≡ wrong f.place (MissingSubselection (OfAttribute f.parent (field_name f)) (named_in f.definition.ty) (kind_words t.kind))))))

  -- a rule on arguments is broken by those of a field (sections 5.4, 5.6 and 5.8)
  abbrev pub FieldArgumentsBreak : Places P → Type 0
  FieldArgumentsBreak places = AtReachedField d o (λ f.
      GivenBreaks places.at s o.variables f.head.arguments fault ⊎ TakerBreaks places.at s o.variables (field_taker places f) fault)

  -- a rule on directives is broken by those of the operation, or of a selection or fragment that it reaches (section 5.7)
  abbrev pub DirectivesBreak : Places P → Type 0
  DirectivesBreak places =
      UsesBreak places.at s o.variables (location_of_operation o.operation_type) o.directives fault
      ⊎ (AtReached d o (λ x. UsesBreak places.at s o.variables (selection_location x.it) (selection_directives x.it) fault)
      ⊎ AtReachedFragment d o (λ f. UsesBreak places.at s o.variables location.FragmentDefinition f.directives fault))

-- a rule on the selections of an operation is broken, with this fault
abbrev pub SelectionsBreak : {P E : Type 0} → Places P → Judged → MeantDocument P → MeantOperation P → FaultAt P E → Type 0
SelectionsBreak places s d o fault = MissingSubselectionAt s d o fault ⊎ (FieldArgumentsBreak s d o fault places ⊎ DirectivesBreak s d o fault places)
