-- Uses in a document of what is deprecated (GraphQL, October 2021, section 3.13.3): a name is used whose definition in the schema has
-- `@deprecated`.
use Rattle.std.specs.Prelude.{◌≡◌, ℕ, List, find, codes, Option, unwrap_or, ◌⊎◌}
use Rattle.std.specs.Option.{option_map, option_and_then}
use Rattle.graphql_names.specs.Placed.{Place, Text}
use Rattle.tree_literals.specs.TypeQueries.{inner_name}
use Rattle.tree_literals.specs.ValueTree.{ValueTree, ItemTrees, EntryTrees, EnumTree, ListTree, ObjectTree, no_items, item_then, no_entries, entry_then}
use Rattle.tree_literals.specs.ValueQueries.{string_text}
use Rattle.tree_directives.specs.DirectiveTree.{Arguments, Directives, InputValueTree, InputValues}
use Rattle.tree_directives.specs.DirectiveQueries.{directive_has_name, input_value_has_name, given_value}
use Rattle.tree_operations.specs.OperationTree.{VariableDefinitionTree}
use Rattle.tree_type_members.specs.TypeSystemTree.{EnumValueTree, unplaced_field_definition}
use Rattle.schema_components.specs.Given.{plain_given}
use Rattle.schema_types.specs.SchemaTree.{SchemaTree}
use Rattle.graphql_schema.specs.LookUps.{field_named}
use Rattle.schema_coordinates.specs.Coordinate.{Coordinate, OfAttribute, OfArgument, OfDirectiveArgument}
use Rattle.spec_document.specs.MeantTree.{Definition, MeantSet, MeantOperation, MeantFragment, MeantDocument}
use Rattle.rule_definitions.specs.Words.{Present, AtSomeIndex}
use Rattle.rule_definitions.specs.Judged.{Judged, judged}
use Rattle.rule_definitions.specs.Names.{argument_name, directive_name, named_in}
use Rattle.rule_document_definitions.specs.Selected.{Position, InOperation, InFragment, StandingField, all_in, as_field, field_name, selection_directives, operations, fragments, operation_name}
use Rattle.rule_warnings.specs.declared.deprecated_use.UseKind.{UseKind}
use Rattle.rule_warnings.specs.declared.deprecated_use.UseKind.TheVariants as kind

-- the use of a name whose definition is deprecated: the place of the name, what it names, and why that is deprecated
pub record DeprecatedUse (P : Type 0) : Type 0 where
  pub place : P
  pub kind : UseKind
  pub coordinate : Coordinate
  pub reason : List ℕ

module _ {P : Type 0} where
  -- the string that is given as `reason`, else the default
  abbrev pub reason_given : Arguments P → List ℕ
  reason_given given = unwrap_or (option_and_then (λ v. string_text v.it) (given_value (codes "reason") given)) (codes "No longer supported")

  -- the reason of the first `@deprecated` among the directives of a definition, if there is one
  abbrev pub deprecation : Directives P → Option (List ℕ)
  deprecation ds = option_map (λ d. reason_given d.it.arguments) (find (directive_has_name (codes "deprecated")) ds)

-- the value of an enum, and the field of an input object, by the names of the type and of the value or field
abbrev pub enum_value : Judged → List ℕ → List ℕ → Option (EnumValueTree (Unit {0}))
enum_value s n m = option_and_then (λ t. t.value m) (s.type_named n)

abbrev pub input_field : Judged → List ℕ → List ℕ → Option (InputValueTree (Unit {0}))
input_field s n m = option_and_then (λ t. t.input m) (s.type_named n)

-- the field of an object or interface, or a meta-field, by the names of the type and of the field
abbrev pub field_definition : SchemaTree Place → List ℕ → List ℕ → Option Definition
field_definition t n m = option_map (plain_given unplaced_field_definition) (field_named t n m)

module _ {P : Type 0} (s : Judged) (use' : DeprecatedUse P) where
  -- this is the use of a name whose definition, at this coordinate, has `@deprecated` among these directives
  abbrev pub IsUseOf : UseKind → Coordinate → Directives (Unit {0}) → Text P → Type 0
  IsUseOf k coordinate ds n = Present (deprecation ds) (λ reason. use' ≡ record { place = n.place; kind = k; coordinate = coordinate; reason = reason })

  -- DeprecatedField: the definition of a field that is selected is deprecated
  abbrev pub DeprecatedFieldUsedAt : Definition → StandingField P → Type 0
  DeprecatedFieldUsedAt d f = IsUseOf kind.Field (OfAttribute f.parent (field_name f)) d.directives f.head.name

  -- DeprecatedArgument: the definition of an argument that is given is deprecated
  abbrev pub DeprecatedArgumentUsedAt : Coordinate → InputValueTree (Unit {0}) → Text P → Type 0
  DeprecatedArgumentUsedAt coordinate v n = IsUseOf kind.Argument coordinate v.directives n

  -- DeprecatedInputField: the definition of the field of an input object, for which a key is written, is deprecated
  abbrev pub DeprecatedInputFieldUsedAt : List ℕ → InputValueTree (Unit {0}) → Text P → Type 0
  DeprecatedInputFieldUsedAt ty f key = IsUseOf kind.InputField (OfAttribute ty key.it) f.directives key

  -- DeprecatedEnumValue: the definition of an enum value that is written is deprecated
  abbrev pub DeprecatedEnumValueUsedAt : List ℕ → Text P → Type 0
  DeprecatedEnumValueUsedAt ty n = Present (enum_value s ty n.it) (λ v. IsUseOf kind.EnumValue (OfAttribute ty n.it) v.directives n)

  -- ---- at any depth of a value that is written for a type with this inner name

  abbrev mutual
    pub DeprecatedInValue : List ℕ → ValueTree P → Type 0
    DeprecatedInValue ty (EnumTree n) = DeprecatedEnumValueUsedAt ty n
    DeprecatedInValue ty (ListTree ts) = DeprecatedInItems ty ts
    DeprecatedInValue ty (ObjectTree es) = DeprecatedInEntries ty es
    DeprecatedInValue ty v = ⊥

    pub DeprecatedInItems : List ℕ → ItemTrees P → Type 0
    DeprecatedInItems ty no_items = ⊥
    DeprecatedInItems ty (item_then p v ts) = DeprecatedInValue ty v ⊎ DeprecatedInItems ty ts

    pub DeprecatedInEntries : List ℕ → EntryTrees P → Type 0
    DeprecatedInEntries ty no_entries = ⊥
    DeprecatedInEntries ty (entry_then key p v es) =
        Present (input_field s ty key.it) (λ f. DeprecatedInputFieldUsedAt ty f key ⊎ DeprecatedInValue (named_in f.ty.it) v) ⊎ DeprecatedInEntries ty es

  -- ---- where arguments are given

  -- by an argument, or in its value; its definition is the first of its name
  abbrev pub DeprecatedInArguments : (List ℕ → Coordinate) → InputValues (Unit {0}) → Arguments P → Type 0
  DeprecatedInArguments coordinate definitions given = AtSomeIndex given (λ i a. Present (find (input_value_has_name (argument_name a)) definitions) (λ v.
      DeprecatedArgumentUsedAt (coordinate (argument_name a)) v.it a.it.name ⊎ DeprecatedInValue (named_in v.it.ty.it) a.it.value.it))

  -- by the arguments of directives
  abbrev pub DeprecatedInDirectives : Directives P → Type 0
  DeprecatedInDirectives ds = AtSomeIndex ds (λ i d. Present (s.directive (directive_name d)) (λ defined.
      DeprecatedInArguments (OfDirectiveArgument (directive_name d)) defined.arguments d.it.arguments))

  -- by the directives or the default value of a variable
  abbrev pub DeprecatedInVariable : VariableDefinitionTree P → Type 0
  DeprecatedInVariable v = Present v.default_value (λ x. DeprecatedInValue (inner_name v.ty.it).it x.it) ⊎ DeprecatedInDirectives v.directives

module _ {P : Type 0} (t : SchemaTree Place) (use' : DeprecatedUse P) where
  -- by a field, or its arguments, if the parent type has the field
  abbrev pub DeprecatedInField : StandingField P → Type 0
  DeprecatedInField f = Present (field_definition t f.parent (field_name f)) (λ d.
      DeprecatedFieldUsedAt (judged t) use' d f ⊎ DeprecatedInArguments (judged t) use' (OfArgument f.parent (field_name f)) d.arguments f.head.arguments)

  -- ---- in a document

  -- by a selection at any depth of a set; fragments that are spread are not entered, since each counts by itself
  abbrev pub DeprecatedInSet : Position → MeantSet P → Type 0
  DeprecatedInSet holder set = AtSomeIndex (all_in holder set) (λ i x.
      Present (as_field x) (λ f. DeprecatedInField f) ⊎ DeprecatedInDirectives (judged t) use' (selection_directives x.it))

  abbrev pub DeprecatedInOperation : MeantOperation P → Type 0
  DeprecatedInOperation o = AtSomeIndex o.variables (λ i v. DeprecatedInVariable (judged t) use' v.it)
      ⊎ (DeprecatedInDirectives (judged t) use' o.directives ⊎ DeprecatedInSet (InOperation (operation_name o)) o.set)

  abbrev pub DeprecatedInFragment : MeantFragment P → Type 0
  DeprecatedInFragment f = DeprecatedInDirectives (judged t) use' f.directives ⊎ DeprecatedInSet (InFragment f.name.it) f.set

  -- something that is deprecated is used in the document, by this use: in an operation, or in a fragment, whether or not one is spread
  abbrev pub DeprecatedUsedIn : MeantDocument P → Type 0
  DeprecatedUsedIn d = AtSomeIndex (operations d) (λ i o. DeprecatedInOperation o) ⊎ AtSomeIndex (fragments d) (λ i f. DeprecatedInFragment f)
