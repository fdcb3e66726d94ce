-- Private: leads to `DeprecatedUsedIn`. What is told of a document, in the order of the text.
use Rattle.std.specs.Prelude.{ℕ, List, [], ◌∷◌, ◌++◌, find, flat_map, Option}
use Rattle.std.specs.Option.{option_map_or}
use Rattle.graphql_names.specs.Placed.{Placed, Place, Text}
use Rattle.tree_literals.specs.TypeQueries.{inner_name}
use Rattle.tree_literals.specs.ValueTree.{ValueTree, ItemTrees, EntryTrees, EnumTree, ListTree, ObjectTree, no_items, item_then, no_entries, entry_then}
use Rattle.tree_directives.specs.DirectiveTree.{ArgumentTree, Arguments, DirectiveTree, Directives, InputValues}
use Rattle.tree_directives.specs.DirectiveQueries.{input_value_has_name}
use Rattle.tree_operations.specs.SelectionTree.{FieldHead}
use Rattle.tree_operations.specs.OperationTree.{VariableDefinitionTree}
use Rattle.schema_types.specs.SchemaTree.{SchemaTree}
use Rattle.schema_coordinates.specs.Coordinate.{Coordinate, OfAttribute, OfArgument, OfDirectiveArgument}
use Rattle.spec_document.specs.MeantTree.{Definition, MeantSelection, MeantField, MeantSpread, MeantInline, MeantSet, meant_set, MeantSelections, no_meant, meant_then, MeantOperation, MeantFragment, MeantDocument}
use Rattle.rule_definitions.specs.Judged.{Judged, judged}
use Rattle.rule_definitions.specs.Names.{argument_name, directive_name, named_in}
use Rattle.rule_document_definitions.specs.Selected.{selection_directives, operations, fragments}
use Rattle.rule_warnings.specs.Deprecated.{DeprecatedUse, deprecation, enum_value, input_field, field_definition}
use Rattle.rule_warnings.specs.declared.deprecated_use.UseKind.{UseKind}
use Rattle.rule_warnings.specs.declared.deprecated_use.UseKind.TheVariants as kind

-- a selection, with the name of the type of its set before it
abbrev pub Member : Type 0 → Type 0
Member P = List ℕ × MeantSelection P

module _ {P : Type 0} where
  -- the use of a name, if its definition is deprecated for this reason
  abbrev pub used_for : UseKind → Coordinate → Text P → List ℕ → List (DeprecatedUse P)
  used_for k coordinate n reason = record { place = n.place; kind = k; coordinate = coordinate; reason = reason } ∷ []

  abbrev pub use_of : UseKind → Coordinate → Option (List ℕ) → Text P → List (DeprecatedUse P)
  use_of k coordinate reason n = option_map_or (used_for k coordinate n) reason []

  -- the selections of a set
  abbrev pub members_along : List ℕ → MeantSelections P → List (Member P)
  members_along ty no_meant = []
  members_along ty (meant_then x xs) = (ty, x) ∷ members_along ty xs

  abbrev pub members_of : MeantSet P → List (Member P)
  members_of (meant_set ty xs) = members_along ty xs

  -- the selections of a selection's own set
  abbrev pub own_members : MeantSelection P → List (Member P)
  own_members (MeantField p d h s) = members_of s
  own_members (MeantSpread p n ds) = []
  own_members (MeantInline p c ds s) = members_of s

  -- the selections of a set at any depth, each before those in it
  abbrev mutual
    pub members_in : MeantSet P → List (Member P)
    members_in (meant_set ty xs) = members_from ty xs

    pub members_from : List ℕ → MeantSelections P → List (Member P)
    members_from ty no_meant = []
    members_from ty (meant_then x xs) = (ty, x) ∷ (members_below x ++ members_from ty xs)

    pub members_below : MeantSelection P → List (Member P)
    members_below (MeantField p d h s) = members_in s
    members_below (MeantSpread p n ds) = []
    members_below (MeantInline p c ds s) = members_in s

  -- a selection and those at any depth in it
  abbrev pub with_below : Member P → List (Member P)
  with_below e = e ∷ members_below e.1

module _ {P : Type 0} (s : Judged) where
  abbrev pub enum_value_uses : List ℕ → Text P → List (DeprecatedUse P)
  enum_value_uses ty n = option_map_or (λ v. use_of kind.EnumValue (OfAttribute ty n.it) (deprecation v.directives) n) (enum_value s ty n.it) []

  abbrev mutual
    pub value_uses : List ℕ → ValueTree P → List (DeprecatedUse P)
    value_uses ty (EnumTree n) = enum_value_uses ty n
    value_uses ty (ListTree ts) = item_uses ty ts
    value_uses ty (ObjectTree es) = entry_uses ty es
    value_uses ty v = []

    pub item_uses : List ℕ → ItemTrees P → List (DeprecatedUse P)
    item_uses ty no_items = []
    item_uses ty (item_then p v ts) = value_uses ty v ++ item_uses ty ts

    pub entry_uses : List ℕ → EntryTrees P → List (DeprecatedUse P)
    entry_uses ty no_entries = []
    entry_uses ty (entry_then key p v es) =
        option_map_or (λ f. use_of kind.InputField (OfAttribute ty key.it) (deprecation f.directives) key ++ value_uses (named_in f.ty.it) v) (input_field s ty key.it) []
        ++ entry_uses ty es

  abbrev pub argument_uses : UseKind → (List ℕ → Coordinate) → InputValues (Unit {0}) → Placed P (ArgumentTree P) → List (DeprecatedUse P)
  argument_uses k coordinate definitions a =
      option_map_or (λ v. use_of k (coordinate (argument_name a)) (deprecation v.it.directives) a.it.name ++ value_uses (named_in v.it.ty.it) a.it.value.it)
      (find (input_value_has_name (argument_name a)) definitions) []

  abbrev pub given_uses : UseKind → (List ℕ → Coordinate) → InputValues (Unit {0}) → Arguments P → List (DeprecatedUse P)
  given_uses k coordinate definitions given = flat_map (argument_uses k coordinate definitions) given

  abbrev pub directive_uses : Placed P (DirectiveTree P) → List (DeprecatedUse P)
  directive_uses d = option_map_or (λ defined. given_uses kind.Argument (OfDirectiveArgument (directive_name d)) defined.arguments d.it.arguments) (s.directive (directive_name d)) []

  abbrev pub directives_uses : Directives P → List (DeprecatedUse P)
  directives_uses ds = flat_map directive_uses ds

  -- of a field on the type of this name, by its definition
  abbrev pub defined_uses : List ℕ → FieldHead P → Definition → List (DeprecatedUse P)
  defined_uses ty h d = use_of kind.Field (OfAttribute ty h.name.it) (deprecation d.directives) h.name
      ++ given_uses kind.Argument (OfArgument ty h.name.it) d.arguments h.arguments

  abbrev pub default_uses : VariableDefinitionTree P → List (DeprecatedUse P)
  default_uses v = option_map_or (λ x. value_uses (inner_name v.ty.it).it x.it) v.default_value []

  abbrev pub variable_uses : VariableDefinitionTree P → List (DeprecatedUse P)
  variable_uses v = default_uses v ++ directives_uses v.directives

  abbrev pub variables_uses : List (Placed P (VariableDefinitionTree P)) → List (DeprecatedUse P)
  variables_uses vs = flat_map (λ v. variable_uses v.it) vs

module _ {P : Type 0} (t : SchemaTree Place) where
  -- of a field, if the type of this name has it
  abbrev pub field_uses : List ℕ → FieldHead P → List (DeprecatedUse P)
  field_uses ty h = option_map_or (defined_uses (judged t) ty h) (field_definition t ty h.name.it) []

  abbrev pub own_uses : List ℕ → MeantSelection P → List (DeprecatedUse P)
  own_uses ty (MeantField p d h v) = field_uses ty h
  own_uses ty _ = []

  -- of a selection, apart from those in its set
  abbrev pub selection_uses : Member P → List (DeprecatedUse P)
  selection_uses e = own_uses e.0 e.1 ++ directives_uses (judged t) (selection_directives e.1)

  abbrev pub set_uses : MeantSet P → List (DeprecatedUse P)
  set_uses v = flat_map selection_uses (members_in v)

  abbrev pub operation_uses : MeantOperation P → List (DeprecatedUse P)
  operation_uses o = variables_uses (judged t) o.variables ++ (directives_uses (judged t) o.directives ++ set_uses o.set)

  abbrev pub fragment_uses : MeantFragment P → List (DeprecatedUse P)
  fragment_uses f = directives_uses (judged t) f.directives ++ set_uses f.set

  abbrev pub document_uses : MeantDocument P → List (DeprecatedUse P)
  document_uses d = flat_map operation_uses (operations d) ++ flat_map fragment_uses (fragments d)
