-- Which operations and fragments of a document are kept, and what they mean (GraphQL, October 2021, sections 3.3.1, 5.2.1.1, 5.5.1.1 and 5.5.1.2).
use Rattle.std.specs.Prelude.{ℕ, Bool, true, false, List, [], ◌∷◌, ◌++◌, map, Option, None, Some, slice_get, option_to_list, if◌then◌else◌}
use Rattle.std.specs.List.{flat_map}
use Rattle.std.specs.Option.{option_map}
use Rattle.graphql_names.specs.Placed.{Text}
use Rattle.tree_operations.specs.OperationLayout.{is_none}
use Rattle.tree_operations.specs.OperationTree.{OperationTree, FragmentTree}
use Rattle.tree_definitions.specs.DefinitionTree.{DefinitionTree, Operation, Fragment}
use Rattle.schema_types.specs.in_components.Lists.{firsts}
use Rattle.document_typing.specs.MeantTree.{MeantSet, MeantOperation, MeantFragment, MeantDocument, set_on}
use Rattle.document_typing.specs.Meanings.{Meanings}
use Rattle.document_typing.specs.KeptSelections.{kept_all}

abbrev pub is_operation : {P : Type 0} → DefinitionTree P → Bool
is_operation (Operation p o) = true
is_operation _ = false

-- an operation or a fragment with its place, and the type of its selections: the root, or the type condition
pub record Based (P A : Type 0) : Type 0 where
  pub place : P
  pub base : List ℕ
  pub it : A

module _ {P : Type 0} where
  -- the operation, if its root type exists
  abbrev pub based_operation : Meanings → P → OperationTree P → List (Based P (OperationTree P))
  based_operation m p o = option_to_list (option_map (λ t. record { place = p; base = t; it = o }) (m.root o.operation_type))

  -- the fragment, if the type of its condition exists
  abbrev pub based_fragment : Meanings → P → FragmentTree P → List (Based P (FragmentTree P))
  based_fragment m p f = if m.has_type f.type_condition.it then record { place = p; base = f.type_condition.it; it = f } ∷ [] else []

  -- the definition, if it is an operation without a name, an operation with a name, or a fragment, and its root or type condition exists
  abbrev pub anonymous_here : Meanings → DefinitionTree P → List (Based P (OperationTree P))
  anonymous_here m (Operation p o) = if is_none o.name then based_operation m p o else []
  anonymous_here m _ = []

  abbrev pub named_here : Meanings → DefinitionTree P → List (Based P (OperationTree P))
  named_here m (Operation p o) = if is_none o.name then [] else based_operation m p o
  named_here m _ = []

  abbrev pub fragment_here : Meanings → DefinitionTree P → List (Based P (FragmentTree P))
  fragment_here m (Fragment p f) = based_fragment m p f
  fragment_here m _ = []

  abbrev pub text_or_empty : Option (Text P) → List ℕ
  text_or_empty None = []
  text_or_empty (Some n) = n.it

  abbrev pub operation_name : Based P (OperationTree P) → List ℕ
  operation_name o = text_or_empty o.it.name

  abbrev pub fragment_name : Based P (FragmentTree P) → List ℕ
  fragment_name f = f.it.name.it

  -- ---- what is kept of a list of definitions: of those with a root or condition that exists, the first without a name, and the first of each name

  abbrev pub kept_anonymous : Meanings → List (DefinitionTree P) → Option (Based P (OperationTree P))
  kept_anonymous m ds = slice_get (flat_map (anonymous_here m) ds) 0

  abbrev pub kept_named : Meanings → List (DefinitionTree P) → List (Based P (OperationTree P))
  kept_named m ds = firsts operation_name (flat_map (named_here m) ds)

  abbrev pub kept_operations : Meanings → List (DefinitionTree P) → List (Based P (OperationTree P))
  kept_operations m ds = option_to_list (kept_anonymous m ds) ++ kept_named m ds

  abbrev pub kept_fragments : Meanings → List (DefinitionTree P) → List (Based P (FragmentTree P))
  kept_fragments m ds = firsts fragment_name (flat_map (fragment_here m) ds)

  -- ---- the meaning of what is kept

  abbrev pub meant_operation_with : P → OperationTree P → MeantSet P → MeantOperation P
  meant_operation_with p o set = record {
    place = p;
    operation_type = o.operation_type;
    name = o.name;
    variables = o.variables;
    directives = o.directives;
    set = set;
  }

  abbrev pub meant_fragment_with : P → FragmentTree P → Text P → MeantSet P → MeantFragment P
  meant_fragment_with p f condition set = record {
    place = p;
    name = f.name;
    type_condition = condition;
    directives = f.directives;
    set = set;
  }

  abbrev pub meant_operation : Meanings → Based P (OperationTree P) → MeantOperation P
  meant_operation m o = meant_operation_with o.place o.it (set_on o.base (kept_all m o.it.selections o.base))

  abbrev pub meant_fragment : Meanings → Based P (FragmentTree P) → MeantFragment P
  meant_fragment m f = meant_fragment_with f.place f.it f.it.type_condition (set_on f.base (kept_all m f.it.selections f.base))

  abbrev pub named_entry : Meanings → Based P (OperationTree P) → List ℕ × MeantOperation P
  named_entry m o = (operation_name o, meant_operation m o)

  abbrev pub fragment_entry : Meanings → Based P (FragmentTree P) → List ℕ × MeantFragment P
  fragment_entry m f = (fragment_name f, meant_fragment m f)

  -- the kept document
  abbrev pub kept_document : Meanings → List (DefinitionTree P) → MeantDocument P
  kept_document m ds = record {
    anonymous = option_map (meant_operation m) (kept_anonymous m ds);
    named = map (named_entry m) (kept_named m ds);
    fragments = map (fragment_entry m) (kept_fragments m ds);
  }
