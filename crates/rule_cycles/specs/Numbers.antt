-- Private: leads to `CyclesBreak`. Types and directive definitions by number, which is their index in the schema, and what they refer to by number.
use Rattle.std.specs.Prelude.{ℕ, Bool, false, List, [], ◌∷◌, Option, None, Some, slice_get, position, flat_map, bytes_eq, if◌then◌else◌}
use Rattle.std.specs.Option.{option_map_or}
use Rattle.std.specs.Map.{keys_of}
use Rattle.graphql_names.specs.Placed.{Placed, Place}
use Rattle.tree_literals.specs.TypeTree.{TypeTree, NamedTree, NonNullNamedTree, ListTree, NonNullListTree}
use Rattle.tree_directives.specs.DirectiveTree.{InputValueTree}
use Rattle.schema_components.specs.Names.{Entries}
use Rattle.schema_types.specs.SchemaTree.{SchemaType, same_kind}
use Rattle.schema_types.specs.declared.type_kind.TypeKind.TheVariants as kind
use Rattle.rule_cycles.specs.Labels.{Labelled}

-- the index of the first entry with the name
abbrev pub number_of : {V : Type 0} → List ℕ → Entries V → Option ℕ
number_of n es = position (bytes_eq n) (keys_of es)

-- f of the entry of that number
abbrev pub at_number : {K V Y : Type 0} → (V → List Y) → List (K × V) → ℕ → List Y
at_number f es i = option_map_or (λ e. f e.1) (slice_get es i) []

-- f of each entry, in order
abbrev pub each_value : {K V Y : Type 0} → (V → List Y) → List (K × V) → List Y
each_value {K} {V} f es = flat_map (λ (e : K × V). f e.1) es

abbrev pub Field : Type 0
Field = Placed Place (InputValueTree Place)

module _ (es : Entries (SchemaType Place)) where
  abbrev pub is_input_object_at : ℕ → Bool
  is_input_object_at i = option_map_or (λ e. same_kind e.1.kind kind.InputObject) (slice_get es i) false

  abbrev pub input_if : Option ℕ → Option ℕ
  input_if None = None
  input_if (Some i) = if is_input_object_at i then Some i else None

  abbrev pub input_object_number : List ℕ → Option ℕ
  input_object_number n = input_if (number_of n es)

  -- the number of the input object that a field of this type must hold: `Name!`
  abbrev pub required_input : TypeTree Place → Option ℕ
  required_input (NamedTree n) = None
  required_input (NonNullNamedTree n) = input_object_number n.it
  required_input (ListTree t) = None
  required_input (NonNullListTree t) = None

  abbrev pub referred : Option ℕ → Field → Labelled Field
  referred None v = []
  referred (Some i) v = (i, v) ∷ []

  abbrev pub field_references : Field → Labelled Field
  field_references v = referred (required_input v.it.ty.it) v

  abbrev pub input_references : SchemaType Place → Labelled Field
  input_references t = if same_kind t.kind kind.InputObject then each_value (λ g. field_references g.it) t.inputs else []
