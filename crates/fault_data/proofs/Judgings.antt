-- What rules read of a schema, and where it is.
use Rattle.std.proofs.Common.{◌≡◌, ℕ, List, map, refl, sym, ap, ◌∙◌, Option, None, Some}
use Rattle.std.specs.List.{list_any, find}
use Rattle.std.specs.Option.{option_map}
use Rattle.std.specs.Str.{bytes_eq}
use Rattle.std.specs.FinSet as set
use Rattle.std.specs.Cmp.Lexicographic.{nat_list_cmp_total, texts_ties}
use Rattle.graphql_names.specs.Placed.{Placed, Place, Text}
use Rattle.tree_literals.specs.TypeTree.{TypeTree, NamedTree, NonNullNamedTree, ListTree, NonNullListTree, unplaced_type}
use Rattle.tree_literals.specs.TypeQueries.{inner_name}
use Rattle.tree_directives.specs.DirectiveTree.{InputValueTree, unplaced_input_value}
use Rattle.document_typed_selections.specs.in_type_members.TypeSystemTree.{FieldDefinitionTree, EnumValueTree, unplaced_field_definition, unplaced_enum_value}
use Rattle.rule_definitions.specs.in_components.Lists.{is_among}
use Rattle.rule_definitions.specs.in_components.Names.{names}
use Rattle.rule_definitions.specs.in_components.Given.{Given, given_name, plain_given}
use Rattle.rule_definitions.specs.in_schema_types.SchemaTree.{SchemaType, SchemaTree}
use Rattle.rule_definitions.specs.in_schema_types.Plain.{plain_type, plain_directive_definition}
use Rattle.rule_definitions.specs.in_schema_types.Looks.{TypeLooks, type_looks}
use Rattle.rule_definitions.specs.in_schema_types.Addresses.{under, or_nothing, inner_name_place, field_at, value_at, input_at, listed}
use Rattle.rule_definitions.proofs.in_schema_types.UnderNames.{get_under}
use Rattle.rule_definitions.specs.Judged.{judged}
use Rattle.rule_definitions.specs.Names.{named_in}

map_twice : {X Y Z : Type 0} (f : X → Y) (g : Y → Z) (o : Option X) → option_map g (option_map f o) ≡ option_map (λ x. g (f x)) o
map_twice f g None = refl
map_twice f g (Some x) = refl

-- a type without places, by name
abbrev pub type_seen : SchemaType Place → TypeLooks
type_seen t = type_looks (plain_type t)

pub type_look : (s : SchemaTree Place) (n : List ℕ) → (judged s).type_named n ≡ option_map type_seen (under n s.types)
type_look s n = ap (option_map type_looks) (get_under plain_type n s.types) ∙ map_twice plain_type type_looks (under n s.types)

pub directive_look : (s : SchemaTree Place) (n : List ℕ) → (judged s).directive n ≡ option_map plain_directive_definition (under n s.directives)
directive_look s n = get_under plain_directive_definition n s.directives

-- what a type has
module _ (t : SchemaType Place) (n : List ℕ) where
  pub field_look : (type_seen t).field n ≡ option_map (plain_given unplaced_field_definition) (under n t.fields)
  field_look = get_under (plain_given unplaced_field_definition) n t.fields

  pub value_look : (type_seen t).value n ≡ option_map (plain_given unplaced_enum_value) (under n t.values)
  value_look = get_under (plain_given unplaced_enum_value) n t.values

  pub input_look : (type_seen t).input n ≡ option_map (plain_given unplaced_input_value) (under n t.inputs)
  input_look = get_under (plain_given unplaced_input_value) n t.inputs

  names_look : (gs : List (Given Place (Text Place))) → set.contains (names given_name gs) n ≡ is_among n (map given_name gs)
  names_look gs = set.contains-from_list nat_list_cmp_total (map given_name gs) n ∙ (λ i. list_any (λ m. sym (texts_ties n m) i) (map given_name gs))

  pub member_look : (type_seen t).has_member n ≡ is_among n (map given_name t.members)
  member_look = names_look t.members

  pub interface_look : (type_seen t).implements n ≡ is_among n (map given_name t.interfaces)
  interface_look = names_look t.interfaces

-- the name inside a reference
pub named_unplaced : (ty : TypeTree Place) → named_in (unplaced_type ty) ≡ (inner_name ty).it
named_unplaced (NamedTree n) = refl
named_unplaced (NonNullNamedTree n) = refl
named_unplaced (ListTree t) = named_unplaced t
named_unplaced (NonNullListTree t) = named_unplaced t

pub inner_place : (ty : TypeTree Place) → inner_name_place ty ≡ (inner_name ty).place
inner_place (NamedTree n) = refl
inner_place (NonNullNamedTree n) = refl
inner_place (ListTree t) = inner_place t
inner_place (NonNullListTree t) = inner_place t

-- what is under names, once it is found
module _ (s : SchemaTree Place) (n : List ℕ) (t : SchemaType Place) (there : under n s.types ≡ Some t) where
  module _ (m : List ℕ) where
    pub field_there : (g : Given Place (Placed Place (FieldDefinitionTree Place))) → under m t.fields ≡ Some g → field_at s n m ≡ Some g.it
    field_there g has =
        ap (λ o. or_nothing (option_map (λ (x : SchemaType Place). option_map (λ (y : Given Place (Placed Place (FieldDefinitionTree Place))). y.it) (under m x.fields)) o)) there
        ∙ ap (option_map (λ (y : Given Place (Placed Place (FieldDefinitionTree Place))). y.it)) has

    pub value_there : (g : Given Place (Placed Place (EnumValueTree Place))) → under m t.values ≡ Some g → value_at s n m ≡ Some g.it
    value_there g has =
        ap (λ o. or_nothing (option_map (λ (x : SchemaType Place). option_map (λ (y : Given Place (Placed Place (EnumValueTree Place))). y.it) (under m x.values)) o)) there
        ∙ ap (option_map (λ (y : Given Place (Placed Place (EnumValueTree Place))). y.it)) has

    pub input_there : (g : Given Place (Placed Place (InputValueTree Place))) → under m t.inputs ≡ Some g → input_at s n m ≡ Some g.it
    input_there g has =
        ap (λ o. or_nothing (option_map (λ (x : SchemaType Place). option_map (λ (y : Given Place (Placed Place (InputValueTree Place))). y.it) (under m x.inputs)) o)) there
        ∙ ap (option_map (λ (y : Given Place (Placed Place (InputValueTree Place))). y.it)) has

    pub listed_there : (of : SchemaType Place → List (Given Place (Text Place))) (g : Given Place (Text Place)) → find (λ y. bytes_eq m (given_name y)) (of t) ≡ Some g → listed s of n m ≡ Some g.it
    listed_there of g has =
        ap (λ o. or_nothing (option_map (λ (x : SchemaType Place). option_map (λ (y : Given Place (Text Place)). y.it) (find (λ y. bytes_eq m (given_name y)) (of x))) o)) there
        ∙ ap (option_map (λ (y : Given Place (Text Place)). y.it)) has
