-- Where the definition of a field stands, and its arguments: in the schema, or where meta-fields do.
use Rattle.std.proofs.Common.{◌≡◌, ◌∙◌, ℕ, zero, suc, Bool, true, false, List, [], ◌∷◌, refl, ap, sym, subst, Option, None, Some, slice_get, true≢false, is_some, if◌then◌else◌}
use Rattle.std.specs.Prelude.{is_none, find, cond, option_and_then, ◌&&◌}
use Rattle.std.specs.List.{AllByRecursion}
use Rattle.std.specs.Option.{option_map, option_map_or, option_or}
use Rattle.std.specs.Str.{bytes_eq}
use Rattle.graphql_names.specs.Placed.{Placed, Place}
use Rattle.tree_directives.specs.DirectiveTree.{InputValueTree}
use Rattle.tree_type_members.specs.TypeSystemTree.{FieldDefinitionTree}
use Rattle.schema_components.specs.Given.{Given}
use Rattle.schema_types.specs.BuiltIn.{built_in}
use Rattle.schema_types.specs.SchemaTree.{SchemaType, SchemaTree}
use Rattle.schema_types.specs.Addresses.{FieldAt, ArgumentAt, TypeReferenceAt, under, place_of, or_nothing, type_at, field_at}
use Rattle.graphql_schema.specs.in_built_in.MetaFields.{typename_field, schema_field, type_field, meta_fields, meta_field_of}
use Rattle.graphql_schema.specs.MetaField.{by_definition}
use Rattle.graphql_schema.specs.LookUps.{is_composite_kind, is_query_root, explicit_field, meta_field, meta_field_on, field_named}
use Rattle.rule_document_definitions.specs.PlacedDocumentFaults.{place_or_built_in}

abbrev Defined : Type 0
Defined = Placed Place (FieldDefinitionTree Place)

pub some_is : {A : Type 0} (a b : A) → Some a ≡ Some b → a ≡ b
some_is a b h = ap (λ o. option_map_or (λ x. x) o a) h

none_is : {A B : Type 0} (a : A) → None ≡ Some a → B
none_is a h = absurd (true≢false (sym (ap is_some h)))

-- it and its arguments stand where all that is built in does
record IsBuiltIn (x : Defined) : Type 0 where
  place : x.place ≡ built_in
  arguments : (i : ℕ) (v : Placed Place (InputValueTree Place)) → slice_get x.it.arguments i ≡ Some v → (v.place ≡ built_in) × (v.it.ty.place ≡ built_in)

without_arguments : (x : Defined) → x.place ≡ built_in → x.it.arguments ≡ [] → IsBuiltIn x
without_arguments x at none = record { place = at; arguments = λ i v is. none_is v (sym (ap (λ l. slice_get l i) none) ∙ is) }

type_argument : (i : ℕ) (v : Placed Place (InputValueTree Place)) → slice_get type_field.it.arguments i ≡ Some v → (v.place ≡ built_in) × (v.it.ty.place ≡ built_in)
type_argument zero v is = (ap (λ o. or_nothing (option_map (λ x. x.place) o)) (sym is), ap (λ o. or_nothing (option_map (λ x. x.it.ty.place) o)) (sym is))
type_argument (suc i) v is = none_is v is

typename_there : IsBuiltIn typename_field
typename_there = without_arguments typename_field refl refl

schema_there : IsBuiltIn schema_field
schema_there = without_arguments schema_field refl refl

type_there : IsBuiltIn type_field
type_there = record { place = refl; arguments = type_argument }

-- what is found among things of which that holds
found_built_in : (test : Defined → Bool) (fs : List Defined) (x : Defined) → AllByRecursion IsBuiltIn fs → find test fs ≡ Some x → IsBuiltIn x
found_built_in test [] x all h = none_is x h
found_built_in test (y ∷ ys) x all h = by (test y) refl (found_built_in test ys x all.1)
  where
    by : (b : Bool) → test y ≡ b → (find test ys ≡ Some x → IsBuiltIn x) → IsBuiltIn x
    by true is rest = subst IsBuiltIn (some_is y x (sym (ap (λ b. cond b (Some y) (find test ys)) is) ∙ h)) all.0
    by false is rest = rest (sym (ap (λ b. cond b (Some y) (find test ys)) is) ∙ h)

all_built_in : (a b : Bool) → AllByRecursion IsBuiltIn (meta_fields a b)
all_built_in true true = (typename_there, (schema_there, (type_there, tt)))
all_built_in true false = (typename_there, tt)
all_built_in false true = (schema_there, (type_there, tt))
all_built_in false false = tt

meta_built_in : (a b : Bool) (n : List ℕ) (x : Defined) → meta_field_of a b n ≡ Some x → IsBuiltIn x
meta_built_in a b n x h = found_built_in (λ f. bytes_eq n f.it.name.it) (meta_fields a b) x (all_built_in a b) h

-- where it and its arguments stand
pub record Stands (s : SchemaTree Place) (n m : List ℕ) (x : Defined) : Type 0 where
  pub place : place_or_built_in s (FieldAt n m) ≡ x.place
  pub arguments : (i : ℕ) (v : Placed Place (InputValueTree Place)) → slice_get x.it.arguments i ≡ Some v
      → (place_or_built_in s (ArgumentAt (FieldAt n m) i) ≡ v.place) × (place_or_built_in s (TypeReferenceAt (ArgumentAt (FieldAt n m) i)) ≡ v.it.ty.place)

module _ (s : SchemaTree Place) (n m : List ℕ) where
  -- the fields of a schema by their addresses
  explicit_at : field_at s n m ≡ option_map (λ g. g.it) (explicit_field s n m)
  explicit_at = by (type_at s n)
    where
      by : (o : Option (SchemaType Place)) → or_nothing (option_map (λ (t : SchemaType Place). option_map (λ (g : Given Place Defined). g.it) (under m t.fields)) o) ≡ option_map (λ (g : Given Place Defined). g.it) (option_and_then (λ (t : SchemaType Place). under m t.fields) o)
      by None = refl
      by (Some t) = refl

  stands_there : (x : Defined) → field_at s n m ≡ Some x → Stands s n m x
  stands_there x is = record {
    place = ap (λ (o : Option Defined). if is_none o then built_in else place_of o) is;
    arguments = λ i v at. (
      ap (λ (o : Option Defined). if is_none o then built_in else place_of (slice_get (option_map_or (λ f. f.it.arguments) o []) i)) is ∙ ap place_of at,
      ap (λ (o : Option Defined). if is_none o then built_in else or_nothing (option_map (λ v. v.it.ty.place) (slice_get (option_map_or (λ f. f.it.arguments) o []) i))) is ∙ ap (λ (o : Option (Placed Place (InputValueTree Place))). or_nothing (option_map (λ v. v.it.ty.place) o)) at,
    );
  }

  stands_nowhere : (x : Defined) → field_at s n m ≡ None → IsBuiltIn x → Stands s n m x
  stands_nowhere x is built = record {
    place = ap (λ (o : Option Defined). if is_none o then built_in else place_of o) is ∙ sym built.place;
    arguments = λ i v at. (
      ap (λ (o : Option Defined). if is_none o then built_in else place_of (slice_get (option_map_or (λ f. f.it.arguments) o []) i)) is ∙ sym (built.arguments i v at).0,
      ap (λ (o : Option Defined). if is_none o then built_in else or_nothing (option_map (λ v. v.it.ty.place) (slice_get (option_map_or (λ f. f.it.arguments) o []) i))) is ∙ sym (built.arguments i v at).1,
    );
  }

  meta_found : (g : Given Place Defined) (o : Option (SchemaType Place)) → option_and_then (λ t. meta_field_on s n t m) o ≡ Some g → IsBuiltIn g.it
  meta_found g None h = none_is g h
  meta_found g (Some t) h = by (meta_field_of (is_composite_kind t.kind) (is_composite_kind t.kind && is_query_root s n) m) refl h
    where
      by : (o : Option Defined) → meta_field_of (is_composite_kind t.kind) (is_composite_kind t.kind && is_query_root s n) m ≡ o → option_map by_definition o ≡ Some g → IsBuiltIn g.it
      by None is h = none_is g h
      by (Some x) is h = subst (λ (f : Given Place Defined). IsBuiltIn f.it) (some_is (by_definition x) g h) (meta_built_in (is_composite_kind t.kind) (is_composite_kind t.kind && is_query_root s n) m x is)

  -- what the lookup finds
  pub stands : (g : Given Place Defined) → field_named s n m ≡ Some g → Stands s n m g.it
  stands g h = by (explicit_field s n m) refl h
    where
      by : (o : Option (Given Place Defined)) → explicit_field s n m ≡ o → option_or o (meta_field s n m) ≡ Some g → Stands s n m g.it
      by None is h = stands_nowhere g.it (explicit_at ∙ ap (option_map (λ g. g.it)) is) (meta_found g (type_at s n) h)
      by (Some f) is h = stands_there g.it (explicit_at ∙ ap (option_map (λ g. g.it)) (is ∙ h))
