-- The fields that lookups find, without places and order.
use Rattle.std.proofs.Common.{◌≡◌, ℕ, Bool, true, false, ◌&&◌, cond, if◌then◌else◌, List, [], ◌∷◌, map, Option, None, Some, refl, sym, ap, ◌∙◌}
use Rattle.std.specs.Prelude.{option_and_then}
use Rattle.std.specs.List.{find}
use Rattle.std.specs.Option.{option_map, option_map_or, option_or}
use Rattle.std.specs.Str.{bytes_eq}
use Rattle.std.specs.Cmp.Lexicographic.{nat_list_cmp_total, texts_ties}
use Rattle.std.specs.FinMap as fin
use Rattle.graphql_names.specs.Placed.{Placed, Place, Text}
use Rattle.tree_type_members.specs.TypeSystemTree.{FieldDefinitionTree, unplaced_field_definition}
use Rattle.schema_building.specs.in_built_in.MetaFields.{meta_field_of}
use Rattle.schema_building.specs.in_schema_types.SchemaTree.{SchemaType, SchemaTree}
use Rattle.schema_building.specs.in_schema_types.Addresses.{under}
use Rattle.schema_building.proofs.in_schema_types.UnderNames.{get_under}
use Rattle.schema_building.specs.in_schema_types.Plain.{plain, plain_type}
use Rattle.schema_building.specs.in_schema_types.Looks.{looks, type_looks}
use Rattle.schema_components.specs.Names.{named}
use Rattle.schema_components.specs.Given.{Given, given_name, plain_given}
use Rattle.graphql_schema.specs.MetaField.{by_definition}
use Rattle.graphql_schema.specs.LookUps.{is_composite_kind, meta_field_on}
use Rattle.graphql_schema.specs.LookUps as look_up
use Rattle.graphql_schema.specs.FieldLooks.{field_on, FieldsArePlain}

map_or : {A B : Type 0} (f : A → B) (a b : Option A) → option_map f (option_or a b) ≡ option_or (option_map f a) (option_map f b)
map_or f None b = refl
map_or f (Some x) b = refl

abbrev field_plain : Given Place (Placed Place (FieldDefinitionTree Place)) → FieldDefinitionTree (Unit {0})
field_plain = plain_given unplaced_field_definition

meta_plain : (o : Option (Placed Place (FieldDefinitionTree Place))) → option_map field_plain (option_map by_definition o) ≡ option_map (λ (f : Placed Place (FieldDefinitionTree Place)). unplaced_field_definition f.it) o
meta_plain None = refl
meta_plain (Some f) = refl

root_plain : (n : List ℕ) (q : Option (Given Place (Text Place)))
    → option_map_or (λ (root : Text Place). bytes_eq n root.it) (option_map (λ (g : Given Place (Text Place)). g.it) q) false
    ≡ option_map_or (λ (root : List ℕ). bytes_eq n root) (option_map given_name q) false
root_plain n None = refl
root_plain n (Some g) = refl

module _ (s : SchemaTree Place) (n m : List ℕ) where
  of_type : (t : SchemaType Place) → option_map field_plain (look_up.field_on s n t m) ≡ field_on (looks (plain s)) n (type_looks (plain_type t)) m
  of_type t =
      map_or field_plain (under m t.fields) (meta_field_on s n t m)
      ∙ ap (λ o. option_or o (option_map field_plain (meta_field_on s n t m))) (sym (get_under field_plain m t.fields))
      ∙ ap (option_or (fin.get (named field_plain t.fields) m)) (
      meta_plain (meta_field_of (is_composite_kind t.kind) (is_composite_kind t.kind && look_up.is_query_root s n) m)
      ∙ ap (λ b. option_map (λ (f : Placed Place (FieldDefinitionTree Place)). unplaced_field_definition f.it) (meta_field_of (is_composite_kind t.kind) (is_composite_kind t.kind && b) m)) (root_plain n s.definition.query))

  of_found : (o : Option (SchemaType Place))
      → option_map field_plain (option_or (option_and_then (λ (t : SchemaType Place). under m t.fields) o) (option_and_then (λ t. meta_field_on s n t m) o))
      ≡ option_and_then (λ t. field_on (looks (plain s)) n t m) (option_map type_looks (option_map plain_type o))
  of_found None = refl
  of_found (Some t) = of_type t

pub fields_plain : (s : SchemaTree Place) → FieldsArePlain s
fields_plain s n m =
    of_found s n m (under n s.types)
    ∙ ap (λ o. option_and_then (λ t. field_on (looks (plain s)) n t m) (option_map type_looks o)) (sym (get_under plain_type n s.types))
