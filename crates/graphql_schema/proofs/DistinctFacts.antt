-- Names of maps and sets differ.
use Rattle.std.proofs.Common.{◌≡◌, ℕ, ◌<◌, ◌⊎◌, Bool, false, List, [], ◌∷◌, ◌++◌, get_or, map, length, zero, suc, arith, refl, sym, ap, subst, ◌∙◌, Contains, inl, inr}
use Rattle.std.specs.List.{IsDistinct, AllByRecursion}
use Rattle.std.specs.Map.{keys_of}
use Rattle.std.specs.Str.{bytes_eq}
use Rattle.std.proofs.lemmas.List.{map-append}
use Rattle.std.proofs.lemmas.List.Elements.{Contains-append_cases, Contains-append_right}
use Rattle.graphql_names.specs.NameValue.{NameValue}
use Rattle.schema_components.specs.Names.{Entries, same_text}
use Rattle.schema_components.specs.Given.{component_tree, component_name_tree, given_name}
use Rattle.schema_components.specs.declared.component_name.ComponentName.{ComponentName}
use Rattle.schema_components.proofs.ComponentEquality.{component_text}
use Rattle.graphql_names.specs.Placed.{Placed, Place, node_tree}
use Rattle.graphql_names.specs.declared.node.Node.{Node}
use Rattle.tree_directives.specs.declared.directive.DirectiveDefinition.{DirectiveDefinition}
use Rattle.schema_building.specs.in_schema_types.SchemaTree.{SchemaType, SchemaTree}
use Rattle.schema_building.specs.in_schema_types.declared.extended_type.ExtendedType.{ExtendedType}
use Rattle.tree_directives.specs.DirectiveTree.{DirectiveDefinitionTree, input_value_tree, directive_definition_tree}
use Rattle.tree_type_members.specs.TypeSystemTree.{field_definition_tree, enum_value_tree}
use Rattle.schema_building.specs.in_schema_types.TypeView.{name_text, extended_type, scalar_type, object_type, interface_type, union_type, enum_type, input_object_type}
use Rattle.schema_building.specs.in_schema_types.declared.kinds.ScalarType.{ScalarType}
use Rattle.schema_building.specs.in_schema_types.declared.kinds.ObjectType.{ObjectType}
use Rattle.schema_building.specs.in_schema_types.declared.kinds.InterfaceType.{InterfaceType}
use Rattle.schema_building.specs.in_schema_types.declared.kinds.UnionType.{UnionType}
use Rattle.schema_building.specs.in_schema_types.declared.kinds.EnumType.{EnumType}
use Rattle.schema_building.specs.in_schema_types.declared.kinds.InputObjectType.{InputObjectType}
use Rattle.schema_building.specs.in_schema_types.Distinct.{ArePartsDistinct, AreAllDistinct}

module _ {X : Type 0} where
  not_in_nil : {R : Type 0} (y : X) → Contains [] y → R
  not_in_nil y h = absurd (omega (arith, h.1))

  Contains-cons : (x : X) (xs : List X) (y : X) → Contains (x ∷ xs) y → (x ≡ y) ⊎ Contains xs y
  Contains-cons x xs y (k, h, e) = by k h e
    where
      by : (k : ℕ) → k < length (x ∷ xs) → get_or (x ∷ xs) k y ≡ y → (x ≡ y) ⊎ Contains xs y
      by zero h e = inl e
      by (suc k) h e = inr (k, omega arith, e)

  Contains-first : (x : X) (xs : List X) (y : X) → x ≡ y → Contains (x ∷ xs) y
  Contains-first x xs y e = (0, omega arith, e)

  only : (x y : X) → Contains (x ∷ []) y → y ≡ x
  only x y h = elim (Contains-cons x [] y h) [ inl e ↦ sym e | inr r ↦ not_in_nil y r ]

-- things that differ have different names, where the name is what is compared
module _ {X : Type 0} (eq : X → X → Bool) (name : X → List ℕ) (compares : (a b : X) → eq a b ≡ bytes_eq (name a) (name b)) where
  all_differ : (x : X) (xs : List X) → AllByRecursion (λ y. eq x y ≡ false) xs → AllByRecursion (λ n. bytes_eq (name x) n ≡ false) (map name xs)
  all_differ x [] h = h
  all_differ x (y ∷ xs) h = (sym (compares x y) ∙ h.0, all_differ x xs h.1)

  pub distinct_names : (xs : List X) → IsDistinct eq xs → IsDistinct bytes_eq (map name xs)
  unfolding IsDistinct
  distinct_names [] h = h
  distinct_names (x ∷ xs) h = (all_differ x xs h.0, distinct_names xs h.1)

-- the keys of entries
keys_named : {V A : Type 0} (f : V → A) (es : List (NameValue × V)) → keys_of (map (λ e. (name_text e.0, f e.1)) es) ≡ map name_text (keys_of es)
keys_named f [] = refl
keys_named f (e ∷ es) = ap (λ l. name_text e.0 ∷ l) (keys_named f es)

pub distinct_entries : {V A : Type 0} (f : V → A) (es : List (NameValue × V)) → IsDistinct (same_text name_text) (keys_of es) → IsDistinct bytes_eq (keys_of (map (λ e. (name_text e.0, f e.1)) es))
distinct_entries f es h = subst (IsDistinct bytes_eq) (sym (keys_named f es)) (distinct_names (same_text name_text) name_text (λ a b. refl) (keys_of es) h)

names_listed : (ks : List ComponentName) → map given_name (map component_name_tree ks) ≡ map component_text ks
names_listed [] = refl
names_listed (k ∷ ks) = ap (λ l. component_text k ∷ l) (names_listed ks)

pub distinct_listed : (ks : List ComponentName) → IsDistinct (λ a b. bytes_eq a.name.text b.name.text) ks → IsDistinct bytes_eq (map given_name (map component_name_tree ks))
distinct_listed ks h = subst (IsDistinct bytes_eq) (sym (names_listed ks)) (distinct_names (λ a b. bytes_eq a.name.text b.name.text) component_text (λ a b. refl) ks h)

-- an empty list has no repeat
pub nothing_twice : {X : Type 0} (eq : X → X → Bool) → IsDistinct eq []
unfolding IsDistinct
nothing_twice eq = tt

-- the parts of a type of each kind, where the maps and sets that it has repeat no name
pub scalar_parts : (p : Place) (t : ScalarType) → ArePartsDistinct (scalar_type p t)
scalar_parts p t = record { fields = nothing_twice bytes_eq; inputs = nothing_twice bytes_eq; values = nothing_twice bytes_eq; members = nothing_twice bytes_eq; interfaces = nothing_twice bytes_eq }

pub object_parts : (p : Place) (t : ObjectType) → IsDistinct (same_text name_text) (keys_of t.fields.entries) → IsDistinct (λ a b. bytes_eq a.name.text b.name.text) t.implements_interfaces.keys → ArePartsDistinct (object_type p t)
object_parts p t h k = record {
  fields = distinct_entries (component_tree field_definition_tree) t.fields.entries h;
  inputs = nothing_twice bytes_eq;
  values = nothing_twice bytes_eq;
  members = nothing_twice bytes_eq;
  interfaces = distinct_listed t.implements_interfaces.keys k;
}

pub interface_parts : (p : Place) (t : InterfaceType) → IsDistinct (same_text name_text) (keys_of t.fields.entries) → IsDistinct (λ a b. bytes_eq a.name.text b.name.text) t.implements_interfaces.keys → ArePartsDistinct (interface_type p t)
interface_parts p t h k = record {
  fields = distinct_entries (component_tree field_definition_tree) t.fields.entries h;
  inputs = nothing_twice bytes_eq;
  values = nothing_twice bytes_eq;
  members = nothing_twice bytes_eq;
  interfaces = distinct_listed t.implements_interfaces.keys k;
}

pub union_parts : (p : Place) (t : UnionType) → IsDistinct (λ a b. bytes_eq a.name.text b.name.text) t.members.keys → ArePartsDistinct (union_type p t)
union_parts p t h = record { fields = nothing_twice bytes_eq; inputs = nothing_twice bytes_eq; values = nothing_twice bytes_eq; members = distinct_listed t.members.keys h; interfaces = nothing_twice bytes_eq }

pub enum_parts : (p : Place) (t : EnumType) → IsDistinct (same_text name_text) (keys_of t.values.entries) → ArePartsDistinct (enum_type p t)
enum_parts p t h = record { fields = nothing_twice bytes_eq; inputs = nothing_twice bytes_eq; values = distinct_entries (component_tree enum_value_tree) t.values.entries h; members = nothing_twice bytes_eq; interfaces = nothing_twice bytes_eq }

pub input_parts : (p : Place) (t : InputObjectType) → IsDistinct (same_text name_text) (keys_of t.fields.entries) → ArePartsDistinct (input_object_type p t)
input_parts p t h = record { fields = nothing_twice bytes_eq; inputs = distinct_entries (component_tree input_value_tree) t.fields.entries h; values = nothing_twice bytes_eq; members = nothing_twice bytes_eq; interfaces = nothing_twice bytes_eq }

-- one more, which passes
pub each_push : {A B : Type 0} (f : A → B) (P : B → Type 0) (xs : List A) (x : A) → ((e : B) → Contains (map f xs) e → P e) → P (f x)
    → (e : B) → Contains (map f (xs ++ x ∷ [])) e → P e
each_push f P xs x all p e h =
    elim (Contains-append_cases (map f xs) (f x ∷ []) e (subst (λ l. Contains l e) (map-append f xs (x ∷ [])) h)) [
      | inl r ↦ all e r
      | inr r ↦ subst P (sym (only (f x) e r)) p
    ]

-- what holds of each of these holds of what they are mapped to
pub each_mapped : {A B : Type 0} (f : A → B) (P : B → Type 0) (xs : List A) → ((x : A) → Contains xs x → P (f x)) → (e : B) → Contains (map f xs) e → P e
each_mapped f P [] all e h = not_in_nil e h
each_mapped f P (x ∷ xs) all e h = elim (Contains-cons (f x) (map f xs) e h) [
  | inl c ↦ subst P c (all x (Contains-first x xs x refl))
  | inr r ↦ each_mapped f P xs (λ y c. all y (Contains-append_right (x ∷ []) xs y c)) e r
]

-- a schema with these types and directive definitions
pub all_distinct : (s : SchemaTree Place) (types : List (NameValue × ExtendedType)) (directives : List (NameValue × Node DirectiveDefinition))
    → s.types ≡ map (λ e. (name_text e.0, extended_type e.1)) types → s.directives ≡ map (λ e. (name_text e.0, node_tree directive_definition_tree e.1)) directives
    → IsDistinct (same_text name_text) (keys_of types) → IsDistinct (same_text name_text) (keys_of directives) → ((e : NameValue × ExtendedType) → Contains types e → ArePartsDistinct (extended_type e.1)) → AreAllDistinct s
all_distinct s types directives are are' h k parts = record {
  types = subst (λ (es : Entries (SchemaType Place)). IsDistinct bytes_eq (keys_of es)) (sym are) (distinct_entries extended_type types h);
  directives = subst (λ (es : Entries (Placed Place (DirectiveDefinitionTree Place))). IsDistinct bytes_eq (keys_of es)) (sym are') (distinct_entries (node_tree directive_definition_tree) directives k);
  parts = subst (λ (es : Entries (SchemaType Place)). (e : List ℕ × SchemaType Place) → Contains es e → ArePartsDistinct e.1) (sym are)
      (each_mapped (λ (e : NameValue × ExtendedType). (name_text e.0, extended_type e.1)) (λ (e : List ℕ × SchemaType Place). ArePartsDistinct e.1) types parts);
}
