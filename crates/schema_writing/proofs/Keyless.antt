-- What is written of a type, and what is written of its contents without the keys of its maps, are the same.
use Rattle.std.proofs.Common.{◌≡◌, ℕ, Bool, true, false, cond, List, [], ◌∷◌, ◌++◌, map, filter, Option, None, Some, refl, sym, ap, ◌∙◌, option_to_list, if◌then◌else◌}
use Rattle.std.proofs.lemmas.List.{append_assoc}
use Rattle.graphql_names.specs.Node.{content}
use Rattle.graphql_names.specs.NameValue.{NameValue}
use Rattle.graphql_names.specs.Places.{is_built_in}
use Rattle.graphql_names.specs.Placed.{Place}
use Rattle.tree_directives.specs.DirectiveTree.{input_value_tree}
use Rattle.tree_type_members.specs.TypeSystemTree.{field_definition_tree, enum_value_tree}
use Rattle.schema_components.specs.Names.{Entries}
use Rattle.schema_components.specs.Given.{Given, ExtensionTree, component_tree}
use Rattle.schema_components.specs.declared.component.Component.{Component}
use Rattle.schema_types.specs.SchemaTree.{SchemaType}
use Rattle.schema_types.specs.TypeView.{name_text, extended_type}
use Rattle.schema_types.specs.TypeParts.{definition_by, extension_by}
use Rattle.schema_types.specs.Out.{same_giver, given_by, entries_given_by, givers, entries_givers, each_once, extensions_of_type, type_parts_given_by, written_type}
use Rattle.schema_types.specs.declared.extended_type.ExtendedType.{ExtendedType}
use Rattle.schema_types.specs.declared.extended_type.ExtendedType.TheVariants as rust
use Rattle.schema_writing.specs.Contents.{TypeContents, type_contents, parts_given_by, named_parts, extensions_of_contents, written_contents}

-- without keys
abbrev keyless_entries : {A : Type 0} → Entries A → List A
keyless_entries es = map (λ e. e.1) es

abbrev keyless : SchemaType Place → TypeContents
keyless t = record {
  kind = t.kind;
  place = t.place;
  description = t.description;
  name = t.name;
  directives = t.directives;
  interfaces = t.interfaces;
  fields = keyless_entries t.fields;
  members = t.members;
  values = keyless_entries t.values;
  inputs = keyless_entries t.inputs;
}

module _ {A B : Type 0} (f : A → B) where
  values_keyless : (es : List (NameValue × Component A)) → map (component_tree f) (map (λ e. e.1) es) ≡ keyless_entries (map (λ e. (name_text e.0, component_tree f e.1)) es)
  values_keyless [] = refl
  values_keyless (e ∷ es) = ap (λ l. component_tree f e.1 ∷ l) (values_keyless es)

-- the contents of a type are those of its tree
pub contents_keyless : (t : ExtendedType) → type_contents t ≡ keyless (extended_type t)
contents_keyless (rust.Scalar n) = refl
contents_keyless (rust.Object n) = λ i. record (type_contents (rust.Object n)) { fields = values_keyless field_definition_tree (content n).fields.entries i }
contents_keyless (rust.Interface n) = λ i. record (type_contents (rust.Interface n)) { fields = values_keyless field_definition_tree (content n).fields.entries i }
contents_keyless (rust.Union n) = refl
contents_keyless (rust.Enum n) = λ i. record (type_contents (rust.Enum n)) { values = values_keyless enum_value_tree (content n).values.entries i }
contents_keyless (rust.InputObject n) = λ i. record (type_contents (rust.InputObject n)) { inputs = values_keyless input_value_tree (content n).fields.entries i }

module _ {A : Type 0} (giver : Option (ExtensionTree Place)) where
  given_keyless : (es : Entries (Given Place A)) → given_by giver (keyless_entries es) ≡ entries_given_by giver es
  given_keyless [] = refl
  given_keyless (e ∷ es) = by (same_giver giver e.1.extension) (given_keyless es)
    where
      by : (b : Bool) → given_by giver (keyless_entries es) ≡ entries_given_by giver es
          → map (λ g. g.it) (cond b (e.1 ∷ filter (λ g. same_giver giver g.extension) (keyless_entries es)) (filter (λ g. same_giver giver g.extension) (keyless_entries es))) ≡ map (λ d. d.1.it) (cond b (e ∷ filter (λ d. same_giver giver d.1.extension) es) (filter (λ d. same_giver giver d.1.extension) es))
      by true rest = ap (λ l. e.1.it ∷ l) rest
      by false rest = rest

givers_keyless : {A : Type 0} (es : Entries (Given Place A)) → givers (keyless_entries es) ≡ entries_givers es
givers_keyless [] = refl
givers_keyless (e ∷ es) = ap (λ l. option_to_list e.1.extension ++ l) (givers_keyless es)

parts_keyless : (giver : Option (ExtensionTree Place)) (t : SchemaType Place) → named_parts t.kind t.name (parts_given_by giver (keyless t)) ≡ type_parts_given_by giver t
parts_keyless giver t = λ i. record {
  kind = t.kind;
  name = t.name;
  directives = given_by giver t.directives;
  interfaces = given_by giver t.interfaces;
  fields = given_keyless giver t.fields i;
  members = given_by giver t.members;
  values = given_keyless giver t.values i;
  inputs = given_keyless giver t.inputs i;
}

six_right : {A : Type 0} (a b c d e f : List A) → a ++ b ++ c ++ d ++ e ++ f ≡ a ++ (b ++ (c ++ (d ++ (e ++ f))))
six_right a b c d e f = append_assoc (a ++ b ++ c ++ d) e f ∙ append_assoc (a ++ b ++ c) d (e ++ f) ∙ append_assoc (a ++ b) c (d ++ (e ++ f)) ∙ append_assoc a b (c ++ (d ++ (e ++ f)))

extensions_keyless : (t : SchemaType Place) → extensions_of_contents (keyless t) ≡ extensions_of_type t
extensions_keyless t =
    ap each_once (sym (six_right (givers t.directives) (givers t.interfaces) (givers (keyless_entries t.fields)) (givers t.members) (givers (keyless_entries t.values)) (givers (keyless_entries t.inputs))))
    ∙ (λ i. each_once (givers t.directives ++ givers t.interfaces ++ givers_keyless t.fields i ++ givers t.members ++ givers_keyless t.values i ++ givers_keyless t.inputs i))

written_keyless : (name : List ℕ) (t : SchemaType Place) → written_contents (keyless t) ≡ written_type (name, t)
written_keyless name t = λ i.
    (if is_built_in t.place then [] else definition_by t.kind t.place t.description (parts_keyless None t i) ∷ [])
    ++ map (λ e. extension_by t.kind e.place (parts_keyless (Some e) t i)) (extensions_keyless t i)

pub written_same : (name : List ℕ) (t : ExtendedType) → written_contents (type_contents t) ≡ written_type (name, extended_type t)
written_same name t = ap written_contents (contents_keyless t) ∙ written_keyless name (extended_type t)
