-- The places of the extensions that gave something to a type.
use Rattle.std.proofs.Common.{◌≡◌, ℕ, List, [], ◌∷◌, ◌++◌, map, refl, sym, ap, ◌∙◌}
use Rattle.std.specs.Map.{values_of}
use Rattle.graphql_names.specs.Node.{content}
use Rattle.graphql_names.specs.NameValue.{NameValue}
use Rattle.graphql_names.specs.Placed.{Place}
use Rattle.schema_components.specs.Lists.{firsts}
use Rattle.schema_components.specs.Given.{ExtensionTree, extension_tree, place_of}
use Rattle.schema_components.specs.declared.extension.ExtensionId.{ExtensionId}
use Rattle.tree_directives.specs.DirectiveTree.{input_value_tree}
use Rattle.tree_type_members.specs.TypeSystemTree.{field_definition_tree, enum_value_tree}
use Rattle.schema_components.specs.Given.{component_tree}
use Rattle.schema_components.specs.Applied.{applied_tree}
use Rattle.schema_components.specs.Given.{component_name_tree}
use Rattle.schema_types.specs.TypeView.{name_text, extended_type}
use Rattle.schema_types.specs.Origins.{type_origins, extensions_in}
use Rattle.schema_types.specs.declared.extended_type.ExtendedType.{ExtendedType}
use Rattle.schema_types.specs.declared.extended_type.ExtendedType.TheVariants as rust
use Rattle.graphql_schema.proofs.in_schema_writing.Extensions.{type_extensions}
use Rattle.fault_data.specs.in_rule_definitions.Rules.{extensions_of, extension_places}

given_values : {X A : Type 0} (f : X → A) (es : List (NameValue × X)) → map (λ (e : List ℕ × A). e.1) (map (λ (e : NameValue × X). (name_text e.0, f e.1)) es) ≡ map f (values_of es)
given_values f [] = refl
given_values f (e ∷ es) = ap (λ l. f e.1 ∷ l) (given_values f es)

places_of_trees : (ids : List ExtensionId) → map place_of ids ≡ map (λ (e : ExtensionTree Place). e.place) (map extension_tree ids)
places_of_trees [] = refl
places_of_trees (e ∷ es) = ap (λ l. place_of e ∷ l) (places_of_trees es)

abbrev places_by_number : List (ExtensionTree Place) → List Place
places_by_number es = map (λ e. e.place) (firsts (λ e. e.number ∷ []) es)

places_of : (t : ExtendedType) → map place_of (extensions_in (type_origins t)) ≡ extension_places (extended_type t)
places_of (rust.Scalar n) = places_of_trees _ ∙ ap (map (λ (e : ExtensionTree Place). e.place)) (type_extensions (rust.Scalar n))
places_of (rust.Object n) =
    let t = content n in
    places_of_trees _ ∙ ap (map (λ (e : ExtensionTree Place). e.place)) (type_extensions (rust.Object n))
    ∙ ap (λ l. places_by_number (extensions_of (applied_tree t.directives) ++ (extensions_of (map component_name_tree t.implements_interfaces.keys) ++ (extensions_of l ++ [])))) (sym (given_values (component_tree field_definition_tree) t.fields.entries))
places_of (rust.Interface n) =
    let t = content n in
    places_of_trees _ ∙ ap (map (λ (e : ExtensionTree Place). e.place)) (type_extensions (rust.Interface n))
    ∙ ap (λ l. places_by_number (extensions_of (applied_tree t.directives) ++ (extensions_of (map component_name_tree t.implements_interfaces.keys) ++ (extensions_of l ++ [])))) (sym (given_values (component_tree field_definition_tree) t.fields.entries))
places_of (rust.Union n) = places_of_trees _ ∙ ap (map (λ (e : ExtensionTree Place). e.place)) (type_extensions (rust.Union n))
places_of (rust.Enum n) =
    let t = content n in
    places_of_trees _ ∙ ap (map (λ (e : ExtensionTree Place). e.place)) (type_extensions (rust.Enum n))
    ∙ ap (λ l. places_by_number (extensions_of (applied_tree t.directives) ++ (extensions_of l ++ []))) (sym (given_values (component_tree enum_value_tree) t.values.entries))
places_of (rust.InputObject n) =
    let t = content n in
    places_of_trees _ ∙ ap (map (λ (e : ExtensionTree Place). e.place)) (type_extensions (rust.InputObject n))
    ∙ ap (λ l. places_by_number (extensions_of (applied_tree t.directives) ++ extensions_of l)) (sym (given_values (component_tree input_value_tree) t.fields.entries))

pub type_extension_places : (t : ExtendedType) (ids : List ExtensionId) (places : List Place) → ids ≡ extensions_in (type_origins t) → places ≡ map place_of ids → places ≡ extension_places (extended_type t)
type_extension_places t ids places are is = is ∙ ap (map place_of) are ∙ places_of t
