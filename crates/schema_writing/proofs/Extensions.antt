-- The extensions that origins name are those that gave the components.
use Rattle.std.proofs.Common.{◌≡◌, ℕ, Bool, true, false, List, [], ◌∷◌, ◌++◌, map, Option, None, Some, refl, sym, ap, ◌∙◌, option_to_list, if◌then◌else◌}
use Rattle.std.specs.Option.{option_map}
use Rattle.std.specs.List.{flat_map}
use Rattle.std.proofs.lemmas.List.{append_assoc, append-nil, map-append}
use Rattle.std.proofs.lemmas.Grind.{flat_map-append}
use Rattle.indexmap.specs.IndexMap.{values}
use Rattle.graphql_names.specs.Node.{content}
use Rattle.graphql_names.specs.declared.node.Node.{Node}
use Rattle.graphql_names.specs.Placed.{Place}
use Rattle.tree_directives.specs.DirectiveTree.{directive_tree, input_value_tree}
use Rattle.tree_type_members.specs.TypeSystemTree.{field_definition_tree, enum_value_tree}
use Rattle.tree_directives.specs.declared.directive.Directive.{Directive}
use Rattle.tree_directives.specs.declared.input_value.InputValueDefinition.{InputValueDefinition}
use Rattle.tree_type_members.specs.declared.field_definition.FieldDefinition.{FieldDefinition}
use Rattle.tree_type_members.specs.declared.enum_value.EnumValueDefinition.{EnumValueDefinition}
use Rattle.schema_components.specs.Lists.{each_place_after, has_name, is_among}
use Rattle.schema_components.specs.Given.{ExtensionTree, number_of, extension_id, extension_tree, origin_tree, component_tree, component_name_tree}
use Rattle.schema_components.specs.declared.extension.ExtensionId.{ExtensionId}
use Rattle.schema_components.specs.declared.component.Component.{Component}
use Rattle.schema_components.specs.declared.component.ComponentOrigin.{ComponentOrigin}
use Rattle.schema_components.specs.declared.component.ComponentOrigin.TheVariants.{Definition, Extension}
use Rattle.schema_components.specs.declared.component_name.ComponentName.{ComponentName}
use Rattle.schema_types.specs.Origins.{component_origins, name_origins, origin_of, origins_of, type_origins, schema_origins, extensions_in}
use Rattle.schema_types.specs.Out.{givers, each_once, extensions_of_schema}
use Rattle.schema_types.specs.TypeView.{schema_roots}
use Rattle.schema_types.specs.declared.extended_type.ExtendedType.{ExtendedType}
use Rattle.schema_types.specs.declared.extended_type.ExtendedType.TheVariants as rust
use Rattle.schema_types.specs.declared.schema_definition.SchemaDefinition.{SchemaDefinition}
use Rattle.schema_writing.specs.Contents.{type_contents, extensions_of_contents}

abbrev id_key : ExtensionId → List ℕ
id_key e = number_of e ∷ []

abbrev tree_key : ExtensionTree Place → List ℕ
tree_key e = e.number ∷ []

keys_same : (es : List ExtensionId) → map id_key es ≡ map tree_key (map extension_tree es)
keys_same [] = refl
keys_same (e ∷ es) = ap (λ l. id_key e ∷ l) (keys_same es)

abbrev next : List (ExtensionTree Place) → ExtensionTree Place → List (ExtensionTree Place)
next b x = if has_name tree_key (tree_key x) b then [] else x ∷ []

-- the first of each number are the first of each number as trees
firsts_after : (before es : List ExtensionId)
    → map extension_tree (each_place_after (λ b x. if has_name id_key (id_key x) b then [] else x ∷ []) before es)
    ≡ each_place_after (λ b x. if has_name tree_key (tree_key x) b then [] else x ∷ []) (map extension_tree before) (map extension_tree es)
firsts_after before [] = refl
firsts_after before (e ∷ es) =
    map-append extension_tree (if has_name id_key (id_key e) before then [] else e ∷ []) _
    ∙ (λ i. here (has_name id_key (id_key e) before) i ++ (firsts_after (before ++ e ∷ []) es ∙ ap (λ b. each_place_after next b (map extension_tree es)) (map-append extension_tree before (e ∷ []))) i)
    ∙ ap (λ ns. (if is_among (id_key e) ns then [] else extension_tree e ∷ []) ++ each_place_after next (map extension_tree before ++ extension_tree e ∷ []) (map extension_tree es)) (keys_same before)
  where
    here : (b : Bool) → map extension_tree (if b then [] else e ∷ []) ≡ (if b then [] else extension_tree e ∷ [])
    here true = refl
    here false = refl

-- the extensions that these origins name
abbrev named_by : List ComponentOrigin → List (ExtensionTree Place)
named_by os = flat_map (λ o. option_to_list (origin_tree o)) os

trees_named : (os : List ComponentOrigin) → map extension_tree (flat_map (λ o. option_to_list (extension_id o)) os) ≡ named_by os
trees_named [] = refl
trees_named (Definition ∷ os) = trees_named os
trees_named (Extension e ∷ os) = ap (λ l. extension_tree e ∷ l) (trees_named os)

once_named : (os : List ComponentOrigin) → map extension_tree (extensions_in os) ≡ each_once (named_by os)
once_named os = firsts_after [] (flat_map (λ o. option_to_list (extension_id o)) os) ∙ ap each_once (trees_named os)

named_components : {A B : Type 0} (f : A → B) (cs : List (Component A)) → named_by (component_origins cs) ≡ givers (map (component_tree f) cs)
named_components f [] = refl
named_components f (c ∷ cs) = ap (λ l. option_to_list (origin_tree c.origin) ++ l) (named_components f cs)

named_names : (cs : List ComponentName) → named_by (name_origins cs) ≡ givers (map component_name_tree cs)
named_names [] = refl
named_names (c ∷ cs) = ap (λ l. option_to_list (origin_tree c.origin) ++ l) (named_names cs)

named_root : (root : Option ComponentName) → named_by (option_to_list (option_map origin_of root)) ≡ givers (option_to_list (option_map component_name_tree root))
named_root None = refl
named_root (Some c) = refl

named-append : (os ps : List ComponentOrigin) → named_by (os ++ ps) ≡ named_by os ++ named_by ps
named-append os ps = flat_map-append (λ o. option_to_list (origin_tree o)) os ps

module _ (ds : List (Component Directive)) (query mutation subscription : Option ComponentName) (ns : List ComponentName) (fs : List (Component FieldDefinition)) (vs : List (Component EnumValueDefinition)) (is : List (Component InputValueDefinition)) where
  abbrev root : Option ComponentName → List (ExtensionTree Place)
  root r = givers (option_to_list (option_map component_name_tree r))

  abbrev os : Option ComponentName → List ComponentOrigin
  os r = option_to_list (option_map origin_of r)

  all_named : named_by (origins_of ds (option_map origin_of query) (option_map origin_of mutation) (option_map origin_of subscription) ns fs vs is)
      ≡ givers (map (component_tree directive_tree) ds) ++ (root query ++ (root mutation ++ (root subscription ++ (givers (map component_name_tree ns)
      ++ (givers (map (component_tree field_definition_tree) fs) ++ (givers (map (component_tree enum_value_tree) vs) ++ givers (map (component_tree input_value_tree) is)))))))
  all_named =
      let seven = component_origins vs ++ component_origins is in
      let six = component_origins fs ++ seven in
      let five = name_origins ns ++ six in
      let four = os subscription ++ five in
      let three = os mutation ++ four in
      let two = os query ++ three in
      let h7 = named-append (component_origins vs) (component_origins is) ∙ (λ i. named_components enum_value_tree vs i ++ named_components input_value_tree is i) in
      let h6 = named-append (component_origins fs) seven ∙ (λ i. named_components field_definition_tree fs i ++ h7 i) in
      let h5 = named-append (name_origins ns) six ∙ (λ i. named_names ns i ++ h6 i) in
      let h4 = named-append (os subscription) five ∙ (λ i. named_root subscription i ++ h5 i) in
      let h3 = named-append (os mutation) four ∙ (λ i. named_root mutation i ++ h4 i) in
      let h2 = named-append (os query) three ∙ (λ i. named_root query i ++ h3 i) in
      named-append (component_origins ds) two ∙ (λ i. named_components directive_tree ds i ++ h2 i)

-- the extensions of a type
pub type_extensions : (t : ExtendedType) → map extension_tree (extensions_in (type_origins t)) ≡ extensions_of_contents (type_contents t)
type_extensions (rust.Scalar n) = let t = content n in once_named (type_origins (rust.Scalar n)) ∙ ap each_once (all_named t.directives.0.items None None None [] [] [] [])
type_extensions (rust.Object n) = let t = content n in once_named (type_origins (rust.Object n)) ∙ ap each_once (all_named t.directives.0.items None None None t.implements_interfaces.keys (values t.fields) [] [])
type_extensions (rust.Interface n) = let t = content n in once_named (type_origins (rust.Interface n)) ∙ ap each_once (all_named t.directives.0.items None None None t.implements_interfaces.keys (values t.fields) [] [])
type_extensions (rust.Union n) = let t = content n in once_named (type_origins (rust.Union n)) ∙ ap each_once (all_named t.directives.0.items None None None t.members.keys [] [] [])
type_extensions (rust.Enum n) = let t = content n in once_named (type_origins (rust.Enum n)) ∙ ap each_once (all_named t.directives.0.items None None None [] [] (values t.values) [])
type_extensions (rust.InputObject n) = let t = content n in once_named (type_origins (rust.InputObject n)) ∙ ap each_once (all_named t.directives.0.items None None None [] [] [] (values t.fields))

abbrev named_root_trees : Option ComponentName → List (ExtensionTree Place)
named_root_trees r = givers (option_to_list (option_map component_name_tree r))

-- the extensions of the schema
pub schema_extensions : (n : Node SchemaDefinition) → map extension_tree (extensions_in (schema_origins (content n))) ≡ extensions_of_schema (schema_roots n)
schema_extensions n =
    let s = content n in
    let ds = givers (map (component_tree directive_tree) s.directives.0.items) in
    let q = named_root_trees s.query in
    let m = named_root_trees s.mutation in
    let r = named_root_trees s.subscription in
    once_named (schema_origins s) ∙ ap each_once (all_named s.directives.0.items s.query s.mutation s.subscription [] [] [] []
    ∙ ap (λ l. ds ++ (q ++ (m ++ l))) (append-nil r) ∙ sym (append_assoc (ds ++ q) m r ∙ append_assoc ds q (m ++ r)))
