-- What is filed and given out by contents is so by trees.
use Rattle.std.proofs.Common.{◌≡◌, Bool, true, false, cond, List, [], ◌∷◌, map, filter, Option, Vec, refl, ap, ◌∙◌}
use Rattle.std.specs.List.{AllZip}
use Rattle.std.specs.Global.{Global}
use Rattle.graphql_names.specs.NameValue.{NameValue}
use Rattle.graphql_names.specs.Node.{content, place}
use Rattle.graphql_names.specs.declared.node.Node.{Node}
use Rattle.graphql_names.specs.Placed.{Placed, Place, name_tree, node_tree}
use Rattle.tree_directives.specs.DirectiveTree.{directive_tree, input_value_tree}
use Rattle.tree_type_members.specs.TypeSystemTree.{field_definition_tree, enum_value_tree}
use Rattle.schema_components.specs.Given.{ExtensionTree, origin_tree, component_tree}
use Rattle.schema_components.specs.declared.component.Component.{Component}
use Rattle.schema_components.specs.declared.component.ComponentOrigin.{ComponentOrigin}
use Rattle.schema_types.specs.Out.{same_giver, given_by}
use Rattle.schema_writing.specs.Filed.{itself, given_contents, filed_under}
use Rattle.schema_writing.specs.Contents.{TypeContents, parts_given_by}
use Rattle.schema_writing.specs.ContentsView.{parts_view, filed_parts}
use Rattle.schema_writing.specs.declared.parts.FiledType.{FiledType}
use Rattle.schema_writing.specs.declared.parts.Parts.{Parts}

-- what is at a place, with a tree instead of the content
abbrev pub grown : {A B : Type 0} → (A → B) → Placed Place A → Placed Place B
grown f p = record { it = f p.it; place = p.place }

module _ {A B : Type 0} (f : A → B) where
  pub trees_grown : (ns : List (Node A)) → map (node_tree f) ns ≡ map (grown f) (map (node_tree itself) ns)
  trees_grown [] = refl
  trees_grown (n ∷ ns) = ap (λ l. node_tree f n ∷ l) (trees_grown ns)

  given_grown : (giver : Option (ExtensionTree Place)) (cs : List (Component A)) → map (grown f) (given_by giver (given_contents cs)) ≡ given_by giver (map (component_tree f) cs)
  given_grown giver [] = refl
  given_grown giver (c ∷ cs) = by (same_giver giver (origin_tree c.origin)) (given_grown giver cs)
    where
      by : (b : Bool) → map (grown f) (given_by giver (given_contents cs)) ≡ given_by giver (map (component_tree f) cs)
          → map (grown f) (map (λ g. g.it) (cond b (component_tree itself c ∷ filter (λ g. same_giver giver g.extension) (given_contents cs)) (filter (λ g. same_giver giver g.extension) (given_contents cs))))
          ≡ map (λ g. g.it) (cond b (component_tree f c ∷ filter (λ g. same_giver giver g.extension) (map (component_tree f) cs)) (filter (λ g. same_giver giver g.extension) (map (component_tree f) cs)))
      by true rest = ap (λ l. node_tree f c.node ∷ l) rest
      by false rest = rest

  -- nodes that are filed
  pub filed_grown : (giver : Option (ExtensionTree Place)) (ns : List (Node A)) (cs : List (Component A)) → map (node_tree itself) ns ≡ given_by giver (given_contents cs) → map (node_tree f) ns ≡ given_by giver (map (component_tree f) cs)
  filed_grown giver ns cs same = trees_grown ns ∙ ap (map (grown f)) same ∙ given_grown giver cs

abbrev Giver : Type 0
Giver = Option (ExtensionTree Place)

abbrev Nodes : Type 0 → Type 0
Nodes A = List (ComponentOrigin × Vec (Node A) Global)

abbrev Names : Type 0
Names = List (ComponentOrigin × Vec NameValue Global)

-- of nothing, nothing is filed
pub no_nodes : {A B : Type 0} (f : A → B) (es : Nodes A) → es ≡ [] → (giver : Giver) → map (node_tree f) (filed_under giver es) ≡ []
no_nodes f es none giver = ap (λ l. map (node_tree f) (filed_under giver l)) none

pub no_names : (es : Names) → es ≡ [] → (giver : Giver) → map name_tree (filed_under giver es) ≡ []
no_names es none giver = ap (λ l. map name_tree (filed_under giver l)) none

-- six classes are filed
pub all_filed : (f : FiledType) (c : TypeContents)
    → ((giver : Giver) → map (node_tree directive_tree) (filed_under giver f.directives.entries) ≡ given_by giver c.directives)
    → ((giver : Giver) → map name_tree (filed_under giver f.interfaces.entries) ≡ given_by giver c.interfaces)
    → ((giver : Giver) → map (node_tree field_definition_tree) (filed_under giver f.fields.entries) ≡ given_by giver c.fields)
    → ((giver : Giver) → map name_tree (filed_under giver f.members.entries) ≡ given_by giver c.members)
    → ((giver : Giver) → map (node_tree enum_value_tree) (filed_under giver f.values.entries) ≡ given_by giver c.values)
    → ((giver : Giver) → map (node_tree input_value_tree) (filed_under giver f.inputs.entries) ≡ given_by giver c.inputs)
    → (giver : Giver) → filed_parts giver f ≡ parts_given_by giver c
all_filed f c directives interfaces fields members values inputs giver = λ i. record {
  directives = directives giver i;
  interfaces = interfaces giver i;
  fields = fields giver i;
  members = members giver i;
  values = values giver i;
  inputs = inputs giver i;
}

-- clones of nodes are the same nodes
pub nodes_taken : {A B : Type 0} (f : A → B) (ns vs : List (Node A)) → AllZip (λ n v. (content v ≡ content n) × (place v ≡ place n)) ns vs → map (node_tree f) vs ≡ map (node_tree f) ns
nodes_taken f [] [] same = refl
nodes_taken f [] (v ∷ vs) same = absurd same
nodes_taken f (n ∷ ns) [] same = absurd same
nodes_taken f (n ∷ ns) (v ∷ vs) same = λ i. record { it = f (same.0.0 i); place = same.0.1 i } ∷ nodes_taken f ns vs same.1 i

-- and those of names the same names
pub names_taken : (ns vs : List NameValue) → AllZip (λ n v. v ≡ n) ns vs → map name_tree vs ≡ map name_tree ns
names_taken [] [] same = refl
names_taken [] (v ∷ vs) same = absurd same
names_taken (n ∷ ns) [] same = absurd same
names_taken (n ∷ ns) (v ∷ vs) same = λ i. name_tree (same.0 i) ∷ names_taken ns vs same.1 i

-- six classes are given out
pub all_given : (giver : Option (ExtensionTree Place)) (p : Parts) (f : FiledType)
    → AllZip (λ n v. (content v ≡ content n) × (place v ≡ place n)) (filed_under giver f.directives.entries) p.directives.0.items
    → AllZip (λ n v. v ≡ n) (filed_under giver f.interfaces.entries) p.interfaces.items
    → AllZip (λ n v. (content v ≡ content n) × (place v ≡ place n)) (filed_under giver f.fields.entries) p.fields.items
    → AllZip (λ n v. v ≡ n) (filed_under giver f.members.entries) p.members.items
    → AllZip (λ n v. (content v ≡ content n) × (place v ≡ place n)) (filed_under giver f.values.entries) p.values.items
    → AllZip (λ n v. (content v ≡ content n) × (place v ≡ place n)) (filed_under giver f.inputs.entries) p.inputs.items
    → parts_view p ≡ filed_parts giver f
all_given giver p f directives interfaces fields members values inputs = λ i. record {
  directives = nodes_taken directive_tree (filed_under giver f.directives.entries) p.directives.0.items directives i;
  interfaces = names_taken (filed_under giver f.interfaces.entries) p.interfaces.items interfaces i;
  fields = nodes_taken field_definition_tree (filed_under giver f.fields.entries) p.fields.items fields i;
  members = names_taken (filed_under giver f.members.entries) p.members.items members i;
  values = nodes_taken enum_value_tree (filed_under giver f.values.entries) p.values.items values i;
  inputs = nodes_taken input_value_tree (filed_under giver f.inputs.entries) p.inputs.items inputs i;
}
