-- Lemmas on collecting components.
use Rattle.std.proofs.Common.{◌≡◌, List, [], ◌∷◌, ◌++◌, map, Option, refl, sym, ap, ◌∙◌}
use Rattle.std.specs.List.{flat_map}
use Rattle.std.proofs.lemmas.List.{append_assoc, append-nil, map-append}
use Rattle.graphql_names.specs.declared.node.Node.{Node}
use Rattle.graphql_names.specs.Placed.{Placed, Place, name_tree, node_tree}
use Rattle.tree_directives.specs.DirectiveTree.{directive_tree, input_value_tree}
use Rattle.schema_types.specs.in_type_members.TypeSystemTree.{field_definition_tree, enum_value_tree}
use Rattle.schema_types.specs.in_components.Given.{Given, ExtensionTree, component_tree, component_name_tree}
use Rattle.schema_types.specs.in_components.declared.component.Component.{Component}
use Rattle.schema_types.specs.TypeParts.{TypeParts}
use Rattle.schema_fold.specs.Components.{all_given}
use Rattle.schema_fold.specs.PartsView.{itself, given_contents, parts_view}
use Rattle.schema_fold.specs.Collected.{AllComponents, class_from, collected, collected_from, collected_and}
use Rattle.schema_fold.specs.declared.collected.Collected.{Collected}
use Rattle.schema_fold.specs.declared.parts.Parts.{Parts as PartsRef}

-- what was given, with a tree instead of the content
abbrev pub grown : {A B : Type 0} → (A → B) → Given Place (Placed Place A) → Given Place (Placed Place B)
grown f g = record { extension = g.extension; it = record { it = f g.it.it; place = g.it.place } }

module _ {A B : Type 0} (f : A → B) where
  pub trees_grown : (cs : List (Component A)) → map (component_tree f) cs ≡ map (grown f) (given_contents cs)
  trees_grown [] = refl
  trees_grown (c ∷ cs) = ap (λ l. component_tree f c ∷ l) (trees_grown cs)

  given_grown : (e : Option (ExtensionTree Place)) (ns : List (Node A)) → map (grown f) (all_given e (map (node_tree itself) ns)) ≡ all_given e (map (node_tree f) ns)
  given_grown e [] = refl
  given_grown e (n ∷ ns) = ap (λ l. record { extension = e; it = node_tree f n } ∷ l) (given_grown e ns)

  -- nodes that are added as contents are added as trees
  pub added_grown : (new old : List (Component A)) (e : Option (ExtensionTree Place)) (ns : List (Node A)) → given_contents new ≡ given_contents old ++ all_given e (map (node_tree itself) ns)
      → map (component_tree f) new ≡ map (component_tree f) old ++ all_given e (map (node_tree f) ns)
  added_grown new old e ns is =
      trees_grown new ∙ ap (map (grown f)) is ∙ map-append (grown f) (given_contents old) (all_given e (map (node_tree itself) ns))
      ∙ (λ i. sym (trees_grown old) i ++ given_grown e ns i)

flat_map-push : {A B : Type 0} (f : A → List B) (xs : List A) (x : A) → flat_map f (xs ++ x ∷ []) ≡ flat_map f xs ++ f x
flat_map-push f [] x = append-nil (f x)
flat_map-push f (y ∷ ys) x = ap (λ l. f y ++ l) (flat_map-push f ys x) ∙ sym (append_assoc (f y) (flat_map f ys) (f x))

abbrev Parts : Type 0
Parts = Given Place (TypeParts Place)

class-push : {A : Type 0} (of : TypeParts Place → List A) (gs : List Parts) (g : Parts) → class_from of (gs ++ g ∷ []) ≡ class_from of gs ++ all_given g.extension (of g.it)
class-push of gs g = flat_map-push (λ h. all_given h.extension (of h.it)) gs g

-- the components of parts after others
pub collected_push : (gs : List Parts) (g : Parts) → collected_from (gs ++ g ∷ []) ≡ collected_and (collected_from gs) g
collected_push gs g = λ i. record {
  directives = class-push (λ p. p.directives) gs g i;
  interfaces = class-push (λ p. p.interfaces) gs g i;
  fields = class-push (λ p. p.fields) gs g i;
  members = class-push (λ p. p.members) gs g i;
  values = class-push (λ p. p.values) gs g i;
  inputs = class-push (λ p. p.inputs) gs g i;
}

-- six classes are added
pub all_added : (old new : Collected) (e : Option (ExtensionTree Place)) (p : PartsRef)
    → given_contents new.directives.items ≡ given_contents old.directives.items ++ all_given e (map (node_tree itself) p.directives.now.0.items)
    → map component_name_tree new.interfaces.items ≡ map component_name_tree old.interfaces.items ++ all_given e (map name_tree p.interfaces.now)
    → given_contents new.fields.items ≡ given_contents old.fields.items ++ all_given e (map (node_tree itself) p.fields.now)
    → map component_name_tree new.members.items ≡ map component_name_tree old.members.items ++ all_given e (map name_tree p.members.now)
    → given_contents new.values.items ≡ given_contents old.values.items ++ all_given e (map (node_tree itself) p.values.now)
    → given_contents new.inputs.items ≡ given_contents old.inputs.items ++ all_given e (map (node_tree itself) p.inputs.now)
    → collected new ≡ collected_and (collected old) (record { extension = e; it = parts_view p })
all_added old new e p directives interfaces fields members values inputs = λ i. record {
  directives = added_grown directive_tree new.directives.items old.directives.items e p.directives.now.0.items directives i;
  interfaces = interfaces i;
  fields = added_grown field_definition_tree new.fields.items old.fields.items e p.fields.now fields i;
  members = members i;
  values = added_grown enum_value_tree new.values.items old.values.items e p.values.now values i;
  inputs = added_grown input_value_tree new.inputs.items old.inputs.items e p.inputs.now inputs i;
}
