-- Lemmas on collecting what the schema definition is given.
use Rattle.std.proofs.Common.{◌≡◌, ◌==◌, true, false, None, length, is_some, slice_get, List, [], ◌∷◌, ◌++◌, map, Option, refl, sym, ap, ◌∙◌}
use Rattle.std.specs.List.{flat_map}
use Rattle.std.proofs.lemmas.List.{append_assoc, append-nil, map-append}
use Rattle.graphql_names.specs.declared.node.Node.{Node}
use Rattle.graphql_names.specs.declared.name.Name.{Name}
use Rattle.tree_directives.specs.declared.directive.Directive.{Directive}
use Rattle.tree_directives.specs.declared.operation_type.OperationType.{OperationType}
use Rattle.graphql_names.specs.Placed.{Place, node_tree}
use Rattle.tree_directives.specs.DirectiveTree.{directive_tree}
use Rattle.schema_fold.specs.in_definitions.DefinitionTree.{root_tree}
use Rattle.schema_components.specs.Given.{Given, ExtensionTree}
use Rattle.schema_components.specs.declared.component.Component.{Component}
use Rattle.schema_fold.specs.Components.{all_given}
use Rattle.schema_fold.specs.NumberedDefinition.{NumberedDefinition}
use Rattle.schema_fold.specs.PartsView.{itself, given_contents}
use Rattle.schema_fold.proofs.Collecting.{added_grown}
use Rattle.schema_fold.specs.SchemaFold.{Root, extends_schema}
use Rattle.schema_fold_roots.specs.ListFold.{Parts}
use Rattle.schema_fold_roots.specs.RootFold.{AllOfSchema, all_from, all_and, CollectsParts}
use Rattle.schema_fold_roots.specs.RootsView.{all_of_schema, roots_given_by}
use Rattle.schema_fold_roots.specs.declared.given.SchemaComponents.{SchemaComponents}

pub flat_map-push : {A B : Type 0} (f : A → List B) (xs : List A) (x : A) → flat_map f (xs ++ x ∷ []) ≡ flat_map f xs ++ f x
flat_map-push f [] x = append-nil (f x)
flat_map-push f (y ∷ ys) x = ap (λ l. f y ++ l) (flat_map-push f ys x) ∙ sym (append_assoc (f y) (flat_map f ys) (f x))

-- those of parts after others
pub all_push : (gs : List Parts) (g : Parts) → all_from (gs ++ g ∷ []) ≡ all_and (all_from gs) g
all_push gs g = λ i. record {
  directives = flat_map-push (λ h. all_given h.extension h.it.directives) gs g i;
  roots = flat_map-push (λ h. all_given h.extension h.it.roots) gs g i;
}

pub collects_none : (all : AllOfSchema) → CollectsParts all [] all
collects_none all gs is = is ∙ ap all_from (sym (append-nil gs))

pub collects_one : (all all' : AllOfSchema) (g : Parts) → all' ≡ all_and all g → CollectsParts all (g ∷ []) all'
collects_one all all' g step gs is = step ∙ ap (λ a. all_and a g) is ∙ sym (all_push gs g)

pub collects_then : (a b c : AllOfSchema) (xs ys : List Parts) → CollectsParts a xs b → CollectsParts b ys c → CollectsParts a (xs ++ ys) c
collects_then a b c xs ys first second gs is = second (gs ++ xs) (first gs is) ∙ ap all_from (append_assoc gs xs ys)

-- a turn of the loop over extensions
pub collects_more : (a b c : AllOfSchema) (ls : List NumberedDefinition) (l : NumberedDefinition) → CollectsParts a (flat_map extends_schema ls) b → CollectsParts b (extends_schema l) c → CollectsParts a (flat_map extends_schema (ls ++ l ∷ [])) c
collects_more a b c ls l first second gs is = collects_then a b c (flat_map extends_schema ls) (extends_schema l) first second gs is ∙ ap (λ m. all_from (gs ++ m)) (sym (flat_map-push extends_schema ls l))

-- three lists after one, as what was given
pub three_given : {A : Type 0} (e : Option (ExtensionTree Place)) (a b c d : List (Given Place A)) (p q r : List A)
    → b ≡ a ++ all_given e p → c ≡ b ++ all_given e q → d ≡ c ++ all_given e r → d ≡ a ++ all_given e (p ++ (q ++ r))
three_given {A} e a b c d p q r hb hc hd =
    hd ∙ ap (λ l. l ++ all_given e r) hc ∙ append_assoc b (all_given e q) (all_given e r)
    ∙ ap (λ l. l ++ (all_given e q ++ all_given e r)) hb ∙ append_assoc a (all_given e p) (all_given e q ++ all_given e r)
    ∙ ap (λ l. a ++ l) (sym (map-append given p (q ++ r) ∙ ap (λ l. all_given e p ++ l) (map-append given q r)))
  where
    given : A → Given Place A
    given x = record { extension = e; it = x }

-- directives and roots are added
pub all_added : (old new : SchemaComponents) (e : Option (ExtensionTree Place)) (ds : List (Node Directive)) (rs : List (Node (OperationType × Name)))
    → given_contents new.directives.items ≡ given_contents old.directives.items ++ all_given e (map (node_tree itself) ds)
    → given_contents new.roots.items ≡ given_contents old.roots.items ++ all_given e (map (node_tree itself) rs)
    → all_of_schema new ≡ all_and (all_of_schema old) (record { extension = e; it = record { directives = map (node_tree directive_tree) ds; roots = map (node_tree root_tree) rs } })
all_added old new e ds rs directives roots = λ i. record {
  directives = added_grown directive_tree new.directives.items old.directives.items e ds directives i;
  roots = added_grown root_tree new.roots.items old.roots.items e rs roots i;
}

-- where roots were added, there are some
pub some_given : (cs : List (Component (OperationType × Name))) (rs : List Root) → roots_given_by cs ≡ all_given None rs → (length cs == 0) ≡ false → is_some (slice_get rs 0) ≡ true
some_given [] rs e h = cc
some_given (c ∷ cs) [] e h = cc
some_given (c ∷ cs) (r ∷ rs) e h = refl
