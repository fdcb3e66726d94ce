-- How the trees of recursive values go on, and that copies have the same trees.
use Rattle.std.proofs.Common.{◌≡◌, List, [], ◌∷◌, map, refl, ap, ◌∙◌}
use Rattle.std.specs.Prelude.{Vec}
use Rattle.std.specs.List.{AllZip}
use Rattle.std.specs.declared.boxed.Box.{Box}
use Rattle.std.specs.declared.alloc.Global.{Global}
use Rattle.graphql_names.specs.Node.{content, place}
use Rattle.graphql_names.specs.declared.name.Name.{Name}
use Rattle.graphql_names.specs.declared.node.Node.{Node}
use Rattle.graphql_names.specs.Placed.{Place, name_tree}
use Rattle.tree_literals.specs.TypeTree.{TypeTree, ListTree as ListTypeTree, NonNullListTree, type_tree, type_tree_step}
use Rattle.tree_literals.specs.ValueTree.{ValueTree, ListTree, ObjectTree, item_then, entry_then, item_trees, entry_trees, value_tree, value_tree_step}
use Rattle.tree_literals.specs.declared.ty.«Type».{«Type»}
use Rattle.tree_literals.specs.declared.ty.«Type».TheViews.{List as ListType', NonNullList as NonNullList', outs-List as outs-ListType, outs-NonNullList}
use Rattle.tree_literals.specs.declared.ty.«Type».TheFolds.{map-Type, fold_out-Type}
use Rattle.tree_literals.specs.declared.value.Value.{Value}
use Rattle.tree_literals.specs.declared.value.Value.TheViews.{List as List', Object as Object', outs-List, outs-Object}
use Rattle.tree_literals.specs.declared.value.Value.TheFolds.{map-Value, fold_out-Value}

-- types

pub type_tree_list : (b : Box «Type» Global) → type_tree (ListType' b) ≡ ListTypeTree (type_tree b.value)
type_tree_list b =
    fold_out-Type (TypeTree Place) type_tree_step (ListType' b)
    ∙ ap (λ x. type_tree_step (map-Type «Type» (TypeTree Place) type_tree x)) (outs-ListType b)

pub type_tree_non_null_list : (b : Box «Type» Global) → type_tree (NonNullList' b) ≡ NonNullListTree (type_tree b.value)
type_tree_non_null_list b =
    fold_out-Type (TypeTree Place) type_tree_step (NonNullList' b)
    ∙ ap (λ x. type_tree_step (map-Type «Type» (TypeTree Place) type_tree x)) (outs-NonNullList b)

-- how the tree of a type goes on
pub ruleset type_tree_rules = (type_tree_list, type_tree_non_null_list)

-- values

pub item_trees-map : {X Y : Type 0} (f : X → ValueTree Place) (h : Y → X) (k : Node Y → Node X) → ((n : Node Y) → content (k n) ≡ h (content n)) → ((n : Node Y) → place (k n) ≡ place n) → (ns : List (Node Y)) → item_trees f (map k ns) ≡ item_trees (λ y. f (h y)) ns
item_trees-map f h k c p [] = refl
item_trees-map f h k c p (n ∷ ns) = λ i. item_then (p n i) (f (c n i)) (item_trees-map f h k c p ns i)

pub entry_trees-map : {X Y : Type 0} (f : X → ValueTree Place) (h : Y → X) (k : Name × Node Y → Name × Node X) → ((e : Name × Node Y) → (k e).0 ≡ e.0) → ((e : Name × Node Y) → content (k e).1 ≡ h (content e.1)) → ((e : Name × Node Y) → place (k e).1 ≡ place e.1) → (es : List (Name × Node Y)) → entry_trees f (map k es) ≡ entry_trees (λ y. f (h y)) es
entry_trees-map f h k m c p [] = refl
entry_trees-map f h k m c p (e ∷ es) = λ i. entry_then (name_tree (m e i)) (p e i) (f (c e i)) (entry_trees-map f h k m c p es i)

pub value_tree_list : (v : Vec (Node Value) Global) → value_tree (List' v) ≡ ListTree (item_trees value_tree v.items)
value_tree_list v =
    fold_out-Value (ValueTree Place) value_tree_step (List' v)
    ∙ ap (λ x. value_tree_step (map-Value Value (ValueTree Place) value_tree x)) (outs-List v)
    ∙ ap ListTree (item_trees-map (λ t. t) value_tree _ (λ n. refl) (λ n. refl) v.items)

pub value_tree_object : (v : Vec (Name × Node Value) Global) → value_tree (Object' v) ≡ ObjectTree (entry_trees value_tree v.items)
value_tree_object v =
    fold_out-Value (ValueTree Place) value_tree_step (Object' v)
    ∙ ap (λ x. value_tree_step (map-Value Value (ValueTree Place) value_tree x)) (outs-Object v)
    ∙ ap ObjectTree (entry_trees-map (λ t. t) value_tree _ (λ n. refl) (λ n. refl) (λ n. refl) v.items)

-- how the tree of a value goes on
pub ruleset value_tree_rules = (value_tree_list, value_tree_object)

-- copies of nodes have the nodes' trees
pub item_trees-copies : (ns cs : List (Node Value)) → AllZip (λ n c. (content c ≡ content n) × (place c ≡ place n)) ns cs → item_trees value_tree cs ≡ item_trees value_tree ns
item_trees-copies [] [] h = refl
item_trees-copies [] (c ∷ cs) h = absurd h
item_trees-copies (n ∷ ns) [] h = absurd h
item_trees-copies (n ∷ ns) (c ∷ cs) h = λ i. item_then (h.0.1 i) (value_tree (h.0.0 i)) (item_trees-copies ns cs h.1 i)

pub entry_trees-copies : (ns cs : List (Name × Node Value)) → AllZip (λ n c. (c.0 ≡ n.0) × ((content c.1 ≡ content n.1) × (place c.1 ≡ place n.1))) ns cs → entry_trees value_tree cs ≡ entry_trees value_tree ns
entry_trees-copies [] [] h = refl
entry_trees-copies [] (c ∷ cs) h = absurd h
entry_trees-copies (n ∷ ns) [] h = absurd h
entry_trees-copies (n ∷ ns) (c ∷ cs) h = λ i. entry_then (name_tree (h.0.0 i)) (h.0.1.1 i) (value_tree (h.0.1.0 i)) (entry_trees-copies ns cs h.1 i)
