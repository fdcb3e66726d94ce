-- How the trees of selections go on, and that copies have the same trees.
use Rattle.std.proofs.Common.{◌≡◌, List, [], ◌∷◌, map, refl, ap, ◌∙◌}
use Rattle.std.specs.List.{AllZip}
use Rattle.std.specs.Option.{option_map}
use Rattle.tree_directives.specs.in_literals.in_names.Node.{content, place}
use Rattle.tree_directives.specs.in_literals.in_names.declared.node.Node.{Node}
use Rattle.tree_directives.specs.in_literals.in_names.Placed.{Place, name_tree}
use Rattle.tree_directives.specs.DirectiveTree.{directives_tree}
use Rattle.tree_operations.specs.SelectionParts.{field_head}
use Rattle.tree_operations.specs.SelectionTree.{SelectionTree, FieldTree, InlineTree, selection_then, selection_trees, AtPlace, field_step, inline_step, selection_step, selection_tree}
use Rattle.tree_operations.specs.declared.selection.Selection.{Selection}
use Rattle.tree_operations.specs.declared.selection.Field.{Field}
use Rattle.tree_operations.specs.declared.selection.InlineFragment.{InlineFragment}
use Rattle.tree_operations.specs.declared.selection.Selection.TheViews.{Field as Field', InlineFragment as InlineFragment', outs-Field, outs-InlineFragment}
use Rattle.tree_operations.specs.declared.selection.Selection.TheFolds.{map-Selection, fold-Field, fold-InlineFragment, fold_out-Selection, fold_out-Field, fold_out-InlineFragment}

pub selection_trees-map : {X Y : Type 0} (f : X → SelectionTree Place) (h : Y → X) (ys : List Y) → selection_trees f (map h ys) ≡ selection_trees (λ y. f (h y)) ys
selection_trees-map f h [] = refl
selection_trees-map f h (y ∷ ys) = ap (selection_then (f (h y))) (selection_trees-map f h ys)

abbrev pub field_at : Field → AtPlace
field_at = fold-Field (SelectionTree Place) AtPlace AtPlace selection_step field_step inline_step

abbrev pub inline_at : InlineFragment → AtPlace
inline_at = fold-InlineFragment (SelectionTree Place) AtPlace AtPlace selection_step field_step inline_step

pub selection_tree_field : (n : Node Field) → selection_tree (Field' n) ≡ FieldTree (place n) (field_head (content n)) (selection_trees selection_tree (content n).selection_set.items)
selection_tree_field n =
    fold_out-Selection (SelectionTree Place) AtPlace AtPlace selection_step field_step inline_step (Field' n)
    ∙ ap (λ x. selection_step (map-Selection Selection Field InlineFragment (SelectionTree Place) AtPlace AtPlace selection_tree field_at inline_at x)) (outs-Field n)
    ∙ ap (λ f. f (place n)) (fold_out-Field (SelectionTree Place) AtPlace AtPlace selection_step field_step inline_step (content n))
    ∙ ap (FieldTree (place n) (field_head (content n))) (selection_trees-map (λ t. t) selection_tree (content n).selection_set.items)

pub selection_tree_inline : (n : Node InlineFragment) → selection_tree (InlineFragment' n) ≡ InlineTree (place n) (option_map name_tree (content n).type_condition) (directives_tree (content n).directives) (selection_trees selection_tree (content n).selection_set.items)
selection_tree_inline n =
    fold_out-Selection (SelectionTree Place) AtPlace AtPlace selection_step field_step inline_step (InlineFragment' n)
    ∙ ap (λ x. selection_step (map-Selection Selection Field InlineFragment (SelectionTree Place) AtPlace AtPlace selection_tree field_at inline_at x)) (outs-InlineFragment n)
    ∙ ap (λ f. f (place n)) (fold_out-InlineFragment (SelectionTree Place) AtPlace AtPlace selection_step field_step inline_step (content n))
    ∙ ap (InlineTree (place n) (option_map name_tree (content n).type_condition) (directives_tree (content n).directives)) (selection_trees-map (λ t. t) selection_tree (content n).selection_set.items)

-- how the tree of a selection goes on
pub ruleset selection_tree_rules = (selection_tree_field, selection_tree_inline)

-- copies of selections have the selections' trees
pub selection_trees-copies : (ss cs : List Selection) → AllZip (λ s c. selection_tree c ≡ selection_tree s) ss cs → selection_trees selection_tree cs ≡ selection_trees selection_tree ss
selection_trees-copies [] [] h = refl
selection_trees-copies [] (c ∷ cs) h = absurd h
selection_trees-copies (s ∷ ss) [] h = absurd h
selection_trees-copies (s ∷ ss) (c ∷ cs) h = λ i. selection_then (h.0 i) (selection_trees-copies ss cs h.1 i)
