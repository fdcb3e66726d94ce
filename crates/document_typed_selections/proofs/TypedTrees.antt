-- The plain trees of selections and sets: their parts, what they are with more parts after them, and that copies have the same.
use Rattle.std.proofs.Common.{◌≡◌, List, [], ◌∷◌, ◌++◌, map, refl, ap, sym, ◌∙◌, length, ◌==◌, rules, if◌then◌else◌, Some}
use Rattle.std.proofs.lemmas.List.{map-append}
use Rattle.std.specs.Prelude.{ℕ, find, bytes_eq}
use Rattle.std.specs.List.{AllZip}
use Rattle.graphql_names.specs.Node.{content, place}
use Rattle.graphql_names.specs.declared.node.Node.{Node}
use Rattle.graphql_names.specs.Placed.{Place, Text, name_tree}
use Rattle.tree_directives.specs.DirectiveTree.{InputValues}
use Rattle.tree_directives.specs.DirectiveQueries.{input_value_has_name}
use Rattle.tree_definitions.specs.in_type_members.ArgumentQueries.{argument_named}
use Rattle.document_typed_selections.specs.TypedTree.{TypedSelection, TypedField, TypedInline, TypedSet, typed_set, TypedSelections, typed_then, typed_selections, AtPlace, field_step, inline_step, set_step, selection_step, typed_selection_tree, typed_set_tree, holds_none}
use Rattle.document_typed_selections.specs.TypedParts.{typed_field, typed_spread, typed_inline, typed_field_node, typed_spread_node, typed_inline_node, and_then}
use Rattle.document_typed_selections.specs.OwnFields.{fields_in, and_field, field_nodes}
use Rattle.document_typed_selections.specs.declared.selection.Selection.{Selection}
use Rattle.document_typed_selections.specs.declared.selection.Field.{Field}
use Rattle.document_typed_selections.specs.declared.selection.InlineFragment.{InlineFragment}
use Rattle.document_typed_selections.specs.declared.selection.SelectionSet.{SelectionSet}
use Rattle.document_typed_selections.specs.declared.selection.Selection.TheOpen.{Selection-F, Field as FieldOf, FragmentSpread as SpreadOf, InlineFragment as InlineOf}
use Rattle.document_typed_selections.specs.declared.selection.Selection.TheViews.{out-Selection, Field as Field', InlineFragment as InlineFragment', outs-Field, outs-InlineFragment}
use Rattle.document_typed_selections.specs.declared.selection.Selection.TheFolds.{map-Selection, fold-Field, fold-InlineFragment, fold_out-Selection, fold_out-Field, fold_out-InlineFragment, fold_out-SelectionSet}

pub typed_selections-map : {X Y : Type 0} (f : X → TypedSelection Place) (h : Y → X) (ys : List Y) → typed_selections f (map h ys) ≡ typed_selections (λ y. f (h y)) ys
typed_selections-map f h [] = refl
typed_selections-map f h (y ∷ ys) = ap (typed_then (f (h y))) (typed_selections-map f h ys)

pub typed_selections-append : {A : Type 0} (f : A → TypedSelection Place) (xs ys : List A) → typed_selections f (xs ++ ys) ≡ and_then (typed_selections f xs) (typed_selections f ys)
typed_selections-append f [] ys = refl
typed_selections-append f (x ∷ xs) ys = ap (typed_then (f x)) (typed_selections-append f xs ys)

abbrev pub field_at : Field → AtPlace
field_at = fold-Field (TypedSelection Place) AtPlace AtPlace (TypedSet Place) selection_step field_step inline_step set_step

abbrev pub inline_at : InlineFragment → AtPlace
inline_at = fold-InlineFragment (TypedSelection Place) AtPlace AtPlace (TypedSet Place) selection_step field_step inline_step set_step

-- the tree of a layer
abbrev pub tree_here : Selection-F Selection Field InlineFragment SelectionSet → TypedSelection Place
tree_here (FieldOf n) = typed_field_node n
tree_here (SpreadOf n) = typed_spread_node n
tree_here (InlineOf n) = typed_inline_node n

tree_layer : (x : Selection-F Selection Field InlineFragment SelectionSet) → selection_step (map-Selection Selection Field InlineFragment SelectionSet (TypedSelection Place) AtPlace AtPlace (TypedSet Place) typed_selection_tree field_at inline_at typed_set_tree x) ≡ tree_here x
tree_layer (FieldOf n) = ap (λ (f : AtPlace). f (place n)) (fold_out-Field (TypedSelection Place) AtPlace AtPlace (TypedSet Place) selection_step field_step inline_step set_step (content n))
tree_layer (SpreadOf n) = refl
tree_layer (InlineOf n) = ap (λ (f : AtPlace). f (place n)) (fold_out-InlineFragment (TypedSelection Place) AtPlace AtPlace (TypedSet Place) selection_step field_step inline_step set_step (content n))

pub typed_selection_tree_out : (s : Selection) → typed_selection_tree s ≡ tree_here (out-Selection s)
typed_selection_tree_out s = fold_out-Selection (TypedSelection Place) AtPlace AtPlace (TypedSet Place) selection_step field_step inline_step set_step s ∙ tree_layer (out-Selection s)

pub typed_tree_field : (n : Node Field) → typed_selection_tree (Field' n) ≡ typed_field_node n
typed_tree_field n = typed_selection_tree_out (Field' n) ∙ ap tree_here (outs-Field n)

pub typed_tree_inline : (n : Node InlineFragment) → typed_selection_tree (InlineFragment' n) ≡ typed_inline_node n
typed_tree_inline n = typed_selection_tree_out (InlineFragment' n) ∙ ap tree_here (outs-InlineFragment n)

pub typed_set_tree_out : (s : SelectionSet) → typed_set_tree s ≡ typed_set (name_tree s.ty) (typed_selections typed_selection_tree s.selections.items)
typed_set_tree_out s =
    fold_out-SelectionSet (TypedSelection Place) AtPlace AtPlace (TypedSet Place) selection_step field_step inline_step set_step s
    ∙ ap (typed_set (name_tree s.ty)) (typed_selections-map (λ t. t) typed_selection_tree s.selections.items)

-- the nodes of a set's own fields have the trees of its own fields
fields-more : (x : Selection-F Selection Field InlineFragment SelectionSet) (ns : List (Node Field)) (ts : TypedSelections Place) → map typed_field_node ns ≡ fields_in ts → map typed_field_node (and_field x ns) ≡ fields_in (typed_then (tree_here x) ts)
fields-more (FieldOf n) ns ts h = ap (λ l. typed_field_node n ∷ l) h
fields-more (SpreadOf n) ns ts h = h
fields-more (InlineOf n) ns ts h = h

pub field_nodes-trees : (ss : List Selection) → map typed_field_node (field_nodes ss) ≡ fields_in (typed_selections typed_selection_tree ss)
field_nodes-trees [] = refl
field_nodes-trees (s ∷ ss) =
    fields-more (out-Selection s) (field_nodes ss) (typed_selections typed_selection_tree ss) (field_nodes-trees ss)
    ∙ ap (λ t. fields_in (typed_then t (typed_selections typed_selection_tree ss))) (sym (typed_selection_tree_out s))

-- copies of selections have the selections' trees
pub typed_selections-copies : (ss cs : List Selection) → AllZip (λ s c. typed_selection_tree c ≡ typed_selection_tree s) ss cs → typed_selections typed_selection_tree cs ≡ typed_selections typed_selection_tree ss
typed_selections-copies [] [] h = refl
typed_selections-copies [] (c ∷ cs) h = absurd h
typed_selections-copies (s ∷ ss) [] h = absurd h
typed_selections-copies (s ∷ ss) (c ∷ cs) h = λ i. typed_then (h.0 i) (typed_selections-copies ss cs h.1 i)

pub set-copies : (s c : SelectionSet) → c.ty ≡ s.ty → AllZip (λ s c. typed_selection_tree c ≡ typed_selection_tree s) s.selections.items c.selections.items → typed_set_tree c ≡ typed_set_tree s
set-copies s c e h =
    typed_set_tree_out c
    ∙ (λ i. typed_set (name_tree (e i)) (typed_selections-copies s.selections.items c.selections.items h i))
    ∙ sym (typed_set_tree_out s)

-- a set holds none where its list has no length
none-length : (ty : Text Place) (ss : List Selection) → holds_none (typed_set ty (typed_selections typed_selection_tree ss)) ≡ (length ss == 0)
none-length ty [] = refl
none-length ty (s ∷ ss) = search rules

pub holds_none_length : (s : SelectionSet) → holds_none (typed_set_tree s) ≡ (length s.selections.items == 0)
holds_none_length s = ap holds_none (typed_set_tree_out s) ∙ none-length (name_tree s.ty) s.selections.items

-- a field's argument by name is found as a directive's is
pub argument_named_find : {P : Type 0} (name : List ℕ) (vs : InputValues P) → argument_named name vs ≡ find (input_value_has_name name) vs
argument_named_find name [] = refl
argument_named_find name (v ∷ vs) = ap (λ t. if bytes_eq v.it.name.it name then Some v else t) (argument_named_find name vs)

-- how the tree of a selection goes on
pub ruleset typed_tree_rules = (typed_tree_field, typed_tree_inline)

-- how the tree of a set goes on
pub ruleset typed_set_rules = (typed_set_tree_out, typed_selections-append, field_nodes-trees)

-- trees with more parts after them
pub ruleset added_rules = (typed_set_tree_out, typed_selections-append, map-append)

-- which nodes are fields
pub ruleset field_node_rules = (outs-Field, outs-InlineFragment)
