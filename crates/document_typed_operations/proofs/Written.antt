-- What is written of sets, and of what is under names.
use Rattle.std.proofs.Common.{◌≡◌, ℕ, List, [], ◌∷◌, map, take, length, ◌≤◌, Option, None, Some, option_to_list, refl, sym, ap, ◌∙◌}
use Rattle.std.specs.Prelude.{Vec}
use Rattle.std.specs.declared.alloc.Global.{Global}
use Rattle.std.proofs.lemmas.List.{take_all}
use Rattle.std.specs.Map.{values_of}
use Rattle.std.specs.Option.{option_map}
use Rattle.graphql_names.specs.NameValue.{NameValue}
use Rattle.graphql_names.specs.Node.{content, place}
use Rattle.graphql_names.specs.declared.node.Node.{Node}
use Rattle.graphql_names.specs.Placed.{Place, Text, name_tree}
use Rattle.tree_directives.specs.DirectiveTree.{Directives, directives_tree}
use Rattle.tree_operations.specs.SelectionTree.{FieldHead, FieldTree, InlineTree, selection_then, selection_trees, selection_tree}
use Rattle.tree_operations.specs.SelectionParts.{field_head}
use Rattle.tree_operations.specs.declared.selection.Field.{Field}
use Rattle.tree_operations.specs.declared.selection.InlineFragment.{InlineFragment}
use Rattle.tree_operations.specs.declared.selection.Selection.TheViews.{Field as Field', InlineFragment as InlineFragment'}
use Rattle.tree_operations.specs.declared.selection.Selection.{Selection as Written}
use Rattle.tree_operations.proofs.SelectionTrees.{selection_trees-map, selection_tree_field, selection_tree_inline}
use Rattle.schema_types.specs.TypeView.{name_text}
use Rattle.document_typed_selections.specs.TypedTree.{typed_selections, typed_selection_tree, typed_set_tree}
use Rattle.document_typed_selections.specs.declared.selection.Selection.{Selection}
use Rattle.document_typed_selections.specs.declared.selection.SelectionSet.{SelectionSet}
use Rattle.document_typed_selections.proofs.TypedTrees.{typed_set_tree_out}
use Rattle.document_typed_operations.specs.ToAst.{ast_selection, ast_set, ast_selections}

along : (ss : List Selection) → selection_trees (λ s. ast_selection (typed_selection_tree s)) ss ≡ ast_selections (typed_selections typed_selection_tree ss)
along [] = refl
along (s ∷ ss) = ap (selection_then (ast_selection (typed_selection_tree s))) (along ss)

-- selections that are those of a set, one by one, are what is written of it
pub set-written : (s : SelectionSet) (ts : List Written) (i : ℕ) → length s.selections.items ≤ i
    → map selection_tree ts ≡ map (λ x. ast_selection (typed_selection_tree x)) (take i s.selections.items)
    → selection_trees selection_tree ts ≡ ast_set (typed_set_tree s)
set-written s ts i end are =
    sym (selection_trees-map (λ t. t) selection_tree ts)
    ∙ ap (selection_trees (λ t. t)) (are ∙ ap (map (λ x. ast_selection (typed_selection_tree x))) (take_all i s.selections.items end))
    ∙ selection_trees-map (λ t. t) (λ x. ast_selection (typed_selection_tree x)) s.selections.items
    ∙ along s.selections.items
    ∙ sym (ap ast_set (typed_set_tree_out s))

-- a field, and an inline fragment, with these parts
pub field-written : (n : Node Field) (p : Place) (head : FieldHead Place) (selections : Vec Written Global)
    → place n ≡ p → field_head (content n) ≡ head → (content n).selection_set ≡ selections
    → selection_tree (Field' n) ≡ FieldTree p head (selection_trees selection_tree selections.items)
field-written n p head selections ep eh es = selection_tree_field n ∙ (λ i. FieldTree (ep i) (eh i) (selection_trees selection_tree (es i).items))

pub inline-written : (n : Node InlineFragment) (p : Place) (condition : Option (Text Place)) (directives : Directives Place) (selections : Vec Written Global)
    → place n ≡ p → option_map name_tree (content n).type_condition ≡ condition → directives_tree (content n).directives ≡ directives → (content n).selection_set ≡ selections
    → selection_tree (InlineFragment' n) ≡ InlineTree p condition directives (selection_trees selection_tree selections.items)
inline-written n p condition directives selections ep ec ed es = selection_tree_inline n ∙ (λ i. InlineTree (ep i) (ec i) (ed i) (selection_trees selection_tree (es i).items))

module _ {X A B : Type 0} (view : X → A) (written : A → B) where
  -- what is written of what is under names
  pub values-written : (es : List (NameValue × X)) → map (λ x. written (view x)) (values_of es) ≡ map (λ (e : List ℕ × A). written e.1) (map (λ (e : NameValue × X). (name_text e.0, view e.1)) es)
  values-written [] = refl
  values-written (e ∷ es) = ap (λ l. written (view e.1) ∷ l) (values-written es)

  -- and of something that may be there
  pub optional-written : (o : Option X) → map (λ x. written (view x)) (option_to_list o) ≡ map written (option_to_list (option_map view o))
  optional-written None = refl
  optional-written (Some x) = refl
