-- What typed sets mean, and how sets go on.
use Rattle.std.proofs.Common.{◌≡◌, List, [], ◌∷◌, map, refl, ap, ◌∙◌}
use Rattle.graphql_names.specs.Placed.{name_tree, Place}
use Rattle.document_typed_selections.specs.TypedTree.{set_type, typed_selections, typed_selection_tree, typed_set_tree}
use Rattle.document_typed_selections.specs.TypedParts.{typed_head}
use Rattle.graphql_names.specs.Node.{content, place}
use Rattle.graphql_names.specs.declared.node.Node.{Node}
use Rattle.tree_operations.specs.SelectionTree.{FieldHead}
use Rattle.tree_type_members.specs.TypeSystemTree.{field_definition_tree, unplaced_field_definition}
use Rattle.tree_type_members.specs.declared.field_definition.FieldDefinition.{FieldDefinition}
use Rattle.document_typed_selections.specs.declared.selection.Field.{Field}
use Rattle.document_typed_selections.specs.declared.selection.Selection.TheViews.{Field as Field'}
use Rattle.document_typed_selections.specs.declared.selection.Selection.{Selection}
use Rattle.document_typed_selections.specs.declared.selection.SelectionSet.{SelectionSet}
use Rattle.document_typed_selections.proofs.TypedTrees.{typed_tree_field, typed_set_tree_out}
use Rattle.document_typing.specs.MeantTree.{MeantField, meant, meant_then, meant_of_all, meant_of_set, meant_set, members, set_on}

meant-members : (ss : List Selection) → meant_of_all (typed_selections typed_selection_tree ss) ≡ members (map (λ s. meant (typed_selection_tree s)) ss)
meant-members [] = refl
meant-members (s ∷ ss) = ap (meant_then (meant (typed_selection_tree s))) (meant-members ss)

-- what a set means
pub meant-set : (s : SelectionSet) → meant_of_set (typed_set_tree s) ≡ set_on s.ty.text (map (λ x. meant (typed_selection_tree x)) s.selections.items)
meant-set s = ap meant_of_set (typed_set_tree_out s) ∙ ap (meant_set s.ty.text) (meant-members s.selections.items)

-- its type
pub type-set : (s : SelectionSet) → set_type (typed_set_tree s) ≡ name_tree s.ty
type-set s = ap set_type (typed_set_tree_out s)

pub ruleset meant_set_rules = (meant-set, type-set)

-- what a field with these parts means
pub field-meant : (n : Node Field) (p : Place) (definition : Node FieldDefinition) (head : FieldHead Place) (set : SelectionSet)
    → place n ≡ p → (content n).definition ≡ definition → typed_head (content n) ≡ head → (content n).selection_set ≡ set
    → meant (typed_selection_tree (Field' n)) ≡ MeantField p (unplaced_field_definition (field_definition_tree (content definition))) head (meant_of_set (typed_set_tree set))
field-meant n p definition head set ep ed eh es =
    ap meant (typed_tree_field n)
    ∙ (λ i. MeantField (ep i) (unplaced_field_definition (field_definition_tree (content (ed i)))) (eh i) (meant_of_set (typed_set_tree (es i))))
