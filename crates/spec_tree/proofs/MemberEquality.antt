-- The derived `==` of the members of types decides whether their trees are the same, apart from places.
use Rattle.std.proofs.Common.{◌≡◌, ap}
use Rattle.std.specs.Bool.{Decides}
use Rattle.tree_operations.specs.Placed.{text_tree, unplaced_text}
use Rattle.tree_operations.specs.DirectiveTree.{input_value_tree, unplaced_input_value}
use Rattle.tree_type_members.specs.TypeSystemTree.{enum_value_tree, field_definition_tree, unplaced_enum_value, unplaced_field_definition}
use Rattle.tree_type_members.specs.declared.field_definition.FieldDefinition.{FieldDefinition}
use Rattle.tree_type_members.specs.declared.enum_value.EnumValueDefinition.{EnumValueDefinition}
use Rattle.tree_type_members.specs.contracts.field_definition.FieldDefinitionPartialEq.TheImpl as field_definition_impl
use Rattle.tree_type_members.specs.contracts.enum_value.EnumValueDefinitionPartialEq.TheImpl as enum_value_impl
use Rattle.tree_operations.proofs.Decided.{through, pair_decides, nodes_decide, options_decide, name_decides, text_decides}
use Rattle.tree_operations.proofs.TypeEquality.{type_eq-Decides}
use Rattle.tree_operations.proofs.DirectiveEquality.{directive_list_eq-Decides, input_value_eq-Decides}

pub field_definition_eq-Decides : (a b : FieldDefinition) → Decides (field_definition_impl.ghosts.eq a b) (unplaced_field_definition (field_definition_tree a) ≡ unplaced_field_definition (field_definition_tree b))
field_definition_eq-Decides a b =
    through
    (pair_decides _ _ (options_decide _ unplaced_text text_tree text_decides a.description b.description)
    (pair_decides _ _ (name_decides a.name b.name)
    (pair_decides _ _ (nodes_decide _ unplaced_input_value input_value_tree input_value_eq-Decides a.arguments.items b.arguments.items)
    (pair_decides _ _ (type_eq-Decides a.ty b.ty)
    (directive_list_eq-Decides a.directives b.directives)))))
    (λ h i. record { description = h.0 i; name = h.1.0 i; arguments = h.1.1.0 i; ty = h.1.1.1.0 i; directives = h.1.1.1.1 i })
    (λ e. (ap (λ t. t.description) e, (ap (λ t. t.name) e, (ap (λ t. t.arguments) e, (ap (λ t. t.ty) e, ap (λ t. t.directives) e)))))

pub enum_value_eq-Decides : (a b : EnumValueDefinition) → Decides (enum_value_impl.ghosts.eq a b) (unplaced_enum_value (enum_value_tree a) ≡ unplaced_enum_value (enum_value_tree b))
enum_value_eq-Decides a b =
    through
    (pair_decides _ _ (options_decide _ unplaced_text text_tree text_decides a.description b.description)
    (pair_decides _ _ (name_decides a.value b.value)
    (directive_list_eq-Decides a.directives b.directives)))
    (λ h i. record { description = h.0 i; value = h.1.0 i; directives = h.1.1 i })
    (λ e. (ap (λ t. t.description) e, (ap (λ t. t.value) e, ap (λ t. t.directives) e)))
