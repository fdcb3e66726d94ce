-- `==` of arguments, directives and their definitions says whether their trees are the same, apart from places.
use Rattle.std.proofs.Common.{◌≡◌, Bool, refl, ap}
use Rattle.std.specs.Bool.{Decides}
use Rattle.std.specs.Cmp.{booleans_Decides}
use Rattle.std.proofs.lemmas.Slice.Eq.{slice_eq-Decides}
use denote.Enum.Bare.{same_true, true_same}
use Rattle.tree_directives.specs.in_literals.in_names.Placed.{text_tree, unplaced_text}
use Rattle.tree_directives.specs.in_literals.TypeTree.{type_tree, unplaced_type}
use Rattle.tree_directives.specs.in_literals.ValueTree.{value_tree, unplaced_value}
use Rattle.tree_directives.specs.DirectiveTree.{ArgumentTree, DirectiveTree, InputValueTree, DirectiveDefinitionTree, argument_tree, directive_tree, directives_tree, input_value_tree, directive_definition_tree, unplaced_argument, unplaced_directive, unplaced_directives, unplaced_input_value, unplaced_directive_definition}
use Rattle.tree_operations.proofs.Decided.{through, pair_decides, name_decides, text_decides, node_decides, nodes_decide, options_decide}
use Rattle.tree_operations.proofs.TypeEquality.{type_eq, type_eq-Decides}
use Rattle.tree_operations.proofs.ValueEquality.{value_eq, value_eq-Decides}
use Rattle.tree_directives.specs.declared.directive.Argument.{Argument}
use Rattle.tree_directives.specs.declared.directive.Directive.{Directive}
use Rattle.tree_directives.specs.declared.directive.DirectiveList.{DirectiveList}
use Rattle.tree_directives.specs.declared.directive.DirectiveDefinition.{DirectiveDefinition}
use Rattle.tree_directives.specs.declared.directive_location.DirectiveLocation.{DirectiveLocation}
use Rattle.tree_directives.specs.declared.input_value.InputValueDefinition.{InputValueDefinition}
use Rattle.tree_directives.specs.contracts.directive_location.DirectiveLocation.{the_type}
use Rattle.tree_directives.specs.contracts.directive_location.DirectiveLocationPartialEq.TheImpl as location
use Rattle.tree_directives.specs.contracts.directive.ArgumentPartialEq.TheImpl as argument
use Rattle.tree_directives.specs.contracts.directive.DirectivePartialEq.TheImpl as directive
use Rattle.tree_directives.specs.contracts.directive.DirectiveListPartialEq.TheImpl as directive_list
use Rattle.tree_directives.specs.contracts.directive.DirectiveDefinitionPartialEq.TheImpl as directive_definition
use Rattle.tree_directives.specs.contracts.input_value.InputValueDefinitionPartialEq.TheImpl as input_value

abbrev pub argument_eq : Argument → Argument → Bool
argument_eq = argument.ghosts.eq

abbrev pub directive_eq : Directive → Directive → Bool
directive_eq = directive.ghosts.eq

abbrev pub directive_list_eq : DirectiveList → DirectiveList → Bool
directive_list_eq = directive_list.ghosts.eq

abbrev pub input_value_eq : InputValueDefinition → InputValueDefinition → Bool
input_value_eq = input_value.ghosts.eq

abbrev pub directive_definition_eq : DirectiveDefinition → DirectiveDefinition → Bool
directive_definition_eq = directive_definition.ghosts.eq

abbrev pub location_eq : DirectiveLocation → DirectiveLocation → Bool
location_eq = location.ghosts.eq

pub location_eq-Decides : (a b : DirectiveLocation) → Decides (location_eq a b) (a ≡ b)
location_eq-Decides a b = (same_true the_type tt a b, true_same the_type a b)

pub argument_eq-Decides : (a b : Argument) → Decides (argument_eq a b) (unplaced_argument (argument_tree a) ≡ unplaced_argument (argument_tree b))
argument_eq-Decides a b =
    through
    (pair_decides _ _ (name_decides a.name b.name) (node_decides value_eq unplaced_value value_tree value_eq-Decides a.value b.value))
    (λ s i. record { name = s.0 i; value = s.1 i })
    (λ r. (ap (λ (t : ArgumentTree (Unit {0})). t.name) r, ap (λ (t : ArgumentTree (Unit {0})). t.value) r))

pub directive_eq-Decides : (a b : Directive) → Decides (directive_eq a b) (unplaced_directive (directive_tree a) ≡ unplaced_directive (directive_tree b))
directive_eq-Decides a b =
    through
    (pair_decides _ _ (name_decides a.name b.name) (nodes_decide argument_eq unplaced_argument argument_tree argument_eq-Decides a.arguments.items b.arguments.items))
    (λ s i. record { name = s.0 i; arguments = s.1 i })
    (λ r. (ap (λ (t : DirectiveTree (Unit {0})). t.name) r, ap (λ (t : DirectiveTree (Unit {0})). t.arguments) r))

pub directive_list_eq-Decides : (a b : DirectiveList) → Decides (directive_list_eq a b) (unplaced_directives (directives_tree a) ≡ unplaced_directives (directives_tree b))
directive_list_eq-Decides a b = nodes_decide directive_eq unplaced_directive directive_tree directive_eq-Decides a.0.items b.0.items

pub input_value_eq-Decides : (a b : InputValueDefinition) → Decides (input_value_eq a b) (unplaced_input_value (input_value_tree a) ≡ unplaced_input_value (input_value_tree b))
input_value_eq-Decides a b =
    through
    (pair_decides _ _ (options_decide _ unplaced_text text_tree text_decides a.description b.description)
    (pair_decides _ _ (name_decides a.name b.name)
    (pair_decides _ _ (node_decides type_eq unplaced_type type_tree type_eq-Decides a.ty b.ty)
    (pair_decides _ _ (options_decide _ _ _ (node_decides value_eq unplaced_value value_tree value_eq-Decides) a.default_value b.default_value)
    (directive_list_eq-Decides a.directives b.directives)))))
    (λ s i. record { description = s.0 i; name = s.1.0 i; ty = s.1.1.0 i; default_value = s.1.1.1.0 i; directives = s.1.1.1.1 i })
    (λ r. (ap (λ (t : InputValueTree (Unit {0})). t.description) r, (ap (λ (t : InputValueTree (Unit {0})). t.name) r, (ap (λ (t : InputValueTree (Unit {0})). t.ty) r, (ap (λ (t : InputValueTree (Unit {0})). t.default_value) r, ap (λ (t : InputValueTree (Unit {0})). t.directives) r)))))

pub directive_definition_eq-Decides : (a b : DirectiveDefinition) → Decides (directive_definition_eq a b) (unplaced_directive_definition (directive_definition_tree a) ≡ unplaced_directive_definition (directive_definition_tree b))
directive_definition_eq-Decides a b =
    through
    (pair_decides _ _ (options_decide _ unplaced_text text_tree text_decides a.description b.description)
    (pair_decides _ _ (name_decides a.name b.name)
    (pair_decides _ _ (nodes_decide input_value_eq unplaced_input_value input_value_tree input_value_eq-Decides a.arguments.items b.arguments.items)
    (pair_decides _ _ (directive_list_eq-Decides a.directives b.directives)
    (pair_decides _ _ (booleans_Decides a.repeatable b.repeatable)
    (slice_eq-Decides location_eq-Decides a.locations.items b.locations.items _ refl))))))
    (λ s i. record { description = s.0 i; name = s.1.0 i; arguments = s.1.1.0 i; directives = s.1.1.1.0 i; repeatable = s.1.1.1.1.0 i; locations = s.1.1.1.1.1 i })
    (λ r. (ap (λ (t : DirectiveDefinitionTree (Unit {0})). t.description) r, (ap (λ (t : DirectiveDefinitionTree (Unit {0})). t.name) r, (ap (λ (t : DirectiveDefinitionTree (Unit {0})). t.arguments) r, (ap (λ (t : DirectiveDefinitionTree (Unit {0})). t.directives) r, (ap (λ (t : DirectiveDefinitionTree (Unit {0})). t.repeatable) r, ap (λ (t : DirectiveDefinitionTree (Unit {0})). t.locations) r))))))
