use Rattle.std.proofs.Common.{ℕ, List, Option, map, ap, subst, ◌∙◌}
use Rattle.std.specs.Borrow.{Bor}
use Rattle.std.proofs.lemmas.Iterator.Consumers.{YieldsList-end, YieldsList-from_rest}
use Rattle.graphql_names.specs.NameValue.{NameValue}
use Rattle.graphql_names.specs.Placed.{Placed, Place, node_tree}
use Rattle.graphql_names.specs.declared.node.Node.{Node}
use Rattle.tree_directives.specs.declared.directive.DirectiveDefinition.{DirectiveDefinition}
use Rattle.tree_directives.specs.DirectiveTree.{InputValues, DirectiveDefinitionTree, input_value_trees, directive_definition_tree}
use Rattle.schema_types.specs.TypeView.{name_text}
use Rattle.schema_inputs.specs.Inputs.{AreEach, AreKnownIfMany}
use Rattle.schema_inputs.specs.declared.known.KnownArguments.{KnownArguments}
use Rattle.schema_inputs.proofs.KnownInputs.{each_yielded}
use Rattle.schema_inputs.proofs.known.known_directives.Goals as goal

pub loop-definition-preserved : goal.loop-definition-preserved
loop-definition-preserved c =
    let g : NameValue × Node DirectiveDefinition → List ℕ × Placed Place (DirectiveDefinitionTree Place) = λ e. (name_text e.0, node_tree directive_definition_tree e.1) in
    let d : (Bor NameValue × Bor (Node DirectiveDefinition)) → NameValue × Node DirectiveDefinition = λ e. (e.0.now, e.1.now) in
    let own = subst (λ (vs : InputValues Place). AreKnownIfMany vs c.in_ok-known_arguments.field-0)
    (ap input_value_trees c.deref.ensures.value ∙ ap (λ (x : DirectiveDefinition). input_value_trees x.arguments.items) c.content.ensures) c.in_ok-known_arguments.ensures in
    let next = each_yielded (λ (e : List ℕ × Placed Place (DirectiveDefinitionTree Place)) kept. AreKnownIfMany e.1.it.arguments kept) g d c.loop-definition.yielded c.loop-definition.known.items c.push.new.self.items (c.in-Some.field-0-0, c.in-Some.definition) c.in_ok-known_arguments.field-0
    c.in_ok-push.ensures.items c.loop-definition.invariant.long c.loop-definition.invariant.each own in
    record { each = next.0; long = next.1 }

pub returns : goal.returns
returns c =
    let all = YieldsList-end (YieldsList-from_rest c.args.definitions.now.entries c.into_iter-definition-iterator.ensures.into_iter_gives.0) c.loop-definition.yielded c.loop-definition.definition-iterator c.loop-definition.yielded_by c.next.result c.next.new.self c.in-None.is c.next.ensures.steps in
    subst (λ (l : List (NameValue × Node DirectiveDefinition)). AreEach (λ (e : List ℕ × Placed Place (DirectiveDefinitionTree Place)) kept. AreKnownIfMany e.1.it.arguments kept) (map (λ (e : NameValue × Node DirectiveDefinition). (name_text e.0, node_tree directive_definition_tree e.1)) l) c.loop-definition.known.items) all.0 c.loop-definition.invariant.each
