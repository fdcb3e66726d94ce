use Rattle.std.proofs.Common.{◌≡◌, ◌↔◌, List, [], ◌∷◌, Contains, sym, ap, subst, ◌∙◌}
use Rattle.std.specs.Prelude.{IsTrue}
use Rattle.std.proofs.lemmas.Result.{on_ok_weaker}
use Rattle.std.proofs.lemmas.List.Elements.{same_from_all_zip}
use Rattle.graphql_names.specs.NameValue.{NameValue}
use Rattle.graphql_names.specs.Node.{content}
use Rattle.graphql_names.specs.Placed.{node_tree}
use Rattle.tree_directives.specs.DirectiveTree.{directive_tree, directive_definition_tree}
use Rattle.tree_directives.specs.declared.directive.Directive.{Directive}
use Rattle.tree_directives.specs.declared.directive.DirectiveDefinition.{DirectiveDefinition}
use Rattle.tree_directives.specs.declared.directive_location.DirectiveLocation.{DirectiveLocation}
use Rattle.rule_values.specs.in_fault_data.FaultView.{faults_of}
use Rattle.rule_values.specs.in_fault_data.Room.{◌⊕◌}
use Rattle.rule_values.specs.in_rule_definitions.Diagnostics.{UnsupportedLocation}
use Rattle.rule_values.specs.in_rule_definitions.Faults.{wrong}
use Rattle.rule_values.specs.in_rule_definitions.PlacedFaults.{PlacedFault}
use Rattle.rule_arguments.specs.UseFaults.{unsupported_location}
use Rattle.rule_arguments.proofs.directives.unsupported_location.Goals as goal

pub returns : goal.returns
returns c =
    let may = c.has_location.result in
    let d = node_tree directive_tree c.args.directive.now in
    let e = node_tree directive_definition_tree c.args.definition.now in
    let listed = c.deref.ensures.value ∙ ap (λ (x : DirectiveDefinition). x.locations.items) c.content.ensures in
    let copied : c.in_ok-valid_locations.valid_locations.items ≡ (content c.args.definition.now).locations.items = same_from_all_zip _ _ _ c.in_ok-valid_locations.ensures.cases.0 (λ x y same. same) ∙ ap (λ (x : DirectiveDefinition). x.locations.items) c.content.ensures in
    let text = ap (λ (n : NameValue). n.text) c.in_ok-clone.ensures.same ∙ ap (λ (x : Directive). x.name.text) c.content-2.ensures in
    on_ok_weaker c.tell.result
    (λ told. (
      may,
      (
        subst (λ (l : List DirectiveLocation). IsTrue may ↔ Contains l c.args.location) listed c.has_location.ensures,
        told ∙ ap (λ (l : List PlacedFault). faults_of c.args.faults.now ⊕ l) (
            (λ i. wrong (c.location-place.ensures i) (UnsupportedLocation (text i) c.args.location (copied i) (c.location.ensures i)) ∷ [])
            ∙ ap (λ b. unsupported_location b e c.args.location d) (sym c.if-has_location.false)),
      ),
    ))
    c.tell.ensures.told
