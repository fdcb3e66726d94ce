use Rattle.std.proofs.Common.{◌<◌, take, length, ap, ◌∙◌, arith}
use Rattle.graphql_names.specs.Placed.{node_tree}
use Rattle.tree_directives.specs.DirectiveTree.{directive_tree}
use Rattle.tree_directives.specs.declared.directive.Directive.{Directive}
use Rattle.rule_values.specs.in_schema.in_schema_types.Addresses.{directive_definition_at}
use Rattle.rule_values.specs.in_schema.SchemaOf.{schema_tree}
use Rattle.rule_values.specs.in_fault_data.FaultView.{faults_of}
use Rattle.rule_values.specs.in_rule_definitions.Names.{directive_name}
use Rattle.rule_values.specs.Firsts.{first_told}
use Rattle.rule_values.proofs.in_inputs.Noted.{noted_next}
use Rattle.rule_arguments.specs.Trees.{directives_of}
use Rattle.rule_arguments.specs.UseFaults.{repeated_directive}
use Rattle.rule_arguments.proofs.Again.{directive_again_is}
use Rattle.rule_values.proofs.in_fault_data.Adding.{places_more}
use Rattle.rule_arguments.proofs.directives.tell_directives_again.Goals as goal

pub loop-directive-preserved : goal.loop-directive-preserved
loop-directive-preserved c =
    let s = schema_tree c.args.schema.now in
    let xs = c.args.directives.now in
    let i = c.loop-directive.directive-index in
    let x = c.directive-item.result in
    let h : i < length xs = omega arith in
    let before = directives_of (take i xs) in
    let noted = c.loop-directive.invariant.noted in
    let named = ap (λ (d : Directive). d.name.text) c.content.ensures in
    let first = c.in_ok-first.ensures.there ∙ noted c.content.result.now.name ∙ ap (first_told directive_name (λ j d. d.place) before) named in
    record {
      told = places_more (node_tree directive_tree) (λ before d. repeated_directive (directive_definition_at s (directive_name d)) before d) (faults_of c.args.faults.now) (faults_of c.loop-directive.faults) (faults_of c.unique_directive.new.faults) _ xs i x h c.directive-item.is
          c.loop-directive.invariant.told c.in_ok-unique_directive.ensures
          (directive_again_is (directive_definition_at s (directive_name (node_tree directive_tree x))) before (node_tree directive_tree x) c.in_ok-first.first first);
      noted = noted_next directive_name (node_tree directive_tree) (λ j d. d.place) c.loop-directive.places c.note_first.new.firsts c.content.result.now.name c.location.result xs i x h c.directive-item.is named c.location.ensures
          c.in_ok-first.ensures.noted noted;
    }
