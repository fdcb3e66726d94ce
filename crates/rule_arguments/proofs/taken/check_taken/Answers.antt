use Rattle.std.proofs.Common.{◌≡◌, [], take, sym, ap, ◌∙◌}
use Rattle.std.specs.List.{flat_map}
use Rattle.std.proofs.lemmas.Result.{on_ok_weaker}
use Rattle.tree_directives.specs.DirectiveTree.{input_value_trees}
use Rattle.rule_values.specs.in_fault_data.FaultView.{faults_of}
use Rattle.rule_values.specs.in_fault_data.Room.{◌⊕◌}
use Rattle.rule_values.specs.in_schema.SchemaOf.{schema_tree}
use Rattle.rule_values.specs.Wanting.{variables_of}
use Rattle.rule_arguments.specs.Trees.{arguments_of, taker_of}
use Rattle.rule_arguments.specs.UseFaults.{undefined_argument, required_argument}
use Rattle.rule_values.specs.in_rule_definitions.Words.{AtSomeIndex}
use Rattle.rule_arguments.specs.GivenArguments.{FirstGivenBreaks}
use Rattle.rule_values.proofs.in_rule_definitions.Listing.{empty_is, nowhere}
use Rattle.rule_values.proofs.in_fault_data.Adding.{gains_both, gains_list, gains_same, gains_nothing}
use Rattle.rule_arguments.proofs.Uses.{lists_undefined_arguments, lists_required_arguments, given_arguments}
use Rattle.rule_arguments.proofs.taken.check_taken.Goals as goal

-- nothing is given
pub returns-then-is_empty : goal.returns-then-is_empty
returns-then-is_empty c =
    let s = schema_tree c.args.schema.now in
    let vs = variables_of c.args.variables.now in
    let t = taker_of c.args.taker.now in
    let ds = input_value_trees c.args.taker.now.definitions.now in
    let a = faults_of c.args.faults.now in
    let d = faults_of c.tell_required_arguments.new.faults in
    let none : t.given ≡ [] = ap arguments_of (empty_is c.args.taker.now.given.now (sym c.is_empty.ensures ∙ c.if-is_empty.true)) in
    on_ok_weaker c.tell_required_arguments.result
    (λ e at places.
    gains_both a a d
    (gains_list a a (flat_map (undefined_argument t ds) t.given) (sym (ap (λ l. a ⊕ flat_map (undefined_argument t ds) l) none)) (lists_undefined_arguments at s vs t ds places.schema places.arguments))
    (gains_both a d d
    (gains_list a d (flat_map (required_argument t) ds) e (lists_required_arguments at s vs t ds places.schema places.arguments))
    (gains_same d d (given_arguments at s vs t ds places.schema places.arguments) (gains_nothing d (λ f. AtSomeIndex t.given (λ j x. FirstGivenBreaks s vs ds (take j t.given) x f)) (λ f. nowhere t.given (λ j x. FirstGivenBreaks s vs ds (take j t.given) x f) none)))))
    c.tell_required_arguments.ensures
