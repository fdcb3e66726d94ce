use Rattle.std.proofs.Common.{◌<◌, length, arith}
use Rattle.graphql_names.specs.Placed.{node_tree}
use Rattle.tree_directives.specs.DirectiveTree.{directive_tree}
use Rattle.graphql_schema.specs.SchemaOf.{schema_tree}
use Rattle.rule_definitions.specs.Judged.{judged}
use Rattle.rule_warnings.specs.Views.{uses_of}
use Rattle.rule_warnings.specs.Told.{directive_uses}
use Rattle.rule_warnings.proofs.Found.{told_more, told_all}
use Rattle.rule_warnings.proofs.arguments.tell_directives.Goals as goal

pub loop-directive-preserved : goal.loop-directive-preserved
loop-directive-preserved c =
    let xs = c.args.directives.now in
    let i = c.loop-directive.directive-index in
    let h : i < length xs = omega arith in
    told_more (node_tree directive_tree) (directive_uses (judged (schema_tree c.args.schema.now))) (uses_of c.args.uses.now) xs i
    (uses_of c.loop-directive.uses) (uses_of c.tell_directive.new.uses) c.directive-item.result h c.directive-item.is c.loop-directive.invariant c.in_ok-tell_directive.ensures

pub returns : goal.returns
returns c =
    told_all (node_tree directive_tree) (directive_uses (judged (schema_tree c.args.schema.now))) (uses_of c.args.uses.now) c.args.directives.now
    c.loop-directive.directive-index (uses_of c.loop-directive.uses) c.loop-directive-test.false c.loop-directive.invariant
