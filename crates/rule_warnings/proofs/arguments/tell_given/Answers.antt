use Rattle.std.proofs.Common.{◌<◌, length, arith}
use Rattle.graphql_names.specs.Placed.{node_tree}
use Rattle.tree_directives.specs.DirectiveTree.{argument_tree}
use Rattle.graphql_schema.specs.SchemaOf.{schema_tree}
use Rattle.rule_definitions.specs.Judged.{judged}
use Rattle.rule_warnings.specs.Views.{uses_of}
use Rattle.rule_warnings.specs.Told.{argument_uses}
use Rattle.rule_warnings.specs.Telling.{kind_by, coordinate_by, plain_definitions}
use Rattle.rule_warnings.proofs.Found.{told_more, told_all}
use Rattle.rule_warnings.proofs.arguments.tell_given.Goals as goal

pub loop-argument-preserved : goal.loop-argument-preserved
loop-argument-preserved c =
    let xs = c.args.given.now in
    let i = c.loop-argument.argument-index in
    let h : i < length xs = omega arith in
    told_more (node_tree argument_tree) (argument_uses (judged (schema_tree c.args.schema.now)) (kind_by c.args.owner) (coordinate_by c.args.owner) (plain_definitions c.args.definitions.now)) (uses_of c.args.uses.now) xs i
    (uses_of c.loop-argument.uses) (uses_of c.tell_argument.new.uses) c.argument-item.result h c.argument-item.is c.loop-argument.invariant c.in_ok-tell_argument.ensures

pub returns : goal.returns
returns c =
    told_all (node_tree argument_tree) (argument_uses (judged (schema_tree c.args.schema.now)) (kind_by c.args.owner) (coordinate_by c.args.owner) (plain_definitions c.args.definitions.now)) (uses_of c.args.uses.now) c.args.given.now
    c.loop-argument.argument-index (uses_of c.loop-argument.uses) c.loop-argument-test.false c.loop-argument.invariant
