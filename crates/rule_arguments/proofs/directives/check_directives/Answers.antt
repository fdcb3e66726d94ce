use Rattle.std.proofs.Common.{sym, subst, Option}
use Rattle.std.specs.Borrow.{Bor}
use Rattle.std.proofs.lemmas.Result.{on_ok_weaker}
use Rattle.rule_values.specs.in_schema.in_schema_types.Addresses.{place_at}
use Rattle.rule_values.specs.in_schema.SchemaOf.{schema_tree}
use Rattle.rule_values.specs.in_schema.declared.schema.Schema.{Schema}
use Rattle.rule_values.specs.in_rule_definitions.Judged.{judged}
use Rattle.rule_values.specs.in_rule_definitions.Uses.{UsesBreak}
use Rattle.rule_values.specs.in_fault_data.Adds.{Adds}
use Rattle.rule_values.specs.Wanting.{variables_of}
use Rattle.rule_arguments.specs.Trees.{directives_of, tree_of}
use Rattle.rule_arguments.proofs.directives.check_directives.Goals as goal

pub returns-in-None : goal.returns-in-None
returns-in-None c =
    on_ok_weaker c.check_undefined_uses.result
    (λ h. subst (λ (o : Option (Bor Schema)). Adds c.args.faults.now c.check_undefined_uses.new.faults (UsesBreak (place_at (tree_of o)) (judged (tree_of o)) (variables_of c.args.variables.now) c.args.location (directives_of c.args.directives.now))) (sym c.in-None.is) (h c.args.location))
    c.check_undefined_uses.ensures

pub returns-in-Some : goal.returns-in-Some
returns-in-Some c =
    on_ok_weaker c.check_uses.result
    (λ h. subst (λ (o : Option (Bor Schema)). Adds c.args.faults.now c.check_uses.new.faults (UsesBreak (place_at (tree_of o)) (judged (tree_of o)) (variables_of c.args.variables.now) c.args.location (directives_of c.args.directives.now))) (sym c.in-Some.is)
    (subst (λ (s : Schema). Adds c.args.faults.now c.check_uses.new.faults (UsesBreak (place_at (schema_tree s)) (judged (schema_tree s)) (variables_of c.args.variables.now) c.args.location (directives_of c.args.directives.now))) c.plain-schema.ensures h))
    c.check_uses.ensures
