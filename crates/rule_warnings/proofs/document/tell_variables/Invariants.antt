use Rattle.std.proofs.Common.{◌≡◌, take}
use Rattle.graphql_schema.specs.SchemaOf.{schema_tree}
use Rattle.rule_definitions.specs.Judged.{judged}
use Rattle.rule_definitions.specs.Room.{◌⊕◌}
use Rattle.rule_warnings.specs.Views.{uses_of}
use Rattle.rule_warnings.specs.Told.{variables_uses}
use Rattle.rule_warnings.specs.Telling.{defined_variables}
use Rattle.rule_warnings.proofs.document.tell_variables.Given as goal

abbrev pub invariant-loop-variable : goal.invariant-loop-variable
invariant-loop-variable l = uses_of l.uses ≡ uses_of l.fn.uses ⊕ variables_uses (judged (schema_tree l.schema)) (defined_variables (take l.variable-index l.variables))
