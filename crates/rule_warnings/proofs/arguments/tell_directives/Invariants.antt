use Rattle.std.proofs.Common.{◌≡◌, take}
use Rattle.graphql_schema.specs.SchemaOf.{schema_tree}
use Rattle.rule_definitions.specs.Judged.{judged}
use Rattle.rule_definitions.specs.Room.{◌⊕◌}
use Rattle.rule_warnings.specs.Views.{uses_of}
use Rattle.rule_warnings.specs.Told.{directives_uses}
use Rattle.rule_warnings.specs.Telling.{applied_directives}
use Rattle.rule_warnings.proofs.arguments.tell_directives.Given as goal

abbrev pub invariant-loop-directive : goal.invariant-loop-directive
invariant-loop-directive l = uses_of l.uses ≡ uses_of l.fn.uses ⊕ directives_uses (judged (schema_tree l.schema)) (applied_directives (take l.directive-index l.directives))
