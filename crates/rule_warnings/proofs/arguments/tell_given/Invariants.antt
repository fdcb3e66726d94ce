use Rattle.std.proofs.Common.{◌≡◌, take}
use Rattle.graphql_schema.specs.SchemaOf.{schema_tree}
use Rattle.rule_definitions.specs.Judged.{judged}
use Rattle.rule_definitions.specs.Room.{◌⊕◌}
use Rattle.rule_warnings.specs.Views.{uses_of}
use Rattle.rule_warnings.specs.Told.{given_uses}
use Rattle.rule_warnings.specs.Telling.{kind_by, coordinate_by, plain_definitions, given_arguments}
use Rattle.rule_warnings.proofs.arguments.tell_given.Given as goal

abbrev pub invariant-loop-argument : goal.invariant-loop-argument
invariant-loop-argument l = uses_of l.uses ≡ uses_of l.fn.uses ⊕ given_uses (judged (schema_tree l.schema)) (kind_by l.owner) (coordinate_by l.owner) (plain_definitions l.definitions) (given_arguments (take l.argument-index l.given))
