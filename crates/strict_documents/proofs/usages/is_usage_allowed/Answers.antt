use Rattle.std.proofs.Common.{◌∙◌, ap, sym}
use Rattle.tree_literals.specs.TypeTree.{type_tree, unplaced_type}
use Rattle.tree_literals.specs.TypeQueries.{nullable_type}
use Rattle.tree_literals.specs.declared.ty.«Type».{«Type»}
use Rattle.tree_operations.specs.OperationTree.{variable_definition_tree}
use Rattle.strict_documents.specs.ValueLetter.{are_types_compatible}
use Rattle.strict_documents.specs.Given.{location_of}
use Rattle.strict_documents.proofs.Types.{decided, same_nullable, allowed_plainly, refused, allowed_by_default}
use Rattle.strict_documents.proofs.usages.is_usage_allowed.Goals as goal

pub returns-then-not-needs_default : goal.returns-then-not-needs_default
returns-then-not-needs_default c =
    allowed_plainly (variable_definition_tree c.args.variable.now) (location_of c.args.location) c.is_assignable_to.result (sym c.needs_default.ensures ∙ c.if-not-needs_default.true)
    (decided c.is_assignable_to.result (type_tree c.content-ty.result.now) (type_tree c.args.location.ty.now) c.is_assignable_to.ensures
    ∙ ap (λ (t : «Type»). are_types_compatible (unplaced_type (type_tree t)) (unplaced_type (type_tree c.args.location.ty.now))) c.content-ty.ensures)

pub returns-then-not-has_default : goal.returns-then-not-has_default
returns-then-not-has_default c =
    refused (variable_definition_tree c.args.variable.now) (location_of c.args.location) (sym c.needs_default.ensures ∙ c.if-not-needs_default.false)
    (sym c.has_default.ensures ∙ c.if-not-has_default.true)

pub returns : goal.returns
returns c =
    allowed_by_default (variable_definition_tree c.args.variable.now) (location_of c.args.location) c.is_assignable_to_nullable.result (sym c.needs_default.ensures ∙ c.if-not-needs_default.false)
    (sym c.has_default.ensures ∙ c.if-not-has_default.false)
    (decided c.is_assignable_to_nullable.result (type_tree c.content-ty.result.now) (nullable_type (type_tree c.args.location.ty.now)) c.is_assignable_to_nullable.ensures
    ∙ ap (λ (t : «Type»). are_types_compatible (unplaced_type (type_tree t)) (unplaced_type (nullable_type (type_tree c.args.location.ty.now)))) c.content-ty.ensures
    ∙ ap (λ t. are_types_compatible (unplaced_type (variable_definition_tree c.args.variable.now).ty.it) t) (same_nullable (type_tree c.args.location.ty.now)))
