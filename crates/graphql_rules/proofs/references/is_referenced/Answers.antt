use Rattle.std.proofs.Common.{◌||◌, ap, sym, ◌∙◌}
use Rattle.std.specs.List.{list_any}
use Rattle.rule_cycles.specs.in_schema.SchemaOf.{schema_tree}
use Rattle.rule_definitions.specs.Kept.{is_inside_arguments}
use Rattle.graphql_rules.proofs.Putting.{types_inside, directives_inside}
use Rattle.graphql_rules.proofs.references.is_referenced.Goals as goal

pub returns-then-is_inside_types : goal.returns-then-is_inside_types
returns-then-is_inside_types c =
    let s = c.args.schema.now in
    let n = c.args.name.now in
    let is = c.is_inside_types.ensures ∙ types_inside n s.types c.as_slice.result.now (c.as_slice.ensures ∙ c.values.ensures.rest) in
    c.if-is_inside_types.true ∙ ap (λ b. b || list_any (λ e. is_inside_arguments n e.1.it.arguments) (schema_tree s).directives) (sym c.if-is_inside_types.true ∙ is)

pub returns-else-is_inside_types : goal.returns-else-is_inside_types
returns-else-is_inside_types c =
    let s = c.args.schema.now in
    let n = c.args.name.now in
    let is = c.is_inside_types.ensures ∙ types_inside n s.types c.as_slice.result.now (c.as_slice.ensures ∙ c.values.ensures.rest) in
    c.is_inside_directives.ensures
    ∙ directives_inside n s.directive_definitions c.as_slice-else-is_inside_types.result.now (c.as_slice-else-is_inside_types.ensures ∙ c.values-else-is_inside_types.ensures.rest)
    ∙ ap (λ b. b || list_any (λ e. is_inside_arguments n e.1.it.arguments) (schema_tree s).directives) (sym c.if-is_inside_types.false ∙ is)
