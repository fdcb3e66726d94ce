use Rattle.std.proofs.Common.{◌&&◌, is_none, option_map, ap, sym, ◌∙◌}
use Rattle.schema_types.specs.TypeView.{extended_type}
use Rattle.rule_cycles.specs.in_schema.SchemaOf.{schema_tree}
use Rattle.rule_definitions.specs.Kept.{is_referenced}
use Rattle.graphql_rules.proofs.kept.is_missing.Goals as goal

pub returns-in-None : goal.returns-in-None
returns-in-None c =
    let s = c.args.schema.now in
    let n = c.args.name.now in
    c.is_referenced.ensures ∙ ap (λ t. is_referenced t (schema_tree s)) c.as_str.ensures.value ∙ ap (λ o. is_none o && is_referenced n.text (schema_tree s)) (sym (ap (option_map (λ t. extended_type t.now)) c.in-None.is) ∙ c.type_named.ensures)

pub returns-in-Some : goal.returns-in-Some
returns-in-Some c =
    let s = c.args.schema.now in
    let n = c.args.name.now in
    ap (λ o. is_none o && is_referenced n.text (schema_tree s)) (sym (ap (option_map (λ t. extended_type t.now)) c.in-Some.is) ∙ c.type_named.ensures)
