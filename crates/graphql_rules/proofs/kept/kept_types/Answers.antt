use Rattle.std.proofs.Common.{map, ap, ◌∙◌}
use Rattle.std.specs.Prelude.{fold}
use Rattle.schema_types.specs.TypeView.{name_text, extended_type}
use Rattle.rule_cycles.specs.in_schema.SchemaOf.{schema_tree}
use Rattle.rule_definitions.specs.Names.{scalar_names}
use Rattle.graphql_rules.specs.Putting.{and_kept, and_missing}
use Rattle.graphql_rules.proofs.Putting.{kept_in}
use Rattle.graphql_rules.proofs.kept.kept_types.Goals as goal

pub returns : goal.returns
returns c =
    let s = c.args.schema.now in
    let fresh = ap (λ es. fold (and_kept (schema_tree s)) (map (λ e. (name_text e.0, extended_type e.1)) es) (schema_tree s).types) c.in_ok-kept.ensures.empty in
    c.in_ok-put_back_scalars.ensures
    ∙ ap (λ es. fold (and_missing (schema_tree s)) es scalar_names) (c.in_ok-keep_types.ensures ∙ fresh)
    ∙ kept_in s c.len.ensures.unique
