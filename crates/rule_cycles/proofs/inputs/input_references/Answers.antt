use Rattle.std.proofs.Common.{◌≡◌, [], map, sym, ap, subst, ◌∙◌, IfOk}
use Rattle.std.specs.Option.{option_map_or}
use Rattle.schema_types.specs.TypeView.{extended_type}
use Rattle.graphql_schema.specs.SchemaOf.{schema_tree}
use Rattle.rule_cycles.specs.Numbers.{input_references}
use Rattle.rule_cycles.specs.ReferenceViews.{input_reference_view}
use Rattle.rule_cycles.proofs.Numbering.{found_entry}
use Rattle.rule_cycles.proofs.inputs.input_references.Goals as goal

pub returns-in-Some : goal.returns-in-Some
returns-in-Some c =
    let es = (schema_tree c.args.schema.now).types in
    subst (λ l. IfOk c.references_of_type.result (λ r. map input_reference_view r.items ≡ l))
    (
    sym (found_entry extended_type (λ e. input_references es e.1) [] c.args.schema.now.types c.args.number c.get_index.result c.get_index.ensures.entry
    ∙ ap (λ r. option_map_or (λ p. input_references es (extended_type p.1.now)) r []) c.in-Some.is)
    )
    c.references_of_type.ensures
