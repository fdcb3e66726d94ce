use Rattle.std.proofs.Common.{◌++◌, [], map, sym, ap, ◌∙◌, append_assoc}
use Rattle.std.specs.Option.{option_map_or}
use Rattle.std.proofs.lemmas.List.{append-nil}
use Rattle.std.proofs.lemmas.Result.{on_ok_weaker}
use Rattle.schema_components.specs.Applied.{applied_tree}
use Rattle.schema_types.specs.Addresses.{applied}
use Rattle.schema_types.specs.TypeView.{extended_type}
use Rattle.graphql_schema.specs.SchemaOf.{schema_tree}
use Rattle.rule_cycles.specs.UseNumbers.{uses_references, part_uses, type_uses}
use Rattle.rule_cycles.specs.UseViews.{use_view}
use Rattle.rule_cycles.proofs.Numbering.{found_entry}
use Rattle.rule_cycles.proofs.uses.add_type_uses.Goals as goal

pub returns-in-None : goal.returns-in-None
returns-in-None c =
    let s = schema_tree c.args.schema.now in
    let before = map use_view c.args.references.now.items in
    let here = found_entry extended_type (λ e. type_uses s e.1) [] c.args.schema.now.types c.args.number c.get_index.result c.get_index.ensures.entry in
    sym (append-nil before)
    ∙ ap (λ l. before ++ l) (sym (here ∙ ap (λ r. option_map_or (λ p. type_uses s (extended_type p.1.now)) r []) c.in-None.is))

pub returns-in_ok-add_component_uses-in-Some : goal.returns-in_ok-add_component_uses-in-Some
returns-in_ok-add_component_uses-in-Some c =
    let s = schema_tree c.args.schema.now in
    let before = map use_view c.args.references.now.items in
    let uses = uses_references s (applied s (applied_tree c.directives.result.now)) in
    let parts = part_uses s (extended_type c.in-Some.ty.now) in
    let here = found_entry extended_type (λ e. type_uses s e.1) [] c.args.schema.now.types c.args.number c.get_index.result c.get_index.ensures.entry in
    on_ok_weaker c.add_parts.result
    (λ e.
    e
    ∙ ap (λ l. l ++ parts) c.in_ok-add_component_uses-in-Some.ensures
    ∙ append_assoc before uses parts
    ∙ ap (λ ds. before ++ (uses_references s (applied s ds) ++ parts)) c.directives.ensures
    ∙ ap (λ l. before ++ l) (sym (here ∙ ap (λ r. option_map_or (λ p. type_uses s (extended_type p.1.now)) r []) c.in-Some.is)))
    c.add_parts.ensures
