use Rattle.std.proofs.Common.{ap, sym, ◌∙◌}
use Rattle.std.specs.Map.{values_of}
use Rattle.graphql_names.specs.Node.{content, place}
use Rattle.schema_types.specs.TypeView.{extended_type}
use Rattle.rule_definitions.specs.Kept.{is_inside_type}
use Rattle.graphql_rules.proofs.Putting.{object_inside, interface_inside, input_inside}
use Rattle.graphql_rules.proofs.references.is_inside_type.Goals as goal

pub returns-in-Object : goal.returns-in-Object
returns-in-Object c =
    c.is_inside_fields.ensures
    ∙ object_inside c.args.name.now (place c.in-Object.object) (content c.in-Object.object) c.as_slice.result.now (c.as_slice.ensures ∙ c.values.ensures.rest ∙ ap (λ t. values_of t.fields.entries) c.content.ensures)
    ∙ ap (λ t. is_inside_type c.args.name.now (extended_type t)) (sym c.in-Object.is)

pub returns-in-Interface : goal.returns-in-Interface
returns-in-Interface c =
    c.is_inside_fields-in-Interface.ensures
    ∙ interface_inside c.args.name.now (place c.in-Interface.interface) (content c.in-Interface.interface) c.as_slice-in-Interface.result.now (c.as_slice-in-Interface.ensures ∙ c.values-in-Interface.ensures.rest ∙ ap (λ t. values_of t.fields.entries) c.content-in-Interface.ensures)
    ∙ ap (λ t. is_inside_type c.args.name.now (extended_type t)) (sym c.in-Interface.is)

pub returns-in-InputObject : goal.returns-in-InputObject
returns-in-InputObject c =
    c.is_inside_inputs.ensures
    ∙ input_inside c.args.name.now (place c.in-InputObject.input) (content c.in-InputObject.input) c.as_slice-in-InputObject.result.now (c.as_slice-in-InputObject.ensures ∙ c.values-in-InputObject.ensures.rest ∙ ap (λ t. values_of t.fields.entries) c.content-in-InputObject.ensures)
    ∙ ap (λ t. is_inside_type c.args.name.now (extended_type t)) (sym c.in-InputObject.is)
