use Rattle.std.proofs.Common.{◌∙◌, ap}
use Rattle.graphql_names.specs.NameValue.{NameValue}
use Rattle.schema_coordinates.specs.Coordinate.{OfAttribute}
use Rattle.document_typed_selections.specs.declared.selection.Field.{Field}
use Rattle.rule_definitions.specs.Diagnostics.{MissingSubselection}
use Rattle.rule_definitions.specs.Faults.{wrong}
use Rattle.rule_selections.proofs.FieldKinds.{output_name}
use Rattle.rule_selections.proofs.fields.told_missing.Goals as goal

pub returns : goal.returns
returns c =
    let is = c.content-selected.ensures in
    let attribute = c.in_ok-coordinate.ensures.1 ∙ ap (λ (f : Field). f.name.text) is in
    let output = ap (λ (n : NameValue). n.text) c.in_ok-clone.ensures.same ∙ output_name c.args.field.now c.content-selected.result.now c.ty.result.now c.inner_named_type.result.now is c.ty.ensures c.inner_named_type.ensures in
    λ i. wrong (c.location-location.ensures i) (MissingSubselection (OfAttribute (c.in_ok-coordinate.ensures.0 i) (attribute i)) (output i) (c.describe.ensures i))
