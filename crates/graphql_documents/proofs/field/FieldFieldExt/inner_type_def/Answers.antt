use Rattle.std.proofs.Common.{ap, ◌∙◌}
use Rattle.graphql_names.specs.Placed.{Place, Text}
use Rattle.document_typing.specs.in_literals.TypeQueries.{inner_name}
use Rattle.schema_types.specs.Addresses.{type_at}
use Rattle.document_typing.specs.in_schema.SchemaOf.{schema_tree}
use Rattle.graphql_documents.proofs.field.FieldFieldExt.inner_type_def.Goals as goal

pub returns : goal.returns
returns c =
    c.type_named.ensures
    ∙ ap (λ (t : Text Place). type_at (schema_tree c.args.schema.now) t.it) (c.inner_named_type.ensures ∙ ap inner_name c.ty.ensures)
