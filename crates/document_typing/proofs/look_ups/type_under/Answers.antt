use Rattle.std.proofs.Common.{ap, sym, ◌∙◌}
use Rattle.graphql_schema.specs.SchemaOf.{schema_tree}
use Rattle.document_typing.specs.KeptSelections.{is_leaf}
use Rattle.document_typing.specs.MeaningView.{meanings_under}
use Rattle.document_typing.proofs.FieldsFound.{leaf-found}
use Rattle.document_typing.proofs.look_ups.type_under.Goals as goal

pub returns-in-Some-clause-leaf : goal.returns-in-Some-clause-leaf
returns-in-Some-clause-leaf c =
    leaf-found (schema_tree c.in-Some.schema.now) c.args.name.now.text c.type_named.result c.type_named.ensures.unplaced
    ∙ ap (λ s. is_leaf (meanings_under s) c.args.name.now.text) (sym c.in-Some.is)
