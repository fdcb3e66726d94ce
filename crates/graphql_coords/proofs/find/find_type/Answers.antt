use Rattle.std.proofs.Common.{Bor, ap, ◌∙◌}
use Rattle.graphql_coords.specs.LookUpView.{answer}
use Rattle.graphql_coords.specs.declared.lookup_answers.SchemaLookupError.TheVariants as error
use Rattle.graphql_coords.proofs.Answering.{answer_ok_or}
use Rattle.graphql_schema.specs.in_schema_types.TypeView.{extended_type}
use Rattle.graphql_schema.specs.in_schema_types.declared.extended_type.ExtendedType.{ExtendedType}
use Rattle.graphql_coords.proofs.find.find_type.Goals as goal

pub returns : goal.returns
returns c =
    let view = λ (t : Bor ExtendedType). extended_type t.now in
    ap (answer view) c.ok_or.ensures.value
    ∙ answer_ok_or view (error.MissingType c.args.name) c.type_named-found.result _ c.type_named-found.ensures
