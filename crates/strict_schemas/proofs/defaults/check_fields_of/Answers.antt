use Rattle.std.proofs.Common.{sym, ap, subst, ◌∙◌}
use Rattle.std.proofs.lemmas.Result.{on_ok_weaker}
use Rattle.schema_types.specs.TypeView.{extended_type}
use Rattle.graphql_schema.specs.SchemaOf.{schema_tree}
use Rattle.rule_definitions.proofs.Adding.{gains_nothing}
use Rattle.rule_definitions.proofs.Listing.{nowhere}
use Rattle.fault_data.specs.Adds.{Adds}
use Rattle.fault_data.specs.FaultView.{faults_of}
use Rattle.strict_schemas.specs.FaultsIn.{ArgumentDefaults, DefaultsIn}
use Rattle.strict_schemas.specs.Told.{field_entries}
use Rattle.strict_schemas.proofs.defaults.check_fields_of.Goals as goal

pub returns-in-None : goal.returns-in-None
returns-in-None c =
    let s = schema_tree c.args.schema.now in
    let es = (extended_type c.args.ty.now).fields in
    gains_nothing (faults_of c.args.faults.now) (ArgumentDefaults s es) (λ f. nowhere es (λ k e. DefaultsIn s e.1.it.it.arguments f) (sym c.fields_of.ensures ∙ ap field_entries c.in-None.is))

pub returns-in-Some : goal.returns-in-Some
returns-in-Some c =
    on_ok_weaker c.check_fields.result
    (subst (λ es. Adds c.args.faults.now c.check_fields.new.faults (ArgumentDefaults (schema_tree c.args.schema.now) es)) (ap field_entries (sym c.in-Some.is) ∙ c.fields_of.ensures))
    c.check_fields.ensures
