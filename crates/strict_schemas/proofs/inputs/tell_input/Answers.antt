use Rattle.std.proofs.Common.{◌∙◌, ap}
use Rattle.std.proofs.lemmas.Result.{on_ok_weaker}
use Rattle.graphql_names.specs.Placed.{node_tree}
use Rattle.tree_directives.specs.DirectiveTree.{input_value_tree}
use Rattle.tree_directives.specs.declared.input_value.InputValueDefinition.{InputValueDefinition}
use Rattle.graphql_schema.specs.SchemaOf.{schema_tree}
use Rattle.rule_definitions.specs.Room.{◌⊕◌}
use Rattle.strict_documents.specs.DepartureViews.{departures_of}
use Rattle.strict_schemas.specs.Departing.{deprecated_departures, default_departures}
use Rattle.strict_schemas.proofs.Found.{next}
use Rattle.strict_schemas.proofs.inputs.tell_input.Goals as goal

pub returns : goal.returns
returns c =
    let s = schema_tree c.args.schema.now in
    let v = node_tree input_value_tree c.args.input.now in
    let mid = departures_of c.tell_deprecated.new.departures in
    on_ok_weaker c.tell_default.result
    (λ told.
    next (departures_of c.args.departures.now) mid (departures_of c.tell_default.new.departures) (deprecated_departures v) (default_departures s v.it) c.in_ok-tell_deprecated.ensures
    (told ∙ ap (λ (x : InputValueDefinition). mid ⊕ default_departures s (input_value_tree x)) c.content.ensures))
    c.tell_default.ensures
