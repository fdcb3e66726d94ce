use Rattle.std.proofs.Common.{sym, ap, ◌∙◌}
use Rattle.std.specs.List.{flat_map}
use Rattle.std.proofs.lemmas.List.Folds.{flat_map-map}
use Rattle.std.proofs.lemmas.Iterator.Consumers.{YieldsList-end, YieldsList-from_rest}
use Rattle.graphql_names.specs.NameValue.{NameValue}
use Rattle.tree_directives.specs.declared.input_value.InputValueDefinition.{InputValueDefinition}
use Rattle.schema_components.specs.declared.component.Component.{Component}
use Rattle.schema_inputs.specs.Inputs.{if_field_required, listed_field}
use Rattle.schema_inputs.proofs.known.required_fields.Goals as goal

pub returns : goal.returns
returns c =
    let all = YieldsList-end (YieldsList-from_rest c.args.fields.now.entries c.into_iter-name-iterator.ensures.into_iter_gives.0) c.loop-name.yielded c.loop-name.name-iterator c.loop-name.yielded_by c.next.result c.next.new.self c.in-None.is c.next.ensures.steps in
    c.loop-name.invariant
    ∙ ap (flat_map (λ (e : NameValue × Component InputValueDefinition). if_field_required (listed_field e))) all.0
    ∙ sym (flat_map-map if_field_required listed_field c.args.fields.now.entries)
