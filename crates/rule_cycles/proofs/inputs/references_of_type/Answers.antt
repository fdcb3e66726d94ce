use Rattle.std.proofs.Common.{◌≡◌, map, sym, ap, subst, ◌∙◌, IfOk}
use Rattle.tree_directives.specs.DirectiveTree.{input_value_tree}
use Rattle.schema_components.specs.Names.{entries_of}
use Rattle.schema_components.specs.Given.{component_tree}
use Rattle.schema_types.specs.TypeView.{name_text, extended_type}
use Rattle.schema_types.specs.declared.kinds.InputObjectType.{InputObjectType}
use Rattle.graphql_schema.specs.SchemaOf.{schema_tree}
use Rattle.rule_cycles.specs.Numbers.{field_references, input_references, each_value}
use Rattle.rule_cycles.specs.ReferenceViews.{input_reference_view}
use Rattle.rule_cycles.proofs.Numbering.{each_entry}
use Rattle.rule_cycles.proofs.inputs.references_of_type.Goals as goal

pub returns-in-InputObject : goal.returns-in-InputObject
returns-in-InputObject c =
    let es = (schema_tree c.args.schema.now).types in
    subst (λ l. IfOk c.references_of_fields.result (λ r. map input_reference_view r.items ≡ l))
    (
    sym (each_entry (component_tree input_value_tree) (λ g. field_references es g.it) c.content.result.now.fields)
    ∙ ap (λ (o : InputObjectType). each_value (λ g. field_references es g.it) (entries_of name_text (component_tree input_value_tree) o.fields)) c.content.ensures
    ∙ ap (λ t. input_references es (extended_type t)) (sym c.in-InputObject.is)
    )
    c.references_of_fields.ensures
