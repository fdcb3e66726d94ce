use Rattle.std.proofs.Common.{◌≡◌, ◌++◌, map, sym, ap, subst, ◌∙◌, OnOk}
use Rattle.std.proofs.lemmas.List.{append-nil}
use Rattle.graphql_names.specs.Node.{content}
use Rattle.tree_directives.specs.DirectiveTree.{input_value_tree}
use Rattle.tree_type_members.specs.TypeSystemTree.{enum_value_tree}
use Rattle.schema_components.specs.Names.{entries_of}
use Rattle.schema_components.specs.Given.{component_tree}
use Rattle.schema_types.specs.TypeView.{name_text, extended_type}
use Rattle.schema_types.specs.declared.kinds.EnumType.{EnumType}
use Rattle.schema_types.specs.declared.kinds.InputObjectType.{InputObjectType}
use Rattle.graphql_schema.specs.SchemaOf.{schema_tree}
use Rattle.rule_cycles.specs.Numbers.{each_value}
use Rattle.rule_cycles.specs.UseNumbers.{uses_references, input_uses, part_uses}
use Rattle.rule_cycles.specs.UseViews.{use_view, value_uses, field_uses}
use Rattle.rule_cycles.proofs.Numbering.{each_entry}
use Rattle.rule_cycles.proofs.uses.add_parts.Goals as goal

pub returns-in-Enum : goal.returns-in-Enum
returns-in-Enum c =
    let s = schema_tree c.args.schema.now in
    let before = map use_view c.args.references.now.items in
    let own = c.in-Enum.own in
    subst (λ l. OnOk c.add_values.result (map use_view c.add_values.new.references.items ≡ before ++ l))
    (
    ap (λ (t : EnumType). each_value (value_uses s) t.values.entries) c.content.ensures
    ∙ sym (each_entry (component_tree enum_value_tree) (λ g. uses_references s g.it.it.directives) (content own).values)
    ∙ sym (append-nil (each_value (λ g. uses_references s g.it.it.directives) (entries_of name_text (component_tree enum_value_tree) (content own).values)))
    ∙ ap (λ t. part_uses s (extended_type t)) (sym c.in-Enum.is)
    )
    c.add_values.ensures

pub returns-in-InputObject : goal.returns-in-InputObject
returns-in-InputObject c =
    let s = schema_tree c.args.schema.now in
    let before = map use_view c.args.references.now.items in
    let own = c.in-InputObject.own in
    subst (λ l. OnOk c.add_fields.result (map use_view c.add_fields.new.references.items ≡ before ++ l))
    (
    ap (λ (t : InputObjectType). each_value (field_uses s) t.fields.entries) c.content-in-InputObject.ensures
    ∙ sym (each_entry (component_tree input_value_tree) (λ g. input_uses s g.it.it) (content own).fields)
    ∙ ap (λ t. part_uses s (extended_type t)) (sym c.in-InputObject.is)
    )
    c.add_fields.ensures
