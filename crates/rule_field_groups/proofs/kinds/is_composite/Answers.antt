use Rattle.std.proofs.Common.{Bool, ◌&&◌, not, None, Some, ap, sym, ◌∙◌}
use Rattle.schema_types.specs.SchemaTree.{is_leaf_kind, is_output_kind}
use Rattle.schema_types.specs.TypeView.{extended_type}
use Rattle.schema_types.specs.declared.type_kind.TypeKind.{TypeKind}
use Rattle.rule_field_sets.specs.in_schema.SchemaOf.{schema_tree}
use Rattle.rule_field_groups.proofs.Shaped.{kind_seen}
use Rattle.rule_field_groups.proofs.kinds.is_composite.Goals as goal

abbrev test : TypeKind → Bool
test k = is_output_kind k && not (is_leaf_kind k)

pub returns-then-is_output_type : goal.returns-then-is_output_type
returns-then-is_output_type c =
    let k = (extended_type c.in-Some.ty.now).kind in
    ap not c.is_leaf.ensures ∙ ap (λ b. b && not (is_leaf_kind k)) (sym c.if-is_output_type.true ∙ c.is_output_type.ensures)
    ∙ kind_seen test (schema_tree c.args.schema.now) c.args.name.now.text (Some (extended_type c.in-Some.ty.now)) c.in-Some.ensures

pub returns-else-is_output_type : goal.returns-else-is_output_type
returns-else-is_output_type c =
    let k = (extended_type c.in-Some.ty.now).kind in
    c.if-is_output_type.false ∙ ap (λ b. b && not (is_leaf_kind k)) (sym c.if-is_output_type.false ∙ c.is_output_type.ensures)
    ∙ kind_seen test (schema_tree c.args.schema.now) c.args.name.now.text (Some (extended_type c.in-Some.ty.now)) c.in-Some.ensures

pub returns-in-None : goal.returns-in-None
returns-in-None c = kind_seen test (schema_tree c.args.schema.now) c.args.name.now.text None c.in-None.ensures
