use Rattle.std.proofs.Common.{None, Some, ap, ◌∙◌}
use Rattle.schema_types.specs.TypeView.{extended_type}
use Rattle.rule_field_sets.specs.in_schema.SchemaOf.{schema_tree}
use Rattle.rule_field_groups.specs.Kinds.{is_abstract_kind}
use Rattle.rule_field_groups.proofs.Shaped.{kind_seen}
use Rattle.rule_field_groups.proofs.kinds.is_abstract.Goals as goal

pub returns-in-Some : goal.returns-in-Some
returns-in-Some c =
    c.is_abstract_kind.ensures ∙ ap is_abstract_kind c.kind.ensures
    ∙ kind_seen is_abstract_kind (schema_tree c.args.schema.now) c.args.name.now.text (Some (extended_type c.in-Some.ty.now)) c.in-Some.ensures

pub returns-in-None : goal.returns-in-None
returns-in-None c = kind_seen is_abstract_kind (schema_tree c.args.schema.now) c.args.name.now.text None c.in-None.ensures
