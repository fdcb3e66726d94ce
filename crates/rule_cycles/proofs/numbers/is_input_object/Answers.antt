use Rattle.std.proofs.Common.{◌∙◌, sym, ap, false}
use Rattle.std.specs.Option.{option_map_or}
use Rattle.schema_types.specs.SchemaTree.{same_kind}
use Rattle.schema_types.specs.TypeView.{extended_type}
use Rattle.schema_types.specs.declared.type_kind.TypeKind.TheVariants as kind
use Rattle.rule_cycles.proofs.Numbering.{found_entry}
use Rattle.rule_cycles.proofs.numbers.is_input_object.Goals as goal

pub returns-in-None : goal.returns-in-None
returns-in-None c =
    sym (found_entry extended_type (λ e. same_kind e.1.kind kind.InputObject) false c.args.schema.now.types c.args.number c.get_index.result c.get_index.ensures.entry
    ∙ ap (λ r. option_map_or (λ p. same_kind (extended_type p.1.now).kind kind.InputObject) r false) c.in-None.is)

pub returns-in-Some : goal.returns-in-Some
returns-in-Some c =
    c.is_input_object.ensures
    ∙ sym (found_entry extended_type (λ e. same_kind e.1.kind kind.InputObject) false c.args.schema.now.types c.args.number c.get_index.result c.get_index.ensures.entry
    ∙ ap (λ r. option_map_or (λ p. same_kind (extended_type p.1.now).kind kind.InputObject) r false) c.in-Some.is)
