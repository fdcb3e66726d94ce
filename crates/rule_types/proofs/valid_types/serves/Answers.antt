use Rattle.std.proofs.Common.{◌≡◌, false, ◌||◌, bytes_eq, sym, ap, ◌∙◌}
use Rattle.graphql_schema.specs.SchemaOf.{schema_tree}
use Rattle.fault_data.specs.in_rule_definitions.Judged.{judged}
use Rattle.fault_data.specs.in_rule_definitions.Subtypes.{is_subtype}
use Rattle.rule_types.proofs.Subtypes.{subtype_seen}
use Rattle.rule_types.proofs.valid_types.serves.Goals as goal

pub returns-in-Ok : goal.returns-in-Ok
returns-in-Ok c =
    let s = schema_tree c.args.schema.now in
    let n = c.args.wanted.now.text in
    let m = c.args.name.now.text in
    let differ : bytes_eq n m ≡ false = (λ i. bytes_eq (sym c.as_str.ensures.value i) (sym c.as_str-2.ensures.value i)) ∙ sym c.eq.ensures ∙ c.if-eq.false in
    c.in-Ok.ensures ∙ sym (subtype_seen s n m) ∙ ap (λ b. b || is_subtype (judged s) n m) (sym differ)

pub returns-in-Err : goal.returns-in-Err
returns-in-Err c =
    let s = schema_tree c.args.schema.now in
    let n = c.args.wanted.now.text in
    let m = c.args.name.now.text in
    let differ : bytes_eq n m ≡ false = (λ i. bytes_eq (sym c.as_str.ensures.value i) (sym c.as_str-2.ensures.value i)) ∙ sym c.eq.ensures ∙ c.if-eq.false in
    c.is_subtype.ensures ∙ sym (subtype_seen s n m) ∙ ap (λ b. b || is_subtype (judged s) n m) (sym differ)
