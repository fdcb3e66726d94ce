use Rattle.std.proofs.Common.{◌∙◌, ap, sym, not, bytes_eq, codes}
use Rattle.std.specs.Option.{option_copied}
use Rattle.graphql_names.specs.Placed.{Place, Text}
use Rattle.tree_literals.specs.TypeTree.{type_tree}
use Rattle.tree_literals.specs.ValueTree.{value_tree}
use Rattle.strict_documents.specs.Given.{location_of}
use Rattle.strict_documents.proofs.FloatPast.{not_true, not_false, for_another, for_float}
use Rattle.strict_documents.proofs.Types.{inner_unplaced}
use Rattle.strict_documents.proofs.numbers.is_past_64_bits.Goals as goal

pub returns-then-ne : goal.returns-then-ne
returns-then-ne c =
    let named = inner_unplaced (type_tree c.args.location.ty.now) ∙ sym (ap (λ (n : Text Place). n.it) c.inner_named_type.ensures) ∙ sym c.as_str.ensures.value in
    for_another (location_of c.args.location) (value_tree c.args.value.now) c.as_str.result.now named
    (not_true (bytes_eq c.as_str.result.now (codes "Float")) (sym c.ne.ensures ∙ c.if-ne.true))

pub returns-in-Some : goal.returns-in-Some
returns-in-Some c =
    let named = inner_unplaced (type_tree c.args.location.ty.now) ∙ sym (ap (λ (n : Text Place). n.it) c.inner_named_type.ensures) ∙ sym c.as_str.ensures.value in
    ap not c.is_finite_number.ensures
    ∙ for_float (location_of c.args.location) (value_tree c.args.value.now) c.as_str.result.now named _
    (not_false (bytes_eq c.as_str.result.now (codes "Float")) (sym c.ne.ensures ∙ c.if-ne.false)) (sym c.number_text.ensures ∙ ap option_copied c.in-Some.is)
