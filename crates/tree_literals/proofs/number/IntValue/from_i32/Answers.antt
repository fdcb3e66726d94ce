use Rattle.std.proofs.Common.{rules}
use Rattle.tree_literals.proofs.IntegerText.{int-text, integer_value-text}
use Rattle.tree_literals.proofs.number.IntValue.from_i32.Goals as goal

pub invariant_of-result : goal.invariant_of-result
invariant_of-result c = (int-text c.args.number c.in_ok-to_string.field-0.bytes.items (search rules) (search rules), tt)

pub returns-clause-value : goal.returns-clause-value
returns-clause-value c = integer_value-text c.args.number c.in_ok-to_string.field-0.bytes.items (search rules) (search rules)
