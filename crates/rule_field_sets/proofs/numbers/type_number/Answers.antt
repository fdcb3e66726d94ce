use Rattle.rule_field_sets.specs.Numbered.{types_of}
use Rattle.rule_field_sets.proofs.Growing.{set_extends, set_number_is, extends_same}
use Rattle.rule_field_sets.proofs.Equal.{type_of, type_same, type_decides}
use Rattle.std.proofs.Common.{ap}
use Rattle.rule_field_sets.proofs.numbers.type_number.Goals as goal

pub returns-clause-grown : goal.returns-clause-grown
returns-clause-grown c = set_extends type_of type_same type_decides c.args.types.now.keys c.insert_full.new.self.keys c.args.ty c.in_ok-number.ensures.keys

pub returns-clause-number : goal.returns-clause-number
returns-clause-number c =
    let stored = c.in_ok-number.ensures.stored in
    set_number_is type_of type_same type_decides c.args.types.now.keys c.insert_full.new.self.keys c.args.ty c.in_ok-number.number c.in_ok-number.ensures.keys (stored.0, (stored.1, stored.2))

pub returns-in_err-number-clause-grown : goal.returns-in_err-number-clause-grown
returns-in_err-number-clause-grown c = extends_same (types_of c.args.types.now.keys) (types_of c.insert_full.new.self.keys) (ap types_of c.in_err-number.ensures.err)
