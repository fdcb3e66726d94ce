use Rattle.rule_field_sets.specs.Numbered.{calls_of, call_read}
use Rattle.rule_field_sets.proofs.Growing.{set_extends, set_number_is, extends_same}
use Rattle.rule_field_sets.proofs.Equal.{call_eq, call_decides}
use Rattle.std.proofs.Common.{ap}
use Rattle.rule_field_sets.proofs.numbers.call_number.Goals as goal

pub returns-clause-grown : goal.returns-clause-grown
returns-clause-grown c = set_extends call_read call_eq call_decides c.args.calls.now.keys c.insert_full.new.self.keys _ c.in_ok-number.ensures.keys

pub returns-clause-number : goal.returns-clause-number
returns-clause-number c =
    let stored = c.in_ok-number.ensures.stored in
    set_number_is call_read call_eq call_decides c.args.calls.now.keys c.insert_full.new.self.keys _ c.in_ok-number.number c.in_ok-number.ensures.keys (stored.0, (stored.1, stored.2))

pub returns-in_err-number-clause-grown : goal.returns-in_err-number-clause-grown
returns-in_err-number-clause-grown c = extends_same (calls_of c.args.calls.now.keys) (calls_of c.insert_full.new.self.keys) (ap calls_of c.in_err-number.ensures.err)
