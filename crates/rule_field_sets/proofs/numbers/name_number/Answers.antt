use Rattle.rule_field_sets.specs.Numbered.{texts_of}
use Rattle.rule_field_sets.proofs.Growing.{set_extends, set_number_is, extends_same}
use Rattle.rule_field_sets.proofs.Equal.{text_of, name_eq, name_decides}
use Rattle.std.proofs.Common.{ap}
use Rattle.rule_field_sets.proofs.numbers.name_number.Goals as goal

pub returns-clause-grown : goal.returns-clause-grown
returns-clause-grown c = set_extends text_of name_eq name_decides c.args.names.now.keys c.insert_full.new.self.keys c.args.name c.in_ok-number.ensures.keys

pub returns-clause-number : goal.returns-clause-number
returns-clause-number c =
    let stored = c.in_ok-number.ensures.stored in
    set_number_is text_of name_eq name_decides c.args.names.now.keys c.insert_full.new.self.keys c.args.name c.in_ok-number.number c.in_ok-number.ensures.keys (stored.0, (stored.1, stored.2))

pub returns-in_err-number-clause-grown : goal.returns-in_err-number-clause-grown
returns-in_err-number-clause-grown c = extends_same (texts_of c.args.names.now.keys) (texts_of c.insert_full.new.self.keys) (ap texts_of c.in_err-number.ensures.err)
