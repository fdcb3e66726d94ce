use Rattle.std.proofs.Common.{refl, ap, sym}
use Rattle.rule_document_definitions.specs.ReadFields.{fields_read, read_set}
use Rattle.rule_field_sets.specs.Tables.{IsSetKey, SetParts}
use Rattle.rule_field_sets.specs.Numbered.{tables_of, first_sets_of, texts_of, meant_of, read_list}
use Rattle.rule_field_sets.proofs.Adding.{set_grows, set_right, set_means, sets_same}
use Rattle.rule_field_sets.proofs.numbers.Numbers.set_number.Goals as goal

pub returns : goal.returns
returns c =
    let t = tables_of c.args.self.now in
    let s = c.args.set.now in
    let k : SetParts = (c.args.fields.items, texts_of c.args.spreads.items) in
    let is : IsSetKey t k (read_list s) = (fields_read (meant_of s), (ap (λ ns. read_set (fields_read (meant_of s)) ns) (sym c.requires.read.names), c.requires.read.numbers)) in
    let sets = first_sets_of c.list_number.new.sets.entries in
    let n = c.in_ok-number.number in
    let enters = c.in_ok-number.ensures.number in
    record {
      right = set_right t k (read_list s) n sets enters is c.requires.right;
      grown = set_grows t k (read_list s) n sets enters;
      parts = refl;
      nodes = refl;
      number = set_means t k (read_list s) n sets enters is c.requires.right;
    }

pub returns-in_err-number-clause-right : goal.returns-in_err-number-clause-right
returns-in_err-number-clause-right c =
    (sets_same (tables_of c.args.self.now) (first_sets_of c.list_number.new.sets.entries) (ap first_sets_of c.in_err-number.ensures.refused) c.requires.right).0

pub returns-in_err-number-clause-grown : goal.returns-in_err-number-clause-grown
returns-in_err-number-clause-grown c =
    (sets_same (tables_of c.args.self.now) (first_sets_of c.list_number.new.sets.entries) (ap first_sets_of c.in_err-number.ensures.refused) c.requires.right).1
