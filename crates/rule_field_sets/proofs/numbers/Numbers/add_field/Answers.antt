use Rattle.std.proofs.Common.{refl, ap}
use Rattle.rule_document_definitions.specs.ReadFields.{set_of}
use Rattle.rule_field_sets.specs.declared.numbers.FieldKey.{FieldKey}
use Rattle.rule_field_sets.specs.Tables.{IsFieldKey, AreRight, TablesGrow}
use Rattle.rule_field_sets.specs.Numbered.{tables_of, parts_of, firsts_of, nodes_in, read_of}
use Rattle.rule_field_sets.proofs.Inserting.{on_error}
use Rattle.rule_field_sets.proofs.Adding.{with_parts, parts_grow, parts_right, set_number_on, tables_on, field_grows, field_right, field_means, fields_same}
use Rattle.rule_field_sets.proofs.numbers.Numbers.add_field.Goals as goal

pub returns : goal.returns
returns c =
    let t = tables_of c.args.self.now in
    let p = parts_of c.numbers_of.new.self in
    let mid = with_parts t p in
    let grow : TablesGrow t mid = parts_grow t p c.numbers_of.ensures.grown in
    let right : AreRight mid = parts_right t p c.numbers_of.ensures.grown c.requires.right in
    let x = read_of c.args.selection in
    let numbers = c.in_ok-parts.ensures.numbers in
    let parts = c.in_ok-parts.parts in
    let k : FieldKey = record { key = parts.key; parent = parts.parent; call = parts.call; ty = parts.ty; set = c.args.set } in
    let is : IsFieldKey mid k x = record {
      key = numbers.key;
      parent = (parts.is_shared, numbers.parent);
      call = numbers.call;
      ty = numbers.ty;
      set = set_number_on t mid grow c.args.set (set_of x) c.requires.set;
    } in
    let fields = firsts_of c.field_number.new.fields.entries in
    let n = c.in_ok-number.number in
    let enters = c.in_ok-number.ensures.number in
    record {
      right = field_right mid k x n fields enters is right;
      grown = tables_on t mid _ grow (field_grows mid k x n fields enters);
      judged = c.numbers_of.ensures.judged;
      member = record { selection = refl; number = field_means mid k x n fields enters is right; parts = numbers; below = refl };
      noted = c.in_ok-number.ensures.noted;
      refused = tt;
    }

pub returns-in_err-parts-clause-right : goal.returns-in_err-parts-clause-right
returns-in_err-parts-clause-right c = parts_right (tables_of c.args.self.now) (parts_of c.numbers_of.new.self) c.numbers_of.ensures.grown c.requires.right

pub returns-in_err-parts-clause-grown : goal.returns-in_err-parts-clause-grown
returns-in_err-parts-clause-grown c = parts_grow (tables_of c.args.self.now) (parts_of c.numbers_of.new.self) c.numbers_of.ensures.grown

pub returns-in_err-number-clause-right : goal.returns-in_err-number-clause-right
returns-in_err-number-clause-right c =
    let t = tables_of c.args.self.now in
    let p = parts_of c.numbers_of.new.self in
    let right = parts_right t p c.numbers_of.ensures.grown c.requires.right in
    (fields_same (with_parts t p) (firsts_of c.field_number.new.fields.entries) (ap firsts_of c.in_err-number.ensures.refused) right).0

pub returns-in_err-number-clause-grown : goal.returns-in_err-number-clause-grown
returns-in_err-number-clause-grown c =
    let t = tables_of c.args.self.now in
    let p = parts_of c.numbers_of.new.self in
    let right = parts_right t p c.numbers_of.ensures.grown c.requires.right in
    tables_on t (with_parts t p) _ (parts_grow t p c.numbers_of.ensures.grown) (fields_same (with_parts t p) (firsts_of c.field_number.new.fields.entries) (ap firsts_of c.in_err-number.ensures.refused) right).1

pub returns-in_err-number-clause-refused : goal.returns-in_err-number-clause-refused
returns-in_err-number-clause-refused c = on_error c.from_residual-in_err-number.result (ap nodes_in c.in_err-number.ensures.refused)
