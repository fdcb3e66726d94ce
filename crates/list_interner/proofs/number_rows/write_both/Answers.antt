use Rattle.std.proofs.Common.{◌++◌, ◌∙◌, append_assoc, ap}
use Rattle.list_interner.specs.declared.number_rows.Row.TheVariants.{Part}
use Rattle.list_interner.proofs.Parts.{grows_then}
use Rattle.list_interner.proofs.number_rows.write_both.Goals as goal

pub returns-in_err-write-2-clause-grows : goal.returns-in_err-write-2-clause-grows
returns-in_err-write-2-clause-grows c = grows_then c.args.numbers.now.items c.write.new.numbers.items c.write-2.new.numbers.items c.write.ensures.grows c.write-2.ensures.grows

pub returns-in_err-end-clause-grows : goal.returns-in_err-end-clause-grows
returns-in_err-end-clause-grows c = grows_then c.args.numbers.now.items c.write.new.numbers.items c.write-2.new.numbers.items c.write.ensures.grows c.write-2.ensures.grows

pub returns-clause-grows : goal.returns-clause-grows
returns-clause-grows c = grows_then c.args.numbers.now.items c.write.new.numbers.items c.write-2.new.numbers.items c.write.ensures.grows c.write-2.ensures.grows

pub returns-clause-written : goal.returns-clause-written
returns-clause-written c = record {
  is = c.in_ok-write-2.ensures.written ∙ ap (λ l. l ++ c.args.further.now) c.in_ok-write.ensures.written ∙ append_assoc c.args.numbers.now.items c.args.first.now c.args.further.now;
  part =
      let start = c.in_ok-start.ensures ∙ c.len.ensures ∙ c.args.numbers.now.ok.0 in
      let end = c.in_ok-end.ensures ∙ c.len-2.ensures ∙ c.write-2.new.numbers.ok.0 in
      λ i. Part (start i) (end i);
}
