use Rattle.std.proofs.lemmas.Result.{IfOk-weaker}
use Rattle.schema_components.specs.Given.{origin_tree}
use Rattle.schema_writing.proofs.Growing.{all_given}
use Rattle.schema_writing.proofs.parts.Parts.take_given.Goals as goal

pub returns : goal.returns
returns c = IfOk-weaker _ _ _ (λ _ h. all_given (origin_tree c.args.giver) (record {
  directives = record { 0 = c.take.new.out };
  interfaces = c.take-2.new.out;
  fields = c.take-3.new.out;
  members = c.take-4.new.out;
  values = c.take-5.new.out;
  inputs = c.take-6.new.out;
}) c.args.filed.now c.in_ok-take.ensures c.in_ok-take-2.ensures c.in_ok-take-3.ensures c.in_ok-take-4.ensures c.in_ok-take-5.ensures h) c.take-6.ensures
