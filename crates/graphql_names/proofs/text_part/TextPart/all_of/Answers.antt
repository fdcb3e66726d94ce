use Rattle.std.proofs.Common.{length, ap, sym, subst, arith, IsCharBoundary}
use Rattle.std.proofs.lemmas.Str.{IsUtf8-had, IsCharBoundary-start, IsCharBoundary-end}
use Rattle.std.specs.Rc.{rc_str_bytes}
use Rattle.graphql_names.proofs.text_part.TextPart.all_of.Goals as goal

pub invariant_of-result : goal.invariant_of-result
invariant_of-result c =
    let bytes = rc_str_bytes c.args.whole in
    record {
      ordered = omega arith;
      begins = IsCharBoundary-start bytes (IsUtf8-had bytes c.args.whole.text.value.ok);
      ends = subst (IsCharBoundary bytes) (ap length (sym c.as_str-end.ensures.value)) (IsCharBoundary-end bytes);
    }
