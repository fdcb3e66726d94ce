use Rattle.std.proofs.Common.{◌≡◌, arith, subst}
use Rattle.std.proofs.lemmas.Grind.{common_steps}
use Rattle.std.proofs.lemmas.Str.{IsCharBoundary-after_ascii}
use Rattle.tree_literals.specs.StringLayout.{escaped_text}
use Rattle.tree_literals.specs.EscapeRuns.{FirstEscape}
use Rattle.tree_literals.proofs.Runs.{so_far-none, so_far-more, so_far-all, escape_ascii, escape_parts}
use Rattle.tree_literals.proofs.print_string.put_escaped.Goals as goal

pub loop-i-init : goal.loop-i-init
loop-i-init g c = record { so_far = so_far-none g.S.Sink.puts g.met.S.Sink.none g.met.S.Sink.more escaped_text c.args.sink.now c.args.text.now; text = c.utf8.text }

pub range_from-rest-requires : goal.range_from-rest-requires
range_from-rest-requires g c =
    let f : FirstEscape c.loop-i.rest.now c.in-Some.i = subst (λ x. FirstEscape x c.in-Some.i) c.as_bytes.ensures.value c.in-Some.ensures in
    λ _. IsCharBoundary-after_ascii c.loop-i.rest.now c.in-Some.i c.loop-i.invariant.text f.within (escape_ascii _ f.here)

pub loop-i-preserved : goal.loop-i-preserved
loop-i-preserved g c =
    let f : FirstEscape c.loop-i.rest.now c.in-Some.i = subst (λ x. FirstEscape x c.in-Some.i) c.as_bytes.ensures.value c.in-Some.ensures in
    record {
      so_far = so_far-more g.S.Sink.puts g.met.S.Sink.none g.met.S.Sink.more escaped_text c.args.sink.now c.loop-i.sink c.put.new.self c.put_escape.new.sink _ _ _ _ _ c.loop-i.invariant.so_far c.put.ensures c.put_escape.ensures
          (escape_parts _ _ _ _ _ f (grind (arith, common_steps, c.range.ensures.value)) c.as_bytes-in-Some.ensures.value c.range_from-rest.ensures.value);
      text = c.range_from-rest.utf8;
    }

pub returns : goal.returns
returns g c =
    so_far-all g.S.Sink.puts g.met.S.Sink.none g.met.S.Sink.more escaped_text c.args.sink.now c.loop-i.sink c.put-2.new.self _ _ c.loop-i.invariant.so_far c.put-2.ensures
    (subst (λ x. escaped_text x ≡ x) c.as_bytes.ensures.value c.in_default.ensures)
