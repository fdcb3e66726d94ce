use Rattle.std.proofs.Common.{◌≡◌, arith, subst}
use Rattle.std.proofs.lemmas.Grind.{common_steps}
use Rattle.tree_literals.specs.StringLayout.{block_escaped}
use Rattle.tree_literals.specs.EscapeRuns.{FirstQuotes}
use Rattle.tree_literals.proofs.Runs.{so_far-none, so_far-more, so_far-all, quotes_parts, quotes_boundary}
use Rattle.tree_literals.proofs.print_description.put_block_escaped.Goals as goal

pub loop-i-init : goal.loop-i-init
loop-i-init g c = record { so_far = so_far-none g.S.Sink.puts g.met.S.Sink.none g.met.S.Sink.more block_escaped c.args.sink.now c.args.line.now; text = c.utf8.line }

pub range_from-rest-requires : goal.range_from-rest-requires
range_from-rest-requires g c =
    let f : FirstQuotes c.loop-i.rest.now c.in-Some.i = subst (λ x. FirstQuotes x c.in-Some.i) c.as_bytes.ensures.value c.in-Some.ensures in
    λ _. quotes_boundary c.loop-i.rest.now c.in-Some.i c.loop-i.invariant.text f

pub loop-i-preserved : goal.loop-i-preserved
loop-i-preserved g c =
    let f : FirstQuotes c.loop-i.rest.now c.in-Some.i = subst (λ x. FirstQuotes x c.in-Some.i) c.as_bytes.ensures.value c.in-Some.ensures in
    record {
      so_far = so_far-more g.S.Sink.puts g.met.S.Sink.none g.met.S.Sink.more block_escaped c.args.sink.now c.loop-i.sink c.put.new.self c.put-in-Some.new.self _ _ _ _ _ c.loop-i.invariant.so_far c.put.ensures c.put-in-Some.ensures
          (quotes_parts _ _ _ _ f (grind (arith, common_steps, c.range.ensures.value)) c.range_from-rest.ensures.value);
      text = c.range_from-rest.utf8;
    }

pub returns : goal.returns
returns g c =
    so_far-all g.S.Sink.puts g.met.S.Sink.none g.met.S.Sink.more block_escaped c.args.sink.now c.loop-i.sink c.put-2.new.self _ _ c.loop-i.invariant.so_far c.put-2.ensures
    (subst (λ x. block_escaped x ≡ x) c.as_bytes.ensures.value c.in_default.ensures)
