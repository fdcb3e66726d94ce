use Rattle.std.proofs.Common.{◌≡◌, ◌+◌, ◌-◌, [], List, ℕ, replicate, arith, rules, subst}
use Rattle.std.proofs.lemmas.Grind.{common_steps}
use Rattle.tree_literals.specs.Joined.{joined}
use Rattle.tree_literals.proofs.Times.{empty_times, stopped_times}
use Rattle.tree_literals.proofs.print_lines.put_times.Goals as goal

pub returns-then-is_empty : goal.returns-then-is_empty
returns-then-is_empty g c =
    let empty : c.args.text.now ≡ [] = grind (arith, common_steps) in
    rw (empty, empty_times) (g.met.S.Sink.none c.args.sink.now)

pub returns-then-is_stopped : goal.returns-then-is_stopped
returns-then-is_stopped g c =
    let all : c.loop.counter + (c.args.times - c.loop.counter) ≡ c.args.times = omega arith in
    let stopped : (x : List ℕ) → g.S.Sink.puts c.loop.sink x c.loop.sink = c.is_stopped.ensures (search rules) in
    subst (λ k. g.S.Sink.puts c.args.sink.now (joined (replicate k c.args.text.now)) c.loop.sink) all
    (stopped_times g.S.Sink.puts g.met.S.Sink.more c.args.sink.now c.loop.sink c.args.text.now stopped c.loop.counter (c.args.times - c.loop.counter) c.loop.invariant)
