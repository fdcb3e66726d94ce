use Rattle.std.proofs.lemmas.Result.{on_ok_weaker}
use Rattle.rule_cycles.specs.Numbers.{each_value}
use Rattle.rule_reach.specs.NotedNames.{noted_names}
use Rattle.rule_fragments.specs.Unused.{unused_fragment}
use Rattle.rule_fragments.specs.SpreadViews.{fragment_meant}
use Rattle.rule_fragments.proofs.UnusedTold.{unused_of_map}
use Rattle.rule_fragments.proofs.unused.check_unused.Goals as goal

pub returns : goal.returns
returns c =
    let m = c.args.fragments.now in
    let names = noted_names c.args.used.now in
    on_ok_weaker c.tell_unused.result
    (λ told d is own used. (each_value (λ n. unused_fragment names (fragment_meant n)) m.entries, (told, λ x. unused_of_map m c.len-distinct.ensures.unique d is own names used x)))
    c.tell_unused.ensures
