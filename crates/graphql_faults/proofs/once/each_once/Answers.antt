use Rattle.std.proofs.Common.{◌≤◌, ◌<◌, length, map, ap, arith}
use Rattle.std.proofs.lemmas.List.{length-map}
use Rattle.rule_definitions.specs.Room.{most_told}
use Rattle.graphql_faults.proofs.Kept.{added_once, full_stays}
use Rattle.graphql_faults.proofs.once.each_once.Goals as goal

pub returns-then-len-ge-MOST_TOLD : goal.returns-then-len-ge-MOST_TOLD
returns-then-len-ge-MOST_TOLD g c =
    let f = g.T.Told.plain in
    let long = length-map c.args.list.items f in
    let many : most_told ≤ length (map f c.args.list.items) = omega (arith, c.if-len-ge-MOST_TOLD.true, c.len.ensures, long) in
    full_stays (map f c.args.list.items) many

pub returns : goal.returns
returns g c =
    let f = g.T.Told.plain in
    let long = length-map c.args.list.items f in
    let few : length (map f c.args.list.items) < most_told = omega (arith, c.if-len-ge-MOST_TOLD.false, c.len.ensures, long) in
    added_once (map f c.new-kept.result.items) (map f c.args.list.items) (map f c.add_new.new.told.items) (ap (map f) c.new-kept.ensures.items) few c.in_ok-add_new.ensures.added c.in_ok-add_new.ensures.all
