use Rattle.std.proofs.Common.{◌≡◌, map}
use Rattle.std.specs.List.{list_any}
use Rattle.tree_literals.specs.StringLayout.{is_at_margin, last_is_blank}
use Rattle.tree_literals.proofs.print_description.lines_end_well.Given as goal

abbrev pub invariant-loop-line : goal.invariant-loop-line
invariant-loop-line l = record {
  last : l.last_is_blank ≡ last_is_blank (map (λ x. x.now) l.yielded);
  margin : l.one_at_margin ≡ list_any is_at_margin (map (λ x. x.now) l.yielded);
}
