use Rattle.std.proofs.Common.{◌≡◌, length}
use Rattle.tree_directives.specs.DirectiveNodes.{left_named}
use Rattle.tree_directives.proofs.directive_list.NamedDirectivesIterator.next.Given as goal

abbrev pub invariant-loop-first : goal.invariant-loop-first
invariant-loop-first l = left_named l.self ≡ left_named l.initial.self

abbrev pub decreases-loop-first : goal.decreases-loop-first
decreases-loop-first l = length l.self.rest.now
