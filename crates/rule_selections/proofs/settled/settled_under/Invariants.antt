use Rattle.rule_reach.specs.in_typed_operations.DocumentView.{document_meant}
use Rattle.rule_reach.specs.Reach.{meant_fragments}
use Rattle.rule_selections.specs.Settled.{MayReplace}
use Rattle.rule_selections.specs.Telling.{terms_of}
use Rattle.rule_selections.proofs.settled.settled_under.Given as goal

abbrev pub invariant-loop-name : goal.invariant-loop-name
invariant-loop-name l = MayReplace (terms_of l.common) (document_meant l.document).fragments (meant_fragments l.instead)
