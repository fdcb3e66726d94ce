use Rattle.std.proofs.Common.{sym, subst}
use Rattle.rule_selection_queries.specs.in_reach.in_typed_operations.DocumentView.{document_meant}
use Rattle.rule_reach.specs.Reach.{meant_fragments}
use Rattle.rule_fragments.specs.Thinned.{MayReplace}
use Rattle.rule_fragments.proofs.Instead.{replaces_itself, copied}
use Rattle.rule_fragments.proofs.thinned.thinned_if_shared.Goals as goal

pub returns-then-not-are_several : goal.returns-then-not-are_several
returns-then-not-are_several c = replaces_itself c.args.deferred (document_meant c.args.document.now).fragments

pub loop-name-init : goal.loop-name-init
loop-name-init c =
    let d = c.args.deferred in
    let fs = meant_fragments c.args.document.now.fragments in
    subst (MayReplace d fs) (sym (copied c.args.document.now.fragments.entries c.in_ok-instead.instead.entries c.in_ok-instead.ensures.cases)) (replaces_itself d fs)

pub loop-name-preserved : goal.loop-name-preserved
loop-name-preserved c = c.in_ok-thin.ensures c.loop-name.invariant

pub returns : goal.returns
returns c = c.loop-name.invariant
