use Rattle.std.proofs.Common.{ap}
use Rattle.document_typed_selections.specs.declared.selection.InlineFragment.{InlineFragment}
use Rattle.document_typed_selections.specs.declared.selection.Selection.TheViews.{InlineFragment as InlineFragment'}
use Rattle.document_typing.proofs.DefinedPlaces.{kept-push, inline-defined}
use Rattle.document_typing.proofs.keep.keep_inline.Goals as goal

pub returns-clause-defined : goal.returns-clause-defined
returns-clause-defined c s t x h =
    let n = c.in_ok-same_location.field-0 in
    kept-push s t c.args.kept.now c.push.new.self (InlineFragment' n) c.in_ok-push.ensures.items
    (inline-defined s t n c.args.set (ap (λ (f : InlineFragment). f.selection_set) c.in_ok-same_location.ensures.content) x) h
