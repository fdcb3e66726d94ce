use Rattle.document_typed_selections.specs.declared.selection.Selection.TheVariants.{FragmentSpread as Spread}
use Rattle.document_typing.proofs.DefinedPlaces.{kept-push, spread-defined}
use Rattle.document_typing.proofs.keep.keep_spread.Goals as goal

pub returns-clause-defined : goal.returns-clause-defined
returns-clause-defined c s t h =
    let n = c.in_ok-same_location.field-0 in
    kept-push s t c.args.kept.now c.push.new.self (Spread n) c.in_ok-push.ensures.items (spread-defined s t n) h
