use Rattle.std.proofs.Common.{◌≡◌, [], ap, rules}
use Rattle.document_typing.proofs.DefinedPlaces.{set-defined, kept-none}
use Rattle.document_typing.proofs.selections.empty_set.Goals as goal

pub returns-clause-defined : goal.returns-clause-defined
returns-clause-defined c t =
    let none : c.new.result.items ≡ [] = search rules in
    set-defined t _ c.args.type_name.now.text (ap (λ n. n.text) c.in_ok-clone.ensures.same) (kept-none t c.args.type_name.now.text c.new.result none)
