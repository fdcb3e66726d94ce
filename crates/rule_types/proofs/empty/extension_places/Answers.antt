use Rattle.std.proofs.lemmas.Result.{IfOk-weaker}
use Rattle.rule_types.proofs.ExtensionPlaces.{type_extension_places}
use Rattle.rule_types.proofs.empty.extension_places.Goals as goal

pub returns : goal.returns
returns c =
    IfOk-weaker c.places_of.result _ _ (λ places is. type_extension_places c.args.ty.now c.in_ok-extensions.extensions.keys places.items c.in_ok-extensions.ensures is) c.places_of.ensures
