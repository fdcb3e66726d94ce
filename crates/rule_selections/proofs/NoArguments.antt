-- What takes no arguments and is given none breaks no rule on arguments.
use Rattle.std.proofs.Common.{◌≡◌, inl, inr, []}
use Rattle.graphql_names.specs.Placed.{Place}
use Rattle.schema_types.specs.Addresses.{Address}
use Rattle.rule_definitions.specs.Judged.{Judged}
use Rattle.rule_definitions.specs.PlacedFaults.{PlacedFault}
use Rattle.rule_definitions.specs.GivenValues.{Variables}
use Rattle.rule_definitions.specs.Uses.{Taker, TakerBreaks}
use Rattle.rule_definitions.proofs.Listing.{nowhere}

module _ (at : Address → Place) (s : Judged) (vs : Variables Place) (t : Taker Place) (given : t.given ≡ []) (defined : t.definitions ≡ []) where
  pub none_break : (f : PlacedFault) → TakerBreaks at s vs t f → ⊥
  none_break f (inl h) = nowhere t.given _ given h
  none_break f (inr (inl h)) = nowhere t.definitions _ defined h
  none_break f (inr (inr (inl h))) = nowhere t.given _ given h
  none_break f (inr (inr (inr h))) = nowhere t.given _ given h
