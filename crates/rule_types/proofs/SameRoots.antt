-- The root of subscriptions is told once, where two others are the same type.
use Rattle.std.proofs.Common.{◌≡◌, Bool, true, false, List, [], ◌∷◌, if◌then◌else◌, refl, Option, None, Some}
use Rattle.std.specs.Str.{bytes_eq}
use Rattle.graphql_names.specs.Placed.{Place, Text}
use Rattle.tree_directives.specs.declared.operation_type.OperationType.TheVariants as operation
use Rattle.schema_components.specs.Given.{Given}
use Rattle.fault_data.specs.in_rule_definitions.PlacedFaults.{PlacedFault}
use Rattle.rule_types.specs.FaultLists.{same_root, is_same_root, or_else}

told_first : (b : Bool) (f : PlacedFault) (rest : List PlacedFault) → b ≡ true → (if b then f ∷ [] else []) ≡ or_else (if b then f ∷ [] else []) rest
told_first true f rest e = refl
told_first false f rest e = cc

told_then : (b : Bool) (f : PlacedFault) (rest : List PlacedFault) → b ≡ false → rest ≡ or_else (if b then f ∷ [] else []) rest
told_then true f rest e = cc
told_then false f rest e = refl

module _ (rest : List PlacedFault) where
  pub again_of_first : (q s : Option (Given Place (Text Place))) → is_same_root q s ≡ true → same_root operation.Query q operation.Subscription s ≡ or_else (same_root operation.Query q operation.Subscription s) rest
  again_of_first None s e = cc
  again_of_first (Some f) None e = cc
  again_of_first (Some f) (Some g) e = told_first (bytes_eq g.it.it f.it.it) _ rest e

  pub again_of_other : (q s : Option (Given Place (Text Place))) → is_same_root q s ≡ false → rest ≡ or_else (same_root operation.Query q operation.Subscription s) rest
  again_of_other None s e = refl
  again_of_other (Some f) None e = refl
  again_of_other (Some f) (Some g) e = told_then (bytes_eq g.it.it f.it.it) _ rest e
