-- The first argument of a name, where one more argument comes after.
use Rattle.std.proofs.Common.{◌≡◌, ℕ, Bool, true, false, List, [], ◌∷◌, ◌++◌, Option, None, Some, refl, if◌then◌else◌}
use Rattle.std.specs.Option.{option_or}
use Rattle.std.specs.Str.{bytes_eq}
use Rattle.graphql_names.specs.Placed.{Place}
use Rattle.tree_directives.specs.DirectiveTree.{InputValues}
use Rattle.rule_types.specs.FaultLists.{first_named}
use Rattle.rule_types.specs.InterfaceFaults.{Input}

pub first_push : (before : InputValues Place) (v : Input) (n : List ℕ) → first_named (before ++ v ∷ []) n ≡ option_or (first_named before n) (if bytes_eq n v.it.name.it then Some v else None)
first_push [] v n = refl
first_push (w ∷ before) v n = by (bytes_eq n w.it.name.it) (first_push before v n)
  where
    by : (b : Bool) → first_named (before ++ v ∷ []) n ≡ option_or (first_named before n) (if bytes_eq n v.it.name.it then Some v else None)
        → (if b then Some w else first_named (before ++ v ∷ []) n) ≡ option_or (if b then Some w else first_named before n) (if bytes_eq n v.it.name.it then Some v else None)
    by true rest = refl
    by false rest = rest

pub or_none : {X : Type 0} (o : Option X) → option_or o None ≡ o
or_none None = refl
or_none (Some x) = refl
