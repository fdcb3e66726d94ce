-- Private: leads to `Defer.antt` of the rules' definitions.
-- What the walk over selections that are always reached has found, and what it still has to do.
use Rattle.std.specs.Prelude.{◌≡◌, ◌↔◌, ℕ, ◌+◌, ◌-◌, ◌<◌, true, List, [], ◌∷◌, ◌++◌, length, slice_get, bytes_eq, Contains, Option, None, Some, if◌then◌else◌, ◌⊎◌}
use Rattle.std.specs.List.{list_any}
use Rattle.std.specs.Option.{option_map, option_and_then}
use Rattle.spec_document.specs.MeantTree.{MeantSelection, MeantOperation, MeantDocument, MeantSet, meant_of_set}
use Rattle.document_typed_operations.specs.Reached.{Fragments, NamedSet, fragment_named}
use Rattle.rule_document_definitions.specs.Selected.{Standing, spread_name}
use Rattle.rule_document_definitions.specs.DeferUses.{ReachedAlways}
use Rattle.rule_selection_queries.specs.Inside.{contents_in, ReachesBy}
use Rattle.rule_selection_queries.specs.Stays.{stays}

module _ {P : Type 0} where
  -- the selections in a set, at any depth, that no `@skip` or `@include` may leave out
  abbrev pub always_in : MeantSet P → List (MeantSelection P)
  always_in s = contents_in true stays s

  -- these are exactly the selections that the operation always reaches
  abbrev pub AreAlways : MeantDocument P → MeantOperation P → List (MeantSelection P) → Type 0
  AreAlways d o ss = (s : MeantSelection P) → Contains ss s ↔ ((x : Standing P) × (ReachedAlways d o x × (x.it ≡ s)))

  -- the name and the set of the fragment that the selection spreads, if that fragment is there and was not entered yet
  abbrev pub to_enter : Fragments P → List (List ℕ) → MeantSelection P → Option (NamedSet P)
  to_enter fs entered s = option_and_then (λ n. if list_any (bytes_eq n) entered then None else option_map (λ f. (n, f.1)) (fragment_named fs n)) (spread_name s)

  -- how many selections are always in the fragments that were not entered yet
  abbrev pub to_come : Fragments P → List (List ℕ) → ℕ
  to_come [] entered = 0
  to_come (f ∷ fs) entered = (if list_any (bytes_eq f.0) entered then 0 else length (always_in (meant_of_set f.1))) + to_come fs entered

  -- the state of the walk: of the selections that were found so many are done, and these fragments were entered
  pub record Found (d : MeantDocument P) (o : MeantOperation P) (fs : Fragments P) (found : List (MeantSelection P)) (passed : ℕ) (entered : List (List ℕ)) : Type 0 where
    pub right : (s : MeantSelection P) → Contains found s → (x : Standing P) × (ReachesBy true stays d o x × (x.it ≡ s))
    pub own : (s : MeantSelection P) → Contains (always_in o.set) s → Contains found s
    pub spread : (n : List ℕ) → Contains entered n → (x : Standing P) × (ReachesBy true stays d o x × (spread_name x.it ≡ Some n))
    pub held : (n : List ℕ) (f : NamedSet P) → Contains entered n → fragment_named fs n ≡ Some f → (s : MeantSelection P) → Contains (always_in (meant_of_set f.1)) s → Contains found s
    pub done : (i : ℕ) (s : MeantSelection P) → i < passed → slice_get found i ≡ Some s → (n : List ℕ) (f : NamedSet P) → spread_name s ≡ Some n → fragment_named fs n ≡ Some f → Contains entered n
