-- Private: leads to `CyclesBreak` and `RecursiveFragmentDefinitionAt`. The steps of nodes.
use Rattle.std.specs.Prelude.{◌≡◌, ◌==◌, ℕ, Bool, true, false, List, Option, MatchOption, Contains, slice_get, count_by, not}
use Rattle.std.specs.Option.{option_map_or}
use Rattle.rule_cycle_search.specs.declared.steps.Step.{Step}

-- the step of the node has this center
abbrev pub is_in : List Step → ℕ → ℕ → Bool
is_in steps c n = option_map_or (λ s. s.center == c) (slice_get steps n) false

abbrev pub IsIn : List Step → ℕ → ℕ → Type 0
IsIn steps c n = is_in steps c n ≡ true

abbrev pub via_at : List Step → ℕ → ℕ
via_at steps n = option_map_or (λ s. s.via) (slice_get steps n) n

-- how many nodes have no step with this center
abbrev pub left : ℕ → List Step → ℕ
left c steps = count_by (λ s. not (s.center == c)) steps

-- `found` is one of these nodes whose step has this center; None if there is no such node
abbrev pub FindsIn : List Step → ℕ → List ℕ → Option ℕ → Type 0
FindsIn steps c nodes found = MatchOption found ((n : ℕ) → Contains nodes n → is_in steps c n ≡ false) (λ n. Contains nodes n × (is_in steps c n ≡ true))
