-- Places in a file, and what tokens mean there.
use Rattle.std.specs.Prelude.{◌≡◌, ℕ, ◌+◌, ◌-◌, ◌^◌, Bool, true, false, List, Some, None, ltb}
use Rattle.std.proofs.lemmas.Bool.{ltb-true}
use Rattle.std.proofs.Common.{refl}
use Rattle.graphql_names.specs.Placed.{Place}
use Rattle.read_tokens.specs.Input.{Token}
use Rattle.read_grammar.specs.Meaning.{Meaning}

abbrev pub place_if : ℕ → (begin length : ℕ) (fits : Bool) → ltb (begin + length) (2 ^ 64) ≡ fits → Place
place_if file begin length true e = Some (record { file_id = record { 0 = file }; offset = begin; length = length; fits = ltb-true (begin + length) (2 ^ 64) e })
place_if file begin length false e = None

-- the place in a file from where something begins to where it ends; `None` unless both are below 2 ^ 64, as they are in any text
unfoldable pub place_in : ℕ → ℕ → ℕ → Place
place_in file begin end = place_if file begin (end - begin) (ltb (begin + (end - begin)) (2 ^ 64)) refl

-- what tokens mean in a file, from what string tokens stand for
abbrev pub meaning_in : (Token → List ℕ) → ℕ → Meaning Place
meaning_in string file = record { place = place_in file; string = string }
