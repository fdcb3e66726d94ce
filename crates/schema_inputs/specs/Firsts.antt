-- What a map has under each name of a list with repeated names: a value for the first element of that name.
use Rattle.std.specs.Prelude.{◌≡◌, ℕ, suc, List, [], ◌∷◌, bytes_eq, Option, None, Some, if◌then◌else◌}
use Rattle.indexmap.specs.IndexMap.{IndexMap, get}
use Rattle.graphql_names.specs.NameValue.{NameValue}
use Rattle.schema_components.specs.Names.{same_text}
use Rattle.schema_types.specs.TypeView.{name_text}

-- what `tell` makes of the index and the element, for the first element with the name
abbrev pub first_told : {X V : Type 0} → (X → List ℕ) → (ℕ → X → V) → List X → List ℕ → Option V
first_told name tell [] n = None
first_told name tell (x ∷ xs) n = if bytes_eq (name x) n then Some (tell 0 x) else first_told name (λ i. tell (suc i)) xs n

-- under each name the map has what `tell` makes of the first element with it, and nothing if there is none
abbrev pub AreFirsts : {X V S : Type 0} → (X → List ℕ) → (ℕ → X → V) → IndexMap NameValue V S → List X → Type 0
AreFirsts name tell firsts xs = (n : NameValue) → get (same_text name_text) firsts n ≡ first_told name tell xs n.text

-- under each name the map has the index of the first element with it
abbrev pub AreNumbers : {X S : Type 0} → (X → List ℕ) → IndexMap NameValue ℕ S → List X → Type 0
AreNumbers name numbers xs = AreFirsts name (λ i x. i) numbers xs
