-- The names that a hint offers.
use Rattle.std.specs.Prelude.{◌≡◌, ℕ, List, map, Option, None, Some, ⊤}
use Rattle.std.specs.List.{Contains}
use Rattle.report_forms.specs.Closest.{meant_words}
use Rattle.graphql_report.specs.declared.text_names.TextName.{TextName}

-- the names that texts have
abbrev pub names_of : List TextName → List (List ℕ)
names_of names = map (λ (n : TextName). n.name.now) names

-- the name, if there is one, is one of these
abbrev pub IsOneOf : List (List ℕ) → Option (List ℕ) → Type 0
IsOneOf names None = ⊤
IsOneOf names (Some name) = Contains names name

-- the words, if there are any, offer one of these names, after a sign
abbrev pub Offers : List (List ℕ) → Option (List ℕ) → Type 0
Offers names None = ⊤
Offers names (Some words) = (sign : List ℕ) × (name : List ℕ) × Contains names name × (words ≡ meant_words sign name)
