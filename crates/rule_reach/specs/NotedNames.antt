-- Private: leads to `IsUsedIn`, `ReachedAlways` and `UnusedFragmentAt` of the definitions of the rules of documents. The names in a set of names.
use Rattle.std.specs.Prelude.{ℕ, List, map}
use Rattle.indexmap.specs.IndexSet.{IndexSet}
use Rattle.graphql_names.specs.NameValue.{NameValue}

-- the texts of the names in a set
abbrev pub noted_names : {S : Type 0} → IndexSet NameValue S → List (List ℕ)
noted_names names = map (λ k. k.text) names.keys
