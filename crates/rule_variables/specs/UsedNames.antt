-- Private: leads to `IsUsedIn` of the definitions of the rules of documents. Names, then those of the variables that an operation uses.
use Rattle.std.specs.Prelude.{ℕ, List, fold}
use Rattle.graphql_names.specs.Placed.{Place}
use Rattle.tree_directives.specs.DirectiveTree.{Directives}
use Rattle.spec_document.specs.MeantTree.{MeantSelection, MeantFragment}
use Rattle.rule_reach.specs.UsedNames.{with_directives, with_selection}

-- the names, then those of the variables in selections themselves, each with the name of the type of its set before it
abbrev pub with_members : List (List ℕ) → List (List ℕ × MeantSelection Place) → List (List ℕ)
with_members = fold (λ ns e. with_selection ns e.1)

-- the names, then those of the variables in the directives of fragments
abbrev pub with_fragments : List (List ℕ) → List (MeantFragment Place) → List (List ℕ)
with_fragments = fold (λ ns f. with_directives ns f.directives)

-- the names, then those of the variables in an operation's directives, in these selections, and in the directives of these fragments
abbrev pub with_used : List (List ℕ) → Directives Place → List (List ℕ × MeantSelection Place) → List (MeantFragment Place) → List (List ℕ)
with_used ns ds members fragments = with_fragments (with_members (with_directives ns ds) members) fragments
