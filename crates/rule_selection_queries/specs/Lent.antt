-- Private: leads to `Always`. What contracts see of borrowed selections.
use Rattle.std.specs.Prelude.{List, map}
use Rattle.graphql_names.specs.Placed.{Place}
use Rattle.document_typed_selections.specs.TypedTree.{typed_selection_tree}
use Rattle.document_typed_selections.specs.declared.selection.Selection.{Selection}
use Rattle.spec_document.specs.MeantTree.{MeantSelection, meant}

-- what a selection means
abbrev pub lent : Selection → MeantSelection Place
lent s = meant (typed_selection_tree s)

abbrev pub lent_all : List Selection → List (MeantSelection Place)
lent_all ss = map lent ss
