-- What contracts see of the list of the texts' definitions.
use Rattle.std.specs.Prelude.{ℕ, List, map}
use Rattle.schema_built_in.specs.in_fold.NumberedDefinition.{NumberedDefinition}
use Rattle.schema_built_in.specs.in_fold.ListedView.{listed_view}
use Rattle.schema_building.specs.declared.texts.Texts.{Texts}

-- the number that the next extension gets, and the definitions with their numbers
pub record TextsView : Type 0 where
  pub next : ℕ
  pub list : List NumberedDefinition

abbrev pub texts_view : Texts → TextsView
texts_view t = record { next = t.extensions; list = map listed_view t.list.items }
