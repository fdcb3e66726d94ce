-- Private: leads to `implementers_in`. What a map of implementers has after namings are noted.
use Rattle.std.specs.Prelude.{◌≡◌, List, fold}
use Rattle.indexmap.specs.IndexMap.{IndexMap}
use Rattle.graphql_names.specs.NameValue.{NameValue}
use Rattle.graphql_schema.specs.Noting.{Naming, and_naming}
use Rattle.graphql_schema.specs.ImplementersView.{implementers_at}
use Rattle.graphql_schema.specs.declared.implementers.Implementers.{Implementers}

module _ {S : Type 0} where
  -- the new map is the old one after the naming x
  abbrev pub Notes : IndexMap NameValue Implementers S → IndexMap NameValue Implementers S → Naming → Type 0
  Notes old new x = (i : NameValue) → implementers_at new i ≡ and_naming i.text (implementers_at old i) x

  -- the new map is the old one after each of these namings, in order
  abbrev pub NotesAll : IndexMap NameValue Implementers S → IndexMap NameValue Implementers S → List Naming → Type 0
  NotesAll old new xs = (i : NameValue) → implementers_at new i ≡ fold (and_naming i.text) (implementers_at old i) xs
