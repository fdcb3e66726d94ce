-- Private: leads to `UniqueArgumentDefinitionAt`. What the check of repeated names has noted.
use Rattle.std.specs.Prelude.{◌≡◌}
use Rattle.std.specs.Option.{option_map}
use Rattle.indexmap.specs.IndexMap.{IndexMap, get}
use Rattle.graphql_names.specs.NameValue.{NameValue}
use Rattle.graphql_names.specs.Placed.{Place}
use Rattle.tree_directives.specs.DirectiveTree.{InputValues}
use Rattle.schema_components.specs.Names.{same_text}
use Rattle.schema_types.specs.TypeView.{name_text}
use Rattle.rule_types.specs.FaultLists.{first_named}

-- the map has under each name the place of the first of these with that name
abbrev pub AreSeen : {S : Type 0} → IndexMap NameValue Place S → InputValues Place → Type 0
AreSeen seen vs = (n : NameValue) → get (same_text name_text) seen n ≡ option_map (λ v. v.place) (first_named vs n.text)
