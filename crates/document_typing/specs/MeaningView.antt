-- What contracts see of the schema under which a document is typed, and of what is kept of a set.
use Rattle.std.specs.Prelude.{ℕ, List, map, Option, Vec}
use Rattle.std.specs.Borrow.{Bor}
use Rattle.std.specs.Option.{option_map}
use Rattle.std.specs.declared.alloc.Global.{Global}
use Rattle.graphql_names.specs.Placed.{Place}
use Rattle.schema_types.specs.SchemaTree.{SchemaTree}
use Rattle.schema_types.specs.Plain.{plain}
use Rattle.graphql_schema.specs.SchemaOf.{schema_tree}
use Rattle.graphql_schema.specs.declared.schema.Schema.{Schema}
use Rattle.document_typed_selections.specs.TypedTree.{typed_selections, typed_selection_tree}
use Rattle.document_typed_selections.specs.declared.selection.Selection.{Selection}
use Rattle.document_typing.specs.MeantTree.{MeantSelection, meant}
use Rattle.document_typing.specs.Meanings.{Meanings, meanings_of}
use Rattle.document_typing.specs.DefinedByPlace.{AreDefined}

-- the borrowed schema, if there is one
abbrev pub schema_under : Option (Bor Schema) → Option (SchemaTree Place)
schema_under schema = option_map (λ s. schema_tree s.now) schema

-- what typing reads of the borrowed schema, or without a schema
abbrev pub meanings_under : Option (Bor Schema) → Meanings
meanings_under schema = meanings_of (option_map (λ s. plain (schema_tree s.now)) schema)

-- the meaning of typed selections
abbrev pub meant_selections : Vec Selection Global → List (MeantSelection Place)
meant_selections v = map (λ s. meant (typed_selection_tree s)) v.items

-- these typed selections are on the type t, and each of their fields has its definition
abbrev pub AreKeptDefined : Option (SchemaTree Place) → List ℕ → Vec Selection Global → Type 0
AreKeptDefined s t v = AreDefined s t (typed_selections typed_selection_tree v.items)
