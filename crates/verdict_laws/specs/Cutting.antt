-- One list of definitions, read from texts that are cut in two ways: each definition is the same, apart from places (GraphQL, October 2021,
-- section 3).
use Rattle.std.specs.Prelude.{◌≡◌, ℕ, List, map, option_map}
use Rattle.graphql_names.specs.Placed.{Place, unplaced_text, unplaced_node}
use Rattle.schema_fold.specs.in_directives.DirectiveTree.{unplaced_directive, unplaced_input_value}
use Rattle.schema_fold.specs.in_type_members.TypeSystemTree.{unplaced_field_definition, unplaced_enum_value}
use Rattle.schema_fold.specs.in_definitions.DefinitionTree.{unplaced_document}
use Rattle.schema_fold.specs.in_components.Given.{Given}
use Rattle.schema_fold.specs.in_components.Names.{Entries}
use Rattle.schema_fold.specs.in_schema_types.SchemaTree.{SchemaType}
use Rattle.schema_fold.specs.NumberedDefinition.{Definitions}
use Rattle.schema_fold.specs.Fold.{folded_types}
use Rattle.verdict_laws.specs.Table.{AreOwn}
use Rattle.verdict_laws.specs.Twice.{WrittenOf}
use Rattle.verdict_laws.specs.RearrangedLists.{IsRearranged}

abbrev pub CutIsRearranged : Type 0
CutIsRearranged = (ds es : Definitions) → unplaced_document ds ≡ unplaced_document es → IsRearranged ds es

-- ---- what is folded

-- what was given, and the number of the extension that gave it, without places
abbrev pub unplaced_given : {A B : Type 0} → (A → B) → Given Place A → Given (Unit {0}) B
unplaced_given f g = record { extension = option_map (λ e. record { number = e.number; place = tt }) g.extension; it = f g.it }

abbrev pub unplaced_entry : {A B : Type 0} → (A → B) → List ℕ × Given Place A → List ℕ × Given (Unit {0}) B
unplaced_entry f e = (e.0, unplaced_given f e.1)

-- a type of a schema, without places
abbrev pub unplaced_schema_type : SchemaType Place → SchemaType (Unit {0})
unplaced_schema_type t = record {
  kind = t.kind;
  place = tt;
  description = option_map unplaced_text t.description;
  name = unplaced_text t.name;
  directives = map (unplaced_given (unplaced_node unplaced_directive)) t.directives;
  interfaces = map (unplaced_given unplaced_text) t.interfaces;
  fields = map (unplaced_entry (unplaced_node unplaced_field_definition)) t.fields;
  members = map (unplaced_given unplaced_text) t.members;
  values = map (unplaced_entry (unplaced_node unplaced_enum_value)) t.values;
  inputs = map (unplaced_entry (unplaced_node unplaced_input_value)) t.inputs;
}

abbrev pub unplaced_types : Entries (SchemaType Place) → Entries (SchemaType (Unit {0}))
unplaced_types es = map (λ e. (e.0, unplaced_schema_type e.1)) es

-- the same types in the same order, each with the same components in the same order, from extensions of the same numbers
abbrev pub CutKeepsTypes : Type 0
CutKeepsTypes = (first : ℕ) (ds es : Definitions) → unplaced_document ds ≡ unplaced_document es
    → unplaced_types (folded_types first ds) ≡ unplaced_types (folded_types first es)

-- ---- what is written

-- the same definitions in the same order
abbrev pub CutWritesAlike : Type 0
CutWritesAlike = (built_in : Definitions) (i j : ℕ) (ds es : Definitions) → unplaced_document ds ≡ unplaced_document es → AreOwn ds → AreOwn es
    → unplaced_document (WrittenOf built_in i ds) ≡ unplaced_document (WrittenOf built_in j es)

-- the numbers of extensions do not change what is written
abbrev pub NumbersAreNotWritten : Type 0
NumbersAreNotWritten = (built_in : Definitions) (i j : ℕ) (ds : Definitions) → WrittenOf built_in i ds ≡ WrittenOf built_in j ds
