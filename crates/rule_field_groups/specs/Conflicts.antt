-- Private: leads to `Merging.antt` of the rules' definitions. What the program tells of two fields.
use Rattle.std.specs.Prelude.{◌≡◌, ◌⊎◌, Vec}
use Rattle.std.specs.declared.alloc.Global.{Global}
use Rattle.graphql_names.specs.Placed.{Place}
use Rattle.rule_field_sets.specs.in_schema.SchemaOf.{schema_tree}
use Rattle.fault_document_errors.specs.declared.build_error.BuildError.{BuildError}
use Rattle.rule_selection_queries.specs.in_definitions.Judged.{Judged, judged}
use Rattle.rule_selection_queries.specs.in_document_definitions.Merging.{SameShape, SameName}
use Rattle.rule_selection_queries.specs.in_document_definitions.SameValues.{SameArguments}
use Rattle.rule_selection_queries.specs.in_document_definitions.Selected.{StandingField}
use Rattle.rule_field_sets.specs.declared.member.Member.{Member}
use Rattle.rule_field_groups.specs.Members.{field_of}
use Rattle.rule_field_groups.specs.LaterField.{IsInOrder}
use Rattle.rule_field_groups.specs.Passes.{TypesConflict, NamesConflict, ArgumentsConflict, AddsUnless}
use Rattle.rule_field_groups.specs.declared.pass.Comparing.{Comparing}

-- the schema that fields are typed under, as the rules read it
abbrev pub judged_by : Comparing → Judged
judged_by comparing = judged (schema_tree comparing.schema.now)

abbrev Breaches : Type 0
Breaches = Vec (Place × BuildError) Global

-- the two fields in the order of the text, where both are in one text; else as they are
abbrev pub AreInTextOrder : Member → Member → Member × Member → Type 0
AreInTextOrder f g two = (IsInOrder (field_of f).place (field_of g).place × (two ≡ (f, g))) ⊎ ((IsInOrder (field_of f).place (field_of g).place → ⊥) × (two ≡ (g, f)))

-- a breach about the types of two fields is added, in one order or the other, unless these have one shape
abbrev pub AddsTypes : Judged → StandingField Place → StandingField Place → Breaches → Breaches → Type 0
AddsTypes s f g = AddsUnless (SameShape s f g) (λ b. TypesConflict s b f g ⊎ TypesConflict s b g f)

-- a breach about their names, unless they have one
abbrev pub AddsNames : StandingField Place → StandingField Place → Breaches → Breaches → Type 0
AddsNames f g = AddsUnless (SameName f g) (λ b. NamesConflict b f g ⊎ NamesConflict b g f)

-- a breach about one of their arguments, unless they have the same
abbrev pub AddsArguments : StandingField Place → StandingField Place → Breaches → Breaches → Type 0
AddsArguments f g = AddsUnless (SameArguments f.head.arguments g.head.arguments) (λ b. ArgumentsConflict b f g ⊎ ArgumentsConflict b g f)
