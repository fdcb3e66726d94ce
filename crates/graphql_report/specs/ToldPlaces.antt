-- The places that the data of a fault have, each with words.
use Rattle.std.specs.Prelude.{◌≡◌, ℕ, List, [], ◌∷◌, ◌++◌, codes, map, string_bytes, Option, None, Some}
use Rattle.graphql_names.specs.Placed.{Placed, Place}
use Rattle.fault_document_errors.specs.DocumentBreaches as document
use Rattle.fault_document_errors.specs.DocumentBreaches.{DocumentBreach}
use Rattle.fault_data.specs.in_rule_definitions.Diagnostics as rule
use Rattle.fault_data.specs.in_rule_definitions.Diagnostics.{Diagnostic}
use Rattle.graphql_faults.specs.DetailsTree.{DetailsTree, DocumentBuild, Data}
use Rattle.schema_coordinates.specs.Coordinate.{Coordinate, OfDirective}
use Rattle.report_forms.specs.declared.entry.Related.{Related}
use Rattle.report_forms.specs.declared.noted.Noted.{Noted}

-- a place, and what is there
abbrev pub plain : Noted → Place × List ℕ
plain noted = (noted.place, noted.words.now)

abbrev pub extended : Place → Place × List ℕ
extended place = (place, codes "extended here")

abbrev pub in_cycle : Place → Place × List ℕ
in_cycle place = (place, codes "the cycle goes through here")

abbrev pub each_in_cycle : {A : Type 0} → List (Placed Place A) → List (Place × List ℕ)
each_in_cycle trace = map (λ t. in_cycle t.place) trace

-- an argument that is not defined has the place of the field's definition, or of the use of the directive
abbrev pub taker_words : Coordinate → List ℕ
taker_words (OfDirective directive) = codes "the use of the directive"
taker_words _ = codes "the definition"

-- the first place of a fault of schemas, uses, values or documents, if it has one
abbrev pub first_of_data : Diagnostic Place (List Place) → Place × List ℕ
first_of_data (rule.DuplicateRootOperationType a b original d e) = (original, codes "first named as a root here")
first_of_data (rule.OutputType a b type) = (type, codes "the type")
first_of_data (rule.InputType a b type) = (type, codes "the type")
first_of_data (rule.UniqueInputValue a original c) = (original, codes "first defined here")
first_of_data (rule.UniqueVariable a original c) = (original, codes "first defined here")
first_of_data (rule.UniqueArgument a original c) = (original, codes "first given here")
first_of_data (rule.UniqueDirective a original) = (original, codes "first used here")
first_of_data (rule.TransitiveImplementedInterfaces a b place d) = (place, codes "implemented here")
first_of_data (rule.MissingInterfaceField a b c d field) = (field, codes "the interface's field")
first_of_data (rule.InvalidImplementationFieldType a b c d e f field) = (field, codes "the interface's field")
first_of_data (rule.ExtraRequiredImplementationFieldArgument a b c d e field) = (field, codes "the interface's field")
first_of_data (rule.MissingInterfaceFieldArgument a b c d e argument) = (argument, codes "the interface's argument")
first_of_data (rule.InvalidImplementationFieldArgumentType a b c d e f g argument) = (argument, codes "the interface's argument")
first_of_data (rule.UnsupportedLocation a b c definition) = (definition, codes "the directive's definition")
first_of_data (rule.UndefinedArgument a taker place) = (place, taker_words taker)
first_of_data (rule.RequiredArgument a b c definition) = (definition, codes "the definition")
first_of_data (rule.UnsupportedValueType a b definition) = (definition, codes "the definition")
first_of_data (rule.UndefinedEnumValue a b definition) = (definition, codes "the definition")
first_of_data (rule.UndefinedInputValue a b definition) = (definition, codes "the definition")
first_of_data (rule.RequiredField a b c definition) = (definition, codes "the definition")
first_of_data (rule.DisallowedVariableUsage a b variable d e f) = (variable, codes "the variable's definition")
first_of_data (rule.InvalidFragmentSpread a b c fragment e) = (fragment, codes "the fragment's definition")
first_of_data _ = (None, [])

-- its further places
abbrev pub more_of_data : Diagnostic Place (List Place) → List (Place × List ℕ)
more_of_data (rule.EmptyFieldSet a b extensions) = map extended extensions
more_of_data (rule.EmptyValueSet a b extensions) = map extended extensions
more_of_data (rule.EmptyMemberSet a b extensions) = map extended extensions
more_of_data (rule.EmptyInputValueSet a b extensions) = map extended extensions
more_of_data (rule.InvalidFragmentSpread a b c d type) = (type, codes "the type's definition") ∷ []
more_of_data (rule.RecursiveInputObjectDefinition a trace) = each_in_cycle trace
more_of_data (rule.RecursiveDirectiveDefinition a trace) = each_in_cycle trace
more_of_data (rule.RecursiveFragmentDefinition a b trace) = each_in_cycle trace
more_of_data _ = []

-- the first place of a fault of typing, merging, subscriptions or @defer, if it has one
abbrev pub first_of_document : DocumentBreach Place → Place × List ℕ
first_of_document (document.ConflictingFieldName a original c) = (original.location, codes "the other field")
first_of_document (document.ConflictingFieldArgument a original c) = (original.location, codes "the other field")
first_of_document (document.ConflictingFieldType a original c) = (original.location, codes "the other field")
first_of_document (document.DuplicateDeferLabel a original) = (original, codes "first used here")
first_of_document _ = (None, [])

abbrev pub first_of : DetailsTree Place (List Place) → Place × List ℕ
first_of (DocumentBuild breach) = first_of_document breach
first_of (Data diagnostic) = first_of_data diagnostic
first_of _ = (None, [])

abbrev pub more_of : DetailsTree Place (List Place) → List (Place × List ℕ)
more_of (Data diagnostic) = more_of_data diagnostic
more_of _ = []

-- the name of the operation that a fault is in, if its data have it
abbrev pub operation_in : DocumentBreach Place → Option (List ℕ)
operation_in (document.SubscriptionUsesMultipleFields name) = name
operation_in (document.SubscriptionUsesIntrospection name field) = name
operation_in (document.SubscriptionUsesConditionalSelection name) = name
operation_in _ = None

abbrev pub operation_of : DetailsTree Place (List Place) → Option (List ℕ)
operation_of (DocumentBuild breach) = operation_in breach
operation_of _ = None

abbrev pub operation_words : List ℕ → List ℕ
operation_words name = codes "in operation `" ++ name ++ codes "`"

-- the words for the operation, if there is one
abbrev pub words_in : Option (List ℕ) → List (List ℕ)
words_in None = []
words_in (Some name) = operation_words name ∷ []

-- the operation that the data name is added
pub record AddsOperation (details : DetailsTree Place (List Place)) (old new : List Related) : Type 0 where
  pub operation : List Related
  pub named : map (λ (r : Related). string_bytes r.words) operation ≡ words_in (operation_of details)
  pub adds : new ≡ old ++ operation

-- all places
abbrev pub places_of : DetailsTree Place (List Place) → List (Place × List ℕ)
places_of details = first_of details ∷ more_of details
