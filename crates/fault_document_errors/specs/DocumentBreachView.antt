-- What contracts see of a `BuildError` of documents.
use Rattle.std.specs.Prelude.{ℕ, List, Option}
use Rattle.std.specs.Option.{option_map}
use Rattle.std.specs.String.{string_bytes}
use Rattle.graphql_names.specs.NameValue.{NameValue}
use Rattle.graphql_names.specs.Placed.{Place}
use Rattle.tree_literals.specs.TypeTree.{type_tree, unplaced_type}
use Rattle.tree_literals.specs.ValueTree.{ValueTree, value_tree, unplaced_value}
use Rattle.tree_literals.specs.declared.value.Value.{Value}
use Rattle.schema_coordinates.specs.CoordinateView.{attribute_coordinate, argument_coordinate}
use Rattle.fault_document_errors.specs.DocumentBreaches as breach
use Rattle.fault_document_errors.specs.DocumentBreaches.{DocumentBreach}
use Rattle.fault_document_errors.specs.declared.build_error.BuildError.{BuildError}
use Rattle.fault_document_errors.specs.declared.build_error.BuildError.TheVariants as rust
use Rattle.fault_document_errors.specs.declared.build_error.ConflictingFieldName.{ConflictingFieldName}
use Rattle.fault_document_errors.specs.declared.build_error.ConflictingFieldArgument.{ConflictingFieldArgument}
use Rattle.fault_document_errors.specs.declared.build_error.ConflictingFieldType.{ConflictingFieldType}

abbrev pub text_of_name : NameValue → List ℕ
text_of_name n = n.text

abbrev pub value_in_conflict : Option Value → Option (ValueTree (Unit {0}))
value_in_conflict = option_map (λ v. unplaced_value (value_tree v))

abbrev pub name_conflict : ConflictingFieldName → DocumentBreach Place
name_conflict c = breach.ConflictingFieldName c.alias.text
    (record { location = c.original_location; coordinate = attribute_coordinate c.original_selection; what = tt })
    (record { location = c.conflicting_location; coordinate = attribute_coordinate c.conflicting_selection; what = tt })

abbrev pub argument_conflict : ConflictingFieldArgument → DocumentBreach Place
argument_conflict c = breach.ConflictingFieldArgument c.alias.text
    (record { location = c.original_location; coordinate = argument_coordinate c.original_coordinate; what = value_in_conflict c.original_value })
    (record { location = c.conflicting_location; coordinate = argument_coordinate c.conflicting_coordinate; what = value_in_conflict c.conflicting_value })

abbrev pub type_conflict : ConflictingFieldType → DocumentBreach Place
type_conflict c = breach.ConflictingFieldType c.alias.text
    (record { location = c.original_location; coordinate = attribute_coordinate c.original_coordinate; what = unplaced_type (type_tree c.original_type) })
    (record { location = c.conflicting_location; coordinate = attribute_coordinate c.conflicting_coordinate; what = unplaced_type (type_tree c.conflicting_type) })

abbrev pub document_breach_of : BuildError → DocumentBreach Place
document_breach_of rust.TypeSystemDefinition = breach.TypeSystemDefinition
document_breach_of rust.AmbiguousAnonymousOperation = breach.AmbiguousAnonymousOperation
document_breach_of (rust.OperationNameCollision n) = breach.OperationNameCollision n.text
document_breach_of (rust.FragmentNameCollision n) = breach.FragmentNameCollision n.text
document_breach_of (rust.UndefinedRootOperation o) = breach.UndefinedRootOperation o
document_breach_of (rust.UndefinedTypeInNamedFragmentTypeCondition t) = breach.UndefinedTypeInNamedFragmentTypeCondition t.text
document_breach_of (rust.UndefinedTypeInInlineFragmentTypeCondition t) = breach.UndefinedTypeInInlineFragmentTypeCondition t.text
document_breach_of (rust.SubselectionOnScalarType t) = breach.SubselectionOnScalarType t.text
document_breach_of (rust.SubselectionOnEnumType t) = breach.SubselectionOnEnumType t.text
document_breach_of (rust.UndefinedField t f) = breach.UndefinedField t.text f.text
document_breach_of (rust.ConflictingFieldName c) = name_conflict c.value
document_breach_of (rust.ConflictingFieldArgument c) = argument_conflict c.value
document_breach_of (rust.ConflictingFieldType c) = type_conflict c.value
document_breach_of (rust.SubscriptionUsesMultipleFields n) = breach.SubscriptionUsesMultipleFields (option_map text_of_name n)
document_breach_of (rust.SubscriptionUsesIntrospection n f) = breach.SubscriptionUsesIntrospection (option_map text_of_name n) f.text
document_breach_of (rust.SubscriptionUsesConditionalSelection n) = breach.SubscriptionUsesConditionalSelection (option_map text_of_name n)
document_breach_of rust.DeferLabelMustNotBeVariable = breach.DeferLabelMustNotBeVariable
document_breach_of (rust.DuplicateDeferLabel l p) = breach.DuplicateDeferLabel (string_bytes l) p
document_breach_of (rust.DeferOnRootMutationOrSubscriptionField o) = breach.DeferOnRootMutationOrSubscriptionField o
document_breach_of rust.DeferInSubscriptionMustBeConditional = breach.DeferInSubscriptionMustBeConditional
