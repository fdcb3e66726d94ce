-- `==` of breaches of documents decides whether they say the same.
use Rattle.std.proofs.Common.{◌≡◌, ◌∙◌, ℕ, false, true≢false, nat_eq, refl, sym, ap, Option}
use Rattle.std.specs.Bool.{Decides}
use Rattle.std.specs.Option.{option_eq}
use Rattle.std.specs.String.{string_bytes}
use Rattle.std.specs.Cmp.{unsigned_Decides}
use Rattle.std.specs.Cmp.Lexicographic.{bytes_decides}
use Rattle.graphql_names.specs.Placed.{Place}
use Rattle.graphql_values.proofs.Decided.{through, pair_decides}
use Rattle.graphql_values.proofs.OperationEquality.{operation_type_eq-Decides}
use Rattle.graphql_values.proofs.TypeEquality.{type_eq-Decides}
use Rattle.graphql_values.proofs.ValueEquality.{value_eq, value_eq-Decides}
use Rattle.tree_literals.specs.TypeTree.{type_tree, unplaced_type}
use Rattle.tree_literals.specs.ValueTree.{value_tree, unplaced_value}
use Rattle.tree_literals.specs.declared.value.Value.{Value}
use Rattle.schema_coordinates.specs.Coordinate.{Coordinate}
use Rattle.schema_coordinates.specs.CoordinateView.{attribute_coordinate, argument_coordinate}
use Rattle.fault_document_errors.specs.DocumentBreachView.{document_breach_of, name_conflict, argument_conflict, type_conflict, value_in_conflict}
use Rattle.fault_document_errors.specs.DocumentBreaches as breach
use Rattle.fault_document_errors.specs.DocumentBreaches.{Selected, DocumentBreach}
use Rattle.fault_document_errors.specs.declared.build_error.BuildError.{BuildError}
use Rattle.fault_document_errors.specs.declared.build_error.BuildError.TheVariants as rust
use Rattle.fault_document_errors.specs.declared.build_error.ConflictingFieldName.{ConflictingFieldName}
use Rattle.fault_document_errors.specs.declared.build_error.ConflictingFieldArgument.{ConflictingFieldArgument}
use Rattle.fault_document_errors.specs.declared.build_error.ConflictingFieldType.{ConflictingFieldType}
use Rattle.fault_document_errors.specs.contracts.build_error.BuildErrorPartialEq.TheImpl as eq
use Rattle.fault_document_errors.specs.contracts.build_error.ConflictingFieldNamePartialEq.TheImpl as name_eq
use Rattle.fault_document_errors.specs.contracts.build_error.ConflictingFieldArgumentPartialEq.TheImpl as argument_eq
use Rattle.fault_document_errors.specs.contracts.build_error.ConflictingFieldTypePartialEq.TheImpl as conflict_type_eq
use Rattle.graphql_faults.proofs.Parts.{text_decides, names_decide, option_decides, place_decides, attribute_decides, argument_decides}

values_decide : (x y : Option Value) → Decides (option_eq value_eq x y) (value_in_conflict x ≡ value_in_conflict y)
values_decide = option_decides value_eq (λ v. unplaced_value (value_tree v)) value_eq-Decides

abbrev location_of : {A : Type 0} → Selected Place A → Place
location_of s = s.location

abbrev coordinate_of : {A : Type 0} → Selected Place A → Coordinate
coordinate_of s = s.coordinate

abbrev what_of : {A : Type 0} → Selected Place A → A
what_of s = s.what

abbrev selected : {A : Type 0} → Place → Coordinate → A → Selected Place A
selected location coordinate what = record { location = location; coordinate = coordinate; what = what }

name_conflict_decides : (a b : ConflictingFieldName) → Decides (name_eq.ghosts.eq a b) (name_conflict a ≡ name_conflict b)
name_conflict_decides a b =
    through
    (pair_decides _ _ (text_decides a.alias b.alias)
    (pair_decides _ _ (place_decides a.original_location b.original_location)
    (pair_decides _ _ (attribute_decides a.original_selection b.original_selection)
    (pair_decides _ _ (place_decides a.conflicting_location b.conflicting_location)
    (attribute_decides a.conflicting_selection b.conflicting_selection)))))
    (λ s i. breach.ConflictingFieldName (s.0 i) (selected (s.1.0 i) (s.1.1.0 i) tt) (selected (s.1.1.1.0 i) (s.1.1.1.1 i) tt))
    (λ r.
    let o : selected {A = Unit {0}} a.original_location (attribute_coordinate a.original_selection) tt ≡ selected b.original_location (attribute_coordinate b.original_selection) tt = cc in
    let c : selected {A = Unit {0}} a.conflicting_location (attribute_coordinate a.conflicting_selection) tt ≡ selected b.conflicting_location (attribute_coordinate b.conflicting_selection) tt = cc in
    (cc, (ap location_of o, (ap coordinate_of o, (ap location_of c, ap coordinate_of c)))))

argument_conflict_decides : (a b : ConflictingFieldArgument) → Decides (argument_eq.ghosts.eq a b) (argument_conflict a ≡ argument_conflict b)
argument_conflict_decides a b =
    through
    (pair_decides _ _ (text_decides a.alias b.alias)
    (pair_decides _ _ (place_decides a.original_location b.original_location)
    (pair_decides _ _ (argument_decides a.original_coordinate b.original_coordinate)
    (pair_decides _ _ (values_decide a.original_value b.original_value)
    (pair_decides _ _ (place_decides a.conflicting_location b.conflicting_location)
    (pair_decides _ _ (argument_decides a.conflicting_coordinate b.conflicting_coordinate)
    (values_decide a.conflicting_value b.conflicting_value)))))))
    (λ s i. breach.ConflictingFieldArgument (s.0 i) (selected (s.1.0 i) (s.1.1.0 i) (s.1.1.1.0 i)) (selected (s.1.1.1.1.0 i) (s.1.1.1.1.1.0 i) (s.1.1.1.1.1.1 i)))
    (λ r.
    let o : selected a.original_location (argument_coordinate a.original_coordinate) (value_in_conflict a.original_value) ≡ selected b.original_location (argument_coordinate b.original_coordinate) (value_in_conflict b.original_value) = cc in
    let c : selected a.conflicting_location (argument_coordinate a.conflicting_coordinate) (value_in_conflict a.conflicting_value) ≡ selected b.conflicting_location (argument_coordinate b.conflicting_coordinate) (value_in_conflict b.conflicting_value) = cc in
    (cc, (ap location_of o, (ap coordinate_of o, (ap what_of o, (ap location_of c, (ap coordinate_of c, ap what_of c)))))))

type_conflict_decides : (a b : ConflictingFieldType) → Decides (conflict_type_eq.ghosts.eq a b) (type_conflict a ≡ type_conflict b)
type_conflict_decides a b =
    through
    (pair_decides _ _ (text_decides a.alias b.alias)
    (pair_decides _ _ (place_decides a.original_location b.original_location)
    (pair_decides _ _ (attribute_decides a.original_coordinate b.original_coordinate)
    (pair_decides _ _ (type_eq-Decides a.original_type b.original_type)
    (pair_decides _ _ (place_decides a.conflicting_location b.conflicting_location)
    (pair_decides _ _ (attribute_decides a.conflicting_coordinate b.conflicting_coordinate)
    (type_eq-Decides a.conflicting_type b.conflicting_type)))))))
    (λ s i. breach.ConflictingFieldType (s.0 i) (selected (s.1.0 i) (s.1.1.0 i) (s.1.1.1.0 i)) (selected (s.1.1.1.1.0 i) (s.1.1.1.1.1.0 i) (s.1.1.1.1.1.1 i)))
    (λ r.
    let o : selected a.original_location (attribute_coordinate a.original_coordinate) (unplaced_type (type_tree a.original_type)) ≡ selected b.original_location (attribute_coordinate b.original_coordinate) (unplaced_type (type_tree b.original_type)) = cc in
    let c : selected a.conflicting_location (attribute_coordinate a.conflicting_coordinate) (unplaced_type (type_tree a.conflicting_type)) ≡ selected b.conflicting_location (attribute_coordinate b.conflicting_coordinate) (unplaced_type (type_tree b.conflicting_type)) = cc in
    (cc, (ap location_of o, (ap coordinate_of o, (ap what_of o, (ap location_of c, (ap coordinate_of c, ap what_of c)))))))

abbrev number : DocumentBreach Place → ℕ
number breach.TypeSystemDefinition = 0
number breach.AmbiguousAnonymousOperation = 1
number (breach.OperationNameCollision a) = 2
number (breach.FragmentNameCollision a) = 3
number (breach.UndefinedRootOperation a) = 4
number (breach.UndefinedTypeInNamedFragmentTypeCondition a) = 5
number (breach.UndefinedTypeInInlineFragmentTypeCondition a) = 6
number (breach.SubselectionOnScalarType a) = 7
number (breach.SubselectionOnEnumType a) = 8
number (breach.UndefinedField a b) = 9
number (breach.ConflictingFieldName a b c) = 10
number (breach.ConflictingFieldArgument a b c) = 11
number (breach.ConflictingFieldType a b c) = 12
number (breach.SubscriptionUsesMultipleFields a) = 13
number (breach.SubscriptionUsesIntrospection a b) = 14
number (breach.SubscriptionUsesConditionalSelection a) = 15
number breach.DeferLabelMustNotBeVariable = 16
number (breach.DuplicateDeferLabel a b) = 17
number (breach.DeferOnRootMutationOrSubscriptionField a) = 18
number breach.DeferInSubscriptionMustBeConditional = 19

-- two variants: neither test nor view takes them for the same
apart : (a b : BuildError) → eq.ghosts.eq a b ≡ false → nat_eq (number (document_breach_of a)) (number (document_breach_of b)) ≡ false → Decides (eq.ghosts.eq a b) (document_breach_of a ≡ document_breach_of b)
apart a b e n =
    ((λ r. absurd (true≢false (sym r ∙ e))), (λ r. absurd (true≢false (sym ((unsigned_Decides (number (document_breach_of a)) (number (document_breach_of b))).1 (ap number r)) ∙ n))))

pub breach_eq-Decides : (a b : BuildError) → Decides (eq.ghosts.eq a b) (document_breach_of a ≡ document_breach_of b)
breach_eq-Decides rust.TypeSystemDefinition rust.TypeSystemDefinition = ((λ r. refl), (λ r. refl))
breach_eq-Decides rust.AmbiguousAnonymousOperation rust.AmbiguousAnonymousOperation = ((λ r. refl), (λ r. refl))
breach_eq-Decides (rust.OperationNameCollision name) (rust.OperationNameCollision name') = through (text_decides name name') (ap breach.OperationNameCollision) (λ r. cc)
breach_eq-Decides (rust.FragmentNameCollision name) (rust.FragmentNameCollision name') = through (text_decides name name') (ap breach.FragmentNameCollision) (λ r. cc)
breach_eq-Decides (rust.UndefinedRootOperation operation_type) (rust.UndefinedRootOperation operation_type') = through (operation_type_eq-Decides operation_type operation_type') (ap breach.UndefinedRootOperation) (λ r. cc)
breach_eq-Decides (rust.UndefinedTypeInNamedFragmentTypeCondition type_name) (rust.UndefinedTypeInNamedFragmentTypeCondition type_name') = through (text_decides type_name type_name') (ap breach.UndefinedTypeInNamedFragmentTypeCondition) (λ r. cc)
breach_eq-Decides (rust.UndefinedTypeInInlineFragmentTypeCondition type_name) (rust.UndefinedTypeInInlineFragmentTypeCondition type_name') = through (text_decides type_name type_name') (ap breach.UndefinedTypeInInlineFragmentTypeCondition) (λ r. cc)
breach_eq-Decides (rust.SubselectionOnScalarType type_name) (rust.SubselectionOnScalarType type_name') = through (text_decides type_name type_name') (ap breach.SubselectionOnScalarType) (λ r. cc)
breach_eq-Decides (rust.SubselectionOnEnumType type_name) (rust.SubselectionOnEnumType type_name') = through (text_decides type_name type_name') (ap breach.SubselectionOnEnumType) (λ r. cc)
breach_eq-Decides (rust.UndefinedField type_name field_name) (rust.UndefinedField type_name' field_name') = through (pair_decides _ _ (text_decides type_name type_name') (text_decides field_name field_name')) (λ s i. breach.UndefinedField (s.0 i) (s.1 i)) (λ r. (cc, cc))
breach_eq-Decides (rust.ConflictingFieldName c) (rust.ConflictingFieldName d) = name_conflict_decides c.value d.value
breach_eq-Decides (rust.ConflictingFieldArgument c) (rust.ConflictingFieldArgument d) = argument_conflict_decides c.value d.value
breach_eq-Decides (rust.ConflictingFieldType c) (rust.ConflictingFieldType d) = type_conflict_decides c.value d.value
breach_eq-Decides (rust.SubscriptionUsesMultipleFields name) (rust.SubscriptionUsesMultipleFields name') = through (names_decide name name') (ap breach.SubscriptionUsesMultipleFields) (λ r. cc)
breach_eq-Decides (rust.SubscriptionUsesIntrospection name field) (rust.SubscriptionUsesIntrospection name' field') = through (pair_decides _ _ (names_decide name name') (text_decides field field')) (λ s i. breach.SubscriptionUsesIntrospection (s.0 i) (s.1 i)) (λ r. (cc, cc))
breach_eq-Decides (rust.SubscriptionUsesConditionalSelection name) (rust.SubscriptionUsesConditionalSelection name') = through (names_decide name name') (ap breach.SubscriptionUsesConditionalSelection) (λ r. cc)
breach_eq-Decides rust.DeferLabelMustNotBeVariable rust.DeferLabelMustNotBeVariable = ((λ r. refl), (λ r. refl))
breach_eq-Decides (rust.DuplicateDeferLabel label original_location) (rust.DuplicateDeferLabel label' original_location') = through (pair_decides _ _ (bytes_decides (string_bytes label) (string_bytes label')) (place_decides original_location original_location')) (λ s i. breach.DuplicateDeferLabel (s.0 i) (s.1 i)) (λ r. (cc, cc))
breach_eq-Decides (rust.DeferOnRootMutationOrSubscriptionField operation_type) (rust.DeferOnRootMutationOrSubscriptionField operation_type') = through (operation_type_eq-Decides operation_type operation_type') (ap breach.DeferOnRootMutationOrSubscriptionField) (λ r. cc)
breach_eq-Decides rust.DeferInSubscriptionMustBeConditional rust.DeferInSubscriptionMustBeConditional = ((λ r. refl), (λ r. refl))
breach_eq-Decides a b = apart a b refl refl
