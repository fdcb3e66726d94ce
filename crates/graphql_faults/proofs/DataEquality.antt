-- `==` of data of faults, with the places of traces, decides whether they say the same.
use Rattle.std.proofs.Common.{◌≡◌, ◌∙◌, ℕ, List, false, true≢false, nat_eq, refl, sym, ap}
use Rattle.std.specs.String.{string_bytes}
use Rattle.std.specs.Cmp.{unsigned_Decides}
use Rattle.std.specs.Cmp.Lexicographic.{bytes_decides, pointwise_decides}
use Rattle.graphql_names.specs.Node.{content}
use Rattle.graphql_names.specs.Placed.{Place}
use Rattle.graphql_values.proofs.Decided.{through, pair_decides}
use Rattle.graphql_values.proofs.DirectiveEquality.{location_eq-Decides}
use Rattle.graphql_values.proofs.OperationEquality.{operation_type_eq-Decides}
use Rattle.graphql_values.proofs.TypeEquality.{type_eq-Decides}
use Rattle.graphql_values.proofs.ValueEquality.{value_eq-Decides}
use Rattle.rule_definitions.specs.Diagnostics as tree
use Rattle.rule_definitions.specs.Diagnostics.{Diagnostic}
use Rattle.fault_data.specs.DiagnosticView.{diagnostic_of}
use Rattle.fault_data.specs.declared.diagnostic_data.DiagnosticData.{DiagnosticData}
use Rattle.fault_data.specs.declared.diagnostic_data.DiagnosticData.TheVariants as rust
use Rattle.fault_data.specs.contracts.diagnostic_data.DiagnosticDataPartialEq.TheImpl as eq
use Rattle.graphql_faults.specs.TracePlaces.{trace_places}
use Rattle.graphql_faults.proofs.Parts.{text_decides, names_decide, place_decides, attribute_decides, coordinate_decides}
use Rattle.graphql_faults.proofs.Traces.{Rests, alone, via, front, inputs_same, directives_same, spreads_same}

-- `==` and the places of traces decide whether two say the same
abbrev pub Same : (a b : DiagnosticData) → Type 0
Same a b = Rests (eq.ghosts.eq a b) (trace_places a ≡ trace_places b) (diagnostic_of a ≡ diagnostic_of b)

abbrev number : Diagnostic Place (List Place) → ℕ
number tree.QueryRootOperationType = 0
number (tree.UndefinedDefinition a) = 1
number (tree.RootOperationObjectType a b) = 2
number (tree.DuplicateRootOperationType a b c d e) = 3
number (tree.ReservedName a b) = 4
number (tree.OutputType a b c) = 5
number (tree.InputType a b c) = 6
number (tree.EmptyFieldSet a b c) = 7
number (tree.EmptyValueSet a b c) = 8
number (tree.EmptyMemberSet a b c) = 9
number (tree.EmptyInputValueSet a b c) = 10
number (tree.UnionMemberObjectType a b) = 11
number (tree.RecursiveInterfaceDefinition a) = 12
number (tree.TransitiveImplementedInterfaces a b c d) = 13
number (tree.MissingInterfaceField a b c d e) = 14
number (tree.InvalidImplementationFieldType a b c d e f g) = 15
number (tree.MissingInterfaceFieldArgument a b c d e f) = 16
number (tree.InvalidImplementationFieldArgumentType a b c d e f g h) = 17
number (tree.ExtraRequiredImplementationFieldArgument a b c d e f) = 18
number (tree.UniqueInputValue a b c) = 19
number (tree.RecursiveInputObjectDefinition a b) = 20
number (tree.RecursiveDirectiveDefinition a b) = 21
number (tree.DeeplyNestedType a b) = 22
number (tree.UndefinedDirective a) = 23
number (tree.UniqueDirective a b) = 24
number (tree.UnsupportedLocation a b c d) = 25
number (tree.UniqueArgument a b c) = 26
number (tree.UndefinedArgument a b c) = 27
number (tree.RequiredArgument a b c d) = 28
number (tree.DisallowedVariableUsage a b c d e f) = 29
number (tree.UnsupportedValueType a b c) = 30
number (tree.IntCoercionError a) = 31
number (tree.FloatCoercionError a) = 32
number (tree.UndefinedVariable a) = 33
number (tree.UndefinedEnumValue a b c) = 34
number (tree.UndefinedInputValue a b c) = 35
number (tree.RequiredField a b c d) = 36
number (tree.UniqueVariable a b c) = 37
number (tree.VariableInputType a b c) = 38
number (tree.UnusedVariable a) = 39
number (tree.MissingSubselection a b c) = 40
number (tree.UndefinedFragment a) = 41
number (tree.InvalidFragmentTarget a b) = 42
number (tree.InvalidFragmentSpread a b c d e) = 43
number (tree.UnusedFragment a) = 44
number (tree.RecursiveFragmentDefinition a b c) = 45
number tree.RecursionError = 46

-- two variants: neither test nor view takes them for the same
apart : (a b : DiagnosticData) → eq.ghosts.eq a b ≡ false → nat_eq (number (diagnostic_of a)) (number (diagnostic_of b)) ≡ false → Same a b
apart a b e n =
    ((λ r s. absurd (true≢false (sym r ∙ e))), (λ r. absurd (true≢false (sym ((unsigned_Decides (number (diagnostic_of a)) (number (diagnostic_of b))).1 (ap number r)) ∙ n))))

pub data_same : (a b : DiagnosticData) → Same a b
data_same rust.QueryRootOperationType rust.QueryRootOperationType = alone (((λ r. refl), (λ r. refl)))
data_same (rust.UndefinedDefinition name) (rust.UndefinedDefinition name') = alone (through (text_decides name name') (ap tree.UndefinedDefinition) (λ r. cc))
data_same (rust.RootOperationObjectType name describe_type) (rust.RootOperationObjectType name' describe_type') = alone (through (pair_decides _ _ (text_decides name name') (bytes_decides describe_type.now describe_type'.now)) (λ s i. tree.RootOperationObjectType (s.0 i) (s.1 i)) (λ r. (cc, cc)))
data_same (rust.DuplicateRootOperationType name original_operation original_definition redefined_operation redefined_definition) (rust.DuplicateRootOperationType name' original_operation' original_definition' redefined_operation' redefined_definition') = alone (through (pair_decides _ _ (text_decides name name') (pair_decides _ _ (operation_type_eq-Decides original_operation original_operation') (pair_decides _ _ (place_decides original_definition original_definition') (pair_decides _ _ (operation_type_eq-Decides redefined_operation redefined_operation') (place_decides redefined_definition redefined_definition'))))) (λ s i. tree.DuplicateRootOperationType (s.0 i) (s.1.0 i) (s.1.1.0 i) (s.1.1.1.0 i) (s.1.1.1.1 i)) (λ r. (cc, (cc, (cc, (cc, cc))))))
data_same (rust.ReservedName name describe) (rust.ReservedName name' describe') = alone (through (pair_decides _ _ (text_decides name name') (bytes_decides describe.now describe'.now)) (λ s i. tree.ReservedName (s.0 i) (s.1 i)) (λ r. (cc, cc)))
data_same (rust.OutputType name describe_type type_location) (rust.OutputType name' describe_type' type_location') = alone (through (pair_decides _ _ (text_decides name name') (pair_decides _ _ (bytes_decides describe_type.now describe_type'.now) (place_decides type_location type_location'))) (λ s i. tree.OutputType (s.0 i) (s.1.0 i) (s.1.1 i)) (λ r. (cc, (cc, cc))))
data_same (rust.InputType name describe_type type_location) (rust.InputType name' describe_type' type_location') = alone (through (pair_decides _ _ (text_decides name name') (pair_decides _ _ (bytes_decides describe_type.now describe_type'.now) (place_decides type_location type_location'))) (λ s i. tree.InputType (s.0 i) (s.1.0 i) (s.1.1 i)) (λ r. (cc, (cc, cc))))
data_same (rust.EmptyFieldSet type_name type_location extensions_locations) (rust.EmptyFieldSet type_name' type_location' extensions_locations') = alone (through (pair_decides _ _ (text_decides type_name type_name') (pair_decides _ _ (place_decides type_location type_location') (pointwise_decides place_decides extensions_locations.items extensions_locations'.items))) (λ s i. tree.EmptyFieldSet (s.0 i) (s.1.0 i) (s.1.1 i)) (λ r. (cc, (cc, cc))))
data_same (rust.EmptyValueSet type_name type_location extensions_locations) (rust.EmptyValueSet type_name' type_location' extensions_locations') = alone (through (pair_decides _ _ (text_decides type_name type_name') (pair_decides _ _ (place_decides type_location type_location') (pointwise_decides place_decides extensions_locations.items extensions_locations'.items))) (λ s i. tree.EmptyValueSet (s.0 i) (s.1.0 i) (s.1.1 i)) (λ r. (cc, (cc, cc))))
data_same (rust.EmptyMemberSet type_name type_location extensions_locations) (rust.EmptyMemberSet type_name' type_location' extensions_locations') = alone (through (pair_decides _ _ (text_decides type_name type_name') (pair_decides _ _ (place_decides type_location type_location') (pointwise_decides place_decides extensions_locations.items extensions_locations'.items))) (λ s i. tree.EmptyMemberSet (s.0 i) (s.1.0 i) (s.1.1 i)) (λ r. (cc, (cc, cc))))
data_same (rust.EmptyInputValueSet type_name type_location extensions_locations) (rust.EmptyInputValueSet type_name' type_location' extensions_locations') = alone (through (pair_decides _ _ (text_decides type_name type_name') (pair_decides _ _ (place_decides type_location type_location') (pointwise_decides place_decides extensions_locations.items extensions_locations'.items))) (λ s i. tree.EmptyInputValueSet (s.0 i) (s.1.0 i) (s.1.1 i)) (λ r. (cc, (cc, cc))))
data_same (rust.UnionMemberObjectType name describe_type) (rust.UnionMemberObjectType name' describe_type') = alone (through (pair_decides _ _ (text_decides name name') (bytes_decides describe_type.now describe_type'.now)) (λ s i. tree.UnionMemberObjectType (s.0 i) (s.1 i)) (λ r. (cc, cc)))
data_same (rust.RecursiveInterfaceDefinition name) (rust.RecursiveInterfaceDefinition name') = alone (through (text_decides name name') (ap tree.RecursiveInterfaceDefinition) (λ r. cc))
data_same (rust.TransitiveImplementedInterfaces interface via_interface transitive_interface_location missing_interface) (rust.TransitiveImplementedInterfaces interface' via_interface' transitive_interface_location' missing_interface') = alone (through (pair_decides _ _ (text_decides interface interface') (pair_decides _ _ (text_decides via_interface via_interface') (pair_decides _ _ (place_decides transitive_interface_location transitive_interface_location') (text_decides missing_interface missing_interface')))) (λ s i. tree.TransitiveImplementedInterfaces (s.0 i) (s.1.0 i) (s.1.1.0 i) (s.1.1.1 i)) (λ r. (cc, (cc, (cc, cc)))))
data_same (rust.MissingInterfaceField name implements_location interface field field_location) (rust.MissingInterfaceField name' implements_location' interface' field' field_location') = alone (through (pair_decides _ _ (text_decides name name') (pair_decides _ _ (place_decides implements_location implements_location') (pair_decides _ _ (text_decides interface interface') (pair_decides _ _ (text_decides field field') (place_decides field_location field_location'))))) (λ s i. tree.MissingInterfaceField (s.0 i) (s.1.0 i) (s.1.1.0 i) (s.1.1.1.0 i) (s.1.1.1.1 i)) (λ r. (cc, (cc, (cc, (cc, cc))))))
data_same (rust.InvalidImplementationFieldType name interface field interface_type actual_type field_location interface_field_location) (rust.InvalidImplementationFieldType name' interface' field' interface_type' actual_type' field_location' interface_field_location') = alone (through (pair_decides _ _ (text_decides name name') (pair_decides _ _ (text_decides interface interface') (pair_decides _ _ (text_decides field field') (pair_decides _ _ (type_eq-Decides interface_type interface_type') (pair_decides _ _ (type_eq-Decides actual_type actual_type') (pair_decides _ _ (place_decides field_location field_location') (place_decides interface_field_location interface_field_location'))))))) (λ s i. tree.InvalidImplementationFieldType (s.0 i) (s.1.0 i) (s.1.1.0 i) (s.1.1.1.0 i) (s.1.1.1.1.0 i) (s.1.1.1.1.1.0 i) (s.1.1.1.1.1.1 i)) (λ r. (cc, (cc, (cc, (cc, (cc, (cc, cc))))))))
data_same (rust.MissingInterfaceFieldArgument name interface field argument field_location interface_argument_location) (rust.MissingInterfaceFieldArgument name' interface' field' argument' field_location' interface_argument_location') = alone (through (pair_decides _ _ (text_decides name name') (pair_decides _ _ (text_decides interface interface') (pair_decides _ _ (text_decides field field') (pair_decides _ _ (text_decides argument argument') (pair_decides _ _ (place_decides field_location field_location') (place_decides interface_argument_location interface_argument_location')))))) (λ s i. tree.MissingInterfaceFieldArgument (s.0 i) (s.1.0 i) (s.1.1.0 i) (s.1.1.1.0 i) (s.1.1.1.1.0 i) (s.1.1.1.1.1 i)) (λ r. (cc, (cc, (cc, (cc, (cc, cc)))))))
data_same (rust.InvalidImplementationFieldArgumentType name interface field argument interface_type actual_type argument_location interface_argument_location) (rust.InvalidImplementationFieldArgumentType name' interface' field' argument' interface_type' actual_type' argument_location' interface_argument_location') = alone (through (pair_decides _ _ (text_decides name name') (pair_decides _ _ (text_decides interface interface') (pair_decides _ _ (text_decides field field') (pair_decides _ _ (text_decides argument argument') (pair_decides _ _ (type_eq-Decides (content interface_type) (content interface_type')) (pair_decides _ _ (type_eq-Decides (content actual_type) (content actual_type')) (pair_decides _ _ (place_decides argument_location argument_location') (place_decides interface_argument_location interface_argument_location')))))))) (λ s i. tree.InvalidImplementationFieldArgumentType (s.0 i) (s.1.0 i) (s.1.1.0 i) (s.1.1.1.0 i) (s.1.1.1.1.0 i) (s.1.1.1.1.1.0 i) (s.1.1.1.1.1.1.0 i) (s.1.1.1.1.1.1.1 i)) (λ r. (cc, (cc, (cc, (cc, (cc, (cc, (cc, cc)))))))))
data_same (rust.ExtraRequiredImplementationFieldArgument name interface field argument argument_location interface_field_location) (rust.ExtraRequiredImplementationFieldArgument name' interface' field' argument' argument_location' interface_field_location') = alone (through (pair_decides _ _ (text_decides name name') (pair_decides _ _ (text_decides interface interface') (pair_decides _ _ (text_decides field field') (pair_decides _ _ (text_decides argument argument') (pair_decides _ _ (place_decides argument_location argument_location') (place_decides interface_field_location interface_field_location')))))) (λ s i. tree.ExtraRequiredImplementationFieldArgument (s.0 i) (s.1.0 i) (s.1.1.0 i) (s.1.1.1.0 i) (s.1.1.1.1.0 i) (s.1.1.1.1.1 i)) (λ r. (cc, (cc, (cc, (cc, (cc, cc)))))))
data_same (rust.UniqueInputValue name original_definition redefined_definition) (rust.UniqueInputValue name' original_definition' redefined_definition') = alone (through (pair_decides _ _ (text_decides name name') (pair_decides _ _ (place_decides original_definition original_definition') (place_decides redefined_definition redefined_definition'))) (λ s i. tree.UniqueInputValue (s.0 i) (s.1.0 i) (s.1.1 i)) (λ r. (cc, (cc, cc))))
data_same (rust.RecursiveInputObjectDefinition name trace) (rust.RecursiveInputObjectDefinition name' trace') = via (front _ _ (text_decides name name') (inputs_same trace.items trace'.items)) (λ s i. tree.RecursiveInputObjectDefinition (s.0 i) (s.1 i)) (λ r. (cc, cc))
data_same (rust.RecursiveDirectiveDefinition name trace) (rust.RecursiveDirectiveDefinition name' trace') = via (front _ _ (text_decides name name') (directives_same trace.items trace'.items)) (λ s i. tree.RecursiveDirectiveDefinition (s.0 i) (s.1 i)) (λ r. (cc, cc))
data_same (rust.DeeplyNestedType name describe_type) (rust.DeeplyNestedType name' describe_type') = alone (through (pair_decides _ _ (text_decides name name') (bytes_decides describe_type.now describe_type'.now)) (λ s i. tree.DeeplyNestedType (s.0 i) (s.1 i)) (λ r. (cc, cc)))
data_same (rust.UndefinedDirective name) (rust.UndefinedDirective name') = alone (through (text_decides name name') (ap tree.UndefinedDirective) (λ r. cc))
data_same (rust.UniqueDirective name original_application) (rust.UniqueDirective name' original_application') = alone (through (pair_decides _ _ (text_decides name name') (place_decides original_application original_application')) (λ s i. tree.UniqueDirective (s.0 i) (s.1 i)) (λ r. (cc, cc)))
data_same (rust.UnsupportedLocation name location valid_locations definition_location) (rust.UnsupportedLocation name' location' valid_locations' definition_location') = alone (through (pair_decides _ _ (text_decides name name') (pair_decides _ _ (location_eq-Decides location location') (pair_decides _ _ (pointwise_decides location_eq-Decides valid_locations.items valid_locations'.items) (place_decides definition_location definition_location')))) (λ s i. tree.UnsupportedLocation (s.0 i) (s.1.0 i) (s.1.1.0 i) (s.1.1.1 i)) (λ r. (cc, (cc, (cc, cc)))))
data_same (rust.UniqueArgument name original_definition redefined_definition) (rust.UniqueArgument name' original_definition' redefined_definition') = alone (through (pair_decides _ _ (text_decides name name') (pair_decides _ _ (place_decides original_definition original_definition') (place_decides redefined_definition redefined_definition'))) (λ s i. tree.UniqueArgument (s.0 i) (s.1.0 i) (s.1.1 i)) (λ r. (cc, (cc, cc))))
data_same (rust.UndefinedArgument name coordinate definition_location) (rust.UndefinedArgument name' coordinate' definition_location') = alone (through (pair_decides _ _ (text_decides name name') (pair_decides _ _ (coordinate_decides coordinate coordinate') (place_decides definition_location definition_location'))) (λ s i. tree.UndefinedArgument (s.0 i) (s.1.0 i) (s.1.1 i)) (λ r. (cc, (cc, cc))))
data_same (rust.RequiredArgument name coordinate expected_type definition_location) (rust.RequiredArgument name' coordinate' expected_type' definition_location') = alone (through (pair_decides _ _ (text_decides name name') (pair_decides _ _ (coordinate_decides coordinate coordinate') (pair_decides _ _ (type_eq-Decides (content expected_type) (content expected_type')) (place_decides definition_location definition_location')))) (λ s i. tree.RequiredArgument (s.0 i) (s.1.0 i) (s.1.1.0 i) (s.1.1.1 i)) (λ r. (cc, (cc, (cc, cc)))))
data_same (rust.DisallowedVariableUsage variable variable_type variable_location argument argument_type argument_location) (rust.DisallowedVariableUsage variable' variable_type' variable_location' argument' argument_type' argument_location') = alone (through (pair_decides _ _ (text_decides variable variable') (pair_decides _ _ (type_eq-Decides variable_type variable_type') (pair_decides _ _ (place_decides variable_location variable_location') (pair_decides _ _ (text_decides argument argument') (pair_decides _ _ (type_eq-Decides argument_type argument_type') (place_decides argument_location argument_location')))))) (λ s i. tree.DisallowedVariableUsage (s.0 i) (s.1.0 i) (s.1.1.0 i) (s.1.1.1.0 i) (s.1.1.1.1.0 i) (s.1.1.1.1.1 i)) (λ r. (cc, (cc, (cc, (cc, (cc, cc)))))))
data_same (rust.UnsupportedValueType value ty definition_location) (rust.UnsupportedValueType value' ty' definition_location') = alone (through (pair_decides _ _ (value_eq-Decides (content value) (content value')) (pair_decides _ _ (type_eq-Decides (content ty) (content ty')) (place_decides definition_location definition_location'))) (λ s i. tree.UnsupportedValueType (s.0 i) (s.1.0 i) (s.1.1 i)) (λ r. (cc, (cc, cc))))
data_same (rust.IntCoercionError value) (rust.IntCoercionError value') = alone (through (bytes_decides (string_bytes value) (string_bytes value')) (ap tree.IntCoercionError) (λ r. cc))
data_same (rust.FloatCoercionError value) (rust.FloatCoercionError value') = alone (through (bytes_decides (string_bytes value) (string_bytes value')) (ap tree.FloatCoercionError) (λ r. cc))
data_same (rust.UndefinedVariable name) (rust.UndefinedVariable name') = alone (through (text_decides name name') (ap tree.UndefinedVariable) (λ r. cc))
data_same (rust.UndefinedEnumValue value definition definition_location) (rust.UndefinedEnumValue value' definition' definition_location') = alone (through (pair_decides _ _ (text_decides value value') (pair_decides _ _ (text_decides definition definition') (place_decides definition_location definition_location'))) (λ s i. tree.UndefinedEnumValue (s.0 i) (s.1.0 i) (s.1.1 i)) (λ r. (cc, (cc, cc))))
data_same (rust.UndefinedInputValue value definition definition_location) (rust.UndefinedInputValue value' definition' definition_location') = alone (through (pair_decides _ _ (text_decides value value') (pair_decides _ _ (text_decides definition definition') (place_decides definition_location definition_location'))) (λ s i. tree.UndefinedInputValue (s.0 i) (s.1.0 i) (s.1.1 i)) (λ r. (cc, (cc, cc))))
data_same (rust.RequiredField name coordinate expected_type definition_location) (rust.RequiredField name' coordinate' expected_type' definition_location') = alone (through (pair_decides _ _ (text_decides name name') (pair_decides _ _ (attribute_decides coordinate coordinate') (pair_decides _ _ (type_eq-Decides (content expected_type) (content expected_type')) (place_decides definition_location definition_location')))) (λ s i. tree.RequiredField (s.0 i) (s.1.0 i) (s.1.1.0 i) (s.1.1.1 i)) (λ r. (cc, (cc, (cc, cc)))))
data_same (rust.UniqueVariable name original_definition redefined_definition) (rust.UniqueVariable name' original_definition' redefined_definition') = alone (through (pair_decides _ _ (text_decides name name') (pair_decides _ _ (place_decides original_definition original_definition') (place_decides redefined_definition redefined_definition'))) (λ s i. tree.UniqueVariable (s.0 i) (s.1.0 i) (s.1.1 i)) (λ r. (cc, (cc, cc))))
data_same (rust.VariableInputType name ty describe_type) (rust.VariableInputType name' ty' describe_type') = alone (through (pair_decides _ _ (text_decides name name') (pair_decides _ _ (type_eq-Decides (content ty) (content ty')) (bytes_decides describe_type.now describe_type'.now))) (λ s i. tree.VariableInputType (s.0 i) (s.1.0 i) (s.1.1 i)) (λ r. (cc, (cc, cc))))
data_same (rust.UnusedVariable name) (rust.UnusedVariable name') = alone (through (text_decides name name') (ap tree.UnusedVariable) (λ r. cc))
data_same (rust.MissingSubselection coordinate output_type describe_type) (rust.MissingSubselection coordinate' output_type' describe_type') = alone (through (pair_decides _ _ (attribute_decides coordinate coordinate') (pair_decides _ _ (text_decides output_type output_type') (bytes_decides describe_type.now describe_type'.now))) (λ s i. tree.MissingSubselection (s.0 i) (s.1.0 i) (s.1.1 i)) (λ r. (cc, (cc, cc))))
data_same (rust.UndefinedFragment name) (rust.UndefinedFragment name') = alone (through (text_decides name name') (ap tree.UndefinedFragment) (λ r. cc))
data_same (rust.InvalidFragmentTarget name ty) (rust.InvalidFragmentTarget name' ty') = alone (through (pair_decides _ _ (names_decide name name') (text_decides ty ty')) (λ s i. tree.InvalidFragmentTarget (s.0 i) (s.1 i)) (λ r. (cc, cc)))
data_same (rust.InvalidFragmentSpread name type_name type_condition fragment_location type_location) (rust.InvalidFragmentSpread name' type_name' type_condition' fragment_location' type_location') = alone (through (pair_decides _ _ (names_decide name name') (pair_decides _ _ (text_decides type_name type_name') (pair_decides _ _ (text_decides type_condition type_condition') (pair_decides _ _ (place_decides fragment_location fragment_location') (place_decides type_location type_location'))))) (λ s i. tree.InvalidFragmentSpread (s.0 i) (s.1.0 i) (s.1.1.0 i) (s.1.1.1.0 i) (s.1.1.1.1 i)) (λ r. (cc, (cc, (cc, (cc, cc))))))
data_same (rust.UnusedFragment name) (rust.UnusedFragment name') = alone (through (text_decides name name') (ap tree.UnusedFragment) (λ r. cc))
data_same (rust.RecursiveFragmentDefinition head_location name trace) (rust.RecursiveFragmentDefinition head_location' name' trace') = via (front _ _ (place_decides head_location head_location') (front _ _ (text_decides name name') (spreads_same trace.items trace'.items))) (λ s i. tree.RecursiveFragmentDefinition (s.0 i) (s.1.0 i) (s.1.1 i)) (λ r. (cc, (cc, cc)))
data_same rust.RecursionError rust.RecursionError = alone (((λ r. refl), (λ r. refl)))
data_same a b = apart a b refl refl
