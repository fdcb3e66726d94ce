-- The name of what is wrong: that of the broken rule, or a name of its own where no rule is broken.
use Rattle.std.specs.Prelude.{ℕ, List, codes}
use Rattle.schema_fold.specs.BuildErrors as folding
use Rattle.schema_fold.specs.BuildErrors.{Breach}
use Rattle.fault_document_errors.specs.DocumentBreaches as document
use Rattle.fault_document_errors.specs.DocumentBreaches.{DocumentBreach}
use Rattle.fault_data.specs.in_rule_definitions.Diagnostics as rule
use Rattle.fault_data.specs.in_rule_definitions.Diagnostics.{Diagnostic}
use Rattle.graphql_faults.specs.DetailsTree.{DetailsTree, Syntax, Nesting, Spent, SchemaBuild, DocumentBuild, Data, RecursionLimitError}

-- the name of a broken rule of folding
abbrev pub folding_rule_name : Breach → List ℕ
folding_rule_name folding.ExecutableDefinition = codes "ExecutableDefinition"
folding_rule_name folding.SchemaDefinitionCollision = codes "SchemaDefinitionCollision"
folding_rule_name (folding.DirectiveDefinitionCollision a) = codes "DirectiveDefinitionCollision"
folding_rule_name (folding.TypeDefinitionCollision a) = codes "TypeDefinitionCollision"
folding_rule_name (folding.BuiltInScalarTypeRedefinition a) = codes "BuiltInScalarTypeRedefinition"
folding_rule_name folding.OrphanSchemaExtension = codes "OrphanSchemaExtension"
folding_rule_name (folding.OrphanTypeExtension a) = codes "OrphanTypeExtension"
folding_rule_name (folding.TypeExtensionKindMismatch a) = codes "TypeExtensionKindMismatch"
folding_rule_name (folding.DuplicateRootOperation a) = codes "DuplicateRootOperation"
folding_rule_name (folding.DuplicateImplementsInterfaceInObject a b) = codes "DuplicateImplementsInterfaceInObject"
folding_rule_name (folding.DuplicateImplementsInterfaceInInterface a b) = codes "DuplicateImplementsInterfaceInInterface"
folding_rule_name (folding.ObjectFieldNameCollision a b) = codes "ObjectFieldNameCollision"
folding_rule_name (folding.InterfaceFieldNameCollision a b) = codes "InterfaceFieldNameCollision"
folding_rule_name (folding.EnumValueNameCollision a b) = codes "EnumValueNameCollision"
folding_rule_name (folding.UnionMemberNameCollision a b) = codes "UnionMemberNameCollision"
folding_rule_name (folding.InputFieldNameCollision a b) = codes "InputFieldNameCollision"

-- the name of a broken rule of typing, of merging, of subscriptions or of @defer
abbrev pub document_rule_name : {P : Type 0} → DocumentBreach P → List ℕ
document_rule_name document.TypeSystemDefinition = codes "TypeSystemDefinition"
document_rule_name document.AmbiguousAnonymousOperation = codes "AmbiguousAnonymousOperation"
document_rule_name (document.OperationNameCollision a) = codes "OperationNameCollision"
document_rule_name (document.FragmentNameCollision a) = codes "FragmentNameCollision"
document_rule_name (document.UndefinedRootOperation a) = codes "UndefinedRootOperation"
document_rule_name (document.UndefinedTypeInNamedFragmentTypeCondition a) = codes "UndefinedTypeInNamedFragmentTypeCondition"
document_rule_name (document.UndefinedTypeInInlineFragmentTypeCondition a) = codes "UndefinedTypeInInlineFragmentTypeCondition"
document_rule_name (document.SubselectionOnScalarType a) = codes "SubselectionOnScalarType"
document_rule_name (document.SubselectionOnEnumType a) = codes "SubselectionOnEnumType"
document_rule_name (document.UndefinedField a b) = codes "UndefinedField"
document_rule_name (document.ConflictingFieldName a b c) = codes "ConflictingFieldName"
document_rule_name (document.ConflictingFieldArgument a b c) = codes "ConflictingFieldArgument"
document_rule_name (document.ConflictingFieldType a b c) = codes "ConflictingFieldType"
document_rule_name (document.SubscriptionUsesMultipleFields a) = codes "SubscriptionUsesMultipleFields"
document_rule_name (document.SubscriptionUsesIntrospection a b) = codes "SubscriptionUsesIntrospection"
document_rule_name (document.SubscriptionUsesConditionalSelection a) = codes "SubscriptionUsesConditionalSelection"
document_rule_name document.DeferLabelMustNotBeVariable = codes "DeferLabelMustNotBeVariable"
document_rule_name (document.DuplicateDeferLabel a b) = codes "DuplicateDeferLabel"
document_rule_name (document.DeferOnRootMutationOrSubscriptionField a) = codes "DeferOnRootMutationOrSubscriptionField"
document_rule_name document.DeferInSubscriptionMustBeConditional = codes "DeferInSubscriptionMustBeConditional"

-- the name of a broken rule of schemas, of uses, of values or of documents
abbrev pub rule_name : {P E : Type 0} → Diagnostic P E → List ℕ
rule_name rule.QueryRootOperationType = codes "QueryRootOperationType"
rule_name (rule.UndefinedDefinition a) = codes "UndefinedDefinition"
rule_name (rule.RootOperationObjectType a b) = codes "RootOperationObjectType"
rule_name (rule.DuplicateRootOperationType a b c d e) = codes "DuplicateRootOperationType"
rule_name (rule.ReservedName a b) = codes "ReservedName"
rule_name (rule.OutputType a b c) = codes "OutputType"
rule_name (rule.InputType a b c) = codes "InputType"
rule_name (rule.EmptyFieldSet a b c) = codes "EmptyFieldSet"
rule_name (rule.EmptyValueSet a b c) = codes "EmptyValueSet"
rule_name (rule.EmptyMemberSet a b c) = codes "EmptyMemberSet"
rule_name (rule.EmptyInputValueSet a b c) = codes "EmptyInputValueSet"
rule_name (rule.UnionMemberObjectType a b) = codes "UnionMemberObjectType"
rule_name (rule.RecursiveInterfaceDefinition a) = codes "RecursiveInterfaceDefinition"
rule_name (rule.TransitiveImplementedInterfaces a b c d) = codes "TransitiveImplementedInterfaces"
rule_name (rule.MissingInterfaceField a b c d e) = codes "MissingInterfaceField"
rule_name (rule.InvalidImplementationFieldType a b c d e f g) = codes "InvalidImplementationFieldType"
rule_name (rule.MissingInterfaceFieldArgument a b c d e f) = codes "MissingInterfaceFieldArgument"
rule_name (rule.InvalidImplementationFieldArgumentType a b c d e f g h) = codes "InvalidImplementationFieldArgumentType"
rule_name (rule.ExtraRequiredImplementationFieldArgument a b c d e f) = codes "ExtraRequiredImplementationFieldArgument"
rule_name (rule.UniqueInputValue a b c) = codes "UniqueInputValue"
rule_name (rule.RecursiveInputObjectDefinition a b) = codes "RecursiveInputObjectDefinition"
rule_name (rule.RecursiveDirectiveDefinition a b) = codes "RecursiveDirectiveDefinition"
rule_name (rule.DeeplyNestedType a b) = codes "DeeplyNestedType"
rule_name (rule.UndefinedDirective a) = codes "UndefinedDirective"
rule_name (rule.UniqueDirective a b) = codes "UniqueDirective"
rule_name (rule.UnsupportedLocation a b c d) = codes "UnsupportedLocation"
rule_name (rule.UniqueArgument a b c) = codes "UniqueArgument"
rule_name (rule.UndefinedArgument a b c) = codes "UndefinedArgument"
rule_name (rule.RequiredArgument a b c d) = codes "RequiredArgument"
rule_name (rule.DisallowedVariableUsage a b c d e f) = codes "DisallowedVariableUsage"
rule_name (rule.UnsupportedValueType a b c) = codes "UnsupportedValueType"
rule_name (rule.IntCoercionError a) = codes "IntCoercionError"
rule_name (rule.FloatCoercionError a) = codes "FloatCoercionError"
rule_name (rule.UndefinedVariable a) = codes "UndefinedVariable"
rule_name (rule.UndefinedEnumValue a b c) = codes "UndefinedEnumValue"
rule_name (rule.UndefinedInputValue a b c) = codes "UndefinedInputValue"
rule_name (rule.RequiredField a b c d) = codes "RequiredField"
rule_name (rule.UniqueVariable a b c) = codes "UniqueVariable"
rule_name (rule.VariableInputType a b c) = codes "VariableInputType"
rule_name (rule.UnusedVariable a) = codes "UnusedVariable"
rule_name (rule.MissingSubselection a b c) = codes "MissingSubselection"
rule_name (rule.UndefinedFragment a) = codes "UndefinedFragment"
rule_name (rule.InvalidFragmentTarget a b) = codes "InvalidFragmentTarget"
rule_name (rule.InvalidFragmentSpread a b c d e) = codes "InvalidFragmentSpread"
rule_name (rule.UnusedFragment a) = codes "UnusedFragment"
rule_name (rule.RecursiveFragmentDefinition a b c) = codes "RecursiveFragmentDefinition"
rule_name rule.RecursionError = codes "RecursionError"

abbrev pub details_name : {P E : Type 0} → DetailsTree P E → List ℕ
details_name (Syntax kind) = codes "Syntax"
details_name Nesting = codes "Nesting"
details_name Spent = codes "Spent"
details_name (SchemaBuild breach) = folding_rule_name breach
details_name (DocumentBuild breach) = document_rule_name breach
details_name (Data diagnostic) = rule_name diagnostic
details_name RecursionLimitError = codes "RecursionLimitError"
