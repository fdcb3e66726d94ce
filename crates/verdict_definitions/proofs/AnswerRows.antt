-- Lines of faults, and lines of texts.
use Rattle.std.proofs.Common.{◌≡◌, [], codes, None, Some, refl}
use Rattle.std.specs.Fmt.{digits}
use Rattle.graphql_names.specs.Placed.{Place}
use Rattle.graphql_faults.specs.in_read.declared.fault.SyntaxFaultKind.TheVariants.{NoToken, Unexpected, End}
use Rattle.graphql_faults.specs.in_grammar.Places.{place_in}
use Rattle.schema_built_in.specs.in_fold.BuiltIn.{built_in}
use Rattle.schema_fold.specs.BuildErrors as folding
use Rattle.graphql_faults.specs.in_document_rule_definitions.DocumentFaults.{OfData, OfDocument, OfLimit, broken}
use Rattle.document_typing.specs.TypingFaults as typing
use Rattle.rule_definitions.specs.Diagnostics.{RecursiveInputObjectDefinition, UnusedVariable, UniqueInputValue, QueryRootOperationType}
use Rattle.rule_definitions.specs.Faults.{wrong}
use Rattle.graphql_faults.specs.in_document_errors.DocumentBreaches.{Selected, ConflictingFieldName}
use Rattle.graphql_faults.specs.DetailsTree.{Syntax, Nesting, of_rule, of_folding, of_typing, of_document}
use Rattle.verdict_definitions.specs.Says.{spent}
use Rattle.verdict_definitions.specs.Answer.{place_text, fault_line}
use Rattle.verdict_definitions.specs.Out.{as_lines}

-- ---- places

-- byte 0 of the text with number 1, and byte 28 of that with number 12
at_begin : place_text (place_in 1 0 4) ≡ codes "1:0"
unfolding place_in digits
at_begin = refl

at_28 : place_text (place_in 12 28 45) ≡ codes "12:28"
unfolding place_in digits
at_28 = refl

-- nowhere, in what is built in, and at any other place of its file
nowhere : place_text None ≡ codes "-"
nowhere = refl

in_built_in : place_text built_in ≡ codes "-"
in_built_in = refl

in_file_0 : place_text (place_in 0 7 9) ≡ codes "-"
unfolding place_in digits
in_file_0 = refl

-- ---- lines of faults

-- D `{ ... }`: `Unexpected` at 6
unexpected_line : fault_line (record { place = place_in 2 6 6; details = Syntax Unexpected }) ≡ codes "2:6: unexpected token\n"
unfolding place_in digits
unexpected_line = refl

-- D `{ a`: `End` at 3
end_line : fault_line (record { place = place_in 2 3 3; details = Syntax End }) ≡ codes "2:3: unexpected end of text\n"
unfolding place_in digits
end_line = refl

-- D `{ f(x: "\uD800") }`: `NoToken` at 7
no_token_line : fault_line (record { place = place_in 2 7 7; details = Syntax NoToken }) ≡ codes "2:7: no token starts here\n"
unfolding place_in digits
no_token_line = refl

-- D `{ a { b { c } } }` with nesting 2: `Nesting` at 8
nesting_line : fault_line (record { place = place_in 2 8 9; details = Nesting }) ≡ codes "2:8: too many open brackets\n"
unfolding place_in digits
nesting_line = refl

-- no number is left
spent_line : fault_line spent ≡ codes "-: numbers are spent\n"
spent_line = refl

-- S `type Query { a: Int } extend type T { a: Int }`: `OrphanTypeExtension` at 1:22
orphan_line : fault_line (of_folding (record { place = place_in 1 22 46; breach = folding.OrphanTypeExtension (codes "T") })) ≡ codes "1:22: extension of the type `T`, which is not defined\n"
unfolding place_in digits
orphan_line = refl

-- S `type Query { a: Int a: Int }`: `ObjectFieldNameCollision` at 1:20
collision_line : fault_line (of_folding (record { place = place_in 1 20 26; breach = folding.ObjectFieldNameCollision (codes "Query") (codes "a") })) ≡ codes "1:20: `Query` has `a` more than once\n"
unfolding place_in digits
collision_line = refl

-- S `type Query { field: Int }`, D `{ missing }`
undefined_field_line : fault_line (of_typing (typing.typing_fault_at (place_in 2 2 9) (typing.UndefinedField (codes "Query") (codes "missing")))) ≡ codes "2:2: `Query` has no field `missing`\n"
unfolding place_in digits
undefined_field_line = refl

-- S `type Query { f(i: I): Int } input I { i: I! }`
recursion_line : fault_line (of_rule (wrong (place_in 1 28 45) (RecursiveInputObjectDefinition (codes "I") []))) ≡ codes "1:28: `I` input object cannot reference itself\n"
unfolding place_in digits
recursion_line = refl

-- S `type T { a: Int }`: the schema definition is implicit
no_query_line : fault_line (of_rule (wrong None QueryRootOperationType)) ≡ codes "-: missing query root operation type in schema definition\n"
no_query_line = refl

-- D `query Q($v: Int) { field }`
unused_line : fault_line (of_document (OfData (wrong (place_in 2 8 15) (UnusedVariable (codes "v"))))) ≡ codes "2:8: unused variable: `$v`\n"
unfolding place_in digits
unused_line = refl

-- D `{ f(x: {a: 1, a: 2}) }`
equal_keys_line : fault_line (of_document (OfData (wrong (place_in 2 14 15) (UniqueInputValue (codes "a") (place_in 2 8 9) (place_in 2 14 15))))) ≡ codes "2:14: the value `a` is defined multiple times\n"
unfolding place_in digits
equal_keys_line = refl

-- S `type Query { a: Int b: Int }`, D `{ x: a x: b }`: `ConflictingFieldName` at 2:7
conflict_line : (original conflicting : Selected Place (Unit {0})) → fault_line (of_document (OfDocument (broken (place_in 2 7 11) (ConflictingFieldName (codes "x") original conflicting)))) ≡ codes "2:7: `x` is selected with different fields\n"
unfolding place_in digits
conflict_line original conflicting = refl

-- a limit of recursion without a place
limit_line : fault_line (of_document (OfLimit None)) ≡ codes "-: too much recursion\n"
limit_line = refl

-- ---- texts with a line feed at their end

-- on one line the line feed is the program's
on_one_line : as_lines None (codes "{ field }") ≡ codes "{ field }\n"
on_one_line = refl

-- under a prefix it is the text's
under_two_spaces : as_lines (Some (codes "  ")) (codes "{\n  field\n}\n") ≡ codes "{\n  field\n}\n"
under_two_spaces = refl
