use Rattle.std.proofs.Common.{map}
use Rattle.graphql_names.specs.NameValue.{NameValue}
use Rattle.schema_types.specs.TypeView.{name_text, extended_type}
use Rattle.schema_types.specs.declared.extended_type.ExtendedType.{ExtendedType}
use Rattle.strict_documents.specs.Implemented.{AddsNames, is_implemented_among}
use Rattle.strict_documents.proofs.objects.note_types.Given as goal

abbrev pub invariant-loop-ty : goal.invariant-loop-ty
invariant-loop-ty l = AddsNames l.fn.implemented l.implemented (is_implemented_among (map (λ (e : NameValue × ExtendedType). (name_text e.0, extended_type e.1)) (map (λ e. (e.0.now, e.1.now)) l.yielded)))
