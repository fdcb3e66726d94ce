use Rattle.std.proofs.Common.{◌≡◌, map}
use Rattle.std.specs.List.{flat_map}
use Rattle.graphql_names.specs.NameValue.{NameValue}
use Rattle.graphql_names.specs.declared.node.Node.{Node}
use Rattle.document_typed_operations.specs.declared.operation.Fragment.{Fragment}
use Rattle.graphql_schema.specs.SchemaOf.{schema_tree}
use Rattle.rule_definitions.specs.Room.{◌⊕◌}
use Rattle.rule_warnings.specs.Views.{uses_of}
use Rattle.rule_warnings.specs.TellingDocuments.{fragment_uses_of}
use Rattle.rule_warnings.proofs.document.tell_fragments.Given as goal

abbrev pub invariant-loop-fragment : goal.invariant-loop-fragment
invariant-loop-fragment l = uses_of l.uses ≡ uses_of l.fn.uses ⊕ flat_map (λ (e : NameValue × Node Fragment). fragment_uses_of (schema_tree l.schema) e.1) (map (λ e. (e.0.now, e.1.now)) l.yielded)
