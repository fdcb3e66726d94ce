-- S `type Query { field: Int }`, D `{ field }`: the pair is accepted, and these are the bytes.
use Rattle.std.proofs.Common.{[], ◌∷◌, codes, None, refl, inl}
use Rattle.schema_built_in.specs.Table.{built_in_definitions}
use Rattle.tree_definitions.specs.in_operations.Joined.{joined}
use Rattle.graphql_faults.specs.in_grammar.Places.{place_in}
use Rattle.verdict_definitions.specs.Judge.{AreSchemasAccepted, IsAccepted, IsCertain}
use Rattle.verdict_definitions.specs.Answer.{Answer}
use Rattle.verdict_definitions.proofs.RowTrees.{terms}
use Rattle.verdict_definitions.proofs.TextRows.{query_field, query_field_tree, query_field_reads, just_field, just_field_tree, just_field_reads}
use Rattle.verdict_definitions.proofs.AcceptedRows.{just_field_judged, just_field_accepted, just_field_nests}
use Rattle.verdict_definitions.proofs.FoldsRows.{query_folds, query_within, query_numbered}
use Rattle.verdict_definitions.proofs.SchemaRows.{rules_hold, references_within}

abbrev pub schema_accepted : AreSchemasAccepted terms (query_field ∷ [])
schema_accepted = record {
  judged = record { trees = query_field_tree ∷ []; read = (query_field_reads, tt); folds = query_folds; holds = rules_hold };
  within = query_within;
  numbered = query_numbered;
}

abbrev pub pair_accepted : IsAccepted terms (query_field ∷ []) just_field
pair_accepted = record { schema = schema_accepted; over = just_field_accepted }

-- and it is for sure: no bound is passed
pub pair_certain : IsCertain terms (query_field ∷ []) just_field
unfolding pair_accepted just_field_accepted just_field_judged
pair_certain = record { accepted = pair_accepted; references = references_within; nests = just_field_nests }

pair_bytes : Answer terms None (query_field ∷ []) just_field (codes "accepted\ntype Query { field: Int }\n{ field }\n")
unfolding built_in_definitions place_in joined
pair_bytes = inl (record {
  accepted = pair_accepted;
  written_schema = codes "type Query { field: Int }";
  written_document = codes "{ field }";
  writes_schema = (query_field_tree ∷ [], ((query_field_reads, tt), refl));
  writes_document = (just_field_tree, (just_field_reads, refl));
  is = refl;
})
