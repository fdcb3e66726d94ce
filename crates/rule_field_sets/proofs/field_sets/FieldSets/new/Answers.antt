use Rattle.std.proofs.Common.{refl}
use Rattle.rule_definitions.specs.Judged.{judged}
use Rattle.graphql_schema.specs.SchemaOf.{schema_tree}
use Rattle.document_typed_operations.specs.WalkView.{fragments_tree}
use Rattle.rule_field_sets.specs.Numbered.{tables_of, nodes_of}
use Rattle.rule_field_sets.proofs.NoNodes.{none_yet}
use Rattle.rule_field_sets.proofs.field_sets.FieldSets.new.Goals as goal

pub returns : goal.returns
returns c =
    let s = judged (schema_tree c.args.schema.now) in
    record {
      sets = none_yet s (fragments_tree c.args.fragments.now) (tables_of c.new.result) (nodes_of c.new.result) c.new-2.result.items c.new-3.result.items c.new.ensures.right (c.new.ensures.judged s) c.new.ensures.nodes c.new-2.ensures.items c.new-3.ensures.items;
      schema = refl;
      fragments = refl;
      nodes = c.new-2.ensures.items;
      starts = c.new-3.ensures.items;
    }
