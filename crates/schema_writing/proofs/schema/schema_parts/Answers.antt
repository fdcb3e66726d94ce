use Rattle.tree_directives.specs.DirectiveTree.{directive_tree}
use Rattle.schema_components.specs.Given.{origin_tree}
use Rattle.schema_writing.specs.Filed.{filed_under}
use Rattle.schema_writing.proofs.Growing.{nodes_taken}
use Rattle.schema_writing.proofs.schema.schema_parts.Goals as goal

pub returns : goal.returns
returns c = λ i. record {
  directives = nodes_taken directive_tree (filed_under (origin_tree c.args.giver) c.args.directives.now.entries) c.take.new.out.items c.in_ok-take.ensures i;
  roots = c.in_ok-add_roots.ensures i;
}
