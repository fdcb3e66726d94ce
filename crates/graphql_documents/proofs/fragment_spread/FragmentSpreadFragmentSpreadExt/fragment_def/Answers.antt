use Rattle.graphql_names.specs.Placed.{node_tree}
use Rattle.document_typing.proofs.in_schema.Lookups.{got}
use Rattle.document_typed_operations.specs.TypedDocument.{typed_fragment_tree}
use Rattle.graphql_documents.proofs.fragment_spread.FragmentSpreadFragmentSpreadExt.fragment_def.Goals as goal

pub returns : goal.returns
returns c = got (node_tree typed_fragment_tree) c.args.self.now.fragment_name c.args.document.now.fragments c.get.result c.get.ensures.value
