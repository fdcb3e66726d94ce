use Rattle.std.proofs.Common.{◌≡◌, ◌++◌, length, map}
use Rattle.std.specs.Vec.Iter.{into_iter_items, into_iter_len}
use Rattle.rule_field_groups.specs.in_document_definitions.DocumentFaults.{OfDocument}
use Rattle.graphql_faults.specs.DetailsTree.{of_document}
use Rattle.graphql_faults.specs.DetailsView.{diagnostics_of}
use Rattle.rule_field_groups.specs.in_sets.in_reach.Broken.{broken_of}
use Rattle.rule_merging.proofs.told.append_breaches.Given as goal

abbrev pub invariant-loop-place : goal.invariant-loop-place
invariant-loop-place l =
    (diagnostics_of l.list ≡ diagnostics_of l.fn.list ++ map (λ b. of_document (OfDocument b)) (map broken_of l.yielded))
    × (l.fn.breaches.items ≡ l.yielded ++ into_iter_items l.place-iterator)
    × (into_iter_len l.place-iterator ≡ length (into_iter_items l.place-iterator))
