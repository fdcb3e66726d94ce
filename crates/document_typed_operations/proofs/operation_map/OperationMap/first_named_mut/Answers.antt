use Rattle.std.proofs.Common.{refl, ap, ◌∙◌}
use Rattle.std.specs.Option.{option_map}
use Rattle.document_typed_operations.proofs.OperationMaps.{copied_mut, where-lent, first-named, first-written}
use Rattle.document_typed_operations.proofs.operation_map.OperationMap.first_named_mut.Goals as goal

pub returns : goal.returns
returns g c =
    let text = g.K.OperationKey.text_of in
    let tree = g.O.OperationEntry.tree_of in
    let es = c.args.self.now.named.entries in (
      (
        refl,
        λ w. where-lent tree c.get_index_mut.result _ (λ x h. λ i. record { anonymous = option_map tree c.args.self.now.anonymous; named = first-written text tree w es i }),
        refl,
      ),
      record {
        writes_back = tt;
        value = copied_mut tree c.get_index_mut.result ∙ ap (option_map tree) c.get_index_mut.ensures.value ∙ first-named text tree es;
      },
    )
