use Rattle.std.proofs.Common.{refl, sym, ap, ◌∙◌}
use Rattle.std.specs.Option.{option_map}
use Rattle.document_typed_operations.proofs.OperationMaps.{under_texts, copied_mut, where-lent, text-lookup, text-written}
use Rattle.document_typed_operations.proofs.operation_map.OperationMap.named_mut.Goals as goal

pub returns : goal.returns
returns g c =
    let text = g.K.OperationKey.text_of in
    let tree = g.O.OperationEntry.tree_of in
    let eq = g.K.PartialEq.eq in
    let same = g.met.K.OperationKey.same_text in
    let es = c.args.self.now.named.entries in
    let name = c.args.name.now in (
      (
        refl,
        λ w. where-lent tree c.get_mut.result _ (λ x h. λ i. record {
          anonymous = option_map tree c.args.self.now.anonymous;
          named = (ap (under_texts text tree) (c.get_mut.follows.holds w).0 ∙ text-written text tree eq same name w x es (sym c.get_mut.ensures.value ∙ h)) i;
        }),
        λ i. record c.args.self.now { named = c.get_mut.follows.holds-at-none i },
      ),
      record {
        writes_back = tt;
        value = copied_mut tree c.get_mut.result ∙ ap (option_map tree) c.get_mut.ensures.value ∙ text-lookup text tree eq same name es;
      },
    )
