use Rattle.std.proofs.Common.{ltb-true, slice_index_or, length, List, subst, sym, ap, ◌∙◌, ◌<◌, arith}
use Rattle.list_interner.specs.declared.bits.Bits.{Bits}
use Rattle.list_interner.specs.Bits.{has}
use Rattle.list_interner.proofs.Rows.{in_rows}
use Rattle.list_interner.proofs.pairs.NumberPairs.is_kept.Goals as goal

pub returns-in-Some : goal.returns-in-Some
returns-in-Some c =
    let high = c.args.high in
    let row = c.in-Some.row.now in
    let rows = c.args.self.now.rows.items in
    let within : high < length rows = subst (λ (l : List Bits). high < length l) c.deref.ensures.value (ltb-true high (length c.deref.result.now) (sym c.in-Some.ensures.lookup.0)) in
    λ yes. in_rows 0 rows row high high c.args.low (omega arith) within c.requires
    (ap (λ r. has r c.args.low) (sym (c.in-Some.ensures.lookup.1 ∙ ap (λ (l : List Bits). slice_index_or l high row) c.deref.ensures.value)) ∙ sym c.has.ensures ∙ yes)
