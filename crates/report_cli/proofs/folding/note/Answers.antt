use Rattle.std.proofs.Common.{◌≡◌, ap, ⊎_elim, rules, arith, bytes_eq}
use Rattle.std.specs.Cmp.Lexicographic.{bytes_decides, nat_list_eq_equiv}
use Rattle.std.proofs.lemmas.Bool.{cases_Bool}
use Rattle.std.proofs.lemmas.Grind.{common_steps}
use Rattle.std.proofs.lemmas.Map.Text.{hash_map_updates_str}
use Rattle.report_cli.specs.Folding.{cause_text, is_cause, noted}
use Rattle.report_cli.proofs.folding.note.Goals as goal

pub overflow_add-before : goal.overflow_add-before
overflow_add-before c = grind (arith, common_steps, c.requires c.in-Some.message.now)

-- at the message itself the count grows by one, and at other texts it stays
pub returns-clause-after : goal.returns-clause-after
returns-clause-after c = λ q.
    let m = c.in-Some.message.now in
    let put = hash_map_updates_str m c.args.counts.now c.insert.new.self _ c.in_ok-insert.ensures.updates q in
    let at : is_cause q (cause_text c.args.cause) ≡ bytes_eq q m = ap (λ x. is_cause q (cause_text x)) c.in-Some.is in
    let before : c.unwrap_or-before.result ≡ noted c.args.counts.now m = search rules in
    let turned = nat_list_eq_equiv.symm q m in
    ⊎_elim
    (λ t. let same = (bytes_decides q m).0 t in
    let before_at_q = rw (← same) at before in
    let put_at_q = rw (← same) at put in
    let itself = nat_list_eq_equiv.refl q in
    grind (arith, common_steps))
    (λ f. grind (arith, common_steps))
    (cases_Bool (bytes_eq q m))
