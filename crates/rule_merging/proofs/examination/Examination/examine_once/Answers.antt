use Rattle.std.proofs.Common.{◌∙◌, ◌∷◌, [], true, false, map, ap, sym, subst}
use Rattle.rule_field_groups.specs.in_sets.in_reach.Broken.{brokens_of}
use Rattle.list_interner.specs.NumberLists.{lists_kept}
use Rattle.rule_field_groups.specs.in_sets.Read.{set_content_at}
use Rattle.rule_field_groups.specs.Members.{meant_sets, read_sets}
use Rattle.rule_field_groups.specs.Under.{sets_in}
use Rattle.rule_merging.specs.Counted.{AreListed, Grows}
use Rattle.rule_field_groups.specs.MergeState.{account_of, kept_of, Expands}
use Rattle.rule_merging.specs.Examined.{schema_of, document_of, sets_of}
use Rattle.rule_field_groups.specs.declared.merge_state.MergeState.{MergeState}
use Rattle.rule_merging.proofs.Examining.{SetsTold, looked_then, looked_before}
use Rattle.rule_merging.proofs.Counting.{Premise, grows_same}
use Rattle.rule_merging.proofs.examination.Examination.examine_once.Goals.{then-branch+in_ok-examine_paid, else-branch}
use Rattle.rule_merging.proofs.examination.Examination.examine_once.Goals as goal

pub returns-clause-examined : goal.returns-clause-examined
returns-clause-examined c =
    let e = c.args.self.now in
    let s = schema_of e in
    let d = document_of e in
    let w = sets_of e in
    let sets = meant_sets w c.args.nodes.now in
    let base = kept_of w c.args.examined.now in
    let told = brokens_of c.args.breaches.now in
    let next = sets_in w c.args.examined.now.next in
    let now = map (map (set_content_at w)) (lists_kept c.expand.new.expanded) in
    let is_new = c.in_ok-expand.field-0 in
    let here : Expands base.expanded (read_sets sets) is_new now =
    subst (λ m. Expands (map (map (set_content_at w)) (lists_kept m)) (read_sets sets) is_new now) c.replace-expanded.ensures.value c.in_ok-expand.ensures.expands in
    elim c.if-branch.branch [
      | then-branch+in_ok-examine_paid b ↦
          let mid = kept_of w b.examine_paid.new.examined in
          let later = brokens_of b.examine_paid.new.breaches in
          let last = sets_in w b.examine_paid.new.examined.next in
          let fresh : Expands base.expanded (read_sets sets) true now = subst (λ n. Expands base.expanded (read_sets sets) n now) b.if-branch.true here in
          let none = ap (λ m. map (map (set_content_at w)) (lists_kept m)) c.replace-expanded.ensures.after ∙ ap (map (map (set_content_at w))) c.new.ensures in
          let apart : SetsTold e.pass s d told later (record base { expanded = [] }) mid next last (sets ∷ []) =
          subst (λ ls. SetsTold e.pass s d told later (record base { expanded = ls }) mid next last (sets ∷ [])) none b.in_ok-examine_paid.ensures.examined in
          subst (λ l. SetsTold e.pass s d told (brokens_of l) base (record (kept_of w c.if-branch.examined) { expanded = now }) next (sets_in w c.if-branch.examined.next) (sets ∷ [])) (sym b.breaches-is)
          (subst (λ (x : MergeState). SetsTold e.pass s d told later base (record (kept_of w x) { expanded = now }) next (sets_in w x.next) (sets ∷ [])) (sym b.examined-is)
          (looked_then e.pass s d sets base mid now told later next last fresh apart))
      | else-branch b ↦
          let known : Expands base.expanded (read_sets sets) false now = subst (λ n. Expands base.expanded (read_sets sets) n now) b.if-branch.false here in
          subst (λ l. SetsTold e.pass s d told (brokens_of l) base (record (kept_of w c.if-branch.examined) { expanded = now }) next (sets_in w c.if-branch.examined.next) (sets ∷ [])) (sym b.breaches-is)
          (subst (λ (x : MergeState). SetsTold e.pass s d told told base (record (kept_of w x) { expanded = now }) next (sets_in w x.next) (sets ∷ [])) (sym b.examined-is)
          (looked_before e.pass s d sets base now told next known))
    ]

pub returns-clause-counted : goal.returns-clause-counted
returns-clause-counted c =
    let e = c.args.self.now in
    let d = document_of e in
    let w = sets_of e in
    let Given : Premise d = λ os. AreListed d os (meant_sets w c.args.nodes.now ∷ []) in
    let old = account_of w c.args.examined.now in
    elim c.if-branch.branch [
      | then-branch+in_ok-examine_paid b ↦ subst (λ (x : MergeState). Grows d Given e.pass old (account_of w x)) (sym b.examined-is) b.in_ok-examine_paid.ensures.counted
      | else-branch b ↦ grows_same d Given e.pass old (account_of w c.if-branch.examined) (ap (account_of w) b.examined-is)
    ]
