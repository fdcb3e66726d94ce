use Rattle.std.proofs.Common.{◌∙◌, ◌<◌, ◌≤◌, [], ◌∷◌, true, false, length, get_or, map, take, sym, subst, arith}
use Rattle.std.proofs.lemmas.List.{take_all, get_or_default}
use Rattle.list_interner.specs.NumberRows.{rows_of}
use Rattle.rule_field_groups.proofs.in_definitions.Lists.{not_in_nil}
use Rattle.rule_field_groups.proofs.in_document_definitions.Unplaced.{contains_map}
use Rattle.rule_field_groups.specs.Members.{meant_sets}
use Rattle.rule_merging.specs.Examined.{schema_of, document_of, sets_of, HaveFields}
use Rattle.rule_merging.proofs.Examining.{front_more, none_more, some_there}
use Rattle.rule_merging.proofs.examination.Examination.have_fields.Goals as goal

pub loop-place-init : goal.loop-place-init
loop-place-init c = λ sets k. not_in_nil sets k

pub returns-then-branch : goal.returns-then-branch
returns-then-branch c =
    let e = c.args.self.now in
    let w = sets_of e in
    let level = rows_of c.args.level.now in
    let i = c.loop-place.place in
    let x = get_or level i [] in
    let h : i < length level = omega arith in
    let here : HaveFields (document_of e) true (meant_sets w c.deref.result.now ∷ []) =
    subst (λ b. HaveFields (document_of e) b (meant_sets w c.deref.result.now ∷ [])) c.if-branch.true c.in_ok-selects_fields.ensures in
    some_there e.pass (schema_of e) (document_of e) (map (meant_sets w) level) (meant_sets w x) (contains_map (meant_sets w) level x (i, h, get_or_default level i x [] h))
    (subst (λ l. HaveFields (document_of e) true (meant_sets w l ∷ [])) (c.deref.ensures.value ∙ c.in_ok-read.ensures) here)

pub loop-place-preserved : goal.loop-place-preserved
loop-place-preserved c =
    let e = c.args.self.now in
    let w = sets_of e in
    let level = rows_of c.args.level.now in
    let i = c.loop-place.place in
    let x = get_or level i [] in
    let h : i < length level = omega arith in
    let here : HaveFields (document_of e) false (meant_sets w c.deref.result.now ∷ []) =
    subst (λ b. HaveFields (document_of e) b (meant_sets w c.deref.result.now ∷ [])) c.if-branch.false c.in_ok-selects_fields.ensures in
    subst (HaveFields (document_of e) false) (sym (front_more (meant_sets w) level i x h (get_or_default level i [] x h)))
    (none_more e.pass (schema_of e) (document_of e) (map (meant_sets w) (take i level)) (meant_sets w x) c.loop-place.invariant
    (subst (λ l. HaveFields (document_of e) false (meant_sets w l ∷ [])) (c.deref.ensures.value ∙ c.in_ok-read.ensures) here))

pub returns : goal.returns
returns c =
    let e = c.args.self.now in
    let level = rows_of c.args.level.now in
    let end : length level ≤ c.loop-place.place = omega arith in
    subst (λ ls. HaveFields (document_of e) false (map (meant_sets (sets_of e)) ls)) (take_all c.loop-place.place level end) c.loop-place.invariant
