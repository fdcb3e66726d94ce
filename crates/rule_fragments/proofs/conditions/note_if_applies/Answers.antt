use Rattle.std.proofs.Common.{◌∙◌, sym, subst, inl}
use Rattle.std.proofs.lemmas.Result.{on_ok_weaker}
use Rattle.std.proofs.lemmas.Slice.Eq.{bytes_eq-Decides}
use Rattle.rule_cycles.specs.in_schema.SchemaOf.{schema_tree}
use Rattle.rule_definitions.specs.Judged.{judged}
use Rattle.rule_fragments.specs.Possible.{ArePossible, ArePossibleIfFound}
use Rattle.rule_fragments.proofs.Sharing.{applies}
use Rattle.rule_fragments.proofs.WhatApplies.{one_applies, is_composite}
use Rattle.rule_fragments.proofs.conditions.note_if_applies.Goals as goal

pub returns-then-eq : goal.returns-then-eq
returns-then-eq c =
    let s = schema_tree c.args.schema.now in
    let t = c.args.ty.now.text in
    let k = c.args.condition.now.text in
    let composite = is_composite s k (sym c.is_no_composite.ensures ∙ c.if-is_no_composite.false) in
    on_ok_weaker c.note.result
    (λ h. (c.requires.0, one_applies (judged s) c.args.applying.now c.note.new.noted t k composite (inl ((bytes_eq-Decides k t).0 (sym c.eq.ensures ∙ c.if-eq.true))) h c.requires.1))
    c.note.ensures

pub returns-then-applies : goal.returns-then-applies
returns-then-applies c =
    let s = schema_tree c.args.schema.now in
    let t = c.args.ty.now.text in
    let k = c.args.condition.now.text in
    let composite = is_composite s k (sym c.is_no_composite.ensures ∙ c.if-is_no_composite.false) in
    let right = c.in_ok-types.ensures.right (subst (ArePossibleIfFound (judged s)) (sym c.take.ensures.value) c.requires.0) in
    let may = (applies (judged s) c.in_ok-types.types right t k).0 (sym c.in_ok-applies.ensures.applies ∙ c.if-applies.true) in
    on_ok_weaker c.note-then-applies.result
    (λ h. (subst (ArePossible (judged s)) (sym c.may_apply.ensures.same) right, one_applies (judged s) c.args.applying.now c.note-then-applies.new.noted t k composite may h c.requires.1))
    c.note-then-applies.ensures

pub returns : goal.returns
returns c =
    let s = schema_tree c.args.schema.now in
    let right = c.in_ok-types.ensures.right (subst (ArePossibleIfFound (judged s)) (sym c.take.ensures.value) c.requires.0) in
    (subst (ArePossible (judged s)) (sym c.may_apply.ensures.same) right, c.requires.1)
