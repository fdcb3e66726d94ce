use Rattle.std.proofs.Common.{◌≡◌, map, lit<, sym, ◌∙◌, ap, not, ◌||◌, ◌&&◌, arith}
use Rattle.std.proofs.lemmas.Grind.{common_steps}
use Rattle.std.proofs.lemmas.Iterator.{items_from_drains}
use Rattle.std.proofs.lemmas.Iterator.Splits.{YieldsList-from_str_split}
use Rattle.tree_literals.specs.StringLayout.{is_blank, is_at_margin, text_lines}
use Rattle.tree_literals.proofs.Lines.{last_is_blank-push, at_margin-push, ends_well}
use Rattle.tree_literals.proofs.print_description.lines_end_well.Goals as goal

pub loop-line-preserved : goal.loop-line-preserved
loop-line-preserved c =
    let margin : c.is_at_margin-one_at_margin.result ≡ is_at_margin c.in-Some.line.now = c.is_at_margin-one_at_margin.ensures ∙ ap is_at_margin c.as_bytes-in-loop-line.ensures.value in
    record {
      last = c.is_blank-last_is_blank.ensures ∙ ap is_blank c.as_bytes.ensures.value ∙ sym (last_is_blank-push c.loop-line.yielded c.in-Some.line);
      margin = (λ i. c.loop-line.invariant.margin i || margin i) ∙ sym (at_margin-push c.loop-line.yielded c.in-Some.line);
    }

pub returns-then-not-last_is_blank : goal.returns-then-not-last_is_blank
returns-then-not-last_is_blank c =
    let same : c.into_iter-line-iterator.result ≡ c.split-line-items.result = grind (arith, common_steps) in
    let all : map (λ x. x.now) c.loop-line.yielded ≡ text_lines c.args.text.now =
    items_from_drains _ (c.loop-line.line-iterator, c.loop-line.yielded_by, λ _. (c.next.new.self, c.in-None.ensures.steps)) (YieldsList-from_str_split 10 c.args.text.now (lit< tt) (rw same c.split-line-items.ensures.text) (rw same c.split-line-items.ensures.has_more) (rw same c.split-line-items.ensures.pattern)) in
    sym (ap (λ b. not b && c.loop-line.one_at_margin) c.if-not-last_is_blank.true) ∙ ends_well _ _ _ _ c.loop-line.invariant.last c.loop-line.invariant.margin all

pub returns-else-not-last_is_blank : goal.returns-else-not-last_is_blank
returns-else-not-last_is_blank c =
    let same : c.into_iter-line-iterator.result ≡ c.split-line-items.result = grind (arith, common_steps) in
    let all : map (λ x. x.now) c.loop-line.yielded ≡ text_lines c.args.text.now =
    items_from_drains _ (c.loop-line.line-iterator, c.loop-line.yielded_by, λ _. (c.next.new.self, c.in-None.ensures.steps)) (YieldsList-from_str_split 10 c.args.text.now (lit< tt) (rw same c.split-line-items.ensures.text) (rw same c.split-line-items.ensures.has_more) (rw same c.split-line-items.ensures.pattern)) in
    ap not c.if-not-last_is_blank.false ∙ sym (ap (λ b. not b && c.loop-line.one_at_margin) c.if-not-last_is_blank.false) ∙ ends_well _ _ _ _ c.loop-line.invariant.last c.loop-line.invariant.margin all
