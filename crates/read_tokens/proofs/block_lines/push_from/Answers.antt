use Rattle.std.proofs.Common.{◌≡◌, ℕ, List, [], ◌++◌, drop, sym, ap, ◌∙◌, subst, arith, append-nil, refl}
use Rattle.std.specs.String.{string_bytes}
use Rattle.read_tokens.specs.Blocks.{lines_of, is_blank, without_blank_front, without_blank_back}
use Rattle.read_tokens.specs.Values.{Cut, further_lines, kept_from}
use Rattle.read_tokens.proofs.LineSteps.{ready_first, under_after, front_step, front_end, front_here, empty_is, on_ok_then, added}
use Rattle.read_tokens.proofs.block_lines.push_from.Goals as goal

pub lines-init : goal.lines-init
lines-init c = record { text = c.utf8.text; ready = record { enough = omega arith; under = c.requires }; same = refl; out = refl }

pub without_indent-requires : goal.without_indent-requires
without_indent-requires c =
    let cut : Cut c.lines.left.now c.first_line-line.result.now c.after_line-following.result.now =
    subst (λ (line : List ℕ). Cut c.lines.left.now line c.after_line-following.result.now) (sym c.first_line-line.ensures.line) c.after_line-following.ensures.cut in
    ready_first c.args.indent 0 c.lines.left.now c.first_line-line.result.now c.after_line-following.result.now cut c.lines.invariant.ready

pub push_kept-requires : goal.push_kept-requires
push_kept-requires c =
    let cut : Cut c.lines.left.now c.first_line-line.result.now c.after_line-following.result.now =
    subst (λ (line : List ℕ). Cut c.lines.left.now line c.after_line-following.result.now) (sym c.first_line-line.ensures.line) c.after_line-following.ensures.cut in
    under_after c.args.indent c.lines.left.now c.first_line-line.result.now c.after_line-following.result.now cut c.lines.invariant.ready.under

pub returns-then-not-is_blank : goal.returns-then-not-is_blank
returns-then-not-is_blank c =
    let cut : Cut c.lines.left.now c.first_line-line.result.now c.after_line-following.result.now =
    subst (λ (line : List ℕ). Cut c.lines.left.now line c.after_line-following.result.now) (sym c.first_line-line.ensures.line) c.after_line-following.ensures.cut in
    let blank = ap is_blank (sym c.as_bytes.ensures.value) ∙ sym c.is_blank.ensures ∙ c.if-not-is_blank.true in
    on_ok_then c.push_kept.result
    (string_bytes c.push_kept.new.out ≡ string_bytes c.push_str.new.self ++ further_lines c.args.indent (without_blank_back (lines_of c.after_line-following.result.now)))
    (string_bytes c.push_kept.new.out ≡ string_bytes c.args.out.now ++ kept_from c.args.indent (without_blank_front (lines_of c.args.text.now)))
    c.push_kept.ensures (λ pushed.
    added (string_bytes c.push_kept.new.out) (string_bytes c.push_str.new.self) (string_bytes c.args.out.now) (drop c.args.indent c.first_line-line.result.now)
    (further_lines c.args.indent (without_blank_back (lines_of c.after_line-following.result.now))) (kept_from c.args.indent (without_blank_front (lines_of c.args.text.now))) pushed
    (c.in_ok-push_str.ensures.bytes ∙ ap (λ (bytes : List ℕ). bytes ++ c.without_indent.result.now) c.lines.invariant.out ∙ ap (λ (bytes : List ℕ). string_bytes c.args.out.now ++ bytes) c.without_indent.ensures)
    (sym c.lines.invariant.same ∙ front_here c.args.indent c.lines.left.now c.first_line-line.result.now c.after_line-following.result.now cut blank))

pub lines-preserved : goal.lines-preserved
lines-preserved c =
    let cut : Cut c.lines.left.now c.first_line-line.result.now c.after_line-following.result.now =
    subst (λ (line : List ℕ). Cut c.lines.left.now line c.after_line-following.result.now) (sym c.first_line-line.ensures.line) c.after_line-following.ensures.cut in
    let blank = ap is_blank (sym c.as_bytes.ensures.value) ∙ sym c.is_blank.ensures ∙ c.if-not-is_blank.false in
    record {
      text = c.after_line-following.utf8;
      ready = record { enough = omega arith; under = under_after c.args.indent c.lines.left.now c.first_line-line.result.now c.after_line-following.result.now cut c.lines.invariant.ready.under };
      same = front_step c.args.indent c.lines.left.now c.first_line-line.result.now c.after_line-following.result.now cut blank ∙ c.lines.invariant.same;
      out = c.lines.invariant.out;
    }

pub returns : goal.returns
returns c =
    let none : kept_from c.args.indent (without_blank_front (lines_of c.args.text.now)) ≡ [] =
    sym c.lines.invariant.same ∙ front_end c.args.indent c.lines.left.now (empty_is c.lines.left.now (sym c.is_empty.ensures ∙ c.lines-test.false)) in
    c.lines.invariant.out ∙ sym (append-nil (string_bytes c.args.out.now)) ∙ ap (λ (bytes : List ℕ). string_bytes c.args.out.now ++ bytes) (sym none)
