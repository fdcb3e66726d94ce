use Rattle.std.proofs.Common.{◌≡◌, ℕ, List, ◌++◌, sym, ap, ◌∙◌, subst}
use Rattle.std.specs.String.{string_bytes}
use Rattle.read_tokens.specs.Blocks.{lines_of, is_blank, common_indent, or_zero, without_blank_front, without_blank_back, block_string_value}
use Rattle.read_tokens.specs.Values.{Cut, AtMost, further_lines, kept_from, first_kept}
use Rattle.read_tokens.proofs.Lines.{value_is, at_most_own}
use Rattle.read_tokens.proofs.LineSteps.{blank_value, full_value, on_ok_then, added}
use Rattle.read_tokens.proofs.block_lines.push_block.Goals as goal

pub push_from-requires : goal.push_from-requires
push_from-requires c =
    let indent : c.or_zero-indent.result ≡ or_zero (common_indent (lines_of c.after_line-following.result.now)) =
    c.or_zero-indent.ensures ∙ ap or_zero (c.common_indent.ensures ∙ ap (λ (bytes : List ℕ). common_indent (lines_of bytes)) c.as_bytes.ensures.value) in
    subst (λ (k : ℕ). AtMost k (common_indent (lines_of c.after_line-following.result.now))) (sym indent) (at_most_own (common_indent (lines_of c.after_line-following.result.now)))

pub push_kept-requires : goal.push_kept-requires
push_kept-requires c =
    let indent : c.or_zero-indent.result ≡ or_zero (common_indent (lines_of c.after_line-following.result.now)) =
    c.or_zero-indent.ensures ∙ ap or_zero (c.common_indent.ensures ∙ ap (λ (bytes : List ℕ). common_indent (lines_of bytes)) c.as_bytes.ensures.value) in
    subst (λ (k : ℕ). AtMost k (common_indent (lines_of c.after_line-following.result.now))) (sym indent) (at_most_own (common_indent (lines_of c.after_line-following.result.now)))

pub returns-then-is_blank : goal.returns-then-is_blank
returns-then-is_blank c =
    let cut : Cut c.args.raw.now c.first_line-line.result.now c.after_line-following.result.now =
    subst (λ (line : List ℕ). Cut c.args.raw.now line c.after_line-following.result.now) (sym c.first_line-line.ensures.line) c.after_line-following.ensures.cut in
    let indent : c.or_zero-indent.result ≡ or_zero (common_indent (lines_of c.after_line-following.result.now)) =
    c.or_zero-indent.ensures ∙ ap or_zero (c.common_indent.ensures ∙ ap (λ (bytes : List ℕ). common_indent (lines_of bytes)) c.as_bytes.ensures.value) in
    let blank = ap is_blank (sym c.as_bytes-2.ensures.value) ∙ sym c.is_blank.ensures ∙ c.if-is_blank.true in
    let value = value_is c.args.raw.now c.first_line-line.result.now c.after_line-following.result.now cut
    ∙ ap (λ (k : ℕ). first_kept c.first_line-line.result.now k (lines_of c.after_line-following.result.now)) (sym indent)
    ∙ blank_value c.first_line-line.result.now c.or_zero-indent.result (lines_of c.after_line-following.result.now) blank in
    on_ok_then c.push_from.result
    (string_bytes c.push_from.new.out ≡ string_bytes c.args.out.now ++ kept_from c.or_zero-indent.result (without_blank_front (lines_of c.after_line-following.result.now)))
    (string_bytes c.push_from.new.out ≡ string_bytes c.args.out.now ++ block_string_value c.args.raw.now)
    c.push_from.ensures (λ pushed. pushed ∙ ap (λ (bytes : List ℕ). string_bytes c.args.out.now ++ bytes) (sym value))

pub returns : goal.returns
returns c =
    let cut : Cut c.args.raw.now c.first_line-line.result.now c.after_line-following.result.now =
    subst (λ (line : List ℕ). Cut c.args.raw.now line c.after_line-following.result.now) (sym c.first_line-line.ensures.line) c.after_line-following.ensures.cut in
    let indent : c.or_zero-indent.result ≡ or_zero (common_indent (lines_of c.after_line-following.result.now)) =
    c.or_zero-indent.ensures ∙ ap or_zero (c.common_indent.ensures ∙ ap (λ (bytes : List ℕ). common_indent (lines_of bytes)) c.as_bytes.ensures.value) in
    let full = ap is_blank (sym c.as_bytes-2.ensures.value) ∙ sym c.is_blank.ensures ∙ c.if-is_blank.false in
    let value = value_is c.args.raw.now c.first_line-line.result.now c.after_line-following.result.now cut
    ∙ ap (λ (k : ℕ). first_kept c.first_line-line.result.now k (lines_of c.after_line-following.result.now)) (sym indent)
    ∙ full_value c.first_line-line.result.now c.or_zero-indent.result (lines_of c.after_line-following.result.now) full in
    on_ok_then c.push_kept.result
    (string_bytes c.push_kept.new.out ≡ string_bytes c.push_str.new.self ++ further_lines c.or_zero-indent.result (without_blank_back (lines_of c.after_line-following.result.now)))
    (string_bytes c.push_kept.new.out ≡ string_bytes c.args.out.now ++ block_string_value c.args.raw.now)
    c.push_kept.ensures (λ pushed.
    added (string_bytes c.push_kept.new.out) (string_bytes c.push_str.new.self) (string_bytes c.args.out.now) c.first_line-line.result.now
    (further_lines c.or_zero-indent.result (without_blank_back (lines_of c.after_line-following.result.now))) (block_string_value c.args.raw.now) pushed c.in_ok-push_str.ensures.bytes value)
