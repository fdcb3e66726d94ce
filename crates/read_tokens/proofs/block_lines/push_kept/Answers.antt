use Rattle.std.proofs.Common.{◌≡◌, ℕ, suc, ◌-◌, List, ◌∷◌, ◌++◌, length, take, drop, sym, ap, ◌∙◌, subst, arith, append_assoc}
use Rattle.std.specs.String.{string_bytes}
use Rattle.read_tokens.specs.Blocks.{lines_of, without_blank_back}
use Rattle.read_tokens.specs.Values.{Cut, further_lines}
use Rattle.read_tokens.proofs.LineSteps.{Ready, ready_start, ready_first, ready_more, back_taken, further_more}
use Rattle.read_tokens.proofs.block_lines.push_kept.Goals as goal

pub lines-init : goal.lines-init
lines-init c =
    let n : c.kept_lines-more.result ≡ length (without_blank_back (lines_of c.args.text.now)) =
    c.kept_lines-more.ensures ∙ ap (λ (bytes : List ℕ). length (without_blank_back (lines_of bytes))) c.as_bytes.ensures.value in
    record {
      text = c.utf8.text;
      ready = subst (λ (i : ℕ). Ready c.args.indent i c.args.text.now) (sym n) (ready_start c.args.indent c.args.text.now c.requires);
      so_far = ap (λ (i : ℕ). string_bytes c.args.out.now ++ further_lines c.args.indent (take i (lines_of c.args.text.now))) n
          ∙ ap (λ (lines : List (List ℕ)). string_bytes c.args.out.now ++ further_lines c.args.indent lines) (back_taken (lines_of c.args.text.now));
    }

pub push_line-requires : goal.push_line-requires
push_line-requires c =
    let cut : Cut c.lines.left.now c.first_line-line.result.now c.after_line-following.result.now =
    subst (λ (line : List ℕ). Cut c.lines.left.now line c.after_line-following.result.now) (sym c.first_line-line.ensures.line) c.after_line-following.ensures.cut in
    ready_first c.args.indent c.lines.more c.lines.left.now c.first_line-line.result.now c.after_line-following.result.now cut c.lines.invariant.ready

pub lines-preserved : goal.lines-preserved
lines-preserved c =
    let cut : Cut c.lines.left.now c.first_line-line.result.now c.after_line-following.result.now =
    subst (λ (line : List ℕ). Cut c.lines.left.now line c.after_line-following.result.now) (sym c.first_line-line.ensures.line) c.after_line-following.ensures.cut in
    let k : ℕ = c.args.indent in
    let m : ℕ = c.lines.more - 1 in
    let e : c.lines.more ≡ suc m = omega arith in
    let following : List ℕ = c.after_line-following.result.now in
    let line : List ℕ = c.first_line-line.result.now in
    record {
      text = c.after_line-following.utf8;
      ready = ready_more k c.lines.more m c.lines.left.now line following cut e c.lines.invariant.ready;
      so_far = ap (λ (bytes : List ℕ). bytes ++ further_lines k (take m (lines_of following))) c.in_ok-push_line.ensures
          ∙ append_assoc (string_bytes c.lines.out) (10 ∷ drop k line) (further_lines k (take m (lines_of following)))
          ∙ ap (λ (bytes : List ℕ). string_bytes c.lines.out ++ bytes) (sym (further_more k c.lines.more m c.lines.left.now line following cut e c.lines.invariant.ready))
          ∙ c.lines.invariant.so_far;
    }
