use Rattle.std.proofs.Common.{◌≡◌, ℕ, ◌+◌, ◌-◌, ◌≤◌, ◌≢◌, length, List, get_or, refl, subst, sym, ap, ◌∙◌, arith}
use Rattle.std.proofs.lemmas.List.{get_or_default}
use Rattle.report_forms.specs.Ends.{ends_line, how_many}
use Rattle.report_forms.specs.LineTexts.{IsNumberedStart}
use Rattle.report_forms.specs.Starts.{starts_up_to}
use Rattle.report_forms.proofs.LineStarts.{length-starts, numbered}
use Rattle.report_forms.proofs.lines.Lines.start_of.Goals as goal
use Rattle.report_forms.proofs.lines.Lines.start_of.Goals.{then-number-eq0-via-then-number-eq0, then-number-eq0-via-else-number-eq0+then-number-len}

size : (text seen starts : List ℕ) → text ≡ seen → starts ≡ starts_up_to text (length text) → length starts ≡ 1 + how_many (ends_line seen) 0 (length seen)
size text seen starts is from =
    ap length from ∙ length-starts text (length text) ∙ ap (λ (t : List ℕ). 1 + how_many (ends_line t) 0 (length t)) is

-- the start that is read has this number
read : (text seen starts : List ℕ) (number start : ℕ) → text ≡ seen → starts ≡ starts_up_to text (length text) → number ≢ 0 → number ≤ length starts
    → start ≡ get_or starts (number - 1) start → IsNumberedStart seen number start
read text seen starts number start is from some within value =
    let at : start ≡ get_or (starts_up_to text (length text)) (number - 1) 0 =
    value ∙ get_or_default starts (number - 1) start 0 (omega (arith, some, within)) ∙ ap (λ l. get_or l (number - 1) 0) from in
    let whole : number - 1 + 1 ≡ number = omega (arith, some) in
    let there : IsNumberedStart text (number - 1 + 1) (get_or (starts_up_to text (length text)) (number - 1) 0) =
    numbered text (length text) (number - 1) (omega arith) (omega (arith, some, within, ap length from)) in
    subst (λ (t : List ℕ). IsNumberedStart t number start) is (subst (λ (n : ℕ). IsNumberedStart text n start) whole (subst (IsNumberedStart text (number - 1 + 1)) (sym at) there))

pub returns-then-number-eq0-clause-found : goal.returns-then-number-eq0-clause-found
returns-then-number-eq0-clause-found c = (
  λ e. cc,
  λ h. elim c.then-number-eq0.branch [
    | then-number-eq0-via-then-number-eq0 w ↦ absurd (omega (arith, w.if-number-eq0.true, h.0))
    | then-number-eq0-via-else-number-eq0+then-number-len w ↦ absurd (omega (arith, w.if-number-len.true, w.len.ensures, h.1, size c.self.inside.text.now c.args.self.now c.self.inside.starts.items c.self.view_is c.self.invariant.of_lines))
  ],
)

pub returns-clause-found : goal.returns-clause-found
returns-clause-found c = (λ e. (omega (arith, c.if-number-eq0.false), omega (arith, c.if-number-len.false, c.len.ensures, size c.self.inside.text.now c.args.self.now c.self.inside.starts.items c.self.view_is c.self.invariant.of_lines)), λ h. refl)

pub returns-clause-start : goal.returns-clause-start
returns-clause-start c =
    read c.self.inside.text.now c.args.self.now c.self.inside.starts.items c.args.number c.index.result.now c.self.view_is c.self.invariant.of_lines c.if-number-eq0.false (omega (arith, c.if-number-len.false, c.len.ensures)) c.index.ensures
