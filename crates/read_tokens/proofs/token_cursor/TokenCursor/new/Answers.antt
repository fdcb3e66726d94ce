use Rattle.std.proofs.Common.{◌≡◌, ℕ, List, drop, sym, ap, ◌∙◌, subst, None}
use Rattle.std.specs.Rc.{rc_str_bytes}
use Rattle.read_tokens.specs.Input.{Input}
use Rattle.read_tokens.specs.Tokens.{ignored_at}
use Rattle.read_tokens.specs.Cursor.{input_from, EndsAs}
use Rattle.read_tokens.proofs.Rests.{nothing_ignored, from_past}
use Rattle.read_tokens.proofs.Lexed.{ends_as}
use Rattle.read_tokens.proofs.token_cursor.TokenCursor.new.Goals as goal

pub invariant_of-result : goal.invariant_of-result
invariant_of-result c = record {
  shared = sym c.as_str-text.ensures.value;
  within = c.past_ignored-at.ensures.within;
  token = c.symbol_at.ensures;
  begins = subst (λ (n : ℕ). ignored_at (drop n c.as_str-text.result.now) ≡ None) (sym c.past_ignored-at.ensures.place) (nothing_ignored c.as_str-text.result.now 0);
}

pub returns-clause-shows : goal.returns-clause-shows
returns-clause-shows c =
    ap (λ (n : ℕ). input_from 0 n c.as_str-text.result.now) c.past_ignored-at.ensures.place
    ∙ from_past c.as_str-text.result.now 0 0
    ∙ ap (λ (text : List ℕ). input_from 0 0 text) c.as_str-text.ensures.value

pub returns-clause-lexed : goal.returns-clause-lexed
returns-clause-lexed c =
    let same : input_from 0 c.past_ignored-at.result c.as_str-text.result.now ≡ input_from 0 0 (rc_str_bytes c.args.shared.now) =
    ap (λ (n : ℕ). input_from 0 n c.as_str-text.result.now) c.past_ignored-at.ensures.place
    ∙ from_past c.as_str-text.result.now 0 0
    ∙ ap (λ (text : List ℕ). input_from 0 0 text) c.as_str-text.ensures.value in
    subst (λ (i : Input). EndsAs (rc_str_bytes c.args.shared.now) i.ahead i.ending) (sym same) (ends_as (rc_str_bytes c.args.shared.now))
