use Rattle.std.proofs.Common.{◌≡◌, ℕ, true, false, List, Option, None, Some, subst, sym, ◌∙◌}
use Rattle.std.specs.Prelude.{IfSome, IfNone}
use Rattle.report_forms.specs.Positions.{IsColumn, IsFirstInLine, IsPosition}
use Rattle.report_forms.proofs.PlacesBack.{column_of, first_place, line_is_there}
use Rattle.report_forms.proofs.lines.Lines.offset.Goals as goal

where_none : (r : Option ℕ) (P : Type 0) → P → IfNone r P
where_none None P p = p
where_none (Some v) P p = tt

none_then : (r : Option ℕ) (P Q : Type 0) → (P → Q) → IfNone r P → IfNone r Q
none_then None P Q f p = f p
none_then (Some v) P Q f p = tt

some_then : (r : Option ℕ) (P Q : ℕ → Type 0) → ((v : ℕ) → P v → Q v) → IfSome r P → IfSome r Q
some_then None P Q f p = tt
some_then (Some v) P Q f p = f v p

pub returns-in_err-start-clause-none : goal.returns-in_err-start-clause-none
returns-in_err-start-clause-none c =
    let nowhere : (place : ℕ) → ¬ (IsPosition c.args.self.now place c.args.position) = λ place is.
    let bad : false ≡ true = c.in_err-start.ensures.found.1 (line_is_there c.args.self.now place c.args.position is) in cc in
    where_none c.from_residual.result _ nowhere

pub returns-clause-found : goal.returns-clause-found
returns-clause-found c = some_then _ _ _ (λ place first.
    first_place c.args.self.now c.in_ok-start.start place c.args.position c.in_ok-start.ensures.start
    (subst (λ (t : List ℕ). IsFirstInLine t c.in_ok-start.start c.args.position.column place) (c.as_bytes.ensures.value ∙ c.self.view_is) first)) c.place_in_line.ensures.found

pub returns-clause-none : goal.returns-clause-none
returns-clause-none c = none_then c.place_in_line.result
    ((place : ℕ) → ¬ (IsColumn c.as_bytes.result.now c.in_ok-start.start c.args.position.column place))
    ((place : ℕ) → ¬ (IsPosition c.args.self.now place c.args.position))
    (λ none place is. none place
    (subst (λ (t : List ℕ). IsColumn t c.in_ok-start.start c.args.position.column place) (sym (c.as_bytes.ensures.value ∙ c.self.view_is))
    (column_of c.args.self.now c.in_ok-start.start place c.args.position c.in_ok-start.ensures.start is))) c.place_in_line.ensures.none
