use Rattle.std.proofs.Common.{Some, refl, ap, ◌∙◌}
use Rattle.std.proofs.lemmas.Result.{err_from_is_err_and, IfOk-weaker, IfErr-weaker}
use Rattle.schema_coordinates.specs.Coordinate.{OfDirective, printed}
use Rattle.schema_coordinates.specs.CoordinateView.{directive_form}
use Rattle.schema_coordinates.specs.Reading.{parts_view}
use Rattle.schema_coordinates.proofs.CoordinateReads.{not_directive_form, missing, read_sound, parts_error}
use Rattle.schema_coordinates.proofs.coordinate.DirectiveCoordinate.from_str.Goals as goal

pub returns-in_err-parts-clause-error : goal.returns-in_err-parts-clause-error
returns-in_err-parts-clause-error c =
    let p = err_from_is_err_and c.from_residual.result c.from_residual.ensures.1 in
    rw (p.1, p.2) (c.in_err-parts.ensures.error directive_form)

pub returns-in_default-clause-error : goal.returns-in_default-clause-error
returns-in_default-clause-error c =
    let parts = c.in_ok-parts.parts in
    missing directive_form c.args.text.now (parts_view parts) c.in_ok-parts.ensures.read (not_directive_form parts c.in_default.not-Directive)

pub returns-in-Directive-clause-read : goal.returns-in-Directive-clause-read
returns-in-Directive-clause-read c =
    let here = read_sound c.args.text.now (OfDirective c.in-Directive.directive.now) (c.in_ok-parts.ensures.read ∙ ap (λ p. Some (parts_view p)) c.in-Directive.is) in
    IfOk-weaker c.named.result _ _ (λ _ h. ap printed h ∙ here.0) c.named.ensures.read

pub returns-in-Directive-clause-error : goal.returns-in-Directive-clause-error
returns-in-Directive-clause-error c =
    let here = read_sound c.args.text.now (OfDirective c.in-Directive.directive.now) (c.in_ok-parts.ensures.read ∙ ap (λ p. Some (parts_view p)) c.in-Directive.is) in
    IfErr-weaker c.named.result _ _ (λ e h. parts_error directive_form c.args.text.now (OfDirective c.in-Directive.directive.now) e refl here h) c.named.ensures.error
