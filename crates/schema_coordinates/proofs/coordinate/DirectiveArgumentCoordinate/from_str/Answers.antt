use Rattle.std.proofs.Common.{Some, refl, ap, ◌∙◌}
use Rattle.std.proofs.lemmas.Result.{err_from_is_err_and, IfOk-weaker, IfErr-weaker}
use Rattle.schema_coordinates.specs.Coordinate.{OfDirectiveArgument, printed}
use Rattle.schema_coordinates.specs.CoordinateView.{directive_argument_form}
use Rattle.schema_coordinates.specs.Reading.{parts_view}
use Rattle.schema_coordinates.proofs.CoordinateReads.{not_directive_argument_form, missing, read_sound, parts_error}
use Rattle.schema_coordinates.proofs.coordinate.DirectiveArgumentCoordinate.from_str.Goals as goal

pub returns-in_err-parts-clause-error : goal.returns-in_err-parts-clause-error
returns-in_err-parts-clause-error c =
    let p = err_from_is_err_and c.from_residual.result c.from_residual.ensures.1 in
    rw (p.1, p.2) (c.in_err-parts.ensures.error directive_argument_form)

pub returns-in_default-clause-error : goal.returns-in_default-clause-error
returns-in_default-clause-error c =
    let parts = c.in_ok-parts.parts in
    missing directive_argument_form c.args.text.now (parts_view parts) c.in_ok-parts.ensures.read (not_directive_argument_form parts c.in_default.not-DirectiveArgument)

pub returns-in-DirectiveArgument-clause-read : goal.returns-in-DirectiveArgument-clause-read
returns-in-DirectiveArgument-clause-read c =
    let here = read_sound c.args.text.now (OfDirectiveArgument c.in-DirectiveArgument.directive.now c.in-DirectiveArgument.argument.now) (c.in_ok-parts.ensures.read ∙ ap (λ p. Some (parts_view p)) c.in-DirectiveArgument.is) in
    IfOk-weaker c.named.result _ _ (λ _ h. ap printed h ∙ here.0) c.named.ensures.read

pub returns-in-DirectiveArgument-clause-error : goal.returns-in-DirectiveArgument-clause-error
returns-in-DirectiveArgument-clause-error c =
    let here = read_sound c.args.text.now (OfDirectiveArgument c.in-DirectiveArgument.directive.now c.in-DirectiveArgument.argument.now) (c.in_ok-parts.ensures.read ∙ ap (λ p. Some (parts_view p)) c.in-DirectiveArgument.is) in
    IfErr-weaker c.named.result _ _ (λ e h. parts_error directive_argument_form c.args.text.now (OfDirectiveArgument c.in-DirectiveArgument.directive.now c.in-DirectiveArgument.argument.now) e refl here h) c.named.ensures.error
