use Rattle.std.proofs.Common.{Some, refl, ap, ◌∙◌}
use Rattle.std.proofs.lemmas.Result.{err_from_is_err_and, IfOk-weaker, IfErr-weaker}
use Rattle.schema_coordinates.specs.Coordinate.{OfType, printed}
use Rattle.schema_coordinates.specs.CoordinateView.{type_form}
use Rattle.schema_coordinates.specs.Reading.{parts_view}
use Rattle.schema_coordinates.proofs.CoordinateReads.{not_type_form, missing, read_sound, parts_error}
use Rattle.schema_coordinates.proofs.coordinate.TypeCoordinate.from_str.Goals as goal

pub returns-in_err-parts-clause-error : goal.returns-in_err-parts-clause-error
returns-in_err-parts-clause-error c =
    let p = err_from_is_err_and c.from_residual.result c.from_residual.ensures.1 in
    rw (p.1, p.2) (c.in_err-parts.ensures.error type_form)

pub returns-in_default-clause-error : goal.returns-in_default-clause-error
returns-in_default-clause-error c =
    let parts = c.in_ok-parts.parts in
    missing type_form c.args.text.now (parts_view parts) c.in_ok-parts.ensures.read (not_type_form parts c.in_default.not-Type)

pub returns-in-Type-clause-read : goal.returns-in-Type-clause-read
returns-in-Type-clause-read c =
    let here = read_sound c.args.text.now (OfType c.in-Type.ty.now) (c.in_ok-parts.ensures.read ∙ ap (λ p. Some (parts_view p)) c.in-Type.is) in
    IfOk-weaker c.named.result _ _ (λ _ h. ap printed h ∙ here.0) c.named.ensures.read

pub returns-in-Type-clause-error : goal.returns-in-Type-clause-error
returns-in-Type-clause-error c =
    let here = read_sound c.args.text.now (OfType c.in-Type.ty.now) (c.in_ok-parts.ensures.read ∙ ap (λ p. Some (parts_view p)) c.in-Type.is) in
    IfErr-weaker c.named.result _ _ (λ e h. parts_error type_form c.args.text.now (OfType c.in-Type.ty.now) e refl here h) c.named.ensures.error
