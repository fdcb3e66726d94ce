use Rattle.std.proofs.Common.{refl, ap, ◌∙◌}
use Rattle.std.proofs.lemmas.Result.{err_from_is_err_and, IfOk-weaker, IfErr-weaker}
use Rattle.schema_coordinates.specs.Coordinate.{printed}
use Rattle.schema_coordinates.specs.CoordinateView.{any_form}
use Rattle.schema_coordinates.specs.Reading.{parts_view}
use Rattle.schema_coordinates.proofs.CoordinateReads.{read_sound, parts_error}
use Rattle.schema_coordinates.proofs.coordinate.SchemaCoordinate.from_str.Goals as goal

pub returns-in_err-parts-clause-error : goal.returns-in_err-parts-clause-error
returns-in_err-parts-clause-error c =
    let p = err_from_is_err_and c.from_residual.result c.from_residual.ensures.1 in
    rw (p.1, p.2) (c.in_err-parts.ensures.error any_form)

pub returns-clause-read : goal.returns-clause-read
returns-clause-read c =
    let here = read_sound c.args.text.now (parts_view c.in_ok-parts.parts) c.in_ok-parts.ensures.read in
    IfOk-weaker c.named.result _ _ (λ _ h. ap printed h ∙ here.0) c.named.ensures.read

pub returns-clause-error : goal.returns-clause-error
returns-clause-error c =
    let here = read_sound c.args.text.now (parts_view c.in_ok-parts.parts) c.in_ok-parts.ensures.read in
    IfErr-weaker c.named.result _ _ (λ e h. parts_error any_form c.args.text.now (parts_view c.in_ok-parts.parts) e refl here h) c.named.ensures.error
