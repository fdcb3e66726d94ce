use Rattle.std.proofs.Common.{Some, None, sym, ap, ◌∙◌, if◌then◌else◌}
use Rattle.std.specs.Prelude.{option_and_then}
use Rattle.std.specs.Option.{option_map}
use Rattle.schema_coordinates.specs.Coordinate.{Coordinate, is_signless}
use Rattle.schema_coordinates.specs.Reading.{parts_view}
use Rattle.schema_coordinates.proofs.CoordinateReads.{unread}
use Rattle.schema_coordinates.proofs.parts.parts_of.Goals as goal
use Rattle.schema_coordinates.proofs.parts.parts_of.Goals.{in_default-via-in-Some+else-are_signless, in_default-via-in_default}

pub returns-in_default-clause-error : goal.returns-in_default-clause-error
returns-in_default-clause-error c = λ form. elim c.in_default.branch [
  | in_default-via-in-Some+else-are_signless w ↦ unread form c.args.text.now
      (ap (option_and_then (λ (d : Coordinate). if is_signless d then Some d else None)) (sym c.cut_parts.ensures ∙ ap (option_map parts_view) w.in-Some.is)
      ∙ ap (λ b. if b then Some (parts_view w.in-Some.parts) else None) (sym w.are_signless.ensures ∙ w.if-are_signless.false))
  | in_default-via-in_default w ↦ unread form c.args.text.now
      (ap (option_and_then (λ (d : Coordinate). if is_signless d then Some d else None)) (sym c.cut_parts.ensures ∙ ap (option_map parts_view) w.in_default.is))
]
