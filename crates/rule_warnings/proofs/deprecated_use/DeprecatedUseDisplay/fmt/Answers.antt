use Rattle.std.proofs.Common.{ℕ, List, ◌++◌, codes, subst}
use Rattle.std.specs.Fmt.{HasWritten}
use Rattle.schema_coordinates.specs.Coordinate.{printed}
use Rattle.schema_coordinates.specs.CoordinateView.{schema_coordinate}
use Rattle.rule_warnings.proofs.deprecated_use.DeprecatedUseDisplay.fmt.Goals as goal

pub returns-clause-writes : goal.returns-clause-writes
returns-clause-writes g c plain ok =
    subst (λ (reason : List ℕ). HasWritten {W = g.row.W.Denot} g.W.Write.write_str_gives c.args.f.now (codes "`" ++ (printed (schema_coordinate c.args.self.now.coordinate) ++ (codes "` is deprecated: " ++ reason))) c.write.new.self)
    c.reason-reason.ensures (c.write.ensures.writes plain ok)
