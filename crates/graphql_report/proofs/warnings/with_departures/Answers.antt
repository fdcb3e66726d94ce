use Rattle.std.proofs.Common.{refl, sym, subst, ◌≡◌, ◌+◌, ◌++◌, Vec, map, take}
use Rattle.std.specs.declared.alloc.Global.{Global}
use Rattle.graphql_names.specs.Placed.{Place}
use Rattle.strict_documents.specs.DepartureViews.{departure_tree}
use Rattle.graphql_report.specs.Alike.{each_once}
use Rattle.graphql_report.specs.Warnings.{about_departure}
use Rattle.graphql_report.specs.WarningViews.{told_of}
use Rattle.graphql_report.specs.declared.warnings.Warning.{Warning}
use Rattle.graphql_report.proofs.Once.{once_kept, once_pushed}
use Rattle.graphql_report.proofs.warnings.with_departures.Goals as goal
use Rattle.graphql_report.proofs.warnings.with_departures.Goals.{then-not-is_told_by+in_ok-push, else-not-is_told_by}

pub loop-index-preserved : goal.loop-index-preserved
loop-index-preserved c =
    let xs = c.args.departures.now in
    let one = c.index-departures-index.result in
    let k = c.loop-index.index in
    let base = told_of c.args.told in
    let Done = λ (l : Vec (Place × Warning) Global). told_of l ≡ base ++ map about_departure (each_once (map departure_tree (take (k + 1) xs))) in
    elim c.if-not-is_told_by.branch [
      | then-not-is_told_by+in_ok-push w ↦ subst Done (sym w.told-is)
          (once_pushed base xs k one one c.is_told_by.result c.loop-index.told.items w.push.new.self.items _ c.loop-index-test.true c.index-departures-index.is c.is_told_by.ensures w.if-not-is_told_by.true
          w.in_ok-push.ensures.items refl c.loop-index.invariant)
      | else-not-is_told_by w ↦ subst Done (sym w.told-is)
          (once_kept base xs k one one c.is_told_by.result c.loop-index.told.items c.loop-index-test.true c.index-departures-index.is c.is_told_by.ensures w.if-not-is_told_by.false c.loop-index.invariant)
    ]
