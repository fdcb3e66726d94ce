use Rattle.std.proofs.Common.{refl, rules}
use Rattle.graphql_faults.proofs.Parts.{place_decides, not_different}
use Rattle.graphql_faults.proofs.SameDetails.{both_data, both_breaches, both_bounds}
use Rattle.graphql_faults.proofs.same_details.Tuple2OptionSourceSpanDetailsTold.is_same.Goals as goal

pub returns-in-Data-Data : goal.returns-in-Data-Data
returns-in-Data-Data c =
    let place = not_different _ _ c.ne.ensures c.if-ne.false (place_decides c.args.self.now.0 c.args.other.now.0) in
    both_data c.args.self.now c.args.other.now place c.is_same_data.result c.in-Data-Data.one c.in-Data-Data.other c.in-Data-Data.is-0 c.in-Data-Data.is-1 c.is_same_data.ensures

pub returns-in-DocumentBuild-DocumentBuild : goal.returns-in-DocumentBuild-DocumentBuild
returns-in-DocumentBuild-DocumentBuild c =
    let place = not_different _ _ c.ne.ensures c.if-ne.false (place_decides c.args.self.now.0 c.args.other.now.0) in
    let both = c.in-DocumentBuild-DocumentBuild in
    both_breaches c.args.self.now c.args.other.now place c.is_same_breach.result both.one both.other both.is-0 both.is-1 c.is_same_breach.ensures

pub returns-in-RecursionLimitError-RecursionLimitError : goal.returns-in-RecursionLimitError-RecursionLimitError
returns-in-RecursionLimitError-RecursionLimitError c =
    let place = not_different _ _ c.ne.ensures c.if-ne.false (place_decides c.args.self.now.0 c.args.other.now.0) in
    let both = c.in-RecursionLimitError-RecursionLimitError in
    ((λ h. both_bounds c.args.self.now c.args.other.now place both.is-0 both.is-1), λ r. refl)

-- none of the two is told of a document

pub returns-in-Syntax-Syntax : goal.returns-in-Syntax-Syntax
returns-in-Syntax-Syntax c =
    let place = not_different _ _ c.ne.ensures c.if-ne.false (place_decides c.args.self.now.0 c.args.other.now.0) in
    search (rules, place)

pub returns-in-Syntax-Syntax-2 : goal.returns-in-Syntax-Syntax-2
returns-in-Syntax-Syntax-2 c =
    let place = not_different _ _ c.ne.ensures c.if-ne.false (place_decides c.args.self.now.0 c.args.other.now.0) in
    search (rules, place)

pub returns-in-Syntax-Syntax-3 : goal.returns-in-Syntax-Syntax-3
returns-in-Syntax-Syntax-3 c =
    let place = not_different _ _ c.ne.ensures c.if-ne.false (place_decides c.args.self.now.0 c.args.other.now.0) in
    search (rules, place)

pub returns-in-Syntax-Syntax-4 : goal.returns-in-Syntax-Syntax-4
returns-in-Syntax-Syntax-4 c =
    let place = not_different _ _ c.ne.ensures c.if-ne.false (place_decides c.args.self.now.0 c.args.other.now.0) in
    search (rules, place)
