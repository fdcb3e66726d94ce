use Rattle.std.proofs.Common.{◌<◌, ◌∷◌, [], map, length, Contains, ap, sym, subst, arith}
use Rattle.std.proofs.lemmas.List.{length-map}
use Rattle.rule_cycle_search.proofs.Lists.{index_given}
use Rattle.rule_definitions.specs.Room.{most_told}
use Rattle.graphql_faults.proofs.Adding.{adds_nothing, adds_one, in_last, pushed_says}
use Rattle.graphql_faults.proofs.add.add_one.Goals as goal

pub returns-in-Some-clause-there : goal.returns-in-Some-clause-there
returns-in-Some-clause-there g c = index_given (map g.T.Told.plain c.args.told.now.items) c.in-Some.index (g.T.Told.plain c.args.one) c.in-Some.ensures.found

pub returns-in_err-push-in-None-2-clause-added : goal.returns-in_err-push-in-None-2-clause-added
returns-in_err-push-in-None-2-clause-added g c =
    let f = g.T.Told.plain in
    adds_nothing (map f c.args.told.now.items) (f c.args.one ∷ []) (map f c.push-in-None.new.self.items) (ap (map f) c.in_err-push-in-None-2.ensures.items)

pub returns-in_ok-push-in-None-2-clause-added : goal.returns-in_ok-push-in-None-2-clause-added
returns-in_ok-push-in-None-2-clause-added g c =
    let f = g.T.Told.plain in
    let items = c.args.told.now.items in
    let room : length (map f items) < most_told = omega (arith, length-map items f, c.args.told.now.ok.0, c.requires.room) in
    adds_one (map f items) (map f c.push-in-None.new.self.items) (f c.args.one) room c.in-None.ensures.not_found (pushed_says f items c.push-in-None.new.self.items c.args.one c.in_ok-push-in-None-2.ensures.items)

pub returns-in_ok-push-in-None-2-clause-there : goal.returns-in_ok-push-in-None-2-clause-there
returns-in_ok-push-in-None-2-clause-there g c =
    let f = g.T.Told.plain in
    let items = c.args.told.now.items in
    subst (λ l. Contains l (f c.args.one)) (sym (pushed_says f items c.push-in-None.new.self.items c.args.one c.in_ok-push-in-None-2.ensures.items)) (in_last (map f items) (f c.args.one))
