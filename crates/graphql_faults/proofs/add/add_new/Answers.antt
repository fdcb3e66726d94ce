use Rattle.std.proofs.Common.{◌≡◌, ◌++◌, ◌∷◌, ◌∙◌, [], length, map, sym, ap, append_assoc, arith}
use Rattle.std.specs.Vec.Iter.{into_iter_items}
use Rattle.graphql_faults.proofs.Adding.{adds_first, adds_more, tells_more, tells_all}
use Rattle.graphql_faults.proofs.add.add_new.Goals as goal

pub returns-then-len-ge-MOST_TOLD-clause-added : goal.returns-then-len-ge-MOST_TOLD-clause-added
returns-then-len-ge-MOST_TOLD-clause-added g c =
    let at = c.loop-one in
    let f = g.T.Told.plain in
    adds_first f (map f c.args.told.now.items) (map f at.told.items) c.args.more.items at.yielded (into_iter_items at.one-iterator) at.invariant.0 at.invariant.3

pub returns-in_err-next-clause-added : goal.returns-in_err-next-clause-added
returns-in_err-next-clause-added g c =
    let at = c.loop-one in
    let f = g.T.Told.plain in
    let steps : into_iter_items at.one-iterator ≡ c.in-Some.one ∷ into_iter_items c.next.new.self = c.in-Some.ensures.steps.0 in
    adds_first f (map f c.args.told.now.items) (map f c.add_one.new.told.items) c.args.more.items (at.yielded ++ c.in-Some.one ∷ []) (into_iter_items c.next.new.self)
    (adds_more f (map f c.args.told.now.items) (map f at.told.items) (map f c.add_one.new.told.items) at.yielded c.in-Some.one at.invariant.0 c.add_one.ensures.added)
    (at.invariant.3 ∙ ap (λ r. at.yielded ++ r) steps ∙ sym (append_assoc at.yielded (c.in-Some.one ∷ []) (into_iter_items c.next.new.self)))

pub loop-one-preserved : goal.loop-one-preserved
loop-one-preserved g c =
    let at = c.loop-one in
    let f = g.T.Told.plain in
    let steps : into_iter_items at.one-iterator ≡ c.in-Some.one ∷ into_iter_items c.next.new.self = c.in-Some.ensures.steps.0 in (
      adds_more f (map f c.args.told.now.items) (map f at.told.items) (map f c.add_one.new.told.items) at.yielded c.in-Some.one at.invariant.0 c.add_one.ensures.added,
      tells_more f (map f at.told.items) (map f c.add_one.new.told.items) at.yielded c.in-Some.one c.add_one.ensures.added.begins at.invariant.1 c.in_ok-next.ensures.there,
      c.in_ok-next.ensures.right,
      at.invariant.3 ∙ ap (λ r. at.yielded ++ r) steps ∙ sym (append_assoc at.yielded (c.in-Some.one ∷ []) (into_iter_items c.next.new.self)),
      let was = at.invariant.4 in
          let gone = c.in-Some.ensures.steps.1 in
          let short = ap length steps in
          omega arith,
    )

pub returns-clause-added : goal.returns-clause-added
returns-clause-added g c =
    let at = c.loop-one in
    let f = g.T.Told.plain in
    adds_first f (map f c.args.told.now.items) (map f at.told.items) c.args.more.items at.yielded (into_iter_items at.one-iterator) at.invariant.0 at.invariant.3

pub returns-clause-all : goal.returns-clause-all
returns-clause-all g c =
    let at = c.loop-one in
    let f = g.T.Told.plain in
    tells_all f c.args.more.items at.yielded (into_iter_items at.one-iterator) (map f at.told.items) at.invariant.3 (sym at.invariant.4 ∙ c.in-None.ensures.steps.0) at.invariant.1
