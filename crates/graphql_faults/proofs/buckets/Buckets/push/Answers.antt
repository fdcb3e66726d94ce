use Rattle.std.proofs.Common.{◌≡◌, ◌++◌, ◌∷◌, [], ◌∙◌, get_or, set, length, sym, ap, arith}
use Rattle.std.proofs.lemmas.List.{get_or_default}
use Rattle.std.specs.Vec.{with_item}
use Rattle.graphql_faults.proofs.InBuckets.{right_of_one_more}
use Rattle.graphql_faults.proofs.buckets.Buckets.push.Goals as goal

pub returns : goal.returns
returns c = λ bs r.
    let x = c.args.self.now in
    let read : c.index.result.now ≡ get_or x.ends.items c.args.bucket 0 = c.index.ensures ∙ sym (get_or_default x.ends.items c.args.bucket 0 c.index.result.now c.requires) in
    let counted : c.len.result ≡ length c.push.new.self.items = omega (arith, c.len.ensures, c.push.new.self.ok.0) in
    right_of_one_more bs c.args.bucket x (record { ends = with_item x.ends c.args.bucket c.len.result; earlier = c.push.new.self }) (omega (arith, c.requires, r.sized))
    (c.in_ok-push.ensures.items ∙ ap (λ n. x.earlier.items ++ n ∷ []) read)
    (ap (set x.ends.items c.args.bucket) counted)
    r
