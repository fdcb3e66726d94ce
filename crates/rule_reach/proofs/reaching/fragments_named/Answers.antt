use Rattle.std.proofs.Common.{◌∙◌, ◌<◌, ◌∷◌, [], map, take, length, ap, sym, append-nil, arith}
use Rattle.std.specs.Prelude.{None, Some, option_map}
use Rattle.std.proofs.lemmas.List.{map-append}
use Rattle.rule_reach.specs.Reach.{fragment_of, meant_fragments}
use Rattle.rule_reach.specs.Gathered.{lent_fragments, fragments_under}
use Rattle.rule_reach.proofs.Found.{found_under, meant_node, named_more, texts_more}
use Rattle.rule_reach.proofs.reaching.fragments_named.Goals.{in-Some+in_ok-push, in_default}
use Rattle.rule_reach.proofs.reaching.fragments_named.Goals as goal

pub loop-name-preserved : goal.loop-name-preserved
loop-name-preserved c =
    let fragments = c.args.fragments.now in
    let names = c.as_slice-name-items.result.now in
    let i = c.loop-name.name-index in
    let name = c.name-item.result in
    let within : i < length names = omega arith in
    let found = lent_fragments c.loop-name.named in
    let before = map (λ k. k.now.text) (take i names) in
    let more = ap (fragments_under (meant_fragments fragments)) (sym (texts_more names i name within c.name-item.is)) in
    elim c.match-get.branch [
      | in-Some+in_ok-push w ↦ ap lent_fragments w.named-is
          ∙ ap (map fragment_of) w.in_ok-push.ensures.items
          ∙ map-append fragment_of c.loop-name.named.items (w.in-Some.fragment ∷ [])
          ∙ named_more fragments found before name.now.text (Some (fragment_of w.in-Some.fragment)) c.loop-name.invariant (ap (option_map meant_node) w.in-Some.ensures.value ∙ found_under fragments name.now)
          ∙ more
      | in_default w ↦ ap lent_fragments w.named-is
          ∙ sym (append-nil found)
          ∙ named_more fragments found before name.now.text None c.loop-name.invariant (ap (option_map meant_node) w.in_default.ensures.value ∙ found_under fragments name.now)
          ∙ more
    ]
