use Rattle.std.proofs.Common.{◌∙◌, ℕ, Option, Contains, sym, ap}
use Rattle.std.specs.Prelude.{slice_get, option_map}
use Rattle.std.specs.Borrow.{Bor}
use Rattle.rule_field_groups.specs.Members.{field_of, meant_sets}
use Rattle.rule_field_groups.proofs.Lists.{contains_from_get}
use Rattle.rule_field_groups.proofs.Sets.{member_bare, member_below, bare_noted, known_noted, last_noted}
use Rattle.rule_field_groups.proofs.below.note_node.Goals as goal

pub returns-in_default : goal.returns-in_default
returns-in_default c =
    let w = c.args.sets.now in
    bare_noted (field_of c.args.field) (meant_sets w c.args.nodes.now.items) (member_bare w c.requires.sets c.args.field c.requires.member c.in_default.is)

pub returns-then-branch-noted : goal.returns-then-branch-noted
returns-then-branch-noted c =
    let w = c.args.sets.now in
    let node = c.in-Some.node in
    let nodes = c.args.nodes.now.items in
    let first = c.in-Some-first.first.now in
    let there : Contains nodes first =
    contains_from_get nodes 0 first (ap (λ l. slice_get l 0) (sym c.deref.ensures.value) ∙ sym c.first.ensures.value ∙ ap (λ (o : Option (Bor ℕ)). option_map (λ (x : Bor ℕ). x.now) o) c.in-Some-first.is) in
    known_noted w nodes c.in_ok-noted.noted _ first node there c.in_ok-noted.ensures c.in_ok-number_of.ensures c.if-branch-noted.true
    (field_of c.args.field) (member_below w c.requires.sets c.args.field c.requires.member node c.in-Some.is)

pub returns : goal.returns
returns c =
    let w = c.args.sets.now in
    let node = c.in-Some.node in
    last_noted w c.args.nodes.now.items c.push.new.self.items node c.in_ok-push.ensures.items (field_of c.args.field) (member_below w c.requires.sets c.args.field c.requires.member node c.in-Some.is)
