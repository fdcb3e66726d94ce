use Rattle.std.proofs.Common.{refl, fold, [], ap}
use Rattle.document_typed_operations.specs.declared.operation.Fragment.{Fragment}
use Rattle.document_typed_operations.specs.WalkView.{walk_state, members_on, waiting_in}
use Rattle.document_typed_operations.proofs.Standings.{fragment_entered, no_fragment}
use Rattle.document_typed_operations.proofs.walk.Walk.enter_fragment.Goals as goal

pub returns-in-Some-get_index : goal.returns-in-Some-get_index
returns-in-Some-get_index c = fragment_entered (walk_state c.args.self.now) c.args.self.now.fragments.now.entries (members_on c.args.self.now.ty.now c.args.self.now.front.now) (fold waiting_in [] c.args.self.now.outer.items) c.in-Some.place.now c.len.result
    refl refl c.requires c.if-self-len.false c.len.ensures.len c.in-Some.ensures.key
    c.in-Some-get_index.field-0-0.now c.in-Some-get_index.fragment.now c.content.result.now.selection_set c.as_slice-self.result.now c.in-Some-get_index.ensures.entry
    (ap (λ (f : Fragment). f.selection_set) c.content.ensures) c.as_slice-self.ensures.value

pub returns-in_default-get_index : goal.returns-in_default-get_index
returns-in_default-get_index c = no_fragment (walk_state c.args.self.now) c.args.self.now.fragments.now.entries (members_on c.args.self.now.ty.now c.args.self.now.front.now) (fold waiting_in [] c.args.self.now.outer.items) c.in-Some.place.now c.len.result
    refl refl c.requires c.if-self-len.false c.len.ensures.len c.in-Some.ensures.key c.in_default-get_index.ensures.entry
