use Rattle.std.proofs.Common.{List, map, ap}
use Rattle.std.proofs.lemmas.Iterator.Consumers.{YieldsList-end, YieldsList-from_rest}
use Rattle.graphql_names.specs.NameValue.{NameValue}
use Rattle.schema_types.specs.TypeView.{name_text, extended_type}
use Rattle.schema_types.specs.declared.extended_type.ExtendedType.{ExtendedType}
use Rattle.strict_documents.specs.Implemented.{is_implemented_among}
use Rattle.strict_documents.proofs.Interfaces.{adds_none, adds_same, type_more}
use Rattle.strict_documents.proofs.objects.note_types.Goals as goal

pub loop-ty-init : goal.loop-ty-init
loop-ty-init c = adds_none c.args.implemented.now

pub loop-ty-preserved : goal.loop-ty-preserved
loop-ty-preserved c =
    type_more c.args.implemented.now c.loop-ty.implemented c.note_type.new.implemented c.loop-ty.yielded (c.in-Some.field-0-0, c.in-Some.ty) c.loop-ty.invariant c.in_ok-note_type.ensures

pub returns : goal.returns
returns c =
    let all = YieldsList-end (YieldsList-from_rest c.args.types.now.entries c.into_iter-ty-iterator.ensures.into_iter_gives.0) c.loop-ty.yielded c.loop-ty.ty-iterator c.loop-ty.yielded_by c.next.result c.next.new.self c.in-None.is c.next.ensures.steps in
    adds_same c.args.implemented.now c.loop-ty.implemented _ _
    (λ n. ap (λ (l : List (NameValue × ExtendedType)). is_implemented_among (map (λ (e : NameValue × ExtendedType). (name_text e.0, extended_type e.1)) l) n) all.0) c.loop-ty.invariant
