use Rattle.std.proofs.Common.{ℕ, List, Option, map, ap, subst, ◌∙◌}
use Rattle.std.specs.Borrow.{Bor}
use Rattle.std.proofs.lemmas.Iterator.Consumers.{YieldsList-end, YieldsList-from_rest}
use Rattle.graphql_names.specs.NameValue.{NameValue}
use Rattle.graphql_names.specs.Placed.{Place}
use Rattle.schema_types.specs.declared.extended_type.ExtendedType.{ExtendedType}
use Rattle.schema_types.specs.SchemaTree.{SchemaType}
use Rattle.schema_types.specs.TypeView.{name_text, extended_type}
use Rattle.schema_inputs.specs.Inputs.{AreEach, IsKnownType}
use Rattle.schema_inputs.specs.declared.known.KnownType.{KnownType}
use Rattle.schema_inputs.proofs.KnownInputs.{each_yielded}
use Rattle.schema_inputs.proofs.known.known_types.Goals as goal

pub loop-ty-preserved : goal.loop-ty-preserved
loop-ty-preserved c =
    let g : NameValue × ExtendedType → List ℕ × SchemaType Place = λ e. (name_text e.0, extended_type e.1) in
    let d : (Bor NameValue × Bor ExtendedType) → NameValue × ExtendedType = λ e. (e.0.now, e.1.now) in
    let own = c.in_ok-known_type.ensures in
    let next = each_yielded (λ (e : List ℕ × SchemaType Place) kept. IsKnownType e.1 kept) g d c.loop-ty.yielded c.loop-ty.known.items c.push.new.self.items (c.in-Some.field-0-0, c.in-Some.ty) c.in_ok-known_type.field-0
    c.in_ok-push.ensures.items c.loop-ty.invariant.long c.loop-ty.invariant.each own in
    record { each = next.0; long = next.1 }

pub returns : goal.returns
returns c =
    let all = YieldsList-end (YieldsList-from_rest c.args.types.now.entries c.into_iter-ty-iterator.ensures.into_iter_gives.0) c.loop-ty.yielded c.loop-ty.ty-iterator c.loop-ty.yielded_by c.next.result c.next.new.self c.in-None.is c.next.ensures.steps in
    subst (λ (l : List (NameValue × ExtendedType)). AreEach (λ (e : List ℕ × SchemaType Place) kept. IsKnownType e.1 kept) (map (λ (e : NameValue × ExtendedType). (name_text e.0, extended_type e.1)) l) c.loop-ty.known.items) all.0 c.loop-ty.invariant.each
