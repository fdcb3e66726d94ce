use Rattle.std.proofs.Common.{sym, ap, ◌∙◌}
use Rattle.graphql_names.specs.Node.{place}
use Rattle.schema_types.specs.TypeView.{scalar_type, object_type, interface_type, union_type, enum_type, input_object_type}
use Rattle.schema_fold.specs.Kept.{kept}
use Rattle.schema_fold.specs.Made.{made_at}
use Rattle.schema_fold.proofs.make.make_type.Goals as goal

pub returns-in_ok-node_at-in-Scalar : goal.returns-in_ok-node_at-in-Scalar
returns-in_ok-node_at-in-Scalar c =
    let node = c.in_ok-node_at-in-Scalar in
    ap (scalar_type (place node.field-0)) node.ensures.content
    ∙ c.scalar_of.ensures (place node.field-0)
    ∙ (λ i. made_at (sym c.in-Scalar.is i) (node.ensures.place i) (c.in_ok-head.ensures.description i) (c.in_ok-head.ensures.name i) (kept c.args.components.now))

pub returns-in_ok-node_at-in-Object : goal.returns-in_ok-node_at-in-Object
returns-in_ok-node_at-in-Object c =
    let node = c.in_ok-node_at-in-Object in
    ap (object_type (place node.field-0)) node.ensures.content
    ∙ c.object_of.ensures (place node.field-0)
    ∙ (λ i. made_at (sym c.in-Object.is i) (node.ensures.place i) (c.in_ok-head.ensures.description i) (c.in_ok-head.ensures.name i) (kept c.args.components.now))

pub returns-in_ok-node_at-in-Interface : goal.returns-in_ok-node_at-in-Interface
returns-in_ok-node_at-in-Interface c =
    let node = c.in_ok-node_at-in-Interface in
    ap (interface_type (place node.field-0)) node.ensures.content
    ∙ c.interface_of.ensures (place node.field-0)
    ∙ (λ i. made_at (sym c.in-Interface.is i) (node.ensures.place i) (c.in_ok-head.ensures.description i) (c.in_ok-head.ensures.name i) (kept c.args.components.now))

pub returns-in_ok-node_at-in-Union : goal.returns-in_ok-node_at-in-Union
returns-in_ok-node_at-in-Union c =
    let node = c.in_ok-node_at-in-Union in
    ap (union_type (place node.field-0)) node.ensures.content
    ∙ c.union_of.ensures (place node.field-0)
    ∙ (λ i. made_at (sym c.in-Union.is i) (node.ensures.place i) (c.in_ok-head.ensures.description i) (c.in_ok-head.ensures.name i) (kept c.args.components.now))

pub returns-in_ok-node_at-in-Enum : goal.returns-in_ok-node_at-in-Enum
returns-in_ok-node_at-in-Enum c =
    let node = c.in_ok-node_at-in-Enum in
    ap (enum_type (place node.field-0)) node.ensures.content
    ∙ c.enum_of.ensures (place node.field-0)
    ∙ (λ i. made_at (sym c.in-Enum.is i) (node.ensures.place i) (c.in_ok-head.ensures.description i) (c.in_ok-head.ensures.name i) (kept c.args.components.now))

pub returns-in_ok-node_at-in-InputObject : goal.returns-in_ok-node_at-in-InputObject
returns-in_ok-node_at-in-InputObject c =
    let node = c.in_ok-node_at-in-InputObject in
    ap (input_object_type (place node.field-0)) node.ensures.content
    ∙ c.input_object_of.ensures (place node.field-0)
    ∙ (λ i. made_at (sym c.in-InputObject.is i) (node.ensures.place i) (c.in_ok-head.ensures.description i) (c.in_ok-head.ensures.name i) (kept c.args.components.now))
