use Rattle.std.proofs.Common.{ap, ◌∙◌}
use Rattle.std.proofs.lemmas.Result.{IfOk-weaker}
use Rattle.indexmap.specs.IndexMap.{values}
use Rattle.schema_writing.proofs.KindTaken.{directives_taken, scalar_taken, object_taken, interface_taken, union_taken, enum_taken, input_object_taken}
use Rattle.schema_writing.proofs.parts.Parts.take_all.Goals as goal

pub returns-in-Scalar : goal.returns-in-Scalar
returns-in-Scalar c =
    let t = c.args.t.now in
    let r = c.requires in
    let p = record c.args.self.now { directives = record { 0 = c.copy_nodes.new.out } } in
    let directives = directives_taken t p c.deref.result.now c.directives.result.now c.in_ok-copy_nodes.ensures c.deref.ensures.value c.directives.ensures in
    scalar_taken t p directives c.in-Scalar.field-0 c.in-Scalar.is r.interfaces r.fields r.members r.values r.inputs

pub returns-in_ok-copy_names-in-Object : goal.returns-in_ok-copy_names-in-Object
returns-in_ok-copy_names-in-Object c =
    let t = c.args.t.now in
    let r = c.requires in
    let p = record c.args.self.now { directives = record { 0 = c.copy_nodes.new.out }; interfaces = c.copy_names.new.out; fields = c.copy_nodes-in-Object.new.out } in
    let directives = directives_taken t p c.deref.result.now c.directives.result.now c.in_ok-copy_nodes.ensures c.deref.ensures.value c.directives.ensures in
    let names_are = c.as_slice.ensures.keys ∙ ap (λ o. o.implements_interfaces.keys) c.content-t.ensures in
    let are = c.as_slice-in-Object.ensures ∙ c.values.ensures.rest ∙ ap (λ o. values o.fields) c.content-t.ensures in
    IfOk-weaker _ _ _ (λ _ h. object_taken t p directives c.in-Object.node c.as_slice.result.now c.as_slice-in-Object.result.now c.in-Object.is names_are are c.in_ok-copy_names-in-Object.ensures h r.members r.values r.inputs) c.copy_nodes-in-Object.ensures

pub returns-in_ok-copy_names-in-Interface : goal.returns-in_ok-copy_names-in-Interface
returns-in_ok-copy_names-in-Interface c =
    let t = c.args.t.now in
    let r = c.requires in
    let p = record c.args.self.now { directives = record { 0 = c.copy_nodes.new.out }; interfaces = c.copy_names-in-Interface.new.out; fields = c.copy_nodes-in-Interface.new.out } in
    let directives = directives_taken t p c.deref.result.now c.directives.result.now c.in_ok-copy_nodes.ensures c.deref.ensures.value c.directives.ensures in
    let names_are = c.as_slice-in-Interface.ensures.keys ∙ ap (λ o. o.implements_interfaces.keys) c.content-t-in-Interface.ensures in
    let are = c.as_slice-in-Interface-2.ensures ∙ c.values-in-Interface.ensures.rest ∙ ap (λ o. values o.fields) c.content-t-in-Interface.ensures in
    IfOk-weaker _ _ _ (λ _ h. interface_taken t p directives c.in-Interface.node c.as_slice-in-Interface.result.now c.as_slice-in-Interface-2.result.now c.in-Interface.is names_are are c.in_ok-copy_names-in-Interface.ensures h r.members r.values r.inputs)
    c.copy_nodes-in-Interface.ensures

pub returns-in-Union : goal.returns-in-Union
returns-in-Union c =
    let t = c.args.t.now in
    let r = c.requires in
    let p = record c.args.self.now { directives = record { 0 = c.copy_nodes.new.out }; members = c.copy_names-in-Union.new.out } in
    let directives = directives_taken t p c.deref.result.now c.directives.result.now c.in_ok-copy_nodes.ensures c.deref.ensures.value c.directives.ensures in
    let are = c.as_slice-in-Union.ensures.keys ∙ ap (λ o. o.members.keys) c.content.ensures in
    IfOk-weaker _ _ _ (λ _ h. union_taken t p directives c.in-Union.node c.as_slice-in-Union.result.now c.in-Union.is are h r.interfaces r.fields r.values r.inputs) c.copy_names-in-Union.ensures

pub returns-in-Enum : goal.returns-in-Enum
returns-in-Enum c =
    let t = c.args.t.now in
    let r = c.requires in
    let p = record c.args.self.now { directives = record { 0 = c.copy_nodes.new.out }; values = c.copy_nodes-in-Enum.new.out } in
    let directives = directives_taken t p c.deref.result.now c.directives.result.now c.in_ok-copy_nodes.ensures c.deref.ensures.value c.directives.ensures in
    let are = c.as_slice-in-Enum.ensures ∙ c.values-in-Enum.ensures.rest ∙ ap (λ o. values o.values) c.content-in-Enum.ensures in
    IfOk-weaker _ _ _ (λ _ h. enum_taken t p directives c.in-Enum.node c.as_slice-in-Enum.result.now c.in-Enum.is are h r.interfaces r.fields r.members r.inputs) c.copy_nodes-in-Enum.ensures

pub returns-in-InputObject : goal.returns-in-InputObject
returns-in-InputObject c =
    let t = c.args.t.now in
    let r = c.requires in
    let p = record c.args.self.now { directives = record { 0 = c.copy_nodes.new.out }; inputs = c.copy_nodes-in-InputObject.new.out } in
    let directives = directives_taken t p c.deref.result.now c.directives.result.now c.in_ok-copy_nodes.ensures c.deref.ensures.value c.directives.ensures in
    let are = c.as_slice-in-InputObject.ensures ∙ c.values-in-InputObject.ensures.rest ∙ ap (λ o. values o.fields) c.content-in-InputObject.ensures in
    IfOk-weaker _ _ _ (λ _ h. input_object_taken t p directives c.in-InputObject.node c.as_slice-in-InputObject.result.now c.in-InputObject.is are h r.interfaces r.fields r.members r.values) c.copy_nodes-in-InputObject.ensures
