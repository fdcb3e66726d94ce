use Rattle.std.proofs.Common.{ap, ◌∙◌}
use Rattle.std.proofs.lemmas.Result.{IfOk-weaker}
use Rattle.indexmap.specs.IndexMap.{values}
use Rattle.schema_writing.proofs.KindFiled.{directives_filed, scalar_filed, object_filed, interface_filed, union_filed, enum_filed, input_object_filed}
use Rattle.schema_writing.proofs.parts.FiledType.file.Goals as goal

pub returns-in-Scalar : goal.returns-in-Scalar
returns-in-Scalar c =
    let t = c.args.t.now in
    let r = c.requires in
    let f = record c.args.self.now { directives = c.file_components.new.filed } in
    let directives = directives_filed t f c.deref.result.now c.directives.result.now c.in_ok-file_components.ensures c.deref.ensures.value c.directives.ensures in
    scalar_filed t f directives c.in-Scalar.field-0 c.in-Scalar.is r.interfaces r.fields r.members r.values r.inputs

pub returns-in-Object : goal.returns-in-Object
returns-in-Object c =
    let t = c.args.t.now in
    let r = c.requires in
    let f = record c.args.self.now { directives = c.file_components.new.filed } in
    let directives = directives_filed t f c.deref.result.now c.directives.result.now c.in_ok-file_components.ensures c.deref.ensures.value c.directives.ensures in
    let o = c.content-t.result.now in
    IfOk-weaker _ _ _ (λ _ h. object_filed t f c.file_fields.new.self o.implements_interfaces.keys (values o.fields) directives h r.members r.values r.inputs c.in-Object.node c.in-Object.is
    (ap (λ o. o.implements_interfaces.keys) c.content-t.ensures) (ap (λ o. values o.fields) c.content-t.ensures)) c.file_fields.ensures

pub returns-in-Interface : goal.returns-in-Interface
returns-in-Interface c =
    let t = c.args.t.now in
    let r = c.requires in
    let f = record c.args.self.now { directives = c.file_components.new.filed } in
    let directives = directives_filed t f c.deref.result.now c.directives.result.now c.in_ok-file_components.ensures c.deref.ensures.value c.directives.ensures in
    let o = c.content-t-in-Interface.result.now in
    IfOk-weaker _ _ _ (λ _ h. interface_filed t f c.file_fields-in-Interface.new.self o.implements_interfaces.keys (values o.fields) directives h r.members r.values r.inputs c.in-Interface.node c.in-Interface.is
    (ap (λ o. o.implements_interfaces.keys) c.content-t-in-Interface.ensures) (ap (λ o. values o.fields) c.content-t-in-Interface.ensures)) c.file_fields-in-Interface.ensures

pub returns-in-Union : goal.returns-in-Union
returns-in-Union c =
    let t = c.args.t.now in
    let r = c.requires in
    let f = record c.args.self.now { directives = c.file_components.new.filed; members = c.file_names.new.filed } in
    let directives = directives_filed t f c.deref.result.now c.directives.result.now c.in_ok-file_components.ensures c.deref.ensures.value c.directives.ensures in
    IfOk-weaker _ _ _ (λ _ h. union_filed t f directives c.in-Union.node c.as_slice.result.now c.in-Union.is (c.as_slice.ensures.keys ∙ ap (λ o. o.members.keys) c.content.ensures) h r.interfaces r.fields r.values r.inputs) c.file_names.ensures

pub returns-in-Enum : goal.returns-in-Enum
returns-in-Enum c =
    let t = c.args.t.now in
    let r = c.requires in
    let f = record c.args.self.now { directives = c.file_components.new.filed; values = c.file_components-in-Enum.new.filed } in
    let directives = directives_filed t f c.deref.result.now c.directives.result.now c.in_ok-file_components.ensures c.deref.ensures.value c.directives.ensures in
    IfOk-weaker _ _ _ (λ _ h. enum_filed t f directives c.in-Enum.node c.as_slice-in-Enum.result.now c.in-Enum.is (c.as_slice-in-Enum.ensures ∙ c.values.ensures.rest ∙ ap (λ o. values o.values) c.content-in-Enum.ensures) h
    r.interfaces r.fields r.members r.inputs) c.file_components-in-Enum.ensures

pub returns-in-InputObject : goal.returns-in-InputObject
returns-in-InputObject c =
    let t = c.args.t.now in
    let r = c.requires in
    let f = record c.args.self.now { directives = c.file_components.new.filed; inputs = c.file_components-in-InputObject.new.filed } in
    let directives = directives_filed t f c.deref.result.now c.directives.result.now c.in_ok-file_components.ensures c.deref.ensures.value c.directives.ensures in
    IfOk-weaker _ _ _ (λ _ h. input_object_filed t f directives c.in-InputObject.node c.as_slice-in-InputObject.result.now c.in-InputObject.is (c.as_slice-in-InputObject.ensures ∙ c.values-in-InputObject.ensures.rest ∙ ap (λ o. values o.fields) c.content-in-InputObject.ensures) h
    r.interfaces r.fields r.members r.values) c.file_components-in-InputObject.ensures
