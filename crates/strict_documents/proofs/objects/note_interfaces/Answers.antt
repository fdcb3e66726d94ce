use Rattle.std.proofs.Common.{◌<◌, map, length, ap, arith}
use Rattle.std.proofs.lemmas.List.{take_all}
use Rattle.schema_components.specs.Given.{component_name_tree, given_name}
use Rattle.schema_components.specs.Lists.{is_among}
use Rattle.strict_documents.proofs.Interfaces.{adds_none, adds_same, interface_more}
use Rattle.strict_documents.proofs.objects.note_interfaces.Goals as goal

pub loop-interface-init : goal.loop-interface-init
loop-interface-init c = adds_none c.args.implemented.now

pub loop-interface-preserved : goal.loop-interface-preserved
loop-interface-preserved c =
    let xs = c.args.interfaces.now in
    let i = c.loop-interface.interface-index in
    let h : i < length xs = omega arith in
    interface_more c.args.implemented.now c.loop-interface.implemented c.note_name.new.names xs i c.interface-item.result h c.interface-item.is c.in_ok-note_name.ensures c.loop-interface.invariant

pub returns : goal.returns
returns c =
    let xs = c.args.interfaces.now in
    adds_same c.args.implemented.now c.loop-interface.implemented _ _
    (λ n. ap (λ l. is_among n (map given_name (map component_name_tree l))) (take_all c.loop-interface.interface-index xs c.loop-interface-test.false)) c.loop-interface.invariant
