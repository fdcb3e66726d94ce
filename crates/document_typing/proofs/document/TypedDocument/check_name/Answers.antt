use Rattle.std.proofs.Common.{rules, ◌∙◌}
use Rattle.document_typing.specs.DocumentView.{operation_meant}
use Rattle.document_typing.proofs.KnownNames.{known-under}
use Rattle.document_typing.proofs.document.TypedDocument.check_name.Goals as goal

pub returns-in_ok-operation_name_collision-in-Some-clause-known : goal.returns-in_ok-operation_name_collision-in-Some-clause-known
returns-in_ok-operation_name_collision-in-Some-clause-known c =
    let known = c.contains_key-is_known.ensures ∙ known-under operation_meant c.in-Some.name c.args.self.now.operations.named.entries in
    search (rules, known)

pub returns-in_ok-operation_name_collision-in-Some-clause-faults : goal.returns-in_ok-operation_name_collision-in-Some-clause-faults
returns-in_ok-operation_name_collision-in-Some-clause-faults c =
    let known = c.contains_key-is_known.ensures ∙ known-under operation_meant c.in-Some.name c.args.self.now.operations.named.entries in
    search (rules, known)
