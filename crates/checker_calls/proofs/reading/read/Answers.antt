use Rattle.std.proofs.Common.{subst}
use Rattle.std.specs.Rc.{rc_str_bytes}
use Rattle.verdict_definitions.specs.in_read.ReadFaults.{fault_view, LiesIn}
use Rattle.verdict_definitions.specs.in_read.declared.fault.ReadFault.{ReadFault}
use Rattle.checker_calls.proofs.Deciding.{unread_due}
use Rattle.checker_calls.proofs.reading.read.Goals as goal

pub told_of-requires : goal.told_of-requires
told_of-requires c = λ offset e. subst (λ (f : ReadFault). LiesIn (rc_str_bytes c.args.text.now) (fault_view f)) e c.in-Err.ensures.within

pub returns-in-Err-clause-unread : goal.returns-in-Err-clause-unread
returns-in-Err-clause-unread c = unread_due c.args.nesting c.args.file.0 (rc_str_bytes c.args.text.now) (fault_view c.in-Err.fault) c.told_of.result c.in-Err.ensures.fault c.told_of.ensures
