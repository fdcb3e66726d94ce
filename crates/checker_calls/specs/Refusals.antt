-- What the answer to a refusal of texts is.
use Rattle.std.specs.Prelude.{◌≡◌, ℕ, ◌++◌, List, flat_map, codes, Result, Ok, Err}
use Rattle.verdict_definitions.specs.in_faults.DetailsView.{diagnostics_of}
use Rattle.verdict_definitions.specs.Answer.{fault_line}
use Rattle.checker_calls.specs.Parts.{parts_bytes, AreSound}
use Rattle.checker_calls.specs.declared.parts.Parts.{Parts}
use Rattle.checker_calls.specs.declared.refusal.Refusal.{Refusal}
use Rattle.checker_calls.specs.declared.refusal.Refusal.TheVariants as refusal
use Rattle.checker_calls.specs.declared.run_fault.Outcome.{Outcome}
use Rattle.checker_calls.specs.declared.run_fault.Outcome.TheVariants.{Refused}
use Rattle.checker_calls.specs.declared.run_fault.RunFault.{RunFault}
use Rattle.checker_calls.specs.declared.run_fault.RunFault.TheVariants as run
use Rattle.checker_calls.specs.declared.verdict.Verdict.{Verdict}
use Rattle.checker_calls.specs.declared.verdict.Verdict.TheVariants as verdict
use Rattle.checker_calls.specs.declared.verdict.CheckError.{CheckError}
use Rattle.checker_calls.specs.declared.verdict.CheckError.TheVariants as error

-- the verdict that answers a refusal; a refusal of texts is never `Failed`
abbrev pub refusal_verdict : Refusal → Result Verdict CheckError
refusal_verdict (refusal.Faults list) = Ok (verdict.Refused list)
refusal_verdict refusal.Memory = Err error.Memory
refusal_verdict refusal.Failed = Err error.Memory

-- the outcome and bytes that answer a refusal of texts, or out of memory; such a refusal is never `Failed`
abbrev pub IsAnswerOfRefusal : Refusal → Result (Outcome × Parts) RunFault → Type 0
IsAnswerOfRefusal (refusal.Faults list) (Ok (outcome, parts)) = (outcome ≡ Refused) × AreSound parts × (parts_bytes parts ≡ codes "refused\n" ++ flat_map fault_line (diagnostics_of list))
IsAnswerOfRefusal (refusal.Faults list) (Err fault) = fault ≡ run.Memory
IsAnswerOfRefusal refusal.Memory answer = answer ≡ Err run.Memory
IsAnswerOfRefusal refusal.Failed answer = ⊥
