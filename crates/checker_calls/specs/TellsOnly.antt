-- Private: leads to `RefusalOfSchemas` and `RefusalOfDocument`. A refusal that tells one fault.
use Rattle.std.specs.Prelude.{◌≡◌, [], ◌∷◌}
use Rattle.verdict_definitions.specs.in_faults.DetailsView.{diagnostics_of}
use Rattle.verdict_definitions.specs.Says.{AnyFault}
use Rattle.checker_calls.specs.declared.refusal.Refusal.{Refusal}
use Rattle.checker_calls.specs.declared.refusal.Refusal.TheVariants.{Faults, Memory, Failed}

-- this fault is the only one that is told, or memory ran out
abbrev pub TellsOnly : AnyFault → Refusal → Type 0
TellsOnly fault (Faults list) = diagnostics_of list ≡ fault ∷ []
TellsOnly fault Memory = Unit {0}
TellsOnly fault Failed = ⊥
