use Rattle.std.proofs.Common.{◌≡◌, ◌∷◌, [], ◌≤◌, ◌++◌, ◌-◌, List}
use Rattle.graphql_names.specs.Placed.{Place}
use Rattle.rule_field_groups.specs.in_document_definitions.DocumentFaults.{Broken}
use Rattle.rule_field_groups.specs.in_spec_document.MeantTree.{MeantOperation}
use Rattle.rule_field_groups.specs.in_sets.in_reach.Broken.{brokens_of}
use Rattle.rule_merging.specs.Counted.{AreListed}
use Rattle.rule_field_groups.specs.MergeState.{kept_of}
use Rattle.rule_field_groups.specs.in_sets.Read.{set_at}
use Rattle.rule_field_groups.specs.Under.{sets_in}
use Rattle.rule_merging.specs.Examined.{schema_of, document_of, sets_of, GrowsOver}
use Rattle.rule_merging.proofs.Examining.{SoFar}
use Rattle.rule_merging.proofs.examination.Examination.examine_all.Given as goal

abbrev pub invariant-loop-length : goal.invariant-loop-length
invariant-loop-length l = record {
  examined : (o : MeantOperation Place) → o.set ≡ set_at (sets_of l.self) l.fn.start → (added : List (Broken Place)) × ((brokens_of l.breaches ≡ brokens_of l.fn.breaches ++ added)
      × SoFar l.self.pass (schema_of l.self) (document_of l.self) o (kept_of (sets_of l.self) l.fn.examined) (kept_of (sets_of l.self) l.examined) l.length added (sets_in (sets_of l.self) l.level));
  listed : (os : List (MeantOperation Place)) → AreListed (document_of l.self) os ((set_at (sets_of l.self) l.fn.start ∷ []) ∷ []) → AreListed (document_of l.self) os (sets_in (sets_of l.self) l.level);
  counted : GrowsOver l.self ((set_at (sets_of l.self) l.fn.start ∷ []) ∷ []) l.fn.examined l.examined;
  short : l.length ≤ 128;
}

abbrev pub decreases-loop-length : goal.decreases-loop-length
decreases-loop-length l = 128 - l.length
