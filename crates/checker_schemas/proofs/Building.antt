-- What a builder finds, as a list of faults.
use Rattle.std.proofs.Common.{inl, inr, ◌≡◌, ◌≢◌, List, [], ◌∷◌, map, Contains, refl, sym, ap, ◌∙◌, subst}
use Rattle.std.specs.Prelude.{◌↔◌}
use Rattle.graphql_names.specs.Placed.{Place}
use Rattle.schema_types.specs.SchemaTree.{SchemaTree}
use Rattle.schema_types.specs.Out.{written}
use Rattle.schema_built_in.specs.Table.{built_in_definitions}
use Rattle.schema_fold.specs.BuildErrors as folding
use Rattle.schema_fold.specs.BuildErrors.{FoldingRules}
use Rattle.schema_building.specs.BuilderValue.{BuilderValue}
use Rattle.schema_building.specs.Building.{counted, folded, FailsIn}
use Rattle.rule_definitions.specs.Judged.{judged}
use Rattle.rule_definitions.specs.Kept.{validated}
use Rattle.rule_definitions.specs.Rules.{SchemaRules}
use Rattle.graphql_rules.specs.in_faults.DetailsTree.{of_folding}
use Rattle.graphql_rules.specs.in_faults.DetailsView.{diagnostics_of}
use Rattle.checker_calls.specs.in_verdict_definitions.Texts.{Tree}
use Rattle.checker_calls.specs.in_verdict_definitions.Says.{AnyFault}
use Rattle.checker_schemas.specs.Finishing.{BuildsSchema, RefusesFolding, RefusalOfFolding, RefusesSchemaRules, RefusalOfSchemaRules, IsJudgedSchema, RefusalOfBuilder}
use Rattle.checker_calls.specs.declared.refusal.Refusal.{Refusal}
use Rattle.checker_calls.specs.declared.refusal.Refusal.TheVariants.{Faults, Memory, Failed}
use Rattle.rule_document_definitions.proofs.Unplaced.{contains_map, contains_unmap}

-- a list without elements is made of one without
map_nil : {X Y : Type 0} (f : X → Y) (xs : List X) → map f xs ≡ [] → xs ≡ []
map_nil f [] e = refl
map_nil f (x ∷ xs) e = absurd cc

-- these are the faults of the list
pub builds : (b : BuilderValue) (schema : SchemaTree Place) (errors : List folding.BuildFault) (faults : List AnyFault) → schema ≡ folded b → ((f : folding.BuildFault) → Contains errors f ↔ FailsIn b f)
    → (errors ≡ []) ↔ FoldingRules built_in_definitions b.first (counted b) → faults ≡ map of_folding errors → BuildsSchema b schema faults
builds b schema errors faults is all faultless told = record {
  is = is;
  right = λ fault h. let p = contains_unmap of_folding errors fault (subst (λ l. Contains l fault) told h) in (p.0, (sym p.1.1, (all p.0).0 p.1.0));
  full = λ f fails. subst (λ l. Contains l (of_folding f)) (sym told) (contains_map of_folding errors f ((all f).1 fails));
  faultless = (λ none. faultless.0 (map_nil of_folding errors (sym told ∙ none)), λ holds. told ∙ ap (map of_folding) (faultless.1 holds));
}

-- there are some
pub folding_refused : (b : BuilderValue) (schema : SchemaTree Place) (faults : List AnyFault) → BuildsSchema b schema faults → faults ≢ [] → RefusesFolding b faults
folding_refused b schema faults built some = record { some = some; right = built.right; full = built.full }

-- there is none
pub silent_build : (b : BuilderValue) (schema : SchemaTree Place) (faults : List AnyFault) → BuildsSchema b schema faults → faults ≡ [] → BuildsSchema b schema []
silent_build b schema faults built none = subst (BuildsSchema b schema) none built

-- ---- building and judging

module _ (b : BuilderValue) where
  pub build_refusal : (refusal : Refusal) → RefusalOfFolding b refusal → RefusalOfBuilder b refusal
  build_refusal (Faults list) h = inl h
  build_refusal Memory h = tt
  build_refusal Failed h = h

  module _ (schema : SchemaTree Place) (built : BuildsSchema b schema []) where
    folds : FoldingRules built_in_definitions b.first (counted b)
    folds = built.faultless.0 refl

    pub rules_refusal : (refusal : Refusal) → RefusalOfSchemaRules schema refusal → RefusalOfBuilder b refusal
    rules_refusal (Faults list) h = inr (folds, subst (λ s. RefusesSchemaRules s (diagnostics_of list)) built.is h)
    rules_refusal Memory h = tt
    rules_refusal Failed h = h

    pub judged_schema : (kept : SchemaTree Place) (out : Tree) → out ≡ written schema → SchemaRules (judged schema) → kept ≡ validated schema → IsJudgedSchema b kept out
    judged_schema kept out is holds kept_is = record {
      folds = folds;
      holds = subst (λ s. SchemaRules (judged s)) built.is holds;
      for_documents = kept_is ∙ ap validated built.is;
      written = is ∙ ap written built.is;
    }
