-- What schema texts come to.
use Rattle.std.proofs.Common.{inl, inr, ◌≡◌, ◌≢◌, ◌⊎◌, ℕ, List, [], ◌∷◌, Contains, refl, sym, ap, ◌∙◌, subst}
use Rattle.graphql_names.specs.Placed.{Place}
use Rattle.schema_types.specs.SchemaTree.{SchemaTree}
use Rattle.schema_built_in.specs.Table.{built_in_definitions}
use Rattle.schema_fold.specs.BuildErrors as folding
use Rattle.schema_fold.specs.BuildErrors.{FoldingRules}
use Rattle.schema_fold.specs.Fold.{fold}
use Rattle.schema_building.specs.BuilderValue.{BuilderValue}
use Rattle.schema_building.specs.Building.{plain_settings, counted, folded, FailsIn}
use Rattle.schema_building.specs.Numbers.{HaveNumbers}
use Rattle.schema_types.specs.Out.{written}
use Rattle.rule_definitions.specs.Judged as rules
use Rattle.rule_definitions.specs.Kept.{validated}
use Rattle.rule_definitions.specs.Rules.{SchemaRules, RulesFail, BoundFails}
use Rattle.rule_definitions.specs.PlacedFaults.{PlacedFault, Told}
use Rattle.graphql_rules.specs.SchemaTold.{BreaksBesideCycles}
use Rattle.graphql_rules.specs.in_faults.DetailsTree.{of_rule, of_folding}
use Rattle.checker_calls.specs.in_verdict_definitions.Texts.{SourceText, Tree, Terms, ReadsAll, document_number, AreWithin, AreRead}
use Rattle.checker_calls.specs.in_verdict_definitions.Meaning.{all_definitions, schema_of}
use Rattle.checker_calls.specs.in_verdict_definitions.Says.{AnyFault, spent, FoldingFails, SchemaFails, SchemaRuleFailsBesideCycles}
use Rattle.checker_calls.specs.in_verdict_definitions.Answer.{IsToldUnlessFull, UnreadFaults, RefusesSchemas}
use Rattle.schema_building.specs.SourcesView.{with_sources}
use Rattle.checker_calls.specs.TextSources.{Sources, text_sources}
use Rattle.checker_calls.specs.Added.{IsNextNumber, AreAdded}
use Rattle.checker_schemas.specs.CheckedSchemaValue.{IsCheckedSchemaOf}
use Rattle.checker_schemas.specs.Finishing.{IsFilled, RefusesFolding, RefusesSchemaRules, IsJudgedSchema, RefusesBuilder, RefusalOfNumbers, RefusalOfBuilder}
use Rattle.checker_schemas.specs.Refusals.{RefusalOfSchemas}
use Rattle.checker_calls.specs.declared.refusal.Refusal.{Refusal}
use Rattle.checker_calls.specs.declared.refusal.Refusal.TheVariants.{Faults, Memory, Failed}
use Rattle.graphql_rules.specs.in_faults.DetailsView.{diagnostics_of}
use Rattle.schema_components.proofs.Places.{not_in_nil, Contains-cons}
use Rattle.checker_schemas.proofs.Sourcing.{all_sources_stay}
use Rattle.checker_calls.proofs.Deciding.{none_told, one_list, are_read, are_within, no_unread, read_unread, says_unread}

-- ---- a builder that has the definitions of the texts

counted_of : (b : BuilderValue) (ds : Tree) → b.settings ≡ plain_settings → b.texts ≡ ds → counted b ≡ ds
counted_of b ds plain are = ap (λ s. counted (record b { settings = s })) plain ∙ are

module _ (terms : Terms) (trees : List Tree) (origins : Sources) (b : BuilderValue) (filled : IsFilled terms.first_extension trees origins b) where
  counts : counted b ≡ all_definitions trees
  counts = counted_of b (all_definitions trees) filled.plain filled.are

  pub folds_to : folded b ≡ schema_of terms trees
  folds_to = ap (λ n. fold built_in_definitions n (counted b)) filled.first ∙ ap (fold built_in_definitions terms.first_extension) counts

  fails_so : (f : folding.BuildFault) → FailsIn b f → FoldingFails terms trees f
  fails_so f h = subst (λ ds. folding.Fails built_in_definitions terms.first_extension ds f) counts (subst (λ n. folding.Fails built_in_definitions n (counted b) f) filled.first h)

  fails_here : (f : folding.BuildFault) → FoldingFails terms trees f → FailsIn b f
  fails_here f h = subst (λ n. folding.Fails built_in_definitions n (counted b) f) (sym filled.first) (subst (λ ds. folding.Fails built_in_definitions terms.first_extension ds f) (sym counts) h)

-- ---- refusals

-- some text is not read
pub unread_refused : (terms : Terms) (texts : List SourceText) (faults : List AnyFault) → faults ≢ [] → UnreadFaults terms.nesting terms.first_text texts faults → RefusesSchemas terms texts faults
unread_refused terms texts faults some unread = record {
  some = some;
  says = λ fault h. inl (says_unread terms.nesting terms.first_text texts faults unread fault h);
  alone = inl unread;
  full = λ within trees reads. absurd (never within trees reads);
  rules = λ within trees reads numbers folds f fails. absurd (never within trees reads);
  spent = λ within trees reads none. absurd (never within trees reads);
}
  where
    never : AreWithin terms.nesting terms.first_text texts → (trees : List Tree) → ReadsAll terms.first_text texts trees → ⊥
    never within trees reads = some (no_unread terms.nesting terms.first_text texts faults (are_read terms.nesting terms.first_text texts trees reads within) unread)

none_alone : spent ∷ [] ≢ []
none_alone e = absurd cc

-- what is told of the schema of the trees: each broken folding rule, or that the numbers are used up; each broken rule on schemas, apart
-- from those on cycles, unless one call tells no more; and if the numbers are used up, that alone
module _ (terms : Terms) (faults : List AnyFault) (trees : List Tree) where
  abbrev FoldingTold : Type 0
  FoldingTold = (faults ≡ spent ∷ []) ⊎ ((f : folding.BuildFault) → FoldingFails terms trees f → Contains faults (of_folding f))

  abbrev RulesTold : Type 0
  RulesTold = HaveNumbers terms.first_extension (all_definitions trees) → ((f : folding.BuildFault) → FoldingFails terms trees f → ⊥)
      → (f : PlacedFault) → SchemaRuleFailsBesideCycles terms trees f → IsToldUnlessFull faults (of_rule f)

  abbrev SpentTold : Type 0
  SpentTold = (HaveNumbers terms.first_extension (all_definitions trees) → ⊥) → faults ≡ spent ∷ []

module _ (terms : Terms) (texts : List SourceText) (trees : List Tree) (read : AreRead terms.nesting terms.first_text texts) (reads : ReadsAll terms.first_text texts trees) where
  -- what is said of the schema is said of the texts
  says_schema : (faults : List AnyFault) → faults ≢ [] → ((fault : AnyFault) → Contains faults fault → SchemaFails terms trees fault)
      → FoldingTold terms faults trees → RulesTold terms faults trees → SpentTold terms faults trees → RefusesSchemas terms texts faults
  says_schema faults some right full rules none = record {
    some = some;
    says = λ fault h. inr (trees, (reads, right fault h));
    alone = inr read;
    full = λ within others reads'. subst (FoldingTold terms faults) (one_list terms.first_text texts trees others reads reads') full;
    rules = λ within others reads'. subst (RulesTold terms faults) (one_list terms.first_text texts trees others reads reads') rules;
    spent = λ within others reads'. subst (SpentTold terms faults) (one_list terms.first_text texts trees others reads reads') none;
  }

  -- no number is left for an extension
  spent_refused : (faults : List AnyFault) → faults ≡ spent ∷ [] → (HaveNumbers terms.first_extension (all_definitions trees) → ⊥) → RefusesSchemas terms texts faults
  spent_refused faults is none =
      says_schema faults (subst (λ fs. fs ≢ []) (sym is) none_alone)
      (λ fault h. inl (only_spent fault (subst (λ fs. Contains fs fault) is h), none)) (inl is)
      (λ numbers folds f fails. absurd (none numbers)) (λ gone. is)
    where
      only_spent : (fault : AnyFault) → Contains (spent ∷ []) fault → fault ≡ spent
      only_spent fault h = elim (Contains-cons spent [] fault h) [ inl same ↦ sym same | inr other ↦ absurd (not_in_nil fault other) ]

  pub numbers_refusal : (refusal : Refusal) → RefusalOfNumbers terms.first_extension trees refusal → RefusalOfSchemas terms texts refusal
  numbers_refusal (Faults list) (is, none) = spent_refused (diagnostics_of list) is none
  numbers_refusal Memory h = tt
  numbers_refusal Failed h = h

  module _ (origins : Sources) (b : BuilderValue) (filled : IsFilled terms.first_extension trees origins b) where
    -- folding rules are broken
    folding_refused : (faults : List AnyFault) → RefusesFolding b faults → RefusesSchemas terms texts faults
    folding_refused faults refused = says_schema faults refused.some
        (λ fault h. let told = refused.right fault h in inr (inl (told.0, (told.1.0, fails_so terms trees origins b filled told.0 told.1.1))))
        (inr (λ f fails. refused.full f (fails_here terms trees origins b filled f fails)))
        (λ numbers folds f fails. absurd (none_told (λ fault. (g : folding.BuildFault) × ((fault ≡ of_folding g) × FailsIn b g)) faults refused.some refused.right
        (λ fault told. folds told.0 (fails_so terms trees origins b filled told.0 told.1.1))))
        (λ none. absurd (none filled.numbered))

    -- rules on schemas are broken
    rule_fails : (fault : AnyFault) → (f : PlacedFault) × ((fault ≡ of_rule f) × (RulesFail (folded b) f ⊎ BoundFails (folded b) f)) → SchemaFails terms trees fault
    rule_fails fault (f, (is, fails)) = inr (inr (f, (is, subst (λ s. RulesFail s f ⊎ BoundFails s f) (folds_to terms trees origins b filled) fails)))

    rules_refused : (faults : List AnyFault) → FoldingRules built_in_definitions b.first (counted b) → RefusesSchemaRules (folded b) faults → RefusesSchemas terms texts faults
    rules_refused faults folds refused = says_schema faults refused.some
        (λ fault h. rule_fails fault (refused.right fault h))
        (inr (λ f fails. absurd (folds f (fails_here terms trees origins b filled f fails))))
        (λ numbers keeps f fails. refused.full f (subst (λ s. Told s BreaksBesideCycles f) (sym (folds_to terms trees origins b filled)) fails))
        (λ none. absurd (none filled.numbered))

    builder_refused : (faults : List AnyFault) → RefusesBuilder b faults → RefusesSchemas terms texts faults
    builder_refused faults (inl folding) = folding_refused faults folding
    builder_refused faults (inr (folds, rules)) = rules_refused faults folds rules

    pub builder_refusal : (refusal : Refusal) → RefusalOfBuilder b refusal → RefusalOfSchemas terms texts refusal
    builder_refusal (Faults list) h = builder_refused (diagnostics_of list) h
    builder_refusal Memory h = tt
    builder_refusal Failed h = h

    -- every rule holds
    pub accepted : (number : ℕ) (schema : SchemaTree Place) (sources : Sources) (out : Tree) → number ≡ document_number terms texts → IsJudgedSchema b schema out
        → origins ≡ text_sources terms.first_text texts → sources ≡ b.sources
        → IsCheckedSchemaOf terms texts (record { nesting = terms.nesting; number = number; schema = schema; sources = sources; written = out })
    accepted number schema sources out next judged of_texts kept = record {
      accepted = record {
        judged = record {
          trees = trees;
          read = reads;
          folds = λ f fails. judged.folds f (fails_here terms trees origins b filled f fails);
          holds = subst (λ s. SchemaRules (rules.judged s)) (folds_to terms trees origins b filled) judged.holds;
        };
        within = are_within terms.nesting terms.first_text texts read;
        numbered = filled.numbered;
      };
      nesting = refl;
      number = next;
      sources = kept ∙ filled.sources ∙ ap (with_sources []) of_texts ∙ all_sources_stay terms.first_text texts;
      for_documents = judged.for_documents ∙ ap validated (folds_to terms trees origins b filled);
      written = judged.written ∙ ap written (folds_to terms trees origins b filled);
    }

-- ---- what a checker has read

module _ (terms : Terms) (texts : List SourceText) (number : ℕ) (trees : List Tree) (origins : Sources) (faults : List AnyFault) (added : AreAdded terms texts number trees origins faults) where
  pub unread_refusal : faults ≢ [] → RefusesSchemas terms texts faults
  unread_refusal some = unread_refused terms texts faults some added.unread

  module _ (silent : faults ≡ []) where
    pub are_all_read : AreRead terms.nesting terms.first_text texts
    are_all_read = read_unread terms.nesting terms.first_text texts (subst (UnreadFaults terms.nesting terms.first_text texts) silent added.unread)

    pub number_after : number ≡ document_number terms texts
    number_after = by added.next
      where
        by : IsNextNumber terms texts faults number → number ≡ document_number terms texts
        by (inl e) = e
        by (inr h) = absurd (h.1.1 silent)
