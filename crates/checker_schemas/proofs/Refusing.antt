-- Schema texts that are accepted for sure are not refused.
use Rattle.std.proofs.Common.{inl, inr, ◌≡◌, List, refl, subst}
use Rattle.graphql_rules.specs.in_faults.DetailsView.{diagnostics_of}
use Rattle.checker_calls.specs.in_verdict_definitions.Texts.{SourceText, Tree, Terms, AreRead}
use Rattle.checker_calls.specs.in_verdict_definitions.Judge.{AreSchemasAccepted, AreSchemasCertain}
use Rattle.checker_calls.specs.in_verdict_definitions.Says.{AnyFault, SchemaFails, SaysSchema}
use Rattle.checker_calls.specs.in_verdict_definitions.Answer.{RefusesSchemas}
use Rattle.checker_schemas.specs.Refusals.{RefusalOfSchemas}
use Rattle.checker_calls.specs.declared.refusal.Refusal.{Refusal}
use Rattle.checker_calls.specs.declared.refusal.Refusal.TheVariants.{Faults, Memory, Failed}
use Rattle.checker_calls.proofs.Deciding.{one_list, are_read, not_unread_from, none_told}

module _ (terms : Terms) (texts : List SourceText) (certain : AreSchemasCertain terms texts) where
  abbrev accepted : AreSchemasAccepted terms texts
  accepted = certain.0

  trees : List Tree
  trees = accepted.judged.trees

  read : AreRead terms.nesting terms.first_text texts
  read = are_read terms.nesting terms.first_text texts accepted.judged.trees accepted.judged.read accepted.within

  -- no fault of the schema is so
  none_of_schema : (fault : AnyFault) → SchemaFails terms accepted.judged.trees fault → ⊥
  none_of_schema fault (inl (is, none_left)) = none_left accepted.numbered
  none_of_schema fault (inr (inl (f, (is, fails)))) = accepted.judged.folds f fails
  none_of_schema fault (inr (inr (f, (is, inl fails)))) = accepted.judged.holds fails.0 fails.1.0
  none_of_schema fault (inr (inr (f, (is, inr fails)))) = certain.1 fails.0 fails.1.0

  -- no fault of the texts is so
  none_of_schemas : (fault : AnyFault) → SaysSchema terms texts fault → ⊥
  none_of_schemas fault (inl unread) = not_unread_from terms.nesting terms.first_text texts fault read unread
  none_of_schemas fault (inr (others, (reads, fails))) =
      none_of_schema fault (subst (λ ts. SchemaFails terms ts fault) (one_list terms.first_text texts others accepted.judged.trees reads accepted.judged.read) fails)

  pub schemas_not_refused : (faults : List AnyFault) → RefusesSchemas terms texts faults → ⊥
  schemas_not_refused faults refused = none_told (SaysSchema terms texts) faults refused.some refused.says none_of_schemas

  -- there is no refusal but for memory
  pub refusal_of_schemas : (refusal : Refusal) → RefusalOfSchemas terms texts refusal → refusal ≡ Memory
  refusal_of_schemas (Faults list) refused = absurd (schemas_not_refused (diagnostics_of list) refused)
  refusal_of_schemas Memory h = refl
  refusal_of_schemas Failed h = absurd h
