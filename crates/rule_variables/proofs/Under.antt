-- What the variables break under a schema, one after the other, is what the rules say of an operation.
use Rattle.std.proofs.Common.{◌≡◌, ◌↔◌, ◌⊎◌, true, [], inl, inr, sym, subst}
use Rattle.graphql_names.specs.Placed.{Place}
use Rattle.tree_directives.specs.declared.directive_location.DirectiveLocation.TheVariants as location
use Rattle.schema_types.specs.SchemaTree.{SchemaTree, is_input_kind}
use Rattle.spec_document.specs.MeantTree.{MeantOperation}
use Rattle.rule_definitions.specs.Words.{Present, AtSomeIndex}
use Rattle.rule_definitions.specs.Judged.{judged}
use Rattle.rule_definitions.specs.GivenValues.{wanted_name}
use Rattle.rule_definitions.specs.Values.{ValueBreaks}
use Rattle.rule_definitions.specs.Uses.{UsesBreak}
use Rattle.rule_definitions.specs.PlacedFaults.{PlacedFault}
use Rattle.rule_document_definitions.specs.PlacedDocumentFaults.{places_in, place_or_built_in}
use Rattle.rule_document_definitions.specs.UsedVariables.{wanted_by}
use Rattle.rule_document_definitions.specs.Variables.{DefaultValueBreaks, VariableDirectivesBreak}
use Rattle.rule_variables.specs.Parts.{VariablesBreakUnder}
use Rattle.rule_variables.specs.VariableFaults.{UndefinedType, NoInputType, JudgedDefaultBreaks, DirectivesBreak, VariableBreaks}
use Rattle.rule_variables.proofs.Alike.{same_value_breaks, same_uses_break}
use Rattle.rule_variables.proofs.Told.{index_either, index_same, of_input_type}

module _ (s : SchemaTree Place) (o : MeantOperation Place) (f : PlacedFault) where
  same_defaults : AtSomeIndex o.variables (λ i x. JudgedDefaultBreaks s x f) ↔ DefaultValueBreaks (judged s) o f (places_in s)
  same_defaults = index_same o.variables (λ i x. JudgedDefaultBreaks s x f)
      (λ i x. Present ((judged s).type_named (wanted_name (wanted_by x.it))) (λ t. is_input_kind t.kind ≡ true)
      × Present x.it.default_value (λ v. ValueBreaks (place_or_built_in s) (judged s) [] (wanted_by x.it) v.place v.it f)) (λ i x. (
        λ p. ((of_input_type s x).0 p.0, (p.1.0, (p.1.1.0, subst (λ X. X) (sym (same_value_breaks s [] (wanted_by x.it) p.1.0.place p.1.0.it f)) p.1.1.1))),
        λ p. ((of_input_type s x).1 p.0, (p.1.0, (p.1.1.0, subst (λ X. X) (same_value_breaks s [] (wanted_by x.it) p.1.0.place p.1.0.it f) p.1.1.1))),
      ))

  same_directives : AtSomeIndex o.variables (λ i x. DirectivesBreak s x f) ↔ VariableDirectivesBreak (judged s) o f (places_in s)
  same_directives = index_same o.variables (λ i x. DirectivesBreak s x f) (λ i x. UsesBreak (place_or_built_in s) (judged s) [] location.VariableDefinition x.it.directives f) (λ i x. (
    λ u. subst (λ X. X) (sym (same_uses_break s [] location.VariableDefinition x.it.directives f)) u,
    λ u. subst (λ X. X) (same_uses_break s [] location.VariableDefinition x.it.directives f) u,
  ))

  either : {A B C D : Type 0} → A ↔ C → B ↔ D → (A ⊎ B) ↔ (C ⊎ D)
  either a b = (
    λ h. elim h [ inl x ↦ inl (a.0 x) | inr y ↦ inr (b.0 y) ],
    λ h. elim h [ inl x ↦ inl (a.1 x) | inr y ↦ inr (b.1 y) ],
  )

  both : {A B C : Type 0} → A ↔ B → B ↔ C → A ↔ C
  both a b = (λ h. b.0 (a.0 h), λ h. a.1 (b.1 h))

  itself : {A : Type 0} → A ↔ A
  itself = (λ h. h, λ h. h)

  pub breaks_under : AtSomeIndex o.variables (λ i x. VariableBreaks s x f) ↔ VariablesBreakUnder s o f
  breaks_under =
      both (index_either o.variables (λ i x. UndefinedType s x f) (λ i x. NoInputType s x f ⊎ (JudgedDefaultBreaks s x f ⊎ DirectivesBreak s x f)))
      (either itself (both (index_either o.variables (λ i x. NoInputType s x f) (λ i x. JudgedDefaultBreaks s x f ⊎ DirectivesBreak s x f))
      (either itself (both (index_either o.variables (λ i x. JudgedDefaultBreaks s x f) (λ i x. DirectivesBreak s x f)) (either same_defaults same_directives)))))
