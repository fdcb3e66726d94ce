-- Arguments are valid exactly when no rule on them is broken.
use Rattle.std.proofs.Common.{◌⊎◌, ◌↔◌, true, false, refl, sym, ◌∙◌, inl, inr, is_some, true≢false}
use Rattle.tree_literals.specs.TypeTree.{TypeTree, NamedTree, NonNullNamedTree, ListTree, NonNullListTree, unplaced_type}
use Rattle.tree_literals.specs.TypeQueries.{has_mark, nullable_type, AreTypesCompatible}
use Rattle.tree_directives.specs.DirectiveTree.{InputValueTree}
use Rattle.tree_directives.specs.DirectiveQueries.{given_value}
use Rattle.tree_operations.specs.OperationTree.{VariableDefinitionTree}
use Rattle.rule_definitions.specs.Judged.{Judged}
use Rattle.rule_definitions.specs.Names.{defined_name, argument_name, input_name}
use Rattle.rule_definitions.specs.GivenValues.{Variables, is_absent_or_null}
use Rattle.rule_definitions.specs.Values.{ValueBreaks}
use Rattle.rule_definitions.specs.VariableUsage.{IsVariableUsageAllowed}
use Rattle.rule_definitions.specs.Uses.{Taker, GivenBreaks, TakerBreaks}
use Rattle.rule_definitions.proofs.Accepting.{accepts_where_quiet}
use Rattle.rule_definitions.proofs.Lists.{index_found, index_given}
use Rattle.rule_definitions.proofs.Firsts.{lacks_found, lacks_given}
use Rattle.rule_document_definitions.specs.Verdict.{no_places}
use Rattle.book_validity.specs.Words.{AreUnique, named}
use Rattle.book_validity.specs.Coercion.{IsOfCorrectType}
use Rattle.book_validity.specs.Arguments.{AreArgumentsValid}
use Rattle.rule_document_definitions.proofs.Decided.{Decided, stable, names, tests, both, either}
use Rattle.book_validity.proofs.Naming.{Fault, Quiet, is_there, there, not_there, is_false, unique_from, unique_never, unique_first, first_named, is_first_named}
use Rattle.book_validity.proofs.CoercionFacts.{of_correct_type}
use Rattle.book_validity.proofs.KeyFacts.{keys_quiet, quiet_keys}

abbrev U : Type 0
U = Unit {0}

compatible_or_not : (a b : TypeTree U) → Decided (AreTypesCompatible a b)
compatible_or_not (NamedTree a) (NamedTree b) = names a.it b.it
compatible_or_not (NonNullNamedTree a) (NamedTree b) = names a.it b.it
compatible_or_not (NonNullNamedTree a) (NonNullNamedTree b) = names a.it b.it
compatible_or_not (ListTree a) (ListTree b) = compatible_or_not a b
compatible_or_not (NonNullListTree a) (ListTree b) = compatible_or_not a b
compatible_or_not (NonNullListTree a) (NonNullListTree b) = compatible_or_not a b
compatible_or_not _ _ = inr (λ h. h)

allowed_or_not : (x : VariableDefinitionTree U) (v : InputValueTree U) → Decided (IsVariableUsageAllowed x v)
allowed_or_not x v = either (compatible_or_not (unplaced_type x.ty.it) v.ty.it)
    (both (both (tests (has_mark x.ty.it) false) (tests (has_mark v.ty.it) true))
    (both (either (tests (is_some x.default_value) true) (tests (is_some v.default_value) true)) (compatible_or_not (unplaced_type x.ty.it) (nullable_type v.ty.it))))

module _ (s : Judged) (variables : Variables U) (t : Taker U) where
  abbrev pub ArgumentsBreak : Fault → Type 0
  ArgumentsBreak fault = GivenBreaks no_places.at s variables t.given fault ⊎ TakerBreaks no_places.at s variables t fault

  abbrev accepted : (ty : TypeTree U) (v : _) → IsOfCorrectType s variables ty v ↔ Quiet (ValueBreaks no_places.at s variables (record { it = ty; place = tt }) tt v)
  accepted ty v =
      let quiet = accepts_where_quiet U no_places.at s variables ty tt tt v in
      let of_type = of_correct_type s variables ty v in
      (λ h. quiet.0 (of_type.1 h), λ q. of_type.0 (quiet.1 q))

  pub arguments_quiet : AreArgumentsValid s variables t.definitions t.given → Quiet ArgumentsBreak
  arguments_quiet h fault (inl (inl r)) = unique_never argument_name t.given h.unique r
  arguments_quiet h fault (inl (inr (j, (a, (e, inl k))))) = keys_quiet a.it.value.it (h.keys a (index_given t.given j a e)) fault k
  arguments_quiet h fault (inl (inr (j, (a, (e, inr u))))) =
      let c = index_given t.given j a e in
      let (v, is) = there (named input_name t.definitions (argument_name a)) (h.names a c) in
      (accepted v.it.ty.it a.it.value.it).0 (h.values a c v is) fault (inr u)
  arguments_quiet h fault (inr (inl (j, (a, (e, (lacks, is)))))) =
      not_there (named input_name t.definitions (argument_name a)) (h.names a (index_given t.given j a e)) (lacks_given input_name t.definitions (argument_name a) lacks)
  arguments_quiet h fault (inr (inr (inl (i, (v, (e, (required, (missing, is)))))))) =
      true≢false (sym missing ∙ h.required v (index_given t.definitions i v e) required)
  arguments_quiet h fault (inr (inr (inr (inl (j, (a, (e, (first, defined)))))))) =
      let (v, (is, (i, (n, (is_n, of_n))))) = first_named input_name t.definitions (argument_name a) defined in
      let (x, (is_x, (k, (wrong', told)))) = first_named defined_name variables n.it of_n in
      wrong' (h.usages a (index_given t.given j a e) v is n is_n x is_x)
  arguments_quiet h fault (inr (inr (inr (inr (j, (a, (e, (first, defined)))))))) =
      let (v, (is, (i, b))) = first_named input_name t.definitions (argument_name a) defined in
      (accepted v.it.ty.it a.it.value.it).0 (h.values a (index_given t.given j a e) v is) fault (inl b)

  module _ (q : Quiet ArgumentsBreak) where
    unique : AreUnique argument_name t.given
    unique = unique_from argument_name t.given (λ r. q _ (inl (inl (r.0, (r.1.0, (r.1.1.0, (r.1.1.1.0, (r.1.1.1.1.0, (r.1.1.1.1.1.0, (r.1.1.1.1.1.1.0, (r.1.1.1.1.1.1.1.0, (r.1.1.1.1.1.1.1.1.0, refl))))))))))))

    pub quiet_arguments : AreArgumentsValid s variables t.definitions t.given
    quiet_arguments = record {
      names = λ a c. let (j, e) = index_found t.given a c in
          is_there (named input_name t.definitions (argument_name a)) (λ none. q _ (inr (inl (j, (a, (e, (lacks_found input_name t.definitions (argument_name a) none, refl)))))));
      unique = unique;
      required = λ v c required. let (i, e) = index_found t.definitions v c in
          is_false (is_absent_or_null (given_value (input_name v) t.given)) (λ missing. q _ (inr (inr (inl (i, (v, (e, (required, (missing, refl)))))))));
      values = λ a c v is. let (j, e) = index_found t.given a c in
          (accepted v.it.ty.it a.it.value.it).1 (λ fault b. elim b [
            | inl b ↦ q fault (inr (inr (inr (inr (j, (a, (e, (unique_first argument_name t.given unique j a e, is_first_named input_name t.definitions (argument_name a) v is (λ i. b)))))))))
            | inr u ↦ q fault (inl (inr (j, (a, (e, inr u)))))
          ]);
      keys = λ a c. let (j, e) = index_found t.given a c in quiet_keys a.it.value.it (λ fault k. q fault (inl (inr (j, (a, (e, inl k))))));
      usages = λ a c v is n is_n x is_x. let (j, e) = index_found t.given a c in
          stable (allowed_or_not x.it v.it) (λ refused. q _ (inr (inr (inr (inl (
            j,
            (
              a,
              (
                e,
                (
                  unique_first argument_name t.given unique j a e,
                  is_first_named input_name t.definitions (argument_name a) v is (λ i. (n, (is_n, is_first_named defined_name variables n.it x is_x (λ k. (refused, refl))))),
                ),
              ),
            ),
          ))))));
    }
