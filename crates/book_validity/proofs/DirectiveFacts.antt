-- The directives at a place are valid exactly when no rule on them is broken.
use Rattle.std.proofs.Common.{◌≡◌, ℕ, List, [], ◌∷◌, refl, sym, ap, subst, ◌∙◌, Option, Some, Contains, slice_get, get_or, inl, inr, ◌<◌, arith}
use Rattle.std.proofs.lemmas.Option.{same_Some}
use Rattle.graphql_names.specs.Placed.{Placed}
use Rattle.tree_directives.specs.DirectiveTree.{DirectiveTree, DirectiveDefinitionTree, Directives}
use Rattle.tree_directives.specs.declared.directive_location.DirectiveLocation.{DirectiveLocation}
use Rattle.tree_directives.specs.declared.directive_location.DirectiveLocation.TheVariants as location
use Rattle.rule_definitions.specs.Judged.{Judged}
use Rattle.rule_definitions.specs.GivenValues.{Variables}
use Rattle.rule_definitions.specs.Names.{directive_name}
use Rattle.rule_definitions.specs.Uses.{directive_taker, UsesBreak}
use Rattle.rule_definitions.proofs.Lists.{index_found, index_given}
use Rattle.rule_document_definitions.specs.Verdict.{no_places}
use Rattle.book_validity.specs.Directives.{AreDirectivesValid}
use Rattle.rule_document_definitions.proofs.Decided.{Decided, stable, along, names, some_of}
use Rattle.book_validity.proofs.Naming.{Fault, Quiet, is_there, there, not_there, one_place}
use Rattle.book_validity.proofs.ArgumentFacts.{arguments_quiet, quiet_arguments}

abbrev U : Type 0
U = Unit {0}

-- ---- locations, by numbers in order

abbrev letter : DirectiveLocation → ℕ
letter location.Query = 0
letter location.Mutation = 1
letter location.Subscription = 2
letter location.Field = 3
letter location.FragmentDefinition = 4
letter location.FragmentSpread = 5
letter location.InlineFragment = 6
letter location.VariableDefinition = 7
letter location.Schema = 8
letter location.Scalar = 9
letter location.Object = 10
letter location.FieldDefinition = 11
letter location.ArgumentDefinition = 12
letter location.Interface = 13
letter location.Union = 14
letter location.Enum = 15
letter location.EnumValue = 16
letter location.InputObject = 17
letter location.InputFieldDefinition = 18
letter location.DirectiveDefinition = 19

abbrev all : List DirectiveLocation
all = location.Query ∷ location.Mutation ∷ location.Subscription ∷ location.Field ∷ location.FragmentDefinition ∷ location.FragmentSpread ∷ location.InlineFragment ∷ location.VariableDefinition ∷ location.Schema ∷ location.Scalar ∷ location.Object ∷ location.FieldDefinition ∷ location.ArgumentDefinition ∷ location.Interface ∷ location.Union ∷ location.Enum ∷ location.EnumValue ∷ location.InputObject ∷ location.InputFieldDefinition ∷ location.DirectiveDefinition ∷ []

at_letter : (a : DirectiveLocation) → slice_get all (letter a) ≡ Some a
at_letter location.Query = refl
at_letter location.Mutation = refl
at_letter location.Subscription = refl
at_letter location.Field = refl
at_letter location.FragmentDefinition = refl
at_letter location.FragmentSpread = refl
at_letter location.InlineFragment = refl
at_letter location.VariableDefinition = refl
at_letter location.Schema = refl
at_letter location.Scalar = refl
at_letter location.Object = refl
at_letter location.FieldDefinition = refl
at_letter location.ArgumentDefinition = refl
at_letter location.Interface = refl
at_letter location.Union = refl
at_letter location.Enum = refl
at_letter location.EnumValue = refl
at_letter location.InputObject = refl
at_letter location.InputFieldDefinition = refl
at_letter location.DirectiveDefinition = refl

location_or_not : (a b : DirectiveLocation) → Decided (a ≡ b)
location_or_not a b = along
    (λ e. same_Some a b (sym (at_letter a) ∙ ap (λ (l : List ℕ). slice_get all (get_or l 0 0)) e ∙ at_letter b))
    (ap (λ l. letter l ∷ []))
    (names (letter a ∷ []) (letter b ∷ []))

contains_or_not : (ls : List DirectiveLocation) (l : DirectiveLocation) → Decided (Contains ls l)
contains_or_not ls l = along (λ h. subst (Contains ls) h.1.1 h.1.0) (λ c. (l, (c, refl))) (some_of (λ k. k ≡ l) (λ k. location_or_not k l) ls)

module _ (s : Judged) (variables : Variables U) (place : DirectiveLocation) (ds : Directives U) where
  abbrev pub DirectivesBreak : Fault → Type 0
  DirectivesBreak fault = UsesBreak no_places.at s variables place ds fault

  abbrev defined : Placed U (DirectiveTree U) → Option (DirectiveDefinitionTree U)
  defined e = s.directive (directive_name e)

  pub directives_quiet : AreDirectivesValid s variables place ds → Quiet DirectivesBreak
  directives_quiet h fault (inl (j, (later, (a, (i, (first, (b, (same, (is_first, (less, (definition, (is, (once, told))))))))))))) =
      absurd (apart (h.unique i j first later b a same definition is once) less)
    where
      apart : i ≡ j → i < j → ⊥
      apart e l = omega (arith, e, l)
  directives_quiet h fault (inr (i, (e, (a, inl (none, told))))) = not_there (defined e) (h.defined e (index_given ds i e a)) none
  directives_quiet h fault (inr (i, (e, (a, inr (inl (definition, (is, (out, told)))))))) = out (h.located e (index_given ds i e a) definition is)
  directives_quiet h fault (inr (i, (e, (a, inr (inr (inl b)))))) =
      let c = index_given ds i e a in
      let (definition, is) = there (defined e) (h.defined e c) in
      arguments_quiet s variables (directive_taker e definition.arguments) (h.arguments e c definition is) fault (inl b)
  directives_quiet h fault (inr (i, (e, (a, inr (inr (inr (definition, (is, b)))))))) =
      arguments_quiet s variables (directive_taker e definition.arguments) (h.arguments e (index_given ds i e a) definition is) fault (inr b)

  pub quiet_directives : Quiet DirectivesBreak → AreDirectivesValid s variables place ds
  quiet_directives q = record {
    defined = λ e c. let (i, a) = index_found ds e c in is_there (defined e) (λ none. q _ (inr (i, (e, (a, inl (none, refl))))));
    located = λ e c definition is. let (i, a) = index_found ds e c in
        stable (contains_or_not definition.locations place) (λ out. q _ (inr (i, (e, (a, inr (inl (definition, (is, (out, refl)))))))));
    unique = λ i j e f a b same definition is once. one_place directive_name ds i j e f a b same (λ k l z w at_k at_l named equal first less.
        q _ (inl (l, (w, (at_l, (k, (z, (at_k, (equal, (first, (less, (definition, (ap s.directive named ∙ is, (once, refl))))))))))))));
    arguments = λ e c definition is. let (i, a) = index_found ds e c in
        quiet_arguments s variables (directive_taker e definition.arguments) (λ fault b. elim b [
          | inl b ↦ q fault (inr (i, (e, (a, inr (inr (inl b))))))
          | inr b ↦ q fault (inr (i, (e, (a, inr (inr (inr (definition, (is, b))))))))
        ]);
  }
