-- What is selected, and the fragments that are reached, are valid exactly when no rule on them is broken.
use Rattle.std.proofs.Common.{◌≡◌, ◌⊎◌, ℕ, List, Some, is_some, refl, sym, ap, ◌∙◌, inl, inr, true≢false}
use Rattle.std.proofs.lemmas.Option.{same_Some}
use Rattle.tree_directives.specs.OperationQueries.{location_of_operation}
use Rattle.tree_directives.specs.declared.directive_location.DirectiveLocation.TheVariants as location
use Rattle.rule_definitions.specs.Words.{Present}
use Rattle.rule_definitions.specs.Judged.{Judged}
use Rattle.graphql_names.specs.Placed.{Placed}
use Rattle.spec_document.specs.MeantTree.{MeantSelection, MeantField, MeantSpread, MeantInline}
use Rattle.rule_definitions.specs.Diagnostics.{SpreadTree}
use Rattle.rule_document_definitions.specs.Selected.{spread_name, selection_location, selection_directives, fragment_named}
use Rattle.rule_document_definitions.specs.Reached.{Reached, ReachesFragment}
use Rattle.rule_document_definitions.specs.PossibleTypes.{IsNotComposite, MayApply}
use Rattle.rule_document_definitions.specs.Fragments.{as_spread, RefersBySpread, FragmentsBreak}
use Rattle.rule_document_definitions.specs.Selections.{field_taker, SelectionsBreak}
use Rattle.rule_document_definitions.specs.Verdict.{no_places}
use Rattle.book_validity.specs.Words.{IsThere, Document, Operation, Fragment, Selection}
use Rattle.book_validity.specs.Directives.{AreDirectivesValid}
use Rattle.book_validity.specs.Fragments.{Spreads, IsOnComposite, AppliesNowhere, IsValidFragment}
use Rattle.book_validity.specs.Document.{IsValidSelection}
use Rattle.book_validity.proofs.Naming.{Fault, Quiet, is_there, there, not_there, is_true}
use Rattle.book_validity.proofs.ArgumentFacts.{arguments_quiet, quiet_arguments}
use Rattle.book_validity.proofs.Loops.{leads_on, leads_back}
use Rattle.book_validity.proofs.DirectiveFacts.{directives_quiet, quiet_directives}

module _ (s : Judged) where
  may_not : (a b : List ℕ) → AppliesNowhere s a b → MayApply s a b → ⊥
  may_not a b h (inl e) = h.other e
  may_not a b h (inr (object, (p, q))) = h.none object p q

  nowhere : (a b : List ℕ) → (MayApply s a b → ⊥) → AppliesNowhere s a b
  nowhere a b h = record { other = λ e. h (inl e); none = λ object p q. h (inr (object, (p, q))) }

  on_composite : (n : List ℕ) → IsOnComposite s n → IsNotComposite s n → ⊥
  on_composite n h (t, (e, out)) = true≢false (sym (h t e) ∙ out)

module _ (d : Document) where
  named_there : (m : List ℕ) → Present (fragment_named d m) (λ g. Unit {0}) → IsThere (fragment_named d m)
  named_there m (g, (e, t)) = ap is_some e

  -- spreads by name, and with what tells them
  name_of : (x : MeantSelection (Unit {0})) (by : Placed (Unit {0}) SpreadTree) (m : List ℕ) → as_spread x ≡ Some by → by.it.fragment_name ≡ m → spread_name x ≡ Some m
  name_of (MeantField p df h v) by m e k = absurd (true≢false (sym (ap is_some e)))
  name_of (MeantSpread p n ds) by m e k = ap Some (ap (λ (b : Placed (Unit {0}) SpreadTree). b.it.fragment_name) (same_Some _ _ e) ∙ k)
  name_of (MeantInline p c ds v) by m e k = absurd (true≢false (sym (ap is_some e)))

  told_of : (x : MeantSelection (Unit {0})) (m : List ℕ) → spread_name x ≡ Some m → (by : Placed (Unit {0}) SpreadTree) × ((as_spread x ≡ Some by) × (by.it.fragment_name ≡ m))
  told_of (MeantField p df h v) m e = absurd (true≢false (sym (ap is_some e)))
  told_of (MeantSpread p n ds) m e = (_, (refl, same_Some _ _ e))
  told_of (MeantInline p c ds v) m e = absurd (true≢false (sym (ap is_some e)))

  pub spread_step : (n : List ℕ) (by : Placed (Unit {0}) SpreadTree) (m : List ℕ) → RefersBySpread d n by m → Spreads d n m
  spread_step n by m (f, (e, (x, (c, (is, (to, known)))))) = (f, (e, (x, (c, (name_of x.it by m is to, named_there m known)))))

  pub spread_back : (n m : List ℕ) → Spreads d n m → (by : Placed (Unit {0}) SpreadTree) × RefersBySpread d n by m
  spread_back n m (f, (e, (x, (c, (is, known))))) =
      let b = told_of x.it m is in
      let (g, h) = there (fragment_named d m) known in
      (b.0, (f, (e, (x, (c, (b.1.0, (b.1.1, (g, (h, tt)))))))))

module _ (s : Judged) (d : Document) (o : Operation) where
  -- a rule on what is selected, or on fragments, is broken so
  abbrev pub ReachedBreaks : Fault → Type 0
  ReachedBreaks fault = SelectionsBreak no_places s d o fault ⊎ FragmentsBreak no_places s d o fault

  -- what the book says of all that is reached
  pub record IsReachedValid : Type 0 where
    pub selections : (x : Selection) → Reached d o x → IsValidSelection s d o x
    pub fragments : (f : Fragment) → ReachesFragment d o f → IsValidFragment s d o f
    pub directives : AreDirectivesValid s o.variables (location_of_operation o.operation_type) o.directives

  pub reached_quiet : IsReachedValid → Quiet ReachedBreaks
  -- selections
  reached_quiet h fault (inl (inl (x, (r, (f, (is, (t, (has, (composite, (none, told)))))))))) = ((h.selections x r).field f is).selects t has composite none
  reached_quiet h fault (inl (inr (inl (x, (r, (f, (is, b))))))) = arguments_quiet s o.variables (field_taker no_places f) ((h.selections x r).field f is).arguments fault b
  reached_quiet h fault (inl (inr (inr (inl b)))) = directives_quiet s o.variables (location_of_operation o.operation_type) o.directives h.directives fault b
  reached_quiet h fault (inl (inr (inr (inr (inl (x, (r, b))))))) = directives_quiet s o.variables (selection_location x.it) (selection_directives x.it) (h.selections x r).directives fault b
  reached_quiet h fault (inl (inr (inr (inr (inr (f, (r, b))))))) = directives_quiet s o.variables location.FragmentDefinition f.directives (h.fragments f r).directives fault b
  -- fragments
  reached_quiet h fault (inr (inl (x, (r, (n, (is, (none, told))))))) = not_there (fragment_named d n) ((h.selections x r).spread.defined n is) none
  reached_quiet h fault (inr (inr (inl (f, (r, (by, (rest, (leads, told)))))))) = (h.fragments f r).acyclic (leads_on (RefersBySpread d) (Spreads d) (spread_step d) f.name.it by rest f.name.it leads)
  reached_quiet h fault (inr (inr (inr (inl (inl (f, (r, (out, told)))))))) = on_composite s f.type_condition.it (h.fragments f r).target out
  reached_quiet h fault (inr (inr (inr (inl (inr (x, (r, (c, (is, (out, told)))))))))) = on_composite s c ((h.selections x r).spread.target c is) out
  reached_quiet h fault (inr (inr (inr (inr (x, (r, inl (n, (is, (f, (has, (never, told))))))))))) = (h.selections x r).spread.possible n is f has (nowhere s x.parent f.type_condition.it never)
  reached_quiet h fault (inr (inr (inr (inr (x, (r, inr (c, (is, (never, told))))))))) = (h.selections x r).spread.inline_possible c is (nowhere s x.parent c never)

  module _ (q : Quiet ReachedBreaks) where
    selection : (x : Selection) → Reached d o x → IsValidSelection s d o x
    selection x r = record {
      field = λ f is. record {
        selects = λ t has composite none. q _ (inl (inl (x, (r, (f, (is, (t, (has, (composite, (none, refl))))))))));
        arguments = quiet_arguments s o.variables (field_taker no_places f) (λ fault b. q fault (inl (inr (inl (x, (r, (f, (is, b))))))));
      };
      spread = record {
        target = λ c is t has. is_true _ (λ out. q _ (inr (inr (inr (inl (inr (x, (r, (c, (is, ((t, (has, out)), refl)))))))))));
        defined = λ n is. is_there (fragment_named d n) (λ none. q _ (inr (inl (x, (r, (n, (is, (none, refl))))))));
        possible = λ n is f has h. q _ (inr (inr (inr (inr (x, (r, inl (n, (is, (f, (has, (may_not s x.parent f.type_condition.it h, refl)))))))))));
        inline_possible = λ c is h. q _ (inr (inr (inr (inr (x, (r, inr (c, (is, (may_not s x.parent c h, refl)))))))));
      };
      directives = quiet_directives s o.variables (selection_location x.it) (selection_directives x.it) (λ fault b. q fault (inl (inr (inr (inr (inl (x, (r, b))))))));
    }

    fragment : (f : Fragment) → ReachesFragment d o f → IsValidFragment s d o f
    fragment f r = record {
      target = λ t has. is_true _ (λ out. q _ (inr (inr (inr (inl (inl (f, (r, ((t, (has, out)), refl)))))))));
      acyclic = λ c. let h = leads_back (RefersBySpread d) (Spreads d) (spread_back d) f.name.it f.name.it c in q _ (inr (inr (inl (f, (r, (h.0, (h.1.0, (h.1.1, (tt, (tt, refl))))))))));
      directives = quiet_directives s o.variables location.FragmentDefinition f.directives (λ fault b. q fault (inl (inr (inr (inr (inr (f, (r, b))))))));
    }

    pub quiet_reached : IsReachedValid
    quiet_reached = record {
      selections = selection;
      fragments = fragment;
      directives = quiet_directives s o.variables (location_of_operation o.operation_type) o.directives (λ fault b. q fault (inl (inr (inr (inl b)))));
    }
