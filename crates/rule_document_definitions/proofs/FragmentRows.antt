-- Rules on fragments, by small documents: what breaks a rule, and what next to it does not.
use Rattle.std.proofs.Common.{◌≡◌, ℕ, false, List, [], ◌∷◌, codes, bytes_eq, is_some, None, Some, Contains, refl, sym, ap, subst, inl, inr, true≢false, ◌∙◌, arith}
use Rattle.std.proofs.lemmas.Option.{same_Some}
use Rattle.graphql_names.specs.Placed.{Placed}
use Rattle.spec_document.specs.MeantTree.{MeantOperation, MeantFragment}
use Rattle.rule_definitions.specs.Words.{Present}
use Rattle.rule_definitions.specs.Diagnostics.{SpreadTree, UndefinedFragment, UnusedFragment, RecursiveFragmentDefinition, InvalidFragmentTarget, InvalidFragmentSpread}
use Rattle.rule_definitions.specs.Faults.{FaultAt, wrong}
use Rattle.rule_definitions.proofs.Lists.{only}
use Rattle.rule_document_definitions.specs.Selected.{Standing, InFragment, own, spread_name, fragment_named}
use Rattle.rule_document_definitions.specs.Reached.{first, ReachesFragment}
use Rattle.rule_document_definitions.specs.PossibleTypes.{MayApply, CanBe}
use Rattle.rule_document_definitions.specs.Fragments.{UndefinedFragmentAt, RecursiveFragmentDefinitionAt, UnusedFragmentAt, InvalidFragmentTargetAt, InvalidFragmentSpreadAt, RefersBySpread, as_spread}
use Rattle.rule_document_definitions.proofs.Levels.{up_to, in_selection, reached_in}
use Rattle.rule_document_definitions.proofs.RowWords.{of_present, not_present, of_each, none_reached, no_fragment}
use Rattle.rule_document_definitions.proofs.RowParts.{by_numbers, small, types, of_look, query_name, int_name, a_name, f_name, query_type, int_type, c_type, leaf, p_field, inline_on, spread, query_of, fragment_of, alone, beside, at_root, stand_at}

-- ---- documents: `{ a }`, `{ ...F }`, and each beside `fragment F on Q { a }`

abbrev only_a : MeantOperation ℕ
only_a = query_of (leaf 2 a_name ∷ [])

abbrev spreads_f : MeantOperation ℕ
spreads_f = query_of (spread 2 f_name ∷ [])

abbrev plain_f : MeantFragment ℕ
plain_f = fragment_of 5 f_name query_name (leaf 8 a_name ∷ [])

abbrev spread_there : Standing ℕ
spread_there = at_root 0 (spread 2 f_name)

-- ---- UndefinedFragment: `{ ...F }`, and the same with F

f_is_not_there : UndefinedFragmentAt (alone spreads_f) (wrong {E = List ℕ} 2 (UndefinedFragment f_name)) spreads_f
f_is_not_there = (spread_there, (first (0, omega arith, refl), (f_name, (refl, (refl, refl)))))

f_is_there : (fault : FaultAt ℕ (List ℕ)) → UndefinedFragmentAt (beside plain_f spreads_f) fault spreads_f → ⊥
f_is_there fault p = none_reached (beside plain_f spreads_f) spreads_f 2 refl p ((λ q. true≢false (ap is_some (of_present f_name q).0)), ((λ q. not_present q), tt))

-- ---- UnusedFragment: `{ a } fragment F on Q { a }`, and `{ ...F } fragment F on Q { a }`

f_is_unused : UnusedFragmentAt (beside plain_f only_a) (wrong {E = List ℕ} 5 (UnusedFragment f_name))
f_is_unused = (plain_f, ((0, omega arith, refl), (unreached, refl)))
  where
    reaches_none : (o : MeantOperation ℕ) → o ≡ only_a → ReachesFragment (beside plain_f only_a) o plain_f → ⊥
    reaches_none o e h = no_fragment (beside plain_f only_a) only_a 1 refl (refl, tt) {Q = λ f. Unit {0}} (plain_f, (subst (λ w. ReachesFragment (beside plain_f only_a) w plain_f) e h, tt))

    unreached : (o : MeantOperation ℕ) × (Contains (only_a ∷ []) o × ReachesFragment (beside plain_f only_a) o plain_f) → ⊥
    unreached (o, (c, h)) = reaches_none o (only only_a o c) h

f_is_used : (fault : FaultAt ℕ (List ℕ)) → UnusedFragmentAt (beside plain_f spreads_f) fault → ⊥
f_is_used fault (f, (c, (unreached, is))) = unreached (spreads_f, ((0, omega arith, refl), (spread_there, (first (0, omega arith, refl), (f_name, (refl, ap Some (sym (only plain_f f c))))))))

-- ---- RecursiveFragmentDefinition: `{ ...F } fragment F on Q { ...F a }` (row 9), and with `fragment F on Q { a }`

abbrev looping_f : MeantFragment ℕ
looping_f = fragment_of 5 f_name query_name (spread 8 f_name ∷ leaf 9 a_name ∷ [])

abbrev by_f : Placed ℕ SpreadTree
by_f = record { it = record { fragment_name = f_name; directives = [] }; place = 8 }

f_refers_to_itself : RecursiveFragmentDefinitionAt (beside looping_f spreads_f) (wrong {E = List ℕ} 5 (RecursiveFragmentDefinition 5 f_name (by_f ∷ []))) by_numbers spreads_f
f_refers_to_itself = (
  looping_f,
  (
    (spread_there, (first (0, omega arith, refl), (f_name, (refl, refl)))),
    (
      by_f,
      (
        [],
        (
          (f_name, ((looping_f, (refl, (stand_at (InFragment f_name) 0 query_name (spread 8 f_name), ((0, omega arith, refl), (refl, (refl, (looping_f, (refl, tt)))))))), refl)),
          (5, (refl, refl)),
        ),
      ),
    ),
  ),
)

f_does_not_refer : (fault : FaultAt ℕ (List ℕ)) → RecursiveFragmentDefinitionAt (beside plain_f spreads_f) fault by_numbers spreads_f → ⊥
f_does_not_refer fault (f, ((x, (r, p)), (by, (rest, ((z, (refers, leads)), more))))) = no_spread f is_plain z refers
  where
    in_plain : (z : List ℕ) → RefersBySpread (beside plain_f spreads_f) f_name by z → ⊥
    in_plain z p = by_none (of_present plain_f p)
      where
        by_none : (y : Standing ℕ) × (Contains (stand_at (InFragment f_name) 0 query_name (leaf 8 a_name) ∷ []) y
            × ((as_spread y.it ≡ Some by) × ((by.it.fragment_name ≡ z) × Present (fragment_named (beside plain_f spreads_f) z) (λ g. Unit {0})))) → ⊥
        by_none (y, (c, (s, t))) = true≢false (sym (ap is_some (subst (λ (w : Standing ℕ). as_spread w.it ≡ Some by) (only (stand_at (InFragment f_name) 0 query_name (leaf 8 a_name)) y c) s)))

    is_plain : plain_f ≡ f
    is_plain = of_each (λ w. Present (spread_name w.it) (λ m. fragment_named (beside plain_f spreads_f) m ≡ Some f) → plain_f ≡ f)
        (up_to (in_selection (beside plain_f spreads_f)) (own spreads_f) 2)
        ((λ q. same_Some _ _ (of_present f_name q)), ((λ q. absurd (not_present q)), tt)) x (reached_in (beside plain_f spreads_f) spreads_f 2 refl x r) p

    no_spread : (g : MeantFragment ℕ) → plain_f ≡ g → (z : List ℕ) → RefersBySpread (beside plain_f spreads_f) g.name.it by z → ⊥
    no_spread g e z p = in_plain z (subst (λ (h : MeantFragment ℕ). RefersBySpread (beside plain_f spreads_f) h.name.it by z) (sym e) p)

-- ---- InvalidFragmentTarget: `{ ... on Int { a } }`, and `{ ... on Q { a } }`

abbrev on_int : MeantOperation ℕ
on_int = query_of (inline_on 2 int_name [] ∷ [])

abbrev on_query : MeantOperation ℕ
on_query = query_of (inline_on 2 query_name (leaf 3 a_name ∷ []) ∷ [])

int_has_no_fields : InvalidFragmentTargetAt small (alone on_int) on_int (wrong {E = List ℕ} 2 (InvalidFragmentTarget None int_name))
int_has_no_fields = inr (at_root 0 (inline_on 2 int_name []), (first (0, omega arith, refl), (int_name, (refl, ((int_type, (refl, refl)), refl)))))

query_has_fields : (fault : FaultAt ℕ (List ℕ)) → InvalidFragmentTargetAt small (alone on_query) on_query fault → ⊥
query_has_fields fault (inl p) = no_fragment (alone on_query) on_query 2 refl (refl, (refl, tt)) p
query_has_fields fault (inr p) = none_reached (alone on_query) on_query 2 refl p ((λ q. true≢false (of_present query_type (of_present query_name q).0)), ((λ q. not_present q), tt))

-- ---- InvalidFragmentSpread: `{ ... on C { a } }`, and `{ p { ... on C { a } } }`

abbrev c_on_query : MeantOperation ℕ
c_on_query = query_of (inline_on 2 (codes "C") (leaf 3 a_name ∷ []) ∷ [])

c_is_no_query : InvalidFragmentSpreadAt small (alone c_on_query) c_on_query (wrong {E = List ℕ} 2 (InvalidFragmentSpread None query_name (codes "C") 2 0)) by_numbers
c_is_no_query = (at_root 0 (inline_on 2 (codes "C") (leaf 3 a_name ∷ [])), (first (0, omega arith, refl), inr (codes "C", (refl, (apart, refl)))))
  where
    -- the object types that values of Q can be
    is_query : (object : List ℕ) → CanBe small query_name object → object ≡ query_name
    is_query object (u, (e, (k, inl same))) = same
    is_query object (u, (e, (k, inr (inl implements)))) = absurd (true≢false (sym implements ∙ of_look (λ t. t.implements query_name ≡ false) types (refl, (refl, (refl, (refl, (refl, tt))))) object u e))
    is_query object (u, (e, (k, inr (inr members)))) = absurd (true≢false (sym (of_present query_type members)))

    apart : MayApply small query_name (codes "C") → ⊥
    apart (inl same) = true≢false (sym (ap (λ n. bytes_eq n query_name) same))
    apart (inr (object, (q, c))) = of_query (subst (CanBe small (codes "C")) (is_query object q) c)
      where
        of_query : CanBe small (codes "C") query_name → ⊥
        of_query p = elim (of_present query_type p).1 [
          | inl same ↦ true≢false (sym (ap (λ n. bytes_eq n (codes "C")) same))
          | inr (inl implements) ↦ true≢false (sym implements)
          | inr (inr members) ↦ true≢false (sym (of_present c_type members))
        ]

abbrev c_in_p : MeantOperation ℕ
c_in_p = query_of (p_field 2 (inline_on 3 (codes "C") (leaf 4 a_name ∷ []) ∷ []) ∷ [])

c_may_be_a_p : MayApply small (codes "P") (codes "C")
c_may_be_a_p = inr (codes "C", ((c_type, (refl, (refl, inr (inl refl)))), (c_type, (refl, (refl, inl refl)))))

c_is_a_p : (fault : FaultAt ℕ (List ℕ)) → InvalidFragmentSpreadAt small (alone c_in_p) c_in_p fault by_numbers → ⊥
c_is_a_p fault p = none_reached (alone c_in_p) c_in_p 3 refl p (
  (λ q. elim q [ inl h ↦ not_present h | inr h ↦ not_present h ]),
  (
    (λ q. elim q [ inl h ↦ not_present h | inr h ↦ (of_present (codes "C") h).0 c_may_be_a_p ]),
    ((λ q. elim q [ inl h ↦ not_present h | inr h ↦ not_present h ]), tt),
  ),
)
