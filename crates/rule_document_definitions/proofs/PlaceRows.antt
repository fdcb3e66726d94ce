-- Where a rule fails, by small documents: at a later field, at a field inside a field, in the second of two operations. And a document
-- of which two fragments stand under one name: at places the second is unused, without places it is the first.
use Rattle.std.proofs.Common.{◌≡◌, ℕ, Bool, true, false, cond, List, [], ◌∷◌, codes, bytes_eq, Option, None, Some, Contains, refl, sym, ap, inl, inr, is_some, true≢false, arith}
use Rattle.std.specs.Option.{option_map}
use Rattle.schema_coordinates.specs.Coordinate.{OfAttribute}
use Rattle.tree_directives.specs.declared.operation_type.OperationType.TheVariants as operation
use Rattle.spec_document.specs.MeantTree.{MeantSelection, MeantOperation, MeantFragment, MeantDocument, set_on}
use Rattle.spec_document.specs.Unplaced.{unplaced_fragment, unplaced_document}
use Rattle.rule_definitions.specs.Diagnostics.{MissingSubselection, UndefinedFragment, UnusedFragment}
use Rattle.rule_definitions.specs.Faults.{FaultAt, wrong}
use Rattle.rule_definitions.proofs.Lists.{Contains-cons, only}
use Rattle.rule_document_definitions.specs.DocumentFaults.{OfData}
use Rattle.rule_document_definitions.specs.Selected.{SelectionAt, fragments, fragment_named}
use Rattle.rule_document_definitions.specs.Reached.{first, next}
use Rattle.rule_document_definitions.specs.Selections.{MissingSubselectionAt}
use Rattle.rule_document_definitions.specs.Fragments.{UndefinedFragmentAt, UnusedFragmentAt}
use Rattle.rule_document_definitions.specs.DocumentRules.{RulesFail}
use Rattle.rule_document_definitions.specs.Named.{FragmentsFoundByName}
use Rattle.rule_document_definitions.proofs.RowWords.{not_present, none_reached}
use Rattle.rule_document_definitions.proofs.RowParts.{by_numbers, at, small, query_name, a_name, f_name, p_type, leaf, p_field, spread, query_of, fragment_of, alone, at_root, stand_at, root}

-- ---- `{ a p }`, `{ p { a p } }`: the later field selects nothing

abbrev a_and_p : MeantOperation ℕ
a_and_p = query_of (leaf 2 a_name ∷ p_field 3 [] ∷ [])

later_selects_nothing : MissingSubselectionAt small (alone a_and_p) a_and_p (wrong {E = List ℕ} 3 (MissingSubselection (OfAttribute query_name (codes "p")) (codes "P") (codes "an interface type")))
later_selects_nothing = (at_root 1 (p_field 3 []), (first (1, omega arith, refl), (_, (refl, (p_type, (refl, (refl, (tt, refl))))))))

abbrev p_in_p : MeantOperation ℕ
p_in_p = query_of (p_field 2 (leaf 3 a_name ∷ p_field 4 [] ∷ []) ∷ [])

inner_selects_nothing : MissingSubselectionAt small (alone p_in_p) p_in_p (wrong {E = List ℕ} 4 (MissingSubselection (OfAttribute (codes "P") (codes "p")) (codes "P") (codes "an interface type")))
inner_selects_nothing = (
  stand_at (SelectionAt root 0) 1 (codes "P") (p_field 4 []),
  (
    next {x = at_root 0 (p_field 2 (leaf 3 a_name ∷ p_field 4 [] ∷ []))} (first (0, omega arith, refl)) (inl (_, (refl, (1, omega arith, refl)))),
    (_, (refl, (p_type, (refl, (refl, (tt, refl)))))),
  ),
)

-- ---- `query A { a } query B { ...F }`: the second breaks, the first does not

abbrev named_query : ℕ → List ℕ → List (MeantSelection ℕ) → MeantOperation ℕ
named_query p n ss = record { place = p; operation_type = operation.Query; name = Some (at p n); variables = []; directives = []; set = set_on query_name ss }

abbrev of_a : MeantOperation ℕ
of_a = named_query 1 (codes "A") (leaf 2 a_name ∷ [])

abbrev of_f : MeantOperation ℕ
of_f = named_query 4 (codes "B") (spread 6 f_name ∷ [])

abbrev two_queries : MeantDocument ℕ
two_queries = record { anonymous = None; named = (codes "A", of_a) ∷ (codes "B", of_f) ∷ []; fragments = [] }

second_breaks : RulesFail by_numbers small two_queries (OfData (wrong {E = List ℕ} 6 (UndefinedFragment f_name)))
second_breaks = inl (of_f, ((1, omega arith, refl), inr (inr (inl (_, (first (0, omega arith, refl), (f_name, (refl, (refl, refl)))))))))

first_does_not : (fault : FaultAt ℕ (List ℕ)) → UndefinedFragmentAt two_queries fault of_a → ⊥
first_does_not fault p = none_reached two_queries of_a 1 refl p ((λ q. not_present q), tt)

-- ---- `{ ...F } fragment F on Q { a } fragment F on Q { a }`, both kept under F, as no document is that is typed by its place

abbrev spreads : MeantOperation ℕ
spreads = query_of (spread 2 f_name ∷ [])

abbrev fragment_at : ℕ → MeantFragment ℕ
fragment_at p = fragment_of p f_name query_name (leaf 8 a_name ∷ [])

abbrev two_fragments : MeantDocument ℕ
two_fragments = record { anonymous = Some spreads; named = []; fragments = (f_name, fragment_at 5) ∷ (f_name, fragment_at 6) ∷ [] }

abbrev place_or_zero : Option (MeantFragment ℕ) → ℕ
place_or_zero None = 0
place_or_zero (Some f) = f.place

-- no name finds the second
not_found : (n : List ℕ) → fragment_named two_fragments n ≡ Some (fragment_at 6) → ⊥
not_found n e = by (bytes_eq n f_name) e
  where
    by : (b : Bool) → option_map (λ (x : List ℕ × MeantFragment ℕ). x.1) (cond b (Some (f_name, fragment_at 5)) (cond b (Some (f_name, fragment_at 6)) None)) ≡ Some (fragment_at 6) → ⊥
    by true i = let places : 5 ≡ 6 = ap (λ (o : Option (MeantFragment ℕ)). place_or_zero o) i in absurd (omega (arith, places))
    by false i = absurd (true≢false (sym (ap is_some i)))

second_is_unused : UnusedFragmentAt two_fragments (wrong {E = List ℕ} 6 (UnusedFragment f_name))
second_is_unused = (fragment_at 6, ((1, omega arith, refl), ((λ (o, (c, (x, (r, (n, (s, e)))))). not_found n e), refl)))

-- without places none is unused
none_is_unused : (fault : FaultAt (Unit {0}) (Unit {0})) → UnusedFragmentAt (unplaced_document two_fragments) fault → ⊥
none_is_unused fault (f, (c, (unreached, is))) =
    unreached (_, ((0, omega arith, refl), (_, (first (0, omega arith, refl), (f_name, (refl, ap Some (one f c)))))))
  where
    one : (g : MeantFragment (Unit {0})) → Contains (fragments (unplaced_document two_fragments)) g → unplaced_fragment (fragment_at 5) ≡ g
    one g k = elim (Contains-cons (unplaced_fragment (fragment_at 5)) (unplaced_fragment (fragment_at 6) ∷ []) g k) [ inl e ↦ e | inr r ↦ sym (only (unplaced_fragment (fragment_at 6)) g r) ]

not_named : FragmentsFoundByName two_fragments → ⊥
not_named named = not_found f_name (named (fragment_at 6) (1, omega arith, refl))
