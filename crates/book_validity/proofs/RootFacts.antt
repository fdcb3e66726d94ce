-- Any two fields at the root are the same one exactly when no list that has each of them once has more than one.
use Rattle.std.proofs.Common.{◌≡◌, ◌↔◌, ◌⊎◌, ◌<◌, ◌≤◌, zero, suc, List, [], ◌∷◌, ◌++◌, length, refl, sym, ap, subst, ◌∙◌, Some, option_to_list, Contains, is_some, inl, inr, true≢false, arith}
use Rattle.std.specs.List.{flat_map}
use Rattle.std.proofs.lemmas.Option.{same_Some}
use Rattle.std.proofs.lemmas.List.Elements.{Contains-append_left, Contains-append_right}
use Rattle.rule_cycle_search.specs.Paths.{HasNoRepeat}
use Rattle.rule_cycle_search.proofs.Lists.{not_in_nil, Contains-cons, Contains-first, only, is_only, given_in, index_given}
use Rattle.rule_definitions.proofs.Lookups.{under_given}
use Rattle.rule_document_definitions.specs.Selected.{as_field}
use Rattle.rule_document_definitions.specs.Reached.{first, next, Reached, AtRoot}
use Rattle.rule_document_definitions.specs.Named.{FragmentsFoundByName}
use Rattle.rule_document_definitions.specs.RootFields.{IsRootField, AreRootFields}
use Rattle.rule_document_definitions.proofs.Positions.{one_field}
use Rattle.rule_document_definitions.proofs.Spreading.{whole, body, stands}
use Rattle.book_validity.specs.Words.{Document, Operation, Field, Selection}
use Rattle.book_validity.proofs.SamePosition.{same_or_not}

-- ---- lists of those of which something holds

-- it cannot fail that something holds or not
holds_or_not : (A : Type 0) → ((A ⊎ (A → ⊥)) → ⊥) → ⊥
holds_or_not A fails = fails (inr (λ a. fails (inl a)))

module _ {X : Type 0} where
  none_twice : HasNoRepeat {X = X} []
  none_twice i j x e k = absurd (true≢false (sym (ap is_some e)))

  one_more : (z : X) (xs : List X) → (Contains xs z → ⊥) → HasNoRepeat xs → HasNoRepeat (z ∷ xs)
  one_more z xs new once zero zero x e k = refl
  one_more z xs new once zero (suc j) x e k = absurd (new (subst (Contains xs) (sym (same_Some z x e)) (index_given xs j x k)))
  one_more z xs new once (suc i) zero x e k = absurd (new (subst (Contains xs) (sym (same_Some z x k)) (index_given xs i x e)))
  one_more z xs new once (suc i) (suc j) x e k = ap suc (once i j x e k)

  -- two that differ are more than one
  two : (xs : List X) (x y : X) → Contains xs x → Contains xs y → (x ≡ y → ⊥) → 1 < length xs
  two [] x y c k differ = not_in_nil x c
  two (z ∷ []) x y c k differ = absurd (differ (only z x c ∙ sym (only z y k)))
  two (z ∷ w ∷ xs) x y c k differ = omega arith

  -- and of more than one two differ
  none_differ : (xs : List X) → HasNoRepeat xs → ((x y : X) → Contains xs x → Contains xs y → x ≡ y) → 1 < length xs → ⊥
  none_differ [] once same more = absurd (omega (arith, more))
  none_differ (x ∷ []) once same more = absurd (omega (arith, more))
  none_differ (x ∷ y ∷ xs) once same more =
      absurd (omega (arith, once 0 1 y (ap Some (same x y (Contains-first x (y ∷ xs) x refl) (Contains-append_right (x ∷ []) (y ∷ xs) y (Contains-first y xs y refl)))) refl))

  module _ (Q : X → Type 0) where
    -- the list has each of these of which Q holds, once, and nothing else
    abbrev pub HasThem : List X → List X → Type 0
    HasThem xs fs = HasNoRepeat fs × ((x : X) → Contains fs x ↔ (Contains xs x × Q x))

    -- it cannot fail that there is one
    pub listed : (xs : List X) → ((fs : List X) → HasThem xs fs → ⊥) → ⊥
    listed [] fails = fails [] (none_twice, λ x. (λ c. not_in_nil x c, λ h. not_in_nil x h.0))
    listed (z ∷ xs) fails = listed xs (λ fs has. holds_or_not (Q z) (λ q. holds_or_not (Contains fs z) (λ among. by fs has q among)))
      where
        later : (x : X) → Contains xs x → Contains (z ∷ xs) x
        later x c = Contains-append_right (z ∷ []) xs x c

        by : (fs : List X) → HasThem xs fs → (Q z ⊎ (Q z → ⊥)) → (Contains fs z ⊎ (Contains fs z → ⊥)) → ⊥
        by fs has (inr never) among = fails fs (
          has.0,
          λ x. (
            λ c. let h = (has.1 x).0 c in (later x h.0, h.1),
            λ h. elim (Contains-cons z xs x h.0) [ inl e ↦ absurd (never (subst Q (sym e) h.1)) | inr c ↦ (has.1 x).1 (c, h.1) ],
          ),
        )
        by fs has (inl holds) (inl old) = fails fs (
          has.0,
          λ x. (
            λ c. let h = (has.1 x).0 c in (later x h.0, h.1),
            λ h. elim (Contains-cons z xs x h.0) [ inl e ↦ subst (Contains fs) e old | inr c ↦ (has.1 x).1 (c, h.1) ],
          ),
        )
        by fs has (inl holds) (inr new) = fails (z ∷ fs) (
          one_more z fs new has.0,
          λ x. (
            λ c. elim (Contains-cons z fs x c) [ inl e ↦ (Contains-first z xs x e, subst Q e holds) | inr k ↦ let h = (has.1 x).0 k in (later x h.0, h.1) ],
            λ h. elim (Contains-cons z xs x h.0) [ inl e ↦ Contains-first z fs x e | inr c ↦ Contains-append_right (z ∷ []) fs x ((has.1 x).1 (c, h.1)) ],
          ),
        )

-- ---- the fields at the root

module _ (d : Document) (o : Operation) where
  abbrev pub AreOne : Type 0
  AreOne = (f g : Field) → IsRootField d o f → IsRootField d o g → f ≡ g

  pub at_most_one : {A : Type 0} → AreOne → (fs : List Field) → AreRootFields d o fs → 1 < length fs → A
  at_most_one one fs are more = absurd (none_differ fs are.0 (λ f g c k. one f g ((are.1 f).0 c) ((are.1 g).0 k)) more)

  -- all selections of the operation and of fragments
  abbrev everywhere : List Selection
  everywhere = whole d o ++ flat_map (λ e. body d e.1) d.fragments

  from_root : (x : Selection) → AtRoot d o x → Reached d o x
  from_root x (first c) = first c
  from_root y (next {x = x} r l) = next (from_root x r) (inr l)

  is_somewhere : (x : Selection) → AtRoot d o x → Contains everywhere x
  is_somewhere x r = elim (stands d o x (from_root x r)) [
    | inl c ↦ Contains-append_left (whole d o) (flat_map (λ e. body d e.1) d.fragments) x c
    | inr h ↦
        let (n, (led, (f, (is, c)))) = h in
        Contains-append_right (whole d o) (flat_map (λ e. body d e.1) d.fragments) x (given_in (λ e. body d e.1) x d.fragments (n, f) (under_given n d.fragments f is) c)
  ]

  -- all fields among them
  abbrev fields : List Field
  fields = flat_map (λ x. option_to_list (as_field x)) everywhere

  is_field : (f : Field) → IsRootField d o f → Contains fields f
  is_field f (x, (r, e)) = given_in (λ x. option_to_list (as_field x)) f everywhere x (is_somewhere x r) (subst (λ l. Contains (option_to_list l) f) (sym e) (is_only f f refl))

  pub one_of_all : FragmentsFoundByName d → ((fs : List Field) → AreRootFields d o fs → 1 < length fs → ⊥) → AreOne
  one_of_all by_name few f g a b = elim (same_or_not f.position g.position) [
    | inl same ↦ one_field d o by_name f g a b same
    | inr other ↦ absurd (listed (IsRootField d o) fields (λ fs has.
        let are : AreRootFields d o fs = (has.0, λ h. (λ c. ((has.1 h).0 c).1, λ r. (has.1 h).1 (is_field h r, r))) in
        few fs are (two fs f g ((are.1 f).1 a) ((are.1 g).1 b) (λ e. other (ap (λ (h : Field). h.position) e)))))
  ]

  at_most : (fs : List Field) → (1 < length fs → ⊥) → length fs ≤ 1
  at_most fs few = omega (arith, few)

  -- as it is said of lists
  pub of_lists : FragmentsFoundByName d → AreOne ↔ ((fs : List Field) → AreRootFields d o fs → length fs ≤ 1)
  of_lists by_name = (
    λ one fs are. at_most fs (λ more. at_most_one one fs are more),
    λ all. one_of_all by_name (λ fs are more. absurd (omega (arith, all fs are, more))),
  )
