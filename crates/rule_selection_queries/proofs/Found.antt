-- The walk over what is always reached: where it begins, what a step leaves, where it ends.
use Rattle.std.proofs.Common.{◌≡◌, ◌↔◌, ◌⊎◌, ℕ, zero, suc, ◌+◌, ◌-◌, ◌<◌, ◌≤◌, Bool, true, false, ◌||◌, List, [], ◌∷◌, ◌++◌, length, map, Option, None, Some, bytes_eq, slice_get, option_to_list, refl, sym, ap, subst, ◌∙◌, inl, inr, arith, true≢false, is_some, append-nil, length-append, Contains}
use Rattle.std.specs.Prelude.{if◌then◌else◌}
use Rattle.std.specs.List.{list_any}
use Rattle.std.specs.Option.{option_map, option_map_or, option_and_then}
use Rattle.std.proofs.lemmas.Bool.{cases_lt}
use Rattle.std.proofs.lemmas.Option.{same_Some, slice_get_within}
use Rattle.std.proofs.lemmas.List.Elements.{Contains-append_left, Contains-append_right, Contains-append_cases}
use Rattle.std.proofs.lemmas.Slice.Eq.{bytes_eq-Decides}
use Rattle.rule_cycle_search.proofs.Lists.{not_in_nil, Contains-cons, Contains-first, only, index_found, index_given, mapped_some}
use Rattle.spec_document.specs.MeantTree.{MeantSelection, MeantOperation, MeantFragment, MeantDocument, meant_of_set}
use Rattle.document_typed_selections.specs.TypedTree.{TypedSet}
use Rattle.document_typed_operations.specs.TypedDocument.{TypedDocumentTree}
use Rattle.rule_reach.specs.in_typed_operations.DocumentView.{meant_document}
use Rattle.document_typed_operations.specs.Reached.{Fragments, NamedSet, document_fragments, fragment_named as named_set_of}
use Rattle.rule_document_definitions.specs.Selected.{Standing, InOperation, InFragment, spread_name, operation_name, fragment_named}
use Rattle.rule_document_definitions.specs.DeferUses.{ReachedAlways}
use Rattle.rule_selection_queries.specs.Inside.{contents_in, inside, located, ReachesBy}
use Rattle.rule_selection_queries.specs.Stays.{stays}
use Rattle.rule_selection_queries.specs.Always.{always_in, AreAlways, to_enter, to_come, Found}
use Rattle.rule_selection_queries.proofs.Inside.{contents_inside}
use Rattle.rule_selection_queries.proofs.Mapped.{mapped_in, in_mapped}
use Rattle.rule_selection_queries.proofs.Lookups.{walk_finds, rules_find, is_name}
use Rattle.rule_selection_queries.proofs.Closing.{own_reached, held_reached, located_cases, reached_located}
use Rattle.rule_selection_queries.proofs.Staying.{or_cases, always, by_staying}

-- ---- names

pub name_here : (n : List ℕ) (names : List (List ℕ)) → list_any (bytes_eq n) names ≡ true → Contains names n
name_here n [] e = absurd (true≢false (sym e))
name_here n (m ∷ names) e = elim (or_cases (bytes_eq n m) (list_any (bytes_eq n) names) e) [
  | inl a ↦ Contains-first m names n (sym (is_name n m a))
  | inr b ↦ Contains-append_right (m ∷ []) names n (name_here n names b)
]

-- ---- what is to be entered

module _ {P : Type 0} (fs : Fragments P) (names : List (List ℕ)) where
  abbrev one_to_enter : List ℕ → Bool → Option (NamedSet P)
  one_to_enter n known = if known then None else option_map (λ f. (n, f.1)) (named_set_of fs n)

  module _ (s : MeantSelection P) (n : List ℕ) (is : spread_name s ≡ Some n) where
    entering : to_enter fs names s ≡ one_to_enter n (list_any (bytes_eq n) names)
    entering = ap (option_and_then (λ m. one_to_enter m (list_any (bytes_eq m) names))) is

    pub enter_known : list_any (bytes_eq n) names ≡ true → to_enter fs names s ≡ None
    enter_known k = entering ∙ ap (one_to_enter n) k

    pub enter_new : (f : NamedSet P) → list_any (bytes_eq n) names ≡ false → named_set_of fs n ≡ Some f → to_enter fs names s ≡ Some (n, f.1)
    enter_new f k e = entering ∙ ap (one_to_enter n) k ∙ ap (option_map (λ f. (n, f.1))) e

    pub enter_missing : named_set_of fs n ≡ None → to_enter fs names s ≡ None
    enter_missing e = entering ∙ by (list_any (bytes_eq n) names)
      where
        by : (b : Bool) → one_to_enter n b ≡ None
        by true = refl
        by false = ap (option_map (λ f. (n, f.1))) e

  pub enter_none : (s : MeantSelection P) → spread_name s ≡ None → to_enter fs names s ≡ None
  enter_none s is = ap (option_and_then (λ m. one_to_enter m (list_any (bytes_eq m) names))) is

  -- what is entered is spread, new, and there
  pub enters : (s : MeantSelection P) (g : NamedSet P) → to_enter fs names s ≡ Some g
      → (spread_name s ≡ Some g.0) × ((list_any (bytes_eq g.0) names ≡ false) × ((f : NamedSet P) × ((named_set_of fs g.0 ≡ Some f) × (f.1 ≡ g.1))))
  enters s g e = by (spread_name s) refl
    where
      then' : (n : List ℕ) → spread_name s ≡ Some n → (b : Bool) → list_any (bytes_eq n) names ≡ b → one_to_enter n b ≡ Some g
          → (spread_name s ≡ Some g.0) × ((list_any (bytes_eq g.0) names ≡ false) × ((f : NamedSet P) × ((named_set_of fs g.0 ≡ Some f) × (f.1 ≡ g.1))))
      then' n is true k i = absurd (true≢false (sym (ap is_some i)))
      then' n is false k i =
          let f = mapped_some (λ (f : NamedSet P). (n, f.1)) (named_set_of fs n) g i in
          let same : n ≡ g.0 = sym (ap (λ (h : NamedSet P). h.0) f.1.1) in
          (is ∙ ap Some same, (subst (λ m. list_any (bytes_eq m) names ≡ false) same k, (f.0, (subst (λ m. named_set_of fs m ≡ Some f.0) same f.1.0, sym (ap (λ (h : NamedSet P). h.1) f.1.1)))))

      by : (q : Option (List ℕ)) → spread_name s ≡ q → (spread_name s ≡ Some g.0) × ((list_any (bytes_eq g.0) names ≡ false) × ((f : NamedSet P) × ((named_set_of fs g.0 ≡ Some f) × (f.1 ≡ g.1))))
      by None is = absurd (true≢false (sym (ap is_some (sym (enter_none s is) ∙ e))))
      by (Some n) is = then' n is (list_any (bytes_eq n) names) refl (sym (entering s n is) ∙ e)

-- ---- how much is to come

any_more : (n : List ℕ) (names : List (List ℕ)) (m : List ℕ) → list_any (bytes_eq m) (names ++ n ∷ []) ≡ (list_any (bytes_eq m) names || bytes_eq m n)
any_more n [] m = by (bytes_eq m n)
  where
    by : (b : Bool) → (b || false) ≡ (false || b)
    by true = refl
    by false = refl
any_more n (k ∷ names) m = by (bytes_eq m k) (any_more n names m)
  where
    by : (b : Bool) → list_any (bytes_eq m) (names ++ n ∷ []) ≡ (list_any (bytes_eq m) names || bytes_eq m n) → (b || list_any (bytes_eq m) (names ++ n ∷ [])) ≡ ((b || list_any (bytes_eq m) names) || bytes_eq m n)
    by true rest = refl
    by false rest = rest

abbrev weight : Bool → ℕ → ℕ
weight b k = if b then 0 else k

less : (a b : Bool) (k : ℕ) → weight (a || b) k ≤ weight a k
less true b k = omega arith
less false true k = omega arith
less false false k = omega arith

module _ {P : Type 0} where
  abbrev held_length : NamedSet P → ℕ
  held_length f = length (always_in (meant_of_set f.1))

  no_more : (n : List ℕ) (names : List (List ℕ)) (fs : Fragments P) → to_come fs (names ++ n ∷ []) ≤ to_come fs names
  no_more n names [] = omega arith
  no_more n names (f ∷ fs) =
      let rest = no_more n names fs in
      let here : weight (list_any (bytes_eq f.0) (names ++ n ∷ [])) (held_length f) ≤ weight (list_any (bytes_eq f.0) names) (held_length f) =
      subst (λ b. weight b (held_length f) ≤ weight (list_any (bytes_eq f.0) names) (held_length f)) (sym (any_more n names f.0)) (less (list_any (bytes_eq f.0) names) (bytes_eq f.0 n) (held_length f)) in
      omega (arith, rest, here)

  pub fewer : (fs : Fragments P) (names : List (List ℕ)) (n : List ℕ) (g : NamedSet P) → list_any (bytes_eq n) names ≡ false → named_set_of fs n ≡ Some g → to_come fs (names ++ n ∷ []) + held_length g ≤ to_come fs names
  fewer [] names n g k e = absurd (true≢false (sym (ap is_some e)))
  fewer (f ∷ fs) names n g k e = by (bytes_eq n f.0) refl e (fewer fs names n g k)
    where
      by : (b : Bool) → bytes_eq n f.0 ≡ b → (if b then Some f else named_set_of fs n) ≡ Some g → (named_set_of fs n ≡ Some g → to_come fs (names ++ n ∷ []) + held_length g ≤ to_come fs names)
          → to_come (f ∷ fs) (names ++ n ∷ []) + held_length g ≤ to_come (f ∷ fs) names
      by true is i further =
          let named : n ≡ f.0 = is_name n f.0 is in
          let before : weight (list_any (bytes_eq f.0) names) (held_length f) ≡ held_length f = ap (λ b. weight b (held_length f)) (subst (λ m. list_any (bytes_eq m) names ≡ false) named k) in
          let after : weight (list_any (bytes_eq f.0) (names ++ n ∷ [])) (held_length f) ≡ 0 =
          ap (λ b. weight b (held_length f)) (any_more n names f.0 ∙ last (list_any (bytes_eq f.0) names) (bytes_eq f.0 n) ((bytes_eq-Decides f.0 n).1 (sym named))) in
          let same : held_length f ≡ held_length g = ap held_length (same_Some _ _ i) in
          let rest = no_more n names fs in
          omega (arith, before, after, same, rest)
        where
          last : (a b : Bool) → b ≡ true → (a || b) ≡ true
          last true b e = refl
          last false b e = e
      by false is i further =
          let rest = further i in
          let here : weight (list_any (bytes_eq f.0) (names ++ n ∷ [])) (held_length f) ≤ weight (list_any (bytes_eq f.0) names) (held_length f) =
          subst (λ b. weight b (held_length f) ≤ weight (list_any (bytes_eq f.0) names) (held_length f)) (sym (any_more n names f.0)) (less (list_any (bytes_eq f.0) names) (bytes_eq f.0 n) (held_length f)) in
          omega (arith, rest, here)

-- ---- the walk

module _ {P : Type 0} (t : TypedDocumentTree P) (o : MeantOperation P) where
  abbrev d : MeantDocument P
  d = meant_document t

  abbrev fs : Fragments P
  fs = document_fragments t

  abbrev Reaches : Standing P → Type 0
  Reaches = ReachesBy true stays d o

  -- what is always inside a set, where it stands
  stands : (at : List (Standing P)) (l : List (MeantSelection P)) → map (λ x. x.it) at ≡ l → (s : MeantSelection P) → Contains l s → (x : Standing P) × (Contains at x × (x.it ≡ s))
  stands at l e s c = mapped_in (λ (x : Standing P). x.it) at s (subst (λ m. Contains m s) (sym e) c)

  pub found_first : Found d o fs (always_in o.set) 0 []
  found_first = record {
    right = λ s c. let x = stands (inside true stays (InOperation (operation_name o)) o.set) (always_in o.set) (contents_inside true stays (InOperation (operation_name o)) o.set) s c in (x.0, ((own_reached true stays d o x.0 x.1.0).0, x.1.1));
    own = λ s c. c;
    spread = λ n c. not_in_nil n c;
    held = λ n f c. not_in_nil n c;
    done = λ i s h. absurd (omega (arith, h));
  }

  -- nothing is to be entered
  pub found_same : (found : List (MeantSelection P)) (passed : ℕ) (names : List (List ℕ)) (s : MeantSelection P) → slice_get found passed ≡ Some s → to_enter fs names s ≡ None
      → Found d o fs found passed names → Found d o fs found (passed + 1) names
  found_same found passed names s at none h = record {
    right = h.right;
    own = h.own;
    spread = h.spread;
    held = h.held;
    done = λ i s' l e n f sp is. elim (cases i passed l) [
      | inl a ↦ h.done i s' a e n f sp is
      | inr b ↦
          let same : s' ≡ s = same_Some _ _ (sym e ∙ ap (slice_get found) b ∙ at) in
          known n f (ap spread_name (sym same) ∙ sp) is (list_any (bytes_eq n) names) refl
    ];
  }
    where
      cases : (i p : ℕ) → i < p + 1 → (i < p) ⊎ (i ≡ p)
      cases i p l = elim (cases_lt i p) [
        | inl a ↦ inl a
        | inr b ↦ inr (omega (arith, l, b))
      ]

      known : (n : List ℕ) (f : NamedSet P) → spread_name s ≡ Some n → named_set_of fs n ≡ Some f → (b : Bool) → list_any (bytes_eq n) names ≡ b → Contains names n
      known n f sp is true k = name_here n names k
      known n f sp is false k = absurd (true≢false (sym (ap is_some (sym none ∙ enter_new fs names s n sp f k is))))

  -- a fragment is entered
  pub found_more : (found : List (MeantSelection P)) (passed : ℕ) (names : List (List ℕ)) (s : MeantSelection P) (g : NamedSet P) → slice_get found passed ≡ Some s → to_enter fs names s ≡ Some g
      → Found d o fs found passed names → Found d o fs (found ++ always_in (meant_of_set g.1)) (passed + 1) (names ++ g.0 ∷ [])
  found_more found passed names s g at enter h =
      let e = enters fs names s g enter in
      let z = h.right s (index_given found passed s at) in
      let f = rules_find t g.0 e.1.1.0 e.1.1.1.0 in
      let more = always_in (meant_of_set g.1) in
      let held_is : always_in f.0.set ≡ more = ap always_in f.1.1 ∙ ap (λ u. always_in (meant_of_set u)) e.1.1.1.1 in
      let spread_here = ap spread_name z.1.1 ∙ e.0 in
      record {
        right = λ s' c. elim (Contains-append_cases found more s' c) [
          | inl a ↦ h.right s' a
          | inr b ↦
              let x = stands (inside true stays (InFragment f.0.name.it) f.0.set) more (contents_inside true stays (InFragment f.0.name.it) f.0.set ∙ held_is) s' b in
              (x.0, ((held_reached true stays d o z.0 g.0 f.0 z.1.0 spread_here f.1.0 x.0 x.1.0).0, x.1.1))
        ];
        own = λ s' c. Contains-append_left found more s' (h.own s' c);
        spread = λ n c. elim (Contains-append_cases names (g.0 ∷ []) n c) [
          | inl a ↦ h.spread n a
          | inr b ↦ (z.0, (z.1.0, spread_here ∙ ap Some (sym (only g.0 n b))))
        ];
        held = λ n k c is s' m. elim (Contains-append_cases names (g.0 ∷ []) n c) [
          | inl a ↦ Contains-append_left found more s' (h.held n k a is s' m)
          | inr b ↦
              let same : k ≡ e.1.1.0 = same_Some _ _ (sym is ∙ ap (named_set_of fs) (only g.0 n b) ∙ e.1.1.1.0) in
              Contains-append_right found more s' (subst (λ u. Contains (always_in (meant_of_set u)) s') (ap (λ (u : NamedSet P). u.1) same ∙ e.1.1.1.1) m)
        ];
        done = λ i s' l q n k sp is. elim (cases i passed l) [
          | inl a ↦ Contains-append_left names (g.0 ∷ []) n (h.done i s' a (front found more i (below i a) ∙ q) n k sp is)
          | inr b ↦
              let same : s' ≡ s = same_Some _ _ (sym q ∙ sym (front found more i (subst (λ j. j < length found) (sym b) (slice_get_within found passed s at))) ∙ ap (slice_get found) b ∙ at) in
              let named : n ≡ g.0 = same_Some _ _ (sym sp ∙ ap spread_name same ∙ e.0) in
              Contains-append_right names (g.0 ∷ []) n (Contains-first g.0 [] n (sym named))
        ];
      }
    where
      cases : (i p : ℕ) → i < p + 1 → (i < p) ⊎ (i ≡ p)
      cases i p l = elim (cases_lt i p) [
        | inl a ↦ inl a
        | inr b ↦ inr (omega (arith, l, b))
      ]

      front : (xs ys : List (MeantSelection P)) (i : ℕ) → i < length xs → slice_get xs i ≡ slice_get (xs ++ ys) i
      front [] ys i l = absurd (omega (arith, l))
      front (x ∷ xs) ys zero l = refl
      front (x ∷ xs) ys (suc i) l = front xs ys i (omega (arith, l))

      below : (i : ℕ) → i < passed → i < length found
      below i l = let w = slice_get_within found passed s at in omega (arith, w, l)

  -- all are passed
  pub found_all : (found : List (MeantSelection P)) (passed : ℕ) (names : List (List ℕ)) → length found ≤ passed → Found d o fs found passed names → AreAlways d o found
  found_all found passed names end h s = (there, back)
    where
      has : (x : Standing P) → Contains (located true stays d o names) x → Contains found x.it
      has x c = elim (located_cases true stays d o names x c) [
        | inl a ↦ h.own x.it (subst (λ l. Contains l x.it) (contents_inside true stays (InOperation (operation_name o)) o.set) (in_mapped (λ (x : Standing P). x.it) (inside true stays (InOperation (operation_name o)) o.set) x a))
        | inr (n, (m, (f, (e, b)))) ↦
            let g = walk_finds t n f e in
            h.held n g.0 m g.1.0 x.it (subst (λ l. Contains l x.it) (contents_inside true stays (InFragment f.name.it) f.set ∙ ap always_in g.1.1.1) (in_mapped (λ (x : Standing P). x.it) (inside true stays (InFragment f.name.it) f.set) x b))
      ]

      closed : (x : Standing P) → Contains (located true stays d o names) x → (n : List ℕ) (f : MeantFragment P) → spread_name x.it ≡ Some n → fragment_named d n ≡ Some f → Contains names n
      closed x c n f sp e =
          let i = index_found found x.it (has x c) in
          let w = slice_get_within found i.0 x.it i.1 in
          let g = walk_finds t n f e in
          h.done i.0 x.it (omega (arith, w, end)) i.1 n g.0 sp g.1.0

      there : Contains found s → (x : Standing P) × (ReachedAlways d o x × (x.it ≡ s))
      there c = let x = h.right s c in (x.0, (always d o x.0 x.1.0, x.1.1))

      back : (x : Standing P) × (ReachedAlways d o x × (x.it ≡ s)) → Contains found s
      back (x, (r, e)) = subst (Contains found) e (has x (reached_located true stays d o names closed x (by_staying d o x r)))

  -- a step leaves less to do
  pub step_same : (found : List (MeantSelection P)) (passed : ℕ) (names : List (List ℕ)) → passed < length found → (length found - (passed + 1)) + to_come fs names < (length found - passed) + to_come fs names
  step_same found passed names l = omega (arith, l)

  pub step_more : (found : List (MeantSelection P)) (passed : ℕ) (names : List (List ℕ)) (s : MeantSelection P) (g : NamedSet P) → passed < length found → to_enter fs names s ≡ Some g
      → (length (found ++ always_in (meant_of_set g.1)) - (passed + 1)) + to_come fs (names ++ g.0 ∷ []) < (length found - passed) + to_come fs names
  step_more found passed names s g l enter =
      let e = enters fs names s g enter in
      let less = fewer fs names g.0 e.1.1.0 e.1.0 e.1.1.1.0 in
      let same : held_length e.1.1.0 ≡ length (always_in (meant_of_set g.1)) = ap (λ u. length (always_in (meant_of_set u))) e.1.1.1.1 in
      let long = length-append found (always_in (meant_of_set g.1)) in
      omega (arith, l, less, same, long)

  -- a step, whatever is entered
  pub walk_step : (found : List (MeantSelection P)) (passed : ℕ) (names new : List (List ℕ)) (s : MeantSelection P) (given : Option (TypedSet P)) → slice_get found passed ≡ Some s → given ≡ option_map (λ f. f.1) (to_enter fs names s)
      → new ≡ names ++ option_to_list (option_map (λ f. f.0) (to_enter fs names s)) → Found d o fs found passed names → Found d o fs (found ++ option_map_or (λ u. always_in (meant_of_set u)) given []) (passed + 1) new
  walk_step found passed names new s given at set noted h = by (to_enter fs names s) refl set noted
    where
      by : (q : Option (NamedSet P)) → to_enter fs names s ≡ q → given ≡ option_map (λ f. f.1) q → new ≡ names ++ option_to_list (option_map (λ f. f.0) q) → Found d o fs (found ++ option_map_or (λ u. always_in (meant_of_set u)) given []) (passed + 1) new
      by None e i n =
          subst (λ (q : Option (TypedSet P)). Found d o fs (found ++ option_map_or (λ u. always_in (meant_of_set u)) q []) (passed + 1) new) (sym i)
          (subst (Found d o fs (found ++ []) (passed + 1)) (sym (n ∙ append-nil names)) (subst (λ l. Found d o fs l (passed + 1) names) (sym (append-nil found)) (found_same found passed names s at e h)))
      by (Some g) e i n =
          subst (λ (q : Option (TypedSet P)). Found d o fs (found ++ option_map_or (λ u. always_in (meant_of_set u)) q []) (passed + 1) new) (sym i)
          (subst (Found d o fs (found ++ always_in (meant_of_set g.1)) (passed + 1)) (sym n) (found_more found passed names s g at e h))

  pub walk_less : (found : List (MeantSelection P)) (passed : ℕ) (names new : List (List ℕ)) (s : MeantSelection P) (given : Option (TypedSet P)) → passed < length found → given ≡ option_map (λ f. f.1) (to_enter fs names s)
      → new ≡ names ++ option_to_list (option_map (λ f. f.0) (to_enter fs names s))
      → (length (found ++ option_map_or (λ u. always_in (meant_of_set u)) given []) - (passed + 1)) + to_come fs new < (length found - passed) + to_come fs names
  walk_less found passed names new s given l set noted = by (to_enter fs names s) refl set noted
    where
      by : (q : Option (NamedSet P)) → to_enter fs names s ≡ q → given ≡ option_map (λ f. f.1) q → new ≡ names ++ option_to_list (option_map (λ f. f.0) q)
          → (length (found ++ option_map_or (λ u. always_in (meant_of_set u)) given []) - (passed + 1)) + to_come fs new < (length found - passed) + to_come fs names
      by None e i n =
          let long : length (found ++ option_map_or (λ u. always_in (meant_of_set u)) given []) ≡ length found = ap (λ (q : Option (TypedSet P)). length (found ++ option_map_or (λ u. always_in (meant_of_set u)) q [])) i ∙ ap length (append-nil found) in
          let same : to_come fs new ≡ to_come fs names = ap (to_come fs) (n ∙ append-nil names) in
          omega (arith, l, long, same)
      by (Some g) e i n =
          let long : length (found ++ option_map_or (λ u. always_in (meant_of_set u)) given []) ≡ length (found ++ always_in (meant_of_set g.1)) = ap (λ (q : Option (TypedSet P)). length (found ++ option_map_or (λ u. always_in (meant_of_set u)) q [])) i in
          let same : to_come fs new ≡ to_come fs (names ++ g.0 ∷ []) = ap (to_come fs) n in
          let less = step_more found passed names s g l e in
          omega (arith, long, same, less)
