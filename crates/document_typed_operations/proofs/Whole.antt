-- What is left of a walk at its start: each selection of the start and of each reached fragment, once.
use Rattle.std.proofs.Common.{◌≡◌, ◌++◌, ◌+◌, ◌-◌, ◌≤◌, ◌⊎◌, inl, inr, ℕ, zero, suc, Bool, true, false, List, [], ◌∷◌, map, length, refl, ap, sym, ◌∙◌, subst, append_assoc, append-nil, arith, true≢false, Contains}
use Rattle.std.specs.Prelude.{Option, Some, None, fold, slice_get, nat_eq, ◌||◌, if◌then◌else◌}
use Rattle.std.specs.List.{flat_map, filter, position, list_any, IsDistinct, AllByRecursion}
use Rattle.std.specs.Option.{option_map_or}
use Rattle.std.specs.Str.{bytes_eq}
use Rattle.indexmap.specs.IndexSet.{insert_key}
use Rattle.std.proofs.lemmas.Bool.Decides.{Decides-eqb}
use Rattle.std.proofs.lemmas.Bool.{eq-eqb}
use Rattle.std.proofs.lemmas.Cmp.{nat_eq_equiv}
use Rattle.std.proofs.lemmas.List.Elements.{Contains-append_left, Contains-append_right, Contains-append_cases, filter-append}
use Rattle.std.proofs.Common.{length-append}
use Rattle.std.proofs.lemmas.Map.Keys.{IsDistinct-push, IsDistinct-cons, IsDistinct-head, IsDistinct-tail}
use Rattle.std.proofs.lemmas.Map.Steps.{length-le_from_distinct_below}
use Rattle.std.proofs.lemmas.Option.{slice_get_past, slice_get_within}
use Rattle.std.proofs.lemmas.Slice.Eq.{bytes_eq-Decides}
use Rattle.document_typed_selections.specs.TypedTree.{TypedSet}
use Rattle.document_typed_operations.specs.Reached.{NamedSet, Fragments, Member, members_in, selections_in, is_field, fields_of_set, spread_names, Spreads, fragment_named, ReachedFragment, by_start, by_fragment, IsWalk, IsMemberWalk}
use Rattle.document_typed_operations.specs.Left.{note, note_all, selections_at, members_at, left_in_fragments, bare_selections, fields_among, left_members, at_start}
use Rattle.document_typed_operations.proofs.Finding.{position-map, none_is_some, some_is, FoundAt, found_at, place_of_found, not_in_nil, Contains-cons, Contains-first}
use Rattle.document_typed_operations.proofs.Passing.{map-append, members_in-list, bare_in}

-- a number is among these
abbrev pub has : ℕ → List ℕ → Bool
has i is = list_any (nat_eq i) is

same : (i j : ℕ) → nat_eq i j ≡ true → i ≡ j
same i j h = (Decides-eqb i j).0 h

has_more : (i : ℕ) (xs ys : List ℕ) → has i xs ≡ true → has i (xs ++ ys) ≡ true
has_more i [] ys h = absurd (true≢false (sym h))
has_more i (x ∷ xs) ys h = by (nat_eq i x) refl (has_more i xs ys)
  where
    by : (b : Bool) → nat_eq i x ≡ b → (has i xs ≡ true → has i (xs ++ ys) ≡ true) → has i (x ∷ xs ++ ys) ≡ true
    by true is further = ap (λ b. b || has i (xs ++ ys)) is
    by false is further = ap (λ b. b || has i (xs ++ ys)) is ∙ further (sym (ap (λ b. b || has i xs) is) ∙ h)

has_cases : (i : ℕ) (xs ys : List ℕ) → has i (xs ++ ys) ≡ true → (has i xs ≡ true) ⊎ (has i ys ≡ true)
has_cases i [] ys h = inr h
has_cases i (x ∷ xs) ys h = by (nat_eq i x) refl (has_cases i xs ys)
  where
    by : (b : Bool) → nat_eq i x ≡ b → (has i (xs ++ ys) ≡ true → (has i xs ≡ true) ⊎ (has i ys ≡ true)) → (has i (x ∷ xs) ≡ true) ⊎ (has i ys ≡ true)
    by true is further = inl (ap (λ b. b || has i xs) is)
    by false is further = elim (further (sym (ap (λ b. b || has i (xs ++ ys)) is) ∙ h)) [
      | inl e ↦ inl (ap (λ b. b || has i xs) is ∙ e)
      | inr e ↦ inr e
    ]

has_one : (i j : ℕ) → has i (j ∷ []) ≡ true → i ≡ j
has_one i j h = by (nat_eq i j) refl
  where
    by : (b : Bool) → nat_eq i j ≡ b → i ≡ j
    by true is = same i j is
    by false is = absurd (true≢false (sym h ∙ ap (λ b. b || false) is))

has_last : (i : ℕ) (xs : List ℕ) (ys : List ℕ) → has i (xs ++ i ∷ ys) ≡ true
has_last i [] ys = ap (λ b. b || has i ys) (eq-eqb i i refl)
has_last i (x ∷ xs) ys = ap (λ b. nat_eq i x || b) (has_last i xs ys) ∙ any_true (nat_eq i x)
  where
    any_true : (b : Bool) → (b || true) ≡ true
    any_true true = refl
    any_true false = refl

all_push : {X : Type 0} (A : X → Type 0) (xs : List X) (x : X) → AllByRecursion A xs → A x → AllByRecursion A (xs ++ x ∷ [])
all_push A [] x all here = (here, tt)
all_push A (y ∷ ys) x all here = (all.0, all_push A ys x all.1 here)

get_mid : {X : Type 0} (xs : List X) (x : X) (ys : List X) → slice_get (xs ++ x ∷ ys) (length xs) ≡ Some x
get_mid [] x ys = refl
get_mid (y ∷ xs) x ys = get_mid xs x ys

pub none_twice : {X : Type 0} (eq : X → X → Bool) → IsDistinct eq []
unfolding IsDistinct
none_twice eq = tt

-- the index of the fragment with that name
abbrev pub place_in : {P : Type 0} → Fragments P → List ℕ → Option ℕ
place_in fs n = position (bytes_eq n) (map (λ f. f.0) fs)

-- the fragment at a place, which is the first of its name, and reached
pub record Known {P : Type 0} (nested : Bool) (fs : Fragments P) (start : TypedSet P) (i : ℕ) : Type 0 where
  pub fragment : NamedSet P
  pub stands : slice_get fs i ≡ Some fragment
  pub place : place_in fs fragment.0 ≡ Some i
  pub reached : ReachedFragment nested fs start fragment

-- reached fragments, each once
pub record Good {P : Type 0} (nested : Bool) (fs : Fragments P) (start : TypedSet P) (is : List ℕ) : Type 0 where
  pub known : AllByRecursion (Known nested fs start) is
  pub distinct : IsDistinct nat_eq is

-- after some names are noted
pub record Notes {P : Type 0} (nested : Bool) (fs : Fragments P) (start : TypedSet P) (old : List ℕ) (names : List (List ℕ)) (new : List ℕ) : Type 0 where
  pub more : List ℕ
  pub is : new ≡ old ++ more
  pub good : Good nested fs start new
  pub all : (n : List ℕ) → Contains names n → (i : ℕ) → place_in fs n ≡ Some i → has i new ≡ true

-- what the fragment at a place spreads is among these
abbrev pub SpreadsAmong : {P : Type 0} → Bool → Fragments P → List ℕ → ℕ → Type 0
SpreadsAmong nested fs is i = (n : List ℕ) → Contains (flat_map spread_names (selections_at nested fs i)) n → (j : ℕ) → place_in fs n ≡ Some j → has j is ≡ true

-- reached fragments, each once, the noted ones among them and those that they spread
pub record Ends {P : Type 0} (nested : Bool) (fs : Fragments P) (start : TypedSet P) (noted all : List ℕ) : Type 0 where
  pub good : Good nested fs start all
  pub kept : (i : ℕ) → has i noted ≡ true → has i all ≡ true
  pub closed : (i : ℕ) → has i all ≡ true → SpreadsAmong nested fs all i

-- the places of the fragments that a walk enters
abbrev pub entering : {P : Type 0} → Bool → Fragments P → ℕ → List ℕ → ℕ → List ℕ
entering nested fs zero noted e = []
entering nested fs (suc room) noted e = option_map_or (λ i. i ∷ entering nested fs room (note_all fs noted (selections_at nested fs i)) (e + 1)) (slice_get noted e) []

-- the fragment at a place
abbrev pub entry_if : {P : Type 0} → Option (NamedSet P) → List (NamedSet P)
entry_if o = option_map_or (λ f. f ∷ []) o []

module _ {P : Type 0} (nested : Bool) (fs : Fragments P) (start : TypedSet P) where
  left_entering : (room : ℕ) (noted : List ℕ) (e : ℕ) → left_in_fragments nested fs room noted e ≡ flat_map (members_at nested fs) (entering nested fs room noted e)
  left_entering zero noted e = refl
  left_entering (suc room) noted e = by (slice_get noted e) (λ i. left_entering room (note_all fs noted (selections_at nested fs i)) (e + 1))
    where
      by : (o : Option ℕ) → ((i : ℕ) → left_in_fragments nested fs room (note_all fs noted (selections_at nested fs i)) (e + 1) ≡ flat_map (members_at nested fs) (entering nested fs room (note_all fs noted (selections_at nested fs i)) (e + 1)))
          → option_map_or (λ i. members_at nested fs i ++ left_in_fragments nested fs room (note_all fs noted (selections_at nested fs i)) (e + 1)) o []
          ≡ flat_map (members_at nested fs) (option_map_or (λ i. i ∷ entering nested fs room (note_all fs noted (selections_at nested fs i)) (e + 1)) o [])
      by None further = refl
      by (Some i) further = ap (λ l. members_at nested fs i ++ l) (further i)

  at_place : (n : List ℕ) (i : ℕ) → place_in fs n ≡ Some i → FoundAt (λ (f : NamedSet P). bytes_eq n f.0) fs i
  at_place n i h = found_at (λ (f : NamedSet P). bytes_eq n f.0) fs i (sym (position-map (λ (f : NamedSet P). f.0) (bytes_eq n) fs) ∙ h)

  known_at : (n : List ℕ) (i : ℕ) → place_in fs n ≡ Some i → ((f : NamedSet P) → fragment_named fs n ≡ Some f → ReachedFragment nested fs start f) → Known nested fs start i
  known_at n i h reached = let at = at_place n i h in record {
    fragment = at.item;
    stands = at.stands;
    place = subst (λ m. place_in fs m ≡ Some i) ((bytes_eq-Decides n at.item.0).0 at.passes) h;
    reached = reached at.item at.first;
  }

  known_of : (is : List ℕ) (i : ℕ) → AllByRecursion (Known nested fs start) is → has i is ≡ true → Known nested fs start i
  known_of [] i all h = absurd (true≢false (sym h))
  known_of (j ∷ js) i all h = by (nat_eq i j) refl (known_of js i all.1)
    where
      by : (b : Bool) → nat_eq i j ≡ b → (has i js ≡ true → Known nested fs start i) → Known nested fs start i
      by true is further = subst (Known nested fs start) (sym (same i j is)) all.0
      by false is further = further (sym (ap (λ b. b || has i js) is) ∙ h)

  within_fragments : (is : List ℕ) → Good nested fs start is → length is ≤ length fs
  within_fragments is good = length-le_from_distinct_below is (length fs) good.distinct (λ i h. let k = known_of is i good.known h in slice_get_within fs i k.fragment k.stands)

  note_one : (old : List ℕ) (n : List ℕ) → Good nested fs start old → ((f : NamedSet P) → fragment_named fs n ≡ Some f → ReachedFragment nested fs start f) → Notes nested fs start old (n ∷ []) (note fs old n)
  note_one old n good reached = by (place_in fs n) refl
    where
      only : (m : List ℕ) → Contains (n ∷ []) m → n ≡ m
      only m h = elim (Contains-cons n [] m h) [
        | inl e ↦ e
        | inr e ↦ absurd (not_in_nil m e)
      ]

      placed : (i : ℕ) → place_in fs n ≡ Some i → (b : Bool) → has i old ≡ b → Notes nested fs start old (n ∷ []) (if b then old else old ++ i ∷ [])
      placed i at true is = record {
        more = [];
        is = sym (append-nil old);
        good = good;
        all = λ m h j at'. subst (λ k. has k old ≡ true) (some_is i j (sym at ∙ ap (place_in fs) (only m h) ∙ at')) is;
      }
      placed i at false is = record {
        more = i ∷ [];
        is = refl;
        good = record {
          known = all_push (Known nested fs start) old i good.known (known_at n i at reached);
          distinct = IsDistinct-push nat_eq_equiv old i good.distinct is;
        };
        all = λ m h j at'. subst (λ k. has k (old ++ i ∷ []) ≡ true) (some_is i j (sym at ∙ ap (place_in fs) (only m h) ∙ at')) (has_last i old []);
      }

      by : (o : Option ℕ) → place_in fs n ≡ o → Notes nested fs start old (n ∷ []) (option_map_or (insert_key nat_eq old) o old)
      by None is = record {
        more = [];
        is = sym (append-nil old);
        good = good;
        all = λ m h j at'. none_is_some j (sym is ∙ ap (place_in fs) (only m h) ∙ at');
      }
      by (Some i) is = placed i is (has i old) refl

  note_names : (names : List (List ℕ)) (old : List ℕ) → Good nested fs start old → ((n : List ℕ) → Contains names n → (f : NamedSet P) → fragment_named fs n ≡ Some f → ReachedFragment nested fs start f) → Notes nested fs start old names (fold (note fs) old names)
  note_names [] old good reached = record {
    more = [];
    is = sym (append-nil old);
    good = good;
    all = λ n h i at. absurd (not_in_nil n h);
  }
  note_names (n ∷ ns) old good reached =
      let one = note_one old n good (reached n (Contains-first n ns n refl)) in
      let rest = note_names ns (note fs old n) one.good (λ m h. reached m (Contains-append_right (n ∷ []) ns m h)) in
      record {
        more = one.more ++ rest.more;
        is = rest.is ∙ ap (λ l. l ++ rest.more) one.is ∙ append_assoc old one.more rest.more;
        good = rest.good;
        all = λ m h i at. elim (Contains-append_cases (n ∷ []) ns m h) [
          | inl e ↦ subst (λ l. has i l ≡ true) (sym rest.is) (has_more i (note fs old n) rest.more (one.all m e i at))
          | inr e ↦ rest.all m e i at
        ];
      }

  -- what a known fragment spreads is reached
  spread_reached : (i : ℕ) → Known nested fs start i → (n : List ℕ) → Contains (flat_map spread_names (selections_at nested fs i)) n → (f : NamedSet P) → fragment_named fs n ≡ Some f → ReachedFragment nested fs start f
  spread_reached i k n h f named = by_fragment k.fragment n k.reached
      (subst (λ (o : Option (NamedSet P)). Contains (flat_map spread_names (option_map_or (λ g. selections_in nested g.1) o [])) n) k.stands h) named

  ends_here : (done : List ℕ) → Good nested fs start (done ++ []) → ((i : ℕ) → has i done ≡ true → SpreadsAmong nested fs (done ++ []) i) → Ends nested fs start (done ++ []) (done ++ [])
  ends_here done good closed = record {
    good = good;
    kept = λ i h. h;
    closed = λ i h. closed i (subst (λ (l : List ℕ). has i l ≡ true) (append-nil done) h);
  }

  length_one : (done : List ℕ) (p e : ℕ) → e ≡ length done → e + 1 ≡ length (done ++ p ∷ [])
  length_one done p e at = let count : length (done ++ p ∷ []) ≡ length done + 1 = length-append done (p ∷ []) in omega (at, count, arith)

  closed_on : (done : List ℕ) (p : ℕ) (ps more noted : List ℕ) → noted ≡ (done ++ p ∷ ps) ++ more → noted ≡ (done ++ p ∷ []) ++ (ps ++ more)
      → ((i : ℕ) → has i done ≡ true → SpreadsAmong nested fs (done ++ p ∷ ps) i) → SpreadsAmong nested fs noted p
      → (i : ℕ) → has i (done ++ p ∷ []) ≡ true → SpreadsAmong nested fs ((done ++ p ∷ []) ++ (ps ++ more)) i
  closed_on done p ps more noted is split closed here i h n spread j at = subst (λ (l : List ℕ). has j l ≡ true) split (by (has_cases i done (p ∷ []) h))
    where
      by : (has i done ≡ true) ⊎ (has i (p ∷ []) ≡ true) → has j noted ≡ true
      by (inl e) = subst (λ (l : List ℕ). has j l ≡ true) (sym is) (has_more j (done ++ p ∷ ps) more (closed i e n spread j at))
      by (inr e) = here n (subst (λ (k : ℕ). Contains (flat_map spread_names (selections_at nested fs k)) n) (has_one i p e) spread) j at

  went_on : (room : ℕ) (done : List ℕ) (p : ℕ) (ps : List ℕ) (e : ℕ) (noted more : List ℕ) → noted ≡ (done ++ p ∷ ps) ++ more → noted ≡ (done ++ p ∷ []) ++ (ps ++ more)
      → Ends nested fs start ((done ++ p ∷ []) ++ (ps ++ more)) ((done ++ p ∷ []) ++ entering nested fs room ((done ++ p ∷ []) ++ (ps ++ more)) (e + 1))
      → Ends nested fs start (done ++ p ∷ ps) (done ++ p ∷ entering nested fs room noted (e + 1))
  went_on room done p ps e noted more is split rest =
      let all : (done ++ p ∷ []) ++ entering nested fs room ((done ++ p ∷ []) ++ (ps ++ more)) (e + 1) ≡ done ++ p ∷ entering nested fs room noted (e + 1) =
      append_assoc done (p ∷ []) (entering nested fs room ((done ++ p ∷ []) ++ (ps ++ more)) (e + 1)) ∙ ap (λ (l : List ℕ). done ++ p ∷ entering nested fs room l (e + 1)) (sym split) in
      subst (Ends nested fs start (done ++ p ∷ ps)) all (record {
        good = rest.good;
        kept = λ i h. rest.kept i (subst (λ (l : List ℕ). has i l ≡ true) (sym is ∙ split) (has_more i (done ++ p ∷ ps) more h));
        closed = rest.closed;
      })

  -- a walk that has entered the first of the noted fragments enters all that are noted, and those that are noted on the
  -- way, if it can enter as many as there are
  ends : (room : ℕ) (done todo : List ℕ) (e : ℕ) → e ≡ length done → room + e ≡ length fs → Good nested fs start (done ++ todo)
      → ((i : ℕ) → has i done ≡ true → SpreadsAmong nested fs (done ++ todo) i)
      → Ends nested fs start (done ++ todo) (done ++ entering nested fs room (done ++ todo) e)
  ends zero done [] e at all good closed = ends_here done good closed
  ends zero done (p ∷ ps) e at all good closed =
      let most : length (done ++ p ∷ ps) ≤ length fs = within_fragments (done ++ p ∷ ps) good in
      let count : length (done ++ p ∷ ps) ≡ length done + suc (length ps) = length-append done (p ∷ ps) in
      absurd (omega (at, all, most, count, arith))
  ends (suc room) done [] e at all good closed =
      let past : slice_get (done ++ []) e ≡ None = slice_get_past (done ++ []) e (omega (at, ap length (append-nil done), arith)) in
      subst (λ (o : Option ℕ). Ends nested fs start (done ++ []) (done ++ option_map_or (λ i. i ∷ entering nested fs room (note_all fs (done ++ []) (selections_at nested fs i)) (e + 1)) o [])) (sym past)
      (ends_here done good closed)
  ends (suc room) done (p ∷ ps) e at all good closed =
      let next : slice_get (done ++ p ∷ ps) e ≡ Some p = subst (λ (k : ℕ). slice_get (done ++ p ∷ ps) k ≡ Some p) (sym at) (get_mid done p ps) in
      let known = known_of (done ++ p ∷ ps) p good.known (has_last p done ps) in
      let notes = note_names (flat_map spread_names (selections_at nested fs p)) (done ++ p ∷ ps) good (spread_reached p known) in
      let split : note_all fs (done ++ p ∷ ps) (selections_at nested fs p) ≡ (done ++ p ∷ []) ++ (ps ++ notes.more) =
      notes.is ∙ append_assoc done (p ∷ ps) notes.more ∙ sym (append_assoc done (p ∷ []) (ps ++ notes.more)) in
      subst (λ (o : Option ℕ). Ends nested fs start (done ++ p ∷ ps) (done ++ option_map_or (λ i. i ∷ entering nested fs room (note_all fs (done ++ p ∷ ps) (selections_at nested fs i)) (e + 1)) o [])) (sym next)
      (went_on room done p ps e (note_all fs (done ++ p ∷ ps) (selections_at nested fs p)) notes.more notes.is split
      (ends room (done ++ p ∷ []) (ps ++ notes.more) (e + 1) (length_one done p e at) (omega (all, arith)) (subst (Good nested fs start) split notes.good)
      (closed_on done p ps notes.more (note_all fs (done ++ p ∷ ps) (selections_at nested fs p)) notes.is split closed notes.all)))

  -- the members in the order of the fragments
  members_order : (is : List ℕ) → flat_map (members_at nested fs) is ≡ flat_map (λ (f : NamedSet P). members_in nested f.1) (flat_map (λ i. entry_if (slice_get fs i)) is)
  members_order [] = refl
  members_order (i ∷ is) = by (slice_get fs i) (members_order is)
    where
      by : (o : Option (NamedSet P)) → flat_map (members_at nested fs) is ≡ flat_map (λ (f : NamedSet P). members_in nested f.1) (flat_map (λ k. entry_if (slice_get fs k)) is)
          → option_map_or (λ (f : NamedSet P). members_in nested f.1) o [] ++ flat_map (members_at nested fs) is
          ≡ flat_map (λ (f : NamedSet P). members_in nested f.1) (entry_if o ++ flat_map (λ k. entry_if (slice_get fs k)) is)
      by None rest = rest
      by (Some f) rest = ap (λ l. members_in nested f.1 ++ l) rest

  -- two places have two names
  other_name : (i j : ℕ) (k : Known nested fs start i) (l : Known nested fs start j) → nat_eq i j ≡ false → bytes_eq k.fragment.0 l.fragment.0 ≡ false
  other_name i j k l apart = by (bytes_eq k.fragment.0 l.fragment.0) refl
    where
      by : (b : Bool) → bytes_eq k.fragment.0 l.fragment.0 ≡ b → bytes_eq k.fragment.0 l.fragment.0 ≡ false
      by true is = absurd (true≢false (sym (eq-eqb i j (some_is i j (sym k.place ∙ ap (place_in fs) ((bytes_eq-Decides k.fragment.0 l.fragment.0).0 is) ∙ l.place))) ∙ apart))
      by false is = is

  other_names : (i : ℕ) (k : Known nested fs start i) (js : List ℕ) → AllByRecursion (λ j. nat_eq i j ≡ false) js → AllByRecursion (Known nested fs start) js
      → AllByRecursion (λ m. bytes_eq k.fragment.0 m ≡ false) (map (λ (f : NamedSet P). f.0) (flat_map (λ j. entry_if (slice_get fs j)) js))
  other_names i k [] apart known = tt
  other_names i k (j ∷ js) apart known =
      subst (λ (o : Option (NamedSet P)). AllByRecursion (λ m. bytes_eq k.fragment.0 m ≡ false) (map (λ (f : NamedSet P). f.0) (entry_if o ++ flat_map (λ h. entry_if (slice_get fs h)) js))) (sym known.0.stands)
      (other_name i j k known.0 apart.0, other_names i k js apart.1 known.1)

  once : (is : List ℕ) → AllByRecursion (Known nested fs start) is → IsDistinct nat_eq is → IsDistinct bytes_eq (map (λ (f : NamedSet P). f.0) (flat_map (λ i. entry_if (slice_get fs i)) is))
  once [] known apart = none_twice bytes_eq
  once (i ∷ is) known apart =
      subst (λ (o : Option (NamedSet P)). IsDistinct bytes_eq (map (λ (f : NamedSet P). f.0) (entry_if o ++ flat_map (λ j. entry_if (slice_get fs j)) is))) (sym known.0.stands)
      (IsDistinct-cons bytes_eq known.0.fragment.0 (map (λ (f : NamedSet P). f.0) (flat_map (λ j. entry_if (slice_get fs j)) is))
      (other_names i known.0 is (IsDistinct-head nat_eq i is apart) known.1)
      (once is known.1 (IsDistinct-tail nat_eq i is apart)))

  -- each fragment in the order is reached
  order_reached : (is : List ℕ) → AllByRecursion (Known nested fs start) is → (f : NamedSet P) → Contains (flat_map (λ i. entry_if (slice_get fs i)) is) f → ReachedFragment nested fs start f
  order_reached [] known f h = absurd (not_in_nil f h)
  order_reached (i ∷ is) known f h = by (Contains-append_cases (known.0.fragment ∷ []) (flat_map (λ j. entry_if (slice_get fs j)) is) f (subst (λ (o : Option (NamedSet P)). Contains (entry_if o ++ flat_map (λ j. entry_if (slice_get fs j)) is) f) known.0.stands h)) (order_reached is known.1 f)
    where
      this : (known.0.fragment ≡ f) ⊎ Contains [] f → ReachedFragment nested fs start f
      this (inl e) = subst (ReachedFragment nested fs start) e known.0.reached
      this (inr e) = absurd (not_in_nil f e)

      by : Contains (known.0.fragment ∷ []) f ⊎ Contains (flat_map (λ j. entry_if (slice_get fs j)) is) f → (Contains (flat_map (λ j. entry_if (slice_get fs j)) is) f → ReachedFragment nested fs start f) → ReachedFragment nested fs start f
      by (inl e) further = this (Contains-cons known.0.fragment [] f e)
      by (inr e) further = further e

  -- the fragment at each index that was entered is in the order
  order_has : (is : List ℕ) (i : ℕ) (f : NamedSet P) → has i is ≡ true → slice_get fs i ≡ Some f → Contains (flat_map (λ j. entry_if (slice_get fs j)) is) f
  order_has [] i f h at = absurd (true≢false (sym h))
  order_has (j ∷ js) i f h at = by (nat_eq i j) refl (order_has js i f)
    where
      by : (b : Bool) → nat_eq i j ≡ b → (has i js ≡ true → slice_get fs i ≡ Some f → Contains (flat_map (λ k. entry_if (slice_get fs k)) js) f) → Contains (flat_map (λ k. entry_if (slice_get fs k)) (j ∷ js)) f
      by true is further = Contains-append_left (entry_if (slice_get fs j)) (flat_map (λ k. entry_if (slice_get fs k)) js) f
          (subst (λ (o : Option (NamedSet P)). Contains (entry_if o) f) (sym (ap (slice_get fs) (sym (same i j is)) ∙ at)) (Contains-first f [] f refl))
      by false is further = Contains-append_right (entry_if (slice_get fs j)) (flat_map (λ k. entry_if (slice_get fs k)) js) f (further (sym (ap (λ b. b || has i js) is) ∙ h) at)

  -- an index that is entered, and is that of the fragment
  abbrev IsInSelections : List ℕ → NamedSet P → Type 0
  IsInSelections is f = (i : ℕ) × ((has i is ≡ true) × (slice_get fs i ≡ Some f))

  place_named : (n : List ℕ) (f : NamedSet P) → fragment_named fs n ≡ Some f → (i : ℕ) × ((place_in fs n ≡ Some i) × (slice_get fs i ≡ Some f))
  place_named n f named =
      let found = place_of_found (λ (g : NamedSet P). bytes_eq n g.0) fs f named in
      (found.0, (position-map (λ (g : NamedSet P). g.0) (bytes_eq n) fs ∙ found.1.0, found.1.1))

  -- what is reached is at one of the indices, if what the start spreads is, and what these spread is
  lies_in : (is : List ℕ) → ((n : List ℕ) → Spreads nested start n → (i : ℕ) → place_in fs n ≡ Some i → has i is ≡ true) → ((i : ℕ) → has i is ≡ true → SpreadsAmong nested fs is i)
      → (f : NamedSet P) → ReachedFragment nested fs start f → IsInSelections is f
  lies_in is from closed f (by_start n spread named) =
      let found = place_named n f named in
      (found.0, (from n spread found.0 found.1.0, found.1.1))
  lies_in is from closed f (by_fragment g n reached spread named) =
      let from_g = lies_in is from closed g reached in
      let found = place_named n f named in (
        found.0,
        (
          closed from_g.0 from_g.1.0 n
              (subst (λ (o : Option (NamedSet P)). Contains (flat_map spread_names (option_map_or (λ (h : NamedSet P). selections_in nested h.1) o [])) n) (sym from_g.1.1) spread) found.0 found.1.0,
          found.1.1,
        ),
      )

  nothing_noted : Good nested fs start []
  nothing_noted = record { known = tt; distinct = none_twice nat_eq }

  -- the places that a walk enters, from its start on
  abbrev first_noted : List ℕ
  first_noted = note_all fs [] (selections_in nested start)

  abbrev entered_all : List ℕ
  entered_all = entering nested fs (length fs) first_noted 0

  start_notes : Notes nested fs start [] (flat_map spread_names (selections_in nested start)) first_noted
  start_notes = note_names (flat_map spread_names (selections_in nested start)) [] nothing_noted (λ n h f named. by_start n h named)

  all_entered : Ends nested fs start first_noted entered_all
  all_entered = ends (length fs) [] first_noted 0 refl (omega arith) start_notes.good (λ i h. absurd (true≢false (sym h)))

  left_of_start : left_members (at_start nested fs start) ≡ members_in nested start ++ flat_map (λ (f : NamedSet P). members_in nested f.1) (flat_map (λ i. entry_if (slice_get fs i)) entered_all)
  left_of_start =
      let room : length fs - 0 ≡ length fs = omega arith in
      ap (λ l. l ++ left_in_fragments nested fs (length fs - 0) (note_all fs [] (bare_selections l)) 0) (sym (members_in-list nested start))
      ∙ ap (λ l. members_in nested start ++ left_in_fragments nested fs (length fs - 0) (note_all fs [] l) 0) (bare_in nested start)
      ∙ ap (λ r. members_in nested start ++ left_in_fragments nested fs r first_noted 0) room
      ∙ ap (λ l. members_in nested start ++ l) (left_entering (length fs) first_noted 0 ∙ members_order entered_all)

  pub whole : IsMemberWalk nested fs start (left_members (at_start nested fs start))
  whole = record {
    order = flat_map (λ i. entry_if (slice_get fs i)) entered_all;
    reached = λ f. (
      order_reached entered_all all_entered.good.known f,
      λ r. let at = lies_in entered_all (λ n h i place. all_entered.kept i (start_notes.all n h i place)) all_entered.closed f r in order_has entered_all at.0 f at.1.0 at.1.1,
    );
    once = once entered_all all_entered.good.known all_entered.good.distinct;
    members = left_of_start;
  }

  -- ---- the fields among them

  among_in : (s : TypedSet P) → fields_among (members_in nested s) ≡ fields_of_set nested s
  among_in s = ap (filter is_field) (bare_in nested s)

  among-append : (xs ys : List (Member P)) → fields_among (xs ++ ys) ≡ fields_among xs ++ fields_among ys
  among-append xs ys = ap (filter is_field) (map-append (λ (e : Member P). e.1) xs ys) ∙ filter-append is_field (bare_selections xs) (bare_selections ys)

  among_each : (gs : List (NamedSet P)) → fields_among (flat_map (λ (f : NamedSet P). members_in nested f.1) gs) ≡ flat_map (λ (f : NamedSet P). fields_of_set nested f.1) gs
  among_each [] = refl
  among_each (g ∷ gs) = among-append (members_in nested g.1) (flat_map (λ (f : NamedSet P). members_in nested f.1) gs) ∙ (λ i. among_in g.1 i ++ among_each gs i)

  -- of a walk over selections the fields are a walk over fields
  pub fields_walk : (given : List (Member P)) → IsMemberWalk nested fs start given → IsWalk nested fs start (fields_among given)
  fields_walk given walk = record {
    order = walk.order;
    reached = walk.reached;
    once = walk.once;
    fields = ap fields_among walk.members ∙ among-append (members_in nested start) (flat_map (λ (f : NamedSet P). members_in nested f.1) walk.order) ∙ (λ i. among_in start i ++ among_each walk.order i);
  }
