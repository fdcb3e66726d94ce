-- Lists of faults and the rules that they tell, piece by piece: once for all rules. `Is` says that a fault is told as something.
use Rattle.std.proofs.Common.{◌≡◌, ℕ, ◌<◌, ◌⊎◌, ◌↔◌, Bool, true, false, List, [], ◌∷◌, ◌++◌, map, refl, sym, ap, subst, ◌∙◌, inl, inr, Option, None, Some, Contains, slice_get, take, zero, suc, arith, append_assoc, if◌then◌else◌, true≢false}
use Rattle.std.specs.List.{flat_map, find, IsDistinct}
use Rattle.std.specs.Map.{keys_of}
use Rattle.std.specs.Option.{option_map, option_map_or}
use Rattle.std.specs.Str.{bytes_eq}
use Rattle.std.proofs.lemmas.List.Elements.{Contains-append_left, Contains-append_right, Contains-append_cases}
use Rattle.std.proofs.lemmas.List.{append-nil}
use Rattle.std.proofs.lemmas.Option.{same_Some}
use Rattle.std.proofs.lemmas.Slice.Eq.{bytes_eq-Decides}
use Rattle.schema_types.specs.in_components.Lists.{is_among, each_place_after, each_place}
use Rattle.schema_types.specs.in_components.Names.{Entries}
use Rattle.schema_types.specs.Addresses.{under}
use Rattle.rule_definitions.specs.Words.{Present, Somewhere, Among, AtSomeIndex, IsFirst, FirstNamed, Repeats}
use Rattle.rule_cycle_search.proofs.Lists.{found_in, given_in, not_in_nil, only, is_only, index_found, index_given, slice_get-map, mapped_some}
use Rattle.rule_definitions.proofs.Lookups.{under_found, under_given, find_of, first_found, none_found, among_found, among_given}

same_index : (a b : ℕ) → (a < b → ⊥) → (b < a → ⊥) → a ≡ b
same_index zero zero h k = refl
same_index zero (suc b) h k = absurd (h (omega arith))
same_index (suc a) zero h k = absurd (k (omega arith))
same_index (suc a) (suc b) h k = ap suc (same_index a b (λ l. h (omega (arith, l))) (λ l. k (omega (arith, l))))

module _ {A B : Type 0} (Is : A → B → Type 0) where
  -- the list has what breaks the rule, each as it is told, and nothing else
  abbrev pub Tells : List B → (A → Type 0) → Type 0
  Tells l R = (f : B) → Contains l f ↔ ((g : A) × (R g × Is g f))

  -- g is told as x, and as nothing else
  abbrev pub Says : A → B → Type 0
  Says g x = (f : B) → Is g f ↔ (f ≡ x)

  -- a rule in other words
  pub tells_same : (l : List B) (R Q : A → Type 0) → ((g : A) → R g ↔ Q g) → Tells l R → Tells l Q
  tells_same l R Q same tells f = (
    λ h. let r = (tells f).0 h in (r.0, ((same r.0).0 r.1.0, r.1.1)),
    λ q. (tells f).1 (q.0, ((same q.0).1 q.1.0, q.1.1)),
  )

  -- another list
  pub tells_list : (l m : List B) (R : A → Type 0) → l ≡ m → Tells l R → Tells m R
  tells_list l m R e tells = subst (λ k. Tells k R) e tells

  -- one list after the other
  pub tells_both : (l m : List B) (R Q : A → Type 0) → Tells l R → Tells m Q → Tells (l ++ m) (λ g. R g ⊎ Q g)
  tells_both l m R Q a b f = (
    λ h. elim (Contains-append_cases l m f h) [
      | inl e ↦ let r = (a f).0 e in (r.0, (inl r.1.0, r.1.1))
      | inr e ↦ let r = (b f).0 e in (r.0, (inr r.1.0, r.1.1))
    ],
    λ q. elim q.1.0 [
      | inl r ↦ Contains-append_left l m f ((a f).1 (q.0, (r, q.1.1)))
      | inr r ↦ Contains-append_right l m f ((b f).1 (q.0, (r, q.1.1)))
    ],
  )

  -- nothing, where the rule holds
  pub tells_nothing : (R : A → Type 0) → ((g : A) → R g → ⊥) → Tells [] R
  tells_nothing R none f = (λ h. not_in_nil f h, λ q. absurd (none q.0 q.1.0))

  -- one fault, where Q holds of the place
  pub tells_one : (Q : Type 0) (x : B) (g : A) → Q → Says g x → Tells (x ∷ []) (λ y. Q × (y ≡ g))
  tells_one Q x g holds says f = (
    λ h. (g, ((holds, refl), (says f).1 (only x f h))),
    λ q. is_only x f ((says f).0 (subst (λ y. Is y f) q.1.0.1 q.1.1)),
  )

  -- nothing, where Q does not hold of the place
  pub tells_no : (Q : Type 0) (g : A) → (Q → ⊥) → Tells [] (λ y. Q × (y ≡ g))
  tells_no Q g fails = tells_nothing (λ y. Q × (y ≡ g)) (λ y r. fails r.0)

  -- a fault where a test holds, where it fails, and where there is nothing
  pub tells_when : (b : Bool) (x : B) (g : A) → Says g x → Tells (if b then x ∷ [] else []) (λ y. (b ≡ true) × (y ≡ g))
  tells_when true x g says = tells_one (true ≡ true) x g refl says
  tells_when false x g says = tells_no (false ≡ true) g (λ e. true≢false (sym e))

  pub tells_unless : (b : Bool) (x : B) (g : A) → Says g x → Tells (if b then [] else x ∷ []) (λ y. (b ≡ false) × (y ≡ g))
  tells_unless true x g says = tells_no (true ≡ false) g (λ e. true≢false e)
  tells_unless false x g says = tells_one (false ≡ false) x g refl says

  -- u gives what the rule says of what stands there
  module _ {X Y : Type 0} (u : X → Y) where
    -- of what a lookup finds
    pub tells_present : (o : Option X) (look : Option Y) → look ≡ option_map u o → (tells : X → List B) (R : Y → A → Type 0) → ((x : X) → o ≡ Some x → Tells (tells x) (R (u x)))
        → Tells (option_map_or tells o []) (λ g. Present look (λ y. R y g))
    tells_present None look same tells R each f = (λ h. not_in_nil f h, λ q. let e : None ≡ Some q.1.0.0 = sym same ∙ q.1.0.1.0 in cc)
    tells_present (Some x) look same tells R each f = (
      λ h. let r = (each x refl f).0 h in (r.0, ((u x, (same, r.1.0)), r.1.1)),
      λ q. let is : u x ≡ q.1.0.0 = same_Some _ _ (sym same ∙ q.1.0.1.0) in
          (each x refl f).1 (q.0, (subst (λ y. R y q.0) (sym is) q.1.0.1.1, q.1.1)),
    )

    -- of each entry
    pub tells_entries : (es : Entries X) → IsDistinct bytes_eq (keys_of es) → (look : List ℕ → Option Y) → ((n : List ℕ) → look n ≡ option_map u (under n es))
        → (tells : List ℕ → X → List B) (R : List ℕ → Y → A → Type 0) → ((n : List ℕ) (x : X) → under n es ≡ Some x → Tells (tells n x) (R n (u x)))
        → Tells (flat_map (λ e. tells e.0 e.1) es) (λ g. Somewhere look (λ n y. R n y g))
    tells_entries es distinct look same tells R each f = (
      λ h. let (e, (among, c)) = found_in (λ (e : List ℕ × X). tells e.0 e.1) f es h in
          let there = under_found es distinct e among in
          let r = (each e.0 e.1 there f).0 c in
          (r.0, ((e.0, (u e.1, (same e.0 ∙ ap (option_map u) there, r.1.0))), r.1.1)),
      λ q. let n = q.1.0.0 in
          let (x, (there, is)) = mapped_some u (under n es) q.1.0.1.0 (sym (same n) ∙ q.1.0.1.1.0) in
          given_in (λ (e : List ℕ × X). tells e.0 e.1) f es (n, x) (under_given n es x there)
          ((each n x there f).1 (q.0, (subst (λ y. R n y q.0) is q.1.0.1.1.1, q.1.1))),
    )

    -- of each of a list
    pub tells_index : (xs : List X) (tells : X → List B) (R : ℕ → Y → A → Type 0) → ((i : ℕ) (x : X) → slice_get xs i ≡ Some x → Tells (tells x) (R i (u x)))
        → Tells (flat_map tells xs) (λ g. AtSomeIndex (map u xs) (λ i y. R i y g))
    tells_index xs tells R each f = (
      λ h. let (x, (among, c)) = found_in tells f xs h in
          let (i, there) = index_found xs x among in
          let r = (each i x there f).0 c in
          (r.0, ((i, (u x, (slice_get-map u xs i ∙ ap (option_map u) there, r.1.0))), r.1.1)),
      λ q. let i = q.1.0.0 in
          let (x, (there, is)) = mapped_some u (slice_get xs i) q.1.0.1.0 (sym (slice_get-map u xs i) ∙ q.1.0.1.1.0) in
          given_in tells f xs x (index_given xs i x there) ((each i x there f).1 (q.0, (subst (λ y. R i y q.0) is q.1.0.1.1.1, q.1.1))),
    )

  -- of each of a list of things with different names, where `has` says which names there are
  pub tells_names : {X : Type 0} (name : X → List ℕ) (xs : List X) → IsDistinct bytes_eq (map name xs) → (has : List ℕ → Bool) → ((n : List ℕ) → has n ≡ is_among n (map name xs))
      → (tells : X → List B) (R : List ℕ → A → Type 0) → ((x : X) → find (λ y. bytes_eq (name x) (name y)) xs ≡ Some x → Tells (tells x) (R (name x)))
      → Tells (flat_map tells xs) (λ g. Among has (λ n. R n g))
  tells_names name xs distinct has same tells R each f = (
    λ h. let (x, (among, c)) = found_in tells f xs h in
        let r = (each x (find_of name xs distinct x among) f).0 c in
        (r.0, ((name x, (same (name x) ∙ among_found name xs x among, r.1.0)), r.1.1)),
    λ q. let (x, (among, text)) = among_given name xs q.1.0.0 (sym (same q.1.0.0) ∙ q.1.0.1.0) in
        given_in tells f xs x among ((each x (find_of name xs distinct x among) f).1 (q.0, (subst (λ n. R n q.0) (sym text) q.1.0.1.1, q.1.1))),
  )

  -- of each of a list with those before it, as for the later of two of one name
  module _ {X Y : Type 0} (u : X → Y) (tells : List X → X → List B) where
    first_or_later : (x : X) (xs : List X) (R : ℕ → Y → A → Type 0) (g : A)
        → (R 0 (u x) g ⊎ AtSomeIndex (map u xs) (λ i y. R (suc i) y g)) ↔ AtSomeIndex (u x ∷ map u xs) (λ i y. R i y g)
    first_or_later x xs R g = (
      λ h. elim h [ inl r ↦ (0, (u x, (refl, r))) | inr q ↦ (suc q.0, q.1) ],
      λ q. by q.0 q.1.0 q.1.1.0 q.1.1.1,
    )
      where
        by : (i : ℕ) (y : Y) → slice_get (u x ∷ map u xs) i ≡ Some y → R i y g → R 0 (u x) g ⊎ AtSomeIndex (map u xs) (λ i y. R (suc i) y g)
        by zero y e r = let same : y ≡ u x = cc in inl (subst (λ z. R 0 z g) same r)
        by (suc i) y e r = inr (i, (y, (e, r)))

    tells_after : (before xs : List X) (R : ℕ → Y → A → Type 0) → ((i : ℕ) (x : X) → slice_get xs i ≡ Some x → Tells (tells (before ++ take i xs) x) (R i (u x)))
        → Tells (each_place_after tells before xs) (λ g. AtSomeIndex (map u xs) (λ i y. R i y g))
    tells_after before [] R each = λ f. (λ h. not_in_nil f h, λ q. cc)
    tells_after before (x ∷ xs) R each =
        tells_same (tells before x ++ each_place_after tells (before ++ x ∷ []) xs) _ _ (first_or_later x xs R)
        (tells_both (tells before x) (each_place_after tells (before ++ x ∷ []) xs) _ _ (subst (λ b. Tells (tells b x) (R 0 (u x))) (append-nil before) (each 0 x refl))
        (tells_after (before ++ x ∷ []) xs (λ i. R (suc i)) (λ i y there. subst (λ b. Tells (tells b y) (R (suc i) (u y))) (sym (append_assoc before (x ∷ []) (take i xs))) (each (suc i) y there))))

    pub tells_places : (xs : List X) (R : ℕ → Y → A → Type 0) → ((i : ℕ) (x : X) → slice_get xs i ≡ Some x → Tells (tells (take i xs) x) (R i (u x)))
        → Tells (each_place tells xs) (λ g. AtSomeIndex (map u xs) (λ i y. R i y g))
    tells_places xs R each = tells_after [] xs R each

  -- of each of a list that has the name of an earlier one, with the first that has it
  module _ {X Y : Type 0} (u : X → Y) (name : Y → List ℕ) (say : X → X → B) (fault : ℕ → Y → ℕ → Y → A) where
    -- what is told of one, with those before it
    abbrev pub repeat_of : List X → X → List B
    repeat_of before v = option_map_or (λ w. say w v ∷ []) (find (λ w. bytes_eq (name (u v)) (name (u w))) before) []

    pub tells_repeats : (xs : List X) → ((i j : ℕ) (x y : X) → slice_get xs i ≡ Some x → slice_get xs j ≡ Some y → name (u x) ≡ name (u y) → Says (fault i (u x) j (u y)) (say x y))
        → Tells (each_place repeat_of xs) (λ g. Repeats name (map u xs) (λ i first j later. g ≡ fault i first j later))
    tells_repeats xs says = tells_places u repeat_of xs _ (λ j v there f. by j v there f)
      where
        -- what stands first under the name of v before j
        into : (j : ℕ) (v : X) → slice_get xs j ≡ Some v → (f : B) → (o : Option X) → find (λ w. bytes_eq (name (u v)) (name (u w))) (take j xs) ≡ o → Contains (option_map_or (λ w. say w v ∷ []) o []) f
            → (g : A) × (FirstNamed name (map u xs) (name (u v)) (λ i first. (i < j) × (g ≡ fault i first j (u v))) × Is g f)
        into j v there f None e c = not_in_nil f c
        into j v there f (Some w) e c =
            let (i, (below, (at, (passes, earlier)))) = first_found (λ w. bytes_eq (name (u v)) (name (u w))) xs j w e in
            let same : name (u v) ≡ name (u w) = (bytes_eq-Decides (name (u v)) (name (u w))).0 passes in (
              fault i (u w) j (u v),
              (
                (i, (u w, (slice_get-map u xs i ∙ ap (option_map u) at, (sym same, (none_before i earlier, (below, refl)))))),
                ((says i j w v at there (sym same) f).1 (only (say w v) f c)),
              ),
            )
          where
            none_before : (i : ℕ) → ((k : ℕ) (y : X) → k < i → slice_get xs k ≡ Some y → bytes_eq (name (u v)) (name (u y)) ≡ false) → IsFirst name (map u xs) (name (u v)) i
            none_before i earlier (k, (y, (at, (less, same)))) =
                let (x, (is, text)) = mapped_some u (slice_get xs k) y (sym (slice_get-map u xs k) ∙ at) in
                true≢false (sym ((bytes_eq-Decides (name (u v)) (name (u x))).1 (sym same ∙ ap name text)) ∙ earlier k x less is)

        out : (j : ℕ) (v : X) → slice_get xs j ≡ Some v → (f : B) → (o : Option X) → find (λ w. bytes_eq (name (u v)) (name (u w))) (take j xs) ≡ o
            → (g : A) × (FirstNamed name (map u xs) (name (u v)) (λ i first. (i < j) × (g ≡ fault i first j (u v))) × Is g f) → Contains (option_map_or (λ w. say w v ∷ []) o []) f
        out j v there f o e (g, ((i, (y, (at, (same, (first, (below, is)))))), told)) = by_first o e
          where
            by_first : (o : Option X) → find (λ w. bytes_eq (name (u v)) (name (u w))) (take j xs) ≡ o → Contains (option_map_or (λ w. say w v ∷ []) o []) f
            by_first None e =
                let (x, (at', text)) = mapped_some u (slice_get xs i) y (sym (slice_get-map u xs i) ∙ at) in
                absurd (true≢false (sym ((bytes_eq-Decides (name (u v)) (name (u x))).1 (sym same ∙ ap name text)) ∙ none_found (λ w. bytes_eq (name (u v)) (name (u w))) xs j e i x below at'))
            by_first (Some w) e =
                let (k, (below', (at', (passes, earlier)))) = first_found (λ w. bytes_eq (name (u v)) (name (u w))) xs j w e in
                let (x, (at'', text)) = mapped_some u (slice_get xs i) y (sym (slice_get-map u xs i) ∙ at) in
                let named : name (u w) ≡ name (u v) = sym ((bytes_eq-Decides (name (u v)) (name (u w))).0 passes) in
                let passes' : bytes_eq (name (u v)) (name (u x)) ≡ true = (bytes_eq-Decides (name (u v)) (name (u x))).1 (sym same ∙ ap name text) in
                let one : k ≡ i = same_index k i (λ less. first (k, (u w, (slice_get-map u xs k ∙ ap (option_map u) at', (less, named))))) (λ less. true≢false (sym passes' ∙ earlier i x less at'')) in
                let it : w ≡ x = same_Some _ _ (sym at' ∙ ap (slice_get xs) one ∙ at'') in
                is_only (say w v) f ((says k j w v at' there named f).0 (subst (λ a. Is a f) (is ∙ (λ n. fault (sym one n) ((text ∙ ap u (sym it)) n) j (u v))) told))

        by : (j : ℕ) (v : X) → slice_get xs j ≡ Some v → (f : B) → Contains (repeat_of (take j xs) v) f
            ↔ ((g : A) × (FirstNamed name (map u xs) (name (u v)) (λ i first. (i < j) × (g ≡ fault i first j (u v))) × Is g f))
        by j v there f = (into j v there f _ refl, out j v there f _ refl)
