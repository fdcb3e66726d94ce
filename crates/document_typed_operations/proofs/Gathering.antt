-- The names of fragments that a loop over a walk gathers.
use Rattle.std.proofs.Common.{◌≡◌, ◌↔◌, ◌⊎◌, inl, inr, ◌++◌, ℕ, Bool, true, false, ◌||◌, List, [], ◌∷◌, map, refl, ap, sym, ◌∙◌, subst, true≢false, Contains}
use Rattle.std.specs.Prelude.{Option, Some, None, is_some, IsSome, Result, Ok, MatchResult, fold, if◌then◌else◌}
use Rattle.std.specs.Borrow.{Bor}
use Rattle.std.specs.List.{find, list_any, IsDistinct}
use Rattle.std.specs.Map.{lookup}
use Rattle.std.specs.Str.{bytes_eq}
use Rattle.std.specs.Cmp.Lexicographic.{nat_list_eq_equiv}
use Rattle.std.proofs.lemmas.List.Elements.{Contains-append_left, Contains-append_right, Contains-append_cases}
use Rattle.std.proofs.lemmas.Map.Keys.{IsDistinct-push}
use Rattle.std.proofs.lemmas.Slice.Eq.{bytes_eq-Decides}
use Rattle.indexmap.specs.IndexSet.{insert_key}
use Rattle.graphql_names.specs.NameValue.{NameValue}
use Rattle.graphql_names.specs.declared.node.Node.{Node}
use Rattle.document_typed_selections.specs.TypedTree.{TypedSelection, TypedField, TypedSpread, TypedInline, TypedSet}
use Rattle.document_typed_selections.specs.TypedParts.{as_typed_spread}
use Rattle.document_typed_operations.specs.declared.operation.Fragment.{Fragment}
use Rattle.document_typed_operations.specs.Reached.{NamedSet, Fragments, Member, spread_names, fragment_named, IsReached, IsReachedFragment}
use Rattle.document_typed_operations.specs.Left.{with_known, with_spread}
use Rattle.document_typed_operations.proofs.Finding.{not_in_nil, Contains-cons, Contains-first, Contains-rest, none_is_some}
use Rattle.document_typed_operations.proofs.Passing.{map-append}
use Rattle.document_typed_operations.proofs.Standings.{named_set}
use Rattle.document_typed_operations.proofs.Whole.{none_twice}

-- ---- what the call for one selection leaves

abbrev names_if : {P : Type 0} → Option (TypedSelection P) → List (List ℕ)
names_if None = []
names_if (Some x) = spread_names x

one_spread : {P : Type 0} (x y : TypedSelection P) → Some y ≡ as_typed_spread x → spread_names x ≡ spread_names y
one_spread (TypedField p d h s) y e = none_is_some y (sym e)
one_spread (TypedSpread p n ds) y e = sym (ap names_if e)
one_spread (TypedInline p c ds s) y e = none_is_some y (sym e)

module _ {P : Type 0} (fs : Fragments P) (names : List (List ℕ)) (x y : TypedSelection P) (n : List ℕ) (e : Some y ≡ as_typed_spread x) (is : spread_names y ≡ n ∷ []) where
  adds : with_spread fs names x ≡ with_known fs names n
  adds = ap (fold (with_known fs) names) (one_spread x y e ∙ is)

  pub known_spread : is_some (fragment_named fs n) ≡ true → insert_key bytes_eq names n ≡ with_spread fs names x
  known_spread k = sym (adds ∙ ap (λ b. if b then insert_key bytes_eq names n else names) k)

  pub unknown_spread : is_some (fragment_named fs n) ≡ false → names ≡ with_spread fs names x
  unknown_spread k = sym (adds ∙ ap (λ b. if b then insert_key bytes_eq names n else names) k)

-- a fragment has the name where the map has it
pub known_named : (k : NameValue) (es : List (NameValue × Node Fragment)) → is_some (lookup (λ (a : NameValue). bytes_eq k.text a.text) es) ≡ is_some (fragment_named (map named_set es) k.text)
known_named k [] = refl
known_named k (e ∷ es) = by (bytes_eq k.text e.0.text) (known_named k es)
  where
    by : (b : Bool) → is_some (lookup (λ (a : NameValue). bytes_eq k.text a.text) es) ≡ is_some (fragment_named (map named_set es) k.text)
        → is_some (if b then Some e.1 else lookup (λ (a : NameValue). bytes_eq k.text a.text) es) ≡ is_some (if b then Some (named_set e) else fragment_named (map named_set es) k.text)
    by true rest = refl
    by false rest = rest

-- names of keys, with a further key
any_text : (k : Bor NameValue) (ks : List (Bor NameValue)) → list_any (λ (a : Bor NameValue). bytes_eq k.now.text a.now.text) ks ≡ list_any (bytes_eq k.now.text) (map (λ a. a.now.text) ks)
any_text k [] = refl
any_text k (a ∷ ks) = ap (λ b. bytes_eq k.now.text a.now.text || b) (any_text k ks)

pub inserted_text : (ks : List (Bor NameValue)) (k : Bor NameValue)
    → map (λ a. a.now.text) (insert_key (λ (a b : Bor NameValue). bytes_eq a.now.text b.now.text) ks k) ≡ insert_key bytes_eq (map (λ a. a.now.text) ks) k.now.text
inserted_text ks k = by (list_any (λ (a : Bor NameValue). bytes_eq k.now.text a.now.text) ks) refl
  where
    by : (b : Bool) → list_any (λ (a : Bor NameValue). bytes_eq k.now.text a.now.text) ks ≡ b → map (λ a. a.now.text) (if b then ks else ks ++ k ∷ []) ≡ insert_key bytes_eq (map (λ a. a.now.text) ks) k.now.text
    by true is = ap (λ b. if b then map (λ a. a.now.text) ks else map (λ a. a.now.text) ks ++ k.now.text ∷ []) (sym is ∙ any_text k ks)
    by false is = map-append (λ (a : Bor NameValue). a.now.text) ks (k ∷ []) ∙ ap (λ b. if b then map (λ a. a.now.text) ks else map (λ a. a.now.text) ks ++ k.now.text ∷ []) (sym is ∙ any_text k ks)

-- ---- what the loop has come to

-- what holds of a result that went well
pub lent_ok : {A E : Type 0} (B : A → Type 0) (C : E → Type 0) (r : Result A E) (a : A) → r ≡ Ok a → MatchResult r B C → B a
lent_ok B C r a is h = subst (λ x. MatchResult x B C) is h

any_in : (n : List ℕ) (names : List (List ℕ)) → list_any (bytes_eq n) names ≡ true → Contains names n
any_in n [] h = absurd (true≢false (sym h))
any_in n (m ∷ names) h = by (bytes_eq n m) refl (any_in n names)
  where
    by : (b : Bool) → bytes_eq n m ≡ b → (list_any (bytes_eq n) names ≡ true → Contains names n) → Contains (m ∷ names) n
    by true is further = Contains-first m names n (sym ((bytes_eq-Decides n m).0 is))
    by false is further = Contains-rest m names n (further (sym (ap (λ b. b || list_any (bytes_eq n) names) is) ∙ h))

module _ {P : Type 0} (fs : Fragments P) where
  abbrev IsKnown : List ℕ → Type 0
  IsKnown n = IsSome (fragment_named fs n)

  -- further names, of fragments that are there
  record Added (old more new : List (List ℕ)) : Type 0 where
    there : (n : List ℕ) → Contains new n → Contains old n ⊎ (IsKnown n × Contains more n)
    kept : (n : List ℕ) → Contains old n → Contains new n
    here : (n : List ℕ) → IsKnown n → Contains more n → Contains new n
    once : IsDistinct bytes_eq new

  added_one : (old : List (List ℕ)) (m : List ℕ) → IsDistinct bytes_eq old → Added old (m ∷ []) (with_known fs old m)
  added_one old m once = by (fragment_named fs m) refl
    where
      put : IsKnown m → (b : Bool) → list_any (bytes_eq m) old ≡ b → Added old (m ∷ []) (if b then old else old ++ m ∷ [])
      put k true is = record {
        there = λ n c. inl c;
        kept = λ n c. c;
        here = λ n h c. elim (Contains-cons m [] n c) [
          | inl e ↦ subst (Contains old) e (any_in m old is)
          | inr e ↦ absurd (not_in_nil n e)
        ];
        once = once;
      }
      put k false is = record {
        there = λ n c. elim (Contains-append_cases old (m ∷ []) n c) [
          | inl a ↦ inl a
          | inr b ↦ elim (Contains-cons m [] n b) [
            | inl e ↦ inr (subst IsKnown e k, Contains-first m [] n e)
            | inr e ↦ absurd (not_in_nil n e)
          ]
        ];
        kept = λ n c. Contains-append_left old (m ∷ []) n c;
        here = λ n h c. Contains-append_right old (m ∷ []) n c;
        once = IsDistinct-push nat_list_eq_equiv old m once is;
      }

      by : (o : Option (NamedSet P)) → fragment_named fs m ≡ o → Added old (m ∷ []) (if is_some o then insert_key bytes_eq old m else old)
      by None is = record {
        there = λ n c. inl c;
        kept = λ n c. c;
        here = λ n h c. elim (Contains-cons m [] n c) [
          | inl e ↦ absurd (true≢false (sym (subst IsSome (ap (fragment_named fs) (sym e) ∙ is) h)))
          | inr e ↦ absurd (not_in_nil n e)
        ];
        once = once;
      }
      by (Some f) is = put (subst IsSome (sym is) refl) (list_any (bytes_eq m) old) refl

  added_all : (ms old : List (List ℕ)) → IsDistinct bytes_eq old → Added old ms (fold (with_known fs) old ms)
  added_all [] old once = record { there = λ n c. inl c; kept = λ n c. c; here = λ n h c. absurd (not_in_nil n c); once = once }
  added_all (m ∷ ms) old once =
      let one = added_one old m once in
      let rest = added_all ms (with_known fs old m) one.once in
      record {
        there = λ n c. elim (rest.there n c) [
          | inl a ↦ elim (one.there n a) [
            | inl o ↦ inl o
            | inr b ↦ inr (b.0, Contains-append_left (m ∷ []) ms n b.1)
          ]
          | inr b ↦ inr (b.0, Contains-rest m ms n b.1)
        ];
        kept = λ n c. rest.kept n (one.kept n c);
        here = λ n h c. elim (Contains-append_cases (m ∷ []) ms n c) [
          | inl a ↦ rest.kept n (one.here n h a)
          | inr b ↦ rest.here n h b
        ];
        once = rest.once;
      }

  -- the name of a fragment that one of these members spreads
  abbrev SpreadIn : List (Member P) → List ℕ → Type 0
  SpreadIn left n = IsKnown n × ((e : Member P) × (Contains left e × Contains (spread_names e.1) n))

  -- names, and members that are left, have together what is reached
  pub record Gathered (nested : Bool) (start : TypedSet P) (names : List (List ℕ)) (left : List (Member P)) : Type 0 where
    pub there : (n : List ℕ) → Contains names n ⊎ SpreadIn left n → IsReachedFragment nested fs start n
    pub back : (n : List ℕ) → IsReachedFragment nested fs start n → Contains names n ⊎ SpreadIn left n
    pub once : IsDistinct bytes_eq names

  module _ (nested : Bool) (start : TypedSet P) where
    pub gathered_first : (left : List (Member P)) → ((e : Member P) → Contains left e ↔ IsReached nested fs start e) → Gathered nested start [] left
    gathered_first left reached = record {
      there = λ n h. elim h [
        | inl c ↦ absurd (not_in_nil n c)
        | inr s ↦ (s.0, (s.1.0, ((reached s.1.0).0 s.1.1.0, s.1.1.1)))
      ];
      back = λ n h. inr (h.0, (h.1.0, ((reached h.1.0).1 h.1.1.0, h.1.1.1)));
      once = none_twice bytes_eq;
    }

    pub gathered_next : (names : List (List ℕ)) (e : Member P) (left : List (Member P)) → Gathered nested start names (e ∷ left) → Gathered nested start (with_spread fs names e.1) left
    gathered_next names e left g =
        let a = added_all (spread_names e.1) names g.once in
        record {
          there = λ n h. elim h [
            | inl c ↦ elim (a.there n c) [
              | inl o ↦ g.there n (inl o)
              | inr b ↦ g.there n (inr (b.0, (e, (Contains-first e left e refl, b.1))))
            ]
            | inr s ↦ g.there n (inr (s.0, (s.1.0, (Contains-rest e left s.1.0 s.1.1.0, s.1.1.1))))
          ];
          back = λ n r. elim (g.back n r) [
            | inl c ↦ inl (a.kept n c)
            | inr s ↦ elim (Contains-cons e left s.1.0 s.1.1.0) [
              | inl q ↦ inl (a.here n s.0 (subst (λ (m : Member P). Contains (spread_names m.1) n) (sym q) s.1.1.1))
              | inr l ↦ inr (s.0, (s.1.0, (l, s.1.1.1)))
            ]
          ];
          once = a.once;
        }

    pub gathered_all : (names : List (List ℕ)) (left : List (Member P)) → left ≡ [] → Gathered nested start names left → (n : List ℕ) → Contains names n ↔ IsReachedFragment nested fs start n
    gathered_all names left none g n = (
      λ c. g.there n (inl c),
      λ r. elim (g.back n r) [
        | inl c ↦ c
        | inr s ↦ absurd (not_in_nil s.1.0 (subst (λ l. Contains l s.1.0) none s.1.1.0))
      ],
    )
