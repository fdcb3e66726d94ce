-- The buckets of lists to which more is added, and how an equal one is looked for in a bucket.
use Rattle.std.proofs.Common.{◌≡◌, ◌≢◌, ◌∙◌, ◌<◌, ◌≤◌, ℕ, ◌+◌, ◌-◌, suc, List, [], ◌∷◌, ◌++◌, length, get_or, set, take, slice_get, Option, None, Some, Bool, false, IsTrue, ◌↔◌, map, sym, ap, subst, inl, inr, Contains, arith, get_or-set_same, get_or-set_other, length-append}
use Rattle.std.specs.Option.{option_map}
use Rattle.std.proofs.lemmas.Bool.{cases_lt, cases_eq}
use Rattle.std.proofs.lemmas.List.{get_or_default, take_all, take_more, map-append, length_push, length-set, length-map, get_or_append_left}
use Rattle.std.proofs.lemmas.Option.{slice_get_within, slice_get-get_or}
use Rattle.std.proofs.Math.Seq.{get_or-append_seam}
use Rattle.rule_cycle_search.proofs.Lists.{slice_get-map}
use Rattle.graphql_faults.specs.InBuckets.{IsEndOf, AreRight}
use Rattle.graphql_faults.specs.declared.buckets.Buckets.{Buckets}
use Rattle.graphql_faults.proofs.Adding.{push_cases, says_otherwise}

-- ---- of lists that grow
before_more : (bs more : List ℕ) (k : ℕ) → k < length bs → slice_get (bs ++ more) k ≡ slice_get bs k
before_more bs more k h =
    let longer : k < length (bs ++ more) = omega (arith, h, length-append bs more) in
    slice_get-get_or (bs ++ more) k 0 longer ∙ ap (λ a. Some a) (get_or_append_left bs more 0 k h) ∙ sym (slice_get-get_or bs k 0 h)

last_of : (bs : List ℕ) (b : ℕ) → slice_get (bs ++ b ∷ []) (length bs) ≡ Some b
last_of bs b =
    let within : length bs < length (bs ++ b ∷ []) = omega (arith, length_push bs b) in
    slice_get-get_or (bs ++ b ∷ []) (length bs) 0 within ∙ ap (λ a. Some a) (get_or-append_seam bs b [] 0)

-- what is after does not matter
end_before_more : (bs more : List ℕ) (b n end : ℕ) → n ≤ length bs → IsEndOf bs b n end → IsEndOf (bs ++ more) b n end
end_before_more bs more b n end h e = record {
  within = e.within;
  last = λ k low high at.
      let inside : k < length bs = omega (arith, high, h) in
      e.last k low high (sym (before_more bs more k inside) ∙ at);
  there = λ k is.
      let inside : k < length bs = omega (arith, is, e.within, h) in
      before_more bs more k inside ∙ e.there k is;
}

-- another one does not matter
end_before_other : (bs : List ℕ) (b c end : ℕ) → c ≢ b → IsEndOf bs c (length bs) end → IsEndOf (bs ++ b ∷ []) c (length (bs ++ b ∷ [])) end
end_before_other bs b c end differ e = record {
  within = omega (arith, e.within, length_push bs b);
  last = λ k low high at. elim (push_cases bs b k c at) [
    | inl old ↦ e.last k low (slice_get_within bs k c old) old
    | inr new ↦ differ new.1
  ];
  there = λ k is.
      let inside : k < length bs = omega (arith, is, e.within) in
      before_more bs (b ∷ []) k inside ∙ e.there k is;
}

-- it is the last one itself
end_at_last : (bs : List ℕ) (b end : ℕ) → end ≡ length (bs ++ b ∷ []) → IsEndOf (bs ++ b ∷ []) b (length (bs ++ b ∷ [])) end
end_at_last bs b end is = record {
  within = omega (arith, is);
  last = λ k low high at. absurd (omega (arith, is, low, high));
  there = λ k after.
      let here : k ≡ length bs = omega (arith, is, after, length_push bs b) in
      subst (λ i. slice_get (bs ++ b ∷ []) i ≡ Some b) (sym here) (last_of bs b);
}

no_end : (b : ℕ) → IsEndOf [] b 0 0
no_end b = record {
  within = omega arith;
  last = λ k low high at. absurd (omega (arith, high));
  there = λ k is. absurd (omega (arith, is));
}

-- no buckets of an empty list
pub right_of_none : (x : Buckets) → length x.ends.items ≡ 256 → ((b : ℕ) → b < 256 → get_or x.ends.items b 0 ≡ 0) → x.earlier.items ≡ [] → AreRight [] x
right_of_none x sized none empty = record {
  sized = sized;
  counted = ap length empty;
  ends = λ b h. subst (IsEndOf [] b 0) (sym (none b h)) (no_end b);
  earlier = λ k b at. absurd (omega (arith, slice_get_within [] k b at));
}

-- one more at the end
pub right_of_one_more : (bs : List ℕ) (b : ℕ) (x y : Buckets) → b < 256
    → y.earlier.items ≡ x.earlier.items ++ get_or x.ends.items b 0 ∷ []
    → y.ends.items ≡ set x.ends.items b (length y.earlier.items)
    → AreRight bs x → AreRight (bs ++ b ∷ []) y
right_of_one_more bs b x y low pushed put r =
    let more = bs ++ b ∷ [] in
    let counted : length y.earlier.items ≡ length more = ap length pushed ∙ length_push x.earlier.items (get_or x.ends.items b 0) ∙ ap (λ n. n + 1) r.counted ∙ sym (length_push bs b) in
    let inside : b < length x.ends.items = subst (λ n. b < n) (sym r.sized) low in
    record {
      sized = ap length put ∙ length-set x.ends.items b (length y.earlier.items) ∙ r.sized;
      counted = counted;
      ends = λ c h. elim (cases_eq c b) [
        | inl same ↦
            let is : get_or y.ends.items c 0 ≡ length more = ap (λ l. get_or l c 0) put ∙ ap (λ i. get_or (set x.ends.items b (length y.earlier.items)) i 0) same ∙ get_or-set_same x.ends.items b (length y.earlier.items) 0 inside ∙ counted in
            subst (λ i. IsEndOf more i (length more) (get_or y.ends.items c 0)) (sym same) (end_at_last bs b (get_or y.ends.items c 0) is)
        | inr differ ↦
            let is : get_or y.ends.items c 0 ≡ get_or x.ends.items c 0 = ap (λ l. get_or l c 0) put ∙ get_or-set_other x.ends.items b c (length y.earlier.items) 0 differ in
            subst (IsEndOf more c (length more)) (sym is) (end_before_other bs b c (get_or x.ends.items c 0) differ (r.ends c h))
      ];
      earlier = λ k c at. elim (push_cases bs b k c at) [
        | inl old ↦
            let h : k < length bs = slice_get_within bs k c old in
            let kept : k < length x.earlier.items = subst (λ n. k < n) (sym r.counted) h in
            let is : get_or y.earlier.items k 0 ≡ get_or x.earlier.items k 0 = ap (λ l. get_or l k 0) pushed ∙ get_or_append_left x.earlier.items (get_or x.ends.items b 0 ∷ []) 0 k kept in
            subst (IsEndOf more c k) (sym is) (end_before_more bs (b ∷ []) c k (get_or x.earlier.items k 0) (omega (arith, h)) (r.earlier k c old))
        | inr new ↦
            let is : get_or y.earlier.items k 0 ≡ get_or x.ends.items b 0 = ap (λ l. get_or l k 0) pushed ∙ ap (λ i. get_or (x.earlier.items ++ get_or x.ends.items b 0 ∷ []) i 0) (new.0 ∙ sym r.counted) ∙ get_or-append_seam x.earlier.items (get_or x.ends.items b 0) [] 0 in
            let before : IsEndOf more b (length bs) (get_or x.ends.items b 0) = end_before_more bs (b ∷ []) b (length bs) (get_or x.ends.items b 0) (omega arith) (r.ends b low) in
            let at_k : IsEndOf more b k (get_or x.ends.items b 0) = subst (λ n. IsEndOf more b n (get_or x.ends.items b 0)) (sym new.0) before in
            subst (λ e. IsEndOf more c k e) (sym is) (subst (λ i. IsEndOf more i k (get_or x.ends.items b 0)) (sym new.1) at_k)
      ];
    }

-- ---- those of the first ones of a list
module _ {A : Type 0} (f : A → ℕ) where
  pub right_of_next : (xs : List A) (k : ℕ) (x : A) (b : ℕ) (y : Buckets) → k < length xs → x ≡ get_or xs k x → b ≡ f x → AreRight (map f (take k xs) ++ b ∷ []) y → AreRight (map f (take (k + 1) xs)) y
  right_of_next xs k x b y inside read is r =
      subst (λ bs. AreRight bs y)
      (sym (ap (map f) (take_more xs k x inside) ∙ map-append f (take k xs) (get_or xs k x ∷ []) ∙ ap (λ z. map f (take k xs) ++ f z ∷ []) (sym read) ∙ ap (λ n. map f (take k xs) ++ n ∷ []) (sym is)))
      r

  pub right_of_all : (xs : List A) (k : ℕ) (y : Buckets) → k ≡ length xs → AreRight (map f (take k xs)) y → AreRight (map f xs) y
  right_of_all xs k y all r = subst (λ l. AreRight (map f l) y) (take_all k xs (omega (arith, all))) r

-- ---- looking for an equal one
module _ {A B : Type 0} (f : A → B) (bucket : B → ℕ) where
  mapped_on : (o : Option A) (y : B) → option_map f o ≡ Some y → option_map (λ x. bucket (f x)) o ≡ Some (bucket y)
  mapped_on None y e = cc
  mapped_on (Some x) y e = cc

  -- what tells the same is in the same bucket
  same_bucket : (xs : List A) (k : ℕ) (y : B) → slice_get (map f xs) k ≡ Some y → slice_get (map (λ x. bucket (f x)) xs) k ≡ Some (bucket y)
  same_bucket xs k y at = slice_get-map (λ x. bucket (f x)) xs k ∙ mapped_on (slice_get xs k) y (sym (slice_get-map f xs k) ∙ at)

  -- none from `end` on is equal to y, and that before `end` is in its bucket
  pub record IsNotFrom (xs : List A) (y : B) (end : ℕ) : Type 0 where
    pub within : end ≤ length xs
    pub none : (k : ℕ) → end ≤ k → slice_get (map f xs) k ≢ Some y
    pub there : (k : ℕ) → end ≡ suc k → slice_get (map (λ x. bucket (f x)) xs) k ≡ Some (bucket y)

  pub at_first : (xs : List A) (y : B) (end : ℕ) → IsEndOf (map (λ x. bucket (f x)) xs) (bucket y) (length xs) end → IsNotFrom xs y end
  at_first xs y end e = record {
    within = e.within;
    none = λ k low at.
        let in_bucket = same_bucket xs k y at in
        let inside = slice_get_within (map (λ x. bucket (f x)) xs) k (bucket y) in_bucket in
        e.last k low (subst (λ n. k < n) (length-map xs (λ x. bucket (f x))) inside) in_bucket;
    there = e.there;
  }

  -- that at k is looked at, and is not equal
  pub one_before : (xs : List A) (y : B) (k end : ℕ) (x : A) (same : Bool) → IsNotFrom xs y (suc k) → x ≡ get_or xs k x → IsTrue same ↔ (f x ≡ y) → same ≡ false
      → IsEndOf (map (λ x. bucket (f x)) xs) (bucket y) k end → IsNotFrom xs y end
  one_before xs y k end x same was read means differs e =
      let inside : k < length xs = omega (arith, was.within) in
      record {
        within = omega (arith, e.within, inside);
        none = λ i low at. elim (cases_lt i k) [
          | inl before ↦ e.last i low before (same_bucket xs i y at)
          | inr from ↦ elim (cases_eq i k) [
            | inl here ↦ says_otherwise f xs k x y same inside read means differs (subst (λ n. slice_get (map f xs) n ≡ Some y) here at)
            | inr apart ↦ was.none i (omega (arith, from, apart)) at
          ]
        ];
        there = e.there;
      }

  -- before the first is looked at
  pub begun : (xs : List A) (y : B) (x : Buckets) (b end : ℕ) → AreRight (map (λ x. bucket (f x)) xs) x → b < 256 → b ≡ bucket y → end ≡ get_or x.ends.items b end → IsNotFrom xs y end
  begun xs y x b end r low is read =
      let first : get_or x.ends.items b 0 ≡ end = get_or_default x.ends.items b 0 end (subst (λ n. b < n) (sym r.sized) low) ∙ sym read in
      let e : IsEndOf (map (λ x. bucket (f x)) xs) b (length xs) end =
      subst (λ n. IsEndOf (map (λ x. bucket (f x)) xs) b n end) (length-map xs (λ x. bucket (f x))) (subst (IsEndOf (map (λ x. bucket (f x)) xs) b (length (map (λ x. bucket (f x)) xs))) first (r.ends b low)) in
      at_first xs y end (subst (λ c. IsEndOf (map (λ x. bucket (f x)) xs) c (length xs) end) is e)

  -- one was looked at, and is not equal
  pub stepped : (xs : List A) (y : B) (x : Buckets) (end next : ℕ) (a : A) (same : Bool) → AreRight (map (λ x. bucket (f x)) xs) x → 0 < end → IsNotFrom xs y end
      → a ≡ get_or xs (end - 1) a → IsTrue same ↔ (f a ≡ y) → same ≡ false → next ≡ get_or x.earlier.items (end - 1) next → IsNotFrom xs y next × (next < end)
  stepped xs y x end next a same r some was read means differs then =
      let k = end - 1 in
      let after : end ≡ suc k = omega (arith, some) in
      let in_bucket : slice_get (map (λ x. bucket (f x)) xs) k ≡ Some (bucket y) = was.there k after in
      let kept : k < length x.earlier.items = omega (arith, slice_get_within (map (λ x. bucket (f x)) xs) k (bucket y) in_bucket, r.counted) in
      let is : get_or x.earlier.items k 0 ≡ next = get_or_default x.earlier.items k 0 next kept ∙ sym then in
      let e : IsEndOf (map (λ x. bucket (f x)) xs) (bucket y) k next = subst (IsEndOf (map (λ x. bucket (f x)) xs) (bucket y) k) is (r.earlier k (bucket y) in_bucket) in (
        one_before xs y k next a same (subst (IsNotFrom xs y) after was) read means differs e,
        omega (arith, e.within, after),
      )

  -- all were looked at
  pub in_none : (xs : List A) (y : B) → IsNotFrom xs y 0 → Contains (map f xs) y → ⊥
  in_none xs y n (k, inside, is) = n.none k (omega arith) (slice_get-get_or (map f xs) k y inside ∙ ap (λ a. Some a) is)
