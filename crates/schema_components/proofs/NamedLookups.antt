-- What lookups and walks over maps and sets with names as keys say of the finite maps and sets.
use Rattle.std.proofs.Common.{◌≡◌, ℕ, Bool, true, false, cond, ◌&&◌, ◌||◌, List, [], ◌∷◌, map, None, Some, refl, sym, ap, subst, ◌∙◌, true≢false, is_some}
use Rattle.std.specs.Bool.{Decides}
use Rattle.std.specs.List.{list_any, list_all, IsDistinct, AllByRecursion}
use Rattle.std.specs.Option.{option_map}
use Rattle.std.specs.Ordering.{eq_by_cmp}
use Rattle.std.specs.Cmp.{first_so, second_so}
use Rattle.std.specs.Cmp.Lexicographic.{nat_list_cmp_total, nat_list_eq_equiv, texts_ties}
use Rattle.std.specs.Map.{keys_of, values_of}
use Rattle.std.specs.FinMap as fin
use Rattle.std.specs.FinSet as set
use Rattle.std.proofs.lemmas.Option.{same_Some}
use Rattle.std.proofs.lemmas.Slice.Eq.{bytes_eq-Decides}
use Rattle.indexmap.specs.IndexMap.{IndexMap, get, values, IsUnique}
use Rattle.indexmap.specs.IndexSet.{IndexSet}
use Rattle.tree_operations.proofs.Decided.{through}
use Rattle.schema_components.specs.Names.{by_bytes, same_text, entries_of, named, names}
use Rattle.schema_components.proofs.NamedEquality.{find-lookup, named_entries, by_name, names_of, named-by_name, names-names_of}

pub tied : (q r : List ℕ) → eq_by_cmp by_bytes q r ≡ true → q ≡ r
tied q r e = (bytes_eq-Decides q r).0 (texts_ties q r ∙ e)

tied_itself : (q : List ℕ) → eq_by_cmp by_bytes q q ≡ true
tied_itself q = sym (texts_ties q q) ∙ nat_list_eq_equiv.refl q

both_so : (a b : Bool) → a ≡ true → b ≡ true → (a && b) ≡ true
both_so a b p q = (λ i. p i && b) ∙ q

module _ {K : Type 0} (text : K → List ℕ) where
  -- a lookup by a key
  pub get-named : {X A V S : Type 0} (u : A → V) (g : X → A) (m : IndexMap K X S) (k : K) → fin.get (named u (entries_of text g m)) (text k) ≡ option_map (λ x. u (g x)) (get (same_text text) m k)
  get-named {X} {A} {V} u g m k =
      let f : X → V = λ x. u (g x) in
      ap (λ a. fin.get a (text k)) (named-by_name text g u m) ∙ fin.get-from_entries nat_list_cmp_total (named_entries text f m.entries) (text k) ∙ sym (find-lookup text f k m.entries)

  module _ {X V : Type 0} (f : X → V) (test : X → Bool) (P : V → Type 0) (d : (x : X) → Decides (test x) (P (f x))) where
    each_found : (es : List (K × X)) → list_all test (values_of es) ≡ true → (n : List ℕ) (v : V) → fin.find by_bytes n (named_entries text f es) ≡ Some v → P v
    each_found [] h n v e = absurd (true≢false (sym (ap is_some e)))
    each_found (x ∷ es) h n v e = by (eq_by_cmp by_bytes n (text x.0)) (each_found es (second_so (test x.1) _ h) n v) e
      where
        by : (b : Bool) → (fin.find by_bytes n (named_entries text f es) ≡ Some v → P v) → cond b (Some (f x.1)) (fin.find by_bytes n (named_entries text f es)) ≡ Some v → P v
        by true rest e = subst P (same_Some _ _ e) ((d x.1).0 (first_so (test x.1) _ h))
        by false rest e = rest e

    -- under the text of a key that equals none, nothing stands
    absent : (k : K) (es : List (K × X)) → AllByRecursion (λ y. same_text text k y ≡ false) (keys_of es) → fin.find by_bytes (text k) (named_entries text f es) ≡ None
    absent k [] h = refl
    absent k (x ∷ es) h = ap (λ b. cond b (Some (f x.1)) (fin.find by_bytes (text k) (named_entries text f es))) (sym (texts_ties (text k) (text x.0)) ∙ h.0) ∙ absent k es h.1

    all_pass : (es : List (K × X)) → IsDistinct (same_text text) (keys_of es) → ((n : List ℕ) (v : V) → fin.find by_bytes n (named_entries text f es) ≡ Some v → P v) → list_all test (values_of es) ≡ true
    unfolding IsDistinct
    all_pass [] u h = refl
    all_pass (x ∷ es) u h = both_so _ _ ((d x.1).1 (h (text x.0) (f x.1) (ap (λ b. cond b (Some (f x.1)) (fin.find by_bytes (text x.0) (named_entries text f es))) (tied_itself (text x.0))))) (all_pass es u.1 (λ n v. by n v (eq_by_cmp by_bytes n (text x.0)) refl))
      where
        by : (n : List ℕ) (v : V) (b : Bool) → eq_by_cmp by_bytes n (text x.0) ≡ b → fin.find by_bytes n (named_entries text f es) ≡ Some v → P v
        by n v true t e = absurd (true≢false (sym (ap is_some (sym (ap (λ q. fin.find by_bytes q (named_entries text f es)) (tied n (text x.0) t) ∙ absent x.0 es u.0) ∙ e))))
        by n v false t e = h n v (ap (λ b. cond b (Some (f x.1)) (fin.find by_bytes n (named_entries text f es))) t ∙ e)

    by_name_decides : {S : Type 0} (m : IndexMap K X S) → IsUnique (same_text text) m → Decides (list_all test (values m)) ((n : List ℕ) (v : V) → fin.get (by_name text f m) n ≡ Some v → P v)
    by_name_decides m u = (
      λ h n v e. each_found m.entries h n v (sym (fin.get-from_entries nat_list_cmp_total (named_entries text f m.entries) n) ∙ e),
      λ h. all_pass m.entries u (λ n v e. h n v (fin.get-from_entries nat_list_cmp_total (named_entries text f m.entries) n ∙ e)),
    )

  module _ (test : K → Bool) (P : List ℕ → Type 0) (d : (k : K) → Decides (test k) (P (text k))) where
    each_member : (ks : List K) → list_all test ks ≡ true → (n : List ℕ) → list_any (eq_by_cmp by_bytes n) (map text ks) ≡ true → P n
    each_member [] h n e = absurd (true≢false (sym e))
    each_member (k ∷ ks) h n e = by (eq_by_cmp by_bytes n (text k)) refl (each_member ks (second_so (test k) _ h) n) e
      where
        by : (b : Bool) → eq_by_cmp by_bytes n (text k) ≡ b → (list_any (eq_by_cmp by_bytes n) (map text ks) ≡ true → P n) → (b || list_any (eq_by_cmp by_bytes n) (map text ks)) ≡ true → P n
        by true t rest e = subst P (sym (tied n (text k) t)) ((d k).0 (first_so (test k) _ h))
        by false t rest e = rest e

    or_right : (a b : Bool) → b ≡ true → (a || b) ≡ true
    or_right true b e = refl
    or_right false b e = e

    all_members : (ks : List K) → ((n : List ℕ) → list_any (eq_by_cmp by_bytes n) (map text ks) ≡ true → P n) → list_all test ks ≡ true
    all_members [] h = refl
    all_members (k ∷ ks) h = both_so _ _ ((d k).1 (h (text k) (ap (λ b. b || list_any (eq_by_cmp by_bytes (text k)) (map text ks)) (tied_itself (text k))))) (all_members ks (λ n e. h n (or_right (eq_by_cmp by_bytes n (text k)) _ e)))

    names_of_decides : {S : Type 0} (s : IndexSet K S) → Decides (list_all test s.keys) ((n : List ℕ) → set.contains (names_of text s) n ≡ true → P n)
    names_of_decides s = (
      λ h n e. each_member s.keys h n (sym (set.contains-from_list nat_list_cmp_total (map text s.keys) n) ∙ e),
      λ h. all_members s.keys (λ n e. h n (set.contains-from_list nat_list_cmp_total (map text s.keys) n ∙ e)),
    )

  -- a walk over a map's values decides a fact of what stands under each name
  pub values_decide : {X A V S : Type 0} (u : A → V) (g : X → A) (test : X → Bool) (P : V → Type 0) → ((x : X) → Decides (test x) (P (u (g x)))) → (m : IndexMap K X S) → IsUnique (same_text text) m → Decides (list_all test (values m)) ((n : List ℕ) (v : V) → fin.get (named u (entries_of text g m)) n ≡ Some v → P v)
  values_decide u g test P d m unique =
      through (by_name_decides (λ x. u (g x)) test P d m unique)
      (λ h n v e. h n v (ap (λ a. fin.get a n) (sym (named-by_name text g u m)) ∙ e))
      (λ h n v e. h n v (ap (λ a. fin.get a n) (named-by_name text g u m) ∙ e))

  -- a walk over a set decides a fact of each of its names
  pub members_decide : {A S : Type 0} (u : A → List ℕ) (g : K → A) → ((k : K) → u (g k) ≡ text k) → (test : K → Bool) (P : List ℕ → Type 0) → ((k : K) → Decides (test k) (P (text k))) → (s : IndexSet K S) → Decides (list_all test s.keys) ((n : List ℕ) → set.contains (names u (map g s.keys)) n ≡ true → P n)
  members_decide u g same test P d s =
      through (names_of_decides test P d s)
      (λ h n e. h n (ap (λ a. set.contains a n) (sym (names-names_of text u g same s)) ∙ e))
      (λ h n e. h n (ap (λ a. set.contains a n) (names-names_of text u g same s) ∙ e))
