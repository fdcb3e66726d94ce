-- What writes to a map with names as keys make of the finite map.
use Rattle.std.proofs.Common.{◌≡◌, ◌⊎◌, inl, inr, ℕ, Bool, true, false, cond, List, Option, None, Some, refl, sym, ap, subst, ◌∙◌}
use Rattle.std.specs.Option.{option_map}
use Rattle.std.specs.Ordering.{eq_by_cmp}
use Rattle.std.specs.Cmp.Lexicographic.{nat_list_cmp_total, texts_ties}
use Rattle.std.specs.FinMap as fin
use Rattle.indexmap.specs.IndexMap.{IndexMap, get, Updates}
use Rattle.schema_components.specs.Names.{NamedMap, by_bytes, same_text, entries_of, named}
use Rattle.schema_components.proofs.NamedEquality.{by_bytes-IsAntisymmetric, named_entries, named-by_name, None-or_key, same_text-equiv}
use Rattle.schema_components.proofs.NamedLookups.{get-named, tied}

cond_map : {X V : Type 0} (f : X → V) (b : Bool) (o p : Option X) → option_map f (cond b o p) ≡ cond b (option_map f o) (option_map f p)
cond_map f true o p = refl
cond_map f false o p = refl

module _ {K : Type 0} (text : K → List ℕ) {X A V : Type 0} (u : A → V) (g : X → A) where
  abbrev NoneOrKey : NamedMap V → List ℕ → Type 0
  NoneOrKey b q = (fin.get b q ≡ None) ⊎ ((k : K) × (text k ≡ q))

  module _ {S : Type 0} where
    none_or_name : (m : IndexMap K X S) (q : List ℕ) → NoneOrKey (named u (entries_of text g m)) q
    none_or_name m q = by (None-or_key text (λ x. u (g x)) q m.entries)
      where
        by : (fin.find by_bytes q (named_entries text (λ x. u (g x)) m.entries) ≡ None) ⊎ ((k : K) × (text k ≡ q)) → NoneOrKey (named u (entries_of text g m)) q
        by (inl n) = inl (ap (λ a. fin.get a q) (named-by_name text g u m) ∙ fin.get-from_entries nat_list_cmp_total (named_entries text (λ x. u (g x)) m.entries) q ∙ n)
        by (inr k) = inr k

    -- a finite map that answers as a map does, at the keys, is its finite map
    pub same_as_named : (b : NamedMap V) (n : IndexMap K X S) → ((k : K) → fin.get (named u (entries_of text g n)) (text k) ≡ fin.get b (text k)) → ((q : List ℕ) → NoneOrKey b q) → named u (entries_of text g n) ≡ b
    same_as_named b n at none = fin.same_map nat_list_cmp_total by_bytes-IsAntisymmetric _ _ (λ q. by q (none_or_name n q) (none q))
      where
        by : (q : List ℕ) → NoneOrKey (named u (entries_of text g n)) q → NoneOrKey b q → fin.get (named u (entries_of text g n)) q ≡ fin.get b q
        by q (inr k) r = subst (λ a. fin.get (named u (entries_of text g n)) a ≡ fin.get b a) k.1 (at k.0)
        by q (inl x) (inr k) = subst (λ a. fin.get (named u (entries_of text g n)) a ≡ fin.get b a) k.1 (at k.0)
        by q (inl x) (inl y) = x ∙ sym y

    module _ (m n : IndexMap K X S) (k : K) where
      turned : (q : K) → same_text text k q ≡ eq_by_cmp by_bytes (text q) (text k)
      turned q = (same_text-equiv text).symm k q ∙ texts_ties (text q) (text k)

      -- `insert`
      pub named-insert : (v : X) → Updates (same_text text) m n k (Some v) → named u (entries_of text g n) ≡ fin.insert (named u (entries_of text g m)) (text k) (u (g v))
      named-insert v updates = same_as_named _ n (λ q.
          get-named text u g n q
          ∙ ap (option_map (λ x. u (g x))) (updates.0 q)
          ∙ cond_map (λ x. u (g x)) (same_text text k q) (Some v) (get (same_text text) m q)
          ∙ (λ i. cond (turned q i) (Some (u (g v))) (sym (get-named text u g m q) i))
          ∙ sym (fin.get-insert nat_list_cmp_total (named u (entries_of text g m)) (text k) (u (g v)) (text q)))
          (λ q. by q (eq_by_cmp by_bytes q (text k)) refl (none_or_name m q))
        where
          by : (q : List ℕ) (b : Bool) → eq_by_cmp by_bytes q (text k) ≡ b → NoneOrKey (named u (entries_of text g m)) q → NoneOrKey (fin.insert (named u (entries_of text g m)) (text k) (u (g v))) q
          by q true t r = inr (k, sym (tied q (text k) t))
          by q false t (inr x) = inr x
          by q false t (inl x) = inl (fin.get-insert nat_list_cmp_total (named u (entries_of text g m)) (text k) (u (g v)) q ∙ (λ i. cond (t i) (Some (u (g v))) (x i)))

      -- a removal
      pub named-remove : Updates (same_text text) m n k None → named u (entries_of text g n) ≡ fin.remove (named u (entries_of text g m)) (text k)
      named-remove updates = same_as_named _ n (λ q.
          get-named text u g n q
          ∙ ap (option_map (λ x. u (g x))) (updates.0 q)
          ∙ cond_map (λ x. u (g x)) (same_text text k q) None (get (same_text text) m q)
          ∙ (λ i. cond (turned q i) None (sym (get-named text u g m q) i))
          ∙ sym (fin.get-remove nat_list_cmp_total (named u (entries_of text g m)) (text k) (text q)))
          (λ q. by q (eq_by_cmp by_bytes q (text k)) refl (none_or_name m q))
        where
          by : (q : List ℕ) (b : Bool) → eq_by_cmp by_bytes q (text k) ≡ b → NoneOrKey (named u (entries_of text g m)) q → NoneOrKey (fin.remove (named u (entries_of text g m)) (text k)) q
          by q true t r = inr (k, sym (tied q (text k) t))
          by q false t (inr x) = inr x
          by q false t (inl x) = inl (fin.get-remove nat_list_cmp_total (named u (entries_of text g m)) (text k) q ∙ (λ i. cond (t i) None (x i)))
