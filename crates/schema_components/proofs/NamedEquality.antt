-- `==` of maps and sets with names as keys decides whether they are the same finite map or set.
use Rattle.std.proofs.Common.{◌≡◌, ◌⊎◌, inl, inr, ℕ, Bool, true, false, cond, ◌||◌, List, [], ◌∷◌, map, Option, None, Some, refl, sym, ap, subst, ◌∙◌, nat_eq}
use Rattle.std.specs.Bool.{Decides}
use Rattle.std.specs.List.{list_any}
use Rattle.std.specs.Option.{option_map, option_eq}
use Rattle.std.specs.Cmp.{IsEquivalence, on_equiv}
use Rattle.std.specs.Cmp.Lexicographic.{pointwise, nat_list_eq_equiv, nat_list_cmp_total, texts_ties}
use Rattle.std.specs.Ordering.{eq_by_cmp}
use Rattle.std.specs.Map.{lookup}
use Rattle.std.specs.HashMap.Eq.{hash_map_eq_from_get, get_from_hash_map_eq}
use Rattle.std.specs.HashSet.Eq.{hash_set_eq_decides}
use Rattle.std.specs.FinMap.{IsAntisymmetric, find, from_entries, get-from_entries, get, same_map, nat_cmp-IsAntisymmetric, slice_cmp-IsAntisymmetric}
use Rattle.std.specs.FinSet.{contains, from_list, contains-from_list, same_set}
use Rattle.std.proofs.lemmas.Slice.Eq.{bytes_eq-Decides}
use Rattle.indexmap.specs.IndexMap.{IndexMap, index_map_eq}
use Rattle.indexmap.specs.IndexSet.{IndexSet, index_set_eq}
use Rattle.tree_operations.proofs.Decided.{through, carried}
use Rattle.schema_components.specs.Names.{by_bytes, same_text, Entries, entries_of, named, names, NamedMap, Names}

pub by_bytes-IsAntisymmetric : IsAntisymmetric by_bytes
by_bytes-IsAntisymmetric = slice_cmp-IsAntisymmetric nat_cmp-IsAntisymmetric

options_agree : {X V : Type 0} (E : X → X → Bool) (f : X → V) → ((a b : X) → Decides (E a b) (f a ≡ f b)) → (p q : Option X) → Decides (option_eq E p q) (option_map f p ≡ option_map f q)
options_agree E f d None None = (λ h. refl, λ h. refl)
options_agree E f d None (Some y) = (λ h. cc, λ h. cc)
options_agree E f d (Some x) None = (λ h. cc, λ h. cc)
options_agree E f d (Some x) (Some y) = through (d x y) (λ p i. Some (p i)) (λ r. cc)

module _ {K : Type 0} (text : K → List ℕ) where
  abbrev pub named_entries : {X V : Type 0} → (X → V) → List (K × X) → Entries V
  named_entries f es = map (λ e. (text e.0, f e.1)) es

  abbrev pub by_name : {X V S : Type 0} → (X → V) → IndexMap K X S → NamedMap V
  by_name f m = from_entries (named_entries f m.entries)

  abbrev pub names_of : {S : Type 0} → IndexSet K S → Names
  names_of s = from_list (map text s.keys)

  entries_map : {X A V : Type 0} (g : X → A) (u : A → V) (es : List (K × X)) → map (λ e. (e.0, u e.1)) (named_entries g es) ≡ named_entries (λ x. u (g x)) es
  entries_map g u [] = refl
  entries_map g u (e ∷ es) = ap (λ r. (text e.0, u (g e.1)) ∷ r) (entries_map g u es)

  pub named-by_name : {X A V S : Type 0} (g : X → A) (u : A → V) (m : IndexMap K X S) → named u (entries_of text g m) ≡ by_name (λ x. u (g x)) m
  named-by_name g u m = ap from_entries (entries_map g u m.entries)

  names_map : {A : Type 0} (g : K → A) (u : A → List ℕ) → ((k : K) → u (g k) ≡ text k) → (ks : List K) → map u (map g ks) ≡ map text ks
  names_map g u same [] = refl
  names_map g u same (k ∷ ks) = λ i. same k i ∷ names_map g u same ks i

  pub same_text-equiv : IsEquivalence (same_text text)
  same_text-equiv = on_equiv text nat_list_eq_equiv

  cond_map : {X V : Type 0} (f : X → V) (b : Bool) (x : X) (o : Option X) → option_map f (cond b (Some x) o) ≡ cond b (Some (f x)) (option_map f o)
  cond_map f true x o = refl
  cond_map f false x o = refl

  -- a lookup by a key is one by its text
  pub find-lookup : {X V : Type 0} (f : X → V) (k : K) (es : List (K × X)) → option_map f (lookup (same_text text k) es) ≡ find by_bytes (text k) (named_entries f es)
  find-lookup f k [] = refl
  find-lookup f k (e ∷ es) = cond_map f (same_text text k e.0) e.1 _ ∙ (λ i. cond (texts_ties (text k) (text e.0) i) (Some (f e.1)) (find-lookup f k es i))

  -- a text under which nothing stands, or a key's
  pub None-or_key : {X V : Type 0} (f : X → V) (q : List ℕ) (es : List (K × X)) → (find by_bytes q (named_entries f es) ≡ None) ⊎ ((k : K) × (text k ≡ q))
  None-or_key f q [] = inl refl
  None-or_key {X} {V} f q (e ∷ es) = by (pointwise nat_eq q (text e.0)) refl (None-or_key f q es)
    where
      by : (b : Bool) → pointwise nat_eq q (text e.0) ≡ b → (find by_bytes q (named_entries f es) ≡ None) ⊎ ((k : K) × (text k ≡ q)) → (find by_bytes q (named_entries f (e ∷ es)) ≡ None) ⊎ ((k : K) × (text k ≡ q))
      by true t r = inr (e.0, sym ((bytes_eq-Decides q (text e.0)).0 t))
      by false t (inl n) = inl (ap (λ b. cond b (Some (f e.1)) (find by_bytes q (named_entries f es))) (sym (texts_ties q (text e.0)) ∙ t) ∙ n)
      by false t (inr k) = inr k

  module _ {X V : Type 0} (E : X → X → Bool) (f : X → V) (d : (a b : X) → Decides (E a b) (f a ≡ f b)) where
    module _ {S : Type 0} (m n : IndexMap K X S) where
      abbrev agree : List ℕ → Type 0
      agree q = find by_bytes q (named_entries f m.entries) ≡ find by_bytes q (named_entries f n.entries)

      agree_at_key : index_map_eq (same_text text) E m n ≡ true → (k : K) → agree (text k)
      agree_at_key h k = sym (find-lookup f k m.entries) ∙ (options_agree E f d _ _).0 (get_from_hash_map_eq (same_text text) E same_text-equiv m n h k) ∙ find-lookup f k n.entries

      agree_by : (q : List ℕ) → ((k : K) → agree (text k))
          → (find by_bytes q (named_entries f m.entries) ≡ None) ⊎ ((k : K) × (text k ≡ q))
          → (find by_bytes q (named_entries f n.entries) ≡ None) ⊎ ((k : K) × (text k ≡ q)) → agree q
      agree_by q h (inr k) r = subst agree k.1 (h k.0)
      agree_by q h (inl a) (inr k) = subst agree k.1 (h k.0)
      agree_by q h (inl a) (inl b) = a ∙ sym b

      same_by_name : index_map_eq (same_text text) E m n ≡ true → by_name f m ≡ by_name f n
      same_by_name h = same_map nat_list_cmp_total by_bytes-IsAntisymmetric _ _ (λ q.
          get-from_entries nat_list_cmp_total (named_entries f m.entries) q
          ∙ agree_by q (agree_at_key h) (None-or_key f q m.entries) (None-or_key f q n.entries)
          ∙ sym (get-from_entries nat_list_cmp_total (named_entries f n.entries) q))

      equal_by_name : by_name f m ≡ by_name f n → index_map_eq (same_text text) E m n ≡ true
      equal_by_name e = hash_map_eq_from_get (same_text text) E m n (λ k. (options_agree E f d _ _).1 (
          find-lookup f k m.entries
          ∙ sym (get-from_entries nat_list_cmp_total (named_entries f m.entries) (text k))
          ∙ ap (λ a. get a (text k)) e
          ∙ get-from_entries nat_list_cmp_total (named_entries f n.entries) (text k)
          ∙ sym (find-lookup f k n.entries)))

      by_name_decides : Decides (index_map_eq (same_text text) E m n) (by_name f m ≡ by_name f n)
      by_name_decides = (same_by_name, equal_by_name)

  -- `==` of two maps decides whether they hold the same under each name
  pub maps_decide : {X A V S : Type 0} (E : X → X → Bool) (u : A → V) (g : X → A) → ((a b : X) → Decides (E a b) (u (g a) ≡ u (g b))) → (m n : IndexMap K X S) → Decides (index_map_eq (same_text text) E m n) (named u (entries_of text g m) ≡ named u (entries_of text g n))
  maps_decide E u g d m n = carried refl (named-by_name g u m) (named-by_name g u n) (by_name_decides E (λ x. u (g x)) d m n)

  any_text : (q : List ℕ) (k : K) → text k ≡ q → (ks : List K) → list_any (same_text text k) ks ≡ list_any (eq_by_cmp by_bytes q) (map text ks)
  any_text q k e [] = refl
  any_text q k e (x ∷ ks) = λ i. (texts_ties (text k) (text x) ∙ ap (λ t. eq_by_cmp by_bytes t (text x)) e) i || any_text q k e ks i

  None-or_member : (q : List ℕ) (ks : List K) → (list_any (eq_by_cmp by_bytes q) (map text ks) ≡ false) ⊎ ((k : K) × (text k ≡ q))
  None-or_member q [] = inl refl
  None-or_member q (x ∷ ks) = by (pointwise nat_eq q (text x)) refl (None-or_member q ks)
    where
      by : (b : Bool) → pointwise nat_eq q (text x) ≡ b → (list_any (eq_by_cmp by_bytes q) (map text ks) ≡ false) ⊎ ((k : K) × (text k ≡ q)) → (list_any (eq_by_cmp by_bytes q) (map text (x ∷ ks)) ≡ false) ⊎ ((k : K) × (text k ≡ q))
      by true t r = inr (x, sym ((bytes_eq-Decides q (text x)).0 t))
      by false t (inl n) = inl (ap (λ b. b || list_any (eq_by_cmp by_bytes q) (map text ks)) (sym (texts_ties q (text x)) ∙ t) ∙ n)
      by false t (inr k) = inr k

  module _ {S : Type 0} (s t : IndexSet K S) where
    abbrev among : List ℕ → Type 0
    among q = list_any (eq_by_cmp by_bytes q) (map text s.keys) ≡ list_any (eq_by_cmp by_bytes q) (map text t.keys)

    among_by : (q : List ℕ) → ((k : K) → among (text k))
        → (list_any (eq_by_cmp by_bytes q) (map text s.keys) ≡ false) ⊎ ((k : K) × (text k ≡ q))
        → (list_any (eq_by_cmp by_bytes q) (map text t.keys) ≡ false) ⊎ ((k : K) × (text k ≡ q)) → among q
    among_by q h (inr k) r = subst among k.1 (h k.0)
    among_by q h (inl a) (inr k) = subst among k.1 (h k.0)
    among_by q h (inl a) (inl b) = a ∙ sym b

    names_of_decides : Decides (index_set_eq (same_text text) s t) (names_of s ≡ names_of t)
    names_of_decides = through (hash_set_eq_decides same_text-equiv s t)
        (λ h. same_set nat_list_cmp_total by_bytes-IsAntisymmetric _ _ (λ q.
        contains-from_list nat_list_cmp_total (map text s.keys) q
        ∙ among_by q (λ k. sym (any_text (text k) k refl s.keys) ∙ h k ∙ any_text (text k) k refl t.keys) (None-or_member q s.keys) (None-or_member q t.keys)
        ∙ sym (contains-from_list nat_list_cmp_total (map text t.keys) q)))
        (λ e k.
        any_text (text k) k refl s.keys
        ∙ sym (contains-from_list nat_list_cmp_total (map text s.keys) (text k))
        ∙ ap (λ a. contains a (text k)) e
        ∙ contains-from_list nat_list_cmp_total (map text t.keys) (text k)
        ∙ sym (any_text (text k) k refl t.keys))

  -- `==` of two sets decides whether they hold the same names
  pub sets_decide : {A S : Type 0} (u : A → List ℕ) (g : K → A) → ((k : K) → u (g k) ≡ text k) → (s t : IndexSet K S) → Decides (index_set_eq (same_text text) s t) (names u (map g s.keys) ≡ names u (map g t.keys))
  sets_decide u g same s t = carried refl (ap from_list (names_map g u same s.keys)) (ap from_list (names_map g u same t.keys)) (names_of_decides s t)

  pub names-names_of : {A S : Type 0} (u : A → List ℕ) (g : K → A) → ((k : K) → u (g k) ≡ text k) → (s : IndexSet K S) → names u (map g s.keys) ≡ names_of s
  names-names_of u g same s = ap from_list (names_map g u same s.keys)
