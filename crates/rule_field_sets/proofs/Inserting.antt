-- What is inserted into a map whose values keep what they had: the first under each key stays.
use Rattle.std.proofs.Common.{◌≡◌, ◌∙◌, ◌↔◌, ℕ, zero, suc, ◌+◌, Bool, true, false, not, cond, List, [], ◌∷◌, map, slice_get, nat_eq, Option, Some, None, Result, Ok, Err, refl, sym, ap, subst, inl, inr, true≢false, if◌then◌else◌, arith, IsTrue}
use Rattle.std.specs.Prelude.{unwrap_or, option_map}
use Rattle.std.specs.Option.{option_map_or}
use Rattle.std.specs.Result.{OnErr}
use Rattle.std.specs.Bool.{Decides}
use Rattle.std.specs.List.{position_or_len}
use Rattle.std.specs.Map.{lookup, keys_of}
use Rattle.std.proofs.lemmas.Bool.Decides.{Decides-eqb}
use Rattle.indexmap.specs.IndexMap.{insert_entry}
use Rattle.rule_definitions.proofs.Lists.{not_in_nil, Contains-cons}
use Rattle.rule_field_sets.specs.Tables.{Enters, keys_in}

module _ {K V L W : Type 0} (u : K → L) (f : V → W) (eq : K → K → Bool) (decides : (a b : K) → Decides (eq a b) (u a ≡ u b)) where
  -- entries, by what they say
  abbrev pub said : List (K × V) → List (L × W)
  said es = map (λ e. (u e.0, f e.1)) es

  enters_cons : (e : L × W) (old new : List (L × W)) (k : L) (x : W) (n : ℕ) → (e.0 ≡ k → ⊥) → Enters old k x n new → Enters (e ∷ old) k x (suc n) (e ∷ new)
  enters_cons e old new k x n differs (inl (w, (at, is))) = inl (w, (at, ap (λ l. e ∷ l) is))
  enters_cons e old new k x n differs (inr (absent, (is, more))) = inr (
    λ c. elim (Contains-cons e.0 (keys_in old) k c) [ inl s ↦ differs s | inr r ↦ absent r ],
    (ap suc is, ap (λ l. e ∷ l) more),
  )

  -- a value that says what is known under the key, or else this
  pub entered : (es : List (K × V)) (k : K) (v : V) (x : W) → f v ≡ unwrap_or (option_map f (lookup (eq k) es)) x
      → Enters (said es) (u k) x (position_or_len (eq k) (keys_of es)) (said (insert_entry eq es k v))
  entered [] k v x is = inr (λ c. not_in_nil (u k) c, (refl, ap (λ y. (u k, y) ∷ []) is))
  entered (e ∷ es) k v x is = by (eq k e.0) refl is (entered es k v x)
    where
      by : (b : Bool) → eq k e.0 ≡ b → f v ≡ unwrap_or (option_map f (cond b (Some e.1) (lookup (eq k) es))) x
          → (f v ≡ unwrap_or (option_map f (lookup (eq k) es)) x → Enters (said es) (u k) x (position_or_len (eq k) (keys_of es)) (said (insert_entry eq es k v)))
          → Enters (said (e ∷ es)) (u k) x (cond (not b) (1 + position_or_len (eq k) (keys_of es)) 0) (said (if b then (e.0, v) ∷ es else e ∷ insert_entry eq es k v))
      by true h i rest = inl (f e.1, (ap (λ y. Some (y, f e.1)) (sym ((decides k e.0).0 h)), ap (λ y. (u e.0, y) ∷ said es) i))
      by false h i rest = subst (λ n. Enters (said (e ∷ es)) (u k) x n (said (e ∷ insert_entry eq es k v))) (omega arith)
          (enters_cons (u e.0, f e.1) (said es) (said (insert_entry eq es k v)) (u k) x (position_or_len (eq k) (keys_of es)) (λ s. true≢false (sym ((decides k e.0).1 (sym s)) ∙ h)) (rest i))

  -- the value is there
  pub inserted_at : (es : List (K × V)) (k : K) (v : V) → slice_get (said (insert_entry eq es k v)) (position_or_len (eq k) (keys_of es)) ≡ Some (u k, f v)
  inserted_at [] k v = refl
  inserted_at (e ∷ es) k v = by (eq k e.0) refl (inserted_at es k v)
    where
      by : (b : Bool) → eq k e.0 ≡ b → slice_get (said (insert_entry eq es k v)) (position_or_len (eq k) (keys_of es)) ≡ Some (u k, f v)
          → slice_get (said (if b then (e.0, v) ∷ es else e ∷ insert_entry eq es k v)) (cond (not b) (1 + position_or_len (eq k) (keys_of es)) 0) ≡ Some (u k, f v)
      by true h rest = ap (λ y. Some (y, f v)) (sym ((decides k e.0).0 h))
      by false h rest = subst (λ n. slice_get (said (e ∷ insert_entry eq es k v)) n ≡ Some (u k, f v)) one_more rest
        where
          one_more : suc (position_or_len (eq k) (keys_of es)) ≡ 1 + position_or_len (eq k) (keys_of es)
          one_more = omega arith

-- what is mapped of something or else of this
pub map_or : {A B C : Type 0} (g : A → B) (h : B → C) (o : Option A) (x : B) → h (unwrap_or (option_map g o) x) ≡ unwrap_or (option_map (λ a. h (g a)) o) (h x)
map_or g h None x = refl
map_or g h (Some a) x = refl

pub map_itself : {A : Type 0} (o : Option A) → option_map (λ a. a) o ≡ o
map_itself None = refl
map_itself (Some a) = refl

module _ {K V : Type 0} (node_of : V → ℕ) (eq : K → K → Bool) where
  abbrev nodes : List (K × V) → List ℕ
  nodes es = map (λ e. node_of e.1) es

  one_more : (n : ℕ) → suc n ≡ 1 + n
  one_more n = omega arith

  -- the node of what is inserted is there
  pub noted_there : (es : List (K × V)) (k : K) (v : V) → slice_get (nodes (insert_entry eq es k v)) (position_or_len (eq k) (keys_of es)) ≡ Some (node_of v)
  noted_there [] k v = refl
  noted_there (e ∷ es) k v = by (noted_there es k v) (eq k e.0)
    where
      by : slice_get (nodes (insert_entry eq es k v)) (position_or_len (eq k) (keys_of es)) ≡ Some (node_of v)
          → (b : Bool) → slice_get (nodes (if b then (e.0, v) ∷ es else e ∷ insert_entry eq es k v)) (cond (not b) (1 + position_or_len (eq k) (keys_of es)) 0) ≡ Some (node_of v)
      by rest true = refl
      by rest false = subst (λ n. slice_get (nodes (e ∷ insert_entry eq es k v)) n ≡ Some (node_of v)) (one_more (position_or_len (eq k) (keys_of es))) rest

  -- all others stay
  pub noted_others : (es : List (K × V)) (k : K) (v : V) (m : ℕ) → (m ≡ position_or_len (eq k) (keys_of es) → ⊥) → slice_get (nodes (insert_entry eq es k v)) m ≡ slice_get (nodes es) m
  noted_others [] k v zero differ = absurd (differ refl)
  noted_others [] k v (suc m) differ = refl
  noted_others (e ∷ es) k v m differ = by (noted_others es k v) (eq k e.0) m differ
    where
      by : ((j : ℕ) → (j ≡ position_or_len (eq k) (keys_of es) → ⊥) → slice_get (nodes (insert_entry eq es k v)) j ≡ slice_get (nodes es) j)
          → (b : Bool) (m : ℕ) → (m ≡ cond (not b) (1 + position_or_len (eq k) (keys_of es)) 0 → ⊥)
          → slice_get (nodes (if b then (e.0, v) ∷ es else e ∷ insert_entry eq es k v)) m ≡ slice_get (nodes (e ∷ es)) m
      by rest true zero d = absurd (d refl)
      by rest true (suc m) d = refl
      by rest false zero d = refl
      by rest false (suc m) d = rest m (λ i. d (ap suc i ∙ one_more (position_or_len (eq k) (keys_of es))))

  -- the node that was found is the one at the place
  pub found_at : (es : List (K × V)) (k : K) → option_map node_of (lookup (eq k) es) ≡ slice_get (nodes es) (position_or_len (eq k) (keys_of es))
  found_at [] k = refl
  found_at (e ∷ es) k = by (found_at es k) (eq k e.0)
    where
      by : option_map node_of (lookup (eq k) es) ≡ slice_get (nodes es) (position_or_len (eq k) (keys_of es))
          → (b : Bool) → option_map node_of (cond b (Some e.1) (lookup (eq k) es)) ≡ slice_get (nodes (e ∷ es)) (cond (not b) (1 + position_or_len (eq k) (keys_of es)) 0)
      by rest true = refl
      by rest false = rest ∙ ap (λ n. slice_get (nodes (e ∷ es)) n) (one_more (position_or_len (eq k) (keys_of es)))

pub node_found : {V : Type 0} (node_of : V → ℕ) (known : Option V) (node : ℕ) → IsTrue (option_map_or (λ v. nat_eq (node_of v) node) known false) ↔ (option_map node_of known ≡ Some node)
node_found node_of None node = (λ h. cc, λ e. cc)
node_found node_of (Some v) node = (λ h. ap Some (decided.0 (is_true h)), λ e. to_true (decided.1 (some_same e)))
  where
    decided : Decides (nat_eq (node_of v) node) (node_of v ≡ node)
    decided = Decides-eqb (node_of v) node

    is_true : IsTrue (nat_eq (node_of v) node) → nat_eq (node_of v) node ≡ true
    is_true h = h

    to_true : nat_eq (node_of v) node ≡ true → IsTrue (nat_eq (node_of v) node)
    to_true h = h

    some_same : Some (node_of v) ≡ Some node → node_of v ≡ node
    some_same e = cc

-- what is so is so of an error
pub on_error : {A E P : Type 0} (r : Result A E) → P → OnErr r P
on_error (Ok a) p = tt
on_error (Err e) p = p
