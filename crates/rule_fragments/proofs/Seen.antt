-- What contracts see of possible types, and what their map has; what is kept of two types.
use Rattle.std.proofs.Common.{◌≡◌, ◌∙◌, ℕ, zero, suc, nat_eq, Bool, true, false, ◌&&◌, ◌||◌, List, [], ◌∷◌, map, slice_get, find, cond, Option, None, Some, is_some, refl, ap, sym, subst, true≢false, bytes_eq}
use Rattle.std.specs.Prelude.{IfSome}
use Rattle.std.specs.Map.{lookup, values_of}
use Rattle.std.specs.Option.{option_map, option_map_or}
use Rattle.std.proofs.lemmas.Bool.Decides.{Decides-eqb}
use Rattle.indexmap.specs.IndexMap.{IndexMap, get, Updates}
use Rattle.indexmap.specs.IndexSet.{IndexSet}
use Rattle.graphql_names.specs.NameValue.{NameValue}
use Rattle.schema_types.specs.TypeView.{name_text}
use Rattle.rule_fragments.specs.Held.{texts_of, noted_in, possible_in, objects_at, share_one, may_apply, share_at, AreCommon}
use Rattle.rule_fragments.specs.Possible.{ObjectsOfTypes, objects_of}
use Rattle.rule_fragments.proofs.Noted.{Noted}
use Rattle.rule_fragments.proofs.Sharing.{shares_none}

module _ {S : Type 0} where
  -- under a name, and at an index
  pub seen_under : (n : List ℕ) (es : Noted S) → objects_of (possible_in es) n ≡ noted_in es n
  seen_under n [] = refl
  seen_under n (e ∷ es) = by (bytes_eq n e.0.text) (seen_under n es)
    where
      by : (b : Bool) → objects_of (possible_in es) n ≡ noted_in es n
          → option_map_or (λ (objects : List (List ℕ)). objects) (option_map (λ (g : List ℕ × List (List ℕ)). g.1) (cond b (Some (e.0.text, map name_text e.1.keys)) (find (λ g. bytes_eq n g.0) (possible_in es)))) []
          ≡ texts_of (cond b (Some e.1) (lookup (λ (a : NameValue). bytes_eq n a.text) es))
      by true rest = refl
      by false rest = rest

  seen_at : (es : Noted S) (i : ℕ) → objects_at (possible_in es) i ≡ texts_of (slice_get (values_of es) i)
  seen_at [] i = refl
  seen_at (e ∷ es) zero = refl
  seen_at (e ∷ es) (suc i) = seen_at es i

  pub entry_at : (es : Noted S) (i : ℕ) (o : Option (NameValue × IndexSet NameValue S)) → o ≡ slice_get es i → objects_at (possible_in es) i ≡ option_map_or (λ e. map name_text e.1.keys) o []
  entry_at es i o is = here es i ∙ ap (λ o. option_map_or (λ (e : NameValue × IndexSet NameValue S). map name_text e.1.keys) o []) (sym is)
    where
      here : (es : Noted S) (i : ℕ) → objects_at (possible_in es) i ≡ option_map_or (λ e. map name_text e.1.keys) (slice_get es i) []
      here [] i = refl
      here (e ∷ es) zero = refl
      here (e ∷ es) (suc i) = here es i

  -- the index under which a name is found has what is under the name; where none is found, nothing is
  found_at : (es : Noted S) (n : List ℕ) (i : ℕ) → slice_get (values_of es) i ≡ lookup (λ (a : NameValue). bytes_eq n a.text) es → objects_at (possible_in es) i ≡ objects_of (possible_in es) n
  found_at es n i is = seen_at es i ∙ ap texts_of is ∙ sym (seen_under n es)

  nothing : (o : Option (IndexSet NameValue S)) → false ≡ is_some o → texts_of o ≡ []
  nothing None e = refl
  nothing (Some x) e = absurd (true≢false (sym e))

  missing : (es : Noted S) (n : List ℕ) → false ≡ is_some (lookup (λ (a : NameValue). bytes_eq n a.text) es) → objects_of (possible_in es) n ≡ []
  missing es n e = seen_under n es ∙ nothing (lookup (λ (a : NameValue). bytes_eq n a.text) es) e

  -- so a fragment on another type may apply
  module _ (es : Noted S) (parent condition : List ℕ) (differ : bytes_eq condition parent ≡ false) where
    others : may_apply (possible_in es) parent condition ≡ share_one (objects_of (possible_in es) parent) (objects_of (possible_in es) condition)
    others = ap (λ b. b || share_one (objects_of (possible_in es) parent) (objects_of (possible_in es) condition)) differ

    pub applies_at : (i j : ℕ) → slice_get (values_of es) i ≡ lookup (λ (a : NameValue). bytes_eq parent a.text) es → slice_get (values_of es) j ≡ lookup (λ (a : NameValue). bytes_eq condition a.text) es
        → share_at (possible_in es) i j ≡ may_apply (possible_in es) parent condition
    applies_at i j here there = (λ k. share_one (found_at es parent i here k) (found_at es condition j there k)) ∙ sym others

    pub no_parent : false ≡ is_some (lookup (λ (a : NameValue). bytes_eq parent a.text) es) → false ≡ may_apply (possible_in es) parent condition
    no_parent e = sym (others ∙ ap (λ l. share_one l (objects_of (possible_in es) condition)) (missing es parent e))

    pub no_condition : false ≡ is_some (lookup (λ (a : NameValue). bytes_eq condition a.text) es) → false ≡ may_apply (possible_in es) parent condition
    no_condition e = sym (others ∙ ap (share_one (objects_of (possible_in es) parent)) (missing es condition e) ∙ shares_none (objects_of (possible_in es) parent))

-- ---- what is kept of two types

abbrev same_two : ℕ × ℕ → ℕ × ℕ → Bool
same_two x y = nat_eq x.0 y.0 && nat_eq x.1 y.1

same_numbers : (i j k l : ℕ) → (nat_eq i k && nat_eq j l) ≡ true → (i ≡ k) × (j ≡ l)
same_numbers i j k l e = by (nat_eq i k) refl (nat_eq j l) refl e
  where
    by : (a : Bool) → nat_eq i k ≡ a → (b : Bool) → nat_eq j l ≡ b → (a && b) ≡ true → (i ≡ k) × (j ≡ l)
    by true a true b e = ((Decides-eqb i k).0 a, (Decides-eqb j l).0 b)
    by true a false b e = absurd (true≢false (sym e))
    by false a b' b e = absurd (true≢false (sym e))

module _ (p : ObjectsOfTypes) where
  abbrev Right : ℕ × ℕ → Option Bool → Type 0
  Right k o = IfSome o (λ b. b ≡ share_at p k.0 k.1)

  module _ {S : Type 0} where
    pub none_kept : (common : IndexMap (ℕ × ℕ) Bool S) → common.entries ≡ [] → AreCommon p common
    none_kept common empty k = subst (λ es. Right k (lookup (same_two k) es)) (sym empty) tt

    pub kept : (common : IndexMap (ℕ × ℕ) Bool S) (i j : ℕ) (b : Bool) → AreCommon p common → Some b ≡ get same_two common (i, j) → b ≡ share_at p i j
    kept common i j b right is = subst (Right (i, j)) (sym is) (right (i, j))

    pub one_more : (old new : IndexMap (ℕ × ℕ) Bool S) (i j : ℕ) (b : Bool) → AreCommon p old → Updates same_two old new (i, j) (Some b) → b ≡ share_at p i j → AreCommon p new
    one_more old new i j b before update is k = by (same_two (i, j) k) refl
      where
        found : (t : Bool) → same_two (i, j) k ≡ t → get same_two new k ≡ cond t (Some b) (get same_two old k)
        found t e = update.0 k ∙ ap (λ t. cond t (Some b) (get same_two old k)) e

        by : (t : Bool) → same_two (i, j) k ≡ t → Right k (get same_two new k)
        by true e =
            let same = same_numbers i j k.0 k.1 e in
            subst (Right k) (sym (found true e)) (is ∙ (λ x. share_at p (same.0 x) (same.1 x)))
        by false e = subst (Right k) (sym (found false e)) (before k)
