-- Where a fragment can apply, by the objects that two types have in common.
use Rattle.std.proofs.Common.{◌≡◌, ◌↔◌, inl, inr, ◌+◌, ◌<◌, ◌∙◌, ℕ, Bool, true, false, ◌||◌, List, [], ◌∷◌, map, drop, length, get_or, refl, ap, sym, true≢false, Contains, bytes_eq}
use Rattle.std.proofs.lemmas.List.{drop_more}
use Rattle.std.proofs.lemmas.List.Elements.{Contains-append_right}
use Rattle.std.proofs.lemmas.Slice.Eq.{bytes_eq-Decides}
use Rattle.graphql_names.specs.NameValue.{NameValue}
use Rattle.schema_components.specs.Lists.{is_among}
use Rattle.schema_types.specs.TypeView.{name_text}
use Rattle.rule_definitions.specs.Judged.{Judged}
use Rattle.rule_definitions.proofs.Lists.{not_in_nil, Contains-cons, Contains-first}
use Rattle.rule_definitions.proofs.Lookups.{text_found, text_given}
use Rattle.rule_document_definitions.specs.PossibleTypes.{CanBe, MayApply}
use Rattle.rule_fragments.specs.Held.{share_one, may_apply}
use Rattle.rule_fragments.specs.Possible.{ObjectsOfTypes, objects_of, ArePossible}

abbrev Common : List (List ℕ) → List (List ℕ) → Type 0
Common xs ys = (x : List ℕ) × (Contains xs x × Contains ys x)

pub shares : (xs ys : List (List ℕ)) → (share_one xs ys ≡ true) ↔ Common xs ys
shares [] ys = (λ e. absurd (true≢false (sym e)), λ h. not_in_nil h.0 h.1.0)
shares (x ∷ xs) ys = by (is_among x ys) refl (shares xs ys)
  where
    by : (b : Bool) → is_among x ys ≡ b → (share_one xs ys ≡ true) ↔ Common xs ys → ((b || share_one xs ys) ≡ true) ↔ Common (x ∷ xs) ys
    by true is rest = (λ e. (x, (Contains-first x xs x refl, text_given ys x is)), λ h. refl)
    by false is rest = (
      λ e. let r = rest.0 e in (r.0, (Contains-append_right (x ∷ []) xs r.0 r.1.0, r.1.1)),
      λ h. elim (Contains-cons x xs h.0 h.1.0) [
        | inl e ↦ absurd (true≢false (sym (ap (λ n. is_among n ys) e ∙ text_found ys h.0 h.1.1) ∙ is))
        | inr c ↦ rest.1 (h.0, (c, h.1.1))
      ],
    )

-- nothing is shared with an empty list
pub shares_none : (xs : List (List ℕ)) → share_one xs [] ≡ false
shares_none [] = refl
shares_none (x ∷ xs) = shares_none xs

-- either list may be scanned
pub shares_either : (xs ys : List (List ℕ)) → share_one xs ys ≡ share_one ys xs
shares_either xs ys = by (share_one xs ys) refl (share_one ys xs) refl
  where
    swap : (xs ys : List (List ℕ)) → share_one xs ys ≡ true → share_one ys xs ≡ true
    swap xs ys e = let h = (shares xs ys).0 e in (shares ys xs).1 (h.0, (h.1.1, h.1.0))

    by : (a : Bool) → share_one xs ys ≡ a → (b : Bool) → share_one ys xs ≡ b → a ≡ b
    by true e true f = refl
    by true e false f = sym (swap xs ys e) ∙ f
    by false e true f = sym e ∙ swap ys xs f
    by false e false f = refl

-- ---- in a loop

module _ (ks : List NameValue) (ys : List (List ℕ)) (i : ℕ) (k : NameValue) (within : i < length ks) (is : k ≡ get_or ks i k) where
  next : share_one (map name_text (drop i ks)) ys ≡ (is_among k.text ys || share_one (map name_text (drop (i + 1) ks)) ys)
  next = ap (λ l. share_one (map name_text l) ys) (drop_more ks i k within ∙ ap (λ x. x ∷ drop (i + 1) ks) (sym is))

  pub passed : is_among k.text ys ≡ false → share_one (map name_text (drop i ks)) ys ≡ share_one (map name_text (drop (i + 1) ks)) ys
  passed missing = next ∙ ap (λ b. b || share_one (map name_text (drop (i + 1) ks)) ys) missing

  pub met : is_among k.text ys ≡ true → share_one (map name_text (drop i ks)) ys ≡ true
  met there = next ∙ ap (λ b. b || share_one (map name_text (drop (i + 1) ks)) ys) there

-- ---- what the rule says

module _ (s : Judged) (p : ObjectsOfTypes) (possible : ArePossible s p) (n c : List ℕ) where
  pub applies : (may_apply p n c ≡ true) ↔ MayApply s n c
  applies = by (bytes_eq c n) refl
    where
      common : Common (objects_of p n) (objects_of p c) ↔ ((object : List ℕ) × (CanBe s n object × CanBe s c object))
      common = (
        λ h. (h.0, ((possible n h.0).0 h.1.0, (possible c h.0).0 h.1.1)),
        λ h. (h.0, ((possible n h.0).1 h.1.0, (possible c h.0).1 h.1.1)),
      )

      by : (b : Bool) → bytes_eq c n ≡ b → ((b || share_one (objects_of p n) (objects_of p c)) ≡ true) ↔ MayApply s n c
      by true is = (λ e. inl ((bytes_eq-Decides c n).0 is), λ h. refl)
      by false is = (
        λ e. inr (common.0 ((shares (objects_of p n) (objects_of p c)).0 e)),
        λ h. elim h [
          | inl e ↦ absurd (true≢false (sym ((bytes_eq-Decides c n).1 e) ∙ is))
          | inr q ↦ (shares (objects_of p n) (objects_of p c)).1 (common.1 q)
        ],
      )

  pub refused : (may_apply p n c ≡ false) ↔ (MayApply s n c → ⊥)
  refused = (λ e h. true≢false (sym (applies.1 h) ∙ e), λ never. by (may_apply p n c) refl never)
    where
      by : (b : Bool) → may_apply p n c ≡ b → (MayApply s n c → ⊥) → b ≡ false
      by true is never = absurd (never (applies.0 is))
      by false is never = refl
