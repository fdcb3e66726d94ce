-- Names among those of keys; and where variables are in a selection itself.
use Rattle.std.proofs.Common.{◌≡◌, ◌↔◌, inl, inr, ℕ, Bool, true, false, ◌||◌, List, [], ◌∷◌, map, refl, ap, sym, ◌∙◌, subst, true≢false, is_some, Contains, bytes_eq}
use Rattle.std.specs.List.{list_any}
use Rattle.std.proofs.lemmas.List.Elements.{Contains-append_right}
use Rattle.std.proofs.lemmas.Slice.Eq.{bytes_eq-Decides}
use Rattle.graphql_names.specs.NameValue.{NameValue}
use Rattle.graphql_names.specs.Placed.{Place}
use Rattle.spec_document.specs.MeantTree.{MeantSelection, MeantField, MeantSpread, MeantInline}
use Rattle.rule_definitions.proofs.Lists.{not_in_nil, Contains-cons, Contains-first}
use Rattle.rule_document_definitions.specs.Selected.{Position, Standing}
use Rattle.rule_document_definitions.specs.UsedVariables.{IsInArguments, IsInSelection}
use Rattle.rule_reach.proofs.UsedNames.{StandsHere}

-- ---- a name among those of keys

abbrev text_of : NameValue → List ℕ
text_of k = k.text

pub any_among : (n : List ℕ) (ks : List (NameValue)) → (list_any (λ (k : NameValue). bytes_eq n k.text) ks ≡ true) ↔ Contains (map text_of ks) n
any_among n [] = (λ h. absurd (true≢false (sym h)), λ c. not_in_nil n c)
any_among n (k ∷ ks) = by (bytes_eq n k.text) refl (any_among n ks)
  where
    by : (b : Bool) → bytes_eq n k.text ≡ b → (list_any (λ (k : NameValue). bytes_eq n k.text) ks ≡ true) ↔ Contains (map text_of ks) n
        → ((b || list_any (λ (k : NameValue). bytes_eq n k.text) ks) ≡ true) ↔ Contains (k.text ∷ map text_of ks) n
    by true is rest = (λ h. Contains-first k.text (map text_of ks) n (sym ((bytes_eq-Decides n k.text).0 is)), λ c. refl)
    by false is rest = (
      λ h. Contains-append_right (k.text ∷ []) (map text_of ks) n (rest.0 h),
      λ c. elim (Contains-cons k.text (map text_of ks) n c) [
        | inl e ↦ absurd (true≢false (sym ((bytes_eq-Decides n k.text).1 (sym e)) ∙ is))
        | inr d ↦ rest.1 d
      ],
    )

-- ---- selections

module _ (n : List ℕ) where
  here : (at : Position) (t : List ℕ) (x : MeantSelection Place) → StandsHere n x ↔ IsInSelection n (record { position = at; parent = t; it = x })
  here at t (MeantField p d h s) = (
    λ r. elim r [ inl a ↦ inr (record { position = at; parent = t; place = p; definition = d; head = h; set = s }, (refl, a)) | inr e ↦ inl e ],
    λ r. elim r [ inl e ↦ inr e | inr f ↦ let same : f.0.head.arguments ≡ h.arguments = cc in inl (subst (IsInArguments n) same f.1.1) ],
  )
  here at t (MeantSpread p m ds) = (λ e. inl e, λ r. elim r [ inl e ↦ e | inr f ↦ absurd (true≢false (sym (ap is_some f.1.0))) ])
  here at t (MeantInline p c ds s) = (λ e. inl e, λ r. elim r [ inl e ↦ e | inr f ↦ absurd (true≢false (sym (ap is_some f.1.0))) ])

  pub stands_here : (x : Standing Place) → StandsHere n x.it ↔ IsInSelection n x
  stands_here x = here x.position x.parent x.it
