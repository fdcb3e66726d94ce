-- The names of the fragments that operations reach.
use Rattle.std.proofs.Common.{◌≡◌, ◌↔◌, ◌⊎◌, inl, inr, ◌++◌, ℕ, Bool, true, false, List, [], ◌∷◌, map, fold, true≢false, is_some, refl, ap, sym, ◌∙◌, subst, Contains, bytes_eq, if◌then◌else◌}
use Rattle.std.specs.List.{list_any}
use Rattle.std.proofs.lemmas.List.Elements.{Contains-append_left, Contains-append_right, Contains-append_cases}
use Rattle.std.proofs.lemmas.Map.Views.{Contains-from_any}
use Rattle.std.proofs.lemmas.Slice.Eq.{bytes_eq-Decides}
use Rattle.indexmap.specs.IndexSet.{insert_key}
use Rattle.graphql_names.specs.Placed.{Place}
use Rattle.rule_definitions.proofs.Lists.{not_in_nil, Contains-cons, Contains-first}
use Rattle.spec_document.specs.MeantTree.{MeantOperation, MeantFragment, MeantDocument}
use Rattle.rule_definitions.specs.Words.{AtSomeIndex}
use Rattle.rule_document_definitions.specs.Selected.{own}
use Rattle.rule_definitions.proofs.Listing.{index_append}
use Rattle.rule_fragments.specs.in_reach.Reach.{Member, IsReach}
use Rattle.rule_fragments.proofs.in_reach.Bridge.{from_map, to_map}
use Rattle.graphql_validation.specs.Operations.{ReachesNamed, NotesNames, with_fragments}

-- one name more
one_more : (n : List ℕ) (ns : List (List ℕ)) (m : List ℕ) → Contains (insert_key bytes_eq ns m) n ↔ (Contains ns n ⊎ (m ≡ n))
one_more n ns m = by (list_any (bytes_eq m) ns) refl
  where
    by : (b : Bool) → list_any (bytes_eq m) ns ≡ b → Contains (if b then ns else ns ++ m ∷ []) n ↔ (Contains ns n ⊎ (m ≡ n))
    by true is = (λ c. inl c, λ q. elim q [ inl c ↦ c | inr e ↦ subst (Contains ns) e (Contains-from_any (λ x y. (bytes_eq-Decides x y).0) m ns is) ])
    by false is = (
      λ c. elim (Contains-append_cases ns (m ∷ []) n c) [
        | inl d ↦ inl d
        | inr d ↦ elim (Contains-cons m [] n d) [ inl e ↦ inr e | inr none ↦ absurd (not_in_nil n none) ]
      ],
      λ q. elim q [ inl c ↦ Contains-append_left ns (m ∷ []) n c | inr e ↦ Contains-append_right ns (m ∷ []) n (Contains-first m [] n e) ],
    )

-- several names more
pub names_more : (n : List ℕ) (ns ms : List (List ℕ)) → Contains (fold (insert_key bytes_eq) ns ms) n ↔ (Contains ns n ⊎ Contains ms n)
names_more n ns [] = (λ c. inl c, λ q. elim q [ inl c ↦ c | inr none ↦ absurd (not_in_nil n none) ])
names_more n ns (m ∷ ms) = (
  λ c. elim ((names_more n (insert_key bytes_eq ns m) ms).0 c) [
    | inl d ↦ elim ((one_more n ns m).0 d) [ inl e ↦ inl e | inr e ↦ inr (Contains-first m ms n e) ]
    | inr d ↦ inr (Contains-append_right (m ∷ []) ms n d)
  ],
  λ q. elim q [
    | inl c ↦ (names_more n (insert_key bytes_eq ns m) ms).1 (inl ((one_more n ns m).1 (inl c)))
    | inr c ↦ elim (Contains-cons m ms n c) [
      | inl e ↦ (names_more n (insert_key bytes_eq ns m) ms).1 (inl ((one_more n ns m).1 (inr e)))
      | inr d ↦ (names_more n (insert_key bytes_eq ns m) ms).1 (inr d)
    ]
  ],
)

-- the names of fragments, one by one
by_names : (ns : List (List ℕ)) (fs : List (MeantFragment Place)) → with_fragments ns fs ≡ fold (insert_key bytes_eq) ns (map (λ (f : MeantFragment Place). f.name.it) fs)
by_names ns [] = refl
by_names ns (f ∷ fs) = by_names (insert_key bytes_eq ns f.name.it) fs

-- the fragments that are spread are those that the operation reaches
pub fragments_noted : (d : MeantDocument Place) (o : MeantOperation Place) (reached : List (Member Place)) (spread : List (MeantFragment Place)) → IsReach d (own o) reached spread
    → (old new : List (List ℕ)) → new ≡ with_fragments old spread → NotesNames old new (ReachesNamed d o)
fragments_noted d o reached spread reach old new is n =
    let names = map (λ (f : MeantFragment Place). f.name.it) spread in
    let more : Contains new n ↔ (Contains old n ⊎ Contains names n) = subst (λ l. Contains l n ↔ (Contains old n ⊎ Contains names n)) (sym (is ∙ by_names old spread)) (names_more n old names) in (
      λ c. elim (more.0 c) [ inl h ↦ inl h | inr h ↦ inr (let f = from_map (λ (f : MeantFragment Place). f.name.it) spread n h in (f.0, ((reach.fragments f.0).0 f.1.0, f.1.1))) ],
      λ q. elim q [
        | inl h ↦ more.1 (inl h)
        | inr f ↦ more.1 (inr (subst (Contains names) f.1.1 (to_map (λ (f : MeantFragment Place). f.name.it) spread f.0 ((reach.fragments f.0).1 f.1.0))))
      ],
    )

-- ---- operation by operation

module _ {X : Type 0} (R : X → List ℕ → Type 0) where
  pub notes_none : (old : List (List ℕ)) → NotesNames old old (λ n. AtSomeIndex [] (λ k x. R x n))
  notes_none old n = (λ c. inl c, λ q. elim q [ inl c ↦ c | inr h ↦ absurd (true≢false (sym (ap is_some h.1.1.0))) ])

  pub notes_more : (old mid new : List (List ℕ)) (ys zs : List X) (y : X) → zs ≡ ys ++ y ∷ [] → NotesNames old mid (λ n. AtSomeIndex ys (λ k x. R x n)) → NotesNames mid new (R y) → NotesNames old new (λ n. AtSomeIndex zs (λ k x. R x n))
  notes_more old mid new ys zs y e first next n =
      let more = index_append ys y (λ k x. R x n) in (
        λ c. elim ((next n).0 c) [
          | inl d ↦ elim ((first n).0 d) [ inl o ↦ inl o | inr h ↦ inr (subst (λ l. AtSomeIndex l (λ k x. R x n)) (sym e) (more.1 (inl h))) ]
          | inr r ↦ inr (subst (λ l. AtSomeIndex l (λ k x. R x n)) (sym e) (more.1 (inr r)))
        ],
        λ q. elim q [
          | inl o ↦ (next n).1 (inl ((first n).1 (inl o)))
          | inr h ↦ elim (more.0 (subst (λ l. AtSomeIndex l (λ k x. R x n)) e h)) [
            | inl a ↦ (next n).1 (inl ((first n).1 (inr a)))
            | inr r ↦ (next n).1 (inr r)
          ]
        ],
      )

  pub notes_same : (old new : List (List ℕ)) (Q S : List ℕ → Type 0) → ((n : List ℕ) → Q n ↔ S n) → NotesNames old new Q → NotesNames old new S
  notes_same old new Q S same notes n = (
    λ c. elim ((notes n).0 c) [ inl o ↦ inl o | inr q ↦ inr ((same n).0 q) ],
    λ q. elim q [ inl o ↦ (notes n).1 (inl o) | inr s ↦ (notes n).1 (inr ((same n).1 s)) ],
  )
