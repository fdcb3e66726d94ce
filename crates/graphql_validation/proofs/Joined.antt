-- What is found of operations, one after the other.
use Rattle.std.proofs.Common.{◌≡◌, ◌↔◌, ◌⊎◌, ◌≤◌, inl, inr, List, [], ◌∷◌, ◌++◌, length, refl, sym, subst, Contains, arith}
use Rattle.std.proofs.lemmas.List.{length-append}
use Rattle.std.proofs.lemmas.List.Elements.{Contains-append_left, Contains-append_cases}
use Rattle.graphql_faults.specs.Added.{BeginsAs}
use Rattle.rule_definitions.proofs.Lists.{not_in_nil, only}
use Rattle.rule_definitions.specs.Room.{most_told, ◌⊕◌}
use Rattle.rule_fragments.specs.UnlessFull.{IsFull, TellsUnlessFull, HasAll}
use Rattle.rule_fragments.proofs.UnlessFull.{adds_first, adds_exactly}
use Rattle.graphql_validation.specs.OperationChecks.{Joins}

module _ {A : Type 0} where
  -- what was there is there
  still : (old new : List A) (f : A) → BeginsAs old new → Contains old f → Contains new f
  still old new f (added, is) c = subst (λ l. Contains l f) (sym is) (Contains-append_left old added f c)

  longer : (old new : List A) → BeginsAs old new → IsFull old → IsFull new
  longer old new (added, is) full = subst IsFull (sym is) (let long = length-append old added in omega (arith, full, long))

module _ {X A : Type 0} (Fails : X → A → Type 0) where
  -- all that fails of these is told
  abbrev pub TellsOf : List X → List A → Type 0
  TellsOf xs told = (x : X) → Contains xs x → (f : A) → Fails x f → Contains told f

  all_of : (xs all : List X) (told : List A) → xs ≡ all → TellsOf xs told → HasAll (λ f. (x : X) × (Contains all x × Fails x f)) told
  all_of xs all told is tells f at = tells at.0 (subst (λ l. Contains l at.0) (sym is) at.1.0) f at.1.1

  module _ {Right : A → Type 0} where
    pub none_found : (told : List A) → told ≡ [] → TellsUnlessFull Right (TellsOf []) told
    none_found told none = subst (TellsUnlessFull Right (TellsOf [])) (sym none) (record {
      right = λ f c. not_in_nil f c;
      most = omega arith;
      full = inr (λ x c f fails. not_in_nil x c);
    })

    -- of one more
    pub more_found : (before own new : List A) (xs all : List X) (x : X) → all ≡ xs ++ x ∷ [] → ((f : A) → Fails x f → Right f) → TellsUnlessFull Right (TellsOf xs) before
        → (none : List A) → none ≡ [] → (added : List A) × ((own ≡ none ⊕ added) × ((f : A) → Contains added f ↔ Fails x f)) → Joins before own new → TellsUnlessFull Right (TellsOf all) new
    more_found before own new xs all x is fails tells none nothing (added, (e, lists)) joins = elim joins [
      | inl h ↦ record {
        right = λ f c. fails f (this.right f (subst (λ l. Contains l f) h.1 c));
        most = subst (λ (l : List A). length l ≤ most_told) (sym h.1) this.most;
        full = inl (subst IsFull (sym h.1) h.0);
      }
      | inr h ↦ record {
        right = λ f c. elim (h.1.0.from f c) [ inl k ↦ tells.right f k | inr k ↦ fails f (this.right f k) ];
        most = h.1.0.most tells.most;
        full = elim h.1.1 [
          | inl full ↦ inl full
          | inr every ↦ elim this.full [
            | inl full ↦ absurd (h.0 full)
            | inr has ↦ elim tells.full [
              | inl full ↦ inl (longer before new h.1.0.begins full)
              | inr told ↦ inr (λ y c f breaks. elim (Contains-append_cases xs (x ∷ []) y (subst (λ l. Contains l y) is c)) [
                | inl k ↦ still before new f h.1.0.begins (told y k f breaks)
                | inr k ↦ every f (has f (subst (λ z. Fails z f) (only x y k) breaks))
              ])
            ]
          ]
        ];
      }
    ]
      where
        this : TellsUnlessFull (Fails x) (HasAll (Fails x)) own
        this = adds_first {T = HasAll (Fails x)} none own nothing (adds_exactly {Right = Fails x} none own added e (λ f c. (lists f).0 c) (λ f h. (lists f).1 h))

    -- where the list is full, the rest is left; else that is all
    pub full_found : {TellsAll : List A → Type 0} (xs : List X) (told : List A) → IsFull told → TellsUnlessFull Right (TellsOf xs) told → TellsUnlessFull Right TellsAll told
    full_found xs told full tells = record { right = tells.right; most = tells.most; full = inl full }

    pub all_found : (xs all : List X) (told : List A) → xs ≡ all → TellsUnlessFull Right (TellsOf xs) told → TellsUnlessFull Right (HasAll (λ f. (x : X) × (Contains all x × Fails x f))) told
    all_found xs all told is tells = record { right = tells.right; most = tells.most; full = elim tells.full [ inl full ↦ inl full | inr has ↦ inr (all_of xs all told is has) ] }
