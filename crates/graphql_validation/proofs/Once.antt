-- What is told of a document, each fault once.
use Rattle.std.proofs.Common.{◌≡◌, ◌⊎◌, ℕ, zero, suc, inl, inr, Bool, true, false, List, [], ◌∷◌, ◌++◌, map, take, drop, None, Some, refl, sym, ap, subst, ◌∙◌, Contains, arith}
use Rattle.std.proofs.lemmas.List.{take-append-drop}
use Rattle.std.proofs.lemmas.List.Elements.{Contains-append_left, Contains-append_right, Contains-append_cases}
use Rattle.graphql_names.specs.Placed.{Place}
use Rattle.rule_cycle_search.specs.Paths.{HasNoRepeat}
use Rattle.rule_cycle_search.proofs.Lists.{not_in_nil, Contains-cons, Contains-first, index_found, index_given}
use Rattle.rule_definitions.specs.Room.{most_told}
use Rattle.rule_definitions.specs.PlacedFaults.{PlacedFault}
use Rattle.rule_document_definitions.specs.DocumentFaults.{Broken, OfData, OfDocument, OfLimit}
use Rattle.rule_document_definitions.specs.PlacedDocumentFaults.{PlacedDocumentFault}
use Rattle.graphql_faults.specs.Once.{EachOnce, KeepsOnce}
use Rattle.rule_fragments.specs.UnlessFull.{IsFull, TellsUnlessFull, HasAll}
use Rattle.rule_fragments.proofs.UnlessFull.{first_full}
use Rattle.spec_document.specs.MeantTree.{MeantOperation, MeantDocument}
use Rattle.graphql_validation.specs.Operations.{DataFails, TellsData, DataTold, bound_told, all_told}
use Rattle.graphql_validation.proofs.FirstTold.{full_faults, full_breaches}

module _ {X : Type 0} where
  -- nothing is in it twice
  abbrev Apart : List X → Type 0
  Apart [] = Unit {0}
  Apart (x ∷ xs) = (Contains xs x → ⊥) × Apart xs

  no_repeat : (xs : List X) → Apart xs → HasNoRepeat xs
  no_repeat [] a i j x h k = absurd cc
  no_repeat (y ∷ ys) a zero zero x h k = refl
  no_repeat (y ∷ ys) a zero (suc j) x h k = let e : y ≡ x = cc in absurd (a.0 (subst (Contains ys) (sym e) (index_given ys j x k)))
  no_repeat (y ∷ ys) a (suc i) zero x h k = let e : y ≡ x = cc in absurd (a.0 (subst (Contains ys) (sym e) (index_given ys i x h)))
  no_repeat (y ∷ ys) a (suc i) (suc j) x h k = ap suc (no_repeat ys a.1 i j x h k)

  apart : (xs : List X) → HasNoRepeat xs → Apart xs
  apart [] none = tt
  apart (x ∷ xs) none = (
    λ c. let p = index_found xs x c in let e : 0 ≡ suc p.0 = none 0 (suc p.0) x refl p.1 in absurd (omega (arith, e)),
    apart xs (λ i j y h k. let e : suc i ≡ suc j = none (suc i) (suc j) y h k in omega (arith, e)),
  )

  apart_both : (xs ys : List X) → Apart xs → Apart ys → ((x : X) → Contains xs x → Contains ys x → ⊥) → Apart (xs ++ ys)
  apart_both [] ys a b differ = b
  apart_both (x ∷ xs) ys a b differ = (
    λ c. elim (Contains-append_cases xs ys x c) [ inl h ↦ a.0 h | inr h ↦ differ x (Contains-first x xs x refl) h ],
    apart_both xs ys a.1 b (λ y h k. differ y (Contains-append_right (x ∷ []) xs y h) k),
  )

  of_these : (n : ℕ) (xs : List X) (x : X) → Contains (take n xs) x → Contains xs x
  of_these n xs x c = subst (λ l. Contains l x) (take-append-drop n xs) (Contains-append_left (take n xs) (drop n xs) x c)

  apart_first : (n : ℕ) (xs : List X) → Apart xs → Apart (take n xs)
  apart_first zero [] a = tt
  apart_first zero (x ∷ xs) a = tt
  apart_first (suc n) [] a = tt
  apart_first (suc n) (x ∷ xs) a = ((λ c. a.0 (of_these n xs x c)), apart_first n xs a.1)

  pub once_first : (all : List X) → EachOnce all → EachOnce (take most_told all)
  once_first all (inl full) = inl (first_full all full)
  once_first all (inr none) = inr (no_repeat (take most_told all) (apart_first most_told all (apart all none)))

module _ {X Y : Type 0} (f : X → Y) (back : (x y : X) → f x ≡ f y → x ≡ y) where
  in_mapped : (xs : List X) (x : X) → Contains (map f xs) (f x) → Contains xs x
  in_mapped [] x c = not_in_nil (f x) c
  in_mapped (z ∷ xs) x c = elim (Contains-cons (f z) (map f xs) (f x) c) [
    | inl e ↦ Contains-first z xs x (back z x e)
    | inr h ↦ Contains-append_right (z ∷ []) xs x (in_mapped xs x h)
  ]

  apart_mapped : (xs : List X) → Apart xs → Apart (map f xs)
  apart_mapped [] a = tt
  apart_mapped (x ∷ xs) a = ((λ c. a.0 (in_mapped xs x c)), apart_mapped xs a.1)

-- ---- faults, breaches and the bound

data_back : (f g : PlacedFault) → ◌≡◌ {A = PlacedDocumentFault} (OfData f) (OfData g) → f ≡ g
data_back f g e = cc

document_back : (f g : Broken Place) → ◌≡◌ {A = PlacedDocumentFault} (OfDocument f) (OfDocument g) → f ≡ g
document_back f g e = cc

among_breaches : (breaches : List (Broken Place)) (f : PlacedDocumentFault) → Contains (map OfDocument breaches) f → (b : Broken Place) × (OfDocument b ≡ f)
among_breaches [] f c = not_in_nil f c
among_breaches (b ∷ bs) f c = elim (Contains-cons (OfDocument b) (map OfDocument bs) f c) [ inl e ↦ (b, e) | inr h ↦ among_breaches bs f h ]

among_faults : (faults : List PlacedFault) (f : PlacedDocumentFault) → Contains (map OfData faults) f → (g : PlacedFault) × (OfData g ≡ f)
among_faults [] f c = not_in_nil f c
among_faults (g ∷ gs) f c = elim (Contains-cons (OfData g) (map OfData gs) f c) [ inl e ↦ (g, e) | inr h ↦ among_faults gs f h ]

is_bound : (is_passed : Bool) (f : PlacedDocumentFault) → Contains (bound_told is_passed) f → OfLimit None ≡ f
is_bound true f c = elim (Contains-cons (OfLimit None) [] f c) [ inl e ↦ e | inr h ↦ not_in_nil f h ]
is_bound false f c = not_in_nil f c

bound_apart : (is_passed : Bool) → Apart (bound_told is_passed)
bound_apart true = ((λ c. not_in_nil (OfLimit None) c), tt)
bound_apart false = tt

module _ (faults : List PlacedFault) (breaches : List (Broken Place)) (is_passed : Bool) where
  rest_apart : Apart breaches → Apart (map OfDocument breaches ++ bound_told is_passed)
  rest_apart a = apart_both (map OfDocument breaches) (bound_told is_passed) (apart_mapped OfDocument document_back breaches a) (bound_apart is_passed) (λ f c k.
      let b = among_breaches breaches f c in
      let e : OfDocument b.0 ≡ OfLimit None = b.1 ∙ sym (is_bound is_passed f k) in absurd cc)

  all_apart : Apart faults → Apart breaches → Apart (all_told faults breaches is_passed)
  all_apart a b = apart_both (map OfData faults) (map OfDocument breaches ++ bound_told is_passed) (apart_mapped OfData data_back faults a) (rest_apart b) (λ f c k.
      let g = among_faults faults f c in
      elim (Contains-append_cases (map OfDocument breaches) (bound_told is_passed) f k) [
        | inl h ↦ let b = among_breaches breaches f h in let e : OfData g.0 ≡ OfDocument b.0 = g.1 ∙ sym b.1 in absurd cc
        | inr h ↦ let e : OfData g.0 ≡ OfLimit None = g.1 ∙ sym (is_bound is_passed f h) in absurd cc
      ])

  all_once : EachOnce faults → EachOnce breaches → EachOnce (all_told faults breaches is_passed)
  all_once (inl full) b = inl (full_faults faults breaches is_passed full)
  all_once (inr a) (inl full) = inl (full_breaches faults breaches is_passed full)
  all_once (inr a) (inr b) = inr (no_repeat (all_told faults breaches is_passed) (all_apart (apart faults a) (apart breaches b)))

  pub told_once : EachOnce faults → EachOnce breaches → EachOnce (take most_told (all_told faults breaches is_passed))
  told_once a b = once_first (all_told faults breaches is_passed) (all_once a b)

-- ---- what is kept, each once, tells what was there

module _ {A : Type 0} {Right : A → Type 0} {TellsAll : List A → Type 0} (old new : List A) (keeps : KeepsOnce old new) where
  pub kept_tells : (((f : A) → Contains old f → Contains new f) → TellsAll old → TellsAll new) → TellsUnlessFull Right TellsAll old → TellsUnlessFull Right TellsAll new
  kept_tells still tells = record {
    right = λ f c. tells.right f (keeps.from f c);
    most = keeps.most tells.most;
    full = elim tells.full [
      | inl full ↦ inl (subst IsFull (sym (keeps.same full)) full)
      | inr has ↦ elim keeps.all [ inl full ↦ inl full | inr all ↦ inr (still all has) ]
    ];
  }

-- ---- of documents

module _ (d : MeantDocument Place) (All Beside : MeantOperation Place → PlacedFault → Type 0) (old new : List PlacedFault) where
  pub data_once : KeepsOnce old new → DataTold d All Beside old → DataTold d All Beside new
  data_once keeps = kept_tells {Right = DataFails d All} {TellsAll = TellsData d Beside} old new keeps (λ still tells. record {
    full = λ f h. still f (tells.full f h);
    cycles = λ g used itself. let f = tells.cycles g used itself in (f.0, (still f.0 f.1.0, f.1.1));
  })

pub all_once_told : {A : Type 0} {Right Breaks : A → Type 0} (old new : List A) → KeepsOnce old new → TellsUnlessFull Right (HasAll Breaks) old → TellsUnlessFull Right (HasAll Breaks) new
all_once_told {Right = Right} {Breaks = Breaks} old new keeps = kept_tells {Right = Right} {TellsAll = HasAll Breaks} old new keeps (λ still has f h. still f (has f h))

-- of none nothing is twice
pub none_once : {A : Type 0} (none : List A) → none ≡ [] → EachOnce none
none_once none is = inr (subst HasNoRepeat (sym is) (λ i j x h k. absurd cc))
