-- Lists: what is among them, and lists of which no item is there twice.
use Rattle.std.proofs.Common.{◌≡◌, ◌⊎◌, ◌∙◌, ℕ, ◌+◌, ◌<◌, Some, List, [], ◌∷◌, ◌++◌, length, get_or, take, Contains, refl, sym, ap, subst, inl, inr, arith}
use Rattle.std.specs.Prelude.{slice_get}
use Rattle.std.specs.List.{AllZip}
use Rattle.std.proofs.lemmas.Bool.{cases_lt}
use Rattle.std.proofs.lemmas.List.{take_more, length_push, get_or_append_left}
use Rattle.std.proofs.lemmas.List.Elements.{Contains-append_right, Contains-get_or}
use Rattle.std.proofs.lemmas.Option.{slice_get_within, slice_get-get_or, get_or_from_slice_get}
use Rattle.std.proofs.Math.Seq.{get_or-append_seam}
use Rattle.rule_selection_queries.proofs.in_definitions.in_schema_types.in_components.Places.{Contains-rest}
use Rattle.rule_selection_queries.proofs.in_definitions.Lists.{not_in_nil, Contains-cons, Contains-first}
use Rattle.rule_cycle_search.specs.Paths.{HasNoRepeat}
use Rattle.rule_selection_queries.specs.in_document_definitions.ReadFields.{ReadField, field_read}
use Rattle.rule_selection_queries.proofs.in_document_definitions.Unplaced.{contains_map, contains_unmap}
use Rattle.rule_field_sets.specs.declared.member.Member.{Member}
use Rattle.rule_field_groups.specs.Members.{field_of, fields_of, content_of, contents_of}

pub in_last : {X : Type 0} (xs : List X) (x : X) → Contains (xs ++ x ∷ []) x
in_last xs x = Contains-append_right xs (x ∷ []) x (Contains-first x [] x refl)

-- the front with the next element
pub taken_more : {X : Type 0} (xs : List X) (i : ℕ) (x : X) → i < length xs → x ≡ get_or xs i x → take (i + 1) xs ≡ take i xs ++ x ∷ []
taken_more xs i x h e = take_more xs i x h ∙ ap (λ y. take i xs ++ y ∷ []) (sym e)

-- an item of a list, by its place
pub taken_there : {X : Type 0} (xs : List X) (i : ℕ) (x : X) → i < length xs → x ≡ get_or xs i x → Contains xs x
taken_there xs i x h e = subst (Contains xs) (sym e) (Contains-get_or xs i x h)

-- what stands beside an item of another list
pub beside : {A B : Type 0} (R : A → B → Type 0) (xs : List A) (ys : List B) → AllZip R xs ys → (x : A) → Contains xs x → (y : B) × (Contains ys y × R x y)
beside R [] ys all x c = not_in_nil x c
beside R (z ∷ xs) [] all x c = absurd all
beside R (z ∷ xs) (y ∷ ys) all x c = elim (Contains-cons z xs x c) [
  | inl e ↦ (y, (Contains-first y ys y refl, subst (λ a. R a y) e all.0))
  | inr r ↦ let p = beside R xs ys all.1 x r in (p.0, (Contains-rest y ys p.0 p.1.0, p.1.1))
]

-- ---- no item twice

pub slice_get-push_cases : {X : Type 0} (xs : List X) (x : X) (i : ℕ) (y : X) → slice_get (xs ++ x ∷ []) i ≡ Some y → (slice_get xs i ≡ Some y) ⊎ ((i ≡ length xs) × (y ≡ x))
slice_get-push_cases xs x i y h =
    let within : i < length (xs ++ x ∷ []) = slice_get_within (xs ++ x ∷ []) i y h in
    let is : get_or (xs ++ x ∷ []) i y ≡ y = get_or_from_slice_get (xs ++ x ∷ []) i y y h in
    elim (cases_lt i (length xs)) [
      | inl low ↦ inl (slice_get-get_or xs i y low ∙ ap (λ a. Some a) (sym (get_or_append_left xs (x ∷ []) y i low) ∙ is))
      | inr high ↦
          let last : i ≡ length xs = omega (arith, length_push xs x) in
          inr (last, sym is ∙ ap (λ k. get_or (xs ++ x ∷ []) k y) last ∙ get_or-append_seam xs x [] y)
    ]

pub contains_from_get : {X : Type 0} (xs : List X) (i : ℕ) (x : X) → slice_get xs i ≡ Some x → Contains xs x
contains_from_get xs i x h = (i, slice_get_within xs i x h, get_or_from_slice_get xs i x x h)

pub none_twice : {X : Type 0} → HasNoRepeat {X = X} []
none_twice i j x h k = absurd (omega (arith, slice_get_within [] i x h))

pub apart_more : {X : Type 0} (xs : List X) (x : X) → HasNoRepeat xs → (Contains xs x → ⊥) → HasNoRepeat (xs ++ x ∷ [])
apart_more xs x apart new i j y h k =
    elim (slice_get-push_cases xs x i y h) [
      | inl a ↦ elim (slice_get-push_cases xs x j y k) [
        | inl b ↦ apart i j y a b
        | inr b ↦ absurd (new (subst (Contains xs) b.1 (contains_from_get xs i y a)))
      ]
      | inr a ↦ elim (slice_get-push_cases xs x j y k) [
        | inl b ↦ absurd (new (subst (Contains xs) a.1 (contains_from_get xs j y b)))
        | inr b ↦ a.0 ∙ sym b.0
      ]
    ]

-- ---- what is read of members

pub contents_append : (xs ys : List Member) → contents_of (xs ++ ys) ≡ contents_of xs ++ contents_of ys
contents_append [] ys = refl
contents_append (x ∷ xs) ys = ap (λ l. content_of x ∷ l) (contents_append xs ys)

pub in_contents : (xs : List Member) (x : Member) → Contains xs x → Contains (contents_of xs) (content_of x)
in_contents xs x c = contains_map field_read (fields_of xs) (field_of x) (contains_map field_of xs x c)

pub of_contents : (xs : List Member) (y : ReadField) → Contains (contents_of xs) y → (x : Member) × (Contains xs x × (content_of x ≡ y))
of_contents xs y c =
    let f = contains_unmap field_read (fields_of xs) y c in
    let x = contains_unmap field_of xs f.0 f.1.0 in
    (x.0, (x.1.0, ap field_read x.1.1 ∙ f.1.1))
