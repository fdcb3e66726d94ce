-- Which selections a set reaches, in itself and in the fragments that it spreads, and which of them a walk lends
-- (GraphQL, October 2021, sections 2.4, 2.5 and 2.8).
use Rattle.std.specs.Prelude.{◌≡◌, ◌↔◌, ◌++◌, ℕ, Bool, true, false, List, [], ◌∷◌, map, if◌then◌else◌, Option, Some, IsSome, Contains}
use Rattle.std.specs.List.{flat_map, filter, find, IsDistinct}
use Rattle.std.specs.Str.{bytes_eq}
use Rattle.graphql_names.specs.Placed.{Text}
use Rattle.document_typed_operations.specs.TypedDocument.{TypedDocumentTree}
use Rattle.document_typed_selections.specs.TypedTree.{TypedSelection, TypedField, TypedSpread, TypedInline, TypedSet, typed_set, TypedSelections, no_typed, typed_then, set_type, set_selections, typed_selections_list}

-- a fragment's name, and the set of its selections
abbrev pub NamedSet : Type 0 → Type 0
NamedSet P = List ℕ × TypedSet P

-- a document's fragments
abbrev pub Fragments : Type 0 → Type 0
Fragments P = List (NamedSet P)

-- the fragments of a typed document
abbrev pub document_fragments : {P : Type 0} → TypedDocumentTree P → Fragments P
document_fragments d = map (λ e. (e.0, e.1.it.set)) d.fragments

-- a selection, then the selections inside it, in the order of the text: those in an inline fragment, at each depth,
-- and if `nested` is true, those in a field too; the fragment that a spread names is not entered
abbrev mutual
  pub selections_of : {P : Type 0} → Bool → TypedSelection P → List (TypedSelection P)
  selections_of nested (TypedField p d h s) = TypedField p d h s ∷ (if nested then selections_in nested s else [])
  selections_of nested (TypedSpread p n ds) = TypedSpread p n ds ∷ []
  selections_of nested (TypedInline p c ds s) = TypedInline p c ds s ∷ selections_in nested s

  pub selections_in : {P : Type 0} → Bool → TypedSet P → List (TypedSelection P)
  selections_in nested (typed_set ty ss) = selections_along nested ss

  pub selections_along : {P : Type 0} → Bool → TypedSelections P → List (TypedSelection P)
  selections_along nested no_typed = []
  selections_along nested (typed_then s ss) = selections_of nested s ++ selections_along nested ss

module _ {P : Type 0} where
  abbrev pub is_field : TypedSelection P → Bool
  is_field (TypedField p d h s) = true
  is_field (TypedSpread p n ds) = false
  is_field (TypedInline p c ds s) = false

  -- the name that a spread has
  abbrev pub spread_names : TypedSelection P → List (List ℕ)
  spread_names (TypedField p d h s) = []
  spread_names (TypedSpread p n ds) = n.it ∷ []
  spread_names (TypedInline p c ds s) = []

  -- the field occurrences of one set, in the order of the text
  abbrev pub fields_of_set : Bool → TypedSet P → List (TypedSelection P)
  fields_of_set nested s = filter is_field (selections_in nested s)

  -- a set spreads the fragment of that name
  abbrev pub Spreads : Bool → TypedSet P → List ℕ → Type 0
  Spreads nested s n = Contains (flat_map spread_names (selections_in nested s)) n

  -- the fragment of that name, if there is one
  abbrev pub fragment_named : Fragments P → List ℕ → Option (NamedSet P)
  fragment_named fragments n = find (λ f. bytes_eq n f.0) fragments

-- the least set of fragments that has each fragment that the start spreads, and each fragment that a fragment in the set spreads
pub data ReachedFragment {P : Type 0} (nested : Bool) (fragments : Fragments P) (start : TypedSet P) : NamedSet P → Type 0 where
  by_start : {f : NamedSet P} (n : List ℕ) → Spreads nested start n → fragment_named fragments n ≡ Some f → ReachedFragment nested fragments start f
  by_fragment : {f : NamedSet P} (g : NamedSet P) (n : List ℕ) → ReachedFragment nested fragments start g → Spreads nested g.1 n → fragment_named fragments n ≡ Some f → ReachedFragment nested fragments start f

-- each field occurrence of the start and of each reached fragment, once: those of the start, then those of one reached
-- fragment after another, in some order of the fragments
pub record IsWalk {P : Type 0} (nested : Bool) (fragments : Fragments P) (start : TypedSet P) (given : List (TypedSelection P)) : Type 0 where
  pub order : List (NamedSet P)
  pub reached : (f : NamedSet P) → Contains order f ↔ ReachedFragment nested fragments start f
  pub once : IsDistinct bytes_eq (map (λ f. f.0) order)
  pub fields : given ≡ fields_of_set nested start ++ flat_map (λ f. fields_of_set nested f.1) order

-- a selection, and before it the name of the type of the set that it is in
abbrev pub Member : Type 0 → Type 0
Member P = Text P × TypedSelection P

-- the same selections, each with the type of its set
abbrev mutual
  pub members_of : {P : Type 0} → Bool → Text P → TypedSelection P → List (Member P)
  members_of nested ty (TypedField p d h s) = (ty, TypedField p d h s) ∷ (if nested then members_in nested s else [])
  members_of nested ty (TypedSpread p n ds) = (ty, TypedSpread p n ds) ∷ []
  members_of nested ty (TypedInline p c ds s) = (ty, TypedInline p c ds s) ∷ members_in nested s

  pub members_in : {P : Type 0} → Bool → TypedSet P → List (Member P)
  members_in nested (typed_set ty ss) = members_along nested ty ss

  pub members_along : {P : Type 0} → Bool → Text P → TypedSelections P → List (Member P)
  members_along nested ty no_typed = []
  members_along nested ty (typed_then s ss) = members_of nested ty s ++ members_along nested ty ss

module _ {P : Type 0} where
  -- the selections directly in a set
  abbrev pub own_selections : TypedSet P → List (TypedSelection P)
  own_selections s = typed_selections_list (set_selections s)

  -- the set of an inline fragment and, if `nested` is true, of a field
  abbrev pub inner_sets : Bool → TypedSelection P → List (TypedSet P)
  inner_sets nested (TypedField p d h s) = if nested then s ∷ [] else []
  inner_sets nested (TypedSpread p n ds) = []
  inner_sets nested (TypedInline p c ds s) = s ∷ []

-- the least set of selection sets that has the start and, for each selection directly in one of its sets, the inner sets of
-- that selection and the set of each fragment that it spreads
pub data ReachedSet {P : Type 0} (nested : Bool) (fragments : Fragments P) (start : TypedSet P) : TypedSet P → Type 0 where
  from_start : ReachedSet nested fragments start start
  from_inner : {s : TypedSet P} (t : TypedSet P) (x : TypedSelection P) → ReachedSet nested fragments start t → Contains (own_selections t) x → Contains (inner_sets nested x) s → ReachedSet nested fragments start s
  from_spread : {s : TypedSet P} (t : TypedSet P) (x : TypedSelection P) (n m : List ℕ) → ReachedSet nested fragments start t → Contains (own_selections t) x → Contains (spread_names x) n → fragment_named fragments n ≡ Some (m, s) → ReachedSet nested fragments start s

-- a selection of a reached set, with the type of that set
abbrev pub IsReached : {P : Type 0} → Bool → Fragments P → TypedSet P → Member P → Type 0
IsReached {P} nested fragments start e = (t : TypedSet P) × (ReachedSet nested fragments start t × ((set_type t ≡ e.0) × Contains (own_selections t) e.1))

-- the name of a fragment that a reached selection spreads
abbrev pub IsReachedFragment : {P : Type 0} → Bool → Fragments P → TypedSet P → List ℕ → Type 0
IsReachedFragment {P} nested fragments start n = IsSome (fragment_named fragments n) × ((e : Member P) × (IsReached nested fragments start e × Contains (spread_names e.1) n))

-- each selection of the start and of each reached fragment, once: those of the start, then those of one reached fragment
-- after another, in some order of the fragments
pub record IsMemberWalk {P : Type 0} (nested : Bool) (fragments : Fragments P) (start : TypedSet P) (given : List (Member P)) : Type 0 where
  pub order : List (NamedSet P)
  pub reached : (f : NamedSet P) → Contains order f ↔ ReachedFragment nested fragments start f
  pub once : IsDistinct bytes_eq (map (λ f. f.0) order)
  pub members : given ≡ members_in nested start ++ flat_map (λ f. members_in nested f.1) order
