-- What is kept is typed by its place.
use Rattle.std.proofs.Common.{◌≡◌, ℕ, Bool, true, false, not, ◌&&◌, List, [], ◌∷◌, ◌++◌, map, Option, None, Some, refl, sym, ap, subst, ◌∙◌, inl, inr, if◌then◌else◌, option_to_list, Contains, true≢false}
use Rattle.std.specs.Option.{option_map, option_map_or}
use Rattle.graphql_names.specs.Placed.{Text}
use Rattle.tree_operations.specs.OperationLayout.{is_none}
use Rattle.tree_operations.specs.OperationTree.{OperationTree, FragmentTree}
use Rattle.tree_operations.specs.SelectionTree.{FieldHead, SelectionTree, FieldTree, SpreadTree, InlineTree, SelectionTrees, no_selections, selection_then}
use Rattle.tree_definitions.specs.DefinitionTree.{DefinitionTree, Operation, Fragment}
use Rattle.schema_types.proofs.in_components.Places.{not_in_nil, only, is_only, Contains-cons, Contains-first, Contains-rest}
use Rattle.document_typing.specs.MeantTree.{Definition, MeantSelection, MeantField, MeantInline, meant_set, no_meant, members, set_on}
use Rattle.document_typing.specs.Meanings.{Meanings, inner_type}
use Rattle.document_typing.specs.KeptSelections.{is_leaf, may_select, kept, kept_all}
use Rattle.document_typing.specs.KeptDocument.{Based, anonymous_here, named_here, fragment_here, text_or_empty, operation_name, fragment_name, kept_anonymous, kept_named, kept_fragments, meant_operation, meant_fragment, named_entry, fragment_entry, kept_document}
use Rattle.document_typing.specs.TypedByPlace.{AreTyped, IsOnRoot, IsOnCondition, IsTypedDocument}
use Rattle.document_typing.specs.TypedDefinitions.{based}
use Rattle.document_typing.proofs.SetFailures.{if-told}
use Rattle.document_typing.proofs.DocumentFailures.{first-found, kept-found, one-anonymous, one-named, one-fragment}

-- each element of a mapped list comes from one of the list
pub from_map : {X F : Type 0} (made : X → F) (xs : List X) (f : F) → Contains (map made xs) f → (x : X) × (Contains xs x × (f ≡ made x))
from_map made [] f h = absurd (not_in_nil f h)
from_map made (x ∷ xs) f h = elim (Contains-cons (made x) (map made xs) f h) [
  | inl e ↦ (x, (Contains-first x xs x refl, sym e))
  | inr r ↦ let p = from_map made xs f r in (p.0, (Contains-rest x xs p.0 p.1.0, p.1.1))
]

from_option : {X F : Type 0} (made : X → F) (o : Option X) (f : F) → option_map made o ≡ Some f → (x : X) × (Contains (option_to_list o) x × (f ≡ made x))
from_option {X = X} {F = F} made o f h =
    let told : Contains (map made (option_to_list o)) f = subst (λ l. Contains l f) (sym (as_list o)) (subst (λ x. Contains (option_to_list x) f) (sym h) (is_only f f refl)) in
    from_map made (option_to_list o) f told
  where
    as_list : (o : Option X) → map made (option_to_list o) ≡ option_to_list (option_map made o)
    as_list None = refl
    as_list (Some x) = refl

module _ {P : Type 0} (m : Meanings) where
  and-typed : (t : List ℕ) (xs ys : List (MeantSelection P)) → AreTyped m t (members xs) → AreTyped m t (members ys) → AreTyped m t (members (xs ++ ys))
  and-typed t [] ys h k = k
  and-typed t (x ∷ xs) ys h k = (h.0, and-typed t xs ys h.1 k)

  -- a leaf on which may be selected so has no set
  bare : (ts : SelectionTrees P) (u : List ℕ) → may_select m u ts ≡ true → is_leaf m u ≡ true → set_on u (kept_all m ts u) ≡ meant_set u no_meant
  bare no_selections u may leaf = refl
  bare (selection_then s ss) u may leaf = absurd (true≢false (sym may ∙ ap (λ b. not (true && b)) leaf))

  field-typed : (p : P) (h : FieldHead P) (ts : SelectionTrees P) (t : List ℕ) → ((u : List ℕ) → AreTyped m u (members (kept_all m ts u)))
      → AreTyped m t (members (kept m (FieldTree p h ts) t))
  field-typed p h ts t deeper = by (m.field t h.name.it) refl
    where
      by_test : (d : Definition) → m.field t h.name.it ≡ Some d → (b : Bool) → may_select m (inner_type d) ts ≡ b
          → AreTyped m t (members (if b then MeantField p d h (set_on (inner_type d) (kept_all m ts (inner_type d))) ∷ [] else []))
      by_test d is true may = ((is, ((refl, deeper (inner_type d)), bare ts (inner_type d) may)), tt)
      by_test d is false may = tt

      by : (o : Option Definition) → m.field t h.name.it ≡ o
          → AreTyped m t (members (option_map_or (λ d. if may_select m (inner_type d) ts then MeantField p d h (set_on (inner_type d) (kept_all m ts (inner_type d))) ∷ [] else []) o []))
      by None is = tt
      by (Some d) is = by_test d is (may_select m (inner_type d) ts) refl

  condition-typed : (p : P) (c : Text P) (ds : _) (ts : SelectionTrees P) (t : List ℕ) → AreTyped m c.it (members (kept_all m ts c.it))
      → AreTyped m t (members (kept m (InlineTree p (Some c) ds ts) t))
  condition-typed p c ds ts t deeper = by (m.has_type c.it) refl
    where
      by : (b : Bool) → m.has_type c.it ≡ b → AreTyped m t (members (if b then MeantInline p (Some c) ds (set_on c.it (kept_all m ts c.it)) ∷ [] else []))
      by true is = ((is, (refl, deeper)), tt)
      by false is = tt

  mutual
    pub kept-typed : (s : SelectionTree P) (t : List ℕ) → AreTyped m t (members (kept m s t))
    kept-typed (FieldTree p h ts) t = field-typed p h ts t (λ u. kept_all-typed ts u)
    kept-typed (SpreadTree p n ds) t = (tt, tt)
    kept-typed (InlineTree p None ds ts) t = ((refl, kept_all-typed ts t), tt)
    kept-typed (InlineTree p (Some c) ds ts) t = condition-typed p c ds ts t (kept_all-typed ts c.it)

    pub kept_all-typed : (ts : SelectionTrees P) (t : List ℕ) → AreTyped m t (members (kept_all m ts t))
    kept_all-typed no_selections t = tt
    kept_all-typed (selection_then s ss) t = and-typed t (kept m s t) (kept_all m ss t) (kept-typed s t) (kept_all-typed ss t)

  -- an operation that is on its root here, with or without a name
  abbrev Rooted : Bool → Based P (OperationTree P) → Type 0
  Rooted nameless b = (is_none b.it.name ≡ nameless) × (m.root b.it.operation_type ≡ Some b.base)

  rooted : (p : P) (o : OperationTree P) (b : Based P (OperationTree P)) (r : Option (List ℕ)) → m.root o.operation_type ≡ r → (n : Bool) → is_none o.name ≡ n
      → Contains (option_to_list (option_map (λ t. based p t o) r)) b → Rooted n b
  rooted p o b None re n k c = absurd (not_in_nil b c)
  rooted p o b (Some t) re n k c = subst (Rooted n) (sym (only (based p t o) b c)) (k, re)

  anonymous-rooted : (d : DefinitionTree P) (b : Based P (OperationTree P)) → Contains (anonymous_here m d) b → Rooted true b
  anonymous-rooted (Operation p o) b c = by (is_none o.name) refl c
    where
      by : (n : Bool) → is_none o.name ≡ n → Contains (if n then option_to_list (option_map (λ t. based p t o) (m.root o.operation_type)) else []) b → Rooted true b
      by true k c = rooted p o b (m.root o.operation_type) refl true k c
      by false k c = absurd (not_in_nil b c)
  anonymous-rooted d b c = absurd (not_in_nil b c)

  named-rooted : (d : DefinitionTree P) (b : Based P (OperationTree P)) → Contains (named_here m d) b → Rooted false b
  named-rooted (Operation p o) b c = by (is_none o.name) refl c
    where
      by : (n : Bool) → is_none o.name ≡ n → Contains (if n then [] else option_to_list (option_map (λ t. based p t o) (m.root o.operation_type))) b → Rooted false b
      by true k c = absurd (not_in_nil b c)
      by false k c = rooted p o b (m.root o.operation_type) refl false k c
  named-rooted d b c = absurd (not_in_nil b c)

  -- a fragment on its condition
  abbrev Conditioned : Based P (FragmentTree P) → Type 0
  Conditioned b = (m.has_type b.it.type_condition.it ≡ true) × (b.base ≡ b.it.type_condition.it)

  fragment-conditioned : (d : DefinitionTree P) (b : Based P (FragmentTree P)) → Contains (fragment_here m d) b → Conditioned b
  fragment-conditioned (Fragment p g) b c =
      let x = if-told (m.has_type g.type_condition.it) (record { place = p; base = g.type_condition.it; it = g }) b c in
      subst Conditioned (sym x.1) (x.0, refl)
  fragment-conditioned d b c = absurd (not_in_nil b c)

  on-root : (n : Bool) (b : Based P (OperationTree P)) → Rooted n b → IsOnRoot m (meant_operation m b)
  on-root n b r = (b.base, (r.1, (refl, kept_all-typed b.it.selections b.base)))

  on-condition : (b : Based P (FragmentTree P)) → Conditioned b → IsOnCondition m (meant_fragment m b)
  on-condition b c = (c.0, (c.1, subst (λ u. AreTyped m u (members (kept_all m b.it.selections b.base))) c.1 (kept_all-typed b.it.selections b.base)))

  -- what is kept of a document
  pub document-typed : (ds : List (DefinitionTree P)) → IsTypedDocument m (kept_document m ds)
  document-typed ds = record {
    anonymous = λ o e.
        let x = from_option (meant_operation m) (kept_anonymous m ds) o e in
        let y = first-found (anonymous_here m) (one-anonymous m) ds x.0 x.1.0 in
        let r = anonymous-rooted y.1.0 x.0 y.1.1.1.0 in
        subst (λ z. (is_none z.name ≡ true) × IsOnRoot m z) (sym x.1.1) (r.0, on-root true x.0 r);
    named = λ e c.
        let x = from_map (named_entry m) (kept_named m ds) e c in
        let y = kept-found (named_here m) operation_name (one-named m) ds x.0 x.1.0 in
        let r = named-rooted y.1.0 x.0 (subst (λ l. Contains l x.0) (sym y.1.1.1.0) (is_only x.0 x.0 refl)) in
        subst (λ z. (is_none z.1.name ≡ false) × ((z.0 ≡ text_or_empty z.1.name) × IsOnRoot m z.1)) (sym x.1.1) (r.0, (refl, on-root false x.0 r));
    fragments = λ e c.
        let x = from_map (fragment_entry m) (kept_fragments m ds) e c in
        let y = kept-found (fragment_here m) fragment_name (one-fragment m) ds x.0 x.1.0 in
        let r = fragment-conditioned y.1.0 x.0 (subst (λ l. Contains l x.0) (sym y.1.1.1.0) (is_only x.0 x.0 refl)) in
        subst (λ z. (z.0 ≡ z.1.name.it) × IsOnCondition m z.1) (sym x.1.1) (refl, on-condition x.0 r);
  }
