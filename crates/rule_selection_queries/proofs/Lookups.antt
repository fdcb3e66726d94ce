-- The fragment of a name, as walks find it and as rules do.
use Rattle.std.proofs.Common.{◌≡◌, ℕ, Bool, true, false, List, [], ◌∷◌, Option, None, Some, map, find, bytes_eq, refl, sym, ap, subst, ◌∙◌, true≢false, is_some, Contains}
use Rattle.std.specs.Prelude.{if◌then◌else◌}
use Rattle.std.specs.Option.{option_map}
use Rattle.std.proofs.lemmas.Option.{same_Some}
use Rattle.std.proofs.lemmas.List.Elements.{Contains-append_right}
use Rattle.std.proofs.lemmas.Slice.Eq.{bytes_eq-Decides}
use Rattle.graphql_names.specs.Placed.{Placed}
use Rattle.rule_cycle_search.proofs.Lists.{Contains-first, mapped_some}
use Rattle.spec_document.specs.MeantTree.{MeantFragment, MeantDocument, meant_of_set}
use Rattle.document_typed_operations.specs.TypedDocument.{TypedFragment, TypedDocumentTree}
use Rattle.rule_reach.specs.in_typed_operations.DocumentView.{meant_by_fragment, meant_document}
use Rattle.document_typed_operations.specs.Reached.{NamedSet, Fragments, document_fragments, fragment_named as named_set_of}
use Rattle.rule_document_definitions.specs.Selected.{fragment_named}

find-map : {A B : Type 0} (p : B → Bool) (g : A → B) (es : List A) → find p (map g es) ≡ option_map g (find (λ e. p (g e)) es)
find-map p g [] = refl
find-map {A} {B} p g (e ∷ es) = by (p (g e)) (find-map p g es)
  where
    by : (b : Bool) → find p (map g es) ≡ option_map g (find (λ x. p (g x)) es) → (if b then Some (g e) else find p (map g es)) ≡ option_map g (if b then Some e else find (λ x. p (g x)) es)
    by true rest = refl
    by false rest = rest

pub find_passes : {A : Type 0} (p : A → Bool) (es : List A) (x : A) → find p es ≡ Some x → p x ≡ true
find_passes p [] x h = absurd (true≢false (sym (ap is_some h)))
find_passes p (e ∷ es) x h = by (p e) refl (find_passes p es x) h
  where
    by : (b : Bool) → p e ≡ b → (find p es ≡ Some x → p x ≡ true) → (if b then Some e else find p es) ≡ Some x → p x ≡ true
    by true is rest i = subst (λ y. p y ≡ true) (same_Some _ _ i) is
    by false is rest i = rest i

pub find_in : {A : Type 0} (p : A → Bool) (es : List A) (x : A) → find p es ≡ Some x → Contains es x
find_in p [] x h = absurd (true≢false (sym (ap is_some h)))
find_in p (e ∷ es) x h = by (p e) (find_in p es x) h
  where
    by : (b : Bool) → (find p es ≡ Some x → Contains es x) → (if b then Some e else find p es) ≡ Some x → Contains (e ∷ es) x
    by true rest i = Contains-first e es x (same_Some _ _ i)
    by false rest i = Contains-append_right (e ∷ []) es x (rest i)

pub is_name : (n m : List ℕ) → bytes_eq n m ≡ true → n ≡ m
is_name n m h = (bytes_eq-Decides n m).0 h

-- what a walk finds under a name has that name, and is found under it
pub found_name : {P : Type 0} (fs : Fragments P) (n : List ℕ) (g : NamedSet P) → named_set_of fs n ≡ Some g → n ≡ g.0
found_name fs n g h = is_name n g.0 (find_passes (λ (f : NamedSet _). bytes_eq n f.0) fs g h)

module _ {P : Type 0} (t : TypedDocumentTree P) where
  abbrev Entry : Type 0
  Entry = List ℕ × Placed P (TypedFragment P)

  abbrev entry : List ℕ → Option Entry
  entry n = find (λ e. bytes_eq n e.0) t.fragments

  in_walk : (n : List ℕ) → named_set_of (document_fragments t) n ≡ option_map (λ (e : Entry). (e.0, e.1.it.set)) (entry n)
  in_walk n = find-map (λ (f : NamedSet P). bytes_eq n f.0) (λ (e : Entry). (e.0, e.1.it.set)) t.fragments

  abbrev meant_entry : Entry → List ℕ × MeantFragment P
  meant_entry e = (e.0, meant_by_fragment e.1)

  over : (o : Option Entry) → option_map (λ (e : List ℕ × MeantFragment P). e.1) (option_map meant_entry o) ≡ option_map (λ (e : Entry). meant_by_fragment e.1) o
  over None = refl
  over (Some e) = refl

  in_rules : (n : List ℕ) → fragment_named (meant_document t) n ≡ option_map (λ (e : Entry). meant_by_fragment e.1) (entry n)
  in_rules n = ap (option_map (λ (e : List ℕ × MeantFragment P). e.1)) (find-map (λ (e : List ℕ × MeantFragment P). bytes_eq n e.0) meant_entry t.fragments) ∙ over (entry n)

  -- a fragment that rules find
  pub walk_finds : (n : List ℕ) (f : MeantFragment P) → fragment_named (meant_document t) n ≡ Some f
      → (g : NamedSet P) × ((named_set_of (document_fragments t) n ≡ Some g) × ((g.0 ≡ n) × (f.set ≡ meant_of_set g.1)))
  walk_finds n f h =
      let e = mapped_some (λ (e : Entry). meant_by_fragment e.1) (entry n) f (sym (in_rules n) ∙ h) in (
        (e.0.0, e.0.1.it.set),
        (
          in_walk n ∙ ap (option_map (λ (e : Entry). (e.0, e.1.it.set))) e.1.0,
          (sym (is_name n e.0.0 (find_passes (λ (x : Entry). bytes_eq n x.0) t.fragments e.0 e.1.0)), ap (λ (f : MeantFragment P). f.set) e.1.1),
        ),
      )

  -- a fragment that walks find
  pub rules_find : (n : List ℕ) (g : NamedSet P) → named_set_of (document_fragments t) n ≡ Some g → (f : MeantFragment P) × ((fragment_named (meant_document t) n ≡ Some f) × (f.set ≡ meant_of_set g.1))
  rules_find n g h =
      let e = mapped_some (λ (e : Entry). (e.0, e.1.it.set)) (entry n) g (sym (in_walk n) ∙ h) in
      (meant_by_fragment e.0.1, (in_rules n ∙ ap (option_map (λ (e : Entry). meant_by_fragment e.1)) e.1.0, sym (ap (λ (g : NamedSet P). meant_of_set g.1) e.1.1)))
