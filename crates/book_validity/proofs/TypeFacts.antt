-- Types: what unwraps to two names, and kinds.
use Rattle.std.proofs.Common.{◌≡◌, ◌&&◌, not, ℕ, Bool, true, false, List, [], ◌∷◌, ◌⊎◌, refl, sym, ap, ◌∙◌, bytes_eq, inl, inr, true≢false}
use Rattle.std.proofs.lemmas.Option.{same_Some}
use Rattle.std.proofs.lemmas.Slice.Eq.{bytes_eq-Decides}
use Rattle.tree_literals.specs.TypeTree.{TypeTree, NamedTree, NonNullNamedTree, ListTree, NonNullListTree}
use Rattle.schema_types.specs.SchemaTree.{is_leaf_kind, is_output_kind}
use Rattle.schema_types.specs.declared.type_kind.TypeKind.{TypeKind}
use Rattle.schema_types.specs.declared.type_kind.TypeKind.TheVariants as kind
use Rattle.rule_definitions.specs.Judged.{Judged}
use Rattle.rule_definitions.specs.Names.{named_in}
use Rattle.rule_document_definitions.specs.PossibleTypes.{IsComposite}
use Rattle.rule_document_definitions.specs.Merging.{lists_and_marks, IsAbstract, SameKey, MayShare}
use Rattle.book_validity.specs.Words.{Field}
use Rattle.book_validity.specs.FieldSelectionMerging.{Unwrapped, IsObjectType, ParentsMayMeet}

-- ---- references

-- what kind of reference a type is, and what is in its brackets
abbrev form_of : TypeTree (Unit {0}) → List ℕ
form_of (NamedTree n) = 0 ∷ []
form_of (NonNullNamedTree n) = 1 ∷ []
form_of (ListTree t) = 2 ∷ []
form_of (NonNullListTree t) = 3 ∷ []

abbrev inside_of : TypeTree (Unit {0}) → TypeTree (Unit {0})
inside_of (NamedTree n) = NamedTree n
inside_of (NonNullNamedTree n) = NonNullNamedTree n
inside_of (ListTree t) = t
inside_of (NonNullListTree t) = t

forms_apart : {R : Type 0} (a b : TypeTree (Unit {0})) → bytes_eq (form_of a) (form_of b) ≡ false → a ≡ b → R
forms_apart a b apart e = absurd (true≢false (sym ((bytes_eq-Decides (form_of a) (form_of b)).1 (ap form_of e)) ∙ apart))

-- types with lists and marks alike unwrap to the names in them, and no others do
pub unwrap : (a b : TypeTree (Unit {0})) (Then : List ℕ → List ℕ → Type 0) → lists_and_marks a ≡ lists_and_marks b → Then (named_in a) (named_in b) → Unwrapped a b Then
unwrap (NamedTree n) (NamedTree m) Then e t = t
unwrap (NonNullNamedTree n) (NonNullNamedTree m) Then e t = t
unwrap (ListTree a) (ListTree b) Then e t = unwrap a b Then (ap inside_of e) t
unwrap (NonNullListTree a) (NonNullListTree b) Then e t = unwrap a b Then (ap inside_of e) t
unwrap (NamedTree n) (NonNullNamedTree m) Then e t = forms_apart _ _ refl e
unwrap (NamedTree n) (ListTree b) Then e t = forms_apart _ _ refl e
unwrap (NamedTree n) (NonNullListTree b) Then e t = forms_apart _ _ refl e
unwrap (NonNullNamedTree n) (NamedTree m) Then e t = forms_apart _ _ refl e
unwrap (NonNullNamedTree n) (ListTree b) Then e t = forms_apart _ _ refl e
unwrap (NonNullNamedTree n) (NonNullListTree b) Then e t = forms_apart _ _ refl e
unwrap (ListTree a) (NamedTree m) Then e t = forms_apart _ _ refl e
unwrap (ListTree a) (NonNullNamedTree m) Then e t = forms_apart _ _ refl e
unwrap (ListTree a) (NonNullListTree b) Then e t = forms_apart _ _ refl e
unwrap (NonNullListTree a) (NamedTree m) Then e t = forms_apart _ _ refl e
unwrap (NonNullListTree a) (NonNullNamedTree m) Then e t = forms_apart _ _ refl e
unwrap (NonNullListTree a) (ListTree b) Then e t = forms_apart _ _ refl e

pub unwrapped : (a b : TypeTree (Unit {0})) (Then : List ℕ → List ℕ → Type 0) → Unwrapped a b Then → (lists_and_marks a ≡ lists_and_marks b) × Then (named_in a) (named_in b)
unwrapped (NamedTree n) (NamedTree m) Then u = (refl, u)
unwrapped (NonNullNamedTree n) (NonNullNamedTree m) Then u = (refl, u)
unwrapped (ListTree a) (ListTree b) Then u = let r = unwrapped a b Then u in (ap ListTree r.0, r.1)
unwrapped (NonNullListTree a) (NonNullListTree b) Then u = let r = unwrapped a b Then u in (ap NonNullListTree r.0, r.1)
unwrapped (NamedTree n) (NonNullNamedTree m) Then u = absurd u
unwrapped (NamedTree n) (ListTree b) Then u = absurd u
unwrapped (NamedTree n) (NonNullListTree b) Then u = absurd u
unwrapped (NonNullNamedTree n) (NamedTree m) Then u = absurd u
unwrapped (NonNullNamedTree n) (ListTree b) Then u = absurd u
unwrapped (NonNullNamedTree n) (NonNullListTree b) Then u = absurd u
unwrapped (ListTree a) (NamedTree m) Then u = absurd u
unwrapped (ListTree a) (NonNullNamedTree m) Then u = absurd u
unwrapped (ListTree a) (NonNullListTree b) Then u = absurd u
unwrapped (NonNullListTree a) (NamedTree m) Then u = absurd u
unwrapped (NonNullListTree a) (NonNullNamedTree m) Then u = absurd u
unwrapped (NonNullListTree a) (ListTree b) Then u = absurd u

-- ---- kinds

abbrev is_object : TypeKind → Bool
is_object kind.Object = true
is_object _ = false

composite_kinds : (k : TypeKind) → (is_output_kind k && not (is_leaf_kind k)) ≡ true → (k ≡ kind.Object → ⊥) → (k ≡ kind.Interface) ⊎ (k ≡ kind.Union)
composite_kinds kind.Scalar h n = absurd (true≢false (sym h))
composite_kinds kind.Object h n = absurd (n refl)
composite_kinds kind.Interface h n = inl refl
composite_kinds kind.Union h n = inr refl
composite_kinds kind.Enum h n = absurd (true≢false (sym h))
composite_kinds kind.InputObject h n = absurd (true≢false (sym h))

module _ (s : Judged) where
  -- a composite type that is no object type is abstract
  pub abstract_then : (n : List ℕ) → IsComposite s n → (IsObjectType s n → ⊥) → IsAbstract s n
  abstract_then n (t, (e, c)) other = (t, (e, composite_kinds t.kind c (λ o. other (t, (e, o)))))

  -- and an abstract one is no object type
  pub no_object : (n : List ℕ) → IsAbstract s n → IsObjectType s n → ⊥
  no_object n (t, (e, inl i)) (u, (f, o)) = true≢false (sym (ap is_object o) ∙ (ap (λ v. is_object v.kind) (same_Some _ _ (sym f ∙ e)) ∙ ap is_object i))
  no_object n (t, (e, inr i)) (u, (f, o)) = true≢false (sym (ap is_object o) ∙ (ap (λ v. is_object v.kind) (same_Some _ _ (sym f ∙ e)) ∙ ap is_object i))

  -- parents that may meet are those of fields that one object may have
  pub may_share : (f g : Field) → IsComposite s f.parent → IsComposite s g.parent → SameKey f g → ParentsMayMeet s f g → MayShare s f g
  may_share f g cf cg k (inl e) = (k, inl e)
  may_share f g cf cg k (inr (inl n)) = (k, inr (inl (abstract_then f.parent cf n)))
  may_share f g cf cg k (inr (inr n)) = (k, inr (inr (abstract_then g.parent cg n)))

  pub may_meet : (f g : Field) → MayShare s f g → ParentsMayMeet s f g
  may_meet f g (k, inl e) = inl e
  may_meet f g (k, inr (inl a)) = inr (inl (no_object f.parent a))
  may_meet f g (k, inr (inr a)) = inr (inr (no_object g.parent a))
