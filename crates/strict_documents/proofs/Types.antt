-- Types that fit, by the relation and by the test; questions about types, whatever the places.
use Rattle.std.proofs.Common.{◌≡◌, ◌↔◌, Bool, true, false, ◌&&◌, ◌||◌, refl, sym, ap, ◌∙◌, true≢false, if◌then◌else◌}
use Rattle.std.proofs.lemmas.Slice.Eq.{bytes_eq-Decides}
use Rattle.graphql_names.specs.Placed.{Place}
use Rattle.tree_literals.specs.TypeTree.{TypeTree, NamedTree, NonNullNamedTree, ListTree, NonNullListTree, unplaced_type}
use Rattle.tree_literals.specs.TypeQueries.{has_mark, nullable_type, is_list_type, inner_name, item_type_of, AreTypesCompatible}
use Rattle.tree_operations.specs.OperationTree.{VariableDefinitionTree}
use Rattle.strict_documents.specs.ValueLetter.{are_types_compatible, needs_default, has_non_null_default, is_usage_allowed}
use Rattle.strict_documents.specs.Locations.{Location}

pub compatible : (a b : TypeTree Place) → (are_types_compatible (unplaced_type a) (unplaced_type b) ≡ true) ↔ AreTypesCompatible a b
compatible (NamedTree a) (NamedTree b) = bytes_eq-Decides a.it b.it
compatible (NamedTree a) (NonNullNamedTree b) = (λ h. true≢false (sym h), λ h. absurd h)
compatible (NamedTree a) (ListTree b) = (λ h. true≢false (sym h), λ h. absurd h)
compatible (NamedTree a) (NonNullListTree b) = (λ h. true≢false (sym h), λ h. absurd h)
compatible (NonNullNamedTree a) (NamedTree b) = bytes_eq-Decides a.it b.it
compatible (NonNullNamedTree a) (NonNullNamedTree b) = bytes_eq-Decides a.it b.it
compatible (NonNullNamedTree a) (ListTree b) = (λ h. true≢false (sym h), λ h. absurd h)
compatible (NonNullNamedTree a) (NonNullListTree b) = (λ h. true≢false (sym h), λ h. absurd h)
compatible (ListTree a) (NamedTree b) = (λ h. true≢false (sym h), λ h. absurd h)
compatible (ListTree a) (NonNullNamedTree b) = (λ h. true≢false (sym h), λ h. absurd h)
compatible (ListTree a) (ListTree b) = compatible a b
compatible (ListTree a) (NonNullListTree b) = (λ h. true≢false (sym h), λ h. absurd h)
compatible (NonNullListTree a) (NamedTree b) = (λ h. true≢false (sym h), λ h. absurd h)
compatible (NonNullListTree a) (NonNullNamedTree b) = (λ h. true≢false (sym h), λ h. absurd h)
compatible (NonNullListTree a) (ListTree b) = compatible a b
compatible (NonNullListTree a) (NonNullListTree b) = compatible a b

same_truth : (p q : Bool) → (p ≡ true → q ≡ true) → (q ≡ true → p ≡ true) → p ≡ q
same_truth true q there back = sym (there refl)
same_truth false true there back = back refl
same_truth false false there back = refl

-- an answer that is true exactly when the relation holds is that of the test
pub decided : (r : Bool) (a b : TypeTree Place) → (r ≡ true) ↔ AreTypesCompatible a b → r ≡ are_types_compatible (unplaced_type a) (unplaced_type b)
decided r a b h = same_truth r (are_types_compatible (unplaced_type a) (unplaced_type b)) (λ t. (compatible a b).1 (h.0 t)) (λ t. h.1 ((compatible a b).0 t))

pub same_mark : (t : TypeTree Place) → has_mark (unplaced_type t) ≡ has_mark t
same_mark (NamedTree n) = refl
same_mark (NonNullNamedTree n) = refl
same_mark (ListTree t) = refl
same_mark (NonNullListTree t) = refl

pub same_list : (t : TypeTree Place) → is_list_type (unplaced_type t) ≡ is_list_type t
same_list (NamedTree n) = refl
same_list (NonNullNamedTree n) = refl
same_list (ListTree t) = refl
same_list (NonNullListTree t) = refl

pub same_nullable : (t : TypeTree Place) → unplaced_type (nullable_type t) ≡ nullable_type (unplaced_type t)
same_nullable (NamedTree n) = refl
same_nullable (NonNullNamedTree n) = refl
same_nullable (ListTree t) = refl
same_nullable (NonNullListTree t) = refl

pub same_item : (t : TypeTree Place) → unplaced_type (item_type_of t) ≡ item_type_of (unplaced_type t)
same_item (NamedTree n) = refl
same_item (NonNullNamedTree n) = refl
same_item (ListTree t) = refl
same_item (NonNullListTree t) = refl

pub inner_unplaced : (t : TypeTree Place) → (inner_name (unplaced_type t)).it ≡ (inner_name t).it
inner_unplaced (NamedTree n) = refl
inner_unplaced (NonNullNamedTree n) = refl
inner_unplaced (ListTree t) = inner_unplaced t
inner_unplaced (NonNullListTree t) = inner_unplaced t

-- ---- IsVariableUsageAllowed, by its cases

module _ (x : VariableDefinitionTree Place) (l : Location) where
  abbrev with_mark : Bool
  with_mark = are_types_compatible (unplaced_type x.ty.it) l.ty

  abbrev without_mark : Bool
  without_mark = are_types_compatible (unplaced_type x.ty.it) (nullable_type l.ty)

  abbrev some_default : Bool
  some_default = has_non_null_default x l || l.has_default

  pub allowed_plainly : (r : Bool) → needs_default x l ≡ false → r ≡ with_mark → r ≡ is_usage_allowed x l
  allowed_plainly r needs is = is ∙ sym (ap (λ b. if b then some_default && without_mark else with_mark) needs)

  pub refused : needs_default x l ≡ true → some_default ≡ false → false ≡ is_usage_allowed x l
  refused needs none = sym (ap (λ b. if b then some_default && without_mark else with_mark) needs ∙ ap (λ b. b && without_mark) none)

  pub allowed_by_default : (r : Bool) → needs_default x l ≡ true → some_default ≡ true → r ≡ without_mark → r ≡ is_usage_allowed x l
  allowed_by_default r needs some is = is ∙ sym (ap (λ b. if b then some_default && without_mark else with_mark) needs ∙ ap (λ b. b && without_mark) some)
