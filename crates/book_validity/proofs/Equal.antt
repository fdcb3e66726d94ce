-- It is decided whether kinds, and references to types, are the same.
use Rattle.std.proofs.Common.{◌≡◌, ℕ, List, [], ◌∷◌, refl, sym, ap, ◌∙◌, Some, slice_get, get_or, inr}
use Rattle.std.proofs.lemmas.Option.{same_Some}
use Rattle.graphql_names.specs.Placed.{Text}
use Rattle.tree_literals.specs.TypeTree.{TypeTree, NamedTree, NonNullNamedTree, ListTree, NonNullListTree}
use Rattle.schema_types.specs.SchemaTree.{kind_number}
use Rattle.schema_types.specs.declared.type_kind.TypeKind.{TypeKind}
use Rattle.schema_types.specs.declared.type_kind.TypeKind.TheVariants as kind
use Rattle.rule_document_definitions.proofs.Decided.{Decided, along, names}

abbrev U : Type 0
U = Unit {0}

abbrev kinds : List TypeKind
kinds = kind.Scalar ∷ kind.Object ∷ kind.Interface ∷ kind.Union ∷ kind.Enum ∷ kind.InputObject ∷ []

at_number : (a : TypeKind) → slice_get kinds (kind_number a) ≡ Some a
at_number kind.Scalar = refl
at_number kind.Object = refl
at_number kind.Interface = refl
at_number kind.Union = refl
at_number kind.Enum = refl
at_number kind.InputObject = refl

pub kind_or_not : (a b : TypeKind) → Decided (a ≡ b)
kind_or_not a b = along
    (λ e. same_Some a b (sym (at_number a) ∙ ap (λ (l : List ℕ). slice_get kinds (get_or l 0 0)) e ∙ at_number b))
    (ap (λ k. kind_number k ∷ []))
    (names (kind_number a ∷ []) (kind_number b ∷ []))

text_or_not : (a b : Text U) → Decided (a ≡ b)
text_or_not a b = along (ap (λ n. record { it = n; place = tt })) (ap (λ (t : Text U). t.it)) (names a.it b.it)

abbrev inner : TypeTree U → TypeTree U
inner (ListTree t) = t
inner (NonNullListTree t) = t
inner t = t

abbrev text_of : TypeTree U → Text U
text_of (NamedTree n) = n
text_of (NonNullNamedTree n) = n
text_of (ListTree t) = text_of t
text_of (NonNullListTree t) = text_of t

pub type_or_not : (a b : TypeTree U) → Decided (a ≡ b)
type_or_not (NamedTree a) (NamedTree b) = along (ap NamedTree) (ap text_of) (text_or_not a b)
type_or_not (NonNullNamedTree a) (NonNullNamedTree b) = along (ap NonNullNamedTree) (ap text_of) (text_or_not a b)
type_or_not (ListTree a) (ListTree b) = along (ap ListTree) (ap inner) (type_or_not a b)
type_or_not (NonNullListTree a) (NonNullListTree b) = along (ap NonNullListTree) (ap inner) (type_or_not a b)
type_or_not _ _ = inr (λ e. cc)
