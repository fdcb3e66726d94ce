-- `==` of keys says whether what they have is the same.
use Rattle.std.proofs.Common.{◌≡◌, ℕ, Bool, List, [], ◌∷◌, nat_eq, Option, Some, None, refl, ap}
use Rattle.std.specs.Bool.{Decides}
use Rattle.std.specs.Borrow.{Bor}
use Rattle.std.specs.Option.{option_eq}
use Rattle.std.specs.Cmp.Lexicographic.{pointwise}
use Rattle.std.proofs.lemmas.Bool.Decides.{Decides-eqb}
use Rattle.std.proofs.lemmas.Slice.Eq.{bytes_eq-Decides}
use Rattle.graphql_names.specs.NameValue.{NameValue}
use Rattle.tree_directives.specs.DirectiveTree.{argument_tree, unplaced_argument}
use Rattle.tree_literals.specs.TypeTree.{TypeTree}
use Rattle.tree_literals.specs.declared.ty.«Type».{«Type»}
use Rattle.schema_types.proofs.in_operations.Decided.{through, pair_decides, nodes_decide}
use Rattle.schema_types.proofs.in_operations.DirectiveEquality.{argument_eq, argument_eq-Decides}
use Rattle.schema_types.proofs.in_operations.TypeEquality.{type_eq, type_eq-Decides}
use Rattle.rule_field_sets.specs.contracts.numbers.CallPartialEq.TheImpl as call
use Rattle.rule_field_sets.specs.declared.numbers.Call.{Call}
use Rattle.rule_field_sets.specs.declared.numbers.FieldKey.{FieldKey}
use Rattle.rule_field_sets.specs.declared.numbers.SetKey.{SetKey}
use Rattle.rule_field_sets.specs.Numbered.{call_read, type_read, texts_of, set_parts, same_field_key, same_set_key}

abbrev pub text_of : Bor NameValue → List ℕ
text_of n = n.now.text

abbrev pub name_eq : Bor NameValue → Bor NameValue → Bool
name_eq a b = pointwise nat_eq a.now.text b.now.text

pub name_decides : (a b : Bor NameValue) → Decides (name_eq a b) (text_of a ≡ text_of b)
name_decides a b = bytes_eq-Decides a.now.text b.now.text

abbrev pub type_of : Bor «Type» → TypeTree (Unit {0})
type_of t = type_read t.now

abbrev pub type_same : Bor «Type» → Bor «Type» → Bool
type_same a b = type_eq a.now b.now

pub type_decides : (a b : Bor «Type») → Decides (type_same a b) (type_of a ≡ type_of b)
type_decides a b = type_eq-Decides a.now b.now

abbrev pub call_eq : Call → Call → Bool
call_eq = call.ghosts.eq

pub call_decides : (a b : Call) → Decides (call_eq a b) (call_read a ≡ call_read b)
call_decides a b =
    through
    (pair_decides _ _ (bytes_eq-Decides a.name.now.text b.name.now.text) (nodes_decide argument_eq unplaced_argument argument_tree argument_eq-Decides a.arguments.now.items b.arguments.now.items))
    (λ s i. (s.0 i, s.1 i))
    (λ r. (ap (λ p. p.0) r, ap (λ p. p.1) r))

option_decides : (a b : Option ℕ) → Decides (option_eq nat_eq a b) (a ≡ b)
option_decides None None = (λ h. refl, λ e. refl)
option_decides None (Some y) = (λ h. cc, λ e. cc)
option_decides (Some x) None = (λ h. cc, λ e. cc)
option_decides (Some x) (Some y) = through (Decides-eqb x y) (λ p. ap Some p) (λ e. cc)

pub field_key_decides : (a b : FieldKey) → Decides (same_field_key a b) (a ≡ b)
field_key_decides a b =
    through
    (pair_decides _ _ (Decides-eqb a.key b.key)
    (pair_decides _ _ (Decides-eqb a.parent b.parent)
    (pair_decides _ _ (Decides-eqb a.call b.call)
    (pair_decides _ _ (Decides-eqb a.ty b.ty) (option_decides a.set b.set)))))
    (λ s i. record { key = s.0 i; parent = s.1.0 i; call = s.1.1.0 i; ty = s.1.1.1.0 i; set = s.1.1.1.1 i })
    (λ e. (ap (λ (k : FieldKey). k.key) e, (ap (λ (k : FieldKey). k.parent) e, (ap (λ (k : FieldKey). k.call) e, (ap (λ (k : FieldKey). k.ty) e, ap (λ (k : FieldKey). k.set) e)))))

names_decide : (xs ys : List (Bor NameValue)) → Decides (pointwise name_eq xs ys) (texts_of xs ≡ texts_of ys)
names_decide [] [] = (λ h. refl, λ e. refl)
names_decide [] (y ∷ ys) = (λ h. cc, λ e. cc)
names_decide (x ∷ xs) [] = (λ h. cc, λ e. cc)
names_decide (x ∷ xs) (y ∷ ys) = through (pair_decides _ _ (name_decides x y) (names_decide xs ys)) (λ s i. s.0 i ∷ s.1 i) (λ e. (cc, cc))

pub set_key_decides : (a b : SetKey) → Decides (same_set_key a b) (set_parts a ≡ set_parts b)
set_key_decides a b =
    through
    (pair_decides _ _ (bytes_eq-Decides a.fields.items b.fields.items) (names_decide a.spreads.items b.spreads.items))
    (λ s i. (s.0 i, s.1 i))
    (λ r. (ap (λ p. p.0) r, ap (λ p. p.1) r))
