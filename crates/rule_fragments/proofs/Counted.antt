-- The fields that a walk lends, counted up to two.
use Rattle.std.proofs.Common.{◌≡◌, ◌↔◌, ◌+◌, ◌<◌, ℕ, Bool, true, false, List, [], ◌∷◌, refl, sym, ap, arith, true≢false}
use Rattle.std.specs.Prelude.{if◌then◌else◌, IsTrue}
use Rattle.std.specs.Borrow.{Bor}
use Rattle.graphql_names.specs.NameValue.{NameValue}
use Rattle.graphql_names.specs.Placed.{Place}
use Rattle.document_typed_selections.specs.declared.selection.Selection.{Selection}
use Rattle.spec_document.specs.MeantTree.{MeantOperation, MeantDocument}
use Rattle.document_typed_operations.specs.Reached.{Member}
use Rattle.document_typed_operations.specs.WalkView.{lent_member}
use Rattle.rule_selection_queries.specs.Lent.{lent}
use Rattle.rule_fragments.specs.ListedBreaches.{fields_in, field_count}
use Rattle.rule_fragments.specs.Rooted.{AreRoots, HasSeveralFields}
use Rattle.rule_fragments.specs.Used.{AreUnderOwnNames}
use Rattle.rule_fragments.proofs.Lent.{members_lent}
use Rattle.rule_fragments.proofs.Subscribed.{several_fields}

abbrev pub one_if : Bool → ℕ
one_if b = if b then 1 else 0

-- one is lent
pub counted : (e : Bor NameValue × Bor Selection) (left rest : List (Member Place)) → left ≡ lent_member e ∷ rest → field_count (members_lent left) ≡ fields_in (lent e.1.now) + field_count (members_lent rest)
counted e left rest is = ap (λ l. field_count (members_lent l)) is

-- none is left
pub counted_all : (left : List (Member Place)) → left ≡ [] → field_count (members_lent left) ≡ 0
counted_all left is = ap (λ l. field_count (members_lent l)) is

-- before the first step
pub none_yet : (left all : ℕ) → left ≡ all → 0 + left ≡ all
none_yet left all e = omega (arith, e)

-- what a step adds
pub none_found : (has : Bool) (all left rest one : ℕ) → one ≡ 0 → left ≡ one + rest → one_if has + left ≡ all → one_if has + rest ≡ all
none_found has all left rest one none more so_far = omega (arith, none, more, so_far)

pub first_found : (has : Bool) (all left rest one : ℕ) → has ≡ false → one ≡ 1 → left ≡ one + rest → one_if has + left ≡ all → 1 + rest ≡ all
first_found has all left rest one off is more so_far = let zero : one_if has ≡ 0 = ap one_if off in omega (arith, zero, is, more, so_far)

pub second_found : (has : Bool) (all left rest one : ℕ) → has ≡ true → one ≡ 1 → left ≡ one + rest → one_if has + left ≡ all → 1 + (1 + rest) ≡ all
second_found has all left rest one on is more so_far = let some : one_if has ≡ 1 = ap one_if on in omega (arith, some, is, more, so_far)

module _ (d : MeantDocument Place) (o : MeantOperation Place) (given : List (Member Place)) (roots : AreRoots d o (members_lent given)) where
  pub two_fields : (rest : ℕ) → 1 + (1 + rest) ≡ field_count (members_lent given) → AreUnderOwnNames d → IsTrue true ↔ HasSeveralFields d o
  two_fields rest is own = (λ t. (several_fields d o (members_lent given) roots own).0 (omega (arith, is)), λ has. refl)

  pub at_most_one : (b : Bool) (left : ℕ) → left ≡ 0 → one_if b + left ≡ field_count (members_lent given) → AreUnderOwnNames d → IsTrue false ↔ HasSeveralFields d o
  at_most_one b left none is own = (λ t. absurd (true≢false (sym t)), λ has. absurd (few b is ((several_fields d o (members_lent given) roots own).1 has)))
    where
      few : (b : Bool) → one_if b + left ≡ field_count (members_lent given) → 1 < field_count (members_lent given) → ⊥
      few true is more = omega (arith, none, is, more)
      few false is more = omega (arith, none, is, more)
