-- What is told of two fields, in the order of the text.
use Rattle.std.proofs.Common.{◌≡◌, ◌⊎◌, ◌≤◌, ℕ, List, Vec, Global, None, Some, inl, inr, subst, arith}
use Rattle.std.proofs.lemmas.Bool.Decides.{leb_tells}
use Rattle.graphql_names.specs.Placed.{Place}
use Rattle.fault_document_errors.specs.declared.build_error.BuildError.{BuildError}
use Rattle.rule_selection_queries.specs.in_definitions.Judged.{Judged}
use Rattle.rule_selection_queries.specs.in_document_definitions.DocumentFaults.{Broken}
use Rattle.rule_selection_queries.specs.in_document_definitions.Selected.{StandingField}
use Rattle.rule_selection_queries.specs.in_document_definitions.Merging.{SameName, SameArgument}
use Rattle.rule_selection_queries.proofs.Equivalences.{given_sym}
use Rattle.rule_field_sets.specs.declared.member.Member.{Member}
use Rattle.rule_field_groups.specs.Members.{field_of}
use Rattle.rule_field_groups.specs.declared.pass.Pass.TheVariants.{Selections}
use Rattle.rule_field_groups.specs.LaterField.{IsInOrder}
use Rattle.rule_field_groups.specs.Passes.{argument_conflict, ArgumentsConflict, AddsTwo}
use Rattle.rule_field_groups.specs.Conflicts.{AreInTextOrder, AddsNames, AddsArguments}

-- of two numbers one is at most the other
not_above : (a b : ℕ) → (a ≤ b → ⊥) → b ≤ a
not_above a b never = elim (leb_tells a b) [
  | inl h ↦ absurd (never h.1)
  | inr h ↦ omega (arith, h.1)
]

-- where two places are not in order, they are the other way round
pub other_order : (p q : Place) → (IsInOrder p q → ⊥) → IsInOrder q p
other_order None q never = absurd (never tt)
other_order (Some p) None never = absurd (never tt)
other_order (Some p) (Some q) never = λ e. not_above p.offset q.offset (λ le. never (λ same. le))

-- what is told of two fields that differ, in the order of the text: of the one and the other, or of the other and the one
pub told_in_order : (Differ : StandingField Place → StandingField Place → Type 0) (conflict : StandingField Place → StandingField Place → Broken Place) (b : Broken Place) (f g : Member) (two : Member × Member)
    → AreInTextOrder f g two → Differ (field_of f) (field_of g) → Differ (field_of g) (field_of f) → b ≡ conflict (field_of two.0) (field_of two.1)
    → (Differ (field_of f) (field_of g) × ((b ≡ conflict (field_of f) (field_of g)) × IsInOrder (field_of f).place (field_of g).place))
    ⊎ (Differ (field_of g) (field_of f) × ((b ≡ conflict (field_of g) (field_of f)) × IsInOrder (field_of g).place (field_of f).place))
told_in_order Differ conflict b f g two (inl (ordered, is)) one other told =
    inl (one, (subst (λ (t : Member × Member). b ≡ conflict (field_of t.0) (field_of t.1)) is told, ordered))
told_in_order Differ conflict b f g two (inr (never, is)) one other told =
    inr (other, (subst (λ (t : Member × Member). b ≡ conflict (field_of t.0) (field_of t.1)) is told, other_order (field_of f).place (field_of g).place never))

-- so of their arguments with one name
pub arguments_in_order : (n : List ℕ) (b : Broken Place) (f g : Member) (two : Member × Member) → AreInTextOrder f g two → (SameArgument n (field_of f) (field_of g) → ⊥)
    → b ≡ argument_conflict n (field_of two.0) (field_of two.1) → ArgumentsConflict b (field_of f) (field_of g) ⊎ ArgumentsConflict b (field_of g) (field_of f)
arguments_in_order n b f g two ordered never told =
    elim (told_in_order (λ x y. SameArgument n x y → ⊥) (argument_conflict n) b f g two ordered never (λ same. never (given_sym same)) told) [
      | inl one ↦ inl (n, one)
      | inr other ↦ inr (n, other)
    ]

-- ---- names, and where they are the same arguments

module _ (s : Judged) (f g : StandingField Place) (old new : Vec (Place × BuildError) Global) where
  pub adds_of_names : (SameName f g → ⊥) → AddsNames f g old new → AddsTwo Selections s f g old new
  adds_of_names differ (None, (adds, same)) = absurd (differ same)
  adds_of_names differ (Some b, (adds, inl one)) = (Some b, (adds, inl (inl one)))
  adds_of_names differ (Some b, (adds, inr other)) = (Some b, (adds, inr (inl other)))

  pub adds_of_arguments : SameName f g → AddsArguments f g old new → AddsTwo Selections s f g old new
  adds_of_arguments named (None, (adds, same)) = (None, (adds, (named, same)))
  adds_of_arguments named (Some b, (adds, inl one)) = (Some b, (adds, inl (inr one)))
  adds_of_arguments named (Some b, (adds, inr other)) = (Some b, (adds, inr (inr other)))
