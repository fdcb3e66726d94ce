-- Variables that each operation of a document defines alike, as they are found one operation after the other.
use Rattle.std.proofs.Common.{◌≡◌, ◌⊎◌, ◌++◌, Bool, true, false, not, true≢false, List, [], ◌∷◌, map, refl, sym, subst, inl, inr, Option, None, Some, Contains, is_some}
use Rattle.std.specs.Option.{option_map}
use mathlib.Core.Bool.{beq}
use Rattle.std.proofs.lemmas.List.Elements.{Contains-append_cases}
use Rattle.graphql_names.specs.Placed.{Placed, Place}
use Rattle.tree_operations.specs.OperationTree.{VariableDefinitionTree}
use Rattle.schema_components.proofs.Places.{not_in_nil, Contains-cons}
use Rattle.spec_document.specs.MeantTree.{MeantOperation}
use Rattle.rule_definitions.specs.GivenValues.{Variables}
use Rattle.rule_selections.specs.Settled.{IsDefinedIn, AreDefinedIn, AreThoseDefined, KeepsIfDefined}

pub some_map : {X Y : Type 0} (f : X → Y) (o : Option X) → is_some (option_map f o) ≡ is_some o
some_map f None = refl
some_map f (Some x) = refl

pub alike_unless : (a b : Bool) → not (beq a b) ≡ false → a ≡ b
alike_unless true true h = refl
alike_unless true false h = absurd (true≢false h)
alike_unless false true h = absurd (true≢false h)
alike_unless false false h = refl

-- ---- those that one operation defines so

module _ (variables : Variables Place) where
  pub one_kept : (old new : Variables Place) (x : Placed Place (VariableDefinitionTree Place)) → new ≡ old ++ x ∷ [] → IsDefinedIn variables x → KeepsIfDefined variables x old new
  one_kept old new x is defined y c = elim (Contains-append_cases old (x ∷ []) y (subst (λ (l : Variables Place). Contains l y) is c)) [
    | inl k ↦ inl k
    | inr k ↦ elim (Contains-cons x [] y k) [ inl e ↦ inr (e, subst (IsDefinedIn variables) e defined) | inr none ↦ absurd (not_in_nil y none) ]
  ]

  pub none_kept : (all none : Variables Place) → none ≡ [] → AreThoseDefined variables all none
  none_kept all none is x c = absurd (not_in_nil x (subst (λ (l : Variables Place). Contains l x) is c))

  pub more_kept : (all old new : Variables Place) (x : Placed Place (VariableDefinitionTree Place)) → Contains all x → KeepsIfDefined variables x old new → AreThoseDefined variables all old → AreThoseDefined variables all new
  more_kept all old new x among keeps so_far y c = elim (keeps y c) [ inl k ↦ so_far y k | inr k ↦ (subst (Contains all) k.0 among, k.1) ]

-- ---- of all operations

module _ {X : Type 0} (operation : X → MeantOperation Place) (all : List (MeantOperation Place)) where
  -- each operation defines them so, or is still left
  abbrev pub AreDefinedBut : Variables Place → List X → Type 0
  AreDefinedBut common left = (o : MeantOperation Place) → Contains all o → AreDefinedIn common o.variables ⊎ Contains (map operation left) o

  pub all_left : (common : Variables Place) (left : List X) → map operation left ≡ all → AreDefinedBut common left
  all_left common left is o c = inr (subst (λ (l : List (MeantOperation Place)). Contains l o) (sym is) c)

  pub one_passed : (old new : Variables Place) (x : X) (left rest : List X) → left ≡ x ∷ rest → AreThoseDefined (operation x).variables old new → AreDefinedBut old left → AreDefinedBut new rest
  one_passed old new x left rest is those so_far o c = elim (so_far o c) [
    | inl defined ↦ inl (λ v k. defined v (those v k).0)
    | inr k ↦ elim (Contains-cons (operation x) (map operation rest) o (subst (λ (l : List X). Contains (map operation l) o) is k)) [
      | inl e ↦ inl (λ v k. subst (λ (o : MeantOperation Place). IsDefinedIn o.variables v) e (those v k).1)
      | inr later ↦ inr later
    ]
  ]

  pub all_passed : (common : Variables Place) (left : List X) → left ≡ [] → AreDefinedBut common left → (o : MeantOperation Place) → Contains all o → AreDefinedIn common o.variables
  all_passed common left none so_far o c = elim (so_far o c) [ inl defined ↦ defined | inr k ↦ absurd (not_in_nil o (subst (λ (l : List X). Contains (map operation l) o) none k)) ]
