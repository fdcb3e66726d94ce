-- Selections are typed exactly when no rule of typing is broken in their set.
use Rattle.std.proofs.Common.{◌≡◌, ◌⊎◌, ℕ, Bool, true, false, not, ◌&&◌, ◌||◌, List, refl, sym, ap, subst, ◌∙◌, Option, None, Some, inl, inr, is_some, true≢false}
use Rattle.std.proofs.lemmas.Option.{same_Some}
use Rattle.tree_operations.specs.SelectionTree.{SelectionTree, FieldTree, SpreadTree, InlineTree, SelectionTrees, no_selections, selection_then}
use Rattle.tree_operations.specs.OperationWritable.{has_selection}
use Rattle.rule_definitions.specs.Words.{Present}
use Rattle.verdict_definitions.specs.in_typing.MeantTree.{Definition}
use Rattle.verdict_definitions.specs.in_typing.Meanings.{Meanings, inner_type}
use Rattle.verdict_definitions.specs.in_typing.KeptSelections.{may_select}
use Rattle.verdict_definitions.specs.in_typing.TypingFaults.{TypingFault, SelectionBreaks, undefined_field, subselection_on_scalar_type, subselection_on_enum_type, undefined_type_in_inline_fragment_type_condition, IsInSelections, first, later, in_field, in_fragment, in_condition}
use Rattle.book_validity.specs.Typing.{IsTyped, AreTyped}
use Rattle.book_validity.specs.Laws.{SetsTypedByTheBook}

-- a field that selects from a leaf may not
leaf_refused : (a b c : Bool) → a ≡ true → (b ≡ true) ⊎ (c ≡ true) → not (a && (b || c)) ≡ true → ⊥
leaf_refused true true c e f g = true≢false (sym g)
leaf_refused true false true e f g = true≢false (sym g)
leaf_refused true false false e (inl f) g = true≢false (sym f)
leaf_refused true false false e (inr f) g = true≢false (sym f)
leaf_refused false b c e f g = true≢false (sym e)

selects : (a b c : Bool) → (a ≡ true → b ≡ true → ⊥) → (a ≡ true → c ≡ true → ⊥) → not (a && (b || c)) ≡ true
selects true true c f g = absurd (f refl refl)
selects true false true f g = absurd (g refl refl)
selects true false false f g = refl
selects false b c f g = refl

module _ {P : Type 0} (m : Meanings) where
  one : (t : List ℕ) (s : SelectionTree P) (fault : TypingFault P) → IsTyped m t s → SelectionBreaks m t s fault → ⊥
  one t (FieldTree p h ts) fault (d, (e, (may, all))) (undefined_field (none, told)) = true≢false (sym (ap is_some e) ∙ ap is_some none)
  one t (FieldTree p h ts) fault (d, (e, (may, all))) (subselection_on_scalar_type (x, b)) =
      let same : d ≡ x = same_Some d x (sym e ∙ b.0) in
      leaf_refused (has_selection ts) (m.is_scalar (inner_type d)) (m.is_enum (inner_type d)) b.2 (inl (ap (λ (y : Definition). m.is_scalar (inner_type y)) same ∙ b.1)) may
  one t (FieldTree p h ts) fault (d, (e, (may, all))) (subselection_on_enum_type (x, b)) =
      let same : d ≡ x = same_Some d x (sym e ∙ b.0) in
      leaf_refused (has_selection ts) (m.is_scalar (inner_type d)) (m.is_enum (inner_type d)) b.2 (inr (ap (λ (y : Definition). m.is_enum (inner_type y)) same ∙ b.1)) may
  one t (FieldTree p h ts) fault h' (undefined_type_in_inline_fragment_type_condition b) = b
  one t (SpreadTree p n ds) fault h (undefined_field b) = b
  one t (SpreadTree p n ds) fault h (subselection_on_scalar_type b) = b
  one t (SpreadTree p n ds) fault h (subselection_on_enum_type b) = b
  one t (SpreadTree p n ds) fault h (undefined_type_in_inline_fragment_type_condition b) = b
  one t (InlineTree p None ds ts) fault h (undefined_field b) = b
  one t (InlineTree p None ds ts) fault h (subselection_on_scalar_type b) = b
  one t (InlineTree p None ds ts) fault h (subselection_on_enum_type b) = b
  one t (InlineTree p None ds ts) fault h (undefined_type_in_inline_fragment_type_condition b) = b
  one t (InlineTree p (Some c) ds ts) fault h (undefined_field b) = b
  one t (InlineTree p (Some c) ds ts) fault h (subselection_on_scalar_type b) = b
  one t (InlineTree p (Some c) ds ts) fault h (subselection_on_enum_type b) = b
  one t (InlineTree p (Some c) ds ts) fault h (undefined_type_in_inline_fragment_type_condition b) = true≢false (sym h.0 ∙ b.0)

  -- what is in a typed set is typed
  inside : (u : List ℕ) (s : SelectionTree P) (t : List ℕ) (ts : SelectionTrees P) → AreTyped m t ts → IsInSelections m u s t ts → IsTyped m u s
  inside u s t ts h (first ss) = h.0
  inside u s t ts h (later t' x ss st) = inside u s t' ss h.1 st
  inside u s t ts h (in_field t' p hd us ss d e may st) =
      let same : h.0.0 ≡ d = same_Some h.0.0 d (sym h.0.1.0 ∙ e) in
      inside u s (inner_type d) us (subst (λ (y : Definition). AreTyped m (inner_type y) us) same h.0.1.1.1) st
  inside u s t ts h (in_fragment t' p ds us ss st) = inside u s t' us h.0 st
  inside u s t ts h (in_condition t' p c ds us ss e st) = inside u s c.it us h.0.1 st

  abbrev Silent : List ℕ → SelectionTrees P → Type 0
  Silent t ts = (u : List ℕ) (s : SelectionTree P) (fault : TypingFault P) → IsInSelections m u s t ts → SelectionBreaks m u s fault → ⊥

  typed : (t : List ℕ) (ts : SelectionTrees P) → Silent t ts → AreTyped m t ts
  typed t no_selections q = tt
  typed t (selection_then (FieldTree p h ts) ss) q = (field (m.field t h.name.it) refl (λ d. typed (inner_type d) ts), typed t ss (λ u s fault st. q u s fault (later t _ ss st)))
    where
      field : (o : Option Definition) → m.field t h.name.it ≡ o → ((d : Definition) → Silent (inner_type d) ts → AreTyped m (inner_type d) ts) → Present (m.field t h.name.it) (λ d. (may_select m (inner_type d) ts ≡ true) × AreTyped m (inner_type d) ts)
      field None e rest = absurd (q t (FieldTree p h ts) _ (first ss) (undefined_field (e, refl)))
      field (Some d) e rest =
          let may : may_select m (inner_type d) ts ≡ true = selects (has_selection ts) (m.is_scalar (inner_type d)) (m.is_enum (inner_type d))
          (λ has is. q t (FieldTree p h ts) _ (first ss) (subselection_on_scalar_type (d, (e, is, has, refl))))
          (λ has is. q t (FieldTree p h ts) _ (first ss) (subselection_on_enum_type (d, (e, is, has, refl)))) in
          (d, (e, (may, rest d (λ u s fault st. q u s fault (in_field t p h ts ss d e may st)))))
  typed t (selection_then (SpreadTree p n ds) ss) q = (tt, typed t ss (λ u s fault st. q u s fault (later t _ ss st)))
  typed t (selection_then (InlineTree p None ds ts) ss) q = (typed t ts (λ u s fault st. q u s fault (in_fragment t p ds ts ss st)), typed t ss (λ u s fault st. q u s fault (later t _ ss st)))
  typed t (selection_then (InlineTree p (Some c) ds ts) ss) q = (there (m.has_type c.it) refl (typed c.it ts), typed t ss (λ u s fault st. q u s fault (later t _ ss st)))
    where
      there : (b : Bool) → m.has_type c.it ≡ b → (Silent c.it ts → AreTyped m c.it ts) → (m.has_type c.it ≡ true) × AreTyped m c.it ts
      there true e rest = (e, rest (λ u s fault st. q u s fault (in_condition t p c ds ts ss e st)))
      there false e rest = absurd (q t (InlineTree p (Some c) ds ts) _ (first ss) (undefined_type_in_inline_fragment_type_condition (e, refl)))

pub sets_typed : SetsTypedByTheBook
sets_typed m t ts = (
  λ h fault b. one m b.0 b.1.0 fault (inside m b.0 b.1.0 t ts h b.1.1.0) b.1.1.1,
  λ q. typed m t ts (λ u s fault st b. q fault (u, (s, (st, b)))),
)
