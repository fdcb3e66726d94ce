-- What may be left out, by the test and by the definition; and what is always reached by both.
use Rattle.std.proofs.Common.{◌≡◌, ◌≢◌, ◌↔◌, ◌⊎◌, ℕ, Bool, true, false, not, ◌&&◌, ◌||◌, List, [], ◌∷◌, Option, None, Some, bytes_eq, codes, slice_get, zero, suc, refl, sym, ap, subst, ◌∙◌, inl, inr, true≢false, is_some, Contains}
use Rattle.std.specs.Prelude.{unwrap_or}
use Rattle.std.specs.List.{list_any}
use Rattle.std.proofs.lemmas.Option.{same_Some}
use Rattle.std.proofs.lemmas.Slice.Eq.{bytes_eq-Decides}
use Rattle.graphql_names.specs.Placed.{Placed}
use Rattle.tree_directives.specs.DirectiveTree.{DirectiveTree, Directives}
use Rattle.spec_document.specs.MeantTree.{MeantSelection, MeantOperation, MeantDocument}
use Rattle.rule_definitions.specs.Words.{AtSomeIndex}
use Rattle.rule_definitions.specs.Names.{directive_name}
use Rattle.rule_document_definitions.specs.Selected.{Standing, selection_directives}
use Rattle.rule_document_definitions.specs.Reached.{Closed, first, next, LeadsInto}
use Rattle.rule_document_definitions.specs.DeferUses.{MayBeLeftOut, ReachedAlways, literal_if}
use Rattle.rule_selection_queries.specs.Inside.{LeadsOn, ReachesBy}
use Rattle.rule_selection_queries.specs.Stays.{is_directive, leaves_out, stays}

-- ---- tests

pub or_cases : (a b : Bool) → (a || b) ≡ true → (a ≡ true) ⊎ (b ≡ true)
or_cases true b e = inl refl
or_cases false b e = inr e

pub or_left : (a b : Bool) → a ≡ true → (a || b) ≡ true
or_left a b e = ap (λ c. c || b) e

pub or_right : (a b : Bool) → b ≡ true → (a || b) ≡ true
or_right true b e = refl
or_right false b e = e

pub and_both : (a b : Bool) → (a && b) ≡ true → (a ≡ true) × (b ≡ true)
and_both true b e = (refl, e)
and_both false b e = absurd (true≢false (sym e))

pub and_is : (a b : Bool) → a ≡ true → b ≡ true → (a && b) ≡ true
and_is a b e f = ap (λ c. c && b) e ∙ f

pub not_true : (b : Bool) → not b ≡ true → b ≡ false
not_true true e = absurd (true≢false (sym e))
not_true false e = refl

-- some element passes a test
pub any_index : {X : Type 0} (test : X → Bool) (xs : List X) → list_any test xs ≡ true → AtSomeIndex xs (λ i x. test x ≡ true)
any_index test [] e = absurd (true≢false (sym e))
any_index test (x ∷ xs) e = elim (or_cases (test x) (list_any test xs) e) [
  | inl a ↦ (0, (x, (refl, a)))
  | inr b ↦ let p = any_index test xs b in (suc p.0, p.1)
]

pub index_any : {X : Type 0} (test : X → Bool) (xs : List X) (i : ℕ) (x : X) → slice_get xs i ≡ Some x → test x ≡ true → list_any test xs ≡ true
index_any test [] i x e t = absurd (true≢false (sym (ap is_some e)))
index_any test (y ∷ xs) zero x e t = or_left (test y) (list_any test xs) (ap test (same_Some _ _ e) ∙ t)
index_any test (y ∷ xs) (suc i) x e t = or_right (test y) (list_any test xs) (index_any test xs i x e t)

-- ---- one directive

literal_false : (o : Option Bool) → unwrap_or o true ≡ true → o ≢ Some false
literal_false o e is = true≢false (sym (ap (λ q. unwrap_or q true) (sym is) ∙ e))

not_false : (o : Option Bool) → o ≢ Some false → unwrap_or o true ≡ true
not_false None h = refl
not_false (Some true) h = refl
not_false (Some false) h = absurd (h refl)

literal_true : (o : Option Bool) → not (unwrap_or o false) ≡ true → o ≢ Some true
literal_true o e is = true≢false (sym (ap (λ q. not (unwrap_or q false)) (sym is) ∙ e))

not_literal_true : (o : Option Bool) → o ≢ Some true → not (unwrap_or o false) ≡ true
not_literal_true None h = refl
not_literal_true (Some true) h = absurd (h refl)
not_literal_true (Some false) h = refl

module _ {P : Type 0} where
  pub named_so : (n : List ℕ) (e : Placed P (DirectiveTree P)) → is_directive n e ≡ true → directive_name e ≡ n
  named_so n e h = (bytes_eq-Decides (directive_name e) n).0 h

  pub so_named : (n : List ℕ) (e : Placed P (DirectiveTree P)) → directive_name e ≡ n → is_directive n e ≡ true
  so_named n e h = (bytes_eq-Decides (directive_name e) n).1 h

  abbrev LeavesOut : Placed P (DirectiveTree P) → Type 0
  LeavesOut e = ((directive_name e ≡ codes "skip") × (literal_if e ≢ Some false)) ⊎ ((directive_name e ≡ codes "include") × (literal_if e ≢ Some true))

  abbrev skips : Placed P (DirectiveTree P) → Bool
  skips e = is_directive (codes "skip") e && unwrap_or (literal_if e) true

  abbrev includes : Placed P (DirectiveTree P) → Bool
  includes e = is_directive (codes "include") e && not (unwrap_or (literal_if e) false)

  out : (e : Placed P (DirectiveTree P)) → leaves_out e ≡ true → LeavesOut e
  out e h = elim (or_cases (skips e) (includes e) h) [
    | inl a ↦ let p = and_both (is_directive (codes "skip") e) (unwrap_or (literal_if e) true) a in inl (named_so (codes "skip") e p.0, literal_false (literal_if e) p.1)
    | inr b ↦ let p = and_both (is_directive (codes "include") e) (not (unwrap_or (literal_if e) false)) b in inr (named_so (codes "include") e p.0, literal_true (literal_if e) p.1)
  ]

  out_back : (e : Placed P (DirectiveTree P)) → LeavesOut e → leaves_out e ≡ true
  out_back e (inl p) = or_left (skips e) (includes e) (and_is (is_directive (codes "skip") e) (unwrap_or (literal_if e) true) (so_named (codes "skip") e p.0) (not_false (literal_if e) p.1))
  out_back e (inr p) = or_right (skips e) (includes e) (and_is (is_directive (codes "include") e) (not (unwrap_or (literal_if e) false)) (so_named (codes "include") e p.0) (not_literal_true (literal_if e) p.1))

  -- ---- one selection

  pub never_out : (x : Standing P) → stays x.it ≡ true → MayBeLeftOut x → ⊥
  never_out x h (i, (e, (is, l))) = true≢false (sym (index_any leaves_out (selection_directives x.it) i e is (out_back e l)) ∙ not_true (list_any leaves_out (selection_directives x.it)) h)

  pub is_kept : (x : Standing P) → (MayBeLeftOut x → ⊥) → stays x.it ≡ true
  is_kept x never = by (list_any leaves_out (selection_directives x.it)) refl
    where
      by : (b : Bool) → list_any leaves_out (selection_directives x.it) ≡ b → not b ≡ true
      by true is = let p = any_index leaves_out (selection_directives x.it) is in absurd (never (p.0, (p.1.0, (p.1.1.0, out p.1.0 p.1.1.1))))
      by false is = refl

  -- ---- what is reached

  module _ (d : MeantDocument P) (o : MeantOperation P) where
    pub always : (x : Standing P) → ReachesBy true stays d o x → ReachedAlways d o x
    always x (first (c, k)) = first (c, never_out x k)
    always y (next {x} r (l, k)) = next (always x r) (into l, never_out y k)
      where
        into : LeadsOn true stays d o x y → LeadsInto d x y
        into (inl p) = inl p.1
        into (inr p) = inr p

    pub by_staying : (x : Standing P) → ReachedAlways d o x → ReachesBy true stays d o x
    by_staying x (first (c, k)) = first (c, is_kept x k)
    by_staying y (next {x} r (l, k)) = next (by_staying x r) (on l, is_kept y k)
      where
        on : LeadsInto d x y → LeadsOn true stays d o x y
        on (inl p) = inl (refl, p)
        on (inr p) = inr p
