-- References to types are read as they are printed.
use Rattle.std.proofs.Common.{◌≡◌, ◌≤◌, ℕ, zero, suc, true, List, [], ◌∷◌, ◌++◌, Option, refl, sym, ap, subst, ◌∙◌, append_assoc, arith}
use Rattle.graphql_names.specs.NameSyntax as names
use Rattle.round_trip.specs.in_literals.Joined.{joined}
use Rattle.read_operations.specs.in_literals.ValueLayout.{type_text}
use Rattle.read_operations.specs.in_literals.TypeTree.{TypeTree, NamedTree, NonNullNamedTree, ListTree, NonNullListTree, unplaced_type}
use Rattle.read_operations.specs.in_grammar.Meaning.{Meaning}
use Rattle.read_operations.specs.in_grammar.Kinds.{is_bang, is_open_bracket, is_close_bracket}
use Rattle.read_operations.specs.in_grammar.Rules.{Rule, mark, ◌<$>◌, ◌∣◌, nothing, between}
use Rattle.read_operations.specs.in_grammar.ValueGrammar.{name, non_null, type_of, any_type, type}
use Rattle.round_trip.specs.Printed.{Follow, any, ends_word, Printed}
use Rattle.round_trip.specs.WellFormed.{type_well_formed, type_depth}
use Rattle.round_trip.proofs.Sequences.{seq, mapped, left, right, given, then_nothing, left_out, as_text, before_any}
use Rattle.round_trip.proofs.Tokens.{any_name}
use Rattle.round_trip.proofs.Punctuators.{bang, open_bracket, close_bracket}

-- the type, ignoring places
abbrev pub IsType : {P : Type 0} → TypeTree (Unit {0}) → TypeTree P → Type 0
IsType t x = unplaced_type x ≡ t

unplaced_non_null : {P : Type 0} (x : TypeTree P) → unplaced_type (non_null x) ≡ non_null (unplaced_type x)
unplaced_non_null (NamedTree n) = refl
unplaced_non_null (NonNullNamedTree n) = refl
unplaced_non_null (ListTree t) = refl
unplaced_non_null (NonNullListTree t) = refl

module _ {P : Type 0} (m : Meaning P) where
  abbrev inner : Rule (TypeTree P) → Rule (TypeTree P)
  inner r = NamedTree <$> name m ∣ ListTree <$> r

  -- a type, and no "!"
  nullable : (r : Rule (TypeTree P)) (t : TypeTree (Unit {0})) (f : Follow) (text : List ℕ) → Printed (inner r) (IsType t) f text → Printed (any_type m r) (IsType t) f text
  nullable r t f text p =
      mapped type_of (IsType t) (λ x said. subst (λ (o : Option (Unit {0})). IsType t (type_of (x.0, o))) (sym said.1) said.0)
      (then_nothing (λ following fine. fine) p (left_out (mark is_bang) f))

  -- a type and "!"
  banged : (r : Rule (TypeTree P)) (t : TypeTree (Unit {0})) (f : Follow) (text : List ℕ) → ((following : List ℕ) → f (33 ∷ following) ≡ true) → Printed (inner r) (IsType t) f text → Printed (any_type m r) (IsType (non_null t)) any (text ++ 33 ∷ [])
  banged r t f text meets p =
      mapped type_of (IsType (non_null t)) (λ x said. subst (λ (o : Option (Unit {0})). IsType (non_null t) (type_of (x.0, o))) (sym said.1.1) (unplaced_non_null x.0 ∙ ap non_null said.0))
      (seq {f = f} (λ following fine. meets following) p (given bang))

  named : (r : Rule (TypeTree P)) (n : List ℕ) → names.is_name n ≡ true → Printed (inner r) (IsType (NamedTree (record { it = n; place = tt }))) ends_word n
  named r n h =
      left (ListTree <$> r)
      (mapped NamedTree (IsType (NamedTree (record { it = n; place = tt }))) (λ x said. ap (λ (text : List ℕ). NamedTree (record { it = text; place = tt })) said) (any_name m n h))

  enclosed : (r : Rule (TypeTree P)) (t : TypeTree (Unit {0})) (text : List ℕ) → Printed r (IsType t) ends_word text → Printed (between is_open_bracket r is_close_bracket) (IsType t) any (91 ∷ (text ++ 93 ∷ []))
  enclosed r t text p =
      mapped (λ x. x.1.0) (IsType t) (λ x said. said.1.0)
      (seq {f = any} (λ following fine. refl) open_bracket (seq {f = ends_word} (λ following fine. refl) p close_bracket))

  list : (r : Rule (TypeTree P)) (t : TypeTree (Unit {0})) (text : List ℕ) → Printed r (IsType t) any text → Printed (inner r) (IsType (ListTree t)) any text
  list r t text p = right (NamedTree <$> name m) (mapped ListTree (IsType (ListTree t)) (λ x said. ap ListTree said) p)

  module _ {Q : Type 0} where
    pub type_read : (t : TypeTree Q) (n : ℕ) → type_well_formed t ≡ true → type_depth t ≤ n → Printed (type m n) (IsType (unplaced_type t)) ends_word (type_text t)
    unfolding type joined
    type_read (NamedTree x) zero h le = nullable nothing _ ends_word _ (named nothing x.it h)
    type_read (NamedTree x) (suc n) h le = nullable _ _ ends_word _ (named _ x.it h)
    type_read (NonNullNamedTree x) zero h le = before_any (banged nothing _ ends_word _ (λ following. refl) (named nothing x.it h))
    type_read (NonNullNamedTree x) (suc n) h le = before_any (banged _ _ ends_word _ (λ following. refl) (named _ x.it h))
    type_read (ListTree t) zero h le = absurd (omega arith)
    type_read (ListTree t) (suc n) h le = before_any (nullable _ _ any _ (list _ _ _ (enclosed (type m n) (unplaced_type t) (type_text t) (type_read t n h (omega arith)))))
    type_read (NonNullListTree t) zero h le = absurd (omega arith)
    type_read (NonNullListTree t) (suc n) h le =
        before_any
        (as_text (91 ∷ (type_text t ++ 93 ∷ 33 ∷ [])) (ap (λ (l : List ℕ). 91 ∷ l) (append_assoc (type_text t) (93 ∷ []) (33 ∷ [])))
        (banged _ _ any _ (λ following. refl) (list _ _ _ (enclosed (type m n) (unplaced_type t) (type_text t) (type_read t n h (omega arith))))))
