-- A type is read part by part.
use Rattle.std.proofs.Common.{◌≡◌, ℕ, zero, suc, ◌-◌, Bool, true, false, cond, Ok, Err, refl, sym, ap, ◌∙◌, arith}
use Rattle.tree_literals.specs.TypeTree.{TypeTree, NamedTree, NonNullNamedTree, NonNullListTree}
use Rattle.tree_literals.specs.TypeTree as types
use Rattle.tree_literals.specs.TypeQueries.{non_null_type}
use Rattle.read_tokens.specs.Cursor.{skipped}
use Rattle.read_tokens.specs.Input.{Input, next}
use Rattle.read_grammar.specs.declared.parse_error.ParseError.{ParseError}
use Rattle.read_grammar.specs.declared.parse_error.ParseError.TheVariants.{Unexpected}
use Rattle.read_grammar.specs.Meaning.{Meaning}
use Rattle.read_grammar.specs.Kinds.{next_is, is_name, is_bang, is_open_bracket, is_close_bracket}
use Rattle.read_grammar.specs.Reading.{Parser, Outcome, and_then, mark, when, try, refuse, too_deep, between, ◌⊙◌, ◌<&>◌}
use Rattle.read_grammar.specs.ValueGrammar.{non_null, type_of}
use Rattle.read_grammar.specs.ValueReading as v
use Rattle.read_grammar.proofs.Moves.{mark_yes, bracketed, bracketed_is, between_no}
use Rattle.read_operations.specs.TypeSteps.{bracketed_type, unmarked_type}

sub_one : (n : ℕ) → suc n - 1 ≡ n
sub_one n = omega arith

-- the two ways to say it of a type with the mark
marked : {P : Type 0} (x : TypeTree P) → non_null x ≡ non_null_type x
marked (NamedTree n) = refl
marked (types.ListTree x) = refl
marked (NonNullNamedTree n) = refl
marked (NonNullListTree x) = refl

abbrev done : {A : Type 0} → A → Input → Outcome A
done x o = Ok (x, o)

module _ {P : Type 0} (m : Meaning P) where
  abbrev inner : ℕ → Parser (TypeTree P)
  inner zero = too_deep
  inner (suc n) = between is_open_bracket (v.type m n) is_close_bracket

  in_brackets : (n : ℕ) (i : Input) → when is_open_bracket (types.ListTree <&> inner n) refuse i ≡ (types.ListTree <&> bracketed_type m n) i
  in_brackets zero i = go (next_is is_open_bracket (next i))
    where
      go : (t : Bool) → cond t (and_then (too_deep {A = TypeTree P} i) (λ x o. Ok (types.ListTree x, o))) (Err (Unexpected, i)) ≡ and_then {A = TypeTree P} (and_then {A = Unit {0} × (TypeTree P × Unit {0})} (and_then {A = Unit {0}} (cond t (too_deep i) (refuse i)) (λ x k. and_then ((v.type m (0 - 1) ⊙ mark is_close_bracket) k) (λ y o. Ok ((x, y), o)))) (λ x o. Ok (x.1.0, o))) (λ x o. Ok (types.ListTree x, o))
      go true = refl
      go false = refl
  in_brackets (suc n) i = go (next_is is_open_bracket (next i)) refl ∙ ap listed (bracketed_is is_open_bracket is_close_bracket n (v.type m n) i ∙ lower)
    where
      listed : Outcome (TypeTree P) → Outcome (TypeTree P)
      listed y = and_then y (λ x o. Ok (types.ListTree x, o))

      lower : bracketed is_open_bracket (suc n) (v.type m n) is_close_bracket i ≡ bracketed_type m (suc n) i
      lower = ap (λ (h : ℕ). bracketed is_open_bracket (suc n) (v.type m h) is_close_bracket i) (sym (sub_one n))

      go : (t : Bool) → next_is is_open_bracket (next i) ≡ t → cond t (listed (between is_open_bracket (v.type m n) is_close_bracket i)) (Err (Unexpected, i)) ≡ listed (between is_open_bracket (v.type m n) is_close_bracket i)
      go true e = refl
      go false e = rw (between_no is_open_bracket is_close_bracket (v.type m n) i e) refl

  -- what is read after the part that may be the whole type
  abbrev following : Outcome (TypeTree P) → Outcome (TypeTree P)
  following y = and_then (and_then y (λ x k. and_then (try is_bang (mark is_bang) k) (λ z o. Ok ((x, z), o)))) (λ x o. Ok (type_of x, o))

  pub type_is : (n : ℕ) (i : Input) → v.type m n i ≡ following (unmarked_type m n i)
  unfolding v.type v.any_type
  type_is zero i = ap (λ (y : Outcome (TypeTree P)). following (cond (next_is is_name (next i)) ((NamedTree <&> v.name m) i) y)) (in_brackets zero i)
  type_is (suc n) i = ap (λ (y : Outcome (TypeTree P)). following (cond (next_is is_name (next i)) ((NamedTree <&> v.name m) i) y)) (in_brackets (suc n) i)

  pub type_plain : (n : ℕ) (i k : Input) (x : TypeTree P) → unmarked_type m n i ≡ Ok (x, k) → next_is is_bang (next k) ≡ false → v.type m n i ≡ Ok (x, k)
  type_plain n i k x h none = type_is n i ∙ ap following h ∙ rw none refl

  pub type_marked : (n : ℕ) (i k : Input) (x y : TypeTree P) → unmarked_type m n i ≡ Ok (x, k) → next_is is_bang (next k) ≡ true → y ≡ non_null_type x → v.type m n i ≡ Ok (y, skipped k)
  type_marked n i k x y h bang e = type_is n i ∙ ap following h ∙ rw bang (rw (mark_yes is_bang k bang) (ap (λ (z : TypeTree P). done z (skipped k)) (marked x ∙ sym e)))

  pub type_stops : (n : ℕ) (i k : Input) (e : ParseError) → unmarked_type m n i ≡ Err (e, k) → v.type m n i ≡ Err (e, k)
  type_stops n i k e h = type_is n i ∙ ap following h

  pub unmarked_name : (n : ℕ) (i : Input) → next_is is_name (next i) ≡ true → unmarked_type m n i ≡ (NamedTree <&> v.name m) i
  unmarked_name n i h = rw h refl

  pub unmarked_list : (n : ℕ) (i : Input) → next_is is_name (next i) ≡ false → unmarked_type m n i ≡ (types.ListTree <&> bracketed_type m n) i
  unmarked_list n i h = rw h refl
