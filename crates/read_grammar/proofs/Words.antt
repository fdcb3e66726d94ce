-- An enum value and a fragment's name are read as a name, where one is next.
use Rattle.std.proofs.Common.{◌≡◌, Bool, true, List, [], ◌∷◌, Ok, refl, ap}
use Rattle.graphql_names.specs.Placed.{Text}
use Rattle.read_tokens.specs.declared.terminal.Terminal.{Terminal}
use Rattle.read_tokens.specs.Input.{Token, Input, next, next_of}
use Rattle.read_grammar.specs.Meaning.{Meaning, name_of}
use Rattle.read_grammar.specs.Kinds.{next_is, is_name, is_enum_value, is_fragment_name}
use Rattle.read_grammar.specs.Reading.{Outcome, and_then, take_from, take}
use Rattle.read_grammar.specs.ValueReading as v
use Rattle.read_grammar.specs.OperationReading as o
use Rattle.read_grammar.proofs.Tests.{from_subset}

same_from : (is other : Terminal → Bool) (i : Input) (ts : List Token) → next_is is (next_of ts) ≡ true → next_is other (next_of ts) ≡ true → take_from is i ts ≡ take_from other i ts
same_from is other i [] h k = absurd cc
same_from is other i (t ∷ ts) h k = rw h (rw k refl)

-- two classes that both hold the next token take it alike
pub take_same : (is other : Terminal → Bool) (i : Input) → next_is is (next i) ≡ true → next_is other (next i) ≡ true → take is i ≡ take other i
unfolding take
take_same is other i h k = same_from is other i i.ahead h k

abbrev done : {P : Type 0} → Text P → Input → Outcome (Text P)
done x z = Ok (x, z)

module _ {P : Type 0} (m : Meaning P) where
  pub enum_value_is : (i : Input) → next_is is_enum_value (next i) ≡ true → v.enum_value m i ≡ v.name m i
  unfolding v.enum_value v.name
  enum_value_is i h = ap (λ (y : Outcome Token). and_then y (λ t z. done (name_of m t) z)) (take_same is_enum_value is_name i h (from_subset (next_is is_enum_value) (next_is is_name) refl (next i) h))

  pub fragment_name_is : (i : Input) → next_is is_fragment_name (next i) ≡ true → o.fragment_name m i ≡ v.name m i
  unfolding o.fragment_name v.name
  fragment_name_is i h = ap (λ (y : Outcome Token). and_then y (λ t z. done (name_of m t) z)) (take_same is_fragment_name is_name i h (from_subset (next_is is_fragment_name) (next_is is_name) refl (next i) h))
