-- Symbols in brackets, as code opens them: one bracket more, and then at the next lower limit.
use Rattle.std.proofs.Common.{◌≡◌, ℕ, zero, suc, ◌-◌, ◌<◌, Bool, ap, arith}
use Rattle.read_tokens.specs.Input.{Input}
use Rattle.read_grammar.specs.Meaning.{Meaning}
use Rattle.read_grammar.specs.Kinds.{is_name, is_dollar, is_operation_type, is_open_bracket, is_close_bracket, is_open_brace, is_close_brace, is_open_paren, is_close_paren}
use Rattle.read_grammar.specs.Begins.{begins_described_name}
use Rattle.read_grammar.specs.Reading.{some, placed, between}
use Rattle.read_grammar.specs.ValueReading as v
use Rattle.read_grammar.specs.OperationReading as o
use Rattle.read_grammar.specs.TypeSystemReading as y
use Rattle.read_grammar.proofs.Moves.{bracketed, bracketed_is, bracketed_none}

sub_one : (n : ℕ) → suc n - 1 ≡ n
sub_one n = omega arith

module _ {P : Type 0} (m : Meaning P) where
  -- a value and a type where brackets may open: what is in them is read at the next lower limit
  pub value_above : (c : Bool) (n : ℕ) → 0 < n → v.value m c n ≡ v.any_value m c (v.list_value m (v.value m c (n - 1))) (v.object_value m (v.value m c (n - 1)))
  unfolding v.value
  value_above c zero lt = absurd (omega arith)
  value_above c (suc n) lt = ap (λ (h : ℕ). v.any_value m c (v.list_value m (v.value m c h)) (v.object_value m (v.value m c h))) (omega arith)

  pub type_above : (n : ℕ) → 0 < n → v.type m n ≡ v.any_type m (between is_open_bracket (v.type m (n - 1)) is_close_bracket)
  unfolding v.type
  type_above zero lt = absurd (omega arith)
  type_above (suc n) lt = ap (λ (h : ℕ). v.any_type m (between is_open_bracket (v.type m h) is_close_bracket)) (omega arith)

  pub arguments_is : (c : Bool) (n : ℕ) (i : Input) → v.arguments m c n i ≡ bracketed is_open_paren n (some is_name (placed m (v.argument m c (n - 1)))) is_close_paren i
  unfolding v.arguments
  arguments_is c zero i = bracketed_none is_open_paren is_close_paren _ i
  arguments_is c (suc n) i = rw (sub_one n) (bracketed_is is_open_paren is_close_paren n _ i)

  pub selection_set_is : (n : ℕ) (i : Input) → o.selection_set m n i ≡ bracketed is_open_brace n (o.selection_list m (n - 1) (o.selection_set m (n - 1))) is_close_brace i
  unfolding o.selection_set
  selection_set_is zero i = bracketed_none is_open_brace is_close_brace _ i
  selection_set_is (suc n) i = rw (sub_one n) (bracketed_is is_open_brace is_close_brace n _ i)

  pub variable_definitions_is : (n : ℕ) (i : Input) → o.variable_definitions m n i ≡ bracketed is_open_paren n (some is_dollar (placed m (o.variable_definition m (n - 1)))) is_close_paren i
  unfolding o.variable_definitions
  variable_definitions_is zero i = bracketed_none is_open_paren is_close_paren _ i
  variable_definitions_is (suc n) i = rw (sub_one n) (bracketed_is is_open_paren is_close_paren n _ i)

  pub roots_is : (n : ℕ) (i : Input) → y.roots m n i ≡ bracketed is_open_brace n (some is_operation_type (placed m (y.root_operation_type_definition m))) is_close_brace i
  unfolding y.roots
  roots_is zero i = bracketed_none is_open_brace is_close_brace _ i
  roots_is (suc n) i = bracketed_is is_open_brace is_close_brace n _ i

  pub arguments_definition_is : (n : ℕ) (i : Input) → y.arguments_definition m n i ≡ bracketed is_open_paren n (some begins_described_name (placed m (y.input_value_definition m (n - 1)))) is_close_paren i
  unfolding y.arguments_definition
  arguments_definition_is zero i = bracketed_none is_open_paren is_close_paren _ i
  arguments_definition_is (suc n) i = rw (sub_one n) (bracketed_is is_open_paren is_close_paren n _ i)

  pub fields_definition_is : (n : ℕ) (i : Input) → y.fields_definition m n i ≡ bracketed is_open_brace n (some begins_described_name (placed m (y.field_definition m (n - 1)))) is_close_brace i
  unfolding y.fields_definition
  fields_definition_is zero i = bracketed_none is_open_brace is_close_brace _ i
  fields_definition_is (suc n) i = rw (sub_one n) (bracketed_is is_open_brace is_close_brace n _ i)

  pub enum_values_definition_is : (n : ℕ) (i : Input) → y.enum_values_definition m n i ≡ bracketed is_open_brace n (some begins_described_name (placed m (y.enum_value_definition m (n - 1)))) is_close_brace i
  unfolding y.enum_values_definition
  enum_values_definition_is zero i = bracketed_none is_open_brace is_close_brace _ i
  enum_values_definition_is (suc n) i = rw (sub_one n) (bracketed_is is_open_brace is_close_brace n _ i)

  pub input_fields_definition_is : (n : ℕ) (i : Input) → y.input_fields_definition m n i ≡ bracketed is_open_brace n (some begins_described_name (placed m (y.input_value_definition m (n - 1)))) is_close_brace i
  unfolding y.input_fields_definition
  input_fields_definition_is zero i = bracketed_none is_open_brace is_close_brace _ i
  input_fields_definition_is (suc n) i = rw (sub_one n) (bracketed_is is_open_brace is_close_brace n _ i)
