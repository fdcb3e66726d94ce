-- The pieces of the text, definition by definition.
use Rattle.std.proofs.Common.{ℕ, List, [], ◌∷◌, ◌++◌, refl}
use Rattle.read_operations.specs.in_tokens.Bytes.{run_len}
use Rattle.read_operations.specs.in_tokens.Strings.{quoted_len, part_len}
use Rattle.read_operations.specs.in_tokens.Tokens.{ignored_at, string_at, token_at}
use Rattle.read_operations.specs.in_tokens.Lex.{Piece, piece_at, ArePieces}
use Rattle.rule_schema_laws.specs.BuiltInText.{skip_text, include_text, deprecated_text, specified_by_text, scalars_text, schema_text, type_text, type_kind_text, field_text, input_value_text, enum_value_text, directive_text, directive_location_text, built_in_text}
use Rattle.rule_schema_laws.proofs.BuiltInCutting.{cut, cut_are, join}

-- the pieces of a text are those that stand before any other bytes
abbrev pub AreBefore : ℕ → List ℕ → Type 0
AreBefore n text = (following : List ℕ) → ArePieces (cut n text) (text ++ following) following

pub skip_are : AreBefore 24 skip_text
unfolding piece_at ignored_at token_at run_len string_at quoted_len part_len
skip_are following = cut_are 24 (skip_text ++ following)

pub include_are : AreBefore 24 include_text
unfolding piece_at ignored_at token_at run_len string_at quoted_len part_len
include_are following = cut_are 24 (include_text ++ following)

pub deprecated_are : AreBefore 31 deprecated_text
unfolding piece_at ignored_at token_at run_len string_at quoted_len part_len
deprecated_are following = cut_are 31 (deprecated_text ++ following)

pub specified_by_are : AreBefore 16 specified_by_text
unfolding piece_at ignored_at token_at run_len string_at quoted_len part_len
specified_by_are following = cut_are 16 (specified_by_text ++ following)

pub scalars_are : AreBefore 20 scalars_text
unfolding piece_at ignored_at token_at run_len string_at quoted_len part_len
scalars_are following = cut_are 20 (scalars_text ++ following)

pub schema_are : AreBefore 47 schema_text
unfolding piece_at ignored_at token_at run_len string_at quoted_len part_len
schema_are following = cut_are 47 (schema_text ++ following)

pub type_are : AreBefore 104 type_text
unfolding piece_at ignored_at token_at run_len string_at quoted_len part_len
type_are following = cut_are 104 (type_text ++ following)

pub type_kind_are : AreBefore 24 type_kind_text
unfolding piece_at ignored_at token_at run_len string_at quoted_len part_len
type_kind_are following = cut_are 24 (type_kind_text ++ following)

pub field_are : AreBefore 55 field_text
unfolding piece_at ignored_at token_at run_len string_at quoted_len part_len
field_are following = cut_are 55 (field_text ++ following)

pub input_value_are : AreBefore 41 input_value_text
unfolding piece_at ignored_at token_at run_len string_at quoted_len part_len
input_value_are following = cut_are 41 (input_value_text ++ following)

pub enum_value_are : AreBefore 30 enum_value_text
unfolding piece_at ignored_at token_at run_len string_at quoted_len part_len
enum_value_are following = cut_are 30 (enum_value_text ++ following)

pub directive_are : AreBefore 53 directive_text
unfolding piece_at ignored_at token_at run_len string_at quoted_len part_len
directive_are following = cut_are 53 (directive_text ++ following)

pub directive_location_are : AreBefore 48 directive_location_text
unfolding piece_at ignored_at token_at run_len string_at quoted_len part_len
directive_location_are following = cut_are 48 (directive_location_text ++ following)

-- a part of the text, and the count of its pieces
pub record Part : Type 0 where
  pub count : ℕ
  pub text : List ℕ
  pub are : AreBefore count text

abbrev pub pieces_of : List Part → List Piece
pieces_of [] = []
pieces_of (p ∷ ps) = cut p.count p.text ++ pieces_of ps

abbrev pub text_of : List Part → List ℕ
text_of [] = []
text_of (p ∷ ps) = p.text ++ text_of ps

all_are : (ps : List Part) → ArePieces (pieces_of ps) (text_of ps) []
all_are [] = refl
all_are (p ∷ ps) = join (cut p.count p.text) (pieces_of ps) (p.text ++ text_of ps) (text_of ps) [] (p.are (text_of ps)) (all_are ps)

abbrev pub parts : List Part
parts =
    record { count = 24; text = skip_text; are = skip_are }
    ∷ record { count = 24; text = include_text; are = include_are }
    ∷ record { count = 31; text = deprecated_text; are = deprecated_are }
    ∷ record { count = 16; text = specified_by_text; are = specified_by_are }
    ∷ record { count = 20; text = scalars_text; are = scalars_are }
    ∷ record { count = 47; text = schema_text; are = schema_are }
    ∷ record { count = 104; text = type_text; are = type_are }
    ∷ record { count = 24; text = type_kind_text; are = type_kind_are }
    ∷ record { count = 55; text = field_text; are = field_are }
    ∷ record { count = 41; text = input_value_text; are = input_value_are }
    ∷ record { count = 30; text = enum_value_text; are = enum_value_are }
    ∷ record { count = 53; text = directive_text; are = directive_are }
    ∷ record { count = 48; text = directive_location_text; are = directive_location_are }
    ∷ []

-- the pieces of all of it
abbrev pub pieces : List Piece
pieces = pieces_of parts

pub pieces_are : ArePieces pieces built_in_text []
pieces_are = all_are parts
