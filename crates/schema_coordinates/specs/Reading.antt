-- Private: leads to `printed` and `ParseErrorIsDue`. How a coordinate is read: a text is cut at the first occurrence of each sign in turn.
use Rattle.std.specs.Prelude.{ℕ, List, [], ◌∷◌, Option, None, Some, codes, ◌==◌, if◌then◌else◌, bytes_eq}
use Rattle.std.specs.Option.{option_map, option_and_then}
use Rattle.schema_coordinates.specs.Coordinate.{Coordinate, OfType, OfAttribute, OfArgument, OfDirective, OfDirectiveArgument, is_signless}
use Rattle.schema_coordinates.specs.declared.parts.Parts.{Parts}
use Rattle.schema_coordinates.specs.declared.parts.Parts.TheVariants as rust

abbrev pub parts_view : Parts → Coordinate
parts_view (rust.Type t) = OfType t.now
parts_view (rust.TypeAttribute t a) = OfAttribute t.now a.now
parts_view (rust.FieldArgument t f a) = OfArgument t.now f.now a.now
parts_view (rust.Directive d) = OfDirective d.now
parts_view (rust.DirectiveArgument d a) = OfDirectiveArgument d.now a.now

-- the text before the first such sign, and the text after it
abbrev pub cut_at : ℕ → List ℕ → Option (List ℕ × List ℕ)
cut_at sign [] = None
cut_at sign (c ∷ cs) = if c == sign then Some ([], cs) else option_map (λ p. (c ∷ p.0, p.1)) (cut_at sign cs)

-- `a` of `a:)`
abbrev pub argument_cut : List ℕ → Option (List ℕ)
argument_cut text = option_and_then (λ p. if bytes_eq p.1 (codes ")") then Some p.0 else None) (cut_at 58 text)

-- the coordinate of a text that does not begin with `@`
abbrev pub type_cut : List ℕ → Option Coordinate
type_cut text = elim (cut_at 46 text) [
  | None ↦ Some (OfType text)
  | Some p ↦ elim (cut_at 40 p.1) [
    | None ↦ Some (OfAttribute p.0 p.1)
    | Some q ↦ option_map (λ a. OfArgument p.0 q.0 a) (argument_cut q.1)
  ]
]

-- the coordinate of the text after `@`
abbrev pub directive_cut : List ℕ → Option Coordinate
directive_cut text = elim (cut_at 40 text) [
  | None ↦ Some (OfDirective text)
  | Some p ↦ option_map (λ a. OfDirectiveArgument p.0 a) (argument_cut p.1)
]

abbrev pub all_cut : List ℕ → Option Coordinate
all_cut [] = type_cut []
all_cut (c ∷ cs) = if c == 64 then directive_cut cs else type_cut (c ∷ cs)

-- the coordinate that is written as this text, if there is one
abbrev pub read : List ℕ → Option Coordinate
read text = option_and_then (λ c. if is_signless c then Some c else None) (all_cut text)
