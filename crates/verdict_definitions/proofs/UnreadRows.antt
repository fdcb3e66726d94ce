-- Rows that are not read, or for which no number is left: the fault that may be told, and that nothing of the kind is accepted.
use Rattle.std.proofs.Common.{ℕ, ◌+◌, ◌-◌, ◌^◌, ◌<◌, List, [], ◌∷◌, codes, None, Some, refl, inl, inr, arith}
use Rattle.graphql_names.specs.Placed.{Place}
use Rattle.graphql_names.specs.declared.span.SourceSpan.{SourceSpan}
use Rattle.graphql_faults.specs.in_grammar.Faults as read
use Rattle.graphql_faults.specs.in_grammar.Places.{place_in}
use Rattle.graphql_faults.specs.in_read.declared.fault.SyntaxFaultKind.TheVariants.{NoToken, Unexpected, End}
use Rattle.graphql_faults.specs.in_read.Reads.{IsDue}
use Rattle.tree_definitions.specs.in_operations.SelectionTree.{SelectionTrees, FieldTree, no_selections, selection_then}
use Rattle.graphql_faults.specs.DetailsTree.{Syntax, Nesting}
use Rattle.verdict_definitions.specs.Texts.{SourceText, Tree, DerivesIn, PassesNumbers, IsRead}
use Rattle.verdict_definitions.specs.Judge.{IsAccepted}
use Rattle.verdict_definitions.specs.Says.{AnyFault, spent, UnreadFault}
use Rattle.verdict_definitions.proofs.RowReading.{reader, reads, is_within, is_due}
use Rattle.verdict_definitions.proofs.RowTrees.{terms, named, field, short_query}
use Rattle.verdict_definitions.proofs.RowJudging.{unread_refused, number_refused}
use Rattle.verdict_definitions.proofs.TextRows.{query_field}

-- the place from an offset on, in the document
abbrev span : (offset length : ℕ) → offset + length < 2 ^ 64 → SourceSpan
span offset length fits = record { file_id = record { 0 = 2 }; offset = offset; length = length; fits = fits }

-- name { selections }, alone in its set
abbrev field_of : List ℕ → (begin end name_end : ℕ) → SelectionTrees Place → SelectionTrees Place
field_of name begin end name_end selections =
    selection_then (FieldTree (place_in 2 begin end) (record { alias = None; name = named name (place_in 2 begin name_end); arguments = []; directives = [] }) selections) no_selections

-- ---- D `{ ... }`: `Unexpected` at 6

spread_alone : IsDue (DerivesIn 2) 500 (codes "{ ... }") (read.Unexpected 6)
unfolding reader
spread_alone = is_due 500 2 (codes "{ ... }") (read.Unexpected 6) refl

abbrev spread_fault : AnyFault
spread_fault = record { place = Some (span 6 0 (omega arith)); details = Syntax Unexpected }

spread_said : UnreadFault 500 2 (codes "{ ... }") spread_fault
spread_said = inl (record { read = read.Unexpected 6; due = spread_alone; tells = (refl, record { span = span 6 0 (omega arith); is = refl; of_file = refl; at = refl; long = refl }) })

spread_refused : IsAccepted terms (query_field ∷ []) (codes "{ ... }") → ⊥
spread_refused = unread_refused terms (query_field ∷ []) (codes "{ ... }") (read.Unexpected 6) (λ e. cc) spread_alone

-- ---- D `{ }`: `Unexpected` at 2

empty_set : IsDue (DerivesIn 2) 500 (codes "{ }") (read.Unexpected 2)
unfolding reader
empty_set = is_due 500 2 (codes "{ }") (read.Unexpected 2) refl

empty_set_refused : IsAccepted terms (query_field ∷ []) (codes "{ }") → ⊥
empty_set_refused = unread_refused terms (query_field ∷ []) (codes "{ }") (read.Unexpected 2) (λ e. cc) empty_set

-- ---- an empty D: `End` at 0

nothing : IsDue (DerivesIn 2) 500 [] (read.End 0)
unfolding reader
nothing = is_due 500 2 [] (read.End 0) refl

nothing_said : UnreadFault 500 2 [] (record { place = Some (span 0 0 (omega arith)); details = Syntax End })
nothing_said = inl (record { read = read.End 0; due = nothing; tells = (refl, record { span = span 0 0 (omega arith); is = refl; of_file = refl; at = refl; long = refl }) })

nothing_refused : IsAccepted terms (query_field ∷ []) [] → ⊥
nothing_refused = unread_refused terms (query_field ∷ []) [] (read.End 0) (λ e. cc) nothing

-- ---- D `{ a`: `End` at 3

open_set : IsDue (DerivesIn 2) 500 (codes "{ a") (read.End 3)
unfolding reader
open_set = is_due 500 2 (codes "{ a") (read.End 3) refl

open_set_refused : IsAccepted terms (query_field ∷ []) (codes "{ a") → ⊥
open_set_refused = unread_refused terms (query_field ∷ []) (codes "{ a") (read.End 3) (λ e. cc) open_set

-- ---- D `{ f(x: "\uD800") }`: `NoToken` at 7

surrogate : IsDue (DerivesIn 2) 500 (codes "{ f(x: \"\\uD800\") }") (read.NoToken 7)
unfolding reader
surrogate = is_due 500 2 (codes "{ f(x: \"\\uD800\") }") (read.NoToken 7) refl

surrogate_said : UnreadFault 500 2 (codes "{ f(x: \"\\uD800\") }") (record { place = Some (span 7 0 (omega arith)); details = Syntax NoToken })
surrogate_said = inl (record { read = read.NoToken 7; due = surrogate; tells = (refl, record { span = span 7 0 (omega arith); is = refl; of_file = refl; at = refl; long = refl }) })

surrogate_refused : IsAccepted terms (query_field ∷ []) (codes "{ f(x: \"\\uD800\") }") → ⊥
surrogate_refused = unread_refused terms (query_field ∷ []) (codes "{ f(x: \"\\uD800\") }") (read.NoToken 7) (λ e. cc) surrogate

-- ---- `{ a { b { c } } }` with nesting 2: `Nesting` at 8; with 3 it is read

abbrev three_deep : SourceText
three_deep = codes "{ a { b { c } } }"

third_bracket : IsDue (DerivesIn 2) 2 three_deep (read.Nesting 8)
unfolding reader
third_bracket = is_due 2 2 three_deep (read.Nesting 8) refl

third_bracket_said : UnreadFault 2 2 three_deep (record { place = Some (span 8 1 (omega arith)); details = Nesting })
third_bracket_said = inl (record { read = read.Nesting 8; due = third_bracket; tells = (refl, record { span = span 8 1 (omega arith); is = refl; of_file = refl; at = refl; long = refl }) })

third_bracket_refused : IsAccepted (record { nesting = 2; first_text = 1; first_extension = 1 }) (query_field ∷ []) three_deep → ⊥
third_bracket_refused = unread_refused (record { nesting = 2; first_text = 1; first_extension = 1 }) (query_field ∷ []) three_deep (read.Nesting 8) (λ e. cc) third_bracket

left_for_2 : PassesNumbers 2 → ⊥
left_for_2 passed = omega (arith, passed)

abbrev three_deep_tree : Tree
three_deep_tree = short_query (place_in 2 0 17) (field_of (codes "a") 2 15 3 (field_of (codes "b") 6 13 7 (field (codes "c") 10 11 no_selections))) ∷ []

three_deep_read : IsRead 3 2 three_deep
unfolding reader
three_deep_read = record { tree = three_deep_tree; reads = reads 3 2 three_deep three_deep_tree refl; within = is_within 3 2 three_deep three_deep_tree refl left_for_2 }

-- ---- numbers: the last one for a text is 2 ^ 64 - 2

last_number : PassesNumbers (2 ^ 64 - 2) → ⊥
last_number passed = omega (arith, passed)

no_number : PassesNumbers (2 ^ 64 - 1)
no_number = omega arith

-- the document after one schema text, whose number is the last one
spent_said : (text : SourceText) → UnreadFault 500 (2 ^ 64 - 1) text spent
spent_said text = inr (refl, no_number)

spent_refused : (schema document : SourceText) → IsAccepted (record { nesting = 500; first_text = 2 ^ 64 - 2; first_extension = 1 }) (schema ∷ []) document → ⊥
spent_refused schema document = number_refused (record { nesting = 500; first_text = 2 ^ 64 - 2; first_extension = 1 }) (schema ∷ []) document no_number
