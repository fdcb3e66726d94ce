-- A name that is taken is the rule's.
use Rattle.std.proofs.Common.{◌≡◌, ℕ, ◌+◌, ◌-◌, true, List, [], ◌∷◌, length, Option, Some, None, Ok, refl, sym, ap, ◌∙◌, arith}
use Rattle.graphql_names.specs.NameSyntax.{IsName}
use Rattle.graphql_names.specs.declared.span.FileId.{FileId}
use Rattle.graphql_names.specs.Placed.{Place, Text}
use Rattle.read_tokens.specs.Cursor.{skipped, skipped_in, text_of}
use Rattle.read_tokens.specs.Forms.{is_word, FormOf}
use Rattle.read_tokens.specs.Input.{Token, Input, next, next_of, end_of}
use Rattle.read_tokens.specs.declared.terminal.Terminal.{Terminal}
use Rattle.read_grammar.specs.Kinds.{next_is, is_name}
use Rattle.read_grammar.specs.Meaning.{begin_of, name_of}
use Rattle.read_grammar.specs.Places.{place_in}
use Rattle.read_grammar.specs.Reading.{Outcome}
use Rattle.read_grammar.specs.ValueReading as reading
use Rattle.read_grammar.proofs.Moves.{taken_yes}
use Rattle.read_grammar.proofs.Tests.{from_subset}
use Rattle.read_operations.specs.Meanings.{in_file}

word_is : (kind : Terminal) → is_name kind ≡ true → is_word kind ≡ true
word_is kind h = from_subset (next_is is_name) (next_is is_word) refl (Some kind) h

pub first_is_name : (i : Input) (text : List ℕ) → next_is is_name (next i) ≡ true → FormOf (next i) text → IsName text
first_is_name i text h f = go (next i) h f
  where
    go : (n : Option Terminal) → next_is is_name n ≡ true → FormOf n text → IsName text
    go None h f = absurd cc
    go (Some kind) h f = f.0.name (word_is kind h)

pub skipped_length : (i : Input) → next_is is_name (next i) ≡ true → (skipped i).last - begin_of i.ahead ≡ length (text_of i.ahead)
skipped_length i h = go i.ahead h
  where
    go : (ts : List Token) → next_is is_name (next_of ts) ≡ true → (skipped_in i ts).last - begin_of ts ≡ length (text_of ts)
    go [] h = absurd cc
    go (t ∷ ts) h = omega arith

abbrev named : List ℕ → Place → Text Place
named text place = record { it = text; place = place }

pub name_made : (file : FileId) (i : Input) (text : List ℕ) (place : Place) → text ≡ text_of i.ahead → place ≡ place_in file.0 (begin_of i.ahead) (skipped i).last → (t : Token) (ts : List Token) → i.ahead ≡ t ∷ ts → named text place ≡ name_of (in_file file) t
name_made file i text place is at t ts e = both text place t.text (place_in file.0 t.offset (end_of t)) (is ∙ ap text_of e) (at ∙ ap (λ (us : List Token). place_in file.0 (begin_of us) (skipped_in i us).last) e)
  where
    both : (a : List ℕ) (p : Place) (b : List ℕ) (q : Place) → a ≡ b → p ≡ q → named a p ≡ named b q
    both a p b q e f = ap (λ (x : List ℕ). named x p) e ∙ ap (λ (x : Place). named b x) f

abbrev done : Text Place → Input → Outcome (Text Place)
done x z = Ok (x, z)

pub name_taken : (file : FileId) (i new : Input) (text : List ℕ) (place : Place) → next_is is_name (next i) ≡ true → new ≡ skipped i → text ≡ text_of i.ahead → place ≡ place_in file.0 (begin_of i.ahead) new.last → reading.name (in_file file) i ≡ Ok (named text place, new)
unfolding reading.name
name_taken file i new text place h following is at =
    taken_yes (name_of (in_file file)) is_name i (named text place) h (name_made file i text place is (at ∙ ap (λ (z : Input). place_in file.0 (begin_of i.ahead) z.last) following))
    ∙ ap (λ (z : Input). done (named text place) z) (sym following)
