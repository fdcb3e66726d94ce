-- A printed text with nothing after it is a text of its symbol, and of one tree alone.
use Rattle.std.proofs.Common.{◌≡◌, ℕ, true, List, [], refl, subst, append-nil}
use Rattle.read_operations.specs.in_tokens.Input.{Token, Ended}
use Rattle.read_operations.specs.in_tokens.Lex.{Lex}
use Rattle.read_operations.proofs.in_tokens.Lexed.{lex_unique}
use Rattle.read_operations.specs.in_grammar.Faults.{Symbol}
use Rattle.read_operations.specs.in_grammar.Rules.{Rule}
use Rattle.read_operations.specs.in_grammar.Grammar.{DerivesAs}
use Rattle.round_trip.specs.Printed.{Follow, before, Printed}
use Rattle.round_trip.specs.ReadsAlone.{ReadsAlone}

-- the symbols with one tree at most
abbrev pub OneTree : {A : Type 0} → Symbol A → Type 0
OneTree {A} symbol = (tokens : List Token) (tree other : A) → symbol tokens tree → symbol tokens other → tree ≡ other

pub reads_alone : {A B : Type 0} (symbol : ℕ → Rule A) (unplaced : A → B) (text : List ℕ) (printed : B) (n : ℕ) (f : Follow) → f [] ≡ true → OneTree (DerivesAs symbol)
    → Printed (symbol n) (λ x. unplaced x ≡ printed) f text → ReadsAlone (DerivesAs symbol) unplaced text printed
reads_alone {A} symbol unplaced text printed n f ends one p =
    let b = p.stands [] 0 [] ends (record { pieces = []; are = refl; found = refl }) in
    let d = b.reads (Ended 0) 0 in
    let lexed : Lex text b.tokens = subst (λ (l : List ℕ). Lex l b.tokens) (append-nil text) (record { pieces = b.lexed.pieces; are = b.lexed.are; found = b.lexed.found }) in
    let derived : DerivesAs symbol b.tokens d.tree = (n, before (Ended 0) d.end [], refl, d.read) in
    record {
      tokens = b.tokens;
      lexed = lexed;
      tree = d.tree;
      derived = derived;
      same = d.said;
      alone = λ others other lex derives. one b.tokens other d.tree (subst (λ (l : List Token). DerivesAs symbol l other) (lex_unique text others b.tokens lex lexed) derives) derived;
    }
