-- What the reading of a text says of it, for each symbol.
use Rattle.std.proofs.Common.{◌≡◌, ◌≢◌, ◌⊎◌, ℕ, suc, ◌≤◌, Bool, true, List, [], ◌∷◌, length, Option, Some, None, Ok, Err, refl, sym, ap, subst, ◌∙◌, inl, inr, arith}
use Rattle.std.proofs.lemmas.List.{append-nil}
use Rattle.read_tokens.specs.declared.terminal.Terminal.{Terminal}
use Rattle.read_tokens.specs.Input.{Token, Input, Ending, Ended, NoTokenAt, next}
use Rattle.read_tokens.specs.Cursor.{EndsAs, is_stuck_at, input_from}
use Rattle.read_tokens.proofs.Lexed.{ends_as}
use Rattle.read_grammar.specs.declared.parse_error.ParseError.{ParseError}
use Rattle.read_grammar.specs.declared.parse_error.ParseError.TheVariants.{Memory, Unexpected, Nesting}
use Rattle.read_grammar.specs.Rules.{Rule}
use Rattle.read_grammar.specs.Grammar.{DerivesAs}
use Rattle.read_grammar.specs.Depth.{depth}
use Rattle.read_grammar.specs.Faults as faults
use Rattle.read_grammar.specs.Faults.{Symbol, BeginsSome, Says}
use Rattle.read_grammar.specs.Stops.{fault_of, unexpected_at}
use Rattle.read_grammar.specs.Reading.{Parser, ended, ended_at, whole}
use Rattle.read_grammar.proofs.Tests.{Test}
use Rattle.read_grammar.proofs.Keeps as kept
use Rattle.read_grammar.proofs.Keeps.{Keeps, ending_of}
use Rattle.read_grammar.proofs.Parses.{Parses}
use Rattle.read_grammar.proofs.Theorems as t
use Rattle.read_grammar.proofs.Viable.{Viable}
use Rattle.graphql_read.specs.Calls.{all_of}
use Rattle.graphql_read.specs.Reads.{ReadsWithin, IsDue}
use Rattle.graphql_read.proofs.Endings.{AtEnd, ends_whole, not_stuck, lexed_whole, all_ok, all_err}

-- nothing is read yet
pub begins : (text : List ℕ) (i : Input) → i ≡ input_from 0 0 text → i.last ≡ 0
begins text i shows = ap (λ (k : Input). k.last) shows

-- the tokens of a copy of a text are those of the text
pub lexed_as : (text copy : List ℕ) (i : Input) → copy ≡ text → EndsAs copy i.ahead i.ending → EndsAs text i.ahead i.ending
lexed_as text copy i same lexed = subst (λ (bytes : List ℕ). EndsAs bytes i.ahead i.ending) same lexed

ended_keeps : {A : Type 0} (x : A) → Keeps (ended x)
ended_keeps {A} x = record { ending = λ i. go i (next i) }
  where
    go : (i : Input) (m : Option Terminal) → ending_of (ended_at x i m) ≡ i.ending
    go i None = refl
    go i (Some kind) = refl

module _ {A : Type 0} {r : ℕ → Rule A} {p : ℕ → Parser A} {b e : Test} (parses : (n h : ℕ) → n ≤ h → Parses 0 n (r n) (p n) (p h) b e) (ends : e None ≡ true) (n : ℕ) where
  whole_keeps : Keeps (whole p n)
  unfolding whole
  whole_keeps = kept.bound (parses n n (omega arith)).keeps ended_keeps

  module _ (text : List ℕ) (i : Input) (begins : i.last ≡ 0) (lexed : EndsAs text i.ahead i.ending) where
    same_ending : (x : A) (z : Input) → whole p n i ≡ Ok (x, z) → z.ending ≡ i.ending
    same_ending x z at = sym (ap ending_of at) ∙ whole_keeps.ending i

    -- what is read is a tree of the text
    pub found : (tree : A) (z : Input) → all_of (p n) i ≡ Ok (tree, z) → ReadsWithin (DerivesAs r) n text tree
    found tree z at =
        let h = all_ok p n i tree z at in
        record {
          reads = record {
            tokens = i.ahead;
            lexed = lexed_whole text i.ahead z i.ending h.1.none (same_ending tree z h.0) h.1.is lexed;
            derived = t.found parses ends n i begins tree z h.0;
          };
          within = t.within parses ends n i begins tree z h.0;
        }

    -- the tokens of a text that has a tree are those that are read, up to its end
    abbrev ahead_derives : A → Type 0
    ahead_derives tree = (at : ℕ) × (i.ending ≡ Ended at) × DerivesAs r i.ahead tree × (depth i.ahead ≤ n)

    of_ahead : (tree : A) → ReadsWithin (DerivesAs r) n text tree → ahead_derives tree
    of_ahead tree d =
        let k = ends_whole text i.ahead i.ending d.reads.tokens lexed d.reads.lexed in
        (k.0, k.1, subst (λ (ts : List Token). DerivesAs r ts tree) k.2 d.reads.derived, subst (λ (ts : List Token). depth ts ≤ n) k.2 d.within)

    -- what is read is the tree of the text
    pub only : (tree other : A) (z : Input) → all_of (p n) i ≡ Ok (tree, z) → ReadsWithin (DerivesAs r) n text other → other ≡ tree
    only tree other z at d = sym (t.same_tree parses ends n i begins tree other z (all_ok p n i tree z at).0 (of_ahead other d).2)

    stops : (stop : ParseError) (z : Input) (tree : A) → all_of (p n) i ≡ Err (stop, z) → ReadsWithin (DerivesAs r) n text tree → fault_of stop z ≡ faults.Memory
    stops stop z tree at d = go (all_err p n i stop z at)
      where
        go : (whole p n i ≡ Err (stop, z)) ⊎ ((stop ≡ Unexpected) × ((x : A) × (whole p n i ≡ Ok (x, z)) × AtEnd z true)) → fault_of stop z ≡ faults.Memory
        go (inl h) = let k = of_ahead tree d in t.only_memory parses ends n i begins stop z tree (λ other. h) k.2 k.3
        go (inr h) = let k = of_ahead tree d in absurd (not_stuck z.ahead z.ending k.0 (same_ending h.1.0 z h.1.1 ∙ k.1) h.1.2.is)

    -- if the text has a tree, a parser stops only if out of memory
    pub memory : (stop : ParseError) (z : Input) (tree : A) → (stop ≢ Memory → all_of (p n) i ≡ Err (stop, z)) → ReadsWithin (DerivesAs r) n text tree → fault_of stop z ≡ faults.Memory
    memory Memory z tree at d = refl
    memory Unexpected z tree at d = stops Unexpected z tree (at (λ e. cc)) d
    memory Nesting z tree at d = stops Nesting z tree (at (λ e. cc)) d

    -- ---- where a text of the symbol begins with the tokens before each stop

    module _ {k : Bool} {f : Test} (viable : (m : ℕ) → Viable k (r (suc m)) (p m) f) (free : f None ≡ true) where
      -- all tokens are a text, and so begin one
      all_begin : (tree : A) (z : Input) → whole p n i ≡ Ok (tree, z) → BeginsSome (DerivesAs r) i.ahead
      all_begin tree z at = ([], tree, subst (λ (ts : List Token). DerivesAs r ts tree) (sym (append-nil i.ahead)) (t.found parses ends n i begins tree z at))

      stuck_says : (ts : List Token) (ending : Ending) → ts ≡ [] → ending ≡ i.ending → is_stuck_at ts ending ≡ true → BeginsSome (DerivesAs r) i.ahead → Says (DerivesAs r) i.ahead i.ending n (unexpected_at ts ending)
      stuck_says [] (NoTokenAt at) none same is some = (sym same, some)
      stuck_says [] (Ended at) none same is some = absurd cc
      stuck_says (token ∷ ts) ending none same is some = absurd cc

      says : (stop : ParseError) (z : Input) → all_of (p n) i ≡ Err (stop, z) → Says (DerivesAs r) i.ahead i.ending n (fault_of stop z)
      says stop z at = go (all_err p n i stop z at)
        where
          go : (whole p n i ≡ Err (stop, z)) ⊎ ((stop ≡ Unexpected) × ((x : A) × (whole p n i ≡ Ok (x, z)) × AtEnd z true)) → Says (DerivesAs r) i.ahead i.ending n (fault_of stop z)
          go (inl h) = t.says parses ends n i begins viable free stop z (λ other. h)
          go (inr h) =
              subst (λ (s : ParseError). Says (DerivesAs r) i.ahead i.ending n (fault_of s z)) (sym h.0)
              (stuck_says z.ahead z.ending h.1.2.none (same_ending h.1.0 z h.1.1) h.1.2.is (all_begin h.1.0 z h.1.1))

      -- at each stop the fault is due
      pub due : (stop : ParseError) (z : Input) → (stop ≢ Memory → all_of (p n) i ≡ Err (stop, z)) → IsDue (DerivesAs r) n text (fault_of stop z)
      due Memory z at = record { tokens = i.ahead; ending = i.ending; lexed = lexed; says = tt }
      due Unexpected z at = record { tokens = i.ahead; ending = i.ending; lexed = lexed; says = says Unexpected z (at (λ e. cc)) }
      due Nesting z at = record { tokens = i.ahead; ending = i.ending; lexed = lexed; says = says Nesting z (at (λ e. cc)) }

-- memory may be wanting at any text
pub memory_due : {A : Type 0} (symbol : Symbol A) (n : ℕ) (text : List ℕ) → IsDue symbol n text faults.Memory
memory_due symbol n text = let i = input_from 0 0 text in record { tokens = i.ahead; ending = i.ending; lexed = ends_as text; says = tt }
