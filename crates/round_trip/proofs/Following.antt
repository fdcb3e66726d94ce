-- No `{` follows a definition, so that its last part may be left out.
use Rattle.std.proofs.Common.{◌≡◌, ◌⊎◌, ℕ, ◌+◌, ◌==◌, Bool, true, false, cond, ◌||◌, List, [], ◌∷◌, map, take, drop, Option, Some, None, unwrap_or, refl, sym, ap, subst, ◌∙◌, inl, inr, eqb-true}
use Rattle.std.specs.List.{prefix_len}
use Rattle.std.proofs.lemmas.Bool.{and_parts, or_cases}
use Rattle.graphql_names.specs.NameSyntax.{is_name_start, is_name_continue}
use Rattle.round_trip.specs.in_literals.LineLayout.{Prefix, Leveled, set_text, texts_of}
use Rattle.graphql_names.specs.Placed.{Placed, unplaced_node}
use Rattle.read_operations.specs.in_tokens.declared.terminal.Terminal.{Terminal}
use Rattle.read_operations.specs.in_tokens.declared.token.TokenKind.{TokenKind}
use Rattle.read_operations.specs.in_tokens.declared.token.TokenKind.TheVariants as t
use Rattle.read_operations.specs.in_tokens.Bytes.{begins_with}
use Rattle.read_operations.specs.in_tokens.Strings.{quoted_len}
use Rattle.read_operations.specs.in_tokens.Blocks.{quotes, block_len}
use Rattle.read_operations.specs.in_tokens.Input.{Token, next_of}
use Rattle.read_operations.specs.in_tokens.Tokens.{is_ignored_byte, of_kind, ignored_at, string_at, token_at}
use Rattle.read_operations.specs.in_tokens.Terminals.{words, terminal_of}
use Rattle.read_operations.specs.in_tokens.Lex.{Piece, piece_of, piece_at, ArePieces, with_token, tokens_among}
use Rattle.read_operations.specs.in_grammar.Meaning.{Meaning}
use Rattle.read_operations.specs.in_grammar.Kinds.{is_open_brace, is_close_brace}
use Rattle.read_operations.specs.in_grammar.Rules as rule
use Rattle.read_operations.specs.in_grammar.Rules.{Rule, lacks, optional_unless, some, between}
use Rattle.round_trip.specs.Printed.{Follow, any, ends_word, begins_definition, ends_definition, LexesAt, Printed}
use Rattle.round_trip.specs.WellFormed.{is_white_prefix}
use Rattle.round_trip.proofs.Sequences.{from_here, ignored_piece, saying, before_any}
use Rattle.round_trip.proofs.Tokens.{nothing_ignored, spelled_passes}
use Rattle.round_trip.proofs.Nodes.{EachRead, AreNodes, AreAny}
use Rattle.round_trip.proofs.Members.{some_members}
use Rattle.round_trip.proofs.Lines.{in_braces}

-- no token of this kind is a `{`
abbrev Lacks : TokenKind → Type 0
Lacks kind = (text : List ℕ) → lacks is_open_brace (Some (terminal_of kind text)) ≡ true

name_lacks : Lacks t.Name
unfolding words
name_lacks text = spelled_passes (λ k. lacks is_open_brace (Some k)) words text refl refl

nothing_at_end : (p : Piece) → piece_at [] ≡ Some p → ⊥
unfolding piece_at ignored_at token_at
nothing_at_end p e = cc

name_piece : (b : ℕ) (bytes : List ℕ) → is_name_start b ≡ true → piece_at (b ∷ bytes) ≡ Some (record { kind = Some t.Name; length = prefix_len is_name_continue (b ∷ bytes) })
unfolding piece_at token_at
name_piece b bytes h = rw (nothing_ignored b bytes h) (rw h refl)

of_kind_piece : (kind : TokenKind) (o : Option ℕ) (p : Piece) → piece_of None (of_kind kind o) ≡ Some p → p.kind ≡ Some kind
of_kind_piece kind None p e = absurd cc
of_kind_piece kind (Some n) p e = same (record { kind = Some kind; length = n }) p e
  where
    same : (q p : Piece) → Some q ≡ Some p → p.kind ≡ q.kind
    same q p e = let is : q ≡ p = cc in ap (λ (x : Piece). x.kind) (sym is)

string_piece : (bytes : List ℕ) (p : Piece) → piece_at (34 ∷ bytes) ≡ Some p → (p.kind ≡ Some t.BlockString) ⊎ (p.kind ≡ Some t.String)
unfolding piece_at ignored_at token_at string_at
string_piece bytes p e = go (begins_with quotes (34 ∷ bytes)) e
  where
    go : (b : Bool) → piece_of None (cond b (of_kind t.BlockString (block_len (34 ∷ bytes))) (of_kind t.String (quoted_len (34 ∷ bytes)))) ≡ Some p → (p.kind ≡ Some t.BlockString) ⊎ (p.kind ≡ Some t.String)
    go true e = inl (of_kind_piece t.BlockString (block_len (34 ∷ bytes)) p e)
    go false e = inr (of_kind_piece t.String (quoted_len (34 ∷ bytes)) p e)

same_piece : (p q : Piece) → Some p ≡ Some q → p ≡ q
same_piece p q e = cc

-- the first token is of this kind
first_lacks : (kind : TokenKind) (p : Piece) (text : List ℕ) (at : ℕ) (tokens others : List Token) → Lacks kind → p.kind ≡ Some kind → others ≡ with_token p.kind text at tokens → lacks is_open_brace (next_of others) ≡ true
first_lacks kind p text at tokens others none is found =
    let shown : others ≡ with_token (Some kind) text at tokens = found ∙ ap (λ (k : Option TokenKind). with_token k text at tokens) is in
    rw shown (none text)

no_brace : (following : List ℕ) (at : ℕ) (others : List Token) (pieces : List Piece) → begins_definition following ≡ true → ArePieces pieces following [] → others ≡ tokens_among pieces following at → lacks is_open_brace (next_of others) ≡ true
no_brace [] at others [] h are found = rw found refl
no_brace [] at others (p ∷ ps) h are found = absurd (nothing_at_end p are.0)
no_brace (b ∷ following) at others [] h are found = absurd cc
no_brace (b ∷ following) at others (p ∷ ps) h are found = go (is_ignored_byte b) refl h (no_brace following (at + 1) others ps)
  where
    go : (i : Bool) → is_ignored_byte b ≡ i → cond i (begins_definition following) (is_name_start b || b == 34) ≡ true
        → (begins_definition following ≡ true → ArePieces ps following [] → others ≡ tokens_among ps following (at + 1) → lacks is_open_brace (next_of others) ≡ true) → lacks is_open_brace (next_of others) ≡ true
    go true e h more =
        let same : p ≡ record { kind = None; length = 1 } = same_piece p (record { kind = None; length = 1 }) (sym are.0 ∙ ignored_piece b following e) in
        more h (subst (λ (q : Piece). ArePieces ps (drop q.length (b ∷ following)) []) same are.1)
        (subst (λ (q : Piece). others ≡ with_token q.kind (take q.length (b ∷ following)) at (tokens_among ps (drop q.length (b ∷ following)) (at + q.length))) same found)
    go false e h more = elim (or_cases (is_name_start b) (b == 34) h) [
      | inl start ↦
          let same : p ≡ record { kind = Some t.Name; length = prefix_len is_name_continue (b ∷ following) } = same_piece p _ (sym are.0 ∙ name_piece b following start) in
          first_lacks t.Name p _ at _ others name_lacks (ap (λ (q : Piece). q.kind) same) found
      | inr quote ↦ elim (string_piece following p (subst (λ (c : ℕ). piece_at (c ∷ following) ≡ Some p) (eqb-true b 34 quote) are.0)) [
        | inl is ↦ first_lacks t.BlockString p _ at _ others (λ text. refl) is found
        | inr is ↦ first_lacks t.String p _ at _ others (λ text. refl) is found
      ]
    ]

module _ {A : Type 0} (r : Rule A) where
  -- left out, if no `{` may follow it
  left_out_unless : Printed (optional_unless is_open_brace r) (λ o. o ≡ None) ends_definition []
  left_out_unless = record {
    stands = λ following at others fine lexed.
        let here : LexesAt at following others = from_here at following others lexed in
        record {
          tokens = others;
          lexed = here;
          reads = λ ending last. record { tree = None; end = last; read = (refl, no_brace following at others here.pieces (and_parts (ends_word following) (begins_definition following) fine).1 here.are here.found); said = refl };
        };
  }

given_unless : {A : Type 0} {r : Rule A} {says : A → Type 0} {f : Follow} {a : List ℕ} (is : Terminal → Bool) → Printed r says f a → Printed (optional_unless is r) (λ o. (x : A) × (o ≡ Some x) × says x) f a
given_unless is p = record {
  stands = λ following at others fine lexed.
      let b = p.stands following at others fine lexed in
      record {
        tokens = b.tokens;
        lexed = b.lexed;
        reads = λ ending last. let d = b.reads ending last in record { tree = Some d.tree; end = d.end; read = d.read; said = (d.tree, refl, d.said) };
      };
}

module _ {P Q X Y Z : Type 0} (m : Meaning P) (r : Rule X) (u : X → Z) (w : Y → Z) (text : Y → Leveled) (prefix : Prefix) (white : is_white_prefix prefix ≡ true) where
  -- `{ members }` after something, with at least one member
  pub braced_nodes : (level : ℕ) (n : Placed Q Y) (ns : List (Placed Q Y)) → EachRead m r u w (λ y. text y (level + 1)) (n ∷ ns)
      → Printed (between is_open_brace (some (rule.placed m r)) is_close_brace) (AreNodes m r u w (λ y. text y (level + 1)) (n ∷ ns)) any (set_text prefix level (texts_of text (n ∷ ns)))
  braced_nodes level n ns all = in_braces prefix level (text n.it) (texts_of text ns) white (some_members m r u w text prefix white (level + 1) n ns all)

module _ {P X Z : Type 0} (u : X → Z) where
  pub part_left_out : (s : Rule (List (Placed P X))) → Printed (optional_unless is_open_brace s) (AreAny u []) ends_definition []
  part_left_out s = saying (AreAny u []) (λ o e. ap (λ (l : Option (List (Placed P X))). map (unplaced_node u) (unwrap_or l [])) e) (left_out_unless s)

  pub part_there : {s : Rule (List (Placed P X))} {a : List ℕ} (zs : List (Placed (Unit {0}) Z)) → Printed s (λ xs. map (unplaced_node u) xs ≡ zs) any a → Printed (optional_unless is_open_brace s) (AreAny u zs) ends_definition a
  part_there zs p = before_any (saying (AreAny u zs) (λ o e. ap (λ (l : Option (List (Placed P X))). map (unplaced_node u) (unwrap_or l [])) e.1 ∙ e.2) (given_unless is_open_brace p))
