-- Lists of nodes on lines of their own.
use Rattle.std.proofs.Common.{◌≡◌, ℕ, ◌+◌, true, List, [], ◌∷◌, ◌++◌, map, refl, sym, ap, subst, append_assoc}
use Rattle.round_trip.specs.in_literals.Joined.{joined}
use Rattle.round_trip.specs.in_literals.LineLayout.{Prefix, Leveled, break_text, members_text, texts_of}
use Rattle.graphql_names.specs.Placed.{Placed, unplaced_node}
use Rattle.read_operations.specs.in_grammar.Meaning.{Meaning}
use Rattle.read_operations.specs.in_grammar.Kinds.{is_open_paren, is_close_paren}
use Rattle.read_operations.specs.in_grammar.Rules as rule
use Rattle.read_operations.specs.in_grammar.Rules.{Rule, many, some, between}
use Rattle.round_trip.specs.Printed.{any, ends_word, Printed}
use Rattle.round_trip.specs.WellFormed.{is_white_prefix}
use Rattle.round_trip.proofs.Sequences.{seq, mapped, placed, ignored, more, no_more, as_text, saying}
use Rattle.round_trip.proofs.Punctuators.{open_paren, close_paren}
use Rattle.round_trip.proofs.Nodes.{EachRead, AreNodes, one_more, unplaced_it}
use Rattle.round_trip.proofs.Lines.{break_ignored, break_ends, members_is, members_end, some_of_many}

none_of : (P X Z : Type 0) (u : X → Z) (z : Placed (Unit {0}) Z) (zs : List (Placed (Unit {0}) Z)) → map {A = Placed P X} (unplaced_node u) [] ≡ z ∷ zs → ⊥
none_of P X Z u z zs e = cc

module _ {P Q X Y Z : Type 0} (m : Meaning P) (r : Rule X) (u : X → Z) (w : Y → Z) (text : Y → Leveled) (prefix : Prefix) (white : is_white_prefix prefix ≡ true) where
  -- each on its line
  pub members : (level : ℕ) (ns : List (Placed Q Y)) → EachRead m r u w (λ y. text y level) ns → Printed (many (rule.placed m r)) (AreNodes m r u w (λ y. text y level) ns) ends_word (members_text prefix level (texts_of text ns))
  unfolding joined
  members level [] all = saying (AreNodes {Q = Q} m r u w (λ y. text y level) []) (λ xs e. ap (λ l. map (unplaced_node u) l) e) (no_more (rule.placed m r) ends_word)
  members level (n ∷ ns) (this, others) =
      as_text _ (members_is prefix level (text n.it) (texts_of text ns))
      (ignored _ (break_ignored prefix level white)
      (more {f = ends_word} (AreNodes m r u w (λ y. text y level) (n ∷ ns)) (λ x xs e f. one_more (unplaced_node u x) (unplaced_node w n) _ _ (ap (λ z. unplaced_it z) e) f)
      (λ following fine. members_end prefix level (texts_of text ns) following fine) (placed m this) (members level ns others)))

  pub some_members : (level : ℕ) (n : Placed Q Y) (ns : List (Placed Q Y)) → EachRead m r u w (λ y. text y level) (n ∷ ns) → Printed (some (rule.placed m r)) (AreNodes m r u w (λ y. text y level) (n ∷ ns)) ends_word (members_text prefix level (texts_of text (n ∷ ns)))
  some_members level n ns all = some_of_many (none_of P X Z u (unplaced_node w n) (map (unplaced_node w) ns)) (members level (n ∷ ns) all)

  -- ( members ), each on its line
  pub parenthesized_on_lines : (level : ℕ) (n : Placed Q Y) (ns : List (Placed Q Y)) → EachRead m r u w (λ y. text y (level + 1)) (n ∷ ns)
      → Printed (between is_open_paren (some (rule.placed m r)) is_close_paren) (AreNodes m r u w (λ y. text y (level + 1)) (n ∷ ns)) any (40 ∷ (members_text prefix (level + 1) (texts_of text (n ∷ ns)) ++ (break_text prefix level ++ 41 ∷ [])))
  parenthesized_on_lines level n ns all =
      mapped (λ x. x.1.0) (AreNodes m r u w (λ y. text y (level + 1)) (n ∷ ns)) (λ x said. said.1.0)
      (seq {f = any} (λ following fine. refl) open_paren
      (seq {f = ends_word} (λ following fine. subst (λ (l : List ℕ). ends_word l ≡ true) (sym (append_assoc (break_text prefix level) (41 ∷ []) following)) (break_ends prefix level (41 ∷ following)))
      (some_members (level + 1) n ns all) (ignored (break_text prefix level) (break_ignored prefix level white) close_paren)))
