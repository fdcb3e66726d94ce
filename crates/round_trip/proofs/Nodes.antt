-- Lists of nodes, with ignored separators between them.
use Rattle.std.proofs.Common.{◌≡◌, ◌≤◌, ℕ, Bool, true, List, [], ◌∷◌, ◌++◌, map, codes, Option, unwrap_or, refl, ap, ◌∙◌, append_assoc, arith}
use Rattle.std.specs.List.{list_all}
use Rattle.std.proofs.lemmas.Bool.{and_parts}
use Rattle.round_trip.specs.in_literals.Joined.{joined, further_text}
use Rattle.round_trip.specs.in_literals.LineLayout.{parenthesized_text, texts_of}
use Rattle.graphql_names.specs.Placed.{Placed, unplaced_node}
use Rattle.read_operations.specs.in_tokens.Tokens.{is_ignored_byte}
use Rattle.read_operations.specs.in_grammar.Meaning.{Meaning}
use Rattle.read_operations.specs.in_grammar.Kinds.{is_open_paren, is_close_paren}
use Rattle.read_operations.specs.in_grammar.Rules as rule
use Rattle.read_operations.specs.in_grammar.Rules.{Rule, optional, many, some, between}
use Rattle.round_trip.specs.Printed.{Follow, any, ends_word, Printed}
use Rattle.round_trip.specs.WellFormed.{depths}
use Rattle.round_trip.proofs.Sequences.{seq, mapped, placed, ignored, more, one_or_more, no_more, given, left_out, as_text, saying}
use Rattle.round_trip.proofs.Punctuators.{open_paren, close_paren}
use Rattle.round_trip.proofs.Lists.{further_is, further_ends}

pub one_more : {Z : Type 0} (x y : Z) (xs ys : List Z) → x ≡ y → xs ≡ ys → x ∷ xs ≡ y ∷ ys
one_more x y xs ys e f = rw e (rw f refl)

abbrev pub unplaced_it : {Z : Type 0} → Z → Placed (Unit {0}) Z
unplaced_it z = record { it = z; place = tt }

-- what parentheses hold ends a word
pub parenthesized_ends : (texts : List (List ℕ)) → ends_word (parenthesized_text texts) ≡ true
unfolding joined
parenthesized_ends [] = refl
parenthesized_ends (text ∷ texts) = refl

-- The trees of a rule and those that are printed are the same, ignoring places, if these two functions say so.
module _ {P Q X Y Z : Type 0} (m : Meaning P) (r : Rule X) (u : X → Z) (w : Y → Z) (text : Y → List ℕ) where
  -- each is printed
  abbrev pub EachRead : List (Placed Q Y) → Type 0
  EachRead [] = Unit {0}
  EachRead (n ∷ ns) = Printed r (λ x. u x ≡ w n.it) ends_word (text n.it) × EachRead ns

  -- nodes, ignoring places
  abbrev pub AreNodes : List (Placed Q Y) → List (Placed P X) → Type 0
  AreNodes ns xs = map (unplaced_node u) xs ≡ map (unplaced_node w) ns

  pub each_read : (formed writable : Placed Q Y → Bool) (depth : Placed Q Y → ℕ) (bound : ℕ)
      → ((n : Placed Q Y) → formed n ≡ true → writable n ≡ true → depth n ≤ bound → Printed r (λ x. u x ≡ w n.it) ends_word (text n.it))
      → (ns : List (Placed Q Y)) → list_all formed ns ≡ true → list_all writable ns ≡ true → depths depth ns ≤ bound → EachRead ns
  each_read formed writable depth bound one [] h k le = tt
  each_read formed writable depth bound one (n ∷ ns) h k le =
      let (h1, h2) = and_parts (formed n) (list_all formed ns) h in
      let (k1, k2) = and_parts (writable n) (list_all writable ns) k in
      (one n h1 k1 (omega arith), each_read formed writable depth bound one ns h2 k2 (omega arith))

  module _ (b : ℕ) (separator : List ℕ) (blank : list_all is_ignored_byte (b ∷ separator) ≡ true) (ends : ends_word (b ∷ []) ≡ true) where
    -- each after a separator
    pub further_nodes : (ns : List (Placed Q Y)) → EachRead ns → Printed (many (rule.placed m r)) (AreNodes ns) ends_word (further_text (b ∷ separator) (texts_of text ns))
    unfolding joined
    further_nodes [] all = saying (AreNodes []) (λ xs e. ap (λ l. map (unplaced_node u) l) e) (no_more (rule.placed m r) ends_word)
    further_nodes (n ∷ ns) (this, others) =
        as_text _ (further_is (b ∷ separator) (text n.it) (texts_of text ns))
        (ignored (b ∷ separator) blank
        (more {f = ends_word} (AreNodes (n ∷ ns)) (λ x xs e f. one_more (unplaced_node u x) (unplaced_node w n) _ _ (ap (λ z. unplaced_it z) e) f)
        (λ following fine. further_ends b separator (texts_of text ns) following ends fine) (placed m this) (further_nodes ns others)))

    -- the first without a separator
    pub nodes : (n : Placed Q Y) (ns : List (Placed Q Y)) → EachRead (n ∷ ns) → Printed (some (rule.placed m r)) (AreNodes (n ∷ ns)) ends_word (text n.it ++ further_text (b ∷ separator) (texts_of text ns))
    nodes n ns (this, others) =
        one_or_more {f = ends_word} (AreNodes (n ∷ ns)) (λ x xs e f. one_more (unplaced_node u x) (unplaced_node w n) _ _ (ap (λ z. unplaced_it z) e) f)
        (λ following fine. further_ends b separator (texts_of text ns) following ends fine) (placed m this) (further_nodes ns others)

    -- each after a separator, at least one
    pub some_nodes : (n : Placed Q Y) (ns : List (Placed Q Y)) → EachRead (n ∷ ns) → Printed (some (rule.placed m r)) (AreNodes (n ∷ ns)) ends_word (further_text (b ∷ separator) (texts_of text (n ∷ ns)))
    some_nodes n ns all =
        as_text _ (further_is (b ∷ separator) (text n.it) (texts_of text ns)) (ignored (b ∷ separator) blank (nodes n ns all))

  -- (members)
  pub parenthesized : (n : Placed Q Y) (ns : List (Placed Q Y)) → EachRead (n ∷ ns) → Printed (between is_open_paren (some (rule.placed m r)) is_close_paren) (AreNodes (n ∷ ns)) any (parenthesized_text (texts_of text (n ∷ ns)))
  unfolding joined
  parenthesized n ns all =
      as_text _ (ap (λ (l : List ℕ). 40 ∷ l) (append_assoc (text n.it) (further_text (codes ", ") (texts_of text ns)) (41 ∷ [])))
      (mapped (λ x. x.1.0) (AreNodes (n ∷ ns)) (λ x said. said.1.0)
      (seq {f = any} (λ following fine. refl) open_paren (seq {f = ends_word} (λ following fine. refl) (nodes 44 (32 ∷ []) refl refl n ns all) close_paren)))

module _ {P X Z : Type 0} (u : X → Z) where
  -- nodes, ignoring places; if there are none, they are left out
  abbrev pub AreAny : List (Placed (Unit {0}) Z) → Option (List (Placed P X)) → Type 0
  AreAny zs o = map (unplaced_node u) (unwrap_or o []) ≡ zs

  pub none_there : (s : Rule (List (Placed P X))) → Printed (optional s) (AreAny []) ends_word []
  none_there s = saying (AreAny []) (λ o e. ap (λ (l : Option (List (Placed P X))). map (unplaced_node u) (unwrap_or l [])) e) (left_out s ends_word)

  pub some_there : {s : Rule (List (Placed P X))} {f : Follow} {a : List ℕ} (zs : List (Placed (Unit {0}) Z)) → Printed s (λ xs. map (unplaced_node u) xs ≡ zs) f a → Printed (optional s) (AreAny zs) f a
  some_there zs p = saying (AreAny zs) (λ o e. ap (λ (l : Option (List (Placed P X))). map (unplaced_node u) (unwrap_or l [])) e.1 ∙ e.2) (given p)
