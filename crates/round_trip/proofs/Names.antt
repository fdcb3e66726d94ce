-- Names with a punctuator between each two are read as they are printed: interfaces, and members of a union.
use Rattle.std.proofs.Common.{◌≡◌, ℕ, Bool, true, List, [], ◌∷◌, ◌++◌, map, codes, Option, unwrap_or, refl, sym, ap, ◌∙◌, append-nil}
use Rattle.std.specs.List.{list_all}
use Rattle.std.proofs.lemmas.Bool.{and_parts}
use Rattle.graphql_names.specs.NameSyntax as names
use Rattle.round_trip.specs.in_literals.Joined.{joined, further_text}
use Rattle.read_operations.specs.in_type_members.TypeSystemLayout.{name_text, names_text}
use Rattle.graphql_names.specs.Placed.{Text, unplaced_text}
use Rattle.read_operations.specs.in_tokens.declared.terminal.Terminal.{Terminal}
use Rattle.read_operations.specs.in_tokens.Terminals.{words}
use Rattle.read_operations.specs.in_grammar.Meaning.{Meaning}
use Rattle.read_operations.specs.in_grammar.Kinds.{is_implements, is_ampersand, is_pipe}
use Rattle.read_operations.specs.in_grammar.Rules.{mark, ◌·◌, ◌<$>◌, optional, many, separated}
use Rattle.read_operations.specs.in_grammar.ValueGrammar.{name}
use Rattle.read_operations.specs.in_grammar.TypeSystemGrammar.{implements_interfaces, union_member_types}
use Rattle.round_trip.specs.Printed.{any, ends_word, Printed}
use Rattle.round_trip.proofs.Sequences.{seq, seq_word, mapped, ignored, given, left_out, more, no_more, as_text, saying}
use Rattle.round_trip.proofs.Tokens.{any_name, keyword}
use Rattle.round_trip.proofs.Punctuators.{ampersand, pipe, equals}
use Rattle.round_trip.proofs.Lists.{further_is, further_ends}
use Rattle.round_trip.proofs.Literals.{plain_text}

-- names, ignoring places
abbrev pub AreNames : {P Q : Type 0} → List (Text Q) → List (Text P) → Type 0
AreNames ns xs = map unplaced_text xs ≡ map unplaced_text ns

abbrev pub AreAnyNames : {P Q : Type 0} → List (Text Q) → Option (List (Text P)) → Type 0
AreAnyNames ns o = map unplaced_text (unwrap_or o []) ≡ map unplaced_text ns

abbrev pub all_names : {Q : Type 0} → List (Text Q) → Bool
all_names ns = list_all (λ n. names.is_name n.it) ns

next_name : (x n : List ℕ) (xs ns : List (Text (Unit {0}))) → x ≡ n → xs ≡ ns → plain_text x ∷ xs ≡ plain_text n ∷ ns
next_name x n xs ns e f = rw e (rw f refl)

module _ {P Q : Type 0} (m : Meaning P) (is : Terminal → Bool) (b : ℕ) (sign : Printed (mark is) (λ x. x ≡ tt) any (b ∷ [])) where
  further_names : (ns : List (Text Q)) → all_names ns ≡ true → Printed (many ((λ x. x.1) <$> mark is · name m)) (AreNames ns) ends_word (further_text (32 ∷ b ∷ 32 ∷ []) (map name_text ns))
  unfolding joined
  further_names [] h = saying (AreNames {Q = Q} []) (λ xs e. ap (λ l. map unplaced_text l) e) (no_more ((λ x. x.1) <$> mark is · name m) ends_word)
  further_names (n ∷ ns) h =
      let (h1, h2) = and_parts (names.is_name n.it) (all_names ns) h in
      as_text _ (further_is (32 ∷ b ∷ 32 ∷ []) n.it (map name_text ns))
      (ignored (32 ∷ []) refl
      (more {f = ends_word} (AreNames (n ∷ ns)) (λ x xs e f. next_name x.it n.it (map unplaced_text xs) (map unplaced_text ns) e f)
      (λ following fine. further_ends 32 (b ∷ 32 ∷ []) (map name_text ns) following refl fine)
      (mapped (λ x. x.1) (λ x. x.it ≡ n.it) (λ x said. said.1) (seq {f = any} (λ following fine. refl) sign (ignored (32 ∷ []) refl (any_name m n.it h1))))
      (further_names ns h2)))

  names_end : (ns : List (Text Q)) → ends_word (further_text (32 ∷ b ∷ 32 ∷ []) (map name_text ns)) ≡ true
  unfolding joined
  names_end [] = refl
  names_end (n ∷ ns) = refl

  separated_names : (n : Text Q) (ns : List (Text Q)) → all_names (n ∷ ns) ≡ true → Printed (separated is (name m)) (AreNames (n ∷ ns)) ends_word (n.it ++ (further_text (32 ∷ b ∷ 32 ∷ []) (map name_text ns) ++ []))
  separated_names n ns h =
      let (h1, h2) = and_parts (names.is_name n.it) (all_names ns) h in
      as_text _ (ap (λ (l : List ℕ). n.it ++ l) (sym (append-nil (further_text (32 ∷ b ∷ 32 ∷ []) (map name_text ns)))))
      (mapped (λ x. x.1.0 ∷ x.1.1) (AreNames (n ∷ ns)) (λ x said. next_name x.1.0.it n.it (map unplaced_text x.1.1) (map unplaced_text ns) said.1.0 said.1.1)
      (seq {f = any} (λ following fine. refl) (left_out (mark is) any) (seq_word (names_end ns) (any_name m n.it h1) (further_names ns h2))))

module _ {P Q : Type 0} (m : Meaning P) where
  -- implements A & B
  pub implements_read : (ns : List (Text Q)) → all_names ns ≡ true → Printed (optional (implements_interfaces m)) (AreAnyNames ns) ends_word (names_text (codes " implements ") (codes " & ") ns)
  unfolding joined words implements_interfaces
  implements_read [] h = saying (AreAnyNames {Q = Q} []) (λ o e. ap (λ (l : Option (List (Text P))). map unplaced_text (unwrap_or l [])) e) (left_out (implements_interfaces m) ends_word)
  implements_read (n ∷ ns) h =
      saying (AreAnyNames (n ∷ ns)) (λ o e. ap (λ (l : Option (List (Text P))). map unplaced_text (unwrap_or l [])) e.1 ∙ e.2)
      (given
      (ignored (32 ∷ []) refl
      (mapped (λ x. x.1) (AreNames (n ∷ ns)) (λ x said. said.1)
      (seq_word refl (keyword is_implements (codes "implements") refl refl) (ignored (32 ∷ []) refl (separated_names m is_ampersand 38 ampersand n ns h))))))

  -- = A | B
  pub union_members_read : (ns : List (Text Q)) → all_names ns ≡ true → Printed (optional (union_member_types m)) (AreAnyNames ns) ends_word (names_text (codes " = ") (codes " | ") ns)
  unfolding joined union_member_types
  union_members_read [] h = saying (AreAnyNames {Q = Q} []) (λ o e. ap (λ (l : Option (List (Text P))). map unplaced_text (unwrap_or l [])) e) (left_out (union_member_types m) ends_word)
  union_members_read (n ∷ ns) h =
      saying (AreAnyNames (n ∷ ns)) (λ o e. ap (λ (l : Option (List (Text P))). map unplaced_text (unwrap_or l [])) e.1 ∙ e.2)
      (given
      (ignored (32 ∷ []) refl
      (mapped (λ x. x.1) (AreNames (n ∷ ns)) (λ x said. said.1)
      (seq {f = any} (λ following fine. refl) equals (ignored (32 ∷ []) refl (separated_names m is_pipe 124 pipe n ns h))))))

pub names_text_ends : {Q : Type 0} (front : List ℕ) (sign : List ℕ) (ns : List (Text Q)) → ends_word (names_text (32 ∷ front) sign ns) ≡ true
unfolding joined
names_text_ends front sign [] = refl
names_text_ends front sign (n ∷ ns) = refl
