-- Default values, arguments and directives are read as they are printed.
use Rattle.std.proofs.Common.{◌≡◌, ◌≤◌, ℕ, zero, suc, true, List, [], ◌∷◌, ◌++◌, Option, Some, None, option_map, refl, ap, arith}
use Rattle.std.proofs.lemmas.Bool.{and_parts}
use Rattle.round_trip.specs.in_literals.Joined.{joined}
use Rattle.round_trip.specs.in_literals.LineLayout.{texts_of}
use Rattle.read_operations.specs.in_literals.ValueLayout.{value_text, default_text}
use Rattle.read_operations.specs.in_directives.DirectiveLayout.{argument_text, arguments_text, directive_text, directives_text}
use Rattle.graphql_names.specs.Placed.{Placed, unplaced_node}
use Rattle.read_operations.specs.in_values.Writable.{default_writable, argument_writable, arguments_writable, directive_writable, directives_writable}
use Rattle.read_operations.specs.in_literals.ValueTree.{ValueTree, unplaced_value}
use Rattle.read_operations.specs.in_directives.DirectiveTree.{ArgumentTree, Arguments, DirectiveTree, Directives, unplaced_argument, unplaced_arguments, unplaced_directive, unplaced_directives}
use Rattle.read_operations.specs.in_grammar.Meaning.{Meaning}
use Rattle.read_operations.specs.in_grammar.Rules.{optional}
use Rattle.read_operations.specs.in_grammar.ValueGrammar.{Const, constant, argument_of, directive_of, value, default_value, argument, arguments, directive, directives}
use Rattle.round_trip.specs.Printed.{any, ends_word, Printed}
use Rattle.round_trip.specs.Literals.{LiteralsRead}
use Rattle.round_trip.specs.WellFormed.{default_well_formed, argument_well_formed, arguments_well_formed, directive_well_formed, directives_well_formed, default_depth, argument_depth, arguments_depth, directive_depth, directives_depth}
use Rattle.round_trip.proofs.Sequences.{seq, mapped, placed, ignored, given, left_out, nothing_more, saying, before_any, ends_before}
use Rattle.round_trip.proofs.Tokens.{any_name}
use Rattle.round_trip.proofs.Punctuators.{equals, at}
use Rattle.round_trip.proofs.Values.{field_read, value_read}
use Rattle.round_trip.proofs.Nodes.{each_read, parenthesized_ends, parenthesized, some_nodes, AreAny, none_there, some_there}

abbrev named_argument : List ℕ → ValueTree (Unit {0}) → ArgumentTree (Unit {0})
named_argument n x = record { name = record { it = n; place = tt }; value = record { it = x; place = tt } }

one_argument : (m n : List ℕ) (x y : ValueTree (Unit {0})) → m ≡ n → x ≡ y → named_argument m x ≡ named_argument n y
one_argument m n x y e f = rw e (rw f refl)

abbrev named_directive : List ℕ → Arguments (Unit {0}) → DirectiveTree (Unit {0})
named_directive n xs = record { name = record { it = n; place = tt }; arguments = xs }

one_directive : (m n : List ℕ) (xs ys : Arguments (Unit {0})) → m ≡ n → xs ≡ ys → named_directive m xs ≡ named_directive n ys
one_directive m n xs ys e f = rw e (rw f refl)

-- a default value, ignoring places
abbrev pub IsDefault : {P Q : Type 0} → Option (Placed Q (ValueTree Q)) → Option (Placed P (ValueTree P)) → Type 0
IsDefault v o = option_map (unplaced_node unplaced_value) o ≡ option_map (unplaced_node unplaced_value) v

some_default : {P : Type 0} (o : Option (Placed P (ValueTree P))) (x : Placed P (ValueTree P)) (t : ValueTree (Unit {0})) → o ≡ Some x → unplaced_value x.it ≡ t → option_map (unplaced_node unplaced_value) o ≡ Some (record { it = t; place = tt })
some_default o x t e f = rw e (rw f refl)

module _ {P Q : Type 0} (m : Meaning P) (lits : LiteralsRead m.string) where
  pub default_read : (v : Option (Placed Q (ValueTree Q))) (n : ℕ) → default_well_formed v ≡ true → default_writable v ≡ true → default_depth v ≤ n → Printed (optional (default_value m n)) (IsDefault v) ends_word (default_text v)
  unfolding joined default_value
  default_read None n h w le = saying (IsDefault {Q = Q} None) (λ o e. ap (λ (l : Option (Placed P (ValueTree P))). option_map (unplaced_node unplaced_value) l) e) (left_out (default_value m n) ends_word)
  default_read (Some v) n h w le =
      saying (IsDefault (Some v)) (λ o e. some_default o e.0 (unplaced_value v.it) e.1 e.2)
      (given
      (ignored (32 ∷ []) refl
      (mapped (λ x. x.1) (λ x. unplaced_value x.it ≡ unplaced_value v.it) (λ x said. said.1)
      (seq {f = any} (λ following fine. refl) equals (ignored (32 ∷ []) refl (nothing_more (placed m (value_read m lits constant v.it n h w le))))))))

  pub argument_read : (const : Const) (n : ℕ) (a : Placed Q (ArgumentTree Q)) → argument_well_formed a ≡ true → argument_writable const a ≡ true → argument_depth a ≤ n → Printed (argument m const n) (λ x. unplaced_argument x ≡ unplaced_argument a.it) ends_word (argument_text a.it)
  unfolding argument
  argument_read const n a h w le =
      let (h1, h2) = and_parts _ _ h in
      mapped argument_of (λ x. unplaced_argument x ≡ unplaced_argument a.it) (λ x said. one_argument _ _ _ _ said.0 said.1.1)
      (field_read m lits (value m const n) a.it.name.it (unplaced_value a.it.value.it) (value_text a.it.value.it) h1 (value_read m lits const a.it.value.it n h2 w le))

  abbrev pub AreArguments : Arguments Q → Option (Arguments P) → Type 0
  AreArguments as' o = AreAny unplaced_argument (unplaced_arguments as') o

  pub arguments_read : (const : Const) (as' : Arguments Q) (n : ℕ) → arguments_well_formed as' ≡ true → arguments_writable const as' ≡ true → arguments_depth as' ≤ n → Printed (optional (arguments m const n)) (AreArguments as') ends_word (arguments_text as')
  unfolding joined arguments
  arguments_read const [] n h w le = none_there unplaced_argument (arguments m const n)
  arguments_read const (a ∷ as') zero h w le = absurd (omega arith)
  arguments_read const (a ∷ as') (suc n) h w le =
      before_any
      (some_there unplaced_argument (unplaced_arguments (a ∷ as'))
      (parenthesized m (argument m const n) unplaced_argument unplaced_argument argument_text a as'
      (each_read m (argument m const n) unplaced_argument unplaced_argument argument_text argument_well_formed (argument_writable const) argument_depth n (argument_read const n) (a ∷ as') h w (omega arith))))

  pub directive_read : (const : Const) (n : ℕ) (d : Placed Q (DirectiveTree Q)) → directive_well_formed d ≡ true → directive_writable const d.it ≡ true → directive_depth d ≤ n → Printed (directive m const n) (λ x. unplaced_directive x ≡ unplaced_directive d.it) ends_word (directive_text d.it)
  unfolding joined directive
  directive_read const n d h w le =
      let (h1, h2) = and_parts _ _ h in
      mapped directive_of (λ x. unplaced_directive x ≡ unplaced_directive d.it) (λ x said. one_directive _ _ _ _ said.1.0 said.1.1)
      (seq {f = any} (λ following fine. refl) at
      (seq {f = ends_word} (λ following fine. ends_before (arguments_text d.it.arguments ++ []) following (ends_before (arguments_text d.it.arguments) [] (parenthesized_ends (texts_of argument_text d.it.arguments)) refl) fine)
      (any_name m d.it.name.it h1) (nothing_more (arguments_read const d.it.arguments n h2 w le))))

  abbrev pub AreDirectives : Directives Q → Option (Directives P) → Type 0
  AreDirectives ds o = AreAny unplaced_directive (unplaced_directives ds) o

  pub directives_read : (const : Const) (ds : Directives Q) (n : ℕ) → directives_well_formed ds ≡ true → directives_writable const ds ≡ true → directives_depth ds ≤ n → Printed (optional (directives m const n)) (AreDirectives ds) ends_word (directives_text ds)
  unfolding joined directives
  directives_read const [] n h w le = none_there unplaced_directive (directives m const n)
  directives_read const (d ∷ ds) n h w le =
      some_there unplaced_directive (unplaced_directives (d ∷ ds))
      (some_nodes m (directive m const n) unplaced_directive unplaced_directive directive_text 32 [] refl refl d ds
      (each_read m (directive m const n) unplaced_directive unplaced_directive directive_text directive_well_formed (λ d. directive_writable const d.it) directive_depth n (directive_read const n) (d ∷ ds) h w le))

  pub directives_end : (ds : Directives Q) → ends_word (directives_text ds) ≡ true
  unfolding joined
  directives_end [] = refl
  directives_end (d ∷ ds) = refl
