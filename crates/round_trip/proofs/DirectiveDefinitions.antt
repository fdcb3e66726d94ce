-- Definitions of directives, after their descriptions, are read as they are printed, under both kinds of layout.
use Rattle.std.proofs.Common.{◌≡◌, ◌≤◌, ◌+◌, ℕ, Bool, true, false, List, [], ◌∷◌, ◌++◌, map, codes, Option, None, is_some, refl, sym, ap, ◌∙◌, append-nil, arith}
use Rattle.graphql_names.specs.NameSyntax as names
use Rattle.round_trip.specs.in_literals.Joined.{joined, further_text}
use Rattle.round_trip.specs.in_literals.LineLayout.{Prefix}
use Rattle.read_operations.specs.in_directives.DirectivePlaces.{location_keyword}
use Rattle.read_operations.specs.in_directives.DirectiveLayout.{directives_text}
use Rattle.read_operations.specs.in_directives.InputLayout.{argument_definitions_text, repeatable_text, locations_text}
use Rattle.graphql_names.specs.Placed.{unplaced_node}
use Rattle.read_operations.specs.in_values.Writable.{directives_writable, input_values_writable}
use Rattle.read_operations.specs.in_directives.DirectiveTree.{Directives, InputValues, DirectiveDefinitionTree, unplaced_directives, unplaced_input_value, unplaced_directive_definition}
use Rattle.read_operations.specs.in_directives.declared.directive_location.DirectiveLocation.{DirectiveLocation}
use Rattle.read_operations.specs.in_directives.declared.directive_location.DirectiveLocation.TheVariants as location
use Rattle.read_operations.specs.in_tokens.declared.token.TokenKind.TheVariants as t
use Rattle.read_operations.specs.in_tokens.Input.{Token}
use Rattle.read_operations.specs.in_tokens.Terminals.{words, terminal_of}
use Rattle.read_operations.specs.in_grammar.Meaning.{Meaning}
use Rattle.read_operations.specs.in_grammar.Kinds.{is_location, is_pipe, is_directive, is_repeatable, is_on}
use Rattle.read_operations.specs.in_grammar.Locations.{location_of}
use Rattle.read_operations.specs.in_grammar.Rules.{Rule, one, mark, ◌·◌, ◌<$>◌, optional, many}
use Rattle.read_operations.specs.in_grammar.ValueGrammar.{constant}
use Rattle.read_operations.specs.in_grammar.TypeSystemGrammar.{directive_definition_of, directive_locations, directive_definition}
use Rattle.round_trip.specs.Printed.{any, ends_word, Printed}
use Rattle.round_trip.specs.Literals.{LiteralsRead}
use Rattle.round_trip.specs.WellFormed.{is_white_prefix, directives_well_formed, directives_depth, input_values_well_formed, input_values_depth}
use Rattle.round_trip.proofs.Directives.{directives_read, directives_end}
use Rattle.round_trip.proofs.InputValues.{argument_definitions_read, argument_definitions_end}
use Rattle.round_trip.proofs.Sequences.{ends_before, nothing_more, given, seq, seq_word, mapped, ignored, left_out, more, no_more, as_text, saying}
use Rattle.round_trip.proofs.Tokens.{word, keyword, any_name}
use Rattle.round_trip.proofs.Punctuators.{pipe, at}
use Rattle.round_trip.proofs.Lists.{further_is, further_ends}

-- a location is known by its word
location_same : (l : DirectiveLocation) → location_of (location_keyword l) ≡ l
unfolding location_of
location_same location.Query = refl
location_same location.Mutation = refl
location_same location.Subscription = refl
location_same location.Field = refl
location_same location.FragmentDefinition = refl
location_same location.FragmentSpread = refl
location_same location.InlineFragment = refl
location_same location.VariableDefinition = refl
location_same location.Schema = refl
location_same location.Scalar = refl
location_same location.Object = refl
location_same location.FieldDefinition = refl
location_same location.ArgumentDefinition = refl
location_same location.Interface = refl
location_same location.Union = refl
location_same location.Enum = refl
location_same location.EnumValue = refl
location_same location.InputObject = refl
location_same location.InputFieldDefinition = refl
location_same location.DirectiveDefinition = refl

location_named : (l : DirectiveLocation) → names.is_name (location_keyword l) ≡ true
location_named location.Query = refl
location_named location.Mutation = refl
location_named location.Subscription = refl
location_named location.Field = refl
location_named location.FragmentDefinition = refl
location_named location.FragmentSpread = refl
location_named location.InlineFragment = refl
location_named location.VariableDefinition = refl
location_named location.Schema = refl
location_named location.Scalar = refl
location_named location.Object = refl
location_named location.FieldDefinition = refl
location_named location.ArgumentDefinition = refl
location_named location.Interface = refl
location_named location.Union = refl
location_named location.Enum = refl
location_named location.EnumValue = refl
location_named location.InputObject = refl
location_named location.InputFieldDefinition = refl
location_named location.DirectiveDefinition = refl

location_spelled : (l : DirectiveLocation) → is_location (terminal_of t.Name (location_keyword l)) ≡ true
unfolding words
location_spelled location.Query = refl
location_spelled location.Mutation = refl
location_spelled location.Subscription = refl
location_spelled location.Field = refl
location_spelled location.FragmentDefinition = refl
location_spelled location.FragmentSpread = refl
location_spelled location.InlineFragment = refl
location_spelled location.VariableDefinition = refl
location_spelled location.Schema = refl
location_spelled location.Scalar = refl
location_spelled location.Object = refl
location_spelled location.FieldDefinition = refl
location_spelled location.ArgumentDefinition = refl
location_spelled location.Interface = refl
location_spelled location.Union = refl
location_spelled location.Enum = refl
location_spelled location.EnumValue = refl
location_spelled location.InputObject = refl
location_spelled location.InputFieldDefinition = refl
location_spelled location.DirectiveDefinition = refl

abbrev location_rule : Rule DirectiveLocation
location_rule = (λ (t : Token). location_of t.text) <$> one is_location

location_read : (l : DirectiveLocation) → Printed location_rule (λ x. x ≡ l) ends_word (location_keyword l)
location_read l = mapped (λ (t : Token). location_of t.text) (λ x. x ≡ l) (λ x said. ap location_of said.1 ∙ location_same l) (word is_location (location_keyword l) (location_named l) (location_spelled l))

next_location : (x l : DirectiveLocation) (xs ls : List DirectiveLocation) → x ≡ l → xs ≡ ls → x ∷ xs ≡ l ∷ ls
next_location x l xs ls e f = cc

further_locations : (ls : List DirectiveLocation) → Printed (many ((λ x. x.1) <$> mark is_pipe · location_rule)) (λ xs. xs ≡ ls) ends_word (further_text (codes " | ") (map location_keyword ls))
unfolding joined
further_locations [] = no_more ((λ x. x.1) <$> mark is_pipe · location_rule) ends_word
further_locations (l ∷ ls) =
    as_text _ (further_is (codes " | ") (location_keyword l) (map location_keyword ls))
    (ignored (32 ∷ []) refl
    (more {f = ends_word} (λ xs. xs ≡ l ∷ ls) (λ x xs e f. next_location x l xs ls e f) (λ following fine. further_ends 32 (124 ∷ 32 ∷ []) (map location_keyword ls) following refl fine)
    (mapped (λ x. x.1) (λ x. x ≡ l) (λ x said. said.1) (seq {f = any} (λ following fine. refl) pipe (ignored (32 ∷ []) refl (location_read l)))) (further_locations ls)))

-- A | B
pub locations_read : (l : DirectiveLocation) (ls : List DirectiveLocation) → Printed directive_locations (λ xs. xs ≡ l ∷ ls) ends_word (location_keyword l ++ further_text (codes " | ") (map location_keyword ls))
unfolding directive_locations
locations_read l ls =
    mapped (λ x. x.1.0 ∷ x.1.1) (λ xs. xs ≡ l ∷ ls) (λ x said. next_location x.1.0 l x.1.1 ls said.1.0 said.1.1)
    (seq {f = any} (λ following fine. refl) (left_out (mark is_pipe) any)
    (seq {f = ends_word} (λ following fine. further_ends 32 (124 ∷ 32 ∷ []) (map location_keyword ls) following refl fine) (location_read l) (further_locations ls)))

abbrev pub directive_with : List ℕ → InputValues (Unit {0}) → Directives (Unit {0}) → Bool → List DirectiveLocation → DirectiveDefinitionTree (Unit {0})
directive_with n vs ds r ls = record { description = None; name = record { it = n; place = tt }; arguments = vs; directives = ds; repeatable = r; locations = ls }

one_directive : (l n : List ℕ) (vs ws : InputValues (Unit {0})) (ds es : Directives (Unit {0})) (r s : Bool) (ls ks : List DirectiveLocation) → l ≡ n → vs ≡ ws → ds ≡ es → r ≡ s → ls ≡ ks → directive_with l vs ds r ls ≡ directive_with n ws es s ks
one_directive l n vs ws ds es r s ls ks e f g h k = rw e (rw f (rw g (rw h (rw k refl))))

repeatable_read : (r : Bool) → Printed (optional (mark is_repeatable)) (λ o. is_some o ≡ r) ends_word (repeatable_text r)
unfolding joined words
repeatable_read true = saying (λ o. is_some o ≡ true) (λ o e. ap (λ (x : Option (Unit {0})). is_some x) e.1) (given (ignored (32 ∷ []) refl (keyword is_repeatable (codes "repeatable") refl refl)))
repeatable_read false = saying (λ o. is_some o ≡ false) (λ o e. ap (λ (x : Option (Unit {0})). is_some x) e) (left_out (mark is_repeatable) ends_word)

repeatable_ends : (r : Bool) → ends_word (repeatable_text r) ≡ true
unfolding joined
repeatable_ends true = refl
repeatable_ends false = refl

module _ {P Q : Type 0} (m : Meaning P) (lits : LiteralsRead m.string) (prefix : Prefix) (white : is_white_prefix prefix ≡ true) where
  pub directive_definition_read : (name : List ℕ) (vs : InputValues Q) (ds : Directives Q) (r : Bool) (l : DirectiveLocation) (ls : List DirectiveLocation) (n level : ℕ) → names.is_name name ≡ true → input_values_well_formed vs ≡ true → directives_well_formed ds ≡ true → input_values_writable vs ≡ true → directives_writable constant ds ≡ true → input_values_depth vs + directives_depth ds ≤ n
      → Printed (directive_definition m n) (λ x. unplaced_directive_definition x ≡ directive_with name (map (unplaced_node unplaced_input_value) vs) (unplaced_directives ds) r (l ∷ ls)) ends_word
      (codes "directive @" ++ (name ++ (argument_definitions_text prefix vs level ++ (directives_text ds ++ (repeatable_text r ++ (locations_text (l ∷ ls) ++ []))))))
  unfolding joined words directive_definition
  directive_definition_read name vs ds r l ls n level h1 h2 h3 w1 w2 le =
      let places : List ℕ = locations_text (l ∷ ls) ++ [] in
      let end2 : ends_word (repeatable_text r ++ places) ≡ true = ends_before (repeatable_text r) places (repeatable_ends r) refl in
      let end3 : ends_word (directives_text ds ++ (repeatable_text r ++ places)) ≡ true = ends_before (directives_text ds) (repeatable_text r ++ places) (directives_end m lits ds) end2 in
      let end4 : ends_word (argument_definitions_text prefix vs level ++ (directives_text ds ++ (repeatable_text r ++ places))) ≡ true = ends_before (argument_definitions_text prefix vs level) _ (argument_definitions_end m lits prefix vs level) end3 in
      mapped directive_definition_of (λ x. unplaced_directive_definition x ≡ directive_with name (map (unplaced_node unplaced_input_value) vs) (unplaced_directives ds) r (l ∷ ls)) (λ x said. one_directive _ _ _ _ _ _ _ _ _ _ said.1.1.0 said.1.1.1.0 said.1.1.1.1.0 said.1.1.1.1.1.0 said.1.1.1.1.1.1.1)
      (seq_word refl (keyword is_directive (codes "directive") refl refl)
      (ignored (32 ∷ []) refl
      (seq {f = any} (λ following fine. refl) at
      (seq_word end4 (any_name m name h1)
      (seq_word end3 (argument_definitions_read m lits prefix white vs n level h2 w1 (omega arith))
      (seq_word end2 (directives_read m lits constant ds n h3 w2 (omega arith))
      (seq_word refl (repeatable_read r)
      (nothing_more
      (ignored (32 ∷ []) refl
      (seq_word refl (keyword is_on (codes "on") refl refl)
      (ignored (32 ∷ []) refl (as_text _ (ap (λ (k : List ℕ). location_keyword l ++ k) (sym (append-nil (further_text (codes " | ") (map location_keyword ls))))) (locations_read l ls)))))))))))))
