-- Descriptions and definitions of input values are read as they are printed, under both kinds of layout.
use Rattle.std.proofs.Common.{◌≡◌, ◌≤◌, ◌+◌, ℕ, zero, suc, Bool, true, false, cond, List, [], ◌∷◌, ◌++◌, map, Option, Some, None, option_map, refl, sym, ap, subst, ◌∙◌, append_assoc, append-nil, arith}
use Rattle.std.proofs.lemmas.Bool.{and_parts}
use Rattle.round_trip.specs.in_literals.Joined.{joined}
use Rattle.round_trip.specs.in_literals.LineLayout.{Prefix, break_text}
use Rattle.round_trip.specs.in_literals.StringLayout.{description_string, description_text}
use Rattle.read_operations.specs.in_literals.ValueLayout.{default_text}
use Rattle.read_operations.specs.in_directives.DirectiveLayout.{directives_text}
use Rattle.read_operations.specs.in_directives.InputLayout.{input_value_text, are_on_lines, arguments_in_line, arguments_on_lines, argument_definitions_text}
use Rattle.graphql_names.specs.Placed.{Placed, Text, unplaced_text, unplaced_node}
use Rattle.read_operations.specs.in_values.Writable.{input_value_writable, input_values_writable}
use Rattle.read_operations.specs.in_literals.TypeTree.{TypeTree}
use Rattle.read_operations.specs.in_literals.ValueTree.{ValueTree}
use Rattle.read_operations.specs.in_directives.DirectiveTree.{Directives, InputValueTree, InputValues, unplaced_input_value}
use Rattle.read_operations.specs.in_grammar.Meaning.{Meaning, text_of}
use Rattle.read_operations.specs.in_grammar.Kinds.{is_string}
use Rattle.read_operations.specs.in_grammar.Rules.{Rule, ◌·◌, optional}
use Rattle.read_operations.specs.in_grammar.ValueGrammar.{constant}
use Rattle.read_operations.specs.in_grammar.TypeSystemGrammar.{input_value_of, description, input_value_definition, arguments_definition}
use Rattle.round_trip.specs.Printed.{Follow, any, ends_word, Printed}
use Rattle.round_trip.specs.Literals.{IsStringToken, LiteralsRead}
use Rattle.round_trip.specs.WellFormed.{depths, is_white_prefix, input_value_well_formed, input_values_well_formed, input_value_depth, input_values_depth}
use Rattle.round_trip.proofs.Sequences.{ends_before, seq, seq_word, mapped, placed, ignored, given, left_out, as_text, nothing_more, saying, before_any}
use Rattle.round_trip.proofs.Tokens.{token_here, token_is_piece, any_name}
use Rattle.round_trip.proofs.Punctuators.{colon}
use Rattle.round_trip.proofs.Types.{type_read}
use Rattle.round_trip.proofs.Nodes.{EachRead, each_read, parenthesized, AreAny, none_there, some_there}
use Rattle.round_trip.proofs.Members.{parenthesized_on_lines}
use Rattle.round_trip.proofs.Directives.{default_read, directives_read, directives_end}
use Rattle.round_trip.proofs.Lines.{break_ignored, break_ends}
use Rattle.round_trip.proofs.Selections.{IsAnyName, some_name}
use Rattle.round_trip.proofs.Operations.{default_ends}

abbrev input_value_with : Option (Text (Unit {0})) → List ℕ → TypeTree (Unit {0}) → Option (Placed (Unit {0}) (ValueTree (Unit {0}))) → Directives (Unit {0}) → InputValueTree (Unit {0})
input_value_with d n t v ds = record { description = d; name = record { it = n; place = tt }; ty = record { it = t; place = tt }; default_value = v; directives = ds }

one_input_value : (d e : Option (Text (Unit {0}))) (l n : List ℕ) (t u : TypeTree (Unit {0})) (v w : Option (Placed (Unit {0}) (ValueTree (Unit {0})))) (ds es : Directives (Unit {0})) → d ≡ e → l ≡ n → t ≡ u → v ≡ w → ds ≡ es → input_value_with d l t v ds ≡ input_value_with e n u w es
one_input_value d e l n t u v w ds es e0 e1 e2 e3 e4 = rw e0 (rw e1 (rw e2 (rw e3 (rw e4 refl))))

module _ {P : Type 0} (m : Meaning P) (lits : LiteralsRead m.string) (prefix : Prefix) (white : is_white_prefix prefix ≡ true) where
  -- a string before what it describes
  string_here : (level : ℕ) (text : List ℕ) → Printed (description m) (λ x. x.it ≡ text) ends_word (description_string prefix level text)
  string_here level text = record {
    stands = λ following at others fine lexed.
        let s : IsStringToken m.string (description_string prefix level text) text following = lits.strings.described prefix level text following white fine in
        let b = token_here is_string s.kind (description_string prefix level text) following at others (token_is_piece s.kind (description_string prefix level text) following s.token) s.is lexed in
        record {
          tokens = b.tokens;
          lexed = b.lexed;
          reads = λ ending last. let d = b.reads ending last in record { tree = text_of m d.tree; end = d.end; read = (d.tree, d.read, refl); said = s.stands_for d.tree d.said.0 d.said.1 };
        };
  }

module _ {P Q : Type 0} (m : Meaning P) (lits : LiteralsRead m.string) (prefix : Prefix) (white : is_white_prefix prefix ≡ true) where
  -- a description, then a rule
  pub described_read : {B : Type 0} {s : Rule B} {tells : B → Type 0} {f : Follow} {b : List ℕ} (level : ℕ) (d : Option (Text Q)) → Printed s tells f b → Printed (optional (description m) · s) (λ x. IsAnyName (option_map unplaced_text d) x.0 × tells x.1) f (description_text prefix level d ++ b)
  unfolding joined
  described_read {B} {s} {tells} {f} {b} level None p =
      seq {f = any} (λ following fine. refl) (saying (IsAnyName None) (λ o e. ap (λ (l : Option (Text P)). option_map unplaced_text l) e) (left_out (description m) any)) p
  described_read {B} {s} {tells} {f} {b} level (Some d) p =
      let break : List ℕ = break_text prefix level in
      let str : List ℕ = description_string prefix level d.it in
      let same : str ++ (break ++ b) ≡ (str ++ (break ++ [])) ++ b = ap (λ (l : List ℕ). str ++ (l ++ b)) (sym (append-nil break)) ∙ sym (append_assoc str (break ++ []) b) in
      as_text _ same
      (seq {f = ends_word} (λ following fine. subst (λ (l : List ℕ). ends_word l ≡ true) (sym (append_assoc break b following)) (break_ends prefix level (b ++ following)))
      (saying (IsAnyName (Some (unplaced_text d))) (λ o e. some_name o e.0 d.it e.1 e.2) (given (string_here m lits prefix white level d.it)))
      (ignored break (break_ignored prefix level white) p))

  pub input_value_read : (n level : ℕ) (v : Placed Q (InputValueTree Q)) → input_value_well_formed v ≡ true → input_value_writable v.it ≡ true → input_value_depth v ≤ n → Printed (input_value_definition m n) (λ x. unplaced_input_value x ≡ unplaced_input_value v.it) ends_word (input_value_text prefix v.it level)
  unfolding joined input_value_definition
  input_value_read n level v h w le =
      let (h123, h4) = and_parts _ _ h in
      let (h12, h3) = and_parts _ _ h123 in
      let (h1, h2) = and_parts _ _ h12 in
      let (w1, w2) = and_parts _ _ w in
      let end1 : ends_word (directives_text v.it.directives ++ []) ≡ true = ends_before (directives_text v.it.directives) [] (directives_end m lits v.it.directives) refl in
      let end2 : ends_word (default_text v.it.default_value ++ (directives_text v.it.directives ++ [])) ≡ true = ends_before (default_text v.it.default_value) (directives_text v.it.directives ++ []) (default_ends v.it.default_value) end1 in
      mapped input_value_of (λ x. unplaced_input_value x ≡ unplaced_input_value v.it) (λ x said. one_input_value _ _ _ _ _ _ _ _ _ _ said.0 said.1.0 said.1.1.1.0 said.1.1.1.1.0 said.1.1.1.1.1)
      (described_read level v.it.description
      (seq {f = ends_word} (λ following fine. refl) (any_name m v.it.name.it h1)
      (seq {f = any} (λ following fine. refl) colon
      (ignored (32 ∷ []) refl
      (seq_word end2 (placed m (type_read m v.it.ty.it n h2 (omega arith)))
      (seq_word end1 (default_read m lits v.it.default_value n h3 w1 (omega arith))
      (nothing_more (directives_read m lits constant v.it.directives n h4 w2 (omega arith)))))))))

  pub each_input_value : (n level : ℕ) (vs : InputValues Q) → input_values_well_formed vs ≡ true → input_values_writable vs ≡ true → (depths input_value_depth vs ≤ n) → EachRead m (input_value_definition m n) unplaced_input_value unplaced_input_value (λ v. input_value_text prefix v level) vs
  each_input_value n level vs h w le =
      each_read m (input_value_definition m n) unplaced_input_value unplaced_input_value (λ v. input_value_text prefix v level) input_value_well_formed (λ v. input_value_writable v.it) input_value_depth n (input_value_read n level) vs h w le

  -- (arguments) on one line
  in_line : (n level : ℕ) (v : Placed Q (InputValueTree Q)) (vs : InputValues Q) → EachRead m (input_value_definition m n) unplaced_input_value unplaced_input_value (λ v. input_value_text prefix v level) (v ∷ vs)
      → Printed (optional (arguments_definition m (suc n))) (AreAny unplaced_input_value (map (unplaced_node unplaced_input_value) (v ∷ vs))) ends_word (arguments_in_line prefix (v ∷ vs) level)
  unfolding arguments_definition
  in_line n level v vs each =
      before_any
      (some_there unplaced_input_value (map (unplaced_node unplaced_input_value) (v ∷ vs))
      (parenthesized m (input_value_definition m n) unplaced_input_value unplaced_input_value (λ v. input_value_text prefix v level) v vs each))

module _ {P Q : Type 0} (m : Meaning P) (lits : LiteralsRead m.string) where
  -- ( arguments ), each on its line
  on_lines : (lines : List ℕ) (white : is_white_prefix (Some lines) ≡ true) (n level : ℕ) (v : Placed Q (InputValueTree Q)) (vs : InputValues Q)
      → EachRead m (input_value_definition m n) unplaced_input_value unplaced_input_value (λ v. input_value_text (Some lines) v (level + 1)) (v ∷ vs)
      → Printed (optional (arguments_definition m (suc n))) (AreAny unplaced_input_value (map (unplaced_node unplaced_input_value) (v ∷ vs))) ends_word (arguments_on_lines lines (v ∷ vs) level)
  unfolding joined arguments_definition
  on_lines lines white n level v vs each =
      before_any
      (some_there unplaced_input_value (map (unplaced_node unplaced_input_value) (v ∷ vs))
      (parenthesized_on_lines m (input_value_definition m n) unplaced_input_value unplaced_input_value (input_value_text (Some lines)) (Some lines) white level v vs each))

  -- (arguments), under both kinds of layout
  pub argument_definitions_read : (prefix : Prefix) (white : is_white_prefix prefix ≡ true) (vs : InputValues Q) (n level : ℕ) → input_values_well_formed vs ≡ true → input_values_writable vs ≡ true → input_values_depth vs ≤ n
      → Printed (optional (arguments_definition m n)) (AreAny unplaced_input_value (map (unplaced_node unplaced_input_value) vs)) ends_word (argument_definitions_text prefix vs level)
  unfolding joined
  argument_definitions_read None white [] n level h w le = none_there unplaced_input_value (arguments_definition m n)
  argument_definitions_read (Some lines) white [] n level h w le = none_there unplaced_input_value (arguments_definition m n)
  argument_definitions_read prefix white (v ∷ vs) zero level h w le = absurd (omega arith)
  argument_definitions_read None white (v ∷ vs) (suc n) level h w le = in_line m lits None white n level v vs (each_input_value m lits None white n level (v ∷ vs) h w (omega arith))
  argument_definitions_read (Some lines) white (v ∷ vs) (suc n) level h w le = go (are_on_lines (v ∷ vs))
    where
      within : depths input_value_depth (v ∷ vs) ≤ n
      within = omega arith

      go : (b : Bool) → Printed (optional (arguments_definition m (suc n))) (AreAny unplaced_input_value (map (unplaced_node unplaced_input_value) (v ∷ vs))) ends_word (cond b (arguments_on_lines lines (v ∷ vs) level) (arguments_in_line (Some lines) (v ∷ vs) level))
      go true = on_lines lines white n level v vs (each_input_value m lits (Some lines) white n (level + 1) (v ∷ vs) h w within)
      go false = in_line m lits (Some lines) white n level v vs (each_input_value m lits (Some lines) white n level (v ∷ vs) h w within)

  pub argument_definitions_end : (prefix : Prefix) (vs : InputValues Q) (level : ℕ) → ends_word (argument_definitions_text prefix vs level) ≡ true
  unfolding joined
  argument_definitions_end None [] level = refl
  argument_definitions_end None (v ∷ vs) level = refl
  argument_definitions_end (Some lines) vs level = go vs (are_on_lines vs)
    where
      go : (vs : InputValues Q) (b : Bool) → ends_word (cond b (arguments_on_lines lines vs level) (arguments_in_line (Some lines) vs level)) ≡ true
      go vs true = refl
      go [] false = refl
      go (v ∷ vs) false = refl
