-- Documents are read as they are printed.
use Rattle.std.proofs.Common.{◌≡◌, ◌≤◌, ℕ, Bool, true, false, cond, ◌&&◌, List, [], ◌∷◌, ◌++◌, map, Some, None, Option, refl, sym, ap, ◌∙◌, subst, arith, append-nil, append_assoc}
use Rattle.std.specs.List.{list_all}
use Rattle.std.proofs.lemmas.Bool.{and_parts}
use Rattle.round_trip.specs.in_literals.Joined.{joined}
use Rattle.round_trip.specs.in_literals.LineLayout.{Prefix, line_start, start_text}
use Rattle.round_trip.specs.in_literals.StringLayout.{has_byte, can_be_block_string, quoted_text, block_text, description_text}
use Rattle.read_operations.specs.in_operations.OperationLayout.{begins_output}
use Rattle.read_operations.specs.in_operations.OperationQueries.{operation_keyword}
use Rattle.read_operations.specs.in_directives.declared.operation_type.OperationType.{OperationType}
use Rattle.read_operations.specs.in_directives.declared.operation_type.OperationType.TheVariants.{Query, Mutation, Subscription}
use Rattle.graphql_names.specs.Placed.{Text}
use Rattle.read_operations.specs.in_definitions.DefinitionTree.{DefinitionTree, Operation, Fragment, DirectiveDefinition, Schema, ScalarType, ObjectType, InterfaceType, UnionType, EnumType, InputObjectType, ExtendSchema, ExtendScalar, ExtendObject, ExtendInterface, ExtendUnion, ExtendEnum, ExtendInputObject, unplaced_definition, unplaced_document}
use Rattle.read_operations.specs.in_definitions.DocumentLayout.{definition_text, between_text, next_definition_text, end_text, document_text}
use Rattle.read_operations.specs.in_definitions.Writable.{definition_writable}
use Rattle.read_operations.specs.in_tokens.Tokens.{is_ignored_byte}
use Rattle.read_operations.specs.in_grammar.Meaning.{Meaning}
use Rattle.read_operations.specs.in_grammar.Rules.{many}
use Rattle.read_operations.specs.in_grammar.Grammar.{definition, document}
use Rattle.round_trip.specs.Printed.{ends_word, begins_definition, ends_definition, Printed}
use Rattle.round_trip.specs.Literals.{LiteralsRead}
use Rattle.round_trip.specs.WellFormed.{is_white_prefix, depths}
use Rattle.round_trip.specs.Definitions.{definition_well_formed, definition_depth}
use Rattle.round_trip.proofs.Sequences.{as_text, ignored, no_more, more, one_or_more, saying}
use Rattle.round_trip.proofs.Lines.{start_ignored}
use Rattle.round_trip.proofs.Definitions.{definition_read}

-- ---- what is between definitions

between_ignored : (prefix : Prefix) → list_all is_ignored_byte (between_text prefix) ≡ true
between_ignored None = refl
between_ignored (Some prefix) = refl

end_ignored : (prefix : Prefix) → list_all is_ignored_byte (end_text prefix) ≡ true
unfolding joined
end_ignored None = refl
end_ignored (Some prefix) = refl

-- the definitions after the first, and the end
abbrev rest_text : {Q : Type 0} → Prefix → ℕ → List (DefinitionTree Q) → List ℕ
rest_text prefix level ds = joined (map (next_definition_text prefix level) ds) ++ (end_text prefix ++ [])

-- ---- what begins a definition

-- after bytes that are ignored
begins_after : (front following : List ℕ) → list_all is_ignored_byte front ≡ true → begins_definition following ≡ true → begins_definition (front ++ following) ≡ true
begins_after [] following h k = k
begins_after (b ∷ front) following h k = let (h1, h2) = and_parts (is_ignored_byte b) (list_all is_ignored_byte front) h in rw h1 (begins_after front following h2 k)

described_begins : {Q : Type 0} (prefix : Prefix) (level : ℕ) (d : Option (Text Q)) (text following : List ℕ) → begins_definition (text ++ following) ≡ true → begins_definition ((description_text prefix level d ++ text) ++ following) ≡ true
unfolding joined
described_begins prefix level None text following h = h
described_begins None level (Some d) text following h = refl
described_begins (Some lines) level (Some d) text following h = go (has_byte 10 d.it && can_be_block_string d.it)
  where
    go : (b : Bool) → begins_definition (((cond b (block_text lines level d.it) (quoted_text d.it) ++ ((10 ∷ (line_start lines level ++ [])) ++ [])) ++ text) ++ following) ≡ true
    go true = refl
    go false = refl

keyword_begins : (t : OperationType) (text following : List ℕ) → begins_definition ((operation_keyword t ++ text) ++ following) ≡ true
keyword_begins Query text following = refl
keyword_begins Mutation text following = refl
keyword_begins Subscription text following = refl

-- a definition that does not begin the text begins with a word or a description
definition_begins : {Q : Type 0} (prefix : Prefix) (d : DefinitionTree Q) (level : ℕ) (following : List ℕ) → begins_definition (definition_text false prefix d level ++ following) ≡ true
unfolding joined
definition_begins prefix (Operation p o) level following = keyword_begins o.operation_type _ following
definition_begins prefix (Fragment p f) level following = refl
definition_begins prefix (DirectiveDefinition p d) level following = described_begins prefix level d.description _ following refl
definition_begins prefix (Schema p d s) level following = described_begins prefix level d _ following refl
definition_begins prefix (ScalarType p d t) level following = described_begins prefix level d _ following refl
definition_begins prefix (ObjectType p d t) level following = described_begins prefix level d _ following refl
definition_begins prefix (InterfaceType p d t) level following = described_begins prefix level d _ following refl
definition_begins prefix (UnionType p d t) level following = described_begins prefix level d _ following refl
definition_begins prefix (EnumType p d t) level following = described_begins prefix level d _ following refl
definition_begins prefix (InputObjectType p d t) level following = described_begins prefix level d _ following refl
definition_begins prefix (ExtendSchema p s) level following = refl
definition_begins prefix (ExtendScalar p t) level following = refl
definition_begins prefix (ExtendObject p t) level following = refl
definition_begins prefix (ExtendInterface p t) level following = refl
definition_begins prefix (ExtendUnion p t) level following = refl
definition_begins prefix (ExtendEnum p t) level following = refl
definition_begins prefix (ExtendInputObject p t) level following = refl

regrouped : (b s d j e : List ℕ) → b ++ (s ++ (d ++ (j ++ e))) ≡ ((b ++ (s ++ (d ++ []))) ++ j) ++ e
regrouped b s d j e =
    sym
    (append_assoc (b ++ (s ++ (d ++ []))) j e
    ∙ append_assoc b (s ++ (d ++ [])) (j ++ e)
    ∙ ap (λ (l : List ℕ). b ++ l) (append_assoc s (d ++ []) (j ++ e))
    ∙ ap (λ (l : List ℕ). b ++ (s ++ (l ++ (j ++ e)))) (append-nil d))

-- the next definition, from the end of the last one
next_begins : {Q : Type 0} (prefix : Prefix) (level : ℕ) (d : DefinitionTree Q) (following : List ℕ) → is_white_prefix prefix ≡ true → begins_definition (between_text prefix ++ (start_text prefix level ++ (definition_text false prefix d level ++ following))) ≡ true
next_begins prefix level d following white =
    begins_after (between_text prefix) (start_text prefix level ++ (definition_text false prefix d level ++ following)) (between_ignored prefix)
    (begins_after (start_text prefix level) (definition_text false prefix d level ++ following) (start_ignored prefix level white) (definition_begins prefix d level following))

between_ends : (prefix : Prefix) (following : List ℕ) → ends_word (between_text prefix ++ following) ≡ true
between_ends None following = refl
between_ends (Some prefix) following = refl

both : (x y : Bool) → x ≡ true → y ≡ true → (x && y) ≡ true
both x y h k = rw h (rw k refl)

rest_ends : {Q : Type 0} (prefix : Prefix) (level : ℕ) (ds : List (DefinitionTree Q)) (following : List ℕ) → is_white_prefix prefix ≡ true → ends_definition following ≡ true → ends_definition (rest_text prefix level ds ++ following) ≡ true
unfolding joined
rest_ends None level [] following white h = h
rest_ends (Some prefix) level [] following white h = (and_parts (ends_word following) (begins_definition following) h).1
rest_ends prefix level (d ∷ ds) following white h =
    let end : List ℕ = end_text prefix ++ [] in
    let others : List ℕ = joined (map (next_definition_text prefix level) ds) in
    let text : List ℕ = definition_text false prefix d level in
    let tail : List ℕ = start_text prefix level ++ (text ++ (others ++ (end ++ following))) in
    let front : List ℕ = (between_text prefix ++ (start_text prefix level ++ (text ++ []))) ++ others in
    let same : between_text prefix ++ tail ≡ (front ++ end) ++ following = regrouped (between_text prefix) (start_text prefix level) text others (end ++ following) ∙ sym (append_assoc front end following) in
    subst (λ (l : List ℕ). ends_definition l ≡ true) same
    (both (ends_word (between_text prefix ++ tail)) (begins_definition (between_text prefix ++ tail)) (between_ends prefix tail) (next_begins prefix level d (others ++ (end ++ following)) white))

abbrev AreDefinitions : {P Q : Type 0} → List (DefinitionTree Q) → List (DefinitionTree P) → Type 0
AreDefinitions ds xs = unplaced_document xs ≡ unplaced_document ds

one_more : {A : Type 0} (x y : A) (xs ys : List A) → x ≡ y → xs ≡ ys → (x ∷ xs) ≡ (y ∷ ys)
one_more x y xs ys e f = rw e (rw f refl)

module _ {P Q : Type 0} (m : Meaning P) (lits : LiteralsRead m.string) (prefix : Prefix) (white : is_white_prefix prefix ≡ true) where
  rest_read : (ds : List (DefinitionTree Q)) (n level : ℕ) → list_all definition_well_formed ds ≡ true → list_all definition_writable ds ≡ true → depths definition_depth ds ≤ n
      → Printed (many (definition m n)) (AreDefinitions ds) ends_definition (rest_text prefix level ds)
  unfolding joined
  rest_read [] n level h w le = ignored (end_text prefix) (end_ignored prefix) (saying (AreDefinitions {Q = Q} []) (λ xs e. ap (λ l. unplaced_document l) e) (no_more (definition m n) ends_definition))
  rest_read (d ∷ ds) n level h w le =
      let (h1, h2) = and_parts (definition_well_formed d) (list_all definition_well_formed ds) h in
      let (w1, w2) = and_parts (definition_writable d) (list_all definition_writable ds) w in
      as_text _ (regrouped (between_text prefix) (start_text prefix level) (definition_text false prefix d level) (joined (map (next_definition_text prefix level) ds)) (end_text prefix ++ []))
      (ignored (between_text prefix) (between_ignored prefix)
      (ignored (start_text prefix level) (start_ignored prefix level white)
      (more {f = ends_definition} (AreDefinitions (d ∷ ds)) (λ x xs this others. one_more (unplaced_definition x) (unplaced_definition d) (unplaced_document xs) (unplaced_document ds) this others)
      (λ following fine. rest_ends prefix level ds following white fine)
      (definition_read m lits prefix white false d n level h1 w1 (omega arith)) (rest_read ds n level h2 w2 (omega arith)))))

  pub document_read : (d : DefinitionTree Q) (ds : List (DefinitionTree Q)) (n level : ℕ) → list_all definition_well_formed (d ∷ ds) ≡ true → list_all definition_writable (d ∷ ds) ≡ true → depths definition_depth (d ∷ ds) ≤ n
      → Printed (document m n) (AreDefinitions (d ∷ ds)) ends_definition (document_text prefix level (d ∷ ds))
  unfolding joined document
  document_read d ds n level h w le =
      let (h1, h2) = and_parts (definition_well_formed d) (list_all definition_well_formed ds) h in
      let (w1, w2) = and_parts (definition_writable d) (list_all definition_writable ds) w in
      ignored (start_text prefix level) (start_ignored prefix level white)
      (one_or_more {f = ends_definition} (AreDefinitions (d ∷ ds)) (λ x xs this others. one_more (unplaced_definition x) (unplaced_definition d) (unplaced_document xs) (unplaced_document ds) this others)
      (λ following fine. rest_ends prefix level ds following white fine)
      (definition_read m lits prefix white (begins_output prefix level) d n level h1 w1 (omega arith)) (rest_read ds n level h2 w2 (omega arith)))
