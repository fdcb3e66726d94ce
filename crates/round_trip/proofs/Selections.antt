-- Selections are read as they are printed, under both kinds of layout.
use Rattle.std.proofs.Common.{◌≡◌, ◌≤◌, ◌+◌, ℕ, zero, suc, true, ◌&&◌, List, [], ◌∷◌, ◌++◌, codes, Option, Some, None, unwrap_or, option_map, refl, sym, ap, ◌∙◌, append_assoc, append-nil, arith}
use Rattle.std.proofs.lemmas.Bool.{and_parts}
use Rattle.graphql_names.specs.NameSyntax as names
use Rattle.round_trip.specs.in_literals.Joined.{joined}
use Rattle.round_trip.specs.in_literals.LineLayout.{Prefix, start_text, members_text, braced_text, set_text, texts_of}
use Rattle.read_operations.specs.in_directives.DirectiveLayout.{argument_text, arguments_text, directives_text}
use Rattle.read_operations.specs.in_operations.OperationLayout.{alias_text, condition_text, spread_text, selection_text, selection_texts}
use Rattle.graphql_names.specs.Placed.{Text, unplaced_text}
use Rattle.read_operations.specs.in_values.Writable.{directives_writable, can_be_fragment, head_writable, has_selection, selection_writable, selections_writable}
use Rattle.read_operations.specs.in_directives.DirectiveTree.{Arguments, Directives}
use Rattle.read_operations.specs.in_operations.SelectionTree.{FieldHead, SelectionTree, FieldTree, SpreadTree, InlineTree, SelectionTrees, no_selections, selection_then, unplaced_selection, unplaced_selections}
use Rattle.read_operations.specs.in_tokens.declared.token.TokenKind.TheVariants as t
use Rattle.read_operations.specs.in_tokens.Terminals.{words, terminal_of}
use Rattle.read_operations.specs.in_grammar.Meaning.{Meaning}
use Rattle.read_operations.specs.in_grammar.Kinds.{is_fragment_name, is_on}
use Rattle.read_operations.specs.in_grammar.Rules.{Rule, ◌·◌, ◌∣◌, optional, many}
use Rattle.read_operations.specs.in_grammar.ValueGrammar.{with_variables}
use Rattle.read_operations.specs.in_grammar.OperationGrammar.{selections_of, field_of, spread_of, inline_of, alias, field, type_condition, fragment_spread, inline_fragment, selection, selection_list, selection_set, selections}
use Rattle.round_trip.specs.Printed.{Follow, any, ends_word, Printed}
use Rattle.round_trip.specs.Literals.{LiteralsRead}
use Rattle.round_trip.specs.SelectionsLayout.{selections_text}
use Rattle.round_trip.specs.WellFormed.{is_white_prefix, name_well_formed, directives_well_formed, head_well_formed, selection_well_formed, selections_well_formed, directives_depth, head_depth, selection_depth, selections_depth}
use Rattle.round_trip.proofs.Sequences.{ends_before, seq, seq_word, mapped, left, right, placed, ignored, given, left_out, more, one_or_more, no_more, as_text, nothing_more, saying, before_any}
use Rattle.round_trip.proofs.Tokens.{any_name, named, keyword, spelled_passes}
use Rattle.round_trip.proofs.Punctuators.{colon, spread}
use Rattle.round_trip.proofs.Literals.{not_word}
use Rattle.round_trip.proofs.Nodes.{parenthesized_ends}
use Rattle.round_trip.proofs.Directives.{arguments_read, directives_read, directives_end}
use Rattle.round_trip.proofs.Lines.{start_ignored, break_ignored, set_ends, members_is, members_end, some_of_many, braced, in_braces}

-- the selection, and the selections, ignoring places
abbrev pub IsSelection : {P : Type 0} → SelectionTree (Unit {0}) → SelectionTree P → Type 0
IsSelection t x = unplaced_selection x ≡ t

abbrev pub AreSelections : {P : Type 0} → SelectionTrees (Unit {0}) → List (SelectionTree P) → Type 0
AreSelections ts xs = unplaced_selections (selections_of xs) ≡ ts

abbrev pub IsSet : {P : Type 0} → SelectionTrees (Unit {0}) → SelectionTrees P → Type 0
IsSet ts x = unplaced_selections x ≡ ts

abbrev pub IsAnySet : {P : Type 0} → SelectionTrees (Unit {0}) → Option (SelectionTrees P) → Type 0
IsAnySet ts o = unplaced_selections (unwrap_or o no_selections) ≡ ts

-- a name that may be left out, ignoring places
abbrev pub IsAnyName : {P : Type 0} → Option (Text (Unit {0})) → Option (Text P) → Type 0
IsAnyName n o = option_map unplaced_text o ≡ n

pub some_name : {P : Type 0} (o : Option (Text P)) (x : Text P) (n : List ℕ) → o ≡ Some x → x.it ≡ n → option_map unplaced_text o ≡ Some (record { it = n; place = tt })
some_name o x n e f = rw e (rw f refl)

abbrev head_with : Option (Text (Unit {0})) → List ℕ → Arguments (Unit {0}) → Directives (Unit {0}) → FieldHead (Unit {0})
head_with a n as' ds = record { alias = a; name = record { it = n; place = tt }; arguments = as'; directives = ds }

one_field : (a b : Option (Text (Unit {0}))) (l n : List ℕ) (as' bs : Arguments (Unit {0})) (ds es : Directives (Unit {0})) (ts us : SelectionTrees (Unit {0})) → a ≡ b → l ≡ n → as' ≡ bs → ds ≡ es → ts ≡ us → FieldTree tt (head_with a l as' ds) ts ≡ FieldTree tt (head_with b n bs es) us
one_field a b l n as' bs ds es ts us e1 e2 e3 e4 e5 = rw e1 (rw e2 (rw e3 (rw e4 (rw e5 refl))))

abbrev spread_with : List ℕ → Directives (Unit {0}) → SelectionTree (Unit {0})
spread_with n ds = SpreadTree tt (record { it = n; place = tt }) ds

one_spread : (l n : List ℕ) (ds es : Directives (Unit {0})) → l ≡ n → ds ≡ es → spread_with l ds ≡ spread_with n es
one_spread l n ds es e f = rw e (rw f refl)

one_inline : (a b : Option (Text (Unit {0}))) (ds es : Directives (Unit {0})) (ts us : SelectionTrees (Unit {0})) → a ≡ b → ds ≡ es → ts ≡ us → InlineTree tt a ds ts ≡ InlineTree tt b es us
one_inline a b ds es ts us e f g = rw e (rw f (rw g refl))

pub one_selection : (x y : SelectionTree (Unit {0})) (xs ys : SelectionTrees (Unit {0})) → x ≡ y → xs ≡ ys → selection_then x xs ≡ selection_then y ys
one_selection x y xs ys e f = rw e (rw f refl)

never_none : (P : Type 0) (x : SelectionTree (Unit {0})) (xs : SelectionTrees (Unit {0})) → AreSelections {P = P} (selection_then x xs) [] → ⊥
never_none P x xs e = cc

-- a text that can name a fragment is a fragment's name
pub spelled_fragment : (text : List ℕ) → can_be_fragment text ≡ true → is_fragment_name (terminal_of t.Name text) ≡ true
unfolding words
spelled_fragment text h = spelled_passes is_fragment_name words text refl (rw (not_word (codes "on") text h) refl)

abbrev pub tail_of : List ℕ → List ℕ → List ℕ
tail_of ds set = ds ++ (set ++ [])

module _ {P Q : Type 0} (m : Meaning P) (lits : LiteralsRead m.string) where
  -- `alias:`, then a rule
  alias_read : {B : Type 0} {s : Rule B} {tells : B → Type 0} {f : Follow} {b : List ℕ} (a : Option (Text Q)) → name_well_formed a ≡ true → Printed s tells f b → Printed (optional (alias m) · s) (λ x. IsAnyName (option_map unplaced_text a) x.0 × tells x.1) f (alias_text a ++ b)
  unfolding joined
  alias_read {B} {s} {tells} {f} {b} None h p =
      seq {f = any} (λ following fine. refl) (saying (IsAnyName None) (λ o e. ap (λ (l : Option (Text P)). option_map unplaced_text l) e) (left_out (alias m) any)) p
  alias_read {B} {s} {tells} {f} {b} (Some n) h p =
      as_text _ (append_assoc n.it (58 ∷ []) (32 ∷ b) ∙ sym (append_assoc n.it (58 ∷ 32 ∷ []) b))
      (seq {f = any} (λ following fine. refl)
      (saying (IsAnyName (Some (unplaced_text n))) (λ o e. some_name o e.0 n.it e.1 e.2)
      (given (mapped (λ x. x.0) (λ x. x.it ≡ n.it) (λ x said. said.0) (seq {f = ends_word} (λ following fine. refl) (any_name m n.it h) colon))))
      (ignored (32 ∷ []) refl p))

  -- on condition
  condition_read : (c : Option (Text Q)) → name_well_formed c ≡ true → Printed (optional (type_condition m)) (IsAnyName (option_map unplaced_text c)) ends_word (condition_text c)
  unfolding joined words
  condition_read None h = saying (IsAnyName None) (λ o e. ap (λ (l : Option (Text P)). option_map unplaced_text l) e) (left_out (type_condition m) ends_word)
  condition_read (Some n) h =
      saying (IsAnyName (Some (unplaced_text n))) (λ o e. some_name o e.0 n.it e.1 e.2)
      (given
      (ignored (32 ∷ []) refl
      (mapped (λ x. x.1) (λ x. x.it ≡ n.it) (λ x said. said.1)
      (seq {f = ends_word} (λ following fine. refl) (keyword is_on (codes "on") refl refl) (ignored (32 ∷ []) refl (nothing_more (any_name m n.it h)))))))

  condition_ends : (c : Option (Text Q)) → ends_word (condition_text c) ≡ true
  unfolding joined
  condition_ends None = refl
  condition_ends (Some n) = refl

  arguments_end : (as' : Arguments Q) → ends_word (arguments_text as') ≡ true
  arguments_end as' = parenthesized_ends (texts_of argument_text as')

  -- a field, where its selections are read
  field_read : (n : ℕ) (set : Rule (SelectionTrees P)) (p : Q) (f : FieldHead Q) (ts : SelectionTrees Q) (text : List ℕ) → head_well_formed f ≡ true → head_writable f ≡ true → head_depth f ≤ n → ends_word text ≡ true
      → Printed (optional set) (IsAnySet (unplaced_selections ts)) ends_word text
      → Printed (field m n set) (IsSelection (unplaced_selection (FieldTree p f ts))) ends_word (alias_text f.alias ++ (f.name.it ++ (arguments_text f.arguments ++ tail_of (directives_text f.directives) text)))
  unfolding field
  field_read n set p f ts text h w le ends q =
      let (h123, h4) = and_parts _ _ h in
      let (h12, h3) = and_parts _ _ h123 in
      let (h1, h2) = and_parts _ _ h12 in
      let (w1, w2) = and_parts _ _ w in
      let end1 : ends_word (text ++ []) ≡ true = ends_before text [] ends refl in
      let end2 : ends_word (tail_of (directives_text f.directives) text) ≡ true = ends_before (directives_text f.directives) (text ++ []) (directives_end m lits f.directives) end1 in
      let end3 : ends_word (arguments_text f.arguments ++ tail_of (directives_text f.directives) text) ≡ true = ends_before (arguments_text f.arguments) _ (arguments_end f.arguments) end2 in
      mapped field_of (IsSelection (unplaced_selection (FieldTree p f ts))) (λ x said. one_field _ _ _ _ _ _ _ _ _ _ said.0 said.1.0 said.1.1.0 said.1.1.1.0 said.1.1.1.1)
      (placed m
      (alias_read f.alias h1
      (seq_word end3 (any_name m f.name.it h2)
      (seq_word end2 (arguments_read m lits with_variables f.arguments n h3 w1 (omega arith))
      (seq_word end1 (directives_read m lits with_variables f.directives n h4 w2 (omega arith))
      (nothing_more q))))))

  spread_read : (n : ℕ) (p : Q) (x : Text Q) (ds : Directives Q) → names.is_name x.it ≡ true → can_be_fragment x.it ≡ true → directives_well_formed ds ≡ true → directives_writable with_variables ds ≡ true → directives_depth ds ≤ n
      → Printed (fragment_spread m n) (IsSelection (unplaced_selection (SpreadTree p x ds))) ends_word (spread_text x ds)
  unfolding fragment_spread joined
  spread_read n p x ds h1 w1 h2 w2 le =
      mapped spread_of (IsSelection (unplaced_selection (SpreadTree p x ds))) (λ y said. one_spread _ _ _ _ said.1.0 said.1.1)
      (placed m
      (seq {f = any} (λ following fine. refl) spread
      (seq_word (ends_before (directives_text ds) [] (directives_end m lits ds) refl) (named m is_fragment_name x.it h1 (spelled_fragment x.it w1))
      (nothing_more (directives_read m lits with_variables ds n h2 w2 le)))))

  inline_read : (n : ℕ) (set : Rule (SelectionTrees P)) (p : Q) (c : Option (Text Q)) (ds : Directives Q) (ts : SelectionTrees Q) (text : List ℕ) → name_well_formed c ≡ true → directives_well_formed ds ≡ true → directives_writable with_variables ds ≡ true
      → directives_depth ds ≤ n → ends_word text ≡ true → Printed set (IsSet (unplaced_selections ts)) ends_word text
      → Printed (inline_fragment m n set) (IsSelection (unplaced_selection (InlineTree p c ds ts))) ends_word (46 ∷ 46 ∷ 46 ∷ (condition_text c ++ tail_of (directives_text ds) text))
  unfolding inline_fragment
  inline_read n set p c ds ts text h1 h2 w2 le ends q =
      let end1 : ends_word (text ++ []) ≡ true = ends_before text [] ends refl in
      let end2 : ends_word (tail_of (directives_text ds) text) ≡ true = ends_before (directives_text ds) (text ++ []) (directives_end m lits ds) end1 in
      mapped inline_of (IsSelection (unplaced_selection (InlineTree p c ds ts))) (λ y said. one_inline _ _ _ _ _ _ said.1.0 said.1.1.0 said.1.1.1)
      (placed m
      (seq {f = any} (λ following fine. refl) spread
      (seq_word end2 (condition_read c h1)
      (seq_word end1 (directives_read m lits with_variables ds n h2 w2 le)
      (nothing_more q)))))

  -- ---- sets of selections

  -- { selections }, where these are read
  set_read : (prefix : Prefix) (n level : ℕ) (x : SelectionTree Q) (ts : SelectionTrees Q) → is_white_prefix prefix ≡ true
      → Printed (many (selection m n (selection_set m n))) (AreSelections (unplaced_selections (selection_then x ts))) ends_word (members_text prefix (level + 1) (selection_texts prefix (selection_then x ts)))
      → Printed (selection_set m (suc n)) (IsSet (unplaced_selections (selection_then x ts))) any (set_text prefix level (selection_texts prefix (selection_then x ts)))
  unfolding selection_set selection_list
  set_read prefix n level x ts white p =
      in_braces prefix level (selection_text prefix x) (selection_texts prefix ts) white
      (mapped selections_of (IsSet (unplaced_selections (selection_then x ts))) (λ xs said. said)
      (some_of_many (never_none P (unplaced_selection x) (unplaced_selections ts)) p))

  -- the same at the start of a text
  pub bare_set_read : (prefix : Prefix) (n level : ℕ) (ts : SelectionTrees Q) → is_white_prefix prefix ≡ true → has_selection ts ≡ true
      → Printed (many (selection m n (selection_set m n))) (AreSelections (unplaced_selections ts)) ends_word (members_text prefix (level + 1) (selection_texts prefix ts))
      → Printed (selection_set m (suc n)) (IsSet (unplaced_selections ts)) any (braced_text prefix level (selection_texts prefix ts))
  unfolding selection_set selection_list
  bare_set_read prefix n level no_selections white has p = absurd cc
  bare_set_read prefix n level (selection_then x ts) white has p =
      braced prefix level (selection_text prefix x) (selection_texts prefix ts) white
      (mapped selections_of (IsSet (unplaced_selections (selection_then x ts))) (λ xs said. said)
      (some_of_many (never_none P (unplaced_selection x) (unplaced_selections ts)) p))

  any_set_read : (prefix : Prefix) (n level : ℕ) (ts : SelectionTrees Q) → is_white_prefix prefix ≡ true
      → Printed (many (selection m n (selection_set m n))) (AreSelections (unplaced_selections ts)) ends_word (members_text prefix (level + 1) (selection_texts prefix ts))
      → Printed (optional (selection_set m (suc n))) (IsAnySet (unplaced_selections ts)) ends_word (set_text prefix level (selection_texts prefix ts))
  unfolding joined
  any_set_read prefix n level no_selections white p =
      saying (IsAnySet no_selections) (λ o e. ap (λ (l : Option (SelectionTrees P)). unplaced_selections (unwrap_or l no_selections)) e) (left_out (selection_set m (suc n)) ends_word)
  any_set_read prefix n level (selection_then x ts) white p =
      saying (IsAnySet (unplaced_selections (selection_then x ts))) (λ o e. ap (λ (l : Option (SelectionTrees P)). unplaced_selections (unwrap_or l no_selections)) e.1 ∙ e.2)
      (given (before_any (set_read prefix n level x ts white p)))

  pub full_set_read : (prefix : Prefix) (n level : ℕ) (ts : SelectionTrees Q) → is_white_prefix prefix ≡ true → has_selection ts ≡ true
      → Printed (many (selection m n (selection_set m n))) (AreSelections (unplaced_selections ts)) ends_word (members_text prefix (level + 1) (selection_texts prefix ts))
      → Printed (selection_set m (suc n)) (IsSet (unplaced_selections ts)) ends_word (set_text prefix level (selection_texts prefix ts))
  full_set_read prefix n level no_selections white has p = absurd cc
  full_set_read prefix n level (selection_then x ts) white has p = before_any (set_read prefix n level x ts white p)

  selection_more : (prefix : Prefix) (n level : ℕ) (x : SelectionTree Q) (ts : SelectionTrees Q) → is_white_prefix prefix ≡ true
      → Printed (selection m n (selection_set m n)) (IsSelection (unplaced_selection x)) ends_word (selection_text prefix x level)
      → Printed (many (selection m n (selection_set m n))) (AreSelections (unplaced_selections ts)) ends_word (members_text prefix level (selection_texts prefix ts))
      → Printed (many (selection m n (selection_set m n))) (AreSelections (unplaced_selections (selection_then x ts))) ends_word (members_text prefix level (selection_texts prefix (selection_then x ts)))
  selection_more prefix n level x ts white p q =
      as_text _ (members_is prefix level (selection_text prefix x) (selection_texts prefix ts))
      (ignored _ (break_ignored prefix level white)
      (more {f = ends_word} (AreSelections (unplaced_selections (selection_then x ts))) (λ y ys e f. one_selection (unplaced_selection y) (unplaced_selection x) (unplaced_selections (selections_of ys)) (unplaced_selections ts) e f)
      (λ following fine. members_end prefix level (selection_texts prefix ts) following fine) p q))

  module _ (prefix : Prefix) (white : is_white_prefix prefix ≡ true) where
    mutual
      unfolding joined selection

      pub selection_read : (t : SelectionTree Q) (n level : ℕ) → selection_well_formed t ≡ true → selection_writable t ≡ true → selection_depth t ≤ n → Printed (selection m n (selection_set m n)) (IsSelection (unplaced_selection t)) ends_word (selection_text prefix t level)
      selection_read (FieldTree p f ts) zero level h w le = absurd (omega arith)
      selection_read (FieldTree p f ts) (suc n) level h w le =
          let (h1, h2) = and_parts (head_well_formed f) (selections_well_formed ts) h in
          let (w1, w2) = and_parts (head_writable f) (selections_writable ts) w in
          left (fragment_spread m (suc n) ∣ inline_fragment m (suc n) (selection_set m (suc n)))
          (field_read (suc n) (selection_set m (suc n)) p f ts (set_text prefix level (selection_texts prefix ts)) h1 w1 (omega arith) (set_ends prefix level (selection_texts prefix ts))
          (any_set_read prefix n level ts white (selections_read ts n (level + 1) h2 w2 (omega arith))))
      selection_read (SpreadTree p x ds) n level h w le =
          let (h1, h2) = and_parts (names.is_name x.it) (directives_well_formed ds) h in
          let (w1, w2) = and_parts (can_be_fragment x.it) (directives_writable with_variables ds) w in
          right (field m n (selection_set m n)) (left (inline_fragment m n (selection_set m n)) (spread_read n p x ds h1 w1 h2 w2 le))
      selection_read (InlineTree p c ds ts) zero level h w le = absurd (omega arith)
      selection_read (InlineTree p c ds ts) (suc n) level h w le =
          let (h12, h3) = and_parts (name_well_formed c && directives_well_formed ds) (selections_well_formed ts) h in
          let (h1, h2) = and_parts (name_well_formed c) (directives_well_formed ds) h12 in
          let (w12, w3) = and_parts (directives_writable with_variables ds && has_selection ts) (selections_writable ts) w in
          let (w1, w2) = and_parts (directives_writable with_variables ds) (has_selection ts) w12 in
          right (field m (suc n) (selection_set m (suc n))) (right (fragment_spread m (suc n))
          (inline_read (suc n) (selection_set m (suc n)) p c ds ts (set_text prefix level (selection_texts prefix ts)) h1 h2 w1 (omega arith) (set_ends prefix level (selection_texts prefix ts))
          (full_set_read prefix n level ts white w2 (selections_read ts n (level + 1) h3 w3 (omega arith)))))

      pub selections_read : (ts : SelectionTrees Q) (n level : ℕ) → selections_well_formed ts ≡ true → selections_writable ts ≡ true → selections_depth ts ≤ n → Printed (many (selection m n (selection_set m n))) (AreSelections (unplaced_selections ts)) ends_word (members_text prefix level (selection_texts prefix ts))
      selections_read no_selections n level h w le = saying (AreSelections no_selections) (λ xs e. ap (λ l. unplaced_selections (selections_of l)) e) (no_more (selection m n (selection_set m n)) ends_word)
      selections_read (selection_then t ts) n level h w le =
          let (h1, h2) = and_parts (selection_well_formed t) (selections_well_formed ts) h in
          let (w1, w2) = and_parts (selection_writable t) (selections_writable ts) w in
          selection_more prefix n level t ts white (selection_read t n level h1 w1 (omega arith)) (selections_read ts n level h2 w2 (omega arith))

    -- selections without their braces
    pub bare_selections_read : (ts : SelectionTrees Q) (n level : ℕ) → has_selection ts ≡ true → selections_well_formed ts ≡ true → selections_writable ts ≡ true → selections_depth ts ≤ n
        → Printed (selections m n) (IsSet (unplaced_selections ts)) ends_word (selections_text prefix ts level)
    unfolding joined selections selection_list
    bare_selections_read no_selections n level has h w le = absurd cc
    bare_selections_read (selection_then t ts) n level has h w le =
        let (h1, h2) = and_parts (selection_well_formed t) (selections_well_formed ts) h in
        let (w1, w2) = and_parts (selection_writable t) (selections_writable ts) w in
        let others : List ℕ = members_text prefix level (selection_texts prefix ts) in
        ignored (start_text prefix level) (start_ignored prefix level white)
        (as_text _ (ap (λ (l : List ℕ). selection_text prefix t level ++ l) (sym (append-nil others)))
        (mapped selections_of (IsSet (unplaced_selections (selection_then t ts))) (λ xs said. said)
        (one_or_more {f = ends_word} (AreSelections (unplaced_selections (selection_then t ts))) (λ y ys e f. one_selection (unplaced_selection y) (unplaced_selection t) (unplaced_selections (selections_of ys)) (unplaced_selections ts) e f)
        (λ following fine. members_end prefix level (selection_texts prefix ts) following fine) (selection_read t n level h1 w1 (omega arith)) (selections_read ts n level h2 w2 (omega arith)))))
