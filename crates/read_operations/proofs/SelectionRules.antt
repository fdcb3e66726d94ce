-- Selections are read part by part.
use Rattle.std.proofs.Common.{◌≡◌, ◌⊎◌, ℕ, Bool, true, false, cond, Option, Result, Ok, Err, inl, inr, refl, ap, ◌∙◌}
use Rattle.std.specs.Prelude.{[], unwrap_or}
use Rattle.graphql_names.specs.Node.{content, place}
use Rattle.graphql_names.specs.declared.node.Node.{Node}
use Rattle.graphql_names.specs.Placed.{Placed, Place, Text, name_tree}
use Rattle.tree_directives.specs.DirectiveTree.{Arguments, Directives, directives_tree}
use Rattle.tree_operations.specs.SelectionTree.{SelectionTree, SelectionTrees, SpreadTree, InlineTree, AtPlace, field_step, inline_step, selection_step, selection_tree}
use Rattle.tree_operations.specs.declared.selection.Selection.{Selection}
use Rattle.tree_operations.specs.declared.selection.Field.{Field}
use Rattle.tree_operations.specs.declared.selection.FragmentSpread.{FragmentSpread}
use Rattle.tree_operations.specs.declared.selection.InlineFragment.{InlineFragment}
use Rattle.tree_operations.specs.declared.selection.Selection.TheVariants.{FragmentSpread as Spread}
use Rattle.tree_operations.specs.declared.selection.Selection.TheViews.{outs-FragmentSpread}
use Rattle.tree_operations.specs.declared.selection.Selection.TheFolds.{map-Selection, fold_out-Selection}
use Rattle.tree_operations.proofs.SelectionTrees.{field_at, inline_at}
use Rattle.read_tokens.specs.Input.{Input, next}
use Rattle.read_grammar.specs.Meaning.{Meaning, begin_of, place_between}
use Rattle.read_grammar.specs.Kinds.{next_is, is_on, is_at, is_spread, is_fragment_name, is_name, is_open_paren, is_open_brace}
use Rattle.read_grammar.specs.OperationGrammar.{field_of}
use Rattle.read_grammar.specs.OperationReading as o
use Rattle.read_grammar.specs.OperationReading.{Dotted, dotted_of}
use Rattle.read_grammar.specs.Reading.{Outcome, Parser, Reads, and_then, mark, try, ◌⊙◌}
use Rattle.read_grammar.specs.ValueGrammar.{with_variables}
use Rattle.read_grammar.specs.ValueReading.{arguments, directives}
use Rattle.read_grammar.specs.declared.parse_error.ParseError.{ParseError}
use Rattle.read_operations.specs.PartViews.{Ends}
use Rattle.read_operations.specs.SelectionSteps.{FieldRead, InlineRead, field_with, inline_with, field_head, spread_parts, inline_head, inline_parts, spread_since, inline_since, spread_or_inline}

abbrev done : {A : Type 0} → A → Input → Outcome A
done x z = Ok (x, z)

module _ {P : Type 0} (m : Meaning P) where
  abbrev AllRead : Type 0
  AllRead = (Option (Text P) × Text P) × (Option (Arguments P) × (Option (Directives P) × Option (SelectionTrees P)))

  abbrev ordered : AllRead → Option (Text P) × (Text P × (Option (Arguments P) × (Option (Directives P) × Option (SelectionTrees P))))
  ordered x = (x.0.0, (x.0.1, x.1))

  abbrev put : {A : Type 0} → A → P → Placed P A
  put x p = record { it = x; place = p }

  abbrev field_end : Input → Outcome AllRead → Outcome (SelectionTree P)
  field_end i y = and_then (and_then (and_then y (λ x z. done (ordered x) z)) (λ x z. done (put x (place_between m i z)) z)) (λ x z. done (field_of x) z)

  -- what is left of a field that begins at this offset, by what was read of it
  abbrev pub field_rest : ℕ → Parser (SelectionTrees P) → FieldRead P → Parser (SelectionTree P)
  field_rest begin s x k = and_then (try is_open_brace s k) (λ t z. done (field_with (m.place begin z.last) x t) z)

  pub field_is : (n : ℕ) (s : Parser (SelectionTrees P)) (i : Input) → o.field m n s i ≡ and_then (field_head m n i) (field_rest (begin_of i.ahead) s)
  unfolding o.field
  field_is n s i = named (o.alias_and_name m i)
    where
      set : (x : FieldRead P) (y : Outcome (Option (SelectionTrees P)))
          → field_end i (and_then (and_then (and_then y (λ t z. done (x.1.1, t) z)) (λ t z. done (x.1.0, t) z)) (λ t z. done (x.0, t) z)) ≡ and_then y (λ t z. done (field_with (place_between m i z) x t) z)
      set x (Ok t) = refl
      set x (Err e) = refl

      directed : (x : Option (Text P) × Text P) (a : Option (Arguments P)) (y : Outcome (Option (Directives P)))
          → field_end i (and_then (and_then (and_then y (λ d k. and_then (try is_open_brace s k) (λ t z. done (d, t) z))) (λ t z. done (a, t) z)) (λ t z. done (x, t) z))
          ≡ and_then (and_then (and_then y (λ d z. done (a, d) z)) (λ t z. done (x, t) z)) (field_rest (begin_of i.ahead) s)
      directed x a (Ok d) = set (x, (a, d.0)) (try is_open_brace s d.1)
      directed x a (Err e) = refl

      argued : (x : Option (Text P) × Text P) (y : Outcome (Option (Arguments P)))
          → field_end i (and_then (and_then y (λ a k. and_then ((try is_at (directives m with_variables n) ⊙ try is_open_brace s) k) (λ t z. done (a, t) z))) (λ t z. done (x, t) z))
          ≡ and_then (and_then (and_then y (λ a k. and_then (try is_at (directives m with_variables n) k) (λ d z. done (a, d) z))) (λ t z. done (x, t) z)) (field_rest (begin_of i.ahead) s)
      argued x (Ok a) = directed x a.0 (try is_at (directives m with_variables n) a.1)
      argued x (Err e) = refl

      named : (y : Outcome (Option (Text P) × Text P))
          → field_end i (and_then y (λ x k. and_then ((try is_open_paren (arguments m with_variables n) ⊙ try is_at (directives m with_variables n) ⊙ try is_open_brace s) k) (λ t z. done (x, t) z)))
          ≡ and_then (and_then y (λ x k. and_then ((try is_open_paren (arguments m with_variables n) ⊙ try is_at (directives m with_variables n)) k) (λ t z. done (x, t) z))) (field_rest (begin_of i.ahead) s)
      named (Ok x) = argued x.0 (try is_open_paren (arguments m with_variables n) x.1)
      named (Err e) = refl

  abbrev pub spread_from : Input → Outcome (Text P × Directives P) → Outcome (SelectionTree P)
  spread_from i y = and_then y (λ s z. done (SpreadTree (place_between m i z) s.0 s.1) z)

  abbrev pub inline_from : Input → Outcome (Option (Text P) × (Directives P × SelectionTrees P)) → Outcome (SelectionTree P)
  inline_from i y = and_then y (λ f z. done (InlineTree (place_between m i z) f.0 f.1.0 f.1.1) z)

  abbrev pub spread_or_inline_from : ℕ → Parser (SelectionTrees P) → Input → Outcome (Unit {0}) → Outcome (SelectionTree P)
  spread_or_inline_from n s i y = and_then y (λ u k. cond (next_is is_fragment_name (next k)) (spread_from i (spread_parts m n k)) (inline_from i (inline_parts m n s k)))

  abbrev SpreadRead : Type 0
  SpreadRead = Text P × Option (Directives P)

  abbrev AllInline : Type 0
  AllInline = Option (Text P) × (Option (Directives P) × SelectionTrees P)

  abbrev either_way : SpreadRead ⊎ AllInline → Dotted P
  either_way x = x

  abbrev finish : Input → Unit {0} → Outcome (Dotted P) → Outcome (SelectionTree P)
  finish i u y = and_then (and_then (and_then y (λ x z. done (u, x) z)) (λ x z. done (put x (place_between m i z)) z)) (λ x z. done (dotted_of x) z)

  spread_or_inline_is : (n : ℕ) (s : Parser (SelectionTrees P)) (i : Input) → spread_or_inline m n s i ≡ spread_or_inline_from n s i (mark is_spread i)
  unfolding o.dotted
  spread_or_inline_is n s i = go (mark is_spread i)
    where
      two : (u : Unit {0}) (t : Bool) (a : Outcome SpreadRead) (b : Outcome AllInline)
          → finish i u (cond t (and_then a (λ x z. done (either_way (inl x)) z)) (and_then b (λ x z. done (either_way (inr x)) z))) ≡ cond t (spread_from i (and_then a (λ x z. done (x.0, unwrap_or x.1 []) z))) (inline_from i (and_then b (λ x z. done (x.0, (unwrap_or x.1.0 [], x.1.1)) z)))
      two u true (Ok x) b = refl
      two u true (Err e) b = refl
      two u false a (Ok x) = refl
      two u false a (Err e) = refl

      go : (y : Outcome (Unit {0})) → and_then (and_then (and_then y (λ u k. and_then (o.dotted m n s k) (λ x z. done (u, x) z))) (λ x z. done (put x (place_between m i z)) z)) (λ x z. done (dotted_of x) z) ≡ spread_or_inline_from n s i y
      go (Err e) = refl
      go (Ok k) = two k.0 (next_is is_fragment_name (next k.1)) ((o.fragment_name m ⊙ try is_at (directives m with_variables n)) k.1) ((try is_on (o.type_condition m) ⊙ try is_at (directives m with_variables n) ⊙ s) k.1)

  pub spread_or_inline_spread : (n : ℕ) (s : Parser (SelectionTrees P)) (i k : Input) → mark is_spread i ≡ Ok (tt, k) → next_is is_fragment_name (next k) ≡ true → spread_or_inline m n s i ≡ spread_since m (begin_of i.ahead) n k
  spread_or_inline_spread n s i k read goes = spread_or_inline_is n s i ∙ rw (read, goes) refl

  pub spread_or_inline_inline : (n : ℕ) (s : Parser (SelectionTrees P)) (i k : Input) → mark is_spread i ≡ Ok (tt, k) → next_is is_fragment_name (next k) ≡ false → spread_or_inline m n s i ≡ inline_since m (begin_of i.ahead) n s k
  spread_or_inline_inline n s i k read other = spread_or_inline_is n s i ∙ rw (read, other) refl

  -- what is left of an inline fragment that begins at this offset, by what was read of it
  abbrev pub inline_rest : ℕ → Parser (SelectionTrees P) → InlineRead P → Parser (SelectionTree P)
  inline_rest begin s x k = and_then (s k) (λ t z. done (inline_with (m.place begin z.last) x t) z)

  pub inline_is : (begin n : ℕ) (s : Parser (SelectionTrees P)) (i : Input)
      → inline_since m begin n s i ≡ and_then (inline_head m n i) (inline_rest begin s)
  inline_is begin n s i = conditioned (try is_on (o.type_condition m) i)
    where
      headed : Option (Text P) → Outcome (Option (Directives P)) → Outcome (InlineRead P)
      headed c y = and_then y (λ d z. done (c, d) z)

      finished : Option (Text P) → Outcome (Option (Directives P) × SelectionTrees P) → Outcome AllInline
      finished c y = and_then y (λ t z. done (c, t) z)

      parts : AllInline → Option (Text P) × (Directives P × SelectionTrees P)
      parts x = (x.0, (unwrap_or x.1.0 [], x.1.1))

      whole : Outcome AllInline → Outcome (SelectionTree P)
      whole y = and_then (and_then y (λ x z. done (parts x) z)) (λ x z. done (InlineTree (m.place begin z.last) x.0 x.1.0 x.1.1) z)

      set : (c : Option (Text P)) (d : Option (Directives P)) (y : Outcome (SelectionTrees P))
          → whole (finished c (and_then y (λ t z. done (d, t) z))) ≡ and_then y (λ t z. done (inline_with (m.place begin z.last) (c, d) t) z)
      set c d (Ok t) = refl
      set c d (Err e) = refl

      directed : (c : Option (Text P)) (y : Outcome (Option (Directives P)))
          → whole (finished c (and_then y (λ d k. and_then (s k) (λ t z. done (d, t) z)))) ≡ and_then (headed c y) (inline_rest begin s)
      directed c (Ok d) = set c d.0 (s d.1)
      directed c (Err e) = refl

      conditioned : (y : Outcome (Option (Text P)))
          → whole (and_then y (λ c k. finished c ((try is_at (directives m with_variables n) ⊙ s) k))) ≡ and_then (and_then y (λ c k. headed c (try is_at (directives m with_variables n) k))) (inline_rest begin s)
      conditioned (Ok c) = directed c.0 (try is_at (directives m with_variables n) c.1)
      conditioned (Err e) = refl

  pub selection_field : (n : ℕ) (s : Parser (SelectionTrees P)) (i : Input) → next_is is_name (next i) ≡ true → o.selection m n s i ≡ o.field m n s i
  unfolding o.selection
  selection_field n s i h = rw h refl

  pub selection_spread_or_inline : (n : ℕ) (s : Parser (SelectionTrees P)) (i : Input) → next_is is_name (next i) ≡ false → o.selection m n s i ≡ spread_or_inline m n s i
  unfolding o.selection
  selection_spread_or_inline n s i h = rw h refl

-- what a selection is of those in it, by what their reading came to
pub ends_reads : {X A : Type 0} (view : X → A) (whole : Input → A → SelectionTree Place) (y : Outcome A) (r : Result X ParseError) (z : Input) (found : Result Selection ParseError)
    → Reads view y r z → Ends view (whole z) r found → Reads selection_tree (and_then y (λ t w. done (whole w t) w)) found z
ends_reads view whole y (Ok x) z (Ok s) is ends = rw (is, ends) refl
ends_reads view whole y (Ok x) z (Err e) is ends = λ other. absurd (other ends)
ends_reads view whole y (Err stop) z (Ok s) is ends = absurd ends
ends_reads view whole y (Err stop) z (Err e) is ends = λ other. rw (ends, is (λ h. other (ends ∙ h))) refl

-- the tree of a fragment spread
pub selection_tree_spread : (n : Node FragmentSpread) → selection_tree (Spread n) ≡ SpreadTree (place n) (name_tree (content n).fragment_name) (directives_tree (content n).directives)
selection_tree_spread n =
    fold_out-Selection (SelectionTree Place) AtPlace AtPlace selection_step field_step inline_step (Spread n)
    ∙ ap (λ x. selection_step (map-Selection Selection Field InlineFragment (SelectionTree Place) AtPlace AtPlace selection_tree field_at inline_at x)) (outs-FragmentSpread n)
