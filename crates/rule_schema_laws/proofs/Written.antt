-- The text of a value that is good for a type is a literal of it.
use Rattle.std.proofs.Common.{◌≡◌, ℕ, true, List, [], refl, sym, ap, subst, ◌∙◌, append-nil, le_refl}
use Rattle.std.proofs.lemmas.Option.{same_Some}
use Rattle.graphql_names.specs.Placed.{Place}
use Rattle.graphql_names.specs.declared.span.FileId.{FileId}
use Rattle.tree_literals.specs.TypeTree.{TypeTree}
use Rattle.tree_literals.specs.ValueTree.{ValueTree, unplaced_value}
use Rattle.tree_literals.specs.ValueQueries.{is_null_value}
use Rattle.tree_literals.specs.ValueLayout.{value_text}
use Rattle.tree_literals.specs.ValueWritable.{value_writable}
use Rattle.read_operations.specs.in_tokens.Input.{Ended}
use Rattle.read_operations.specs.in_tokens.Lex.{Lex}
use Rattle.read_operations.specs.in_grammar.Rules.{Rule}
use Rattle.read_operations.specs.in_grammar.Grammar.{DerivesAs}
use Rattle.read_operations.specs.in_grammar.ValueGrammar.{value, constant}
use Rattle.read_operations.specs.Meanings.{in_file}
use Rattle.round_trip.specs.in_read.Reads.{HasTree}
use Rattle.round_trip.specs.Printed.{Follow, ends_word, before, Printed}
use Rattle.round_trip.specs.WellFormed.{value_depth}
use Rattle.round_trip.proofs.Alone.{literals_read}
use Rattle.round_trip.proofs.Unplaced.{value_same}
use Rattle.round_trip.proofs.Values.{value_read}
use Rattle.rule_definitions.specs.in_schema_types.SchemaTree.{is_input_kind}
use Rattle.rule_definitions.specs.Judged.{Judged}
use Rattle.rule_definitions.specs.Accepts.{Takes}
use Rattle.rule_schema_laws.specs.Literals.{IsLiteral, InputTypesHaveLiterals}
use Rattle.rule_schema_laws.proofs.Placeless.{none, value_itself, null_same, is_defined, is_taken}
use Rattle.rule_schema_laws.proofs.Keys.{keys_differ, differ_same, no_equal}
use Rattle.rule_schema_laws.proofs.Given.{Good, Grounds, good}

-- a printed text is read as a tree of which this is said
record IsRead {A : Type 0} (symbol : ℕ → Rule A) (says : A → Type 0) (text : List ℕ) : Type 0 where
  tree : A
  reads : HasTree (DerivesAs symbol) text tree
  said : says tree

read_alone : {A : Type 0} (symbol : ℕ → Rule A) (says : A → Type 0) (text : List ℕ) (n : ℕ) (f : Follow) → f [] ≡ true → Printed (symbol n) says f text → IsRead symbol says text
read_alone symbol says text n f ends p =
    let b = p.stands [] 0 [] ends (record { pieces = []; are = refl; found = refl }) in
    let d = b.reads (Ended 0) 0 in
    record {
      tree = d.tree;
      reads = record {
        tokens = b.tokens;
        lexed = subst (λ (l : List ℕ). Lex l b.tokens) (append-nil text) (record { pieces = b.lexed.pieces; are = b.lexed.are; found = b.lexed.found });
        derived = (n, before (Ended 0) d.end [], refl, d.read);
      };
      said = d.said;
    }

module _ (s : Judged) (ty : TypeTree (Unit {0})) (file : FileId) where
  written : Good s ty → (v : ValueTree Place) × IsLiteral s ty file v
  written (u, good) =
      let r = read_alone (value (in_file file) constant) (λ t. unplaced_value t ≡ unplaced_value u) (value_text u) (value_depth u) ends_word refl
      (value_read (in_file file) literals_read constant u (value_depth u) good.formed good.writable (le_refl (value_depth u))) in
      let same : unplaced_value r.tree ≡ u = r.said ∙ value_itself u in
      let writable : value_writable true (unplaced_value r.tree) ≡ true = ap (value_writable true) same ∙ good.writable in (
        r.tree,
        record {
          read = subst (λ text. HasTree (DerivesAs (value (in_file file) constant)) text r.tree) (ap value_text (sym same) ∙ sym (value_same r.tree)) r.reads;
          accepted = λ variables. ((λ t there. is_taken variables s ty t r.tree writable (subst (Takes s none ty t) (sym same) (good.taken t there))), is_defined variables r.tree writable);
          keys = λ fault. no_equal fault r.tree (sym (differ_same r.tree) ∙ ap keys_differ same ∙ good.keys);
          not_null = sym (null_same r.tree) ∙ ap is_null_value same ∙ good.not_null;
        },
      )

-- where these grounds are, each input type has a literal
pub have_literals : (s : Judged) → Grounds s → InputTypesHaveLiterals s
have_literals s grounds ty (t, (there, input)) file =
    written s ty file (good s grounds ty (λ u there'. subst (λ w. is_input_kind w.kind ≡ true) (same_Some t u (sym there ∙ there')) input))
