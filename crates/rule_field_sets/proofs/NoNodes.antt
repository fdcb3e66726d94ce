-- Before the first node.
use Rattle.std.proofs.Common.{◌≡◌, ◌∙◌, [], ℕ, ◌<◌, List, length, slice_get, get_or, Some, sym, ap, subst, arith}
use Rattle.std.proofs.lemmas.Option.{slice_get_within, slice_get-get_or}
use Rattle.graphql_names.specs.Placed.{Place}
use Rattle.document_typed_operations.specs.Reached.{Fragments}
use Rattle.rule_definitions.specs.Judged.{Judged}
use Rattle.rule_field_sets.specs.declared.member.SetNode.{SetNode}
use Rattle.rule_field_sets.specs.Tables.{Tables, AreRight, AreJudged}
use Rattle.rule_field_sets.specs.Nodes.{AreNodes}

nothing_at : {X R : Type 0} (xs : List X) (i : ℕ) (x : X) → xs ≡ [] → slice_get xs i ≡ Some x → R
nothing_at xs i x none at = absurd (omega (slice_get_within [] i x (subst (λ l. slice_get l i ≡ Some x) none at), arith))

pub none_yet : (s : Judged) (fragments : Fragments Place) (t : Tables) (ms : List ℕ) (vs : List SetNode) (ns : List ℕ) → AreRight t → AreJudged s t.parts.parents → ms ≡ [] → vs ≡ [] → ns ≡ [] → AreNodes s fragments t ms 0 vs ns
none_yet s fragments t ms vs ns right judged a b c = record {
  right = right;
  judged = judged;
  nodes = λ i v at. nothing_at vs i v b at;
  starts = record { within = omega (ap length c, arith); each = λ i n at. nothing_at ns i n c at };
  met = λ n m at. nothing_at ms n m a at;
}

pub item_at : {X : Type 0} (xs : List X) (i : ℕ) (x : X) → i < length xs → x ≡ get_or xs i x → slice_get xs i ≡ Some x
item_at xs i x within at = slice_get-get_or xs i x within ∙ ap (λ y. Some y) (sym at)
