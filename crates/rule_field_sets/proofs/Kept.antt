-- Nodes stay right while numbers and nodes are added.
use Rattle.std.proofs.Common.{◌≡◌, ◌⊎◌, ◌∙◌, ◌++◌, ◌∷◌, [], ℕ, ◌+◌, ◌<◌, ◌≤◌, List, length, slice_get, Bool, Option, Some, None, Result, Ok, Err, refl, sym, ap, subst, inl, inr, arith}
use Rattle.std.specs.Prelude.{OnOk}
use Rattle.std.proofs.lemmas.Bool.{cases_eq}
use Rattle.std.proofs.lemmas.List.{length_push}
use Rattle.std.proofs.lemmas.Option.{slice_get_within}
use Rattle.graphql_names.specs.Placed.{Place}
use Rattle.document_typed_selections.specs.TypedTree.{TypedSet}
use Rattle.document_typed_operations.specs.Reached.{NamedSet, Fragments}
use Rattle.document_typed_operations.specs.WalkView.{fragments_tree}
use Rattle.rule_definitions.specs.Judged.{Judged}
use Rattle.rule_field_sets.specs.declared.member.Member.{Member}
use Rattle.rule_field_sets.specs.declared.member.SetNode.{SetNode}
use Rattle.rule_field_sets.specs.declared.field_sets.FieldSets.{FieldSets}
use Rattle.rule_field_sets.specs.Tables.{Grows, Tables, AreRight, AreJudged, TablesGrow}
use Rattle.rule_field_sets.specs.Numbered.{read_list, NotesNode, tables_of, nodes_of}
use Rattle.rule_field_sets.specs.Nodes.{own_set, typed_at, IsNodeOf, IsNodeBelow, IsNode, AreStarts, AreNodes, AreSets, HasAllStarts, SetsGrow, set_nodes, fragment_nodes, fragments_in}
use Rattle.rule_field_sets.specs.Added.{OnlyNumbers, NodesGrow, IsNextFragment}
use Rattle.rule_field_sets.proofs.Growing.{grows_same, grows_on, stays, push_cases, last_at}
use Rattle.rule_field_sets.proofs.Adding.{set_means_on, parts_same, tables_on}
use Rattle.rule_field_sets.proofs.Comparing.{member_on}
use Rattle.rule_field_sets.proofs.Once.{inside}

-- ---- nodes among more nodes

pub tables_same : (t : Tables) → TablesGrow t t
tables_same t = record { parts = parts_same t.parts t.parts refl; fields = grows_same t.fields t.fields refl; sets = grows_same t.sets t.sets refl }

pub node_of_on : (old new : List SetNode) (n : ℕ) (s : TypedSet Place) → Grows old new → IsNodeOf old n s → IsNodeOf new n s
node_of_on old new n s grow (v, (at, is)) = (v, (stays old new n v grow at, is))

pub below_on : (old new : List SetNode) (i : ℕ) (s : TypedSet Place) (below : Option ℕ) → Grows old new → IsNodeBelow old i s below → IsNodeBelow new i s below
below_on old new i s None grow h = h
below_on old new i s (Some j) grow (some, (before, is)) = (some, (before, node_of_on old new j s grow is))

pub node_on : (t u : Tables) (fragments : Fragments Place) (old new : List SetNode) (i : ℕ) (v : SetNode) → TablesGrow t u → Grows old new → IsNode t fragments old i v → IsNode u fragments new i v
node_on t u fragments old new i v tables grow is = record {
  number = set_means_on t u tables v.number (read_list v.set.now) is.number;
  members = is.members;
  numbers = λ m c. member_on t u m.selection m.below m tables (is.numbers m c);
  below = λ m c. below_on old new i (own_set m.selection) m.below grow (is.below m c);
  spreads = is.spreads;
}

pub starts_on : (fragments : Fragments Place) (old new : List SetNode) (starts : List ℕ) → Grows old new → AreStarts fragments old starts → AreStarts fragments new starts
starts_on fragments old new starts grow are = record {
  within = are.within;
  each = λ i n at. let f = are.each i n at in (f.0, (f.1.0, node_of_on old new n f.0.1 grow f.1.1));
}

-- ---- what changes of all of them

module _ (s : Judged) (fragments : Fragments Place) where
  -- numbers alone
  pub with_tables : (t u : Tables) (met more : List ℕ) (begun : ℕ) (nodes : List SetNode) (starts : List ℕ) → TablesGrow t u → AreRight u → AreJudged s u.parts.parents
      → ((n m : ℕ) → slice_get more n ≡ Some m → m ≤ begun) → AreNodes s fragments t met begun nodes starts → AreNodes s fragments u more begun nodes starts
  with_tables t u met more begun nodes starts grow right judged noted are = record {
    right = right;
    judged = judged;
    nodes = λ i v at. node_on t u fragments nodes nodes i v grow (grows_same nodes nodes refl) (are.nodes i v at);
    starts = are.starts;
    met = noted;
  }

  -- one more is begun
  pub with_begun : (t : Tables) (met : List ℕ) (begun more : ℕ) (nodes : List SetNode) (starts : List ℕ) → more ≡ begun + 1 → AreNodes s fragments t met begun nodes starts → AreNodes s fragments t met more nodes starts
  with_begun t met begun more nodes starts e are = record {
    right = are.right;
    judged = are.judged;
    nodes = are.nodes;
    starts = are.starts;
    met = λ n m at. omega (are.met n m at, e, arith);
  }

  -- a node comes last
  pub with_node : (t : Tables) (met : List ℕ) (begun : ℕ) (nodes more : List SetNode) (starts : List ℕ) (v : SetNode) → more ≡ nodes ++ v ∷ [] → IsNode t fragments nodes (length nodes) v
      → AreNodes s fragments t met begun nodes starts → AreNodes s fragments t met begun more starts
  with_node t met begun nodes more starts v pushed is are =
      let grow : Grows nodes more = (v ∷ [], pushed) in
      record {
        right = are.right;
        judged = are.judged;
        nodes = λ i u at. elim (push_cases nodes v i u (subst (λ l. slice_get l i ≡ Some u) pushed at)) [
          | inl a ↦ node_on t t fragments nodes more i u (tables_same t) grow (are.nodes i u a)
          | inr b ↦ subst (λ j. IsNode t fragments more j u) (sym b.0) (subst (IsNode t fragments more (length nodes)) (sym b.1) (node_on t t fragments nodes more (length nodes) v (tables_same t) grow is))
        ];
        starts = starts_on fragments nodes more starts grow are.starts;
        met = are.met;
      }

  -- the next fragment has a node
  pub with_start : (t : Tables) (met : List ℕ) (begun : ℕ) (nodes : List SetNode) (starts more : List ℕ) (n : ℕ) → more ≡ starts ++ n ∷ []
      → (f : NamedSet Place) → slice_get fragments (length starts) ≡ Some f → IsNodeOf nodes n f.1
      → AreNodes s fragments t met begun nodes starts → AreNodes s fragments t met begun nodes more
  with_start t met begun nodes starts more n pushed f next is are = record {
    right = are.right;
    judged = are.judged;
    nodes = are.nodes;
    starts = record {
      within = omega (slice_get_within fragments (length starts) f next, ap length pushed ∙ length_push starts n, arith);
      each = λ i m at. elim (push_cases starts n i m (subst (λ l. slice_get l i ≡ Some m) pushed at)) [
        | inl a ↦ are.starts.each i m a
        | inr b ↦ (f, (subst (λ j. slice_get fragments j ≡ Some f) (sym b.0) next, subst (λ k. IsNodeOf nodes k f.1) (sym b.1) is))
      ];
    };
    met = are.met;
  }

-- ---- nodes in which fields were met

pub noted_within : (old new : List ℕ) (n node : ℕ) (was_there : Bool) → NotesNode old n node was_there new → ((m k : ℕ) → slice_get old m ≡ Some k → k ≤ node) → (m k : ℕ) → slice_get new m ≡ Some k → k ≤ node
noted_within old new n node was_there notes so m k at = elim (cases_eq m n) [
  | inl e ↦ let same : k ≡ node = inside k node (sym at ∙ (ap (slice_get new) e ∙ notes.noted)) in omega (same, arith)
  | inr differ ↦ so m k (sym (notes.others m differ) ∙ at)
]

pub same_within : (old new : List ℕ) (node : ℕ) → new ≡ old → ((m k : ℕ) → slice_get old m ≡ Some k → k ≤ node) → (m k : ℕ) → slice_get new m ≡ Some k → k ≤ node
same_within old new node e so m k at = so m k (ap (λ l. slice_get l m) (sym e) ∙ at)

-- ---- growth

pub only_same : (w : FieldSets) → OnlyNumbers w w
only_same w = record { schema = refl; fragments = refl; tables = tables_same (tables_of w.numbers); nodes = refl; starts = refl; begun = refl }

pub only_on : (a b c : FieldSets) → OnlyNumbers a b → OnlyNumbers b c → OnlyNumbers a c
only_on a b c g h = record {
  schema = h.schema ∙ g.schema;
  fragments = h.fragments ∙ g.fragments;
  tables = tables_on (tables_of a.numbers) (tables_of b.numbers) (tables_of c.numbers) g.tables h.tables;
  nodes = h.nodes ∙ g.nodes;
  starts = h.starts ∙ g.starts;
  begun = h.begun ∙ g.begun;
}

pub nodes_same : (w : FieldSets) → NodesGrow w w
nodes_same w = record { schema = refl; fragments = refl; tables = tables_same (tables_of w.numbers); nodes = grows_same (set_nodes w) (set_nodes w) refl; starts = refl }

pub nodes_on : (a b c : FieldSets) → NodesGrow a b → NodesGrow b c → NodesGrow a c
nodes_on a b c g h = record {
  schema = h.schema ∙ g.schema;
  fragments = h.fragments ∙ g.fragments;
  tables = tables_on (tables_of a.numbers) (tables_of b.numbers) (tables_of c.numbers) g.tables h.tables;
  nodes = grows_on (set_nodes a) (set_nodes b) (set_nodes c) g.nodes h.nodes;
  starts = h.starts ∙ g.starts;
}

pub only_nodes : (a b : FieldSets) → OnlyNumbers a b → NodesGrow a b
only_nodes a b g = record { schema = g.schema; fragments = g.fragments; tables = g.tables; nodes = grows_same (set_nodes a) (set_nodes b) g.nodes; starts = g.starts }

-- nothing is added, and more is added after more
pub sets_grow_same : (w : FieldSets) → SetsGrow w w
sets_grow_same w = record { schema = refl; fragments = refl; tables = tables_same (tables_of w.numbers); nodes = grows_same (set_nodes w) (set_nodes w) refl; starts = grows_same (fragment_nodes w) (fragment_nodes w) refl }

pub sets_grow_both : (a b c : FieldSets) → SetsGrow a b → SetsGrow b c → SetsGrow a c
sets_grow_both a b c g h = record {
  schema = h.schema ∙ g.schema;
  fragments = h.fragments ∙ g.fragments;
  tables = tables_on (tables_of a.numbers) (tables_of b.numbers) (tables_of c.numbers) g.tables h.tables;
  nodes = grows_on (set_nodes a) (set_nodes b) (set_nodes c) g.nodes h.nodes;
  starts = grows_on (fragment_nodes a) (fragment_nodes b) (fragment_nodes c) g.starts h.starts;
}

pub nodes_sets : (a b : FieldSets) → NodesGrow a b → SetsGrow a b
nodes_sets a b g = record { schema = g.schema; fragments = g.fragments; tables = g.tables; nodes = g.nodes; starts = grows_same (fragment_nodes a) (fragment_nodes b) g.starts }

-- where a node is begun before numbers are added
pub after_begun : (a b : FieldSets) (n : ℕ) → OnlyNumbers (record a { begun = n }) b → NodesGrow a b
after_begun a b n g = record { schema = g.schema; fragments = g.fragments; tables = g.tables; nodes = grows_same (set_nodes a) (set_nodes b) g.nodes; starts = g.starts }

-- the next fragment is the next one where nodes are added
pub next_on : (a b : FieldSets) (s : TypedSet Place) → NodesGrow a b → IsNextFragment a s → IsNextFragment b s
next_on a b s grow (f, (next, is)) = (
  f,
  (
    subst (λ (fs : Fragments Place). slice_get fs (length (fragment_nodes b)) ≡ Some f) (ap_fragments b a grow.fragments)
        (subst (λ l. slice_get (fragments_in a) (length l) ≡ Some f) (sym grow.starts) next),
    is,
  ),
)
  where
    ap_fragments : (y x : FieldSets) → y.fragments ≡ x.fragments → fragments_in x ≡ fragments_in y
    ap_fragments y x e = λ i. fragments_tree (sym e i).now

-- each fragment has a node where nodes are added
pub starts_still : {T E : Type 0} (r : Result T E) (a b : FieldSets) → NodesGrow a b → HasAllStarts a → OnOk r (HasAllStarts b)
starts_still (Ok t) a b grow all = ap length grow.starts ∙ (all ∙ (λ i. length (fragments_tree (sym grow.fragments i).now)))
starts_still (Err e) a b grow all = tt

-- all fragments have nodes where no fragment is next
pub all_started : (w : FieldSets) → AreSets w → length (fragments_in w) ≤ length (fragment_nodes w) → HasAllStarts w
all_started w are enough = omega (are.starts.within, enough, arith)
