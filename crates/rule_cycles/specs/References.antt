-- Private: leads to `CyclesBreak` and `RecursiveFragmentDefinitionAt`. The references of nodes, by their targets.
use Rattle.std.specs.Prelude.{◌≡◌, ℕ, ◌==◌, ◌+◌, ◌<◌, [], ◌∷◌, ◌++◌, length, Option, Vec, slice_get, option_and_then}
use Rattle.std.specs.Global.{Global}
use Rattle.std.specs.Option.{option_map}
use Rattle.indexmap.specs.IndexMap.{IndexMap, get}
use Rattle.rule_cycle_search.specs.Graph.{references}
use Rattle.rule_cycles.specs.Labels.{Labelled, targets, label}
use Rattle.rule_cycles.specs.declared.references.Reference.{Reference}
use Rattle.rule_cycles.specs.declared.references.References.{References}

module _ {L : Type 0} where
  abbrev pub reference_view : Reference L → ℕ × L
  reference_view r = (r.to, r.by)

  abbrev pub label_at : {S : Type 0} → IndexMap ℕ L S → ℕ → Option L
  label_at m to = get (λ a b. a == b) m to

  -- the map has under each number the label of the first reference to it
  abbrev pub AreFirsts : {S : Type 0} → IndexMap ℕ L S → Labelled L → Type 0
  AreFirsts m rs = (to : ℕ) → label_at m to ≡ label rs to

  -- the label of the first reference from one node to another
  abbrev pub between : References L → ℕ → ℕ → Option L
  between r from to = option_and_then (λ m. label_at m to) (slice_get r.firsts.items from)

  -- one node more, which has these references
  pub record AddsNode (old new : References L) (rs : Labelled L) : Type 0 where
    pub list : Vec ℕ Global
    pub lists : new.graph.references.items ≡ old.graph.references.items ++ list ∷ []
    pub targets : list.items ≡ targets rs
    pub first_kind : new.graph.first_kind ≡ old.graph.first_kind
    pub roots : new.graph.roots ≡ old.graph.roots
    pub bound : new.graph.bound ≡ old.graph.bound
    pub long : length new.firsts.items ≡ length old.firsts.items + 1
    pub kept : (i to : ℕ) → i < length old.firsts.items → between new i to ≡ between old i to
    pub firsts : (to : ℕ) → between new (length old.firsts.items) to ≡ label rs to

-- `view`: what contracts see of a label; `of`: what each node refers to
module _ {L X : Type 0} (view : L → X) (of : ℕ → Labelled X) where
  -- r has what the nodes below a number refer to
  pub record AreNoted (number : ℕ) (r : References L) : Type 0 where
    pub long : length r.graph.references.items ≡ number
    pub noted : length r.firsts.items ≡ number
    pub refers : (i : ℕ) → i < number → references r.graph i ≡ targets (of i)
    pub labels : (i to : ℕ) → i < number → option_map view (between r i to) ≡ label (of i) to
