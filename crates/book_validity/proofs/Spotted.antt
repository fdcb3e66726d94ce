-- The directives and values applied in a schema are valid exactly when no rule on them is broken at a spot of the schema.
use Rattle.std.proofs.Common.{◌≡◌, ℕ, suc, List, [], ◌∷◌, map, refl, sym, ap, ap₂, subst}
use Rattle.graphql_names.specs.Placed.{Placed}
use Rattle.tree_literals.specs.ValueTree.{ValueTree, ItemTrees, EntryTrees, NullTree, EnumTree, VariableTree, StringTree, FloatTree, IntTree, BooleanTree, ListTree, ObjectTree, no_items, item_then, no_entries, entry_then, unplaced_value, unplaced_items, unplaced_entries}
use Rattle.tree_directives.specs.DirectiveTree.{ArgumentTree, Arguments, DirectiveTree}
use Rattle.tree_directives.specs.declared.directive_location.DirectiveLocation.{DirectiveLocation}
use Rattle.schema_types.specs.Addresses.{Address, GivenAt, DirectiveAt}
use Rattle.rule_definitions.specs.Spots.{Spot, At, ItemAt, EntryAt, each_from, spotted_value, spotted_items, spotted_entries, spotted_argument, spotted_directive, spotted_directives}
use Rattle.rule_definitions.specs.Faults.{SchemaFault}
use Rattle.rule_definitions.specs.Judged.{Judged}
use Rattle.rule_definitions.specs.Uses.{UsesBreak}
use Rattle.rule_document_definitions.specs.FaultsUnplaced.{unplaced_wrong}
use Rattle.rule_document_definitions.proofs.UnplacedUses.{bare_argument, bare_directive, uses_bared}
use Rattle.book_validity.specs.Members.{AreApplied}
use Rattle.book_validity.proofs.DirectiveFacts.{directives_quiet, quiet_directives}

abbrev U : Type 0
U = Unit {0}

mutual
  value_back : (at : Spot) (v : ValueTree U) → unplaced_value (spotted_value at v) ≡ v
  value_back at NullTree = refl
  value_back at (EnumTree n) = refl
  value_back at (VariableTree n) = refl
  value_back at (StringTree s) = refl
  value_back at (FloatTree s) = refl
  value_back at (IntTree s) = refl
  value_back at (BooleanTree b) = refl
  value_back at (ListTree ts) = ap ListTree (items_back at 0 ts)
  value_back at (ObjectTree ts) = ap ObjectTree (entries_back at 0 ts)

  items_back : (at : Spot) (i : ℕ) (ts : ItemTrees U) → unplaced_items (spotted_items at i ts) ≡ ts
  items_back at i no_items = refl
  items_back at i (item_then p t ts) = ap₂ (item_then tt) (value_back (ItemAt at i) t) (items_back at (suc i) ts)

  entries_back : (at : Spot) (i : ℕ) (ts : EntryTrees U) → unplaced_entries (spotted_entries at i ts) ≡ ts
  entries_back at i no_entries = refl
  entries_back at i (entry_then n p t ts) = ap₂ (entry_then n tt) (value_back (EntryAt at i) t) (entries_back at (suc i) ts)

argument_back : (at : Address) (a : Placed U (ArgumentTree U)) → bare_argument (spotted_argument at a) ≡ a
argument_back at a = ap (λ (v : ValueTree U). record { it = record { name = a.it.name; value = record { it = v; place = tt } }; place = tt }) (value_back _ a.it.value.it)

arguments_back : (at : Address) (i : ℕ) (given : Arguments U) → map bare_argument (each_from (λ k a. spotted_argument (GivenAt at k) a) i given) ≡ given
arguments_back at i [] = refl
arguments_back at i (a ∷ given) = ap₂ (λ x xs. x ∷ xs) (argument_back (GivenAt at i) a) (arguments_back at (suc i) given)

abbrev pub bare : DirectiveTree U → Placed U (DirectiveTree U)
bare d = record { it = d; place = tt }

directive_back : (at : Address) (d : DirectiveTree U) → bare_directive (spotted_directive at d) ≡ bare d
directive_back at d = ap (λ (l : Arguments U). bare (record { name = d.name; arguments = l })) (arguments_back at 0 d.arguments)

directives_back : (holder : Address) (i : ℕ) (ds : List (DirectiveTree U)) → map bare_directive (each_from (λ k d. spotted_directive (DirectiveAt holder k) d) i ds) ≡ map bare ds
directives_back holder i [] = refl
directives_back holder i (d ∷ ds) = ap₂ (λ x xs. x ∷ xs) (directive_back (DirectiveAt holder i) d) (directives_back holder (suc i) ds)

module _ (s : Judged) (place : DirectiveLocation) (ds : List (DirectiveTree U)) (holder : Address) where
  abbrev pub AppliedBreak : SchemaFault → Type 0
  AppliedBreak fault = UsesBreak At s [] place (spotted_directives holder ds) fault

  pub applied_quiet : AreApplied s place ds → (fault : SchemaFault) → AppliedBreak fault → ⊥
  applied_quiet h fault b = directives_quiet s [] place (map bare ds) h (unplaced_wrong fault)
      (subst (λ l. UsesBreak (λ a. tt) s [] place l (unplaced_wrong fault)) (directives_back holder 0 ds) ((uses_bared At s [] place (spotted_directives holder ds) (unplaced_wrong fault)).1 (fault, (b, refl))))

  pub quiet_applied : ((fault : SchemaFault) → AppliedBreak fault → ⊥) → AreApplied s place ds
  quiet_applied q = quiet_directives s [] place (map bare ds) (λ fault b.
      let r = (uses_bared {E = Address} At s [] place (spotted_directives holder ds) fault).0 (subst (λ l. UsesBreak (λ a. tt) s [] place l fault) (sym (directives_back holder 0 ds)) b) in
      q r.0 r.1.0)
