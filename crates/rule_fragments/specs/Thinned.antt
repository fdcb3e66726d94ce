-- Private: leads to `Subscriptions.antt` and `Defer.antt` of the rules' definitions.
-- Fragments without those of their selections at which rules find nothing.
use Rattle.std.specs.Prelude.{◌≡◌, ℕ, Bool, true, false, ◌&&◌, ◌||◌, not, List, [], ◌∷◌, codes, bytes_eq, Contains, None, Some, ◌⊎◌, if◌then◌else◌}
use Rattle.std.specs.List.{list_any}
use Rattle.tree_directives.specs.DirectiveTree.{Directives}
use Rattle.schema_components.specs.Names.{Entries}
use Rattle.schema_types.specs.Addresses.{under}
use Rattle.spec_document.specs.MeantTree.{MeantSelection, MeantField, MeantSpread, MeantInline, MeantSet, meant_set, MeantSelections, no_meant, meant_then, MeantFragment}
use Rattle.rule_document_definitions.specs.RootFields.{meta_field_names}
use Rattle.rule_selection_queries.specs.Stays.{is_directive}

module _ {P : Type 0} where
  -- the selections of a set itself, not those in them
  abbrev pub listed : MeantSelections P → List (MeantSelection P)
  listed no_meant = []
  listed (meant_then s ss) = s ∷ listed ss

  abbrev pub set_listed : MeantSet P → List (MeantSelection P)
  set_listed (meant_set t ss) = listed ss

  module _ (deferred : Bool) where
    -- the rules look at one of these directives: those on `@defer` look at `@defer`, those on the root of a subscription at `@skip` and `@include`
    abbrev pub has_noted : Directives P → Bool
    has_noted ds = if deferred then list_any (is_directive (codes "defer")) ds else (list_any (is_directive (codes "skip")) ds || list_any (is_directive (codes "include")) ds)

    -- the rules find nothing at the selection, nor at what it leads to: it spreads nothing; those on subscriptions do not enter fields
    abbrev mutual
      pub is_quiet : MeantSelection P → Bool
      is_quiet (MeantField p d h s) = not (has_noted h.directives) && (if deferred then are_quiet s else not (list_any (bytes_eq h.name.it) meta_field_names))
      is_quiet (MeantSpread p n ds) = false
      is_quiet (MeantInline p c ds s) = not (has_noted ds) && are_quiet s

      pub are_quiet : MeantSet P → Bool
      are_quiet (meant_set t ss) = all_quiet ss

      pub all_quiet : MeantSelections P → Bool
      all_quiet no_meant = true
      all_quiet (meant_then s ss) = is_quiet s && all_quiet ss

    -- `left` has selections of `whole` only, and leaves out only quiet ones
    abbrev pub Leaves : MeantSet P → MeantSet P → Type 0
    Leaves left whole = ((s : MeantSelection P) → Contains (set_listed left) s → Contains (set_listed whole) s)
        × ((s : MeantSelection P) → Contains (set_listed whole) s → Contains (set_listed left) s ⊎ (is_quiet s ≡ true))

    -- `instead` has names where `fragments` has names, and under each a fragment that leaves out only quiet selections of the one of that name
    pub record MayReplace (fragments instead : Entries (MeantFragment P)) : Type 0 where
      pub there : (n : List ℕ) (g : MeantFragment P) → under n fragments ≡ Some g → (h : MeantFragment P) × ((under n instead ≡ Some h) × Leaves h.set g.set)
      pub absent : (n : List ℕ) → under n fragments ≡ None → under n instead ≡ None

    abbrev pub StillMayReplace : Entries (MeantFragment P) → Entries (MeantFragment P) → Entries (MeantFragment P) → Type 0
    StillMayReplace fragments old new = MayReplace fragments old → MayReplace fragments new
