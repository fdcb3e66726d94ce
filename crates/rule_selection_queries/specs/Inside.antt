-- Private: leads to `Reached.antt` and `Defer.antt` of the rules' definitions.
-- The selections inside a set that pass a test and are in none that fails it.
use Rattle.std.specs.Prelude.{◌≡◌, ◌++◌, ℕ, suc, Bool, true, List, [], ◌∷◌, flat_map, Contains, Option, ◌⊎◌, if◌then◌else◌}
use Rattle.std.specs.Option.{option_map_or}
use Rattle.spec_document.specs.MeantTree.{MeantSelection, MeantField, MeantSpread, MeantInline, MeantSet, meant_set, MeantSelections, no_meant, meant_then, MeantOperation, MeantFragment, MeantDocument}
use Rattle.rule_document_definitions.specs.Selected.{Position, SelectionAt, InOperation, InFragment, Standing, in_inline, operation_name, fragment_named, own}
use Rattle.rule_document_definitions.specs.Reached.{Closed, InField, InFragmentOf}

module _ {P : Type 0} (nested : Bool) (keep : MeantSelection P → Bool) where
  -- the selections that pass in the set, at any depth; the sets of fields are entered only if `nested` is true
  abbrev mutual
    pub contents_in : MeantSet P → List (MeantSelection P)
    contents_in (meant_set t ss) = contents_along ss

    pub contents_along : MeantSelections P → List (MeantSelection P)
    contents_along no_meant = []
    contents_along (meant_then s ss) = (if keep s then s ∷ contents_below s else []) ++ contents_along ss

    pub contents_below : MeantSelection P → List (MeantSelection P)
    contents_below (MeantField p d h s) = if nested then contents_in s else []
    contents_below (MeantSpread p n ds) = []
    contents_below (MeantInline p c ds s) = contents_in s

  -- the selection and those in it, if it passes
  abbrev pub contents_of : MeantSelection P → List (MeantSelection P)
  contents_of s = if keep s then s ∷ contents_below s else []

  -- the same selections, with their positions
  abbrev mutual
    pub inside : Position → MeantSet P → List (Standing P)
    inside holder (meant_set t ss) = inside_from holder t 0 ss

    pub inside_from : Position → List ℕ → ℕ → MeantSelections P → List (Standing P)
    inside_from holder t i no_meant = []
    inside_from holder t i (meant_then s ss) =
        (if keep s then record { position = SelectionAt holder i; parent = t; it = s } ∷ inside_below (SelectionAt holder i) s else []) ++ inside_from holder t (suc i) ss

    pub inside_below : Position → MeantSelection P → List (Standing P)
    inside_below at (MeantField p d h s) = if nested then inside at s else []
    inside_below at (MeantSpread p n ds) = []
    inside_below at (MeantInline p c ds s) = inside at s

  module _ (d : MeantDocument P) (o : MeantOperation P) where
    -- y is in the set of the field x, if `nested` is true; or in the inline fragment x, or in the fragment that x spreads
    abbrev pub LeadsOn : Standing P → Standing P → Type 0
    LeadsOn x y = ((nested ≡ true) × InField d x y) ⊎ InFragmentOf d x y

    -- the operation reaches the selection by selections that pass, as it does itself
    abbrev pub ReachesBy : Standing P → Type 0
    ReachesBy = Closed (λ x. Contains (own o) x × (keep x.it ≡ true)) (λ x y. LeadsOn x y × (keep y.it ≡ true))

    -- the selections in the fragment of this name; those in the operation and in the fragments of these names
    abbrev pub inside_fragment : List ℕ → List (Standing P)
    inside_fragment n = option_map_or (λ f. inside (InFragment f.name.it) f.set) (fragment_named d n) []

    abbrev pub located : List (List ℕ) → List (Standing P)
    located names = inside (InOperation (operation_name o)) o.set ++ flat_map inside_fragment names
