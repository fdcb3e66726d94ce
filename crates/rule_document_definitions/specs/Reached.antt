-- What an operation reaches: the least set with its own selections, those in a field or inline fragment that is reached, and those of a
-- fragment that is spread (GraphQL, October 2021, sections 2.8 and 5.5.2). A least set has no order, and needs no termination.
use Rattle.std.specs.Prelude.{◌≡◌, Contains, Some, ◌⊎◌}
use Rattle.spec_document.specs.MeantTree.{MeantSet, MeantOperation, MeantFragment, MeantDocument}
use Rattle.rule_definitions.specs.Words.{Present}
use Rattle.rule_document_definitions.specs.Selected.{Position, Standing, StandingField, standing_in, in_inline, spread_name, as_field, operations, fragment_named, own, held}

-- the least set that has every `First`, and every `Next` of each of its members
pub data Closed {X : Type 0} (First : X → Type 0) (Next : X → X → Type 0) : X → Type 0 where
  first : {x : X} → First x → Closed First Next x
  next : {x y : X} → Closed First Next x → Next x y → Closed First Next y

module _ {P : Type 0} (d : MeantDocument P) where
  -- Q holds of some operation
  abbrev pub AtOperation : (MeantOperation P → Type 0) → Type 0
  AtOperation Q = (o : MeantOperation P) × (Contains (operations d) o × Q o)

  -- y is in the selection set of the field x
  abbrev pub InField : Standing P → Standing P → Type 0
  InField x y = Present (as_field x) (λ f. Contains (standing_in f.position f.set) y)

  -- y is in the inline fragment x, or in the fragment that x spreads
  abbrev pub InFragmentOf : Standing P → Standing P → Type 0
  InFragmentOf x y = Contains (in_inline x.position x.it) y ⊎ Present (spread_name x.it) (λ n. Present (fragment_named d n) (λ f. Contains (held f) y))

  abbrev pub LeadsInto : Standing P → Standing P → Type 0
  LeadsInto x y = InField x y ⊎ InFragmentOf x y

  -- an operation reaches the selection
  abbrev pub Reached : MeantOperation P → Standing P → Type 0
  Reached o = Closed (Contains (own o)) LeadsInto

  -- the selection is at the root of the operation: reached through fragments alone
  abbrev pub AtRoot : MeantOperation P → Standing P → Type 0
  AtRoot o = Closed (Contains (own o)) InFragmentOf

  -- the field is one that a set selects, through fragments
  abbrev pub IsFieldOf : Position → MeantSet P → StandingField P → Type 0
  IsFieldOf at s f = (x : Standing P) × (Closed (Contains (standing_in at s)) InFragmentOf x × (as_field x ≡ Some f))

  -- an operation reaches a spread of the fragment
  abbrev pub ReachesFragment : MeantOperation P → MeantFragment P → Type 0
  ReachesFragment o f = (x : Standing P) × (Reached o x × Present (spread_name x.it) (λ n. fragment_named d n ≡ Some f))

  module _ (o : MeantOperation P) where
    -- Q holds of some selection that the operation reaches; below, of some field, of some fragment
    abbrev pub AtReached : (Standing P → Type 0) → Type 0
    AtReached Q = (x : Standing P) × (Reached o x × Q x)

    abbrev pub AtReachedField : (StandingField P → Type 0) → Type 0
    AtReachedField Q = AtReached (λ x. Present (as_field x) Q)

    abbrev pub AtReachedFragment : (MeantFragment P → Type 0) → Type 0
    AtReachedFragment Q = (f : MeantFragment P) × (ReachesFragment o f × Q f)
