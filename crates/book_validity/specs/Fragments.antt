-- Fragments (section 5.5). That their names differ (5.5.1.1) and that their types exist (5.5.1.2) is typing.
use Rattle.std.specs.Prelude.{◌≡◌, ℕ, List, Contains, Some}
use Rattle.tree_directives.specs.declared.directive_location.DirectiveLocation.TheVariants as location
use Rattle.rule_definitions.specs.Words.{Present, IfPresent}
use Rattle.rule_definitions.specs.Judged.{Judged}
use Rattle.rule_document_definitions.specs.Selected.{InFragment, all_in, spread_name, inline_condition, fragments, fragment_named}
use Rattle.rule_document_definitions.specs.Reached.{Closed, AtOperation, ReachesFragment}
use Rattle.rule_document_definitions.specs.PossibleTypes.{IsCompositeType, CanBe}
use Rattle.book_validity.specs.Words.{Document, Operation, Fragment, Selection, Never, Each, IsThere}
use Rattle.book_validity.specs.Directives.{AreDirectivesValid}

module _ (s : Judged) where
  -- 5.5.1.3: an object, an interface or a union, if the type exists
  abbrev pub IsOnComposite : List ℕ → Type 0
  IsOnComposite n = IfPresent (s.type_named n) IsCompositeType

  -- Laxer: a fragment on the very type where it stands may stand there, even if no object type is possible
  -- 5.5.2.3: the fragment's type is another than `parent`, and no object type is possible for both, although "applicableTypes must not be empty"
  pub record AppliesNowhere (parent condition : List ℕ) : Type 0 where
    pub other : Never (condition ≡ parent)
    pub none : (object : List ℕ) → CanBe s parent object → Never (CanBe s condition object)

-- the fragment of the name n spreads that of the name m, at any depth of its selections
abbrev pub Spreads : Document → List ℕ → List ℕ → Type 0
Spreads d n m = Present (fragment_named d n) (λ f. (x : Selection) × (Contains (all_in (InFragment n) f.set) x × ((spread_name x.it ≡ Some m) × IsThere (fragment_named d m))))

-- a fragment that an operation reaches
pub record IsValidFragment (s : Judged) (d : Document) (o : Operation) (f : Fragment) : Type 0 where
  -- 5.5.1.3 Fragments On Composite Types
  pub target : IsOnComposite s f.type_condition.it
  -- 5.5.2.2 Fragment Spreads Must Not Form Cycles
  pub acyclic : Never (Closed (Spreads d f.name.it) (Spreads d) f.name.it)
  -- 5.7 Directives
  pub directives : AreDirectivesValid s o.variables location.FragmentDefinition f.directives

-- a spread or inline fragment
pub record IsValidSpread (s : Judged) (d : Document) (x : Selection) : Type 0 where
  -- 5.5.1.3 Fragments On Composite Types: of an inline fragment
  pub target : IfPresent (inline_condition x.it) (IsOnComposite s)
  -- 5.5.2.1 Fragment Spread Target Defined
  pub defined : IfPresent (spread_name x.it) (λ n. IsThere (fragment_named d n))
  -- 5.5.2.3 Fragment Spread Is Possible
  pub possible : IfPresent (spread_name x.it) (λ n. IfPresent (fragment_named d n) (λ f. Never (AppliesNowhere s x.parent f.type_condition.it)))
  pub inline_possible : IfPresent (inline_condition x.it) (λ c. Never (AppliesNowhere s x.parent c))

-- Stricter: by an operation, where the text asks for a spread anywhere in the document
-- 5.5.1.4 Fragments Must Be Used
abbrev pub AreFragmentsUsed : Document → Type 0
AreFragmentsUsed d = Each (fragments d) (λ f. AtOperation d (λ o. ReachesFragment d o f))
