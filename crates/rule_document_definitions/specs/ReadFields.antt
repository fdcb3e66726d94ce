-- What merging reads of a field and of a selection set, as plain data: of a field its parent type, response key, name, arguments, the type
-- of its definition and what its own set selects; of a set its fields and spreads, those of its inline fragments included, in the order of
-- the text (GraphQL, October 2021, section 5.3.2). Places, directives and the rest of a definition are not read.
use Rattle.std.specs.Prelude.{◌≡◌, ◌⊎◌, ℕ, List, [], ◌∷◌, map, Some, unwrap_or, Contains}
use Rattle.graphql_names.specs.Placed.{Place}
use Rattle.tree_literals.specs.TypeTree.{TypeTree}
use Rattle.tree_directives.specs.DirectiveTree.{Arguments, unplaced_arguments}
use Rattle.tree_operations.specs.SelectionTree.{FieldHead}
use Rattle.spec_document.specs.in_components.Names.{Entries}
use Rattle.spec_document.specs.MeantTree.{Definition, MeantSelection, MeantField, MeantSpread, MeantInline, MeantSet, meant_set, MeantSelections, no_meant, meant_then, MeantOperation, MeantDocument}
use Rattle.rule_definitions.specs.Judged.{Judged}
use Rattle.rule_definitions.specs.in_schema_types.Addresses.{under}
use Rattle.rule_document_definitions.specs.Selected.{StandingField}
use Rattle.rule_document_definitions.specs.Reached.{Closed}
use Rattle.rule_document_definitions.specs.SameValues.{SameArguments}
use Rattle.rule_document_definitions.specs.Merging.{IsAbstract, SameType, FieldsMerge}
use Rattle.rule_document_definitions.specs.Settled.{IsSettledIn, StandWhere, StartsStand}
use Rattle.rule_document_definitions.specs.Written.{spreads_written}

-- a field without what it selects
pub record ReadHead : Type 0 where
  pub parent : List ℕ
  pub key : List ℕ
  pub name : List ℕ
  pub arguments : Arguments (Unit {0})
  pub ty : TypeTree (Unit {0})

mutual
  pub data ReadField : Type 0 where
    read_field : ReadHead → ReadSet → ReadField

  -- a set without selections, or the fields and spreads of a set
  pub data ReadSet : Type 0 where
    nothing_read : ReadSet
    read_set : ReadFields → List (List ℕ) → ReadSet

  pub data ReadFields : Type 0 where
    no_reads : ReadFields
    read_then : ReadField → ReadFields → ReadFields

-- ---- the parts

abbrev pub head_of : ReadField → ReadHead
head_of (read_field h s) = h

abbrev pub set_of : ReadField → ReadSet
set_of (read_field h s) = s

abbrev pub listed : ReadFields → List ReadField
listed no_reads = []
listed (read_then f fs) = f ∷ listed fs

abbrev pub joined : ReadFields → ReadFields → ReadFields
joined no_reads gs = gs
joined (read_then f fs) gs = read_then f (joined fs gs)

-- the fields of a set; below, the names of the fragments that it spreads
abbrev pub fields_in : ReadSet → List ReadField
fields_in nothing_read = []
fields_in (read_set fs ns) = listed fs

abbrev pub spreads_in : ReadSet → List (List ℕ)
spreads_in nothing_read = []
spreads_in (read_set fs ns) = ns

-- ---- what is read

abbrev pub head_read : {P : Type 0} → List ℕ → Definition → FieldHead P → ReadHead
head_read t d h = record { parent = t; key = (unwrap_or h.alias h.name).it; name = h.name.it; arguments = unplaced_arguments h.arguments; ty = d.ty }

-- the set, whose fields are these
abbrev pub whole_set : {P : Type 0} → MeantSet P → ReadFields → ReadSet
whole_set (meant_set t no_meant) fs = nothing_read
whole_set (meant_set t (meant_then s ss)) fs = read_set fs (spreads_written (meant_set t (meant_then s ss)))

abbrev mutual
  pub fields_read_at : {P : Type 0} → List ℕ → MeantSelection P → ReadFields
  fields_read_at t (MeantField p d h s) = read_then (read_field (head_read t d h) (whole_set s (fields_read s))) no_reads
  fields_read_at t (MeantSpread p n ds) = no_reads
  fields_read_at t (MeantInline p c ds s) = fields_read s

  pub fields_read : {P : Type 0} → MeantSet P → ReadFields
  fields_read (meant_set t ss) = fields_read_along t ss

  pub fields_read_along : {P : Type 0} → List ℕ → MeantSelections P → ReadFields
  fields_read_along t no_meant = no_reads
  fields_read_along t (meant_then s ss) = joined (fields_read_at t s) (fields_read_along t ss)

module _ {P : Type 0} where
  abbrev pub set_read : MeantSet P → ReadSet
  set_read s = whole_set s (fields_read s)

  -- as `set_read`, but a set without selections is read as one with no fields and no spreads
  abbrev pub list_read : MeantSet P → ReadSet
  list_read s = read_set (fields_read s) (spreads_written s)

  abbrev pub field_read : StandingField P → ReadField
  field_read f = read_field (head_read f.parent f.definition f.head) (set_read f.set)

  abbrev pub fragments_read : MeantDocument P → Entries ReadSet
  fragments_read d = map (λ e. (e.0, set_read e.1.set)) d.fragments

-- ---- what merging asks of two fields, as `SameKey`, `MayShare`, `SameShape` and `SameNameAndArguments` do

abbrev pub ReadSameKey : ReadField → ReadField → Type 0
ReadSameKey x y = (head_of x).key ≡ (head_of y).key

module _ (s : Judged) where
  abbrev pub ReadMayShare : ReadField → ReadField → Type 0
  ReadMayShare x y = ReadSameKey x y × (((head_of x).parent ≡ (head_of y).parent) ⊎ (IsAbstract s (head_of x).parent ⊎ IsAbstract s (head_of y).parent))

  abbrev pub ReadSameShape : ReadField → ReadField → Type 0
  ReadSameShape x y = SameType s (head_of x).ty (head_of y).ty

abbrev pub ReadSameName : ReadField → ReadField → Type 0
ReadSameName x y = (head_of x).name ≡ (head_of y).name

abbrev pub ReadSameNameAndArguments : ReadField → ReadField → Type 0
ReadSameNameAndArguments x y = ReadSameName x y × SameArguments (head_of x).arguments (head_of y).arguments

-- ---- chains

module _ (fragments : Entries ReadSet) where
  -- t is the set of a fragment that s spreads
  abbrev pub SpreadsRead : ReadSet → ReadSet → Type 0
  SpreadsRead s t = (n : List ℕ) × (Contains (spreads_in s) n × (under n fragments ≡ Some t))

  -- the sets to which spreads lead from s: the least set with s itself and, of each member, the sets of the fragments that it spreads
  abbrev pub IsReadFrom : ReadSet → ReadSet → Type 0
  IsReadFrom s = Closed (λ t. t ≡ s) SpreadsRead

  -- x is a field of a set to which spreads lead from s
  abbrev pub SelectsRead : ReadSet → ReadField → Type 0
  SelectsRead s x = (t : ReadSet) × (IsReadFrom s t × Contains (fields_in t) x)

module _ {P : Type 0} (d : MeantDocument P) where
  -- y is a field that x selects, through fragments; below, one that the operation o selects
  abbrev pub ReadBelow : ReadField → ReadField → Type 0
  ReadBelow x y = SelectsRead (fragments_read d) (set_of x) y

  abbrev pub ReadStarts : MeantOperation P → ReadField → Type 0
  ReadStarts o y = SelectsRead (fragments_read d) (set_read o.set) y

  module _ (s : Judged) where
    -- fields for which `Stand` holds are settled: by keys, in shape
    abbrev pub AreReadShapesStanding : (ReadField → ReadField → Type 0) → Type 0
    AreReadShapesStanding Stand = IsSettledIn ReadBelow ReadSameKey (ReadSameShape s) Stand

    -- the same by keys and parents, in name and arguments
    abbrev pub AreReadSelectionsStanding : (ReadField → ReadField → Type 0) → Type 0
    AreReadSelectionsStanding Stand = IsSettledIn ReadBelow (ReadMayShare s) ReadSameNameAndArguments Stand

-- if fields that go together and are in one of these lists are settled by what is read of them, and any two root fields that go together
-- are in one of them, the fields merge
abbrev pub ReadFieldsMerge : Type 0
ReadFieldsMerge = (s : Judged) (d : MeantDocument Place) (o : MeantOperation Place) (shapes selections : List (List ReadField))
    → AreReadShapesStanding d s (StandWhere ReadSameKey shapes) → StartsStand (ReadStarts d o) (StandWhere ReadSameKey shapes)
    → AreReadSelectionsStanding d s (StandWhere (ReadMayShare s) selections) → StartsStand (ReadStarts d o) (StandWhere (ReadMayShare s) selections)
    → FieldsMerge s d o
