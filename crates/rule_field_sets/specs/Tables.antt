-- Tables of what merging reads of fields and of sets. A number is an index in a table; a field's entry has the numbers of its parts,
-- a set's entry those of its fields. In right tables equal contents have one number (GraphQL, October 2021, section 5.3.2).
use Rattle.std.specs.Prelude.{◌≡◌, ◌↔◌, ◌⊎◌, ◌++◌, ◌∷◌, [], ℕ, Bool, IsTrue, List, map, length, Option, None, Some, slice_get, Contains}
use Rattle.std.specs.List.{AllZip}
use Rattle.tree_literals.specs.TypeTree.{TypeTree}
use Rattle.tree_directives.specs.DirectiveTree.{Arguments}
use Rattle.rule_cycle_search.specs.Paths.{HasNoRepeat}
use Rattle.rule_definitions.specs.Judged.{Judged}
use Rattle.rule_document_definitions.specs.in_spec_document.MeantTree.{MeantSet}
use Rattle.rule_document_definitions.specs.Merging.{IsAbstract}
use Rattle.rule_document_definitions.specs.Written.{spreads_written}
use Rattle.rule_document_definitions.specs.ReadFields.{ReadField, ReadSet, nothing_read, read_set, ReadFields, listed, head_of, set_of, fields_read}
use Rattle.rule_field_sets.specs.declared.numbers.FieldKey.{FieldKey}

-- ---- lists that grow

module _ {X : Type 0} where
  -- the new list is the old one, maybe with more after it
  abbrev pub Grows : List X → List X → Type 0
  Grows old new = (added : List X) × (new ≡ old ++ added)

  -- the list grows; and if the old one has nothing twice, neither has the new one
  pub record Extends (old new : List X) : Type 0 where
    pub grown : Grows old new
    pub apart : HasNoRepeat old → HasNoRepeat new

module _ {K V : Type 0} where
  abbrev pub keys_in : List (K × V) → List K
  keys_in es = map (λ e. e.0) es

  -- the same, by the keys of entries
  pub record EntriesExtend (old new : List (K × V)) : Type 0 where
    pub grown : Grows old new
    pub apart : HasNoRepeat (keys_in old) → HasNoRepeat (keys_in new)

  -- the key has the index `n`: it was there, and nothing changes; or it was not, and is appended with this value
  abbrev pub Enters : List (K × V) → K → V → ℕ → List (K × V) → Type 0
  Enters old k v n new = ((w : V) × ((slice_get old n ≡ Some (k, w)) × (new ≡ old)))
      ⊎ ((Contains (keys_in old) k → ⊥) × ((n ≡ length old) × (new ≡ old ++ (k, v) ∷ [])))

-- ---- tables

-- the name and the arguments of a field
abbrev pub ReadCall : Type 0
ReadCall = List ℕ × Arguments (Unit {0})

-- parts of fields: response keys, types that fields are selected on and whether each is abstract, names with arguments, types
pub record PartTables : Type 0 where
  pub keys : List (List ℕ)
  pub parents : List (List ℕ × Bool)
  pub calls : List ReadCall
  pub types : List (TypeTree (Unit {0}))

-- the numbers of a set's fields, and the names of the fragments that it spreads
abbrev pub SetParts : Type 0
SetParts = List ℕ × List (List ℕ)

-- fields and sets, each with the numbers of its parts and with what it means
pub record Tables : Type 0 where
  pub parts : PartTables
  pub fields : List (FieldKey × ReadField)
  pub sets : List (SetParts × ReadSet)

-- what a field's number means; what a set's number means
abbrev pub MeansField : Tables → ℕ → ReadField → Type 0
MeansField t n c = (k : FieldKey) × (slice_get t.fields n ≡ Some (k, c))

abbrev pub MeansSet : Tables → ℕ → ReadSet → Type 0
MeansSet t n c = (k : SetParts) × (slice_get t.sets n ≡ Some (k, c))

-- a set without selections has no number, any other one a number that means it
abbrev pub IsSetNumber : Tables → Option ℕ → ReadSet → Type 0
IsSetNumber t None c = c ≡ nothing_read
IsSetNumber t (Some n) c = MeansSet t n c

-- ---- right tables

-- these are the numbers of the field's parts
pub record IsFieldKey (t : Tables) (k : FieldKey) (c : ReadField) : Type 0 where
  pub key : slice_get t.parts.keys k.key ≡ Some (head_of c).key
  pub parent : (is_abstract : Bool) × (slice_get t.parts.parents k.parent ≡ Some ((head_of c).parent, is_abstract))
  pub call : slice_get t.parts.calls k.call ≡ Some ((head_of c).name, (head_of c).arguments)
  pub ty : slice_get t.parts.types k.ty ≡ Some (head_of c).ty
  pub set : IsSetNumber t k.set (set_of c)

-- these are the numbers of the set's fields, in order, and the names that it spreads
abbrev pub IsSetKey : Tables → SetParts → ReadSet → Type 0
IsSetKey t k c = (fs : ReadFields) × ((c ≡ read_set fs k.1) × AllZip (MeansField t) k.0 (listed fs))

-- no part is in its table twice
pub record ArePartsApart (t : PartTables) : Type 0 where
  pub keys : HasNoRepeat t.keys
  pub parents : HasNoRepeat (keys_in t.parents)
  pub calls : HasNoRepeat t.calls
  pub types : HasNoRepeat t.types

pub record AreRight (t : Tables) : Type 0 where
  pub parts : ArePartsApart t.parts
  pub fields_apart : HasNoRepeat (keys_in t.fields)
  pub sets_apart : HasNoRepeat (keys_in t.sets)
  pub fields : (n : ℕ) (k : FieldKey) (c : ReadField) → slice_get t.fields n ≡ Some (k, c) → IsFieldKey t k c
  pub sets : (n : ℕ) (k : SetParts) (c : ReadSet) → slice_get t.sets n ≡ Some (k, c) → IsSetKey t k c

-- of each parent type the table tells whether it is abstract
abbrev pub AreJudged : Judged → List (List ℕ × Bool) → Type 0
AreJudged s parents = (e : List ℕ × Bool) → Contains parents e → IsTrue e.1 ↔ IsAbstract s e.0

-- ---- tables that grow

pub record PartsGrow (old new : PartTables) : Type 0 where
  pub keys : Extends old.keys new.keys
  pub parents : EntriesExtend old.parents new.parents
  pub calls : Extends old.calls new.calls
  pub types : Extends old.types new.types

-- the tables grow, so each number means what it meant
pub record TablesGrow (old new : Tables) : Type 0 where
  pub parts : PartsGrow old.parts new.parts
  pub fields : Grows old.fields new.fields
  pub sets : Grows old.sets new.sets

-- these are the numbers of what is read of the set's fields, and the names of the fragments that it spreads
pub record ReadsAs {P : Type 0} (t : Tables) (fields : List ℕ) (spreads : List (List ℕ)) (s : MeantSet P) : Type 0 where
  pub numbers : AllZip (MeansField t) fields (listed (fields_read s))
  pub names : spreads ≡ spreads_written s
