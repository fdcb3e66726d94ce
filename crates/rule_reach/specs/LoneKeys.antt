-- Private: leads to `FieldsMerge`. A set in which no two different fields have the same response key, at any depth (GraphQL, October
-- 2021, section 5.3.2): there is nothing to merge.
use Rattle.std.specs.Prelude.{◌≡◌, List, Contains}
use Rattle.rule_document_definitions.specs.in_spec_document.in_components.Names.{Entries}
use Rattle.rule_document_definitions.specs.ReadFields.{ReadField, ReadSet, set_of, ReadSameKey, SelectsRead}

module _ (fragments : Entries ReadSet) where
  -- two fields that the set selects, through fragments too, and that have the same response key, are equal
  abbrev pub HasOneOfEachKey : ReadSet → Type 0
  HasOneOfEachKey s = (x y : ReadField) → SelectsRead fragments s x → SelectsRead fragments s y → ReadSameKey x y → x ≡ y

  -- the set has each response key once, and so have the selection sets of `fields`; `fields` contains all fields that the set selects,
  -- at any depth, and maybe others
  pub record HasLoneKeys (s : ReadSet) (fields : List ReadField) : Type 0 where
    pub starts : (x : ReadField) → SelectsRead fragments s x → Contains fields x
    pub below : (x y : ReadField) → Contains fields x → SelectsRead fragments (set_of x) y → Contains fields y
    pub start : HasOneOfEachKey s
    pub sets : (x : ReadField) → Contains fields x → HasOneOfEachKey (set_of x)

  abbrev pub AreKeysLone : ReadSet → Type 0
  AreKeysLone s = (fields : List ReadField) × HasLoneKeys s fields
