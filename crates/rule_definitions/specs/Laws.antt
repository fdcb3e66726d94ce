-- Laws: what rules read of equal schemas with equal marks is the same, so these schemas keep and break the same rules, at the same
-- addresses; and a type accepts exactly the values that keep the rules on values.
use Rattle.std.specs.Prelude.{◌≡◌, ◌↔◌}
use Rattle.graphql_names.specs.Placed.{Place}
use Rattle.tree_literals.specs.ValueTree.{ValueTree}
use Rattle.schema_types.specs.SchemaTree.{SchemaTree}
use Rattle.schema_types.specs.Plain.{plain}
use Rattle.schema_types.specs.Addresses.{Address, is_marked}
use Rattle.rule_definitions.specs.Faults.{SchemaFault}
use Rattle.rule_definitions.specs.Judged.{Judged, judged}
use Rattle.rule_definitions.specs.GivenValues.{Wanted, Variables}
use Rattle.rule_definitions.specs.Values.{KeepsValueRules}
use Rattle.rule_definitions.specs.Accepts.{Accepts}
use Rattle.rule_definitions.specs.Rules.{Breaks, SchemaRules}

-- equal, ignoring places, origins and order, and with the same marks
pub record AreEqual (a b : SchemaTree Place) : Type 0 where
  pub same : plain a ≡ plain b
  pub marks : (at : Address) → is_marked a at ≡ is_marked b at

abbrev pub ReadTheSame : Type 0
ReadTheSame = (a b : SchemaTree Place) → AreEqual a b → judged a ≡ judged b

abbrev pub SameBreaches : Type 0
SameBreaches = (a b : SchemaTree Place) → AreEqual a b → (fault : SchemaFault) → Breaks (judged a) fault ↔ Breaks (judged b) fault

abbrev pub SameVerdict : Type 0
SameVerdict = (a b : SchemaTree Place) → AreEqual a b → SchemaRules (judged a) ↔ SchemaRules (judged b)

abbrev pub AcceptsWhereRulesHold : Type 0
AcceptsWhereRulesHold = (at : Address → Place) (s : Judged) (variables : Variables Place) (ty : Wanted Place) (p : Place) (v : ValueTree Place) →
    Accepts s variables ty.it v ↔ KeepsValueRules at s variables ty p v
