-- Sets without selections select nothing.
use Rattle.std.proofs.Common.{◌≡◌, None, [], Contains, refl, subst}
use Rattle.rule_field_groups.proofs.in_definitions.Lists.{not_in_nil}
use Rattle.rule_field_groups.specs.in_spec_document.MeantTree.{MeantSet, meant_set, no_meant, meant_then, MeantDocument}
use Rattle.rule_field_groups.specs.in_spec_document.in_components.Names.{Entries}
use Rattle.rule_field_groups.specs.in_document_definitions.Selected.{InOperation, StandingField}
use Rattle.rule_field_groups.specs.in_document_definitions.Reached.{first, next, IsFieldOf}
use Rattle.rule_field_groups.specs.in_document_definitions.Contents.{content}
use Rattle.rule_field_groups.specs.in_document_definitions.ReadFields.{ReadField, ReadSet, nothing_read, fields_in, spreads_in, set_read, IsReadFrom, SelectsRead}
use Rattle.rule_field_groups.specs.Below.{IsBare}

-- a content that a set selects
abbrev pub IsIn : {P : Type 0} → MeantDocument P → MeantSet P → StandingField P → Type 0
IsIn {P} d v x = (f : StandingField P) × (IsFieldOf d (InOperation None) v f × (content f ≡ x))

-- ---- what is read of them

-- a set that spreads nothing leads to itself alone
stays : (fragments : Entries ReadSet) (s t : ReadSet) → spreads_in s ≡ [] → IsReadFrom fragments s t → t ≡ s
stays fragments s t none (first e) = e
stays fragments s t none (next {x = u} r (n, (c, e))) =
    not_in_nil n (subst (λ l. Contains l n) none (subst (λ v. Contains (spreads_in v) n) (stays fragments s u none r) c))

-- a set without fields and spreads
pub nothing_listed : (fragments : Entries ReadSet) (s : ReadSet) → fields_in s ≡ [] → spreads_in s ≡ [] → (y : ReadField) → SelectsRead fragments s y → ⊥
nothing_listed fragments s fields spreads y (t, (r, c)) = not_in_nil y (subst (λ l. Contains l y) fields (subst (λ v. Contains (fields_in v) y) (stays fragments s t spreads r) c))

pub bare_reads : {P : Type 0} (fragments : Entries ReadSet) (v : MeantSet P) → IsBare v → (y : ReadField) → SelectsRead fragments (set_read v) y → ⊥
bare_reads fragments (meant_set t no_meant) bare y h = nothing_listed fragments nothing_read refl refl y h
bare_reads fragments (meant_set t (meant_then m ms)) bare y h = absurd bare
