use Rattle.std.proofs.Common.{◌≡◌, ◌∙◌, refl, sym, ap, subst, Some}
use Rattle.std.specs.Prelude.{unwrap_or, slice_get}
use Rattle.std.specs.Map.{lookup}
use Rattle.indexmap.specs.IndexMap.{insert_entry}
use Rattle.rule_definitions.specs.Judged.{judged}
use Rattle.graphql_schema.specs.SchemaOf.{schema_tree}
use Rattle.rule_field_sets.specs.Kinds.{is_abstract}
use Rattle.rule_field_sets.specs.Tables.{Enters, AreJudged}
use Rattle.rule_field_sets.specs.Numbered.{parents_of}
use Rattle.rule_field_sets.proofs.Equal.{text_of, name_eq, name_decides}
use Rattle.rule_field_sets.proofs.Abstract.{abstract_decides}
use Rattle.rule_field_sets.proofs.Growing.{entered_grows, entries_same}
use Rattle.rule_field_sets.proofs.Inserting.{entered, inserted_at, map_itself}
use Rattle.rule_field_sets.proofs.Adding.{parent_judged}
use Rattle.rule_field_sets.proofs.numbers.parent_number.Goals as goal

pub returns : goal.returns
returns c =
    let s = judged (schema_tree c.args.schema.now) in
    let ty = c.args.ty in
    let old = c.args.parents.now.entries in
    let new = c.insert_full.new.self.entries in
    let kind = is_abstract s ty.now.text in
    let value = c.known_kind-is_abstract.result in
    let n = c.in_ok-number.number in
    let enters : Enters (parents_of old) ty.now.text kind n (parents_of new) =
    subst (λ es. Enters (parents_of old) ty.now.text kind n (parents_of es)) (sym c.in_ok-number.ensures.entries)
    (subst (λ m. Enters (parents_of old) ty.now.text kind m (parents_of (insert_entry name_eq old ty value))) (sym c.in_ok-number.ensures.index)
    (entered text_of (λ b. b) name_eq name_decides old ty value kind (c.known_kind-is_abstract.ensures ∙ ap (λ o. unwrap_or o kind) (sym (map_itself (lookup (name_eq ty) old)))))) in
    let at : slice_get (parents_of new) n ≡ Some (ty.now.text, value) =
    subst (λ es. slice_get (parents_of es) n ≡ Some (ty.now.text, value)) (sym c.in_ok-number.ensures.entries)
    (subst (λ m. slice_get (parents_of (insert_entry name_eq old ty value)) m ≡ Some (ty.now.text, value)) (sym c.in_ok-number.ensures.index)
    (inserted_at text_of (λ b. b) name_eq name_decides old ty value)) in
    record {
      grown = entered_grows (parents_of old) (parents_of new) ty.now.text kind n enters;
      judged = parent_judged s (parents_of old) (parents_of new) ty.now.text kind n enters (abstract_decides s ty.now.text kind refl) c.requires.judged;
      number = at;
    }

pub returns-in_err-number-clause-grown : goal.returns-in_err-number-clause-grown
returns-in_err-number-clause-grown c = entries_same (parents_of c.args.parents.now.entries) (parents_of c.insert_full.new.self.entries) (ap parents_of c.in_err-number.ensures.err)

pub returns-in_err-number-clause-judged : goal.returns-in_err-number-clause-judged
returns-in_err-number-clause-judged c = subst (AreJudged (judged (schema_tree c.args.schema.now))) (sym (ap parents_of c.in_err-number.ensures.err)) c.requires.judged
