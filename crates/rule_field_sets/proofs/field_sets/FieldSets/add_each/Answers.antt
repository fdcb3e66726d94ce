use Rattle.std.proofs.Common.{◌≡◌, ◌∙◌, ◌<◌, ◌++◌, ◌∷◌, [], ◌+◌, ℕ, List, length, get_or, take, sym, ap, subst, append-nil, append_assoc, arith}
use Rattle.std.proofs.lemmas.List.{map-append, take_all}
use Rattle.rule_reach.specs.declared.field_selection.FieldSelection.{FieldSelection}
use Rattle.rule_field_sets.specs.declared.found.FoundField.{FoundField}
use Rattle.rule_field_sets.specs.Found.{set_of}
use Rattle.rule_field_sets.specs.Nodes.{set_nodes}
use Rattle.rule_field_sets.specs.Added.{AreReadyBelow, HasAdded, selections_in_order}
use Rattle.rule_field_sets.proofs.Kept.{only_same, only_on}
use Rattle.rule_field_sets.proofs.Members.{taken_more}
use Rattle.rule_field_sets.proofs.field_sets.FieldSets.add_each.Goals as goal

one_longer : (fs : List FoundField) (i : ℕ) (f : FoundField) (xs : List FieldSelection) → i < length fs → f ≡ get_or fs i f
    → (xs ++ selections_in_order (take i fs)) ++ f.selection ∷ [] ≡ xs ++ selections_in_order (take (i + 1) fs)
one_longer fs i f xs within at =
    append_assoc xs (selections_in_order (take i fs)) (f.selection ∷ [])
    ∙ ap (λ l. xs ++ l) (sym (ap selections_in_order (taken_more fs i f within at) ∙ map-append (λ (g : FoundField). g.selection) (take i fs) (f ∷ [])))

pub loop-field-init : goal.loop-field-init
loop-field-init c = record {
  sets = c.requires.sets;
  same = only_same c.args.self.now;
  added = λ xs so_far. subst (λ l. HasAdded c.args.self.now l c.args.fields.now) (sym (append-nil xs)) so_far;
}

pub add_field-requires : goal.add_field-requires
add_field-requires c =
    let i = c.loop-field.field-index in
    let h : i < length c.args.found.now = omega arith in
    let ready : AreReadyBelow (set_nodes c.loop-field.self) c.args.last c.args.found.now = subst (λ l. AreReadyBelow l c.args.last c.args.found.now) (sym c.loop-field.invariant.same.nodes) c.requires.below in
    record { sets = c.loop-field.invariant.sets; below = ready c.field-item.result (i, h, sym c.field-item.is) }

pub loop-field-preserved : goal.loop-field-preserved
loop-field-preserved c =
    let i = c.loop-field.field-index in
    let fs = c.args.found.now in
    let h : i < length fs = omega arith in
    record {
      sets = c.add_field.ensures.sets;
      same = only_on c.args.self.now c.loop-field.self c.add_field.new.self c.loop-field.invariant.same c.add_field.ensures.same;
      added = λ xs so_far. subst (λ l. HasAdded c.add_field.new.self l c.add_field.new.fields) (one_longer fs i c.field-item.result xs h c.field-item.is)
          (c.in_ok-add_field.ensures.added (xs ++ selections_in_order (take i fs)) (c.loop-field.invariant.added xs so_far));
    }

pub returns-in_err-add_field-clause-sets : goal.returns-in_err-add_field-clause-sets
returns-in_err-add_field-clause-sets c = c.add_field.ensures.sets

pub returns-in_err-add_field-clause-same : goal.returns-in_err-add_field-clause-same
returns-in_err-add_field-clause-same c = only_on c.args.self.now c.loop-field.self c.add_field.new.self c.loop-field.invariant.same c.add_field.ensures.same

pub returns : goal.returns
returns c =
    let fs = c.args.found.now in
    let whole : take c.loop-field.field-index fs ≡ fs = take_all c.loop-field.field-index fs (omega arith) in
    record {
      sets = c.loop-field.invariant.sets;
      same = c.loop-field.invariant.same;
      added = λ xs so_far. subst (λ l. HasAdded c.loop-field.self (xs ++ selections_in_order l) c.loop-field.fields) whole (c.loop-field.invariant.added xs so_far);
    }
