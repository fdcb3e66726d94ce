use Rattle.std.proofs.Common.{◌≡◌, ◌∙◌, ◌++◌, ◌∷◌, [], length, refl, sym, ap, subst, arith}
use Rattle.rule_field_sets.specs.declared.member.SetNode.{SetNode}
use Rattle.rule_field_sets.specs.Tables.{PartTables, AreJudged}
use Rattle.rule_field_sets.specs.Numbered.{tables_of, nodes_of}
use Rattle.rule_field_sets.specs.Nodes.{IsNode, AreNodes, set_nodes, fragment_nodes, fragments_in, schema_in}
use Rattle.rule_field_sets.specs.Found.{selections_of, texts_of, ArePlaces}
use Rattle.rule_field_sets.specs.Added.{AreReadyBelow, IsReady, HasAdded, selections_in_order}
use Rattle.rule_field_sets.proofs.Adding.{tables_on}
use Rattle.rule_field_sets.proofs.Growing.{grows_same}
use Rattle.rule_field_sets.proofs.Kept.{with_tables, with_begun, with_node, same_within, nodes_same, after_begun}
use Rattle.rule_field_sets.proofs.Putting.{parts_read, is_node}
use Rattle.rule_field_sets.proofs.field_sets.FieldSets.add_node.Goals as goal

pub fields_of-requires : goal.fields_of-requires
fields_of-requires c =
    let w = c.args.self.now in
    let more = c.in_ok-begun.begun in
    record {
      sets = with_begun (schema_in w) (fragments_in w) (tables_of w.numbers) (nodes_of w.numbers) w.begun more (set_nodes w) (fragment_nodes w) c.in_ok-begun.ensures c.requires.sets;
      below = subst (AreReadyBelow (set_nodes w) c.args.last) (sym c.deref.ensures.value) c.requires.ready.below;
      fresh = λ n at. omega (c.requires.sets.met n more at, c.in_ok-begun.ensures, arith);
    }

pub set_number-requires : goal.set_number-requires
set_number-requires c =
    let w = c.fields_of.new.self in
    let ready : IsReady (set_nodes w) c.args.last c.args.found = subst (λ l. IsReady l c.args.last c.args.found) (sym c.fields_of.ensures.same.nodes) c.requires.ready in
    let added : HasAdded w (selections_of c.args.found) c.in_ok-fields.fields = subst (λ l. HasAdded w (selections_in_order l) c.in_ok-fields.fields) c.deref.ensures.value c.in_ok-fields.ensures.added in
    record {
      right = c.fields_of.ensures.sets.right;
      read = parts_read (tables_of w.numbers) (nodes_of w.numbers) w.begun (set_nodes w) c.args.last c.args.found ready c.in_ok-fields.fields.numbers.items c.in_ok-fields.fields.members.items added;
    }

pub returns : goal.returns
returns c =
    let a = c.args.self.now in
    let w = c.fields_of.new.self in
    let t = tables_of w.numbers in
    let u = tables_of c.set_number.new.self in
    let same = c.fields_of.ensures.same in
    let grown = c.set_number.ensures.grown in
    let found = c.args.found in
    let fields = c.in_ok-fields.fields in
    let ready : IsReady (set_nodes w) c.args.last found = subst (λ l. IsReady l c.args.last found) (sym same.nodes) c.requires.ready in
    let added : HasAdded w (selections_of found) fields = subst (λ l. HasAdded w (selections_in_order l) fields) c.deref.ensures.value c.in_ok-fields.ensures.added in
    let places : ArePlaces (fragments_in w) (texts_of found.spreads.items) c.in_ok-spreads.spreads.items =
    subst (λ l. ArePlaces (fragments_in w) (texts_of l) c.in_ok-spreads.spreads.items) c.deref-2.ensures.value c.in_ok-spreads.ensures in
    let v : SetNode = record { set = found.set; number = c.in_ok-number.number; members = fields.members; spreads = c.in_ok-spreads.spreads } in
    let pushed = c.in_ok-push.ensures.items in
    let judged : AreJudged (schema_in w) u.parts.parents = subst (λ (p : PartTables). AreJudged (schema_in w) p.parents) (sym c.set_number.ensures.parts) c.fields_of.ensures.sets.judged in
    let numbered : AreNodes (schema_in w) (fragments_in w) u (nodes_of c.set_number.new.self) w.begun (set_nodes w) (fragment_nodes w) =
    with_tables (schema_in w) (fragments_in w) t u (nodes_of w.numbers) (nodes_of c.set_number.new.self) w.begun (set_nodes w) (fragment_nodes w) grown c.set_number.ensures.right judged
    (same_within (nodes_of w.numbers) (nodes_of c.set_number.new.self) w.begun c.set_number.ensures.nodes c.fields_of.ensures.sets.met) c.fields_of.ensures.sets in
    let is : IsNode u (fragments_in w) (set_nodes w) (length (set_nodes w)) v =
    is_node t (nodes_of w.numbers) w.begun (set_nodes w) c.args.last found ready fields.numbers.items fields.members.items added u (fragments_in w) v grown refl refl c.in_ok-number.ensures.number places in
    record {
      sets = with_node (schema_in w) (fragments_in w) u (nodes_of c.set_number.new.self) w.begun (set_nodes w) c.push.new.self.items (fragment_nodes w) v pushed is numbered;
      grown = record {
        schema = same.schema;
        fragments = same.fragments;
        tables = tables_on (tables_of a.numbers) t u same.tables grown;
        nodes = (v ∷ [], pushed ∙ ap (λ l. l ++ v ∷ []) same.nodes);
        starts = same.starts;
      };
      node = (v, (pushed ∙ ap (λ l. l ++ v ∷ []) same.nodes, refl));
    }

pub returns-in_err-begun-clause-sets : goal.returns-in_err-begun-clause-sets
returns-in_err-begun-clause-sets c = c.requires.sets

pub returns-in_err-begun-clause-grown : goal.returns-in_err-begun-clause-grown
returns-in_err-begun-clause-grown c = nodes_same c.args.self.now

pub returns-in_err-fields-clause-sets : goal.returns-in_err-fields-clause-sets
returns-in_err-fields-clause-sets c = c.fields_of.ensures.sets

pub returns-in_err-fields-clause-grown : goal.returns-in_err-fields-clause-grown
returns-in_err-fields-clause-grown c = after_begun c.args.self.now c.fields_of.new.self c.in_ok-begun.begun c.fields_of.ensures.same

pub returns-in_err-spreads-clause-sets : goal.returns-in_err-spreads-clause-sets
returns-in_err-spreads-clause-sets c = c.fields_of.ensures.sets

pub returns-in_err-spreads-clause-grown : goal.returns-in_err-spreads-clause-grown
returns-in_err-spreads-clause-grown c = after_begun c.args.self.now c.fields_of.new.self c.in_ok-begun.begun c.fields_of.ensures.same

pub returns-in_err-number-clause-sets : goal.returns-in_err-number-clause-sets
returns-in_err-number-clause-sets c =
    let w = c.fields_of.new.self in
    let t = tables_of w.numbers in
    let u = tables_of c.set_number.new.self in
    let judged : AreJudged (schema_in w) u.parts.parents = subst (λ (p : PartTables). AreJudged (schema_in w) p.parents) (sym c.set_number.ensures.parts) c.fields_of.ensures.sets.judged in
    with_tables (schema_in w) (fragments_in w) t u (nodes_of w.numbers) (nodes_of c.set_number.new.self) w.begun (set_nodes w) (fragment_nodes w) c.set_number.ensures.grown c.set_number.ensures.right judged
    (same_within (nodes_of w.numbers) (nodes_of c.set_number.new.self) w.begun c.set_number.ensures.nodes c.fields_of.ensures.sets.met) c.fields_of.ensures.sets

pub returns-in_err-number-clause-grown : goal.returns-in_err-number-clause-grown
returns-in_err-number-clause-grown c =
    let a = c.args.self.now in
    let w = c.fields_of.new.self in
    let same = c.fields_of.ensures.same in
    record {
      schema = same.schema;
      fragments = same.fragments;
      tables = tables_on (tables_of a.numbers) (tables_of w.numbers) (tables_of c.set_number.new.self) same.tables c.set_number.ensures.grown;
      nodes = grows_same (set_nodes a) (set_nodes w) same.nodes;
      starts = same.starts;
    }

pub returns-in_err-push-clause-sets : goal.returns-in_err-push-clause-sets
returns-in_err-push-clause-sets c =
    let w = c.fields_of.new.self in
    let t = tables_of w.numbers in
    let u = tables_of c.set_number.new.self in
    let judged : AreJudged (schema_in w) u.parts.parents = subst (λ (p : PartTables). AreJudged (schema_in w) p.parents) (sym c.set_number.ensures.parts) c.fields_of.ensures.sets.judged in
    let numbered : AreNodes (schema_in w) (fragments_in w) u (nodes_of c.set_number.new.self) w.begun (set_nodes w) (fragment_nodes w) =
    with_tables (schema_in w) (fragments_in w) t u (nodes_of w.numbers) (nodes_of c.set_number.new.self) w.begun (set_nodes w) (fragment_nodes w) c.set_number.ensures.grown c.set_number.ensures.right judged
    (same_within (nodes_of w.numbers) (nodes_of c.set_number.new.self) w.begun c.set_number.ensures.nodes c.fields_of.ensures.sets.met) c.fields_of.ensures.sets in
    subst (λ l. AreNodes (schema_in w) (fragments_in w) u (nodes_of c.set_number.new.self) w.begun l (fragment_nodes w)) (sym c.in_err-push.ensures.items) numbered

pub returns-in_err-push-clause-grown : goal.returns-in_err-push-clause-grown
returns-in_err-push-clause-grown c =
    let a = c.args.self.now in
    let w = c.fields_of.new.self in
    let same = c.fields_of.ensures.same in
    record {
      schema = same.schema;
      fragments = same.fragments;
      tables = tables_on (tables_of a.numbers) (tables_of w.numbers) (tables_of c.set_number.new.self) same.tables c.set_number.ensures.grown;
      nodes = grows_same (set_nodes a) c.push.new.self.items (c.in_err-push.ensures.items ∙ same.nodes);
      starts = same.starts;
    }
