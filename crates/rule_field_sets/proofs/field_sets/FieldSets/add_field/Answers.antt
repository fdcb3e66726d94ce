use Rattle.std.proofs.Common.{◌≡◌, ◌<◌, ℕ, Option, length, refl, sym, subst}
use Rattle.std.specs.Prelude.{MatchOption}
use Rattle.rule_field_sets.specs.Numbered.{tables_of, nodes_of}
use Rattle.rule_field_sets.specs.Found.{set_of}
use Rattle.rule_field_sets.specs.Nodes.{IsNodeBelow, set_nodes, fragment_nodes, fragments_in, schema_in}
use Rattle.rule_field_sets.specs.Added.{node_at, IsSetBelow}
use Rattle.rule_field_sets.proofs.Kept.{with_tables, noted_within, same_within}
use Rattle.rule_field_sets.proofs.Passing.{number_is, node_is_there, place_is_there, node_is_below, both_ok, field_passed}
use Rattle.rule_field_sets.proofs.field_sets.FieldSets.add_field.Goals as goal

pub node_below-below-requires : goal.node_below-below-requires
node_below-below-requires c = place_is_there (set_nodes c.args.self.now) c.args.last (set_of c.args.field) c.args.field.below c.requires.below

pub number_below-set-requires : goal.number_below-set-requires
number_below-set-requires c =
    let nodes = set_nodes c.args.self.now in
    subst (λ (o : Option ℕ). MatchOption o (Unit {0}) (λ n. n < length nodes)) (sym c.node_below-below.ensures) (node_is_there nodes c.args.last (set_of c.args.field) c.args.field.below c.requires.below)

pub add_field-requires : goal.add_field-requires
add_field-requires c =
    let w = c.args.self.now in
    let number = c.number_below-set.result in
    let known : IsSetBelow (set_nodes w) (node_at c.args.last c.args.field.below) number = subst (λ (o : Option ℕ). IsSetBelow (set_nodes w) o number) c.node_below-below.ensures c.number_below-set.ensures in
    record {
      right = c.requires.sets.right;
      judged = c.requires.sets.judged;
      set = number_is (schema_in w) (fragments_in w) (tables_of w.numbers) (nodes_of w.numbers) w.begun (set_nodes w) (fragment_nodes w) c.requires.sets c.args.last c.args.field.selection c.args.field.below number c.requires.below known;
    }

pub returns : goal.returns
returns c =
    let w = c.args.self.now in
    let numbers = c.add_field.new.self in
    let t = tables_of w.numbers in
    let u = tables_of numbers in
    let m = c.in_ok-member.member in
    let b = c.in_ok-member.is_repeated in
    let e = c.in_ok-member.ensures in
    let below = c.node_below-below.result in
    let x = c.args.field.selection in
    let there : IsNodeBelow (set_nodes w) (length (set_nodes w)) (set_of c.args.field) below =
    subst (IsNodeBelow (set_nodes w) (length (set_nodes w)) (set_of c.args.field)) (sym c.node_below-below.ensures) (node_is_below (set_nodes w) c.args.last (set_of c.args.field) c.args.field.below c.requires.below) in
    record {
      sets = with_tables (schema_in w) (fragments_in w) t u (nodes_of w.numbers) (nodes_of numbers) w.begun (set_nodes w) (fragment_nodes w) c.add_field.ensures.grown c.add_field.ensures.right c.add_field.ensures.judged
          (noted_within (nodes_of w.numbers) (nodes_of numbers) m.number w.begun b e.noted c.requires.sets.met) c.requires.sets;
      same = record { schema = refl; fragments = refl; tables = c.add_field.ensures.grown; nodes = refl; starts = refl; begun = refl };
      added = both_ok c.add.result c.add.ensures.numbers c.add.ensures.members
          (λ more_numbers more_members xs so_far.
          field_passed t u (nodes_of w.numbers) (nodes_of numbers) w.begun (set_nodes w) x below m c.add_field.ensures.grown e.member there
          xs c.args.fields.now.numbers.items c.args.fields.now.members.items so_far b c.add.new.self.numbers.items c.add.new.self.members.items e.noted more_numbers more_members);
    }

pub returns-in_err-member-clause-sets : goal.returns-in_err-member-clause-sets
returns-in_err-member-clause-sets c =
    let w = c.args.self.now in
    let numbers = c.add_field.new.self in
    with_tables (schema_in w) (fragments_in w) (tables_of w.numbers) (tables_of numbers) (nodes_of w.numbers) (nodes_of numbers) w.begun (set_nodes w) (fragment_nodes w)
    c.add_field.ensures.grown c.add_field.ensures.right c.add_field.ensures.judged (same_within (nodes_of w.numbers) (nodes_of numbers) w.begun c.in_err-member.ensures.refused c.requires.sets.met) c.requires.sets

pub returns-in_err-member-clause-same : goal.returns-in_err-member-clause-same
returns-in_err-member-clause-same c = record { schema = refl; fragments = refl; tables = c.add_field.ensures.grown; nodes = refl; starts = refl; begun = refl }
