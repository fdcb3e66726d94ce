-- Documents with their meaning, without places: two documents are equal when `unplaced_document` of both is the same.
use Rattle.std.specs.Prelude.{map, option_map}
use Rattle.graphql_names.specs.Placed.{unplaced_text, unplaced_node}
use Rattle.tree_directives.specs.DirectiveTree.{unplaced_directives}
use Rattle.tree_operations.specs.SelectionTree.{unplaced_head}
use Rattle.tree_operations.specs.OperationTree.{unplaced_variable_definition}
use Rattle.spec_document.specs.MeantTree.{MeantSelection, MeantField, MeantSpread, MeantInline, MeantSet, meant_set, MeantSelections, no_meant, meant_then, MeantOperation, MeantFragment, MeantDocument}

abbrev mutual
  pub unplaced_meant : {P : Type 0} → MeantSelection P → MeantSelection (Unit {0})
  unplaced_meant (MeantField p d h s) = MeantField tt d (unplaced_head h) (unplaced_set s)
  unplaced_meant (MeantSpread p n ds) = MeantSpread tt (unplaced_text n) (unplaced_directives ds)
  unplaced_meant (MeantInline p c ds s) = MeantInline tt (option_map unplaced_text c) (unplaced_directives ds) (unplaced_set s)

  pub unplaced_set : {P : Type 0} → MeantSet P → MeantSet (Unit {0})
  unplaced_set (meant_set t ss) = meant_set t (unplaced_members ss)

  pub unplaced_members : {P : Type 0} → MeantSelections P → MeantSelections (Unit {0})
  unplaced_members no_meant = no_meant
  unplaced_members (meant_then s ss) = meant_then (unplaced_meant s) (unplaced_members ss)

module _ {P : Type 0} where
  abbrev pub unplaced_operation : MeantOperation P → MeantOperation (Unit {0})
  unplaced_operation o = record {
    place = tt;
    operation_type = o.operation_type;
    name = option_map unplaced_text o.name;
    variables = map (unplaced_node unplaced_variable_definition) o.variables;
    directives = unplaced_directives o.directives;
    set = unplaced_set o.set;
  }

  abbrev pub unplaced_fragment : MeantFragment P → MeantFragment (Unit {0})
  unplaced_fragment f = record {
    place = tt;
    name = unplaced_text f.name;
    type_condition = unplaced_text f.type_condition;
    directives = unplaced_directives f.directives;
    set = unplaced_set f.set;
  }

  abbrev pub unplaced_document : MeantDocument P → MeantDocument (Unit {0})
  unplaced_document d = record {
    anonymous = option_map unplaced_operation d.anonymous;
    named = map (λ e. (e.0, unplaced_operation e.1)) d.named;
    fragments = map (λ e. (e.0, unplaced_fragment e.1)) d.fragments;
  }
