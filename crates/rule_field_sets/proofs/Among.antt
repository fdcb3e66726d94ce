-- The members of nodes, and nodes, are compared by their numbers: equal numbers are equal contents, and the other way.
use Rattle.std.proofs.Common.{◌≡◌, ◌↔◌, ℕ, List, IsTrue, Contains, slice_get, Some, sym, subst}
use Rattle.rule_definitions.specs.Judged.{Judged}
use Rattle.rule_document_definitions.specs.Merging.{IsAbstract, SameKey, SameShape, SameNameAndArguments}
use Rattle.rule_reach.specs.Fields.{field_of}
use Rattle.rule_field_sets.specs.declared.member.Member.{Member}
use Rattle.rule_field_sets.specs.declared.member.SetNode.{SetNode}
use Rattle.rule_field_sets.specs.declared.field_sets.FieldSets.{FieldSets}
use Rattle.rule_field_sets.specs.Tables.{Tables, MeansSet}
use Rattle.rule_field_sets.specs.Numbered.{read_of, read_list, tables_of, IsMember}
use Rattle.rule_field_sets.specs.Nodes.{AreSets, set_nodes, schema_in, HasMember}
use Rattle.rule_field_sets.proofs.Comparing.{shared_so, key_same, parent_same, call_same, type_same, number_same}
use Rattle.rule_field_sets.proofs.Once.{one_set_content, one_set_number}

module _ (w : FieldSets) (are : AreSets w) where
  pub is_member : (m : Member) → HasMember w m → IsMember (tables_of w.numbers) m.selection m.below m
  is_member m (i, (v, (at, c))) = (are.nodes i v at).numbers m c

  -- it is shared exactly if the type that it is selected on is abstract
  pub member_shared : (m : Member) → HasMember w m → IsTrue m.is_shared ↔ IsAbstract (schema_in w) (field_of m.selection).parent
  member_shared m has = shared_so (schema_in w) (tables_of w.numbers) m.selection m.below m are.judged (is_member m has)

  module _ (m n : Member) (has : HasMember w m) (so : HasMember w n) where
    -- members of one number are those of which the same is read
    pub one_number : (m.number ≡ n.number) ↔ (read_of m.selection ≡ read_of n.selection)
    one_number = number_same (tables_of w.numbers) are.right m.selection n.selection m.below n.below m n (is_member m has) (is_member n so)

    pub one_key : (m.key ≡ n.key) ↔ SameKey (field_of m.selection) (field_of n.selection)
    one_key = key_same (tables_of w.numbers) are.right m.selection n.selection m.below n.below m n (is_member m has) (is_member n so)

    pub one_parent : (m.parent ≡ n.parent) ↔ ((field_of m.selection).parent ≡ (field_of n.selection).parent)
    one_parent = parent_same (tables_of w.numbers) are.right m.selection n.selection m.below n.below m n (is_member m has) (is_member n so)

    pub one_call : m.call ≡ n.call → SameNameAndArguments (field_of m.selection) (field_of n.selection)
    one_call = call_same (tables_of w.numbers) are.right m.selection n.selection m.below n.below m n (is_member m has) (is_member n so)

    pub one_type : m.ty ≡ n.ty → SameShape (schema_in w) (field_of m.selection) (field_of n.selection)
    one_type = type_same (tables_of w.numbers) are.right m.selection n.selection m.below n.below m n (is_member m has) (is_member n so) (schema_in w)

  -- nodes of one number are those of sets of which the same is read
  pub one_node_number : (i j : ℕ) (v u : SetNode) → slice_get (set_nodes w) i ≡ Some v → slice_get (set_nodes w) j ≡ Some u → (v.number ≡ u.number) ↔ (read_list v.set.now ≡ read_list u.set.now)
  one_node_number i j v u at there =
      let t = tables_of w.numbers in
      let a : MeansSet t v.number (read_list v.set.now) = (are.nodes i v at).number in
      let b : MeansSet t u.number (read_list u.set.now) = (are.nodes j u there).number in (
        λ e. one_set_content t v.number (read_list v.set.now) (read_list u.set.now) a (subst (λ n. MeansSet t n (read_list u.set.now)) (sym e) b),
        λ e. one_set_number t are.right (read_list v.set.now) v.number u.number a (subst (MeansSet t u.number) (sym e) b),
      )
