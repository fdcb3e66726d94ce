-- References to types are the same where the test says so.
use Rattle.std.proofs.Common.{◌≡◌, Bool, true, false, refl, sym, ap}
use Rattle.std.specs.Bool.{Decides}
use Rattle.std.proofs.lemmas.Slice.Eq.{bytes_eq-Decides}
use Rattle.graphql_names.specs.Placed.{Text}
use Rattle.tree_literals.specs.TypeTree.{TypeTree, NamedTree, NonNullNamedTree, ListTree, NonNullListTree, type_tree, unplaced_type}
use Rattle.tree_literals.specs.declared.ty.«Type».{«Type»}
use Rattle.schema_types.proofs.in_operations.Decided.{through}
use Rattle.schema_types.proofs.in_operations.TypeEquality.{type_eq, type_eq-Decides}
use Rattle.rule_types.specs.InterfaceFaults.{same_type}

named : (a b : Text (Unit {0})) → a.it ≡ b.it → a ≡ b
named a b e = λ i. record { it = e i; place = tt }

pub same_type-Decides : (a b : TypeTree (Unit {0})) → Decides (same_type a b) (a ≡ b)
same_type-Decides (NamedTree a) (NamedTree b) = through (bytes_eq-Decides a.it b.it) (λ e. ap NamedTree (named a b e)) (λ r. let same : a ≡ b = cc in ap (λ (x : Text (Unit {0})). x.it) same)
same_type-Decides (NonNullNamedTree a) (NonNullNamedTree b) = through (bytes_eq-Decides a.it b.it) (λ e. ap NonNullNamedTree (named a b e)) (λ r. let same : a ≡ b = cc in ap (λ (x : Text (Unit {0})). x.it) same)
same_type-Decides (ListTree a) (ListTree b) = through (same_type-Decides a b) (ap ListTree) (λ r. cc)
same_type-Decides (NonNullListTree a) (NonNullListTree b) = through (same_type-Decides a b) (ap NonNullListTree) (λ r. cc)
same_type-Decides _ _ = ((λ e. cc), (λ r. cc))

-- two tests of one fact
one_test : {P : Type 0} (a b : Bool) → Decides a P → Decides b P → a ≡ b
one_test true true d e = refl
one_test true false d e = sym (e.1 (d.0 refl))
one_test false true d e = d.1 (e.0 refl)
one_test false false d e = refl

pub same_as_tested : (d e : «Type») → type_eq d e ≡ same_type (unplaced_type (type_tree d)) (unplaced_type (type_tree e))
same_as_tested d e = one_test (type_eq d e) (same_type (unplaced_type (type_tree d)) (unplaced_type (type_tree e))) (type_eq-Decides d e) (same_type-Decides (unplaced_type (type_tree d)) (unplaced_type (type_tree e)))
