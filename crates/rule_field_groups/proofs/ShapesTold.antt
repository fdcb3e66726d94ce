-- The test of two types is that of the shapes of two fields.
use Rattle.std.proofs.Common.{◌≡◌, ◌∙◌, Bool, sym, ap, subst}
use Rattle.std.specs.Bool.{Decides}
use Rattle.graphql_names.specs.Node.{content}
use Rattle.tree_literals.specs.TypeTree.{type_tree, unplaced_type}
use Rattle.tree_literals.specs.declared.ty.«Type».{«Type»}
use Rattle.document_typed_selections.specs.declared.selection.Field.{Field}
use Rattle.rule_selection_queries.specs.in_definitions.Judged.{Judged}
use Rattle.rule_selection_queries.specs.in_document_definitions.Merging.{SameShape}
use Rattle.rule_field_groups.specs.Members.{field_of}
use Rattle.rule_field_sets.specs.declared.member.Member.{Member}
use Rattle.rule_field_groups.specs.Shapes.{same_type}
use Rattle.rule_field_groups.proofs.Shaped.{same_type-Decides}

-- the type of a field is that of its definition
type_of : (x : Member) (f : Field) (t : «Type») → f ≡ content x.selection.field.now → type_tree t ≡ type_tree (content f.definition).ty → unplaced_type (type_tree t) ≡ (field_of x).definition.ty
type_of x f t is e = ap unplaced_type (e ∙ ap (λ (y : Field). type_tree (content y.definition).ty) is)

pub shapes_told : (s : Judged) (first other : Member) (f g : Field) (t u : «Type») → f ≡ content first.selection.field.now → type_tree t ≡ type_tree (content f.definition).ty
    → g ≡ content other.selection.field.now → type_tree u ≡ type_tree (content g.definition).ty
    → (r : Bool) → r ≡ same_type s (unplaced_type (type_tree t)) (unplaced_type (type_tree u)) → Decides r (SameShape s (field_of first) (field_of other))
shapes_told s first other f g t u f_is t_is g_is u_is r e =
    subst (λ b. Decides b (SameShape s (field_of first) (field_of other)))
    (sym (e ∙ ap (λ a. same_type s a (unplaced_type (type_tree u))) (type_of first f t f_is t_is) ∙ ap (same_type s (field_of first).definition.ty) (type_of other g u g_is u_is)))
    (same_type-Decides s (field_of first).definition.ty (field_of other).definition.ty)
