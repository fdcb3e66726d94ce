-- What is kept and told of a field with a definition, by whether it may select so.
use Rattle.std.proofs.Common.{◌≡◌, ℕ, Bool, true, false, List, [], ◌∷◌, refl, sym, ap, ◌∙◌, if◌then◌else◌}
use Rattle.graphql_names.specs.Node.{content, place}
use Rattle.graphql_names.specs.declared.node.Node.{Node}
use Rattle.tree_literals.specs.TypeTree.{TypeTree, NamedTree, NonNullNamedTree, ListTree, NonNullListTree, unplaced_type}
use Rattle.tree_literals.specs.TypeQueries.{inner_name}
use Rattle.tree_operations.specs.SelectionParts.{field_head}
use Rattle.tree_operations.specs.declared.selection.Field.{Field}
use Rattle.document_typing.specs.MeantTree.{Definition, MeantField, set_on}
use Rattle.document_typing.specs.Meanings.{Meanings, inner_type}
use Rattle.document_typing.specs.KeptSelections.{may_select, kept_all}
use Rattle.document_typing.specs.SetFaults.{leaf_faults, set_faults}
use Rattle.document_typing.specs.DefinedField.{selected, kept_defined, defined_faults}

-- the name inside a type, without places
pub inner-unplaced : {P : Type 0} (t : TypeTree P) → (inner_name (unplaced_type t)).it ≡ (inner_name t).it
inner-unplaced (NamedTree n) = refl
inner-unplaced (NonNullNamedTree n) = refl
inner-unplaced (ListTree t) = inner-unplaced t
inner-unplaced (NonNullListTree t) = inner-unplaced t

module _ (m : Meanings) (d : Definition) (n : Node Field) (t : List ℕ) (is : t ≡ inner_type d) where
  test : (b : Bool) → b ≡ may_select m t (selected n) → may_select m (inner_type d) (selected n) ≡ b
  test b h = ap (λ u. may_select m u (selected n)) (sym is) ∙ sym h

  pub kept-none : (b : Bool) → b ≡ may_select m t (selected n) → b ≡ false → kept_defined m d n ≡ []
  kept-none b h e = ap (λ c. if c then MeantField (place n) d (field_head (content n)) (set_on (inner_type d) (kept_all m (selected n) (inner_type d))) ∷ [] else []) (test b h ∙ e)

  pub told-leaf : (b : Bool) → b ≡ may_select m t (selected n) → b ≡ false → defined_faults m d n ≡ leaf_faults m (place n) t
  told-leaf b h e =
      ap (λ c. if c then set_faults m (selected n) (inner_type d) else leaf_faults m (place n) (inner_type d)) (test b h ∙ e)
      ∙ ap (leaf_faults m (place n)) (sym is)

  pub kept-one : (b : Bool) → b ≡ may_select m t (selected n) → b ≡ true → kept_defined m d n ≡ MeantField (place n) d (field_head (content n)) (set_on t (kept_all m (selected n) t)) ∷ []
  kept-one b h e =
      ap (λ c. if c then MeantField (place n) d (field_head (content n)) (set_on (inner_type d) (kept_all m (selected n) (inner_type d))) ∷ [] else []) (test b h ∙ e)
      ∙ ap (λ u. MeantField (place n) d (field_head (content n)) (set_on u (kept_all m (selected n) u)) ∷ []) (sym is)

  pub told-set : (b : Bool) → b ≡ may_select m t (selected n) → b ≡ true → defined_faults m d n ≡ set_faults m (selected n) t
  told-set b h e =
      ap (λ c. if c then set_faults m (selected n) (inner_type d) else leaf_faults m (place n) (inner_type d)) (test b h ∙ e)
      ∙ ap (set_faults m (selected n)) (sym is)
