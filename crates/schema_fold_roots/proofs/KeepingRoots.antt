-- Lemmas on keeping the first root of each operation.
use Rattle.std.proofs.Common.{◌≡◌, Bool, true, false, List, [], ◌∷◌, ◌++◌, map, Option, None, Some, refl, sym, ap, ◌∙◌, cond, is_some}
use Rattle.std.specs.List.{find}
use Rattle.std.specs.Option.{option_map}
use Rattle.std.proofs.lemmas.List.{append-nil}
use Rattle.graphql_names.specs.Placed.{Place, Text}
use Rattle.schema_components.specs.in_operations.OperationQueries.{operation_keyword}
use Rattle.tree_directives.specs.declared.operation_type.OperationType.{OperationType}
use Rattle.tree_directives.specs.declared.operation_type.OperationType.TheVariants as operation
use Rattle.schema_components.specs.Lists.{has_name}
use Rattle.schema_components.specs.Given.{Given, ExtensionTree}
use Rattle.schema_fold.specs.BuildErrors.{BuildFault}
use Rattle.schema_fold.specs.SchemaFold.{Root, root_key, root_in}
use Rattle.schema_fold_roots.specs.ListFold.{root_fault}
use Rattle.schema_fold_roots.specs.RootFold.{RootNames, root_for, with_root, first_roots, root_name, KeepsRoot}
use Rattle.schema_fold_roots.proofs.Named.{named, some_named, find_other, find_seen, find_new}

abbrev GivenRoot : Type 0
GivenRoot = Given Place Root

abbrev of : OperationType → GivenRoot → Bool
of o g = named root_key (operation_keyword o) g

some_mapped : {A B : Type 0} (f : A → B) (o : Option A) → is_some (option_map f o) ≡ is_some o
some_mapped f None = refl
some_mapped f (Some a) = refl

has_root : (o : OperationType) (before : List GivenRoot) → is_some (root_for o (first_roots before)) ≡ has_name root_key (operation_keyword o) before
has_root operation.Query before = some_mapped root_name (find (of operation.Query) before) ∙ some_named root_key (operation_keyword operation.Query) before
has_root operation.Mutation before = some_mapped root_name (find (of operation.Mutation) before) ∙ some_named root_key (operation_keyword operation.Mutation) before
has_root operation.Subscription before = some_mapped root_name (find (of operation.Subscription) before) ∙ some_named root_key (operation_keyword operation.Subscription) before

roots_seen : (before : List GivenRoot) (g : GivenRoot) → has_name root_key (root_key g) before ≡ true → first_roots (before ++ g ∷ []) ≡ first_roots before
roots_seen before g seen = λ i. record {
  query = option_map root_name (find_seen root_key (operation_keyword operation.Query) before g seen i);
  mutation = option_map root_name (find_seen root_key (operation_keyword operation.Mutation) before g seen i);
  subscription = option_map root_name (find_seen root_key (operation_keyword operation.Subscription) before g seen i);
}

abbrev root_of : OperationType → Option (ExtensionTree Place) → Place → Text Place → GivenRoot
root_of o e p n = record { extension = e; it = record { it = record { operation_type = o; name = n }; place = p } }

module _ (e : Option (ExtensionTree Place)) (p : Place) (n : Text Place) (before : List GivenRoot) where
  abbrev added : OperationType → GivenRoot
  added o = root_of o e p n

  -- the root of the operation itself, and that of another one
  own : (o : OperationType) → named root_key (operation_keyword o) (added o) ≡ true → has_name root_key (operation_keyword o) before ≡ false → root_in o (before ++ added o ∷ []) ≡ Some (root_name (added o))
  own o is new = ap (option_map root_name) (find_new root_key (operation_keyword o) before (added o) is new)

  other : (o q : OperationType) → named root_key (operation_keyword q) (added o) ≡ false → root_in q (before ++ added o ∷ []) ≡ root_in q before
  other o q is = ap (option_map root_name) (find_other root_key (operation_keyword q) before (added o) is)

  roots_new : (o : OperationType) → has_name root_key (operation_keyword o) before ≡ false → first_roots (before ++ added o ∷ []) ≡ with_root o (root_name (added o)) (first_roots before)
  roots_new operation.Query new = λ i. record { query = own operation.Query refl new i; mutation = other operation.Query operation.Mutation refl i; subscription = other operation.Query operation.Subscription refl i }
  roots_new operation.Mutation new = λ i. record { query = other operation.Mutation operation.Query refl i; mutation = own operation.Mutation refl new i; subscription = other operation.Mutation operation.Subscription refl i }
  roots_new operation.Subscription new = λ i. record { query = other operation.Subscription operation.Query refl i; mutation = other operation.Subscription operation.Mutation refl i; subscription = own operation.Subscription refl new i }

-- a root whose operation has one, and one whose operation has none
module _ (g : GivenRoot) (kept : RootNames) (faults : List BuildFault) where
  abbrev told_if : List GivenRoot → List BuildFault
  told_if before = map root_fault (cond (has_name root_key (root_key g) before) (g ∷ []) [])

  pub keeps_seen : (faults' : List BuildFault) → is_some (root_for g.it.it.operation_type kept) ≡ true → faults' ≡ faults ++ root_fault g ∷ [] → KeepsRoot g kept faults kept faults'
  keeps_seen faults' there told before is =
      let seen = sym (ap (λ k. is_some (root_for g.it.it.operation_type k)) is ∙ has_root g.it.it.operation_type before) ∙ there in
      (is ∙ sym (roots_seen before g seen), told ∙ ap (λ b. faults ++ map root_fault (cond b (g ∷ []) [])) (sym seen))

  pub keeps_new : (kept' : RootNames) → is_some (root_for g.it.it.operation_type kept) ≡ false → kept' ≡ with_root g.it.it.operation_type (root_name g) kept → KeepsRoot g kept faults kept' faults
  keeps_new kept' absent added before is =
      let new = sym (ap (λ k. is_some (root_for g.it.it.operation_type k)) is ∙ has_root g.it.it.operation_type before) ∙ absent in (
        added ∙ ap (with_root g.it.it.operation_type (root_name g)) is ∙ sym (roots_new g.extension g.it.place g.it.it.name before g.it.it.operation_type new),
        sym (append-nil faults) ∙ ap (λ b. faults ++ map root_fault (cond b (g ∷ []) [])) (sym new),
      )
