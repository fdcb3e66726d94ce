-- The fields of an operation merge exactly if they do without places.
use Rattle.std.proofs.Common.{◌≡◌, ◌↔◌, ℕ, Bool, true, false, List, [], ◌∷◌, find, if◌then◌else◌, Option, None, Some, unwrap_or, refl, sym, ap, ap₂, subst, ◌∙◌}
use Rattle.std.specs.Option.{option_map}
use Rattle.graphql_names.specs.Placed.{Placed, Text, unplaced_text}
use Rattle.tree_literals.specs.ValueTree.{ValueTree, ItemTrees, EntryTrees, NullTree, EnumTree, VariableTree, StringTree, FloatTree, IntTree, BooleanTree, ListTree, ObjectTree, no_items, item_then, no_entries, entry_then, unplaced_value, unplaced_items, unplaced_entries}
use Rattle.tree_directives.specs.DirectiveTree.{ArgumentTree, Arguments, unplaced_arguments}
use Rattle.tree_directives.specs.DirectiveQueries.{argument_has_name}
use Rattle.spec_document.specs.MeantTree.{MeantOperation, MeantDocument}
use Rattle.spec_document.specs.Unplaced.{unplaced_set, unplaced_operation, unplaced_document}
use Rattle.rule_definitions.specs.Judged.{Judged}
use Rattle.rule_document_definitions.specs.Selected.{InOperation, StandingField, operation_name, response_key}
use Rattle.rule_document_definitions.specs.Reached.{IsFieldOf}
use Rattle.rule_document_definitions.specs.SameValues.{plain_given, SameGiven, SameArguments}
use Rattle.rule_document_definitions.specs.Merging.{FieldsMerge, Below, Starts, SameKey, MayShare, SameShape, SameNameAndArguments}
use Rattle.rule_document_definitions.proofs.Along.{merge_back, merge_on}
use Rattle.rule_document_definitions.proofs.Unplaced.{unplaced_field, name_same, field_of_map, field_of_unmap}

-- ---- values that are given

mutual
  pub twice : {P : Type 0} (v : ValueTree P) → unplaced_value (unplaced_value v) ≡ unplaced_value v
  twice NullTree = refl
  twice (EnumTree n) = refl
  twice (VariableTree n) = refl
  twice (StringTree s) = refl
  twice (FloatTree s) = refl
  twice (IntTree s) = refl
  twice (BooleanTree b) = refl
  twice (ListTree ts) = ap ListTree (twice_items ts)
  twice (ObjectTree ts) = ap ObjectTree (twice_entries ts)

  twice_items : {P : Type 0} (ts : ItemTrees P) → unplaced_items (unplaced_items ts) ≡ unplaced_items ts
  twice_items no_items = refl
  twice_items (item_then p t ts) = ap₂ (λ v vs. item_then tt v vs) (twice t) (twice_items ts)

  twice_entries : {P : Type 0} (ts : EntryTrees P) → unplaced_entries (unplaced_entries ts) ≡ unplaced_entries ts
  twice_entries no_entries = refl
  twice_entries (entry_then n p t ts) = ap₂ (λ v vs. entry_then (unplaced_text n) tt v vs) (twice t) (twice_entries ts)

module _ {P : Type 0} where
  pub given_same : (n : List ℕ) (given : Arguments P) → plain_given n (unplaced_arguments given) ≡ plain_given n given
  given_same n [] = refl
  given_same n (a ∷ given) = by (argument_has_name n a) (given_same n given)
    where
      by : (b : Bool) → plain_given n (unplaced_arguments given) ≡ plain_given n given
          → option_map (λ v. unplaced_value v.it) (option_map (λ (x : Placed (Unit {0}) (ArgumentTree (Unit {0}))). x.it.value) (if b then Some (record { it = record { name = unplaced_text a.it.name; value = record { it = unplaced_value a.it.value.it; place = tt } }; place = tt }) else find (argument_has_name n) (unplaced_arguments given)))
          ≡ option_map (λ v. unplaced_value v.it) (option_map (λ (x : Placed P (ArgumentTree P)). x.it.value) (if b then Some a else find (argument_has_name n) given))
      by true rest = ap Some (twice a.it.value.it)
      by false rest = rest

  arguments_down : (a b : Arguments P) → SameArguments a b → SameArguments (unplaced_arguments a) (unplaced_arguments b)
  arguments_down a b h n = subst (λ x. SameGiven x (plain_given n (unplaced_arguments b))) (sym (given_same n a)) (subst (SameGiven (plain_given n a)) (sym (given_same n b)) (h n))

  arguments_up : (a b : Arguments P) → SameArguments (unplaced_arguments a) (unplaced_arguments b) → SameArguments a b
  arguments_up a b h n = subst (λ x. SameGiven x (plain_given n b)) (given_same n a) (subst (SameGiven (plain_given n (unplaced_arguments a))) (given_same n b) (h n))

  -- ---- response keys

  alias_same : (a : Option (Text P)) (n : Text P) → (unwrap_or (option_map unplaced_text a) (unplaced_text n)).it ≡ (unwrap_or a n).it
  alias_same None n = refl
  alias_same (Some a) n = refl

  pub key_same : (f : StandingField P) → response_key (unplaced_field f) ≡ response_key f
  key_same f = alias_same f.head.alias f.head.name

  pub key_down : (f g : StandingField P) → SameKey f g → SameKey (unplaced_field f) (unplaced_field g)
  key_down f g e = key_same f ∙ (e ∙ sym (key_same g))

  pub key_up : (f g : StandingField P) → SameKey (unplaced_field f) (unplaced_field g) → SameKey f g
  key_up f g e = sym (key_same f) ∙ (e ∙ key_same g)

module _ {P : Type 0} (d : MeantDocument P) where
  pub starts_map : (o : MeantOperation P) (f : StandingField P) → Starts d o f → Starts (unplaced_document d) (unplaced_operation o) (unplaced_field f)
  starts_map o f p = subst (λ n. IsFieldOf (unplaced_document d) (InOperation n) (unplaced_set o.set) (unplaced_field f)) (sym (name_same o.name)) (field_of_map d (InOperation (operation_name o)) o.set f p)

  pub starts_unmap : (o : MeantOperation P) (y : StandingField (Unit {0})) → Starts (unplaced_document d) (unplaced_operation o) y → (f : StandingField P) × (Starts d o f × (unplaced_field f ≡ y))
  starts_unmap o y p = field_of_unmap d (InOperation (operation_name o)) o.set y (subst (λ n. IsFieldOf (unplaced_document d) (InOperation n) (unplaced_set o.set) y) (name_same o.name) p)

  pub below_map : (f g : StandingField P) → Below d f g → Below (unplaced_document d) (unplaced_field f) (unplaced_field g)
  below_map f g p = field_of_map d f.position f.set g p

  pub below_unmap : (f : StandingField P) (y : StandingField (Unit {0})) → Below (unplaced_document d) (unplaced_field f) y → (g : StandingField P) × (Below d f g × (unplaced_field g ≡ y))
  below_unmap f y p = field_of_unmap d f.position f.set y p

module _ {P : Type 0} (s : Judged) (d : MeantDocument P) (o : MeantOperation P) where
  pub fields_merge_without_places : FieldsMerge s d o ↔ FieldsMerge s (unplaced_document d) (unplaced_operation o)
  fields_merge_without_places = (
    (λ m. record {
      shapes = merge_on unplaced_field (Below d) (Below (unplaced_document d)) SameKey (SameShape s) SameKey (SameShape s) (Starts d o) (Starts (unplaced_document d) (unplaced_operation o))
          (below_unmap d) (starts_unmap d o) key_up (λ f g a. a) m.shapes;
      selections = merge_on unplaced_field (Below d) (Below (unplaced_document d)) (MayShare s) SameNameAndArguments (MayShare s) SameNameAndArguments (Starts d o) (Starts (unplaced_document d) (unplaced_operation o))
          (below_unmap d) (starts_unmap d o) (λ f g t. (key_up f g t.0, t.1)) (λ f g a. (a.0, arguments_down f.head.arguments g.head.arguments a.1)) m.selections;
    }),
    (λ m. record {
      shapes = merge_back unplaced_field (Below d) (Below (unplaced_document d)) SameKey (SameShape s) SameKey (SameShape s) (Starts d o) (Starts (unplaced_document d) (unplaced_operation o))
          (below_map d) (starts_map d o) key_down (λ f g a. a) m.shapes;
      selections = merge_back unplaced_field (Below d) (Below (unplaced_document d)) (MayShare s) SameNameAndArguments (MayShare s) SameNameAndArguments (Starts d o) (Starts (unplaced_document d) (unplaced_operation o))
          (below_map d) (starts_map d o) (λ f g t. (key_down f g t.0, t.1)) (λ f g a. (a.0, arguments_up f.head.arguments g.head.arguments a.1)) m.selections;
    }),
  )
