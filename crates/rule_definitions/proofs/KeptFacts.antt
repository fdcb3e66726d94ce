-- What is kept, as rules read it: the tests on entries decide the predicates, where no two things stand under one name.
use Rattle.std.proofs.Common.{◌≡◌, ◌⊎◌, inl, inr, ℕ, zero, suc, Bool, true, false, cond, ◌||◌, List, [], ◌∷◌, map, is_some, bytes_eq, Option, None, Some, option_map, refl, sym, ap, subst, ◌∙◌, true≢false}
use Rattle.std.specs.Bool.{Decides}
use Rattle.std.specs.List.{list_any, IsDistinct, AllByRecursion}
use Rattle.std.specs.Map.{keys_of}
use Rattle.std.specs.Cmp.Lexicographic.{nat_list_cmp_total, nat_list_eq_equiv, texts_ties}
use Rattle.std.specs.FinMap as fin
use Rattle.std.specs.Ordering.{eq_by_cmp}
use Rattle.std.proofs.lemmas.Option.{same_Some}
use Rattle.std.proofs.lemmas.Slice.Eq.{bytes_eq-Decides}
use Rattle.graphql_names.specs.Placed.{Place, unplaced_node}
use Rattle.tree_literals.specs.TypeTree.{TypeTree, NamedTree, NonNullNamedTree, ListTree, NonNullListTree, unplaced_type}
use Rattle.tree_literals.specs.TypeQueries.{inner_name}
use Rattle.tree_directives.specs.DirectiveTree.{InputValues, unplaced_input_value}
use Rattle.schema_types.specs.in_type_members.TypeSystemTree.{FieldDefinitionTree, unplaced_field_definition}
use Rattle.schema_types.proofs.in_operations.Decided.{through}
use Rattle.schema_types.specs.in_components.Names.{Entries, by_bytes, named}
use Rattle.schema_types.specs.in_components.Given.{plain_given}
use Rattle.schema_types.proofs.in_components.NamedLookups.{tied}
use Rattle.schema_types.specs.SchemaTree.{SchemaType, SchemaTree}
use Rattle.schema_types.specs.Plain.{PlainType, plain_type, plain_directive_definition, plain}
use Rattle.schema_types.specs.Looks.{TypeLooks, type_looks}
use Rattle.rule_definitions.specs.Words.{Somewhere, AtSomeIndex}
use Rattle.rule_definitions.specs.Judged.{Judged, judged, AtField, AtInputValue}
use Rattle.rule_definitions.specs.Names.{named_in}
use Rattle.rule_definitions.specs.Kept.{is_inside, is_inside_arguments, is_inside_field, is_inside_type, is_referenced, AreDistinct}

-- the name stands inside the type of a field, an argument or an input field
abbrev pub IsReferenced : Judged → List ℕ → Type 0
IsReferenced s n = AtField s (λ t m f. named_in f.ty ≡ n) ⊎ AtInputValue s (λ at v. named_in v.ty.it ≡ n)

no_true : {A : Type 0} → false ≡ true → A
no_true h = absurd (true≢false (sym h))

no_some : {X A : Type 0} (x : X) → None ≡ Some x → A
no_some x e = no_true (ap is_some e)

-- two facts, either of them
either_decides : (a b : Bool) {P Q : Type 0} → Decides a P → Decides b Q → Decides (a || b) (P ⊎ Q)
either_decides true b d e = (λ h. inl (d.0 refl), λ r. refl)
either_decides false b {P} {Q} d e = (λ h. inr (e.0 h), by)
  where
    by : P ⊎ Q → b ≡ true
    by (inl p) = no_true (d.1 p)
    by (inr q) = e.1 q

-- ---- lists by index

module _ {X Y : Type 0} (test : X → Bool) (f : X → Y) (P : Y → Type 0) (d : (x : X) → Decides (test x) (P (f x))) where
  pub any_index : (xs : List X) → Decides (list_any test xs) (AtSomeIndex (map f xs) (λ i y. P y))
  any_index [] = (λ h. no_true h, λ r. no_some r.1.0 r.1.1.0)
  any_index (x ∷ xs) = through (either_decides (test x) (list_any test xs) (d x) (any_index xs)) to from
    where
      to : P (f x) ⊎ AtSomeIndex (map f xs) (λ i y. P y) → AtSomeIndex (map f (x ∷ xs)) (λ i y. P y)
      to (inl p) = (zero, (f x, (refl, p)))
      to (inr (i, (y, (e, p)))) = (suc i, (y, (e, p)))

      from : AtSomeIndex (map f (x ∷ xs)) (λ i y. P y) → P (f x) ⊎ AtSomeIndex (map f xs) (λ i y. P y)
      from (zero, (y, (e, p))) = inl (subst P (sym (same_Some _ _ e)) p)
      from (suc i, (y, (e, p))) = inr (i, (y, (e, p)))

-- ---- entries by name

abbrev found : {A V : Type 0} → (A → V) → Entries A → List ℕ → Option V
found f es n = fin.find by_bytes n (map (λ e. (e.0, f e.1)) es)

pub get_found : {A V : Type 0} (f : A → V) (es : Entries A) (n : List ℕ) → fin.get (named f es) n ≡ found f es n
get_found f es n = fin.get-from_entries nat_list_cmp_total (map (λ e. (e.0, f e.1)) es) n

tied_itself : (q : List ℕ) → eq_by_cmp by_bytes q q ≡ true
tied_itself q = sym (texts_ties q q) ∙ nat_list_eq_equiv.refl q

absent : {A V : Type 0} (f : A → V) (k : List ℕ) (es : Entries A) → AllByRecursion (λ y. bytes_eq k y ≡ false) (keys_of es) → found f es k ≡ None
absent f k [] h = refl
absent f k (x ∷ es) h = ap (λ b. cond b (Some (f x.1)) (found f es k)) (sym (texts_ties k x.0) ∙ h.0) ∙ absent f k es h.1

module _ {A V : Type 0} (f : A → V) (test : A → Bool) (P : V → Type 0) where
  pub any_found : (es : Entries A) → AllByRecursion (λ e. Decides (test e.1) (P (f e.1))) es → IsDistinct bytes_eq (keys_of es) → Decides (list_any (λ e. test e.1) es) (Somewhere (found f es) (λ n v. P v))
  unfolding IsDistinct
  any_found [] d u = (λ h. no_true h, λ r. no_some r.1.0 r.1.1.0)
  any_found (x ∷ es) d u = through (either_decides (test x.1) (list_any (λ e. test e.1) es) d.0 (any_found es d.1 u.1)) to (λ r. split r.0 r.1.0 (eq_by_cmp by_bytes r.0 x.0) r.1.1.0 r.1.1.1)
    where
      later : (n : List ℕ) (v : V) (b : Bool) → eq_by_cmp by_bytes n x.0 ≡ b → found f es n ≡ Some v → found f (x ∷ es) n ≡ Some v
      later n v true t e = no_some v (sym (ap (found f es) (tied n x.0 t) ∙ absent f x.0 es u.0) ∙ e)
      later n v false t e = ap (λ b. cond b (Some (f x.1)) (found f es n)) t ∙ e

      to : P (f x.1) ⊎ Somewhere (found f es) (λ n v. P v) → Somewhere (found f (x ∷ es)) (λ n v. P v)
      to (inl p) = (x.0, (f x.1, (ap (λ b. cond b (Some (f x.1)) (found f es x.0)) (tied_itself x.0), p)))
      to (inr (n, (v, (e, p)))) = (n, (v, (later n v (eq_by_cmp by_bytes n x.0) refl e, p)))

      split : (n : List ℕ) (v : V) (b : Bool) → cond b (Some (f x.1)) (found f es n) ≡ Some v → P v → P (f x.1) ⊎ Somewhere (found f es) (λ n v. P v)
      split n v true e p = inl (subst P (sym (same_Some _ _ e)) p)
      split n v false e p = inr (n, (v, (e, p)))

  pub any_named : (es : Entries A) → AllByRecursion (λ e. Decides (test e.1) (P (f e.1))) es → IsDistinct bytes_eq (keys_of es) → Decides (list_any (λ e. test e.1) es) (Somewhere (fin.get (named f es)) (λ n v. P v))
  any_named es d u =
      through (any_found es d u)
      (λ r. (r.0, (r.1.0, (get_found f es r.0 ∙ r.1.1.0, r.1.1.1))))
      (λ r. (r.0, (r.1.0, (sym (get_found f es r.0) ∙ r.1.1.0, r.1.1.1))))

pub each_of : {X : Type 0} {P : X → Type 0} → ((x : X) → P x) → (xs : List X) → AllByRecursion P xs
each_of h [] = tt
each_of h (x ∷ xs) = (h x, each_of h xs)

pub each_by : {X : Type 0} {P Q : X → Type 0} → ((x : X) → P x → Q x) → (xs : List X) → AllByRecursion P xs → AllByRecursion Q xs
each_by h [] p = tt
each_by h (x ∷ xs) p = (h x p.0, each_by h xs p.1)

-- ---- references to types

same_inner : (ty : TypeTree Place) → (inner_name (unplaced_type ty)).it ≡ (inner_name ty).it
same_inner (NamedTree n) = refl
same_inner (NonNullNamedTree n) = refl
same_inner (ListTree t) = same_inner t
same_inner (NonNullListTree t) = same_inner t

module _ (n : List ℕ) where
  inside_decides : (ty : TypeTree Place) → Decides (is_inside n ty) (named_in (unplaced_type ty) ≡ n)
  inside_decides ty = through (bytes_eq-Decides n (inner_name ty).it) (λ e. same_inner ty ∙ sym e) (λ r. sym r ∙ same_inner ty)

  -- the name stands inside the type of an argument
  abbrev InArguments : InputValues (Unit {0}) → Type 0
  InArguments vs = AtSomeIndex vs (λ i v. named_in v.it.ty.it ≡ n)

  arguments_decide : (vs : InputValues Place) → Decides (is_inside_arguments n vs) (InArguments (map (unplaced_node unplaced_input_value) vs))
  arguments_decide vs = any_index (λ v. is_inside n v.it.ty.it) (unplaced_node unplaced_input_value) (λ v. named_in v.it.ty.it ≡ n) (λ v. inside_decides v.it.ty.it) vs

  abbrev InField : FieldDefinitionTree (Unit {0}) → Type 0
  InField f = (named_in f.ty ≡ n) ⊎ InArguments f.arguments

  field_decides : (f : FieldDefinitionTree Place) → Decides (is_inside_field n f) (InField (unplaced_field_definition f))
  field_decides f = either_decides (is_inside n f.ty) (is_inside_arguments n f.arguments) (inside_decides f.ty) (arguments_decide f.arguments)

  abbrev InType : PlainType → Type 0
  InType t = Somewhere (fin.get t.fields) (λ m f. InField f) ⊎ Somewhere (fin.get t.inputs) (λ m v. named_in v.ty.it ≡ n)

  type_decides : (t : SchemaType Place) → IsDistinct bytes_eq (keys_of t.fields) × IsDistinct bytes_eq (keys_of t.inputs) → Decides (is_inside_type n t) (InType (plain_type t))
  type_decides t u = either_decides
      (list_any (λ e. is_inside_field n e.1.it.it) t.fields) (list_any (λ e. is_inside n e.1.it.it.ty.it) t.inputs)
      (any_named (plain_given unplaced_field_definition) (λ g. is_inside_field n g.it.it) InField t.fields (each_of (λ e. field_decides e.1.it.it) t.fields) u.0)
      (any_named (plain_given unplaced_input_value) (λ g. is_inside n g.it.it.ty.it) (λ v. named_in v.ty.it ≡ n) t.inputs (each_of (λ e. inside_decides e.1.it.it.ty.it) t.inputs) u.1)

-- if the answer of a lookup is mapped to y, the lookup finds an x, and what holds of y holds of g x
unmapped : {X Y : Type 0} (g : X → Y) (P : Y → Type 0) (o : Option X) (y : Y) → option_map g o ≡ Some y → P y → (x : X) × ((o ≡ Some x) × P (g x))
unmapped g P None y e p = no_some y e
unmapped g P (Some x) y e p = (x, (refl, subst P (sym (same_Some _ _ e)) p))

module _ (s : SchemaTree Place) (u : AreDistinct s) (n : List ℕ) where
  abbrev InTypes : Type 0
  InTypes = Somewhere (fin.get (plain s).types) (λ m t. InType n t)

  abbrev InDirectives : Type 0
  InDirectives = Somewhere (fin.get (plain s).directives) (λ m d. InArguments n d.arguments)

  entries_decide : Decides (is_referenced n s) (InTypes ⊎ InDirectives)
  entries_decide = either_decides
      (list_any (λ e. is_inside_type n e.1) s.types) (list_any (λ e. is_inside_arguments n e.1.it.arguments) s.directives)
      (any_named plain_type (is_inside_type n) (InType n) s.types (each_by (λ e h. type_decides n e.1 h) s.types u.parts) u.types)
      (any_named plain_directive_definition (λ d. is_inside_arguments n d.it.arguments) (λ d. InArguments n d.arguments) s.directives (each_of (λ e. arguments_decide n e.1.it.arguments) s.directives) u.directives)

  -- the type under a name, as rules read it
  abbrev InLooks : TypeLooks → Type 0
  InLooks t = Somewhere t.field (λ m f. InField n f) ⊎ Somewhere t.input (λ m v. named_in v.ty.it ≡ n)

  to_referenced : InTypes ⊎ InDirectives → IsReferenced (judged s) n
  to_referenced (inl (m, (t, (e, inl (k, (f, (h, inl p))))))) = inl (m, (type_looks t, (ap (option_map type_looks) e, (k, (f, (h, p))))))
  to_referenced (inl (m, (t, (e, inl (k, (f, (h, inr p))))))) = inr (inl (inl (m, (type_looks t, (ap (option_map type_looks) e, (k, (f, (h, p))))))))
  to_referenced (inl (m, (t, (e, inr (k, (v, (h, p))))))) = inr (inr (m, (type_looks t, (ap (option_map type_looks) e, (k, (v, (h, p)))))))
  to_referenced (inr (m, (d, (e, p)))) = inr (inl (inr (m, (d, (e, p)))))

  -- a type that rules read is one of the entries
  of_type : (m : List ℕ) (t : TypeLooks) → option_map type_looks (fin.get (plain s).types m) ≡ Some t → InLooks t → InTypes
  of_type m t e p = let (x, (there, q)) = unmapped type_looks InLooks (fin.get (plain s).types m) t e p in (m, (x, (there, q)))

  from_referenced : IsReferenced (judged s) n → InTypes ⊎ InDirectives
  from_referenced (inl (m, (t, (e, (k, (f, (h, p))))))) = inl (of_type m t e (inl (k, (f, (h, inl p)))))
  from_referenced (inr (inl (inl (m, (t, (e, (k, (f, (h, p))))))))) = inl (of_type m t e (inl (k, (f, (h, inr p)))))
  from_referenced (inr (inl (inr (m, (d, (e, p)))))) = inr (m, (d, (e, p)))
  from_referenced (inr (inr (m, (t, (e, (k, (v, (h, p)))))))) = inl (of_type m t e (inr (k, (v, (h, p)))))

  -- the test on entries decides whether something refers to the name
  pub referenced_decides : Decides (is_referenced n s) (IsReferenced (judged s) n)
  referenced_decides = through entries_decide to_referenced from_referenced
