-- Types that are put under names one after another are what a validated schema has, if no two have the same name.
use Rattle.std.proofs.Common.{◌≡◌, ℕ, Bool, true, false, cond, not, ◌&&◌, ◌||◌, List, [], ◌∷◌, ◌++◌, map, filter, fold, bytes_eq, is_none, Option, None, Some, option_map, refl, sym, ap, subst, ◌∙◌, true≢false, if◌then◌else◌}
use Rattle.std.specs.List.{list_any, IsDistinct, AllByRecursion, find}
use Rattle.std.specs.Map.{keys_of, values_of}
use Rattle.std.proofs.lemmas.List.{append-nil, append_assoc}
use Rattle.std.proofs.lemmas.Slice.Eq.{bytes_eq-Decides}
use Rattle.indexmap.specs.IndexMap.{IndexMap, insert_entry}
use Rattle.graphql_names.specs.NameValue.{NameValue}
use Rattle.graphql_names.specs.Placed.{Placed, Place, node_tree}
use Rattle.graphql_names.specs.declared.node.Node.{Node}
use Rattle.schema_components.specs.Names.{Entries, same_text}
use Rattle.schema_components.specs.Given.{Given, component_tree}
use Rattle.schema_components.specs.declared.component.Component.{Component}
use Rattle.tree_directives.specs.DirectiveTree.{DirectiveDefinitionTree, input_value_tree, directive_definition_tree}
use Rattle.tree_directives.specs.declared.directive.DirectiveDefinition.{DirectiveDefinition}
use Rattle.tree_directives.specs.declared.input_value.InputValueDefinition.{InputValueDefinition}
use Rattle.tree_type_members.specs.TypeSystemTree.{FieldDefinitionTree, field_definition_tree}
use Rattle.tree_type_members.specs.declared.field_definition.FieldDefinition.{FieldDefinition}
use Rattle.schema_types.specs.TypeView.{name_text, extended_type, object_type, interface_type, input_object_type}
use Rattle.schema_types.specs.declared.extended_type.ExtendedType.{ExtendedType}
use Rattle.schema_types.specs.declared.kinds.ObjectType.{ObjectType}
use Rattle.schema_types.specs.declared.kinds.InterfaceType.{InterfaceType}
use Rattle.schema_types.specs.declared.kinds.InputObjectType.{InputObjectType}
use Rattle.schema_types.specs.SchemaTree.{SchemaType, SchemaTree}
use Rattle.schema_types.specs.Addresses.{under, type_at}
use Rattle.schema_types.specs.SchemaView.{types_view, definitions_view}
use Rattle.rule_cycles.specs.in_schema.SchemaOf.{schema_tree}
use Rattle.rule_cycles.specs.in_schema.declared.schema.Schema.{Schema}
use Rattle.rule_definitions.specs.Names.{scalar_names}
use Rattle.rule_definitions.specs.Kept.{is_dropped, is_missing, is_inside, is_inside_arguments, is_inside_field, is_inside_type, built_in_scalar, kept, validated, is_referenced}
use Rattle.graphql_rules.specs.Putting.{put_under, and_kept, and_missing}

-- a test on the values of a map
pub any_values : {K X A : Type 0} (text : K → List ℕ) (f : X → A) (test : A → Bool) (es : List (K × X))
    → list_any test (map f (values_of es)) ≡ list_any (λ (e : List ℕ × A). test e.1) (map (λ e. (text e.0, f e.1)) es)
any_values text f test [] = refl
any_values text f test (e ∷ es) = ap (λ b. test (f e.1) || b) (any_values text f test es)

or_false : (b : Bool) → (b || false) ≡ b
or_false true = refl
or_false false = refl

-- a name inside the types that the parts of a type have
module _ (n : List ℕ) where
  fields_inside : (es : List (NameValue × Component FieldDefinition)) → list_any (λ f. is_inside_field n f.it.it) (map (component_tree field_definition_tree) (values_of es)) ≡ (list_any (λ (e : List ℕ × Given Place (Placed Place (FieldDefinitionTree Place))). is_inside_field n e.1.it.it) (map (λ e. (name_text e.0, component_tree field_definition_tree e.1)) es) || false)
  fields_inside es = any_values name_text (component_tree field_definition_tree) (λ f. is_inside_field n f.it.it) es ∙ sym (or_false _)

  pub object_inside : (place : Place) (t : ObjectType) (fields : List (Component FieldDefinition)) → fields ≡ values_of t.fields.entries → list_any (λ f. is_inside_field n f.it.it) (map (component_tree field_definition_tree) fields) ≡ is_inside_type n (object_type place t)
  object_inside place t fields is = ap (λ fs. list_any (λ f. is_inside_field n f.it.it) (map (component_tree field_definition_tree) fs)) is ∙ fields_inside t.fields.entries

  pub interface_inside : (place : Place) (t : InterfaceType) (fields : List (Component FieldDefinition)) → fields ≡ values_of t.fields.entries → list_any (λ f. is_inside_field n f.it.it) (map (component_tree field_definition_tree) fields) ≡ is_inside_type n (interface_type place t)
  interface_inside place t fields is = ap (λ fs. list_any (λ f. is_inside_field n f.it.it) (map (component_tree field_definition_tree) fs)) is ∙ fields_inside t.fields.entries

  pub input_inside : (place : Place) (t : InputObjectType) (fields : List (Component InputValueDefinition)) → fields ≡ values_of t.fields.entries → list_any (λ f. is_inside n f.it.it.ty.it) (map (component_tree input_value_tree) fields) ≡ is_inside_type n (input_object_type place t)
  input_inside place t fields is = ap (λ fs. list_any (λ f. is_inside n f.it.it.ty.it) (map (component_tree input_value_tree) fs)) is ∙ any_values name_text (component_tree input_value_tree) (λ f. is_inside n f.it.it.ty.it) t.fields.entries

  pub types_inside : {S : Type 0} (types : IndexMap NameValue ExtendedType S) (ts : List ExtendedType) → ts ≡ values_of types.entries → list_any (is_inside_type n) (map extended_type ts) ≡ list_any (λ (e : List ℕ × SchemaType Place). is_inside_type n e.1) (types_view types)
  types_inside types ts is = ap (λ l. list_any (is_inside_type n) (map extended_type l)) is ∙ any_values name_text extended_type (is_inside_type n) types.entries

  pub directives_inside : {S : Type 0} (directives : IndexMap NameValue (Node DirectiveDefinition) S) (ds : List (Node DirectiveDefinition)) → ds ≡ values_of directives.entries
      → list_any (λ d. is_inside_arguments n d.it.arguments) (map (node_tree directive_definition_tree) ds) ≡ list_any (λ (e : List ℕ × Placed Place (DirectiveDefinitionTree Place)). is_inside_arguments n e.1.it.arguments) (definitions_view directives)
  directives_inside directives ds is = ap (λ l. list_any (λ d. is_inside_arguments n d.it.arguments) (map (node_tree directive_definition_tree) l)) is ∙ any_values name_text (node_tree directive_definition_tree) (λ d. is_inside_arguments n d.it.arguments) directives.entries

-- what `insert` leaves
module _ {X A : Type 0} (f : X → A) (k : NameValue) (v : X) where
  abbrev under_names : List (NameValue × X) → Entries A
  under_names es = map (λ e. (name_text e.0, f e.1)) es

  pub put-insert : (es : List (NameValue × X)) → under_names (insert_entry (same_text name_text) es k v) ≡ put_under k.text (f v) (under_names es)
  put-insert [] = refl
  put-insert (e ∷ es) = by (bytes_eq k.text e.0.text) (put-insert es)
    where
      by : (b : Bool) → under_names (insert_entry (same_text name_text) es k v) ≡ put_under k.text (f v) (under_names es)
          → under_names (if b then (e.0, v) ∷ es else e ∷ insert_entry (same_text name_text) es k v) ≡ (if b then (name_text e.0, f v) ∷ under_names es else (name_text e.0, f e.1) ∷ put_under k.text (f v) (under_names es))
      by true rest = refl
      by false rest = ap (λ l. (name_text e.0, f e.1) ∷ l) rest

-- none of these is under the name
abbrev pub Absent : {A : Type 0} → List ℕ → Entries A → Type 0
Absent n es = AllByRecursion (λ m. bytes_eq n m ≡ false) (keys_of es)

apart : (n m : List ℕ) → bytes_eq n m ≡ false → bytes_eq m n ≡ false
apart n m h = by (bytes_eq m n) refl
  where
    by : (b : Bool) → bytes_eq m n ≡ b → b ≡ false
    by false e = refl
    by true e = absurd (true≢false (sym ((bytes_eq-Decides n m).1 (sym ((bytes_eq-Decides m n).0 e))) ∙ h))

some_none : {A : Type 0} (a : A) → Some a ≡ None → ⊥
some_none a h = true≢false (ap (λ o. not (is_none o)) h)

module _ {A : Type 0} where
  -- what is new goes last
  put_new : (n : List ℕ) (a : A) (es : Entries A) → Absent n es → put_under n a es ≡ es ++ (n, a) ∷ []
  put_new n a [] h = refl
  put_new n a (e ∷ es) h = ap (λ b. if b then (e.0, a) ∷ es else e ∷ put_under n a es) h.0 ∙ ap (λ l. e ∷ l) (put_new n a es h.1)

  absent_both : (n : List ℕ) (es fs : Entries A) → Absent n es → Absent n fs → Absent n (es ++ fs)
  absent_both n [] fs h k = k
  absent_both n (e ∷ es) fs h k = (h.0, absent_both n es fs h.1 k)

  absent_rest : (n : List ℕ) (q : List ℕ × A → Bool) (es : Entries A) → Absent n es → Absent n (filter q es)
  absent_rest n q [] h = tt
  absent_rest n q (e ∷ es) h = by (q e) (absent_rest n q es h.1)
    where
      by : (b : Bool) → Absent n (filter q es) → Absent n (cond b (e ∷ filter q es) (filter q es))
      by true k = (h.0, k)
      by false k = k

  absent_under : (n : List ℕ) (es : Entries A) → under n es ≡ None → Absent n es
  absent_under n [] h = tt
  absent_under n (e ∷ es) h = by (bytes_eq n e.0) refl (absent_under n es)
    where
      gone : (b : Bool) → bytes_eq n e.0 ≡ b → option_map (λ (x : List ℕ × A). x.1) (cond b (Some e) (find (λ x. bytes_eq n x.0) es)) ≡ None
      gone b t = ap (λ c. option_map (λ (x : List ℕ × A). x.1) (cond c (Some e) (find (λ x. bytes_eq n x.0) es))) (sym t) ∙ h

      by : (b : Bool) → bytes_eq n e.0 ≡ b → (under n es ≡ None → Absent n es) → Absent n (e ∷ es)
      by true t later = absurd (some_none e.1 (gone true t))
      by false t later = (t, later (gone false t))

module _ (s : SchemaTree Place) where
  abbrev stays : List ℕ × SchemaType Place → Bool
  stays e = not (is_dropped s e)

  -- after others, each with a different name
  keep_all : (done es : Entries (SchemaType Place)) → IsDistinct bytes_eq (keys_of es) → AllByRecursion (λ n. Absent n done) (keys_of es) → fold (and_kept s) done es ≡ done ++ filter stays es
  unfolding IsDistinct
  keep_all done [] u h = sym (append-nil done)
  keep_all done (e ∷ es) u h = by (is_dropped s e) refl (λ d. keep_all d es u.1)
    where
      more : (fs : Entries (SchemaType Place)) → AllByRecursion (λ m. bytes_eq e.0 m ≡ false) (keys_of fs) → AllByRecursion (λ n. Absent n done) (keys_of fs) → AllByRecursion (λ n. Absent n (done ++ e ∷ [])) (keys_of fs)
      more [] u h = tt
      more (f ∷ fs) u h = (absent_both f.0 done (e ∷ []) h.0 (apart e.0 f.0 u.0, tt), more fs u.1 h.1)

      by : (b : Bool) → is_dropped s e ≡ b → ((d : Entries (SchemaType Place)) → AllByRecursion (λ n. Absent n d) (keys_of es) → fold (and_kept s) d es ≡ d ++ filter stays es)
          → fold (and_kept s) (and_kept s done e) es ≡ done ++ filter stays (e ∷ es)
      by true d later = ap (λ b. fold (and_kept s) (if b then done else put_under e.0 e.1 done) es) d ∙ later done h.1 ∙ sym (ap (λ b. done ++ cond (not b) (e ∷ filter stays es) (filter stays es)) d)
      by false d later = ap (λ b. fold (and_kept s) (if b then done else put_under e.0 e.1 done) es) d
          ∙ ap (λ l. fold (and_kept s) l es) (put_new e.0 e.1 done h.0)
          ∙ later (done ++ e ∷ []) (more es u.0 h.1)
          ∙ append_assoc done (e ∷ []) (filter stays es)
          ∙ sym (ap (λ b. done ++ cond (not b) (e ∷ filter stays es) (filter stays es)) d)

  abbrev no_types : Entries (SchemaType Place)
  no_types = []

  -- all of them are those that are kept
  pub kept_of : IsDistinct bytes_eq (keys_of s.types) → fold (and_kept s) [] s.types ≡ (kept s).types
  kept_of u = keep_all no_types s.types u (each_absent (keys_of s.types))
    where
      each_absent : (ns : List (List ℕ)) → AllByRecursion (λ n. Absent n no_types) ns
      each_absent [] = tt
      each_absent (n ∷ ns) = (tt, each_absent ns)

  -- a name that is missing is not among the types
  missing_absent : (n : List ℕ) → is_missing s n ≡ true → Absent n s.types
  missing_absent n h = absent_under n s.types (by (type_at s n) refl)
    where
      by : (o : Option (SchemaType Place)) → type_at s n ≡ o → type_at s n ≡ None
      by None e = e
      by (Some t) e = absurd (true≢false (sym h ∙ ap (λ o. is_none o && is_referenced n s) e))

  abbrev scalars_back : List (List ℕ) → Entries (SchemaType Place)
  scalars_back ns = map built_in_scalar (filter (is_missing s) ns)

  -- after others, each missing one with a different name
  put_all : (done : Entries (SchemaType Place)) (ns : List (List ℕ)) → IsDistinct bytes_eq ns → AllByRecursion (λ n. is_missing s n ≡ true → Absent n done) ns → fold (and_missing s) done ns ≡ done ++ scalars_back ns
  unfolding IsDistinct
  put_all done [] u h = sym (append-nil done)
  put_all done (n ∷ ns) u h = by (is_missing s n) refl (λ d. put_all d ns u.1)
    where
      more : (ms : List (List ℕ)) → AllByRecursion (λ m. bytes_eq n m ≡ false) ms → AllByRecursion (λ m. is_missing s m ≡ true → Absent m done) ms → AllByRecursion (λ m. is_missing s m ≡ true → Absent m (done ++ built_in_scalar n ∷ [])) ms
      more [] u h = tt
      more (m ∷ ms) u h = (λ d. absent_both m done (built_in_scalar n ∷ []) (h.0 d) (apart n m u.0, tt), more ms u.1 h.1)

      by : (b : Bool) → is_missing s n ≡ b → ((d : Entries (SchemaType Place)) → AllByRecursion (λ m. is_missing s m ≡ true → Absent m d) ns → fold (and_missing s) d ns ≡ d ++ scalars_back ns)
          → fold (and_missing s) (and_missing s done n) ns ≡ done ++ scalars_back (n ∷ ns)
      by false d later = ap (λ b. fold (and_missing s) (if b then put_under n (built_in_scalar n).1 done else done) ns) d ∙ later done h.1 ∙ sym (ap (λ b. done ++ map built_in_scalar (cond b (n ∷ filter (is_missing s) ns) (filter (is_missing s) ns))) d)
      by true d later = ap (λ b. fold (and_missing s) (if b then put_under n (built_in_scalar n).1 done else done) ns) d
          ∙ ap (λ l. fold (and_missing s) l ns) (put_new n (built_in_scalar n).1 done (h.0 d))
          ∙ later (done ++ built_in_scalar n ∷ []) (more ns u.0 h.1)
          ∙ append_assoc done (built_in_scalar n ∷ []) (scalars_back ns)
          ∙ sym (ap (λ b. done ++ map built_in_scalar (cond b (n ∷ filter (is_missing s) ns) (filter (is_missing s) ns))) d)

  five_apart : IsDistinct bytes_eq scalar_names
  unfolding IsDistinct
  five_apart = ((refl, (refl, (refl, (refl, tt)))), ((refl, (refl, (refl, tt))), ((refl, (refl, tt)), ((refl, tt), (tt, tt)))))

  -- what is kept, then what is put back
  pub validated_of : fold (and_missing s) (kept s).types scalar_names ≡ (validated s).types
  validated_of = put_all (kept s).types scalar_names five_apart (each scalar_names)
    where
      each : (ns : List (List ℕ)) → AllByRecursion (λ n. is_missing s n ≡ true → Absent n (kept s).types) ns
      each [] = tt
      each (n ∷ ns) = (λ d. absent_rest n stays s.types (missing_absent n d), each ns)

-- the names of a map's keys differ as its keys do
keys_named : {A : Type 0} (f : ExtendedType → A) (es : List (NameValue × ExtendedType)) → keys_of (map (λ e. (name_text e.0, f e.1)) es) ≡ map name_text (keys_of es)
keys_named f [] = refl
keys_named f (e ∷ es) = ap (λ l. name_text e.0 ∷ l) (keys_named f es)

once : (ks : List NameValue) → IsDistinct (same_text name_text) ks → IsDistinct bytes_eq (map name_text ks)
unfolding IsDistinct
once [] h = h
once (k ∷ ks) h = (each ks h.0, once ks h.1)
  where
    each : (ms : List NameValue) → AllByRecursion (λ m. same_text name_text k m ≡ false) ms → AllByRecursion (λ m. bytes_eq k.text m ≡ false) (map name_text ms)
    each [] h = tt
    each (m ∷ ms) h = (h.0, each ms h.1)

-- the types that are kept of a schema
pub kept_in : (s : Schema) → IsDistinct (same_text name_text) (keys_of s.types.entries) → fold (and_missing (schema_tree s)) (fold (and_kept (schema_tree s)) [] (schema_tree s).types) scalar_names ≡ (validated (schema_tree s)).types
kept_in s unique =
    ap (λ es. fold (and_missing (schema_tree s)) es scalar_names) (kept_of (schema_tree s) (subst (IsDistinct bytes_eq) (sym (keys_named extended_type s.types.entries)) (once (keys_of s.types.entries) unique)))
    ∙ validated_of (schema_tree s)
