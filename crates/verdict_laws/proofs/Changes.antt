-- A change of places, of what is in trees and of the numbers of extensions, that keeps names and which extensions are one, changes what
-- is made of parts, and what is written of it, in the same way.
use Rattle.std.proofs.Common.{◌≡◌, ℕ, Bool, true, false, not, ◌==◌, ◌&&◌, ◌||◌, List, [], ◌∷◌, ◌++◌, map, filter, find, bytes_eq, is_none, is_some, refl, sym, ap, ◌∙◌, Option, None, Some, option_map, option_to_list, if◌then◌else◌}
use Rattle.std.specs.List.{flat_map}
use Rattle.std.proofs.lemmas.List.{map-append}
use Rattle.std.proofs.lemmas.Simd.{map-map}
use Rattle.graphql_names.specs.Placed.{Placed, Text}
use Rattle.schema_fold.specs.in_directives.DirectiveTree.{DirectiveTree, InputValueTree}
use Rattle.schema_fold.specs.in_directives.declared.operation_type.OperationType.{OperationType}
use Rattle.schema_fold.specs.in_directives.declared.operation_type.OperationType.TheVariants as operation
use Rattle.schema_fold.specs.in_type_members.TypeSystemTree.{FieldDefinitionTree, EnumValueTree, RootOperationTree, SchemaParts}
use Rattle.schema_fold.specs.in_definitions.DefinitionTree.{DefinitionTree, Schema, ExtendSchema}
use Rattle.schema_fold.specs.in_schema_types.in_operations.OperationQueries.{operation_keyword, default_root_name}
use Rattle.schema_fold.specs.in_components.Lists.{each_place_after, firsts, has_name}
use Rattle.schema_fold.specs.in_components.Names.{Entries}
use Rattle.schema_fold.specs.in_components.Given.{Given, ExtensionTree, given_name}
use Rattle.schema_fold.specs.in_schema_types.SchemaTree.{SchemaType, SchemaRoots}
use Rattle.schema_fold.specs.in_schema_types.TypeParts.{TypeParts, TypeDefinition, definition_by, extension_by}
use Rattle.schema_fold.specs.in_schema_types.declared.type_kind.TypeKind.{TypeKind}
use Rattle.schema_fold.specs.in_schema_types.Out.{is_empty, each_once, givers, entries_givers, same_giver, given_by, entries_given_by, extensions_of_type, type_parts_given_by, written_definition, written_extensions, root_given_by, schema_parts_given_by, extensions_of_schema}
use Rattle.verdict_laws.proofs.Gathered.{map-filter}

-- ---- lists

-- the first of each name goes with a map that keeps which names are the same
module _ {X Y : Type 0} (key : X → List ℕ) (key' : Y → List ℕ) (f : X → Y) where
  module _ (keeps : (x y : X) → bytes_eq (key' (f x)) (key' (f y)) ≡ bytes_eq (key x) (key y)) where
    among : (x : X) (before : List X) → has_name key' (key' (f x)) (map f before) ≡ has_name key (key x) before
    among x [] = refl
    among x (y ∷ ys) = λ i. keeps x y i || among x ys i

    firsts_after : (before xs : List X) → map f (each_place_after (λ b x. if has_name key (key x) b then [] else x ∷ []) before xs) ≡ each_place_after (λ b y. if has_name key' (key' y) b then [] else y ∷ []) (map f before) (map f xs)
    firsts_after before [] = refl
    firsts_after before (x ∷ xs) =
        map-append f (if has_name key (key x) before then [] else x ∷ []) (each_place_after (λ b y. if has_name key (key y) b then [] else y ∷ []) (before ++ x ∷ []) xs)
        ∙ (λ i. (by (has_name key (key x) before) ∙ (λ k. if sym (among x before) k then [] else f x ∷ [])) i
        ++ (firsts_after (before ++ x ∷ []) xs ∙ ap (λ b. each_place_after (λ c y. if has_name key' (key' y) c then [] else y ∷ []) b (map f xs)) (map-append f before (x ∷ []))) i)
      where
        by : (b : Bool) → map f (if b then [] else x ∷ []) ≡ (if b then [] else f x ∷ [])
        by true = refl
        by false = refl

    firsts-same : (xs : List X) → map f (firsts key xs) ≡ firsts key' (map f xs)
    firsts-same xs = firsts_after [] xs

  -- and with a map that keeps names
  pub firsts-map : ((x : X) → key' (f x) ≡ key x) → (xs : List X) → map f (firsts key xs) ≡ firsts key' (map f xs)
  firsts-map keeps xs = firsts-same (λ x y i. bytes_eq (keeps x i) (keeps y i)) xs

module _ {X Y : Type 0} (f : X → Y) where
  joined : (xs ys : List X) (as' bs : List Y) → as' ≡ map f xs → bs ≡ map f ys → as' ++ bs ≡ map f (xs ++ ys)
  joined xs ys as' bs a b = (λ i. a i ++ b i) ∙ sym (map-append f xs ys)

  empty-map : (xs : List X) → is_empty (map f xs) ≡ is_empty xs
  empty-map [] = refl
  empty-map (x ∷ xs) = refl

  to_list-map : (o : Option X) → option_to_list (option_map f o) ≡ map f (option_to_list o)
  to_list-map None = refl
  to_list-map (Some x) = refl

  find-map : (test : X → Bool) (test' : Y → Bool) → ((x : X) → test' (f x) ≡ test x) → (xs : List X) → find test' (map f xs) ≡ option_map f (find test xs)
  find-map test test' keeps [] = refl
  find-map test test' keeps (x ∷ xs) = (λ i. if keeps x i then Some (f x) else find-map test test' keeps xs i) ∙ by (test x)
    where
      by : (b : Bool) → (if b then Some (f x) else option_map f (find test xs)) ≡ option_map f (if b then Some x else find test xs)
      by true = refl
      by false = refl

-- ---- what is made of parts

module _ {P : Type 0} where
  -- all that these give of one class
  abbrev pub class_of : {X A : Type 0} → (X → List A) → List (Given P X) → List (Given P A)
  class_of of gs = flat_map (λ g. map (λ x. record { extension = g.extension; it = x }) (of g.it)) gs

  -- the first of each name, under its name
  abbrev keyed : {A : Type 0} → (Given P A → List ℕ) → List (Given P A) → Entries (Given P A)
  keyed key xs = map (λ x. (key x, x)) (firsts key xs)

  -- a type of a definition and of all its parts
  abbrev pub made_type : TypeDefinition P → List (Given P (TypeParts P)) → SchemaType P
  made_type t gs = record {
    kind = t.parts.kind;
    place = t.place;
    description = t.description;
    name = t.parts.name;
    directives = class_of (λ p. p.directives) gs;
    interfaces = firsts given_name (class_of (λ p. p.interfaces) gs);
    fields = keyed (λ g. g.it.it.name.it) (class_of (λ p. p.fields) gs);
    members = firsts given_name (class_of (λ p. p.members) gs);
    values = keyed (λ g. g.it.it.value.it) (class_of (λ p. p.values) gs);
    inputs = keyed (λ g. g.it.it.name.it) (class_of (λ p. p.inputs) gs);
  }

  -- the first root of an operation
  abbrev first_root : OperationType → List (Given P (Placed P (RootOperationTree P))) → Option (Given P (Text P))
  first_root o roots = option_map (λ g. record { extension = g.extension; it = g.it.it.name }) (find (λ g. bytes_eq (operation_keyword o) (operation_keyword g.it.it.operation_type)) roots)

  -- a schema definition of all its parts
  abbrev pub made_schema : P → Option (Text P) → List (Given P (SchemaParts P)) → SchemaRoots P
  made_schema place description gs = record {
    place = place;
    description = description;
    directives = class_of (λ p. p.directives) gs;
    query = first_root operation.Query (class_of (λ p. p.roots) gs);
    mutation = first_root operation.Mutation (class_of (λ p. p.roots) gs);
    subscription = first_root operation.Subscription (class_of (λ p. p.roots) gs);
  }

  -- ---- what is written of it

  -- of a type, which may be built in
  abbrev pub type_written : Bool → SchemaType P → List (DefinitionTree P)
  type_written built_in t = (if built_in then [] else written_definition t ∷ []) ++ written_extensions t

  -- of the schema definition, which may be left out
  abbrev pub schema_written : P → Bool → SchemaRoots P → List (DefinitionTree P)
  schema_written nowhere out r =
      if out then [] else
      Schema r.place r.description (schema_parts_given_by nowhere None r) ∷ map (λ e. ExtendSchema e.place (schema_parts_given_by nowhere (Some e) r)) (extensions_of_schema r)

  abbrev is_implicit : (List ℕ → Bool) → OperationType → Option (Given P (Text P)) → Bool
  is_implicit is_object o None = not (is_object (default_root_name o))
  is_implicit is_object o (Some g) = bytes_eq g.it.it (default_root_name o) && is_object (default_root_name o)

  -- it is left out, where this says which names are those of objects
  abbrev pub left_out : (List ℕ → Bool) → SchemaRoots P → Bool
  left_out is_object r =
      is_none r.description && is_empty r.directives && is_empty (extensions_of_schema r)
      && is_implicit is_object operation.Query r.query && is_implicit is_object operation.Mutation r.mutation
      && is_implicit is_object operation.Subscription r.subscription && is_some r.query

-- ---- changes

pub record Change (P Q : Type 0) : Type 0 where
  pub extension : ExtensionTree P → ExtensionTree Q
  pub same : (e f : ExtensionTree P) → ((extension e).number == (extension f).number) ≡ (e.number == f.number)
  pub place : P → Q
  pub placed : (e : ExtensionTree P) → (extension e).place ≡ place e.place
  pub text : Text P → Text Q
  pub text_named : (t : Text P) → (text t).it ≡ t.it
  pub directive : Placed P (DirectiveTree P) → Placed Q (DirectiveTree Q)
  pub field : Placed P (FieldDefinitionTree P) → Placed Q (FieldDefinitionTree Q)
  pub field_named : (x : Placed P (FieldDefinitionTree P)) → (field x).it.name.it ≡ x.it.name.it
  pub value : Placed P (EnumValueTree P) → Placed Q (EnumValueTree Q)
  pub value_named : (x : Placed P (EnumValueTree P)) → (value x).it.value.it ≡ x.it.value.it
  pub input : Placed P (InputValueTree P) → Placed Q (InputValueTree Q)
  pub input_named : (x : Placed P (InputValueTree P)) → (input x).it.name.it ≡ x.it.name.it

module _ {P Q : Type 0} (c : Change P Q) where
  abbrev pub changed_given : {A B : Type 0} → (A → B) → Given P A → Given Q B
  changed_given f g = record { extension = option_map c.extension g.extension; it = f g.it }

  abbrev pub changed_entry : {A B : Type 0} → (A → B) → List ℕ × Given P A → List ℕ × Given Q B
  changed_entry f e = (e.0, changed_given f e.1)

  abbrev pub changed_parts : TypeParts P → TypeParts Q
  changed_parts p = record {
    kind = p.kind;
    name = c.text p.name;
    directives = map c.directive p.directives;
    interfaces = map c.text p.interfaces;
    fields = map c.field p.fields;
    members = map c.text p.members;
    values = map c.value p.values;
    inputs = map c.input p.inputs;
  }

  abbrev pub changed_definition : TypeDefinition P → TypeDefinition Q
  changed_definition t = record { place = c.place t.place; description = option_map c.text t.description; parts = changed_parts t.parts }

  abbrev pub changed_type : SchemaType P → SchemaType Q
  changed_type t = record {
    kind = t.kind;
    place = c.place t.place;
    description = option_map c.text t.description;
    name = c.text t.name;
    directives = map (changed_given c.directive) t.directives;
    interfaces = map (changed_given c.text) t.interfaces;
    fields = map (changed_entry c.field) t.fields;
    members = map (changed_given c.text) t.members;
    values = map (changed_entry c.value) t.values;
    inputs = map (changed_entry c.input) t.inputs;
  }

  abbrev changed_root : Placed P (RootOperationTree P) → Placed Q (RootOperationTree Q)
  changed_root r = record { it = record { operation_type = r.it.operation_type; name = c.text r.it.name }; place = c.place r.place }

  abbrev pub changed_schema : SchemaParts P → SchemaParts Q
  changed_schema s = record { directives = map c.directive s.directives; roots = map changed_root s.roots }

  abbrev pub changed_roots : SchemaRoots P → SchemaRoots Q
  changed_roots s = record {
    place = c.place s.place;
    description = option_map c.text s.description;
    directives = map (changed_given c.directive) s.directives;
    query = option_map (changed_given c.text) s.query;
    mutation = option_map (changed_given c.text) s.mutation;
    subscription = option_map (changed_given c.text) s.subscription;
  }

  -- ---- of what is made

  class-change : {X Y A B : Type 0} (of : X → List A) (of' : Y → List B) (f : X → Y) (h : A → B) → ((x : X) → of' (f x) ≡ map h (of x)) → (gs : List (Given P X)) → map (changed_given h) (class_of of gs) ≡ class_of of' (map (changed_given f) gs)
  class-change of of' f h agree [] = refl
  class-change of of' f h agree (g ∷ gs) =
      map-append (changed_given h) (map (λ x. record { extension = g.extension; it = x }) (of g.it)) (class_of of gs)
      ∙ (λ i. (map-map (changed_given h) (λ x. record { extension = g.extension; it = x }) (of g.it)
      ∙ sym (map-map (λ x. record { extension = option_map c.extension g.extension; it = x }) h (of g.it))
      ∙ ap (map (λ x. record { extension = option_map c.extension g.extension; it = x })) (sym (agree g.it))) i ++ class-change of of' f h agree gs i)

  keyed-change : {A B : Type 0} (key : Given P A → List ℕ) (key' : Given Q B → List ℕ) (h : A → B) → ((g : Given P A) → key' (changed_given h g) ≡ key g) → (gs : List (Given P A)) → map (changed_entry h) (keyed key gs) ≡ keyed key' (map (changed_given h) gs)
  keyed-change {A} {B} key key' h keeps gs =
      map-map (changed_entry h) (λ x. (key x, x)) (firsts key gs)
      ∙ (λ i. map (λ x. (sym (keeps x) i, changed_given h x)) (firsts key gs))
      ∙ sym (map-map {C = List ℕ × Given Q B} (λ x. (key' x, x)) (changed_given h) (firsts key gs))
      ∙ ap (map (λ x. (key' x, x))) (firsts-map key key' (changed_given h) keeps gs)

  pub type_made : (t : TypeDefinition P) (gs : List (Given P (TypeParts P))) → changed_type (made_type t gs) ≡ made_type (changed_definition t) (map (changed_given changed_parts) gs)
  type_made t gs = λ i. record {
    kind = t.parts.kind;
    place = c.place t.place;
    description = option_map c.text t.description;
    name = c.text t.parts.name;
    directives = class-change (λ p. p.directives) (λ p. p.directives) changed_parts c.directive (λ p. refl) gs i;
    interfaces = names (λ p. p.interfaces) (λ p. p.interfaces) (λ p. refl) i;
    fields = (keyed-change (λ g. g.it.it.name.it) (λ g. g.it.it.name.it) c.field (λ g. c.field_named g.it) (class_of (λ p. p.fields) gs)
        ∙ ap (keyed (λ g. g.it.it.name.it)) (class-change (λ p. p.fields) (λ p. p.fields) changed_parts c.field (λ p. refl) gs)) i;
    members = names (λ p. p.members) (λ p. p.members) (λ p. refl) i;
    values = (keyed-change (λ g. g.it.it.value.it) (λ g. g.it.it.value.it) c.value (λ g. c.value_named g.it) (class_of (λ p. p.values) gs)
        ∙ ap (keyed (λ g. g.it.it.value.it)) (class-change (λ p. p.values) (λ p. p.values) changed_parts c.value (λ p. refl) gs)) i;
    inputs = (keyed-change (λ g. g.it.it.name.it) (λ g. g.it.it.name.it) c.input (λ g. c.input_named g.it) (class_of (λ p. p.inputs) gs)
        ∙ ap (keyed (λ g. g.it.it.name.it)) (class-change (λ p. p.inputs) (λ p. p.inputs) changed_parts c.input (λ p. refl) gs)) i;
  }
    where
      names : (of : TypeParts P → List (Text P)) (of' : TypeParts Q → List (Text Q)) → ((p : TypeParts P) → of' (changed_parts p) ≡ map c.text (of p))
          → map (changed_given c.text) (firsts given_name (class_of of gs)) ≡ firsts given_name (class_of of' (map (changed_given changed_parts) gs))
      names of of' agree = firsts-map given_name given_name (changed_given c.text) (λ g. c.text_named g.it) (class_of of gs) ∙ ap (firsts given_name) (class-change of of' changed_parts c.text agree gs)

  root-change : (o : OperationType) (gs : List (Given P (Placed P (RootOperationTree P)))) → option_map (changed_given c.text) (first_root o gs) ≡ first_root o (map (changed_given changed_root) gs)
  root-change o gs =
      by (find (λ g. bytes_eq (operation_keyword o) (operation_keyword g.it.it.operation_type)) gs)
      ∙ ap (option_map (λ (g : Given Q (Placed Q (RootOperationTree Q))). record { extension = g.extension; it = g.it.it.name }))
      (sym (find-map (changed_given changed_root) (λ g. bytes_eq (operation_keyword o) (operation_keyword g.it.it.operation_type)) (λ g. bytes_eq (operation_keyword o) (operation_keyword g.it.it.operation_type)) (λ g. refl) gs))
    where
      by : (x : Option (Given P (Placed P (RootOperationTree P)))) → option_map (changed_given c.text) (option_map (λ (g : Given P (Placed P (RootOperationTree P))). record { extension = g.extension; it = g.it.it.name }) x)
          ≡ option_map (λ (g : Given Q (Placed Q (RootOperationTree Q))). record { extension = g.extension; it = g.it.it.name }) (option_map (changed_given changed_root) x)
      by None = refl
      by (Some g) = refl

  pub schema_made : (p : P) (d : Option (Text P)) (gs : List (Given P (SchemaParts P))) → changed_roots (made_schema p d gs) ≡ made_schema (c.place p) (option_map c.text d) (map (changed_given changed_schema) gs)
  schema_made p d gs = λ i. record {
    place = c.place p;
    description = option_map c.text d;
    directives = class-change (λ s. s.directives) (λ s. s.directives) changed_schema c.directive (λ s. refl) gs i;
    query = root operation.Query i;
    mutation = root operation.Mutation i;
    subscription = root operation.Subscription i;
  }
    where
      root : (o : OperationType) → option_map (changed_given c.text) (first_root o (class_of (λ s. s.roots) gs)) ≡ first_root o (class_of (λ s. s.roots) (map (changed_given changed_schema) gs))
      root o = root-change o (class_of (λ s. s.roots) gs) ∙ ap (first_root o) (class-change (λ s. s.roots) (λ s. s.roots) changed_schema changed_root (λ s. refl) gs)

  -- ---- of who gave what

  giver_kept : (g h : Option (ExtensionTree P)) → same_giver (option_map c.extension g) (option_map c.extension h) ≡ same_giver g h
  giver_kept None None = refl
  giver_kept None (Some f) = refl
  giver_kept (Some e) None = refl
  giver_kept (Some e) (Some f) = c.same e f

  once : (es : List (ExtensionTree P)) → each_once (map c.extension es) ≡ map c.extension (each_once es)
  once es = sym (firsts-same (λ e. e.number ∷ []) (λ e. e.number ∷ []) c.extension (λ e f. ap (λ b. b && bytes_eq [] []) (c.same e f)) es)

  module _ {A B : Type 0} (f : A → B) where
    givers-change : (gs : List (Given P A)) → givers (map (changed_given f) gs) ≡ map c.extension (givers gs)
    givers-change [] = refl
    givers-change (g ∷ gs) = joined c.extension (option_to_list g.extension) (givers gs) (option_to_list (option_map c.extension g.extension)) (givers (map (changed_given f) gs)) (to_list-map c.extension g.extension) (givers-change gs)

    entries_givers-change : (es : Entries (Given P A)) → entries_givers (map (changed_entry f) es) ≡ map c.extension (entries_givers es)
    entries_givers-change [] = refl
    entries_givers-change (e ∷ es) = joined c.extension (option_to_list e.1.extension) (entries_givers es) (option_to_list (option_map c.extension e.1.extension)) (entries_givers (map (changed_entry f) es)) (to_list-map c.extension e.1.extension) (entries_givers-change es)

    given-change : (giver : Option (ExtensionTree P)) (gs : List (Given P A)) → given_by (option_map c.extension giver) (map (changed_given f) gs) ≡ map f (given_by giver gs)
    given-change giver gs =
        ap (map (λ g. g.it)) (map-filter (changed_given f) (λ g. same_giver giver g.extension) (λ g. same_giver (option_map c.extension giver) g.extension) (λ g. giver_kept giver g.extension) gs)
        ∙ map-map (λ g. g.it) (changed_given f) (filter (λ g. same_giver giver g.extension) gs)
        ∙ sym (map-map f (λ (g : Given P A). g.it) (filter (λ g. same_giver giver g.extension) gs))

    entries_given-change : (giver : Option (ExtensionTree P)) (es : Entries (Given P A)) → entries_given_by (option_map c.extension giver) (map (changed_entry f) es) ≡ map f (entries_given_by giver es)
    entries_given-change giver es =
        ap (map (λ (e : List ℕ × Given Q B). e.1.it)) (map-filter (changed_entry f) (λ e. same_giver giver e.1.extension) (λ e. same_giver (option_map c.extension giver) e.1.extension) (λ e. giver_kept giver e.1.extension) es)
        ∙ map-map (λ (e : List ℕ × Given Q B). e.1.it) (changed_entry f) (filter (λ e. same_giver giver e.1.extension) es)
        ∙ sym (map-map f (λ (e : List ℕ × Given P A). e.1.it) (filter (λ e. same_giver giver e.1.extension) es))

  parts_given : (giver : Option (ExtensionTree P)) (t : SchemaType P) → type_parts_given_by (option_map c.extension giver) (changed_type t) ≡ changed_parts (type_parts_given_by giver t)
  parts_given giver t = λ i. record {
    kind = t.kind;
    name = c.text t.name;
    directives = given-change c.directive giver t.directives i;
    interfaces = given-change c.text giver t.interfaces i;
    fields = entries_given-change c.field giver t.fields i;
    members = given-change c.text giver t.members i;
    values = entries_given-change c.value giver t.values i;
    inputs = entries_given-change c.input giver t.inputs i;
  }

  type_givers : (t : SchemaType P) → extensions_of_type (changed_type t) ≡ map c.extension (extensions_of_type t)
  type_givers t =
      let two = joined c.extension (givers t.directives) (givers t.interfaces) _ _ (givers-change c.directive t.directives) (givers-change c.text t.interfaces) in
      let three = joined c.extension (givers t.directives ++ givers t.interfaces) (entries_givers t.fields) _ _ two (entries_givers-change c.field t.fields) in
      let four = joined c.extension (givers t.directives ++ givers t.interfaces ++ entries_givers t.fields) (givers t.members) _ _ three (givers-change c.text t.members) in
      let five = joined c.extension (givers t.directives ++ givers t.interfaces ++ entries_givers t.fields ++ givers t.members) (entries_givers t.values) _ _ four (entries_givers-change c.value t.values) in
      let all = joined c.extension (givers t.directives ++ givers t.interfaces ++ entries_givers t.fields ++ givers t.members ++ entries_givers t.values) (entries_givers t.inputs) _ _ five (entries_givers-change c.input t.inputs) in
      ap each_once all ∙ once (givers t.directives ++ givers t.interfaces ++ entries_givers t.fields ++ givers t.members ++ entries_givers t.values ++ entries_givers t.inputs)

  root_given : (nowhere : P) (giver : Option (ExtensionTree P)) (o : OperationType) (root : Option (Given P (Text P))) → root_given_by (c.place nowhere) (option_map c.extension giver) o (option_map (changed_given c.text) root) ≡ map changed_root (root_given_by nowhere giver o root)
  root_given nowhere giver o root =
      ap (λ gs. map (λ name. record { it = record { operation_type = o; name = name }; place = c.place nowhere }) (given_by (option_map c.extension giver) gs)) (to_list-map (changed_given c.text) root)
      ∙ ap (map (λ name. record { it = record { operation_type = o; name = name }; place = c.place nowhere })) (given-change c.text giver (option_to_list root))
      ∙ map-map (λ name. record { it = record { operation_type = o; name = name }; place = c.place nowhere }) c.text (given_by giver (option_to_list root))
      ∙ sym (map-map changed_root (λ (name : Text P). record { it = record { operation_type = o; name = name }; place = nowhere }) (given_by giver (option_to_list root)))

  schema_given : (nowhere : P) (giver : Option (ExtensionTree P)) (s : SchemaRoots P) → schema_parts_given_by (c.place nowhere) (option_map c.extension giver) (changed_roots s) ≡ changed_schema (schema_parts_given_by nowhere giver s)
  schema_given nowhere giver s =
      let two = joined changed_root (root_given_by nowhere giver operation.Query s.query) (root_given_by nowhere giver operation.Mutation s.mutation) _ _ (root_given nowhere giver operation.Query s.query) (root_given nowhere giver operation.Mutation s.mutation) in
      let all = joined changed_root (root_given_by nowhere giver operation.Query s.query ++ root_given_by nowhere giver operation.Mutation s.mutation) (root_given_by nowhere giver operation.Subscription s.subscription) _ _ two (root_given nowhere giver operation.Subscription s.subscription) in
      λ i. record { directives = given-change c.directive giver s.directives i; roots = all i }

  root_givers : (root : Option (Given P (Text P))) → givers (option_to_list (option_map (changed_given c.text) root)) ≡ map c.extension (givers (option_to_list root))
  root_givers root = ap givers (to_list-map (changed_given c.text) root) ∙ givers-change c.text (option_to_list root)

  schema_givers : (s : SchemaRoots P) → extensions_of_schema (changed_roots s) ≡ map c.extension (extensions_of_schema s)
  schema_givers s =
      let two = joined c.extension (givers s.directives) (givers (option_to_list s.query)) _ _ (givers-change c.directive s.directives) (root_givers s.query) in
      let three = joined c.extension (givers s.directives ++ givers (option_to_list s.query)) (givers (option_to_list s.mutation)) _ _ two (root_givers s.mutation) in
      let all = joined c.extension (givers s.directives ++ givers (option_to_list s.query) ++ givers (option_to_list s.mutation)) (givers (option_to_list s.subscription)) _ _ three (root_givers s.subscription) in
      ap each_once all ∙ once (givers s.directives ++ givers (option_to_list s.query) ++ givers (option_to_list s.mutation) ++ givers (option_to_list s.subscription))

  pub left_out-change : (is_object : List ℕ → Bool) (r : SchemaRoots P) → left_out is_object (changed_roots r) ≡ left_out is_object r
  left_out-change is_object r = λ i.
      none r.description i && empty-map (changed_given c.directive) r.directives i && (ap is_empty (schema_givers r) ∙ empty-map c.extension (extensions_of_schema r)) i
      && implicit operation.Query r.query i && implicit operation.Mutation r.mutation i
      && implicit operation.Subscription r.subscription i && some r.query i
    where
      none : (d : Option (Text P)) → is_none (option_map c.text d) ≡ is_none d
      none None = refl
      none (Some d) = refl

      some : (d : Option (Given P (Text P))) → is_some (option_map (changed_given c.text) d) ≡ is_some d
      some None = refl
      some (Some d) = refl

      implicit : (o : OperationType) (root : Option (Given P (Text P))) → is_implicit is_object o (option_map (changed_given c.text) root) ≡ is_implicit is_object o root
      implicit o None = refl
      implicit o (Some g) = λ i. bytes_eq (c.text_named g.it i) (default_root_name o) && is_object (default_root_name o)

  -- ---- of what is written

  -- what becomes of definitions
  pub record Carries (tree : DefinitionTree P → DefinitionTree Q) : Type 0 where
    pub defines : (k : TypeKind) (p : P) (d : Option (Text P)) (t : TypeParts P) → tree (definition_by k p d t) ≡ definition_by k (c.place p) (option_map c.text d) (changed_parts t)
    pub extends : (k : TypeKind) (p : P) (t : TypeParts P) → tree (extension_by k p t) ≡ extension_by k (c.place p) (changed_parts t)
    pub schema : (p : P) (d : Option (Text P)) (s : SchemaParts P) → tree (Schema p d s) ≡ Schema (c.place p) (option_map c.text d) (changed_schema s)
    pub extends_schema : (p : P) (s : SchemaParts P) → tree (ExtendSchema p s) ≡ ExtendSchema (c.place p) (changed_schema s)

  module _ (tree : DefinitionTree P → DefinitionTree Q) (carries : Carries tree) where
    pub type_carried : (b : Bool) (t : SchemaType P) → map tree (type_written b t) ≡ type_written b (changed_type t)
    type_carried b t = map-append tree (if b then [] else written_definition t ∷ []) (written_extensions t) ∙ (λ i. defined b i ++ extended i)
      where
        defined : (b : Bool) → map tree (if b then [] else written_definition t ∷ []) ≡ (if b then [] else written_definition (changed_type t) ∷ [])
        defined true = refl
        defined false = ap (λ d. d ∷ []) (carries.defines t.kind t.place t.description (type_parts_given_by None t)
            ∙ ap (definition_by t.kind (c.place t.place) (option_map c.text t.description)) (sym (parts_given None t)))

        each : (e : ExtensionTree P) → tree (extension_by t.kind e.place (type_parts_given_by (Some e) t)) ≡ extension_by t.kind (c.extension e).place (type_parts_given_by (Some (c.extension e)) (changed_type t))
        each e = carries.extends t.kind e.place (type_parts_given_by (Some e) t) ∙ (λ i. extension_by t.kind (sym (c.placed e) i) (sym (parts_given (Some e) t) i))

        extended : map tree (written_extensions t) ≡ written_extensions (changed_type t)
        extended =
            map-map tree (λ e. extension_by t.kind e.place (type_parts_given_by (Some e) t)) (extensions_of_type t)
            ∙ (λ i. map (λ e. each e i) (extensions_of_type t))
            ∙ sym (map-map (λ e. extension_by t.kind e.place (type_parts_given_by (Some e) (changed_type t))) c.extension (extensions_of_type t))
            ∙ ap (map (λ e. extension_by t.kind e.place (type_parts_given_by (Some e) (changed_type t)))) (sym (type_givers t))

    pub schema_carried : (nowhere : P) (b : Bool) (r : SchemaRoots P) → map tree (schema_written nowhere b r) ≡ schema_written (c.place nowhere) b (changed_roots r)
    schema_carried nowhere true r = refl
    schema_carried nowhere false r = λ i. (carries.schema r.place r.description (schema_parts_given_by nowhere None r) ∙ ap (Schema (c.place r.place) (option_map c.text r.description)) (sym (schema_given nowhere None r))) i ∷ extended i
      where
        each : (e : ExtensionTree P) → tree (ExtendSchema e.place (schema_parts_given_by nowhere (Some e) r)) ≡ ExtendSchema (c.extension e).place (schema_parts_given_by (c.place nowhere) (Some (c.extension e)) (changed_roots r))
        each e = carries.extends_schema e.place (schema_parts_given_by nowhere (Some e) r) ∙ (λ i. ExtendSchema (sym (c.placed e) i) (sym (schema_given nowhere (Some e) r) i))

        extended : map tree (map (λ e. ExtendSchema e.place (schema_parts_given_by nowhere (Some e) r)) (extensions_of_schema r)) ≡ map (λ e. ExtendSchema e.place (schema_parts_given_by (c.place nowhere) (Some e) (changed_roots r))) (extensions_of_schema (changed_roots r))
        extended =
            map-map tree (λ e. ExtendSchema e.place (schema_parts_given_by nowhere (Some e) r)) (extensions_of_schema r)
            ∙ (λ i. map (λ e. each e i) (extensions_of_schema r))
            ∙ sym (map-map (λ e. ExtendSchema e.place (schema_parts_given_by (c.place nowhere) (Some e) (changed_roots r))) c.extension (extensions_of_schema r))
            ∙ ap (map (λ e. ExtendSchema e.place (schema_parts_given_by (c.place nowhere) (Some e) (changed_roots r)))) (sym (schema_givers r))
