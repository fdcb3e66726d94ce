-- What is noted of the types one after another is the set of those that name an interface.
use Rattle.std.proofs.Common.{◌≡◌, ℕ, Bool, true, false, cond, ◌&&◌, ◌||◌, List, [], ◌∷◌, ◌++◌, map, filter, Option, None, Some, refl, sym, ap, ◌∙◌, if◌then◌else◌, true≢false}
use Rattle.std.specs.Prelude.{unwrap_or, fold}
use Rattle.std.specs.List.{list_any, flat_map}
use Rattle.std.specs.Str.{bytes_eq}
use Rattle.std.proofs.lemmas.Grind.{fold-append}
use Rattle.std.proofs.lemmas.List.{append_assoc, append-nil, map-append}
use Rattle.std.proofs.lemmas.List.Elements.{filter-append}
use Rattle.std.proofs.lemmas.List.Folds.{list_any-append}
use Rattle.std.proofs.lemmas.Slice.Eq.{bytes_eq-Decides}
use Rattle.graphql_names.specs.NameValue.{NameValue}
use Rattle.graphql_names.specs.Placed.{Place, Text}
use Rattle.schema_components.specs.Lists.{is_among, firsts, has_name}
use Rattle.schema_components.specs.Given.{Given, given_name}
use Rattle.schema_components.proofs.Firsts.{has_name-firsts, firsts-push_new, firsts-push_seen}
use Rattle.schema_building.specs.in_schema_types.SchemaTree.{SchemaType, same_kind}
use Rattle.schema_building.specs.in_schema_types.TypeView.{name_text, extended_type}
use Rattle.schema_building.specs.in_schema_types.declared.extended_type.ExtendedType.{ExtendedType}
use Rattle.schema_building.specs.in_schema_types.declared.extended_type.ExtendedType.TheVariants as rust
use Rattle.schema_building.specs.in_schema_types.declared.type_kind.TypeKind.{TypeKind}
use Rattle.schema_building.specs.in_schema_types.declared.type_kind.TypeKind.TheVariants as kind
use Rattle.graphql_schema.specs.Implementers.{ImplementersTree}
use Rattle.graphql_schema.specs.Noting.{nobody, with_name, and_type, and_naming, naming, namings_of, noted_in}

or_false : (b : Bool) → (b || false) ≡ b
or_false true = refl
or_false false = refl

or_true : (b : Bool) → (b || true) ≡ true
or_true true = refl
or_true false = refl

and_false : (b : Bool) → (b && false) ≡ false
and_false true = refl
and_false false = refl

same : {X : Type 0} (b : Bool) (x : X) → (if b then x else x) ≡ x
same true x = refl
same false x = refl

flip : (x y : List ℕ) → bytes_eq x y ≡ bytes_eq y x
flip x y = by (bytes_eq x y) refl (bytes_eq y x) refl
  where
    by : (a : Bool) → bytes_eq x y ≡ a → (b : Bool) → bytes_eq y x ≡ b → a ≡ b
    by true e true f = refl
    by true e false f = sym ((bytes_eq-Decides y x).1 (sym ((bytes_eq-Decides x y).0 e))) ∙ f
    by false e true f = sym e ∙ (bytes_eq-Decides x y).1 (sym ((bytes_eq-Decides y x).0 f))
    by false e false f = refl

-- ---- a name is added once

added_is_there : (n : List ℕ) (ns : List (List ℕ)) → is_among n (ns ++ n ∷ []) ≡ true
added_is_there n ns =
    list_any-append (bytes_eq n) ns (n ∷ []) ∙ ap (λ b. is_among n ns || (b || false)) ((bytes_eq-Decides n n).1 refl) ∙ or_true (is_among n ns)

name_twice : (n : List ℕ) (ns : List (List ℕ)) → with_name n (with_name n ns) ≡ with_name n ns
name_twice n ns = by (is_among n ns) refl
  where
    by : (b : Bool) → is_among n ns ≡ b → with_name n (with_name n ns) ≡ with_name n ns
    by true h = ap (with_name n) (ap (λ b. if b then ns else ns ++ n ∷ []) h)
    by false h =
        let more : with_name n ns ≡ ns ++ n ∷ [] = ap (λ b. if b then ns else ns ++ n ∷ []) h in
        ap (with_name n) more ∙ ap (λ b. if b then ns ++ n ∷ [] else (ns ++ n ∷ []) ++ n ∷ []) (added_is_there n ns) ∙ sym more

type_twice : (is_object : Bool) (n : List ℕ) (x : ImplementersTree) → and_type is_object n (and_type is_object n x) ≡ and_type is_object n x
type_twice true n x = ap (λ l. record { objects = l; interfaces = x.interfaces }) (name_twice n x.objects)
type_twice false n x = ap (λ l. record { objects = x.objects; interfaces = l }) (name_twice n x.interfaces)

module _ (i : List ℕ) where
  abbrev Entry : Type 0
  Entry = List ℕ × SchemaType Place

  -- the type names the interface
  abbrev names_it : Entry → Bool
  names_it e = is_among i (map given_name e.1.interfaces)

  -- what one type adds
  one_noted : (is_object : Bool) (n : List ℕ) (gs : List (Given Place (Text Place))) (o : Option ImplementersTree)
      → fold (and_naming i) o (map (naming is_object n) gs) ≡ (if is_among i (map given_name gs) then Some (and_type is_object n (unwrap_or o nobody)) else o)
  one_noted is_object n [] o = refl
  one_noted is_object n (g ∷ gs) o = by (bytes_eq (given_name g) i) refl (one_noted is_object n gs)
    where
      by : (b : Bool) → bytes_eq (given_name g) i ≡ b
          → ((p : Option ImplementersTree) → fold (and_naming i) p (map (naming is_object n) gs) ≡ (if is_among i (map given_name gs) then Some (and_type is_object n (unwrap_or p nobody)) else p))
          → fold (and_naming i) (if bytes_eq (given_name g) i then Some (and_type is_object n (unwrap_or o nobody)) else o) (map (naming is_object n) gs)
          ≡ (if bytes_eq i (given_name g) || is_among i (map given_name gs) then Some (and_type is_object n (unwrap_or o nobody)) else o)
      by true t rest =
          ap (λ b. fold (and_naming i) (if b then Some (and_type is_object n (unwrap_or o nobody)) else o) (map (naming is_object n) gs)) t
          ∙ rest (Some (and_type is_object n (unwrap_or o nobody)))
          ∙ ap (λ x. if is_among i (map given_name gs) then Some x else Some (and_type is_object n (unwrap_or o nobody))) (type_twice is_object n (unwrap_or o nobody))
          ∙ same (is_among i (map given_name gs)) (Some (and_type is_object n (unwrap_or o nobody)))
          ∙ sym (ap (λ b. if b || is_among i (map given_name gs) then Some (and_type is_object n (unwrap_or o nobody)) else o) (flip i (given_name g) ∙ t))
      by false t rest =
          ap (λ b. fold (and_naming i) (if b then Some (and_type is_object n (unwrap_or o nobody)) else o) (map (naming is_object n) gs)) t
          ∙ rest o
          ∙ sym (ap (λ b. if b || is_among i (map given_name gs) then Some (and_type is_object n (unwrap_or o nobody)) else o) (flip i (given_name g) ∙ t))

  abbrev step : Option ImplementersTree → Entry → Option ImplementersTree
  step o e = if names_it e then Some (and_type (same_kind e.1.kind kind.Object) e.0 (unwrap_or o nobody)) else o

  each_noted : (es : List Entry) (o : Option ImplementersTree) → fold (and_naming i) o (flat_map namings_of es) ≡ fold step o es
  each_noted [] o = refl
  each_noted (e ∷ es) o =
      fold-append (and_naming i) o (namings_of e) (flat_map namings_of es)
      ∙ ap (λ z. fold (and_naming i) z (flat_map namings_of es)) (one_noted (same_kind e.1.kind kind.Object) e.0 e.1.interfaces o)
      ∙ each_noted es (step o e)

  -- ---- those that name the interface

  abbrev key : Entry → List ℕ
  key e = e.0

  abbrev is_one : TypeKind → Entry → Bool
  is_one k e = same_kind e.1.kind k && names_it e

  abbrev naming_it : TypeKind → List Entry → List (List ℕ)
  naming_it k es = map key (firsts key (filter (is_one k) es))

  abbrev collected : List Entry → Option ImplementersTree
  collected es = if list_any names_it es then Some (record { objects = naming_it kind.Object es; interfaces = naming_it kind.Interface es }) else None

  first_more : (es : List Entry) (e : Entry) → map key (firsts key (es ++ e ∷ [])) ≡ with_name e.0 (map key (firsts key es))
  first_more es e = by (has_name key e.0 es) refl
    where
      by : (b : Bool) → has_name key e.0 es ≡ b → map key (firsts key (es ++ e ∷ [])) ≡ with_name e.0 (map key (firsts key es))
      by true h =
          ap (map key) (firsts-push_seen key es e h)
          ∙ sym (ap (λ b. if b then map key (firsts key es) else map key (firsts key es) ++ e.0 ∷ []) (has_name-firsts key e.0 es ∙ h))
      by false h =
          ap (map key) (firsts-push_new key es e h) ∙ map-append key (firsts key es) (e ∷ [])
          ∙ sym (ap (λ b. if b then map key (firsts key es) else map key (firsts key es) ++ e.0 ∷ []) (has_name-firsts key e.0 es ∙ h))

  filter_more : (k : TypeKind) (es : List Entry) (e : Entry) (b : Bool) → is_one k e ≡ b → filter (is_one k) (es ++ e ∷ []) ≡ filter (is_one k) es ++ cond b (e ∷ []) []
  filter_more k es e b h = filter-append (is_one k) es (e ∷ []) ∙ ap (λ b. filter (is_one k) es ++ cond b (e ∷ []) []) h

  -- a type of that kind that names the interface, and another
  one_more : (k : TypeKind) (es : List Entry) (e : Entry) → is_one k e ≡ true → naming_it k (es ++ e ∷ []) ≡ with_name e.0 (naming_it k es)
  one_more k es e h = ap (λ l. map key (firsts key l)) (filter_more k es e true h) ∙ first_more (filter (is_one k) es) e

  none_more : (k : TypeKind) (es : List Entry) (e : Entry) → is_one k e ≡ false → naming_it k (es ++ e ∷ []) ≡ naming_it k es
  none_more k es e h = ap (λ l. map key (firsts key l)) (filter_more k es e false h ∙ append-nil (filter (is_one k) es))

  none_names : (k : TypeKind) (es : List Entry) → list_any names_it es ≡ false → filter (is_one k) es ≡ []
  none_names k [] h = refl
  none_names k (e ∷ es) h = by (names_it e) refl h (none_names k es)
    where
      by : (b : Bool) → names_it e ≡ b → (b || list_any names_it es) ≡ false → (list_any names_it es ≡ false → filter (is_one k) es ≡ [])
          → cond (same_kind e.1.kind k && names_it e) (e ∷ filter (is_one k) es) (filter (is_one k) es) ≡ []
      by true t h rest = absurd (true≢false h)
      by false t h rest = ap (λ b. cond (same_kind e.1.kind k && b) (e ∷ filter (is_one k) es) (filter (is_one k) es)) t ∙ ap (λ b. cond b (e ∷ filter (is_one k) es) (filter (is_one k) es)) (and_false (same_kind e.1.kind k)) ∙ rest h

  so_far : (es : List Entry) → unwrap_or (collected es) nobody ≡ record { objects = naming_it kind.Object es; interfaces = naming_it kind.Interface es }
  so_far es = by (list_any names_it es) refl
    where
      by : (b : Bool) → list_any names_it es ≡ b
          → unwrap_or (if b then Some (record { objects = naming_it kind.Object es; interfaces = naming_it kind.Interface es }) else None) nobody
          ≡ record { objects = naming_it kind.Object es; interfaces = naming_it kind.Interface es }
      by true h = refl
      by false h =
          sym (ap (λ l. record { objects = map key (firsts key l); interfaces = [] }) (none_names kind.Object es h))
          ∙ sym (ap (λ l. record { objects = naming_it kind.Object es; interfaces = map key (firsts key l) }) (none_names kind.Interface es h))

  any_more : (es : List Entry) (e : Entry) → list_any names_it (es ++ e ∷ []) ≡ (list_any names_it es || names_it e)
  any_more es e = list_any-append names_it es (e ∷ []) ∙ ap (λ b. list_any names_it es || b) (or_false (names_it e))

  -- a type more
  passed : (es : List Entry) (e : Entry) → names_it e ≡ false → step (collected es) e ≡ collected (es ++ e ∷ [])
  passed es e h =
      let apart : (k : TypeKind) → is_one k e ≡ false = λ k. ap (λ b. same_kind e.1.kind k && b) h ∙ and_false (same_kind e.1.kind k) in
      ap (λ b. if b then Some (and_type (same_kind e.1.kind kind.Object) e.0 (unwrap_or (collected es) nobody)) else collected es) h
      ∙ sym (
      ap (λ b. if b then Some (record { objects = naming_it kind.Object (es ++ e ∷ []); interfaces = naming_it kind.Interface (es ++ e ∷ []) }) else None) (any_more es e ∙ ap (λ b. list_any names_it es || b) h ∙ or_false (list_any names_it es))
      ∙ ap (λ l. if list_any names_it es then Some (record { objects = l; interfaces = naming_it kind.Interface (es ++ e ∷ []) }) else None) (none_more kind.Object es e (apart kind.Object))
      ∙ ap (λ l. if list_any names_it es then Some (record { objects = naming_it kind.Object es; interfaces = l }) else None) (none_more kind.Interface es e (apart kind.Interface)))

  taken : (es : List Entry) (e : Entry) → names_it e ≡ true → (is_object : Bool) → same_kind e.1.kind kind.Object ≡ is_object
      → step (collected es) e ≡ Some (and_type is_object e.0 (record { objects = naming_it kind.Object es; interfaces = naming_it kind.Interface es }))
  taken es e h is_object o =
      ap (λ b. if b then Some (and_type (same_kind e.1.kind kind.Object) e.0 (unwrap_or (collected es) nobody)) else collected es) h
      ∙ ap (λ b. Some (and_type b e.0 (unwrap_or (collected es) nobody))) o
      ∙ ap (λ x. Some (and_type is_object e.0 x)) (so_far es)

  there : (es : List Entry) (e : Entry) → names_it e ≡ true → collected (es ++ e ∷ []) ≡ Some (record { objects = naming_it kind.Object (es ++ e ∷ []); interfaces = naming_it kind.Interface (es ++ e ∷ []) })
  there es e h = ap (λ b. if b then Some (record { objects = naming_it kind.Object (es ++ e ∷ []); interfaces = naming_it kind.Interface (es ++ e ∷ []) }) else None) (any_more es e ∙ ap (λ b. list_any names_it es || b) h ∙ or_true (list_any names_it es))

  object_taken : (es : List Entry) (e : Entry) → names_it e ≡ true → same_kind e.1.kind kind.Object ≡ true → same_kind e.1.kind kind.Interface ≡ false → step (collected es) e ≡ collected (es ++ e ∷ [])
  object_taken es e h o n =
      taken es e h true o
      ∙ sym (there es e h
      ∙ ap (λ l. Some (record { objects = l; interfaces = naming_it kind.Interface (es ++ e ∷ []) })) (one_more kind.Object es e (ap (λ b. b && names_it e) o ∙ h))
      ∙ ap (λ l. Some (record { objects = with_name e.0 (naming_it kind.Object es); interfaces = l })) (none_more kind.Interface es e (ap (λ b. b && names_it e) n)))

  interface_taken : (es : List Entry) (e : Entry) → names_it e ≡ true → same_kind e.1.kind kind.Object ≡ false → same_kind e.1.kind kind.Interface ≡ true → step (collected es) e ≡ collected (es ++ e ∷ [])
  interface_taken es e h o n =
      taken es e h false o
      ∙ sym (there es e h
      ∙ ap (λ l. Some (record { objects = l; interfaces = naming_it kind.Interface (es ++ e ∷ []) })) (none_more kind.Object es e (ap (λ b. b && names_it e) o))
      ∙ ap (λ l. Some (record { objects = naming_it kind.Object es; interfaces = l })) (one_more kind.Interface es e (ap (λ b. b && names_it e) n ∙ h)))

  abbrev view : NameValue × ExtendedType → Entry
  view e = (name_text e.0, extended_type e.1)

  step_more : (es : List Entry) (n : NameValue) (t : ExtendedType) → step (collected es) (view (n, t)) ≡ collected (es ++ view (n, t) ∷ [])
  step_more es n (rust.Scalar t) = passed es (view (n, rust.Scalar t)) refl
  step_more es n (rust.Union t) = passed es (view (n, rust.Union t)) refl
  step_more es n (rust.Enum t) = passed es (view (n, rust.Enum t)) refl
  step_more es n (rust.InputObject t) = passed es (view (n, rust.InputObject t)) refl
  step_more es n (rust.Object t) = by (names_it (view (n, rust.Object t))) refl
    where
      by : (b : Bool) → names_it (view (n, rust.Object t)) ≡ b → step (collected es) (view (n, rust.Object t)) ≡ collected (es ++ view (n, rust.Object t) ∷ [])
      by true h = object_taken es (view (n, rust.Object t)) h refl refl
      by false h = passed es (view (n, rust.Object t)) h
  step_more es n (rust.Interface t) = by (names_it (view (n, rust.Interface t))) refl
    where
      by : (b : Bool) → names_it (view (n, rust.Interface t)) ≡ b → step (collected es) (view (n, rust.Interface t)) ≡ collected (es ++ view (n, rust.Interface t) ∷ [])
      by true h = interface_taken es (view (n, rust.Interface t)) h refl refl
      by false h = passed es (view (n, rust.Interface t)) h

  all_collected : (before : List Entry) (es : List (NameValue × ExtendedType)) → fold step (collected before) (map view es) ≡ collected (before ++ map view es)
  all_collected before [] = sym (ap collected (append-nil before))
  all_collected before (e ∷ es) =
      ap (λ o. fold step o (map view es)) (step_more before e.0 e.1)
      ∙ all_collected (before ++ view e ∷ []) es
      ∙ ap collected (append_assoc before (view e ∷ []) (map view es))

-- what is noted of the types under an interface
pub noted_is : (es : List (NameValue × ExtendedType)) (i : List ℕ) → noted_in (flat_map namings_of (map (view i) es)) i ≡ collected i (map (view i) es)
noted_is es i = each_noted i (map (view i) es) None ∙ all_collected i [] es
