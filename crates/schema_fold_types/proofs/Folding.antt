-- Lemmas on the fold of one type after another.
use Rattle.std.proofs.Common.{◌≡◌, ℕ, true, false, List, [], ◌∷◌, ◌++◌, map, refl, sym, ap, ◌∙◌, is_some, option_to_list}
use Rattle.std.specs.List.{flat_map}
use Rattle.std.specs.Map.{lookup}
use Rattle.std.specs.Str.{bytes_eq}
use Rattle.std.proofs.lemmas.List.{append_assoc, append-nil}
use Rattle.graphql_names.specs.NameValue.{NameValue}
use Rattle.graphql_names.specs.Placed.{Place}
use Rattle.schema_fold_index.specs.in_definitions.DefinitionTree.{DefinitionTree}
use Rattle.schema_fold_index.specs.in_components.Lists.{firsts}
use Rattle.schema_fold_index.specs.in_components.Names.{Entries}
use Rattle.schema_fold_index.proofs.in_components.Firsts.{kept_seen, kept_new, is_some-firsts, firsts-push_seen, firsts-push_new}
use Rattle.schema_fold_index.specs.in_schema_types.SchemaTree.{SchemaType}
use Rattle.schema_fold_index.specs.in_schema_types.TypeParts.{TypeDefinition, type_here}
use Rattle.schema_fold_index.specs.in_schema_types.TypeView.{extended_type}
use Rattle.schema_fold_index.specs.in_schema_types.declared.extended_type.ExtendedType.{ExtendedType}
use Rattle.schema_fold_index.specs.in_fold.NumberedDefinition.{NumberedDefinition, type_name, types_in}
use Rattle.schema_fold_index.specs.in_fold.BuildErrors.{BuildFault}
use Rattle.schema_fold_types.specs.TypeFaults.{faults_of_type}
use Rattle.schema_fold_index.proofs.Listing.{flat_map-push}
use Rattle.schema_fold_types.specs.Filing.{type_by, types_by, faults_by, FoldsOn}

abbrev Types : Type 0
Types = Entries (SchemaType Place)

abbrev pub entry_view : NameValue × ExtendedType → List ℕ × SchemaType Place
entry_view e = (e.0.text, extended_type e.1)

abbrev entry_key : List ℕ × SchemaType Place → List ℕ
entry_key w = w.0

module _ (extensions : List ℕ → List NumberedDefinition) where
  abbrev made : TypeDefinition Place → List ℕ × SchemaType Place
  made t = (type_name t, type_by extensions t)

  abbrev tell : TypeDefinition Place → List BuildFault
  tell t = faults_of_type (extensions (type_name t)) t

  -- no more definitions, and some more after others
  pub folds_none : (types : Types) (faults : List BuildFault) → FoldsOn extensions [] types faults types faults
  folds_none types faults before start is was =
      (is ∙ ap (types_by extensions) (sym (append-nil before)), was ∙ ap (λ ts. start ++ faults_by extensions ts) (sym (append-nil before)))

  pub folds_then : (a b c : Types) (p q r : List BuildFault) (xs ys : List (TypeDefinition Place)) → FoldsOn extensions xs a p b q → FoldsOn extensions ys b q c r → FoldsOn extensions (xs ++ ys) a p c r
  folds_then a b c p q r xs ys one two before start is was =
      let first = one before start is was in
      let second = two (before ++ xs) start first.0 first.1 in
      let same = append_assoc before xs ys in
      (second.0 ∙ ap (types_by extensions) same, second.1 ∙ ap (λ ts. start ++ faults_by extensions ts) same)

  -- a definition of a name that an earlier one has, and one of a new name
  module _ (es : List (NameValue × ExtendedType)) (t : TypeDefinition Place) where
    pub folds_seen : (faults : List BuildFault) → is_some (lookup (λ k. bytes_eq (type_name t) k.text) es) ≡ true → FoldsOn extensions (t ∷ []) (map entry_view es) faults (map entry_view es) faults
    folds_seen faults there before start is was =
        let seen = sym (is_some-firsts type_name entry_view made entry_key (λ e. refl) (λ x. refl) (type_name t) es before is) ∙ there in (
          kept_seen type_name entry_view made entry_key (λ e. refl) (λ x. refl) es before t is there,
          was ∙ ap (λ ts. start ++ flat_map tell ts) (sym (firsts-push_seen type_name before t seen)),
        )

    pub folds_new : (new : Types) (faults faults' : List BuildFault) → is_some (lookup (λ k. bytes_eq (type_name t) k.text) es) ≡ false
        → new ≡ map entry_view es ++ made t ∷ [] → faults' ≡ faults ++ tell t → FoldsOn extensions (t ∷ []) (map entry_view es) faults new faults'
    folds_new new faults faults' absent added told before start is was =
        let unseen = sym (is_some-firsts type_name entry_view made entry_key (λ e. refl) (λ x. refl) (type_name t) es before is) ∙ absent in (
          kept_new type_name entry_view made entry_key (λ e. refl) (λ x. refl) es before t new is absent added,
          told ∙ ap (λ l. l ++ tell t) was ∙ append_assoc start (flat_map tell (firsts type_name before)) (tell t)
              ∙ ap (λ l. start ++ l) (sym (ap (flat_map tell) (firsts-push_new type_name before t unseen) ∙ flat_map-push tell (firsts type_name before) t)),
        )

-- the types that are defined in some definitions and one more
pub types_more : (ds : List (DefinitionTree Place)) (d : DefinitionTree Place) → types_in (ds ++ d ∷ []) ≡ types_in ds ++ types_in (d ∷ [])
types_more ds d = flat_map-push (λ x. option_to_list (type_here x)) ds d ∙ ap (λ l. types_in ds ++ l) (sym (append-nil (option_to_list (type_here d))))
