-- Lemmas on what a builder keeps.
use Rattle.std.proofs.Common.{◌≡◌, ℕ, true, false, List, [], ◌∷◌, ◌++◌, map, take, drop, length, refl, sym, ap, subst, ◌∙◌, arith}
use Rattle.std.proofs.lemmas.List.{length-map, drop-map}
use Rattle.graphql_names.specs.Placed.{Place}
use Rattle.schema_components.specs.Lists.{firsts}
use Rattle.schema_built_in.specs.in_schema_types.TypeParts.{TypeParts}
use Rattle.schema_built_in.specs.in_fold.Adoption.{orphans, settled, Settings}
use Rattle.schema_built_in.specs.Table.{built_in_definitions}
use Rattle.schema_built_in.specs.in_fold.NumberedDefinition.{Definitions, NumberedDefinition, numbered, definitions_of}
use Rattle.schema_built_in.specs.in_fold.ListedView.{listed_view}
use Rattle.schema_built_in.specs.in_fold.declared.numbered_definition.NumberedDefinition.{NumberedDefinition as Rust}
use Rattle.schema_building.proofs.Numbering.{definitions_numbered}
use Rattle.schema_building.specs.Building.{orphan_names, IsAddRefusal}
use Rattle.schema_building.specs.BuilderValue.{BuilderValue}
use Rattle.schema_building.specs.BuildingView.{builder_view}
use Rattle.schema_building.specs.KeptView.{definitions, first_number, numbers_of, AreNumbered, KeepsIndex}
use Rattle.schema_fold_index.specs.Index.{NamedKind, IsIndexOf}
use Rattle.schema_fold_index.specs.declared.index.Index.{Index}
use Rattle.schema_building.specs.Noted.{named_kind, parts_key}
use Rattle.schema_building.specs.Numbers.{extension_count}
use Rattle.schema_building.specs.Settling.{unnumbered, settled_from}
use Rattle.schema_building.specs.TextsList.{IsListOf, AddsDefinitions, IsListRefusal}
use Rattle.schema_building.specs.TextsView.{texts_view}
use Rattle.schema_building.specs.Waiting.{orphan_kinds}
use Rattle.schema_building.specs.declared.refusal.BuilderRefusal.{BuilderRefusal}
use Rattle.schema_building.specs.declared.refusal.BuilderRefusal.TheVariants as refusal
use Rattle.schema_building.specs.declared.state.Building.{Building}
use Rattle.schema_building.specs.declared.texts.Texts.{Texts}
use Rattle.schema_building.proofs.Awaited.{waiting_are}
use Rattle.schema_building.proofs.Settled.{settled_is, texts_first}

abbrev head_or : {A : Type 0} → A → List A → A
head_or a [] = a
head_or a (x ∷ xs) = x

abbrev tail : {A : Type 0} → List A → List A
tail [] = []
tail (x ∷ xs) = xs

-- a list has the definitions and the first number of which it is
module _ (t : Texts) (first : ℕ) (ds : Definitions) (is : IsListOf first ds (texts_view t)) where
  pub its_definitions : definitions t ≡ ds
  its_definitions = ap definitions_of is.list ∙ definitions_numbered first ds

  pub its_first : first_number t ≡ first
  its_first =
      let count : extension_count (definitions t) ≡ extension_count ds = ap extension_count its_definitions in
      let next = is.next in
      omega (arith, count, next)

  pub is_its_list : IsListOf (first_number t) (definitions t) (texts_view t)
  is_its_list = subst (λ n. IsListOf n (definitions t) (texts_view t)) (sym its_first) (subst (λ l. IsListOf first l (texts_view t)) (sym its_definitions) is)

abbrev pub Keeps : Texts → Type 0
Keeps t = IsListOf (first_number t) (definitions t) (texts_view t) × IsIndexOf (definitions t) t.index

-- what a builder keeps once a document is added
module _ (old new : Texts) (more : Definitions) (kept : Keeps old) (adds : AddsDefinitions more (texts_view old) (texts_view new)) (filed : KeepsIndex old new) where
  added : IsListOf (first_number old) (definitions old ++ more) (texts_view new)
  added = adds (first_number old) (definitions old) kept.0

  pub added_definitions : definitions new ≡ definitions old ++ more
  added_definitions = its_definitions new (first_number old) (definitions old ++ more) added

  pub same_first : first_number new ≡ first_number old
  same_first = its_first new (first_number old) (definitions old ++ more) added

  pub kept_added : Keeps new
  kept_added = (is_its_list new (first_number old) (definitions old ++ more) added, filed kept.1)

-- the list that counts
pub list_is : (t : Texts) (s : Settings) (list : List NumberedDefinition) → Keeps t → list ≡ settled_from s (texts_view t).list (orphan_kinds t.index) (map unnumbered built_in_definitions)
    → list ≡ numbered (first_number t) (built_in_definitions ++ settled built_in_definitions s (definitions t))
list_is t s list kept e =
    e ∙ ap (λ l. settled_from s l (orphan_kinds t.index) (map unnumbered built_in_definitions)) kept.0.list
    ∙ settled_is (first_number t) (definitions t) (orphan_kinds t.index) (waiting_are (definitions t) t.index kept.1) s

-- its index, where none is passed over
pub filed_first : (t : Texts) (s : Settings) → s.ignores ≡ false → (built_in : ℕ) (list : List Rust) → Keeps t
    → map listed_view list ≡ numbered (first_number t) (built_in_definitions ++ settled built_in_definitions s (definitions t)) → built_in ≡ length built_in_definitions
    → IsIndexOf (take (length t.list.items) (definitions_of (map listed_view (drop built_in list)))) t.index
filed_first t s none built_in list kept is many =
    subst (λ ds. IsIndexOf ds t.index)
    (sym ((λ i. take (counted t i) (definitions_of (sym (drop-map listed_view built_in list) i)))
    ∙ texts_first s none (first_number t) built_in (definitions t) (map listed_view list) is many)) kept.1
  where
    counted : (t : Texts) → length t.list.items ≡ length (definitions t)
    counted t = sym (length-map (map listed_view t.list.items) (λ l. l.definition) ∙ length-map t.list.items listed_view)

-- the names that are lent
names_are : (es : List (TypeParts Place)) → map (λ k. k.0) (map named_kind es) ≡ map (λ e. e.name) es
names_are [] = refl
names_are (e ∷ es) = ap (λ l. e.name ∷ l) (names_are es)

pub lent_are : (ds : Definitions) (index : Index) → IsIndexOf ds index → (left : List NamedKind) → left ≡ orphan_kinds index → map (λ k. k.0) left ≡ orphan_names ds
lent_are ds index filed left is = ap (map (λ k. k.0)) (is ∙ waiting_are ds index filed) ∙ names_are (firsts parts_key (orphans built_in_definitions ds))

-- ---- as an invariant

same_list : (xs ys : List NumberedDefinition) → definitions_of xs ≡ definitions_of ys → numbers_of xs ≡ numbers_of ys → xs ≡ ys
same_list [] [] d n = refl
same_list [] (y ∷ ys) d n = absurd cc
same_list (x ∷ xs) [] d n = absurd cc
same_list (x ∷ xs) (y ∷ ys) d n =
    (λ i. record { definition = head_or x.definition (d i); extension = head_or x.extension (n i) } ∷ same_list xs ys (ap tail d) (ap tail n) i)

pub from_kept : (t : Texts) → AreNumbered (first_number t) (definitions t) t × IsIndexOf (definitions t) t.index → Keeps t
from_kept t (numbered_so, filed) = (
  record {
    list = same_list (texts_view t).list (numbered (first_number t) (definitions t)) (sym (definitions_numbered (first_number t) (definitions t))) numbered_so.0;
    next = numbered_so.1;
    numbers = numbered_so.2;
  },
  filed,
)

pub to_kept : (t : Texts) → Keeps t → AreNumbered (first_number t) (definitions t) t × IsIndexOf (definitions t) t.index
to_kept t (is, filed) = ((ap numbers_of is.list, is.next, is.numbers), filed)

-- a list of nothing
module _ (t : Texts) (n : ℕ) (e : texts_view t ≡ record { next = n; list = [] }) where
  pub is_empty_list : IsListOf n [] (texts_view t)
  is_empty_list = record {
    list = ap (λ v. v.list) e;
    next = ap (λ v. v.next) e ∙ omega arith;
    numbers = λ some. absurd (omega (arith, some));
  }

  pub kept_empty : IsIndexOf [] t.index → Keeps t
  kept_empty filed = (is_its_list t n [] is_empty_list, subst (λ l. IsIndexOf l t.index) (sym (its_definitions t n [] is_empty_list)) filed)

-- a document that is refused
pub refused_is : (old : Building) (new : BuilderValue) (more : Definitions) (r : BuilderRefusal) → old.failed ≡ false → new.failed ≡ true
    → Keeps old.texts → IsListRefusal more (texts_view old.texts) r → IsAddRefusal (builder_view old) more new r
refused_is old new more refusal.Memory before after kept h = (before, after)
refused_is old new more refusal.Spent before after kept h = (before, after, h (first_number old.texts) (definitions old.texts) kept.0)
refused_is old new more refusal.Failed before after kept h = absurd h
