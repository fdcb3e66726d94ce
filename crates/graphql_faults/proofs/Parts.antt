-- `==` of what faults are made of: names, texts, places, coordinates.
use Rattle.std.proofs.Common.{◌≡◌, ◌+◌, ◌<◌, ◌^◌, ◌∙◌, Bool, true, false, true≢false, not, refl, sym, ap, nat_eq, Option, None, Some}
use Rattle.std.proofs.Props.{props}
use Rattle.std.specs.Bool.{Decides}
use Rattle.std.specs.Option.{option_map, option_eq}
use Rattle.std.specs.Cmp.Lexicographic.{pointwise}
use Rattle.std.proofs.lemmas.Slice.Eq.{bytes_eq-Decides}
use Rattle.std.specs.Cmp.{unsigned_Decides}
use mathlib.Core.HLevel.{is_prop→PathP}
use Rattle.graphql_names.specs.NameValue.{NameValue}
use Rattle.graphql_names.specs.Placed.{Place}
use Rattle.graphql_names.specs.declared.span.FileId.{FileId}
use Rattle.graphql_names.specs.declared.span.SourceSpan.{SourceSpan}
use Rattle.graphql_names.specs.contracts.span.FileIdPartialEq.TheImpl as file
use Rattle.graphql_names.specs.contracts.span.SourceSpanPartialEq.TheImpl as span
use Rattle.schema_coordinates.specs.Coordinate.{OfType, OfAttribute, OfArgument, OfDirective, OfDirectiveArgument}
use Rattle.schema_coordinates.specs.CoordinateView.{attribute_coordinate, argument_coordinate, schema_coordinate}
use Rattle.schema_coordinates.specs.declared.coordinate.TypeAttributeCoordinate.{TypeAttributeCoordinate}
use Rattle.schema_coordinates.specs.declared.coordinate.FieldArgumentCoordinate.{FieldArgumentCoordinate}
use Rattle.schema_coordinates.specs.declared.coordinate.SchemaCoordinate.{SchemaCoordinate}
use Rattle.schema_coordinates.specs.declared.coordinate.SchemaCoordinate.TheVariants as rust
use Rattle.schema_coordinates.specs.contracts.coordinate.SchemaCoordinatePartialEq.TheImpl as coordinate_eq
use Rattle.schema_coordinates.specs.contracts.coordinate.TypeAttributeCoordinatePartialEq.TheImpl as attribute_eq
use Rattle.schema_coordinates.specs.contracts.coordinate.FieldArgumentCoordinatePartialEq.TheImpl as argument_eq
use Rattle.graphql_values.proofs.Decided.{through, pair_decides}
use Rattle.fault_document_errors.specs.DocumentBreachView.{text_of_name}

pub text_decides : (m n : NameValue) → Decides (pointwise nat_eq m.text n.text) (m.text ≡ n.text)
text_decides m n = bytes_eq-Decides m.text n.text

pub option_decides : {A B : Type 0} (E : A → A → Bool) (u : A → B) → ((a b : A) → Decides (E a b) (u a ≡ u b)) → (x y : Option A) → Decides (option_eq E x y) (option_map u x ≡ option_map u y)
option_decides E u d None None = (λ h. refl, λ h. refl)
option_decides E u d None (Some y) = (λ h. cc, λ h. cc)
option_decides E u d (Some x) None = (λ h. cc, λ h. cc)
option_decides E u d (Some x) (Some y) = through (d x y) (λ p i. Some (p i)) (λ r. cc)

pub names_decide : (m n : Option NameValue) → Decides (option_eq (λ (a : NameValue) (b : NameValue). pointwise nat_eq a.text b.text) m n) (option_map text_of_name m ≡ option_map text_of_name n)
names_decide = option_decides _ text_of_name text_decides

same_span : (a b : SourceSpan) → a.file_id ≡ b.file_id → a.offset ≡ b.offset → a.length ≡ b.length → a ≡ b
same_span a b file offset length = λ i. record {
  file_id = file i;
  offset = offset i;
  length = length i;
  fits = is_prop→PathP (λ j. offset j + length j < 2 ^ 64) (λ j. hlevel props) a.fits b.fits i;
}

file_decides : (a b : FileId) → Decides (file.ghosts.eq a b) (a ≡ b)
file_decides a b = through (unsigned_Decides a.0 b.0) (λ p. ap (λ n. record { 0 = n }) p) (λ q. ap (λ (f : FileId). f.0) q)

span_decides : (a b : SourceSpan) → Decides (span.ghosts.eq a b) (a ≡ b)
span_decides a b =
    through
    (pair_decides _ _ (file_decides a.file_id b.file_id) (pair_decides _ _ (unsigned_Decides a.offset b.offset) (unsigned_Decides a.length b.length)))
    (λ s. same_span a b s.0 s.1.0 s.1.1)
    (λ r. (ap (λ (p : SourceSpan). p.file_id) r, (ap (λ (p : SourceSpan). p.offset) r, ap (λ (p : SourceSpan). p.length) r)))

pub place_decides : (p q : Place) → Decides (option_eq span.ghosts.eq p q) (p ≡ q)
place_decides None None = (λ h. refl, λ h. refl)
place_decides None (Some y) = (λ h. cc, λ h. cc)
place_decides (Some x) None = (λ h. cc, λ h. cc)
place_decides (Some x) (Some y) = through (span_decides x y) (λ p i. Some (p i)) (λ r. cc)

pub attribute_decides : (m n : TypeAttributeCoordinate) → Decides (attribute_eq.ghosts.eq m n) (attribute_coordinate m ≡ attribute_coordinate n)
attribute_decides m n = through (pair_decides _ _ (text_decides m.ty n.ty) (text_decides m.attribute n.attribute)) (λ s i. OfAttribute (s.0 i) (s.1 i)) (λ r. (cc, cc))

pub argument_decides : (m n : FieldArgumentCoordinate) → Decides (argument_eq.ghosts.eq m n) (argument_coordinate m ≡ argument_coordinate n)
argument_decides m n = through (pair_decides _ _ (text_decides m.ty n.ty) (pair_decides _ _ (text_decides m.field n.field) (text_decides m.argument n.argument))) (λ s i. OfArgument (s.0 i) (s.1.0 i) (s.1.1 i)) (λ r. (cc, (cc, cc)))

pub coordinate_decides : (m n : SchemaCoordinate) → Decides (coordinate_eq.ghosts.eq m n) (schema_coordinate m ≡ schema_coordinate n)
coordinate_decides (rust.Named m) (rust.Named n) = through (text_decides m.ty n.ty) (ap OfType) (λ r. cc)
coordinate_decides (rust.TypeAttribute m) (rust.TypeAttribute n) = attribute_decides m n
coordinate_decides (rust.FieldArgument m) (rust.FieldArgument n) = argument_decides m n
coordinate_decides (rust.Directive m) (rust.Directive n) = through (text_decides m.directive n.directive) (ap OfDirective) (λ r. cc)
coordinate_decides (rust.DirectiveArgument m) (rust.DirectiveArgument n) = through (pair_decides _ _ (text_decides m.directive n.directive) (text_decides m.argument n.argument)) (λ s i. OfDirectiveArgument (s.0 i) (s.1 i)) (λ r. (cc, cc))
coordinate_decides _ _ = ((λ r. cc), (λ r. cc))

-- what does not differ is the same
pub not_different : {P : Type 0} (differs same : Bool) → differs ≡ not same → differs ≡ false → Decides same P → P
not_different differs true e none d = d.0 refl
not_different differs false e none d = absurd (true≢false (sym e ∙ none))
