-- Fields and what is read of them: both go together and agree alike in each pass, and sets select alike.
use Rattle.std.proofs.Common.{◌≡◌, ◌↔◌, None, List, [], refl, sym, subst}
use Rattle.graphql_names.specs.Placed.{Place}
use Rattle.rule_field_groups.specs.in_spec_document.MeantTree.{MeantSet, meant_set, no_meant, meant_then, MeantDocument}
use Rattle.rule_field_groups.specs.in_spec_document.in_components.Names.{Entries}
use Rattle.rule_field_groups.specs.in_definitions.Judged.{Judged}
use Rattle.rule_field_groups.specs.in_document_definitions.Selected.{InOperation, StandingField}
use Rattle.rule_field_groups.specs.in_document_definitions.Contents.{content}
use Rattle.rule_field_groups.specs.in_document_definitions.PlainFields.{IsSelected}
use Rattle.rule_field_groups.specs.in_document_definitions.ReadFields.{ReadField, ReadSet, nothing_read, read_set, no_reads, list_read, set_read, field_read, fragments_read, SelectsRead}
use Rattle.rule_field_groups.proofs.in_document_definitions.Unplaced.{contains_map, contains_unmap}
use Rattle.rule_field_groups.proofs.in_document_definitions.ReadFacts.{key_read, may_share_read, shape_read, selections_read, selects_read, read_selects}
use Rattle.rule_field_groups.specs.declared.pass.Pass.{Pass}
use Rattle.rule_field_groups.specs.declared.pass.Pass.TheVariants.{Shapes, Selections}
use Rattle.rule_field_groups.specs.Passes.{Together, Agree, ReadTogether, ReadAgree}
use Rattle.rule_field_groups.specs.Members.{read_sets}
use Rattle.rule_merging.specs.Examined.{ReadSelected}
use Rattle.rule_merging.proofs.Bare.{nothing_listed}

-- ---- the passes

pub together_read : (pass : Pass) (s : Judged) (f g : StandingField Place) → Together pass s f g ↔ ReadTogether pass s (field_read f) (field_read g)
together_read Shapes s f g = key_read f g
together_read Selections s f g = may_share_read s f g

pub agree_read : (pass : Pass) (s : Judged) (f g : StandingField Place) → Agree pass s f g ↔ ReadAgree pass s (field_read f) (field_read g)
agree_read Shapes s f g = shape_read s f g
agree_read Selections s f g = selections_read f g

-- ---- sets

-- a set selects what it does as any set is read: without selections it selects nothing, either way
pub selects_listed : {P : Type 0} (fragments : Entries ReadSet) (v : MeantSet P) (y : ReadField) → SelectsRead fragments (set_read v) y ↔ SelectsRead fragments (list_read v) y
selects_listed fragments (meant_set t no_meant) y = (
  λ h. absurd (nothing_listed fragments nothing_read refl refl y h),
  λ h. absurd (nothing_listed fragments (read_set no_reads []) refl refl y h),
)
selects_listed fragments (meant_set t (meant_then m ms)) y = (λ h. h, λ h. h)

-- what is read of a field that one of the sets selects, is selected by what is read of the sets
pub selected_reads : (d : MeantDocument Place) (sets : List (MeantSet Place)) (e : StandingField Place) → IsSelected d sets e → ReadSelected d (read_sets sets) (field_read e)
selected_reads d sets e (v, (c, (f, (is, same)))) = (
  list_read v,
  (
    contains_map list_read sets v c,
    subst (λ x. SelectsRead (fragments_read d) (list_read v) (field_read x)) same ((selects_listed (fragments_read d) v (field_read f)).0 (selects_read d (InOperation None) v f is)),
  ),
)

-- and what these select is read of a field that one of the sets selects
pub reads_selected : (d : MeantDocument Place) (sets : List (MeantSet Place)) (y : ReadField) → ReadSelected d (read_sets sets) y → (e : StandingField Place) × (IsSelected d sets e × (field_read e ≡ y))
reads_selected d sets y (r, (c, h)) =
    let v = contains_unmap list_read sets r c in
    let here = (selects_listed (fragments_read d) v.0 y).1 (subst (λ s. SelectsRead (fragments_read d) s y) (sym v.1.1) h) in
    let f = read_selects d (InOperation None) v.0 y here in
    (content f.0, ((v.0, (v.1.0, (f.0, (f.1.0, refl)))), f.1.1))
