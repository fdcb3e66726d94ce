-- What lies below contents, and what sets select, does so without places, and the other way.
use Rattle.std.proofs.Common.{◌≡◌, List, map, None, refl, sym, ap, subst, ◌∙◌}
use Rattle.tree_directives.specs.DirectiveTree.{Arguments, unplaced_arguments}
use Rattle.spec_document.specs.MeantTree.{MeantSet, MeantOperation, MeantDocument}
use Rattle.spec_document.specs.Unplaced.{unplaced_set, unplaced_document}
use Rattle.rule_document_definitions.specs.Selected.{InOperation, StandingField}
use Rattle.rule_document_definitions.specs.Reached.{IsFieldOf}
use Rattle.rule_document_definitions.specs.SameValues.{plain_given, SameGiven, SameArguments}
use Rattle.rule_document_definitions.specs.Merging.{Below, Starts}
use Rattle.rule_document_definitions.specs.Contents.{content, ContentBelow, ContentStarts, unplaced_content}
use Rattle.rule_document_definitions.proofs.Unplaced.{unplaced_field, field_of_map, field_of_unmap, contains_map, contains_unmap}
use Rattle.rule_document_definitions.proofs.MergingUnplaced.{given_same}
use Rattle.rule_document_definitions.specs.PlainFields.{PlainField, PlainBelow, PlainStarts, IsSelected}
use Rattle.rule_document_definitions.proofs.Elsewhere.{below_content, content_below, starts_content, content_starts}

-- what is given is the same without places
pub arguments_plain : {P : Type 0} (a b : Arguments P) → SameArguments a b → SameArguments (unplaced_arguments a) (unplaced_arguments b)
arguments_plain a b same n = subst (λ x. SameGiven x (plain_given n (unplaced_arguments b))) (sym (given_same n a)) (subst (SameGiven (plain_given n a)) (sym (given_same n b)) (same n))

module _ {P : Type 0} (d : MeantDocument P) where
  -- ---- contents with places

  -- what lies below a content does so without places
  pub plain_below : (c e : StandingField P) → ContentBelow d c e → PlainBelow d (unplaced_content c) (unplaced_content e)
  plain_below c e (f, (p, i)) = (unplaced_field f, (field_of_map d (InOperation None) c.set f p, ap unplaced_content i))

  -- what lies below a content without places is one that lies below it, without places
  pub below_plain : (c : StandingField P) (y : PlainField) → PlainBelow d (unplaced_content c) y → (e : StandingField P) × (ContentBelow d c e × (unplaced_content e ≡ y))
  below_plain c y (k, (p, i)) =
      let f = field_of_unmap d (InOperation None) c.set k p in
      (content f.0, ((f.0, (f.1.0, refl)), ap (λ (v : PlainField). content v) f.1.1 ∙ i))

  -- a first content is one without places
  pub plain_starts : (o : MeantOperation P) (e : StandingField P) → ContentStarts d o e → PlainStarts d o (unplaced_content e)
  plain_starts o e (f, (p, i)) = (unplaced_field f, (field_of_map d (InOperation None) o.set f p, ap unplaced_content i))

  -- a first content without places is a first one, without places
  pub starts_plain : (o : MeantOperation P) (y : PlainField) → PlainStarts d o y → (e : StandingField P) × (ContentStarts d o e × (unplaced_content e ≡ y))
  starts_plain o y (k, (p, i)) =
      let f = field_of_unmap d (InOperation None) o.set k p in
      (content f.0, ((f.0, (f.1.0, refl)), ap (λ (v : PlainField). content v) f.1.1 ∙ i))

  -- ---- fields that stand somewhere

  -- the content of a field below lies below the content
  pub standing_below : (f g : StandingField P) → Below d f g → PlainBelow d (unplaced_content f) (unplaced_content g)
  standing_below f g b = plain_below (content f) (content g) (below_content d f g b)

  -- what lies below the content is the content of a field below
  pub below_standing : (f : StandingField P) (y : PlainField) → PlainBelow d (unplaced_content f) y → (g : StandingField P) × (Below d f g × (unplaced_content g ≡ y))
  below_standing f y b =
      let e = below_plain (content f) y b in
      let g = content_below d f e.0 e.1.0 in
      (g.0, (g.1.0, ap unplaced_content g.1.1 ∙ e.1.1))

  -- the content of a first field is a first content
  pub standing_starts : (o : MeantOperation P) (f : StandingField P) → Starts d o f → PlainStarts d o (unplaced_content f)
  standing_starts o f b = plain_starts o (content f) (starts_content d o f b)

  -- a first content is the content of a first field
  pub starts_standing : (o : MeantOperation P) (y : PlainField) → PlainStarts d o y → (f : StandingField P) × (Starts d o f × (unplaced_content f ≡ y))
  starts_standing o y b =
      let e = starts_plain o y b in
      let f = content_starts d o e.0 e.1.0 in
      (f.0, (f.1.0, ap unplaced_content f.1.1 ∙ e.1.1))

  -- ---- what sets select

  -- what sets select they select without places
  pub plain_selected : (sets : List (MeantSet P)) (e : StandingField P) → IsSelected d sets e → IsSelected (unplaced_document d) (map unplaced_set sets) (unplaced_content e)
  plain_selected sets e (s, (c, (f, (p, i)))) =
      (unplaced_set s, (contains_map unplaced_set sets s c, (unplaced_field f, (field_of_map d (InOperation None) s f p, ap unplaced_content i))))

  -- and what they select without places is something that they select, without places
  pub selected_plain : (sets : List (MeantSet P)) (y : PlainField) → IsSelected (unplaced_document d) (map unplaced_set sets) y → (e : StandingField P) × (IsSelected d sets e × (unplaced_content e ≡ y))
  selected_plain sets y (v, (c, (k, (p, i)))) =
      let s = contains_unmap unplaced_set sets v c in
      let f = field_of_unmap d (InOperation None) s.0 k (subst (λ w. IsFieldOf (unplaced_document d) (InOperation None) w k) (sym s.1.1) p) in
      (content f.0, ((s.0, (s.1.0, (f.0, (f.1.0, refl)))), ap (λ (w : PlainField). content w) f.1.1 ∙ i))
