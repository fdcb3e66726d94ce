-- The last field of a chain of an operation of a document is written in it.
use Rattle.std.proofs.Common.{◌≡◌, ℕ, List, [], ◌∷◌, ◌++◌, flat_map, Option, Some, Contains, sym, ap, subst, inl, inr}
use Rattle.std.specs.List.{cons_option}
use Rattle.std.specs.Option.{option_map}
use Rattle.std.proofs.lemmas.List.Elements.{Contains-append_left, Contains-append_right}
use Rattle.graphql_names.specs.Placed.{Place}
use Rattle.rule_field_groups.specs.in_spec_document.MeantTree.{MeantOperation, MeantFragment, MeantDocument}
use Rattle.rule_field_groups.proofs.in_definitions.Lists.{Contains-first}
use Rattle.rule_field_groups.proofs.in_definitions.Lookups.{under_given}
use Rattle.rule_cycle_search.proofs.Lists.{given_in}
use Rattle.rule_field_groups.specs.in_document_definitions.Selected.{InOperation, Standing, StandingField, as_field, standing_in, all_in, operations, operation_name, fragments, all_selections}
use Rattle.rule_field_groups.specs.in_document_definitions.Reached.{Closed, first, next, InFragmentOf, Reached}
use Rattle.rule_field_groups.specs.in_document_definitions.Chains.{Chain}
use Rattle.rule_field_groups.specs.in_document_definitions.ReadFields.{field_read}
use Rattle.rule_field_groups.specs.in_document_definitions.ReadFields.{ReadField}
use Rattle.rule_field_groups.specs.in_document_definitions.Merging.{Below, Starts}
use Rattle.rule_field_groups.proofs.in_document_definitions.Unplaced.{contains_map}
use Rattle.rule_field_groups.proofs.in_document_definitions.Spreading.{StandsThere, body, stands}
use Rattle.rule_merging.specs.Counted.{IsLast}
use Rattle.rule_merging.specs.Merger.{written, fields_written}

module _ (d : MeantDocument Place) where
  -- a selection that is the field is reached
  abbrev FieldReached : MeantOperation Place → StandingField Place → Type 0
  FieldReached o f = (x : Standing Place) × (Reached d o x × (as_field x ≡ Some f))

  module _ (o : MeantOperation Place) where
    -- what is reached through fragments from what is reached
    through : (First : Standing Place → Type 0) → ((x : Standing Place) → First x → Reached d o x) → (x : Standing Place) → Closed First (InFragmentOf d) x → Reached d o x
    through First begins x (first c) = begins x c
    through First begins y (next {x = x} r l) = next (through First begins x r) (inr l)

    starts_reached : (f : StandingField Place) → Starts d o f → FieldReached o f
    starts_reached f (x, (r, e)) = (x, (through (Contains (standing_in (InOperation (operation_name o)) o.set)) (λ y c. first c) x r, e))

    below_reached : (f g : StandingField Place) → FieldReached o f → Below d f g → FieldReached o g
    below_reached f g (y, (there, is)) (x, (r, e)) = (x, (through (Contains (standing_in f.position f.set)) (λ z c. next there (inl (f, (is, c)))) x r, e))

    last_reached : (c : List (StandingField Place)) (First : StandingField Place → Type 0) → ((g : StandingField Place) → First g → FieldReached o g) → (f : StandingField Place)
        → Chain (Below d) First (c ++ f ∷ []) → FieldReached o f
    last_reached [] First begins f (h, k) = begins f h
    last_reached (g ∷ c) First begins f (h, k) = last_reached c (Below d g) (λ e b. below_reached g e (begins g h) b) f k

    lies_in : Contains (operations d) o → (x : Standing Place) → StandsThere d o x → Contains (all_selections d) x
    lies_in there x (inl c) =
        Contains-append_left (flat_map (λ (p : MeantOperation Place). all_in (InOperation (operation_name p)) p.set) (operations d)) (flat_map (body d) (fragments d)) x
        (given_in (λ (p : MeantOperation Place). all_in (InOperation (operation_name p)) p.set) x (operations d) o there c)
    lies_in there x (inr (n, (led, (f, (e, c))))) =
        Contains-append_right (flat_map (λ (p : MeantOperation Place). all_in (InOperation (operation_name p)) p.set) (operations d)) (flat_map (body d) (fragments d)) x
        (given_in (body d) x (fragments d) f (contains_map (λ (e : List ℕ × MeantFragment Place). e.1) d.fragments (n, f) (under_given n d.fragments f e)) c)

  pub last_written : (x : ReadField) → IsLast d (operations d) x → Contains (fields_written d) x
  last_written x (o, (c, (f, (there, (chain, same))))) =
      let y = last_reached o c (Starts d o) (starts_reached o) f chain in
      let stands_there : Contains (all_selections d) y.0 = lies_in o there y.0 (stands d o y.0 y.1.0) in
      let is : written y.0 ≡ field_read f ∷ [] = ap (λ (g : Option (StandingField Place)). cons_option (option_map field_read g) []) y.1.1 in
      given_in written x (all_selections d) y.0 stands_there (subst (λ l. Contains l x) (sym is) (Contains-first (field_read f) [] x same))
