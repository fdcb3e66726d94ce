-- Where nothing is told there is no departure, and what is given to arguments is to the letter of the specification.
use Rattle.std.proofs.Common.{◌≡◌, ◌∙◌, ℕ, Bool, true, false, not, List, [], map, inl, inr, refl, ap, sym, subst, Option, None, Some, Contains, find, bytes_eq}
use Rattle.std.specs.List.{flat_map}
use Rattle.std.specs.Option.{option_map_or}
use Rattle.std.proofs.lemmas.List.Elements.{Contains-append_left, Contains-append_right, Contains-append_cases}
use Rattle.graphql_names.specs.Placed.{Placed, Place, Text}
use Rattle.tree_literals.specs.ValueQueries.{variable_name}
use Rattle.tree_directives.specs.DirectiveTree.{ArgumentTree, Arguments, Directives, InputValues}
use Rattle.tree_directives.specs.DirectiveQueries.{input_value_has_name}
use Rattle.tree_operations.specs.OperationTree.{VariableDefinitionTree}
use Rattle.schema_components.proofs.Places.{not_in_nil, Contains-first}
use Rattle.schema_types.specs.SchemaTree.{SchemaTree}
use Rattle.schema_types.specs.Addresses.{directive_definition_at}
use Rattle.graphql_schema.specs.LookUps.{field_named}
use Rattle.document_typed_operations.proofs.WalkLaws.{from_one, to_all}
use Rattle.spec_document.specs.MeantTree.{MeantSelection, MeantField, MeantSpread, MeantInline, MeantDocument}
use Rattle.rule_definitions.specs.GivenValues.{Variables}
use Rattle.rule_definitions.specs.Judged.{judged}
use Rattle.rule_definitions.specs.Names.{argument_name, directive_name, defined_name}
use Rattle.rule_definitions.proofs.Room.{room_first, room_silent}
use Rattle.rule_document_definitions.specs.Selected.{selection_directives}
use Rattle.strict_documents.specs.Departure.{Departure}
use Rattle.strict_documents.specs.Departing.{departure_if, literal_departures, usage_kind, usage_departures_of, usage_departures, part_departures, plain_inputs, given_departures, argument_departures, directive_departures, directives_departures, own_departures, selection_departures}
use Rattle.strict_documents.specs.ValueLetter.{is_past_64_bits, is_lone_item, is_usage_allowed}
use Rattle.strict_documents.specs.Locations.{Part, parts, argument_location}
use Rattle.strict_documents.specs.DepartureViews.{departure_tree}
use Rattle.strict_documents.specs.declared.departure.DepartureKind.{DepartureKind}
use Rattle.strict_documents.specs.declared.departure.DepartureKind.TheVariants as kind
use Rattle.strict_documents.specs.DepartsIn.{DepartsIn}
use Rattle.strict_documents.specs.Letter.{argument_parts, given_parts, directive_parts, directives_parts, own_parts, selection_parts, IsToTheLetter, ReachesToTheLetter, NoDepartureMeansTheLetter}

-- ---- a departure of a part is one of all

in_option : {X A B : Type 0} (o : Option X) (f : X → List A) (g : X → List B) (a : A) (b : B) → ((x : X) → Contains (f x) a → Contains (g x) b) → Contains (option_map_or f o []) a → Contains (option_map_or g o []) b
in_option None f g a b each c = absurd (not_in_nil a c)
in_option (Some x) f g a b each c = each x c

in_all : {X A B : Type 0} (xs : List X) (f : X → List A) (g : X → List B) (a : A) (b : B) → ((x : X) → Contains (f x) a → Contains (g x) b) → Contains (flat_map f xs) a → Contains (flat_map g xs) b
in_all xs f g a b each c = let r = from_one f xs a c in to_all g xs r.0 b r.1.0 (each r.0 r.1.1)

module _ (t : SchemaTree Place) (vs : Variables Place) (p : Part Place) (u : Departure Place) (here : Contains (part_departures vs p) u) where
  in_argument : (definitions : InputValues (Unit {0})) (a : Placed Place (ArgumentTree Place)) → Contains (argument_parts t definitions a) p → Contains (argument_departures t vs definitions a) u
  in_argument definitions a c =
      in_option (find (input_value_has_name (argument_name a)) definitions) (λ v. parts (judged t) (argument_location v.it) a.it.value.place a.it.value.it)
      (λ v. flat_map (part_departures vs) (parts (judged t) (argument_location v.it) a.it.value.place a.it.value.it)) p u
      (λ v k. to_all (part_departures vs) (parts (judged t) (argument_location v.it) a.it.value.place a.it.value.it) p u k here) c

  in_given : (definitions : InputValues (Unit {0})) (given : Arguments Place) → Contains (given_parts t definitions given) p → Contains (given_departures t vs definitions given) u
  in_given definitions given c = in_all given (argument_parts t definitions) (argument_departures t vs definitions) p u (in_argument definitions) c

  in_directives : (ds : Directives Place) → Contains (directives_parts t ds) p → Contains (directives_departures t vs ds) u
  in_directives ds c =
      in_all ds (directive_parts t) (directive_departures t vs) p u
      (λ d k. in_option (directive_definition_at t (directive_name d)) (λ defined. given_parts t (plain_inputs defined.it.arguments) d.it.arguments) (λ defined. given_departures t vs (plain_inputs defined.it.arguments) d.it.arguments) p u
      (λ defined. in_given (plain_inputs defined.it.arguments) d.it.arguments) k) c

  in_own : (parent : List ℕ) (x : MeantSelection Place) → Contains (own_parts t parent x) p → Contains (own_departures t vs parent x) u
  in_own parent (MeantField at d h v) c =
      in_option (field_named t parent h.name.it) (λ f. given_parts t (plain_inputs f.it.it.arguments) h.arguments) (λ f. given_departures t vs (plain_inputs f.it.it.arguments) h.arguments) p u
      (λ f. in_given (plain_inputs f.it.it.arguments) h.arguments) c
  in_own parent (MeantSpread at n ds) c = absurd (not_in_nil p c)
  in_own parent (MeantInline at n ds v) c = absurd (not_in_nil p c)

  in_selection : (parent : List ℕ) (x : MeantSelection Place) → Contains (selection_parts t parent x) p → Contains (selection_departures t vs parent x) u
  in_selection parent x c =
      let ds = selection_directives x in
      elim (Contains-append_cases (own_parts t parent x) (directives_parts t ds) p c) [
        | inl a ↦ Contains-append_left (own_departures t vs parent x) (directives_departures t vs ds) u (in_own parent x a)
        | inr b ↦ Contains-append_right (own_departures t vs parent x) (directives_departures t vs ds) u (in_directives ds b)
      ]

-- ---- a part without departures

never : (b : Bool) (at : Place) (k : DepartureKind) (n : List ℕ) → ((u : Departure Place) → Contains (departure_if b at k n) u → ⊥) → b ≡ false
never true at k n none = let u : Departure Place = record { place = at; kind = k; name = n } in absurd (none u (Contains-first u [] u refl))
never false at k n none = refl

not_never : (b : Bool) → not b ≡ false → b ≡ true
not_never true h = refl
not_never false h = sym h

module _ (vs : Variables Place) (p : Part Place) (none : (u : Departure Place) → Contains (part_departures vs p) u → ⊥) where
  no_literal : (u : Departure Place) → Contains (literal_departures p) u → ⊥
  no_literal u c = none u (Contains-append_left (literal_departures p) (usage_departures vs p) u c)

  no_usage : (n : Text Place) (v : Placed Place (VariableDefinitionTree Place)) → variable_name p.value ≡ Some n → find (λ v. bytes_eq (defined_name v) n.it) vs ≡ Some v
      → (u : Departure Place) → Contains (departure_if (not (is_usage_allowed v.it p.location)) p.place (usage_kind p.location) n.it) u → ⊥
  no_usage n v named defined u c =
      none u (Contains-append_right (literal_departures p) (usage_departures vs p) u
      (subst (λ o. Contains (option_map_or (λ (n : Text Place). usage_departures_of vs p n.it) o []) u) (sym named)
      (subst (λ o. Contains (option_map_or (λ (v : Placed Place (VariableDefinitionTree Place)). departure_if (not (is_usage_allowed v.it p.location)) p.place (usage_kind p.location) n.it) o []) u) (sym defined) c)))

  to_the_letter : IsToTheLetter vs p
  to_the_letter =
      let past = departure_if (is_past_64_bits p.location p.value) p.place kind.FloatPast64Bits [] in
      let lone = departure_if (is_lone_item p.location p.value) p.place kind.ItemIsNoList [] in record {
        finite = never (is_past_64_bits p.location p.value) p.place kind.FloatPast64Bits [] (λ u c. no_literal u (Contains-append_left past lone u c));
        listed = never (is_lone_item p.location p.value) p.place kind.ItemIsNoList [] (λ u c. no_literal u (Contains-append_right past lone u c));
        allowed = λ n named v defined. not_never (is_usage_allowed v.it p.location) (never (not (is_usage_allowed v.it p.location)) p.place (usage_kind p.location) n.it (no_usage n v named defined));
      }

-- ---- a document without departures

all_to_the_letter : (t : SchemaTree Place) (d : MeantDocument Place) → ((u : Departure Place) → DepartsIn t d u → ⊥) → ReachesToTheLetter t d
all_to_the_letter t d none o x p among reached there =
    to_the_letter o.variables p (λ u c. none u (o, (among, inr (inr (inl (x, (reached, inl (in_selection t o.variables p u c x.parent x.it there))))))))

pub no_departure : NoDepartureMeansTheLetter
no_departure t d told (all, (first, right)) silent =
    let nothing : all ≡ [] = room_silent all (room_first all ∙ sym first ∙ ap (map departure_tree) silent) in
    let none : (u : Departure Place) → DepartsIn t d u → ⊥ = λ u departs. not_in_nil u (subst (λ l. Contains l u) nothing ((right u).1 departs)) in
    (none, all_to_the_letter t d none)
