-- Where others replace the fragments of a document, the same faults are told of an operation.
use Rattle.std.proofs.Common.{◌≡◌, ◌↔◌, ◌⊎◌, ◌∙◌, ℕ, List, [], refl, sym, ap, subst, inl, inr, Option, None, Some, true≢false, is_some}
use Rattle.graphql_names.specs.Placed.{Place, Text}
use Rattle.tree_directives.specs.declared.directive_location.DirectiveLocation.TheVariants as location
use Rattle.schema_components.specs.Names.{Entries}
use Rattle.schema_types.specs.Plain.{plain}
use Rattle.schema_types.specs.Addresses.{TypeAt, under}
use Rattle.spec_document.specs.MeantTree.{MeantOperation, MeantFragment, MeantDocument}
use Rattle.document_typing.specs.Meanings.{meanings}
use Rattle.rule_definitions.specs.Diagnostics.{UndefinedFragment, InvalidFragmentTarget, InvalidFragmentSpread}
use Rattle.rule_definitions.specs.Words.{Present, AtSomeIndex}
use Rattle.rule_definitions.specs.Faults.{wrong}
use Rattle.rule_definitions.specs.Judged.{judged}
use Rattle.rule_definitions.specs.Names.{defined_name, named_in}
use Rattle.rule_definitions.specs.Uses.{UsesBreak}
use Rattle.rule_definitions.specs.PlacedFaults.{PlacedFault}
use Rattle.rule_document_definitions.specs.Fragments.{UndefinedFragmentAt, InvalidFragmentTargetAt, InvalidFragmentSpreadAt}
use Rattle.rule_document_definitions.specs.PossibleTypes.{IsCompositeType, IsNotComposite, MayApply}
use Rattle.rule_document_definitions.specs.Reached.{AtReached, AtReachedField, AtReachedFragment, ReachesFragment}
use Rattle.rule_document_definitions.specs.Selected.{InOperation, Standing, StandingField, inline_condition, spread_name, own}
use Rattle.rule_document_definitions.specs.Selections.{SelectionsBreak}
use Rattle.rule_document_definitions.specs.PlacedDocumentFaults.{places_in}
use Rattle.rule_document_definitions.specs.UsedVariables.{IsInDirectives, IsInArguments, IsInSelection, IsUsedIn}
use Rattle.rule_document_definitions.specs.Variables.{VariablesBreak}
use Rattle.rule_selections.specs.SelectionFaults.{without_subselection, MissesSubselection, ArgumentsOfBreak}
use Rattle.rule_selections.specs.Typed.{ReachesTyped}
use Rattle.rule_selections.specs.Settled.{Terms, AreDefinedIn, AppliesIn, IsReplacementOf, MayReplace}
use Rattle.rule_selections.proofs.Elsewhere.{member, outline, Look, look, has_none, bare, placed}
use Rattle.rule_selections.proofs.StillUsed.{Stands, still_used}
use Rattle.rule_selections.proofs.Instead.{Other, stood_for, IsLeftOut, spreads_none, condition_applies, misses_none, takes_well, uses_well, at_more, at_all, at_all_fields, at_all_fragments}

-- nothing is said of what is not there
none_there : {X : Type 0} {Q : X → Type 0} → Present None Q → ⊥
none_there h = true≢false (sym (ap is_some h.1.0))

nowhere : {X : Type 0} {R : ℕ → X → Type 0} → AtSomeIndex [] R → ⊥
nowhere h = true≢false (sym (ap is_some h.1.1.0))

module _ (s : Terms) (d : MeantDocument Place) (instead : Entries (MeantFragment Place)) (in' : MayReplace s d.fragments instead) where
  abbrev pub Else : MeantDocument Place
  Else = Other s d instead in'

  module _ (o : MeantOperation Place) where
    -- the same names of fragments are reached
    pub same_names : (n : List ℕ) → ((f : MeantFragment Place) × (ReachesFragment Else o f × (f.name.it ≡ n))) ↔ ((f : MeantFragment Place) × (ReachesFragment d o f × (f.name.it ≡ n)))
    same_names n = at_all_fragments s d instead in' o (λ f. f.name.it ≡ n) (λ g. refl)

    -- nothing is said of spreads among what is left out, and of conditions nothing that applying contradicts
    never_spread : (Q : List ℕ → Type 0) (x : Standing Place) → IsLeftOut s d instead in' (own o) x → Present (spread_name x.it) Q → ⊥
    never_spread Q x l (n, (is, q)) = true≢false (sym (ap is_some (sym (spreads_none s d instead in' o x l) ∙ is)))

    never_condition : (Q : List ℕ → Type 0) (x : Standing Place) → IsLeftOut s d instead in' (own o) x → ((c : List ℕ) → AppliesIn s.schema x.parent c → Q c → ⊥) → Present (inline_condition x.it) Q → ⊥
    never_condition Q x l never (n, (is, q)) = never n (condition_applies s d instead in' o x l n is) q

    -- UndefinedFragment
    module _ (f : PlacedFault) where
      abbrev Lacks : Look → List ℕ → Type 0
      Lacks l n = (under n d.fragments ≡ None) × (f ≡ wrong l.place (UndefinedFragment n))

      at_undefined : AtReached Else o (λ x. Present (spread_name x.it) (Lacks (look (member x)))) ↔ AtReached d o (λ x. Present (spread_name x.it) (Lacks (look (member x))))
      at_undefined = at_all s d instead in' o (λ l. Present l.spread (Lacks l)) (λ t h. none_there h) (λ x l h. never_spread (Lacks (look (member x))) x l h)

      pub same_undefined : UndefinedFragmentAt Else f o ↔ UndefinedFragmentAt d f o
      same_undefined = (there, here)
        where
          lacks : (n : List ℕ) (g : Option (MeantFragment Place)) → under n d.fragments ≡ g → under n instead ≡ None → under n d.fragments ≡ None
          lacks n None e missing = e
          lacks n (Some g) e missing = absurd (true≢false (sym (ap is_some (sym missing ∙ (in'.there n g e).1.0))))

          there : UndefinedFragmentAt Else f o → UndefinedFragmentAt d f o
          there (x, (r, (n, (is, (missing, told))))) = at_undefined.0 (x, (r, (n, (is, (lacks n (under n d.fragments) refl missing, told)))))

          here : UndefinedFragmentAt d f o → UndefinedFragmentAt Else f o
          here h = let k = at_undefined.1 h in (k.0, (k.1.0, (k.1.1.0, (k.1.1.1.0, (in'.absent k.1.1.0 k.1.1.1.1.0, k.1.1.1.1.1)))))

    -- InvalidFragmentTarget
    pub same_targets : (f : PlacedFault) → InvalidFragmentTargetAt (judged s.schema) Else o f ↔ InvalidFragmentTargetAt (judged s.schema) d o f
    same_targets f =
        let named = at_all_fragments s d instead in' o (λ g. IsNotComposite (judged s.schema) g.type_condition.it × (f ≡ wrong g.place (InvalidFragmentTarget (Some g.name.it) g.type_condition.it))) (λ g. refl) in
        let inlined = at_all s d instead in' o (λ l. Present l.condition (λ c. IsNotComposite (judged s.schema) c × (f ≡ wrong l.place (InvalidFragmentTarget None c))))
        (λ t h. none_there h) (λ x l h. never_condition (λ c. IsNotComposite (judged s.schema) c × (f ≡ wrong (look (member x)).place (InvalidFragmentTarget None c))) x l (λ c a q. a.0 q.0) h) in (
          λ h. elim h [ inl u ↦ inl (named.0 u) | inr u ↦ inr (inlined.0 u) ],
          λ h. elim h [ inl u ↦ inl (named.1 u) | inr u ↦ inr (inlined.1 u) ],
        )

    -- InvalidFragmentSpread
    module _ (f : PlacedFault) where
      -- a spread of a fragment on this condition, at this place, is told
      abbrev Told : List ℕ → Look → Text Place × Place → Type 0
      Told n l g = (MayApply (judged s.schema) l.parent g.0.it → ⊥) × (f ≡ wrong l.place (InvalidFragmentSpread (Some n) l.parent g.0.it g.1 ((places_in s.schema).at (TypeAt l.parent))))

      abbrev ToldNamed : Entries (MeantFragment Place) → Look → List ℕ → Type 0
      ToldNamed fragments l n = Present (under n fragments) (λ g. Told n l (g.type_condition, g.place))

      abbrev ToldInline : Look → List ℕ → Type 0
      ToldInline l c = (MayApply (judged s.schema) l.parent c → ⊥) × (f ≡ wrong l.place (InvalidFragmentSpread None l.parent c l.place ((places_in s.schema).at (TypeAt l.parent))))

      abbrev Both : Entries (MeantFragment Place) → Look → Type 0
      Both fragments l = Present l.spread (ToldNamed fragments l) ⊎ Present l.condition (ToldInline l)

      at_spreads : AtReached Else o (λ x. Both d.fragments (look (member x))) ↔ AtReached d o (λ x. Both d.fragments (look (member x)))
      at_spreads = at_all s d instead in' o (Both d.fragments) (λ t h. elim h [ inl u ↦ none_there u | inr u ↦ none_there u ])
          (λ x l h. elim h [ inl u ↦ never_spread (ToldNamed d.fragments (look (member x))) x l u | inr u ↦ never_condition (ToldInline (look (member x))) x l (λ c a q. q.0 a.1) u ])

      abbrev head : MeantFragment Place → Text Place × Place
      head g = (g.type_condition, g.place)

      heads : (h g : MeantFragment Place) → IsReplacementOf s h g → head h ≡ head g
      heads h g i = ap head i.0

      told : (l : Look) → Both instead l → Both d.fragments l
      told l (inl (n, (is, (h, (named, broken))))) =
          let g = stood_for s d instead in' n h named in
          inl (n, (is, (g.0, (g.1.0, subst (Told n l) (heads h g.0 g.1.1) broken))))
      told l (inr h) = inr h

      back : (l : Look) → Both d.fragments l → Both instead l
      back l (inl (n, (is, (g, (named, broken))))) =
          let i = in'.there n g named in
          inl (n, (is, (i.0, (i.1.0, subst (Told n l) (sym (heads i.0 g i.1.1)) broken))))
      back l (inr h) = inr h

      pub same_spreads : InvalidFragmentSpreadAt (judged s.schema) Else o f (places_in s.schema) ↔ InvalidFragmentSpreadAt (judged s.schema) d o f (places_in s.schema)
      same_spreads = (
        λ h. at_spreads.0 (h.0, (h.1.0, told (look (member h.0)) h.1.1)),
        λ h. let k = at_spreads.1 h in (k.0, (k.1.0, back (look (member k.0)) k.1.1)),
      )

    -- what variables are used
    module _ (n : List ℕ) where
      abbrev Given : StandingField Place → Type 0
      Given f = IsInArguments n f.head.arguments

      into : (x : Standing Place) → IsInSelection n x → Stands n (look (member x))
      into x (inl h) = inl h
      into x (inr h) = inr (bare Given (λ f. refl) x.position x.parent x.it h)

      out : (x : Standing Place) → Stands n (look (member x)) → IsInSelection n x
      out x (inl h) = inl h
      out x (inr h) = inr (placed Given (λ f. refl) x.position x.parent x.it h)

      used_there : AtReached Else o (λ x. Stands n (look (member x))) → AtReached d o (λ x. Stands n (look (member x)))
      used_there = at_more s d instead in' o (Stands n) (λ t h. elim h [ inl u ↦ nowhere u | inr u ↦ none_there u ])

      pub same_uses : IsUsedIn n Else o ↔ IsUsedIn n d o
      same_uses =
          let named = at_all_fragments s d instead in' o (λ f. IsInDirectives n f.directives) (λ g. refl) in (
            λ h. elim h [
              | inl u ↦ inl u
              | inr h ↦ elim h [
                | inl u ↦ let k = used_there (u.0, (u.1.0, into u.0 u.1.1)) in inr (inl (k.0, (k.1.0, out k.0 k.1.1)))
                | inr u ↦ inr (inr (named.0 u))
              ]
            ],
            λ h. elim h [
              | inl u ↦ inl u
              | inr h ↦ elim h [
                | inl u ↦ let k = still_used s d instead in' o n (u.0, (u.1.0, into u.0 u.1.1)) in inr (inl (k.0, (k.1.0, out k.0 k.1.1)))
                | inr u ↦ inr (inr (named.1 u))
              ]
            ],
          )

    -- the rules on variables
    pub same_variables : (f : PlacedFault) → VariablesBreak (places_in s.schema) (judged s.schema) Else o f ↔ VariablesBreak (places_in s.schema) (judged s.schema) d o f
    same_variables f = (there, here)
      where
        there : VariablesBreak (places_in s.schema) (judged s.schema) Else o f → VariablesBreak (places_in s.schema) (judged s.schema) d o f
        there (inl h) = inl h
        there (inr (inl h)) = inr (inl h)
        there (inr (inr (inl (i, (x, (at, (unused, h))))))) = inr (inr (inl (i, (x, (at, ((λ u. unused ((same_uses (defined_name x)).1 u)), h))))))
        there (inr (inr (inr h))) = inr (inr (inr h))

        here : VariablesBreak (places_in s.schema) (judged s.schema) d o f → VariablesBreak (places_in s.schema) (judged s.schema) Else o f
        here (inl h) = inl h
        here (inr (inl h)) = inr (inl h)
        here (inr (inr (inl (i, (x, (at, (unused, h))))))) = inr (inr (inl (i, (x, (at, ((λ u. unused ((same_uses (defined_name x)).0 u)), h))))))
        here (inr (inr (inr h))) = inr (inr (inr h))

    -- the rules on selections, where the operation defines those variables so
    module _ (defined : AreDefinedIn s.variables o.variables) (typed : ReachesTyped (meanings (plain s.schema)) d o) where
      module _ (f : PlacedFault) where
        -- the directives of a selection, of a fragment break a rule
        abbrev Used : Look → Type 0
        Used l = UsesBreak (places_in s.schema).at (judged s.schema) o.variables l.location l.directives f

        abbrev UsedIn : MeantFragment Place → Type 0
        UsedIn g = UsesBreak (places_in s.schema).at (judged s.schema) o.variables location.FragmentDefinition g.directives f

        -- which reads of the set of a field whether it has selections
        misses_same : (t : StandingField Place) → MissesSubselection s.schema t f ≡ MissesSubselection s.schema (outline t) f
        misses_same t = λ i. Present ((judged s.schema).type_named (named_in t.definition.ty)) (λ k. IsCompositeType k × (has_none t.set i × (f ≡ without_subselection t k.kind)))

        at_missing : AtReachedField Else o (λ t. MissesSubselection s.schema t f) ↔ AtReachedField d o (λ t. MissesSubselection s.schema t f)
        at_missing = at_all_fields s d instead in' o (λ t. MissesSubselection s.schema t f) misses_same (λ x l h. misses_none s d instead in' o typed x l f h)

        at_arguments : AtReachedField Else o (λ t. ArgumentsOfBreak s.schema o.variables t f) ↔ AtReachedField d o (λ t. ArgumentsOfBreak s.schema o.variables t f)
        at_arguments = at_all_fields s d instead in' o (λ t. ArgumentsOfBreak s.schema o.variables t f) (λ t. refl) (λ x l h. takes_well s d instead in' o typed o.variables defined x l f h)

        at_uses : AtReached Else o (λ x. Used (look (member x))) ↔ AtReached d o (λ x. Used (look (member x)))
        at_uses = at_all s d instead in' o Used (λ t h. elim h [ inl u ↦ nowhere u | inr u ↦ nowhere u ]) (λ x l h. uses_well s d instead in' o typed o.variables defined x l f h)

        at_fragments : AtReachedFragment Else o UsedIn ↔ AtReachedFragment d o UsedIn
        at_fragments = at_all_fragments s d instead in' o UsedIn (λ g. refl)

        pub same_selections : SelectionsBreak (places_in s.schema) (judged s.schema) Else o f ↔ SelectionsBreak (places_in s.schema) (judged s.schema) d o f
        same_selections = (there, here)
          where
            there : SelectionsBreak (places_in s.schema) (judged s.schema) Else o f → SelectionsBreak (places_in s.schema) (judged s.schema) d o f
            there (inl h) = inl (at_missing.0 h)
            there (inr (inl h)) = inr (inl (at_arguments.0 h))
            there (inr (inr (inl h))) = inr (inr (inl h))
            there (inr (inr (inr (inl h)))) = inr (inr (inr (inl (at_uses.0 h))))
            there (inr (inr (inr (inr h)))) = inr (inr (inr (inr (at_fragments.0 h))))

            here : SelectionsBreak (places_in s.schema) (judged s.schema) d o f → SelectionsBreak (places_in s.schema) (judged s.schema) Else o f
            here (inl h) = inl (at_missing.1 h)
            here (inr (inl h)) = inr (inl (at_arguments.1 h))
            here (inr (inr (inl h))) = inr (inr (inl h))
            here (inr (inr (inr (inl h)))) = inr (inr (inr (inl (at_uses.1 h))))
            here (inr (inr (inr (inr h)))) = inr (inr (inr (inr (at_fragments.1 h))))
