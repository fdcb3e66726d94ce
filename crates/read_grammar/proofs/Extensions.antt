-- After an extension without a part there may be directives, which are then its part.
use Rattle.std.proofs.Common.{◌≡◌, ℕ, suc, Bool, true, false, List, [], ◌∷◌, ◌++◌, Option, Some, None, not, ◌&&◌, unwrap_or, refl, sym, ap, subst, ◌∙◌, append_assoc, inl, inr, ◌⊎◌}
use Rattle.graphql_names.specs.Placed.{Text}
use Rattle.graphql_ast.specs.in_directives.DirectiveTree.{Directives, InputValues}
use Rattle.graphql_ast.specs.in_type_members.TypeSystemTree.{FieldsParts}
use Rattle.read_tokens.specs.declared.terminal.Terminal.TheVariants as k
use Rattle.read_tokens.specs.declared.terminal.Terminal.{Terminal}
use Rattle.read_tokens.specs.Input.{Token, Input, next, next_of}
use Rattle.read_grammar.specs.Meaning.{Meaning}
use Rattle.read_grammar.specs.Kinds.{is_schema, is_scalar, is_type, is_interface, is_union, is_enum, is_input, is_open_brace}
use Rattle.read_grammar.specs.Rules as rule
use Rattle.read_grammar.specs.Rules.{Rule, ◌·◌, ◌<$>◌, ◌∣◌, optional, optional_unless}
use Rattle.read_grammar.specs.ValueGrammar as vg
use Rattle.read_grammar.specs.TypeSystemGrammar as g
use Rattle.read_grammar.specs.TypeSystemGrammar.{KindTree, SchemaKind, ScalarKind, ObjectKind, InterfaceKind, UnionKind, EnumKind, InputObjectKind, Roots, Fields, Values, schema_extension_of, scalar_of, fields_of, union_of, enum_of, input_object_of}
use Rattle.read_grammar.specs.Grammar.{is_empty, has_part}
use Rattle.read_grammar.proofs.Viable.{Fills, put, fewer_fills, fills_into, mapped_fills, seq_fills, mark_fills}
use Rattle.read_grammar.proofs.ViableTests.{Grows}
use Rattle.read_grammar.proofs.ViableValues.{name_viable, directives_viable}
use Rattle.read_grammar.proofs.ViableTypeSystem.{no_brace}

some_full : {A : Type 0} (r : Rule A) (i : Input) (xs : List A) (o : Input) → rule.some r i xs o → is_empty xs ≡ false
some_full r i [] o h = absurd h
some_full r i (x ∷ xs) o h = refl

between_full : {A : Type 0} (r : Rule A) (a b : Terminal → Bool) (i : Input) (xs : List A) (o : Input) → rule.between a (rule.some r) b i xs o → is_empty xs ≡ false
between_full r a b i xs o h = ap (λ (ys : List _). is_empty ys) h.2 ∙ some_full r h.1.0 h.0.1.0 h.1.2.0 h.1.2.1

-- the tokens of a mark, and of a mark and a name, in front of others
pub record Front {A : Type 0} (r : Rule A) (i : Input) (x : A) (o : Input) : Type 0 where
  pub taken : List Token
  pub parts : i.ahead ≡ taken ++ o.ahead
  pub moved : (ts : List Token) → r (put i (taken ++ ts)) x (put o ts)

module _ {P : Type 0} (m : Meaning P) where
  mark_front : (is : Terminal → Bool) (i o : Input) → rule.mark is i tt o → Front (rule.mark is) i tt o
  mark_front is i o h = record {
    taken = h.0 ∷ [];
    parts = h.1.1.1 ∙ ap (λ (ts : List Token). h.0 ∷ ts) (sym (ap (λ (j : Input). j.ahead) h.1.1.2));
    moved = λ ts. (h.0, (h.1.0, (ts, refl, ap (λ (j : Input). put j ts) h.1.1.2)), refl);
  }

  name_front : (i : Input) (x : Text P) (o : Input) → vg.name m i x o → Front (vg.name m) i x o
  name_front i x o h = record {
    taken = h.0 ∷ [];
    parts = h.1.1.1 ∙ ap (λ (ts : List Token). h.0 ∷ ts) (sym (ap (λ (j : Input). j.ahead) h.1.1.2));
    moved = λ ts. (h.0, (h.1.0, (ts, refl, ap (λ (j : Input). put j ts) h.1.1.2)), h.2);
  }

  -- what follows `extend`, before it is asked whether it has a part
  abbrev pub inner : ℕ → Rule (KindTree P)
  inner n = SchemaKind <$> g.schema_extension m n ∣ g.type_definition m n

  module _ (n : ℕ) where
    abbrev given : Rule (Directives P)
    given = vg.directives m true (suc n)

    directives_full : (i : Input) (ds : Directives P) (o : Input) → given i ds o → is_empty ds ≡ false
    unfolding vg.directives
    directives_full i ds o h = some_full (rule.placed m (vg.directive m true (suc n))) i ds o h

    abbrev Growing : Input → Input → Type 0
    Growing i o = Grows has_part (inner (suc n)) no_brace i o

    grown : (i mid o : Input) (taken : List Token) → i.ahead ≡ taken ++ mid.ahead → o ≡ mid → ((ts : List Token) (ds : Directives P) (z : Input) → given (put mid ts) ds z → no_brace (next z) ≡ true → (x : KindTree P) × inner (suc n) (put i (taken ++ ts)) x z × (has_part x ≡ true)) → Growing i o
    grown i mid o taken parts e build = record {
      taken = taken;
      parts = parts ∙ ap (λ (j : Input). taken ++ j.ahead) (sym e);
      more = λ rest fo.
          let c = (directives_viable m true n).fills.fill rest refl in
          let l = c.2 (put mid c.0) refl in
          let b = build c.0 l.0 l.1 l.3 (ap (λ (ts : List Token). no_brace (next_of ts)) l.2 ∙ fo) in
          (c.0, c.1, (b.0, l.1, l.2, (b.1, b.2)));
    }

    -- after a keyword and a name
    named : (is : Terminal → Bool) (i m1 mid o : Input) (name : Text P) → rule.mark is i tt m1 → vg.name m m1 name mid → o ≡ mid
        → ((j w q : Input) (ds : Directives P) (z : Input) → rule.mark is j tt w → vg.name m w name q → given q ds z → no_brace (next z) ≡ true → (x : KindTree P) × inner (suc n) j x z × (has_part x ≡ true)) → Growing i o
    named is i m1 mid o name mk nm e build =
        let a = mark_front is i m1 mk in
        let b = name_front m1 name mid nm in
        grown i mid o (a.taken ++ b.taken) (a.parts ∙ ap (λ (ts : List Token). a.taken ++ ts) b.parts ∙ sym (append_assoc a.taken b.taken mid.ahead)) e
        (λ ts ds z d at.
        build (put i ((a.taken ++ b.taken) ++ ts)) (put m1 (b.taken ++ ts)) (put mid ts) ds z
        (subst (λ (us : List Token). rule.mark is (put i us) tt (put m1 (b.taken ++ ts))) (sym (append_assoc a.taken b.taken ts)) (a.moved (b.taken ++ ts))) (b.moved ts) d at)

    no_part : (b : Bool) → b ≡ false → not b ≡ false → ⊥
    no_part true e h = absurd cc
    no_part false e h = absurd cc

    and_left : (a b : Bool) → a ≡ false → (a && b) ≡ false
    and_left a b e = rw e refl

    and_right : (a b : Bool) → b ≡ false → (a && b) ≡ false
    and_right true b e = e
    and_right false b e = refl

    one_of : (a b c : Bool) → (a ≡ false) ⊎ ((b ≡ false) ⊎ (c ≡ false)) → (a && b && c) ≡ false
    one_of false b c h = refl
    one_of true false c h = refl
    one_of true true c (inl h) = absurd cc
    one_of true true c (inr (inl h)) = absurd cc
    one_of true true c (inr (inr h)) = h

    -- scalars
    scalar_grows : (i m1 mid o : Input) (name : Text P) (d : Option (Directives P)) → rule.mark is_scalar i tt m1 → vg.name m m1 name mid → optional given mid d o → has_part (ScalarKind (scalar_of (tt, (name, d)))) ≡ false → Growing i o
    unfolding g.type_definition g.scalar_type
    scalar_grows i m1 mid o name (Some ds) mk nm h e = absurd (no_part _ (directives_full mid ds o h) e)
    scalar_grows i m1 mid o name None mk nm h e =
        named is_scalar i m1 mid o name mk nm h
        (λ j w q ds z a b d at.
        (ScalarKind (scalar_of (tt, (name, Some ds))), inr (inl (scalar_of (tt, (name, Some ds)), ((tt, (name, Some ds)), (w, a, (q, b, d)), refl), refl)), ap not (directives_full q ds z d)))

    -- kinds with directives and one part more
    module _ {X : Type 0} (is : Terminal → Bool) (tail : Rule (Option (List X))) (kind : Unit {0} × (Text P × (Option (Directives P) × Option (List X))) → KindTree P) (has : (name : Text P) (d : Option (Directives P)) (x : Option (List X)) → has_part (kind (tt, (name, (d, x)))) ≡ not (is_empty (unwrap_or d []) && is_empty (unwrap_or x [])))
        (none : (i o : Input) → tail i None o → o ≡ i) (left_out : (i : Input) → no_brace (next i) ≡ true → tail i None i) (full : (i : Input) (xs : List X) (o : Input) → tail i (Some xs) o → is_empty xs ≡ false)
        (to : (i : Input) (x : Unit {0} × (Text P × (Option (Directives P) × Option (List X)))) (o : Input) → (rule.mark is · vg.name m · optional given · tail) i x o → inner (suc n) i (kind x) o) where
      two_grow : (i m1 m2 m3 o : Input) (name : Text P) (d : Option (Directives P)) (x : Option (List X)) → rule.mark is i tt m1 → vg.name m m1 name m2 → optional given m2 d m3 → tail m3 x o → has_part (kind (tt, (name, (d, x)))) ≡ false → Growing i o
      two_grow i m1 m2 m3 o name (Some ds) x mk nm h t e = absurd (no_part _ (and_left _ _ (directives_full m2 ds m3 h)) (sym (has name (Some ds) x) ∙ e))
      two_grow i m1 m2 m3 o name None (Some xs) mk nm h t e = absurd (no_part _ (and_right true (is_empty xs) (full m3 xs o t)) (sym (has name None (Some xs)) ∙ e))
      two_grow i m1 m2 m3 o name None None mk nm h t e =
          named is i m1 m2 o name mk nm (none m3 o t ∙ h)
          (λ j w q ds z a b d at.
          (kind (tt, (name, (Some ds, None))), to j (tt, (name, (Some ds, None))) z (w, a, (q, b, (z, d, left_out z at))), has name (Some ds) None ∙ ap not (and_left _ _ (directives_full q ds z d))))

    members_full : (i : Input) (xs : List (Text P)) (o : Input) → g.union_member_types m i xs o → is_empty xs ≡ false
    unfolding g.union_member_types
    members_full i xs o h = ap (λ (ys : List (Text P)). is_empty ys) (h.2 ∙ h.1.2.2)

    interfaces_full : (i : Input) (xs : List (Text P)) (o : Input) → g.implements_interfaces m i xs o → is_empty xs ≡ false
    unfolding g.implements_interfaces
    interfaces_full i xs o h = ap (λ (ys : List (Text P)). is_empty ys) (h.2 ∙ h.1.2.2)

    values_full : (i : Input) (xs : Values P) (o : Input) → g.enum_values_definition m (suc n) i xs o → is_empty xs ≡ false
    unfolding g.enum_values_definition
    values_full i xs o h = between_full _ _ _ i xs o h

    inputs_full : (i : Input) (xs : InputValues P) (o : Input) → g.input_fields_definition m (suc n) i xs o → is_empty xs ≡ false
    unfolding g.input_fields_definition
    inputs_full i xs o h = between_full _ _ _ i xs o h

    fields_full : (i : Input) (xs : Fields P) (o : Input) → g.fields_definition m (suc n) i xs o → is_empty xs ≡ false
    unfolding g.fields_definition
    fields_full i xs o h = between_full _ _ _ i xs o h

    roots_full : (i : Input) (xs : Roots P) (o : Input) → g.roots m (suc n) i xs o → is_empty xs ≡ false
    unfolding g.roots
    roots_full i xs o h = between_full _ _ _ i xs o h

    -- objects and interfaces
    abbrev fields_tail : Rule (Option (Directives P) × Option (Fields P))
    fields_tail = optional given · optional_unless is_open_brace (g.fields_definition m (suc n))

    module _ (is : Terminal → Bool) (kind : FieldsParts P → KindTree P) (has : (x : FieldsParts P) → has_part (kind x) ≡ not (is_empty x.interfaces && is_empty x.directives && is_empty x.fields))
        (to : (i : Input) (x : FieldsParts P) (o : Input) → (fields_of <$> rule.mark is · vg.name m · optional (g.implements_interfaces m) · fields_tail) i x o → inner (suc n) i (kind x) o) where
      three_grow : (i m1 m2 m3 m4 o : Input) (name : Text P) (s : Option (List (Text P))) (d : Option (Directives P)) (x : Option (Fields P)) → rule.mark is i tt m1 → vg.name m m1 name m2 → optional (g.implements_interfaces m) m2 s m3 → optional given m3 d m4 → optional_unless is_open_brace (g.fields_definition m (suc n)) m4 x o → has_part (kind (fields_of (tt, (name, (s, (d, x)))))) ≡ false → Growing i o
      three_grow i m1 m2 m3 m4 o name (Some xs) d x mk nm s h t e = absurd (no_part _ (one_of (is_empty xs) (is_empty (unwrap_or d [])) (is_empty (unwrap_or x [])) (inl (interfaces_full m2 xs m3 s))) (sym (has _) ∙ e))
      three_grow i m1 m2 m3 m4 o name None (Some ds) x mk nm s h t e = absurd (no_part _ (one_of true (is_empty ds) (is_empty (unwrap_or x [])) (inr (inl (directives_full m3 ds m4 h)))) (sym (has _) ∙ e))
      three_grow i m1 m2 m3 m4 o name None None (Some xs) mk nm s h t e = absurd (no_part _ (one_of true true (is_empty xs) (inr (inr (fields_full m4 xs o t)))) (sym (has _) ∙ e))
      three_grow i m1 m2 m3 m4 o name None None None mk nm s h t e =
          named is i m1 m2 o name mk nm (t.0 ∙ h ∙ s)
          (λ j w q ds z a b d at.
          (kind (fields_of (tt, (name, (None, (Some ds, None))))), to j (fields_of (tt, (name, (None, (Some ds, None))))) z ((tt, (name, (None, (Some ds, None)))), (w, a, (q, b, (q, refl, (z, d, (refl, at))))), refl), has _ ∙ ap not (one_of true (is_empty ds) true (inr (inl (directives_full q ds z d))))))

    -- schemas
    schema_grows : (i m1 m2 o : Input) (d : Option (Directives P)) (x : Option (Roots P)) → rule.mark is_schema i tt m1 → optional given m1 d m2 → optional_unless is_open_brace (g.roots m (suc n)) m2 x o → has_part (SchemaKind (schema_extension_of (tt, (d, x)))) ≡ false → Growing i o
    unfolding g.schema_extension
    schema_grows i m1 m2 o (Some ds) x mk h t e = absurd (no_part _ (and_left _ _ (directives_full m1 ds m2 h)) e)
    schema_grows i m1 m2 o None (Some xs) mk h t e = absurd (no_part _ (roots_full m2 xs o t) e)
    schema_grows i m1 m2 o None None mk h t e =
        let a = mark_front is_schema i m1 mk in
        grown i m1 o a.taken a.parts (t.0 ∙ h)
        (λ ts ds z d at.
        (SchemaKind (schema_extension_of (tt, (Some ds, None))), inl (schema_extension_of (tt, (Some ds, None)), ((tt, (Some ds, None)), (put m1 ts, a.moved ts, (z, d, (refl, at))), refl), refl), ap not (and_left _ _ (directives_full (put m1 ts) ds z d))))

    pub grows : (i : Input) (x : KindTree P) (o : Input) → inner (suc n) i x o → has_part x ≡ false → Growing i o
    unfolding g.type_definition g.schema_extension g.scalar_type g.object_type g.interface_type g.union_type g.enum_type g.input_object_type
    grows i x o (inl h) e = let r = h.1.1 in schema_grows i r.0 r.2.0 o h.1.0.1.0 h.1.0.1.1 r.1 r.2.1 r.2.2 (sym (ap has_part (h.2 ∙ ap SchemaKind h.1.2)) ∙ e)
    grows i x o (inr (inl h)) e = let r = h.1.1 in scalar_grows i r.0 r.2.0 o h.1.0.1.0 h.1.0.1.1 r.1 r.2.1 r.2.2 (sym (ap has_part (h.2 ∙ ap ScalarKind h.1.2)) ∙ e)
    grows i x o (inr (inr (inl h))) e =
        let r = h.1.1 in let y = h.1.0 in
        three_grow is_type ObjectKind (λ x. refl) (λ i x o a. inr (inr (inl (x, a, refl)))) i r.0 r.2.0 r.2.2.0 r.2.2.2.0 o y.1.0 y.1.1.0 y.1.1.1.0 y.1.1.1.1 r.1 r.2.1 r.2.2.1 r.2.2.2.1 r.2.2.2.2 (sym (ap has_part (h.2 ∙ ap ObjectKind h.1.2)) ∙ e)
    grows i x o (inr (inr (inr (inl h)))) e =
        let r = h.1.1 in let y = h.1.0 in
        three_grow is_interface InterfaceKind (λ x. refl) (λ i x o a. inr (inr (inr (inl (x, a, refl))))) i r.0 r.2.0 r.2.2.0 r.2.2.2.0 o y.1.0 y.1.1.0 y.1.1.1.0 y.1.1.1.1 r.1 r.2.1 r.2.2.1 r.2.2.2.1 r.2.2.2.2 (sym (ap has_part (h.2 ∙ ap InterfaceKind h.1.2)) ∙ e)
    grows i x o (inr (inr (inr (inr (inl h))))) e =
        let r = h.1.1 in let y = h.1.0 in
        two_grow is_union (optional (g.union_member_types m)) (λ y. UnionKind (union_of y)) (λ name d x. refl) (λ i o t. t) (λ i at. refl) members_full (λ i x o a. inr (inr (inr (inr (inl (union_of x, (x, a, refl), refl))))))
        i r.0 r.2.0 r.2.2.0 o y.1.0 y.1.1.0 y.1.1.1 r.1 r.2.1 r.2.2.1 r.2.2.2 (sym (ap has_part (h.2 ∙ ap UnionKind h.1.2)) ∙ e)
    grows i x o (inr (inr (inr (inr (inr (inl h)))))) e =
        let r = h.1.1 in let y = h.1.0 in
        two_grow is_enum (optional_unless is_open_brace (g.enum_values_definition m (suc n))) (λ y. EnumKind (enum_of y)) (λ name d x. refl) (λ i o t. t.0) (λ i at. (refl, at)) values_full (λ i x o a. inr (inr (inr (inr (inr (inl (enum_of x, (x, a, refl), refl)))))))
        i r.0 r.2.0 r.2.2.0 o y.1.0 y.1.1.0 y.1.1.1 r.1 r.2.1 r.2.2.1 r.2.2.2 (sym (ap has_part (h.2 ∙ ap EnumKind h.1.2)) ∙ e)
    grows i x o (inr (inr (inr (inr (inr (inr h)))))) e =
        let r = h.1.1 in let y = h.1.0 in
        two_grow is_input (optional_unless is_open_brace (g.input_fields_definition m (suc n))) (λ y. InputObjectKind (input_object_of y)) (λ name d x. refl) (λ i o t. t.0) (λ i at. (refl, at)) inputs_full (λ i x o a. inr (inr (inr (inr (inr (inr (input_object_of x, (x, a, refl), refl)))))))
        i r.0 r.2.0 r.2.2.0 o y.1.0 y.1.1.0 y.1.1.1 r.1 r.2.1 r.2.2.1 r.2.2.2 (sym (ap has_part (h.2 ∙ ap InputObjectKind h.1.2)) ∙ e)

    -- `scalar` with a name and directives
    pub part_fills : Fills (rule.such_that has_part (inner (suc n))) no_brace
    unfolding g.type_definition g.scalar_type
    part_fills =
        fewer_fills no_brace
        (fills_into
        (λ i x o h. subst (λ (w : KindTree P). rule.such_that has_part (inner (suc n)) i w o) (sym h.2)
        (inr (inl (scalar_of (tt, (h.0.1.0, Some h.0.1.1)), ((tt, (h.0.1.0, Some h.0.1.1)), h.1, refl), refl)), ap not (directives_full h.1.2.0 h.0.1.1 o h.1.2.2)))
        (mapped_fills (λ x. ScalarKind (scalar_of (tt, (x.1.0, Some x.1.1)))) (seq_fills (mark_fills is_scalar k.Scalar refl) (seq_fills (name_viable m).fills (directives_viable m true n).fills))))
