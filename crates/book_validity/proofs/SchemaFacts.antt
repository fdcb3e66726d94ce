-- A schema is valid by the book exactly when no rule on schemas is broken.
use Rattle.std.proofs.Common.{◌≡◌, ℕ, Bool, true, false, List, ◌∷◌, refl, sym, ap, subst, ◌∙◌, Option, None, Some, Contains, inl, inr, is_some, true≢false}
use Rattle.std.proofs.lemmas.Option.{same_Some}
use Rattle.tree_directives.specs.DirectiveTree.{DirectiveDefinitionTree}
use Rattle.tree_directives.specs.DirectiveQueries.{is_required_input}
use Rattle.tree_directives.specs.declared.directive_location.DirectiveLocation.TheVariants as location
use Rattle.tree_type_members.specs.TypeSystemTree.{FieldDefinitionTree}
use Rattle.schema_types.specs.Looks.{TypeLooks}
use Rattle.schema_types.specs.SchemaTree.{is_input_kind, is_output_kind}
use Rattle.schema_types.specs.Addresses.{Address, SchemaAt, TypeAt, FieldAt, ValueAt, InputAt, ArgumentAt, DirectiveDefinitionAt}
use Rattle.schema_types.specs.declared.type_kind.TypeKind.{TypeKind}
use Rattle.schema_types.specs.declared.type_kind.TypeKind.TheVariants as kind
use Rattle.rule_definitions.specs.Words.{Present}
use Rattle.rule_definitions.specs.Faults.{SchemaFault}
use Rattle.rule_definitions.specs.Judged.{Judged, applied_directives, type_location}
use Rattle.rule_definitions.specs.RootTypes.{root_types_in}
use Rattle.rule_definitions.specs.Roots.{QueryRootOperationTypeAt, UndefinedRootAt, RootOperationObjectTypeAt, DuplicateRootOperationTypeAt}
use Rattle.rule_definitions.specs.Names.{is_reserved, scalar_names, named_in, input_name}
use Rattle.rule_definitions.specs.ReservedNames.{ReservedNameAt}
use Rattle.rule_definitions.specs.TypesUsed.{UndefinedFieldTypeAt, UndefinedInputTypeAt, UndefinedMemberAt, OutputTypeAt, InputTypeAt, UnionMemberObjectTypeAt, UniqueArgumentDefinitionAt}
use Rattle.rule_definitions.specs.Subtypes.{is_valid_type}
use Rattle.rule_definitions.specs.Things.{ADirective}
use Rattle.rule_definitions.specs.Cycles.{RefersToInput, Refers}
use Rattle.rule_definitions.specs.Rules.{ReferencesBreak, EmptyBreaks, InterfacesBreak, CyclesBreak, SchemaUsesBreak, SchemaRules}
use Rattle.rule_cycle_search.specs.Paths.{Leads}
use Rattle.rule_definitions.proofs.Lists.{index_found, index_given}
use Rattle.rule_definitions.proofs.Firsts.{lacks_found, lacks_given}
use Rattle.book_validity.specs.Words.{named}
use Rattle.book_validity.specs.Members.{IsNameAllowed, IsOfKind, AreArgumentDefinitionsValid, IsValidFieldDefinition}
use Rattle.book_validity.specs.Interfaces.{IsValidImplementation, IsValidImplementationField}
use Rattle.book_validity.specs.Types.{HasParts, Requires, IsValidType}
use Rattle.book_validity.specs.Schema.{References, IsValidSchema}
use Rattle.book_validity.specs.Laws.{HasScalars, SchemaRulesHoldByTheBook}
use Rattle.rule_document_definitions.proofs.Decided.{stable, present}
use Rattle.book_validity.proofs.Naming.{is_there, there, not_there, is_true, is_false, unique_from, unique_never, first_named, found_index}
use Rattle.book_validity.proofs.Equal.{kind_or_not, type_or_not}
use Rattle.book_validity.proofs.Spotted.{applied_quiet, quiet_applied}
use Rattle.book_validity.proofs.Loops.{leads_on, leads_back, input_step, input_back, reference_step, reference_back}

abbrev U : Type 0
U = Unit {0}

absent : {X A : Type 0} (o : Option X) (x : X) → o ≡ Some x → o ≡ None → A
absent o x is none = absurd (true≢false (sym (ap is_some is) ∙ ap is_some none))

module _ (s : Judged) where
  -- ---- kinds of types that are named

  -- a type that is not there has not the name of a built-in scalar, and one that is there has the kind
  of_kind : HasScalars s → (test : TypeKind → Bool) (n : List ℕ) → (s.type_named n ≡ None → (Contains scalar_names n → ⊥) → ⊥) → ((t : TypeLooks) → s.type_named n ≡ Some t → test t.kind ≡ false → ⊥) → IsOfKind s test n
  of_kind scalars test n known fits = by (s.type_named n) refl
    where
      by : (o : Option TypeLooks) → s.type_named n ≡ o → IsOfKind s test n
      by None e = absurd (known e (λ c. not_there (s.type_named n) (scalars n c) e))
      by (Some t) e = (t, (e, is_true (test t.kind) (fits t e)))

  kind_known : {A : Type 0} (test : TypeKind → Bool) (n : List ℕ) → IsOfKind s test n → s.type_named n ≡ None → A
  kind_known test n (t, (e, k)) none = absent (s.type_named n) t e none

  kind_fits : {A : Type 0} (test : TypeKind → Bool) (n : List ℕ) → IsOfKind s test n → (t : TypeLooks) → s.type_named n ≡ Some t → test t.kind ≡ false → A
  kind_fits test n (t, (e, k)) u is out = absurd (true≢false (sym k ∙ ap (λ (x : TypeLooks). test x.kind) (same_Some t u (sym e ∙ is)) ∙ out))

  -- the type is there and of one kind
  is_of : (k : TypeKind) (n : List ℕ) → (s.type_named n ≡ None → ⊥) → ((t : TypeLooks) → s.type_named n ≡ Some t → (t.kind ≡ k → ⊥) → ⊥) → Present (s.type_named n) (λ t. t.kind ≡ k)
  is_of k n known fits = let (t, e) = there (s.type_named n) (is_there (s.type_named n) known) in (t, (e, stable (kind_or_not t.kind k) (fits t e)))

  one_type : (n : List ℕ) (t u : TypeLooks) → s.type_named n ≡ Some t → s.type_named n ≡ Some u → t ≡ u
  one_type n t u e f = same_Some t u (sym e ∙ f)

  -- ---- from a yes to no fault

  module _ (h : IsValidSchema s) where
    references : (fault : SchemaFault) → ReferencesBreak s fault → ⊥
    references fault (inl (none, told)) = not_there s.definition.query h.roots.query none
    references fault (inr (inl (o, (n, (is, (none, told)))))) = let (t, (e, k)) = h.roots.objects o n is in absent (s.type_named n) t e none
    references fault (inr (inr (inl (o, (n, (is, (u, (e, (out, told))))))))) =
        let (t, (f, k)) = h.roots.objects o n is in out (ap (λ (x : TypeLooks). x.kind) (one_type n u t e f) ∙ k)
    references fault (inr (inr (inr (inl r)))) = unique_never (λ r. r.1) (root_types_in s.definition) h.roots.different r
    references fault (inr (inr (inr (inr (inl b))))) = names b
      where
        not_allowed : (at : Address) (name : List ℕ) → IsNameAllowed s at name → s.built_in at ≡ false → is_reserved name ≡ true → ⊥
        not_allowed at name allowed outside reserved = true≢false (sym reserved ∙ allowed outside)

        names : ReservedNameAt s fault → ⊥
        names (inl (n, (t, (e, (b, (r, told)))))) = not_allowed (TypeAt n) n (h.types n t e).allowed b r
        names (inr (inl (n, (d, (e, (b, (r, told))))))) = not_allowed (DirectiveDefinitionAt n) n (h.directives n d e).allowed b r
        names (inr (inr (inl (n, (t, (e, (m, (f, (a, (b, (r, told))))))))))) = not_allowed (FieldAt n m) m ((h.types n t e).fields m f a).allowed b r
        names (inr (inr (inr (inl (inl (n, (t, (e, (m, (f, (a, (i, (v, (c, (b, (r, told)))))))))))))))) =
            not_allowed (ArgumentAt (FieldAt n m) i) (input_name v) (((h.types n t e).fields m f a).arguments.each i v c).allowed b r
        names (inr (inr (inr (inl (inr (n, (d, (e, (i, (v, (c, (b, (r, told))))))))))))) =
            not_allowed (ArgumentAt (DirectiveDefinitionAt n) i) (input_name v) ((h.directives n d e).arguments.each i v c).allowed b r
        names (inr (inr (inr (inr (inl (n, (t, (e, (m, (v, (a, (b, (r, told))))))))))))) = not_allowed (InputAt n m) m ((h.types n t e).inputs m v a).allowed b r
        names (inr (inr (inr (inr (inr (n, (t, (e, (m, (v, (a, (b, (r, told))))))))))))) = not_allowed (ValueAt n m) m ((h.types n t e).values m v a).allowed b r
    references fault (inr (inr (inr (inr (inr (inl (n, (t, (e, (m, (f, (a, (none, (out, told)))))))))))))) = kind_known is_output_kind (named_in f.ty) ((h.types n t e).fields m f a).output_type none
    references fault (inr (inr (inr (inr (inr (inr (inl (inl (inl (n, (t, (e, (m, (f, (a, (i, (v, (c, (none, (out, told)))))))))))))))))))) =
        kind_known is_input_kind (named_in v.it.ty.it) (((h.types n t e).fields m f a).arguments.each i v c).input_type none
    references fault (inr (inr (inr (inr (inr (inr (inl (inl (inr (n, (d, (e, (i, (v, (c, (none, (out, told))))))))))))))))) =
        kind_known is_input_kind (named_in v.it.ty.it) ((h.directives n d e).arguments.each i v c).input_type none
    references fault (inr (inr (inr (inr (inr (inr (inl (inr (n, (t, (e, (m, (v, (a, (none, (out, told)))))))))))))))) =
        kind_known is_input_kind (named_in v.ty.it) ((h.types n t e).inputs m v a).input_type none
    references fault (inr (inr (inr (inr (inr (inr (inr (inl (n, (t, (e, (m, (a, (none, told)))))))))))))) = let (u, (f, k)) = (h.types n t e).members m a in absent (s.type_named m) u f none
    references fault (inr (inr (inr (inr (inr (inr (inr (inr (inl (n, (t, (e, (m, (f, (a, (u, (is, (out, told)))))))))))))))))) = kind_fits is_output_kind (named_in f.ty) ((h.types n t e).fields m f a).output_type u is out
    references fault (inr (inr (inr (inr (inr (inr (inr (inr (inr (inl (inl (inl (n, (t, (e, (m, (f, (a, (i, (v, (c, (u, (is, (out, told)))))))))))))))))))))))) =
        kind_fits is_input_kind (named_in v.it.ty.it) (((h.types n t e).fields m f a).arguments.each i v c).input_type u is out
    references fault (inr (inr (inr (inr (inr (inr (inr (inr (inr (inl (inl (inr (n, (d, (e, (i, (v, (c, (u, (is, (out, told))))))))))))))))))))) =
        kind_fits is_input_kind (named_in v.it.ty.it) ((h.directives n d e).arguments.each i v c).input_type u is out
    references fault (inr (inr (inr (inr (inr (inr (inr (inr (inr (inl (inr (n, (t, (e, (m, (v, (a, (u, (is, (out, told)))))))))))))))))))) =
        kind_fits is_input_kind (named_in v.ty.it) ((h.types n t e).inputs m v a).input_type u is out
    references fault (inr (inr (inr (inr (inr (inr (inr (inr (inr (inr (inl (n, (t, (e, (m, (a, (u, (is, (out, told))))))))))))))))))) =
        let (w, (f, k)) = (h.types n t e).members m a in out (ap (λ (x : TypeLooks). x.kind) (one_type m u w is f) ∙ k)
    references fault (inr (inr (inr (inr (inr (inr (inr (inr (inr (inr (inr (inl (n, (t, (e, (m, (f, (a, r)))))))))))))))))) = unique_never input_name f.arguments ((h.types n t e).fields m f a).arguments.unique r
    references fault (inr (inr (inr (inr (inr (inr (inr (inr (inr (inr (inr (inr (n, (d, (e, r))))))))))))))) = unique_never input_name d.arguments (h.directives n d e).arguments.unique r

    empty : (fault : SchemaFault) → EmptyBreaks s fault → ⊥
    empty fault (inl (n, (t, (e, (inl k, (none, told)))))) = subst (HasParts t) k (h.types n t e).parts none
    empty fault (inl (n, (t, (e, (inr k, (none, told)))))) = subst (HasParts t) k (h.types n t e).parts none
    empty fault (inr (inl (n, (t, (e, (k, (none, told))))))) = subst (HasParts t) k (h.types n t e).parts none
    empty fault (inr (inr (inl (n, (t, (e, (k, (none, told)))))))) = subst (HasParts t) k (h.types n t e).parts none
    empty fault (inr (inr (inr (n, (t, (e, (k, (none, told)))))))) = subst (HasParts t) k (h.types n t e).parts none

    -- what is there under the name of an interface is a valid implementation's
    implementation : (n : List ℕ) (t : TypeLooks) → s.type_named n ≡ Some t → (i : List ℕ) → t.implements i ≡ true → (over : TypeLooks) → s.type_named i ≡ Some over → IsValidImplementation s t over
    implementation n t e i a over f = let (u, (g, (k, valid))) = (h.types n t e).implements i a in subst (IsValidImplementation s t) (one_type i u over g f) valid

    field_of : (n : List ℕ) (t : TypeLooks) → s.type_named n ≡ Some t → (i : List ℕ) → t.implements i ≡ true → (over : TypeLooks) → s.type_named i ≡ Some over
        → (m : List ℕ) (wanted field : FieldDefinitionTree U) → over.field m ≡ Some wanted → t.field m ≡ Some field → IsValidImplementationField s field wanted
    field_of n t e i a over f m wanted field w g =
        let (x, (is, valid)) = (implementation n t e i a over f).fields m wanted w in
        subst (λ y. IsValidImplementationField s y wanted) (same_Some x field (sym is ∙ g)) valid

    interfaces : (fault : SchemaFault) → InterfacesBreak s fault → ⊥
    interfaces fault (inl (n, (t, (e, (i, (a, (out, told))))))) = let (u, (f, (k, valid))) = (h.types n t e).implements i a in out (u, (f, k))
    interfaces fault (inr (inl (n, (t, (e, (k, (a, told))))))) = true≢false (sym a ∙ (h.types n t e).not_itself k)
    interfaces fault (inr (inr (inl (n, (t, (e, (i, (a, (over, (f, (k, (j, (b, (out, told)))))))))))))) = true≢false (sym ((implementation n t e i a over f).interfaces j b) ∙ out)
    interfaces fault (inr (inr (inr (inl (n, (t, (e, (i, (a, (over, (f, (k, (m, (wanted, (w, (none, told)))))))))))))))) =
        let (field, (g, valid)) = (implementation n t e i a over f).fields m wanted w in absent (t.field m) field g none
    interfaces fault (inr (inr (inr (inr (inl (n, (t, (e, (i, (a, (over, (f, (k, (m, (wanted, (w, (field, (g, (out, told))))))))))))))))))) =
        true≢false (sym (field_of n t e i a over f m wanted field w g).field_type ∙ out)
    interfaces fault (inr (inr (inr (inr (inr (inl (n, (t, (e, (i, (a, (over, (f, (k, (m, (wanted, (w, (field, (g, (j, (x, (c, (lacks, told))))))))))))))))))))))) =
        let (v, (is, same)) = (field_of n t e i a over f m wanted field w g).arguments x (index_given wanted.arguments j x c) in
        absent (named input_name field.arguments (input_name x)) v is (lacks_given input_name field.arguments (input_name x) lacks)
    interfaces fault (inr (inr (inr (inr (inr (inr (inl (n, (t, (e, (i, (a, (over, (f, (k, (m, (wanted, (w, (field, (g, (j, (x, (c, first))))))))))))))))))))))) =
        let (v, (is, same)) = (field_of n t e i a over f m wanted field w g).arguments x (index_given wanted.arguments j x c) in
        let (u, (found, (l, (out, told)))) = first_named input_name field.arguments (input_name x) first in
        out (same ∙ ap (λ (y : _). y.it.ty.it) (same_Some v u (sym is ∙ found)))
    interfaces fault (inr (inr (inr (inr (inr (inr (inr (n, (t, (e, (i, (a, (over, (f, (k, (m, (wanted, (w, (field, (g, (j, (x, (c, (lacks, (required, told))))))))))))))))))))))))) =
        true≢false (sym required ∙ (field_of n t e i a over f m wanted field w g).additional x (index_given field.arguments j x c) (lacks_given input_name wanted.arguments (input_name x) lacks))

    cycles : (fault : SchemaFault) → CyclesBreak s fault → ⊥
    cycles fault (inl (n, (by, (rest, (leads, told))))) = by_first leads
      where
        by_first : Leads (RefersToInput s) n (by ∷ rest) n → ⊥
        by_first l = (h.types n l.1.0.0 l.1.0.1.0).acyclic (leads_on (RefersToInput s) (Requires s) (input_step s) n by rest n l)
    cycles fault (inr (n, (by, (rest, (leads, told))))) = by_first leads
      where
        by_first : Leads (Refers s) (ADirective n) (by ∷ rest) (ADirective n) → ⊥
        by_first l = (h.directives n l.1.0.0 l.1.0.1.0).acyclic (leads_on (Refers s) (References s) (reference_step s) (ADirective n) by rest (ADirective n) l)

    uses : (fault : SchemaFault) → SchemaUsesBreak s fault → ⊥
    uses fault (inl b) = applied_quiet s location.Schema s.definition.directives SchemaAt h.roots.directives fault b
    uses fault (inr (inl (n, (t, (e, (out, b)))))) = applied_quiet s (type_location t.kind) t.directives (TypeAt n) ((h.types n t e).directives out) fault b
    uses fault (inr (inr (inl (n, (t, (e, (m, (f, (a, b))))))))) = applied_quiet s location.FieldDefinition (applied_directives f.directives) (FieldAt n m) ((h.types n t e).fields m f a).directives fault b
    uses fault (inr (inr (inr (inl (inl (n, (t, (e, (m, (f, (a, (i, (v, (c, b)))))))))))))) =
        applied_quiet s location.ArgumentDefinition (applied_directives v.it.directives) (ArgumentAt (FieldAt n m) i) (((h.types n t e).fields m f a).arguments.each i v c).directives fault b
    uses fault (inr (inr (inr (inl (inr (n, (d, (e, (i, (v, (c, b))))))))))) =
        applied_quiet s location.ArgumentDefinition (applied_directives v.it.directives) (ArgumentAt (DirectiveDefinitionAt n) i) ((h.directives n d e).arguments.each i v c).directives fault b
    uses fault (inr (inr (inr (inr (inl (n, (t, (e, (m, (v, (a, b))))))))))) = applied_quiet s location.EnumValue (applied_directives v.directives) (ValueAt n m) ((h.types n t e).values m v a).directives fault b
    uses fault (inr (inr (inr (inr (inr (inl (n, (t, (e, (m, (v, (a, b)))))))))))) = applied_quiet s location.InputFieldDefinition (applied_directives v.directives) (InputAt n m) ((h.types n t e).inputs m v a).directives fault b
    uses fault (inr (inr (inr (inr (inr (inr (n, (d, (e, (outside, b)))))))))) =
        applied_quiet s location.DirectiveDefinition (applied_directives d.directives) (DirectiveDefinitionAt n) ((h.directives n d e).directives outside) fault b

    pub valid_quiet : SchemaRules s
    valid_quiet fault (inl b) = references fault b
    valid_quiet fault (inr (inl b)) = empty fault b
    valid_quiet fault (inr (inr (inl b))) = interfaces fault b
    valid_quiet fault (inr (inr (inr (inl b)))) = cycles fault b
    valid_quiet fault (inr (inr (inr (inr b)))) = uses fault b

  -- ---- from no fault to a yes

  module _ (scalars : HasScalars s) (q : SchemaRules s) where
    query_given : (fault : SchemaFault) → QueryRootOperationTypeAt s fault → ⊥
    query_given fault b = q fault (inl (inl b))

    root_there : (fault : SchemaFault) → UndefinedRootAt s fault → ⊥
    root_there fault b = q fault (inl (inr (inl b)))

    root_object : (fault : SchemaFault) → RootOperationObjectTypeAt s fault → ⊥
    root_object fault b = q fault (inl (inr (inr (inl b))))

    roots_differ : (fault : SchemaFault) → DuplicateRootOperationTypeAt s fault → ⊥
    roots_differ fault b = q fault (inl (inr (inr (inr (inl b)))))

    reserved : (fault : SchemaFault) → ReservedNameAt s fault → ⊥
    reserved fault b = q fault (inl (inr (inr (inr (inr (inl b))))))

    field_known : (fault : SchemaFault) → UndefinedFieldTypeAt s fault → ⊥
    field_known fault b = q fault (inl (inr (inr (inr (inr (inr (inl b)))))))

    input_known : (fault : SchemaFault) → UndefinedInputTypeAt s fault → ⊥
    input_known fault b = q fault (inl (inr (inr (inr (inr (inr (inr (inl b))))))))

    member_known : (fault : SchemaFault) → UndefinedMemberAt s fault → ⊥
    member_known fault b = q fault (inl (inr (inr (inr (inr (inr (inr (inr (inl b)))))))))

    output_fits : (fault : SchemaFault) → OutputTypeAt s fault → ⊥
    output_fits fault b = q fault (inl (inr (inr (inr (inr (inr (inr (inr (inr (inl b))))))))))

    input_fits : (fault : SchemaFault) → InputTypeAt s fault → ⊥
    input_fits fault b = q fault (inl (inr (inr (inr (inr (inr (inr (inr (inr (inr (inl b)))))))))))

    member_object : (fault : SchemaFault) → UnionMemberObjectTypeAt s fault → ⊥
    member_object fault b = q fault (inl (inr (inr (inr (inr (inr (inr (inr (inr (inr (inr (inl b))))))))))))

    arguments_differ : (fault : SchemaFault) → UniqueArgumentDefinitionAt s fault → ⊥
    arguments_differ fault b = q fault (inl (inr (inr (inr (inr (inr (inr (inr (inr (inr (inr (inr b))))))))))))

    not_empty : (fault : SchemaFault) → EmptyBreaks s fault → ⊥
    not_empty fault b = q fault (inr (inl b))

    interfaced : (fault : SchemaFault) → InterfacesBreak s fault → ⊥
    interfaced fault b = q fault (inr (inr (inl b)))

    no_cycle : (fault : SchemaFault) → CyclesBreak s fault → ⊥
    no_cycle fault b = q fault (inr (inr (inr (inl b))))

    used_well : (fault : SchemaFault) → SchemaUsesBreak s fault → ⊥
    used_well fault b = q fault (inr (inr (inr (inr b))))

    -- ---- members

    name_allowed : (at : Address) (name : List ℕ) → (s.built_in at ≡ false → is_reserved name ≡ true → ⊥) → IsNameAllowed s at name
    name_allowed at name none outside = is_false (is_reserved name) (none outside)

    field_arguments : (n : List ℕ) (t : TypeLooks) → s.type_named n ≡ Some t → (m : List ℕ) (f : FieldDefinitionTree U) → t.field m ≡ Some f → AreArgumentDefinitionsValid s (FieldAt n m) f.arguments
    field_arguments n t e m f a = record {
      unique = unique_from input_name f.arguments (λ r. arguments_differ _ (inl (n, (t, (e, (m, (f, (a, (r.0, (r.1.0, (r.1.1.0, (r.1.1.1.0, (r.1.1.1.1.0, (r.1.1.1.1.1.0, (r.1.1.1.1.1.1.0, (r.1.1.1.1.1.1.1.0, (r.1.1.1.1.1.1.1.1.0, refl)))))))))))))))));
      each = λ i v c. record {
        allowed = name_allowed (ArgumentAt (FieldAt n m) i) (input_name v) (λ outside r. reserved _ (inr (inr (inr (inl (inl (n, (t, (e, (m, (f, (a, (i, (v, (c, (outside, (r, refl)))))))))))))))));
        input_type = of_kind scalars is_input_kind (named_in v.it.ty.it)
            (λ none out. input_known _ (inl (inl (n, (t, (e, (m, (f, (a, (i, (v, (c, (none, (out, refl))))))))))))))
            (λ u is out. input_fits _ (inl (inl (n, (t, (e, (m, (f, (a, (i, (v, (c, (u, (is, (out, refl)))))))))))))));
        directives = quiet_applied s location.ArgumentDefinition (applied_directives v.it.directives) (ArgumentAt (FieldAt n m) i)
            (λ fault b. used_well fault (inr (inr (inr (inl (inl (n, (t, (e, (m, (f, (a, (i, (v, (c, b)))))))))))))));
      };
    }

    directive_arguments : (n : List ℕ) (d : DirectiveDefinitionTree U) → s.directive n ≡ Some d → AreArgumentDefinitionsValid s (DirectiveDefinitionAt n) d.arguments
    directive_arguments n d e = record {
      unique = unique_from input_name d.arguments (λ r. arguments_differ _ (inr (n, (d, (e, (r.0, (r.1.0, (r.1.1.0, (r.1.1.1.0, (r.1.1.1.1.0, (r.1.1.1.1.1.0, (r.1.1.1.1.1.1.0, (r.1.1.1.1.1.1.1.0, (r.1.1.1.1.1.1.1.1.0, refl))))))))))))));
      each = λ i v c. record {
        allowed = name_allowed (ArgumentAt (DirectiveDefinitionAt n) i) (input_name v) (λ outside r. reserved _ (inr (inr (inr (inl (inr (n, (d, (e, (i, (v, (c, (outside, (r, refl))))))))))))));
        input_type = of_kind scalars is_input_kind (named_in v.it.ty.it)
            (λ none out. input_known _ (inl (inr (n, (d, (e, (i, (v, (c, (none, (out, refl)))))))))))
            (λ u is out. input_fits _ (inl (inr (n, (d, (e, (i, (v, (c, (u, (is, (out, refl))))))))))));
        directives = quiet_applied s location.ArgumentDefinition (applied_directives v.it.directives) (ArgumentAt (DirectiveDefinitionAt n) i)
            (λ fault b. used_well fault (inr (inr (inr (inl (inr (n, (d, (e, (i, (v, (c, b))))))))))));
      };
    }

    -- ---- a type

    module _ (n : List ℕ) (t : TypeLooks) (e : s.type_named n ≡ Some t) where
      parts : (k : TypeKind) → t.kind ≡ k → HasParts t k
      parts kind.Scalar is = tt
      parts kind.Object is = λ none. not_empty _ (inl (n, (t, (e, (inl is, (none, refl))))))
      parts kind.Interface is = λ none. not_empty _ (inl (n, (t, (e, (inr is, (none, refl))))))
      parts kind.Union is = λ none. not_empty _ (inr (inr (inl (n, (t, (e, (is, (none, refl))))))))
      parts kind.Enum is = λ none. not_empty _ (inr (inl (n, (t, (e, (is, (none, refl)))))))
      parts kind.InputObject is = λ none. not_empty _ (inr (inr (inr (n, (t, (e, (is, (none, refl))))))))

      field : (m : List ℕ) (f : FieldDefinitionTree U) → t.field m ≡ Some f → IsValidFieldDefinition s n m f
      field m f a = record {
        allowed = name_allowed (FieldAt n m) m (λ outside r. reserved _ (inr (inr (inl (n, (t, (e, (m, (f, (a, (outside, (r, refl))))))))))));
        output_type = of_kind scalars is_output_kind (named_in f.ty)
            (λ none out. field_known _ (n, (t, (e, (m, (f, (a, (none, (out, refl)))))))))
            (λ u is out. output_fits _ (n, (t, (e, (m, (f, (a, (u, (is, (out, refl))))))))));
        arguments = field_arguments n t e m f a;
        directives = quiet_applied s location.FieldDefinition (applied_directives f.directives) (FieldAt n m) (λ fault b. used_well fault (inr (inr (inl (n, (t, (e, (m, (f, (a, b))))))))));
      }

      module _ (i : List ℕ) (a : t.implements i ≡ true) (over : TypeLooks) (f : s.type_named i ≡ Some over) (k : over.kind ≡ kind.Interface) where
        implemented : (m : List ℕ) (wanted : FieldDefinitionTree U) → over.field m ≡ Some wanted → (has : FieldDefinitionTree U) → t.field m ≡ Some has → IsValidImplementationField s has wanted
        implemented m wanted w has g = record {
          arguments = λ x c. let (j, at) = index_found wanted.arguments x c in
              let (v, is) = there (named input_name has.arguments (input_name x)) (is_there (named input_name has.arguments (input_name x)) (λ none.
              interfaced _ (inr (inr (inr (inr (inr (inl (n, (t, (e, (i, (a, (over, (f, (k, (m, (wanted, (w, (has, (g, (j, (x, (at, (lacks_found input_name has.arguments (input_name x) none, refl))))))))))))))))))))))))) in
              let (l, (at_l, (same, first))) = found_index input_name has.arguments (input_name x) v is in (
                v,
                (
                  is,
                  stable (type_or_not x.it.ty.it v.it.ty.it) (λ out.
                      interfaced _ (inr (inr (inr (inr (inr (inr (inl (n, (t, (e, (i, (a, (over, (f, (k, (m, (wanted, (w, (has, (g, (j, (x, (at, (l, (v, (at_l, (same, (first, (out, refl)))))))))))))))))))))))))))))),
                ),
              );
          additional = λ x c none. let (j, at) = index_found has.arguments x c in is_false (is_required_input x.it) (λ required.
              interfaced _ (inr (inr (inr (inr (inr (inr (inr (n, (t, (e, (i, (a, (over, (f, (k, (m, (wanted, (w, (has, (g, (j, (x, (at, (lacks_found input_name wanted.arguments (input_name x) none, (required, refl))))))))))))))))))))))))));
          field_type = is_true (is_valid_type s wanted.ty has.ty) (λ out. interfaced _ (inr (inr (inr (inr (inl (n, (t, (e, (i, (a, (over, (f, (k, (m, (wanted, (w, (has, (g, (out, refl))))))))))))))))))));
        }

        implementation_valid : IsValidImplementation s t over
        implementation_valid = record {
          interfaces = λ j b. is_true (t.implements j) (λ out. interfaced _ (inr (inr (inl (n, (t, (e, (i, (a, (over, (f, (k, (j, (b, (out, refl)))))))))))))));
          fields = λ m wanted w.
              let (has, g) = there (t.field m) (is_there (t.field m) (λ none. interfaced _ (inr (inr (inr (inl (n, (t, (e, (i, (a, (over, (f, (k, (m, (wanted, (w, (none, refl)))))))))))))))))) in
              (has, (g, implemented m wanted w has g));
        }

      type_valid : IsValidType s n t
      type_valid = record {
        allowed = name_allowed (TypeAt n) n (λ outside r. reserved _ (inl (n, (t, (e, (outside, (r, refl)))))));
        parts = parts t.kind refl;
        fields = field;
        implements = λ i a. let (u, (f, k)) = stable (present (λ u. u.kind ≡ kind.Interface) (s.type_named i) (λ u is. kind_or_not u.kind kind.Interface)) (λ out. interfaced _ (inl (n, (t, (e, (i, (a, (out, refl)))))))) in
            (u, (f, (k, implementation_valid i a u f k)));
        not_itself = λ k. is_false (t.implements n) (λ a. interfaced _ (inr (inl (n, (t, (e, (k, (a, refl))))))));
        members = λ m a. is_of kind.Object m (λ none. member_known _ (n, (t, (e, (m, (a, (none, refl))))))) (λ u is out. member_object _ (n, (t, (e, (m, (a, (u, (is, (out, refl)))))))));
        values = λ m v a. record {
          allowed = name_allowed (ValueAt n m) m (λ outside r. reserved _ (inr (inr (inr (inr (inr (n, (t, (e, (m, (v, (a, (outside, (r, refl))))))))))))));
          directives = quiet_applied s location.EnumValue (applied_directives v.directives) (ValueAt n m) (λ fault b. used_well fault (inr (inr (inr (inr (inl (n, (t, (e, (m, (v, (a, b))))))))))));
        };
        inputs = λ m v a. record {
          allowed = name_allowed (InputAt n m) m (λ outside r. reserved _ (inr (inr (inr (inr (inl (n, (t, (e, (m, (v, (a, (outside, (r, refl))))))))))))));
          input_type = of_kind scalars is_input_kind (named_in v.ty.it)
              (λ none out. input_known _ (inr (n, (t, (e, (m, (v, (a, (none, (out, refl))))))))))
              (λ u is out. input_fits _ (inr (n, (t, (e, (m, (v, (a, (u, (is, (out, refl)))))))))));
          directives = quiet_applied s location.InputFieldDefinition (applied_directives v.directives) (InputAt n m) (λ fault b. used_well fault (inr (inr (inr (inr (inr (inl (n, (t, (e, (m, (v, (a, b)))))))))))));
        };
        acyclic = λ c. let l = leads_back (RefersToInput s) (Requires s) (input_back s) n n c in no_cycle _ (inl (n, (l.0, (l.1.0, (l.1.1, refl)))));
        directives = λ out. quiet_applied s (type_location t.kind) t.directives (TypeAt n) (λ fault b. used_well fault (inr (inl (n, (t, (e, (out, b)))))));
      }

    pub quiet_valid : IsValidSchema s
    quiet_valid = record {
      roots = record {
        query = is_there s.definition.query (λ none. query_given _ (none, refl));
        objects = λ o n is. is_of kind.Object n (λ none. root_there _ (o, (n, (is, (none, refl))))) (λ t e out. root_object _ (o, (n, (is, (t, (e, (out, refl)))))));
        different = unique_from (λ r. r.1) (root_types_in s.definition) (λ r. roots_differ _ (r.0, (r.1.0, (r.1.1.0, (r.1.1.1.0, (r.1.1.1.1.0, (r.1.1.1.1.1.0, (r.1.1.1.1.1.1.0, (r.1.1.1.1.1.1.1.0, (r.1.1.1.1.1.1.1.1.0, refl))))))))));
        directives = quiet_applied s location.Schema s.definition.directives SchemaAt (λ fault b. used_well fault (inl b));
      };
      types = type_valid;
      directives = λ n d e. record {
        allowed = name_allowed (DirectiveDefinitionAt n) n (λ outside r. reserved _ (inr (inl (n, (d, (e, (outside, (r, refl))))))));
        arguments = directive_arguments n d e;
        acyclic = λ c. let l = leads_back (Refers s) (References s) (reference_back s) (ADirective n) (ADirective n) c in no_cycle _ (inr (n, (l.0, (l.1.0, (l.1.1, refl)))));
        directives = λ outside. quiet_applied s location.DirectiveDefinition (applied_directives d.directives) (DirectiveDefinitionAt n)
            (λ fault b. used_well fault (inr (inr (inr (inr (inr (inr (n, (d, (e, (outside, b)))))))))));
      };
    }

pub schema_rules_hold : SchemaRulesHoldByTheBook
schema_rules_hold s scalars = (valid_quiet s, quiet_valid s scalars)
