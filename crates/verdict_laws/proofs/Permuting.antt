-- Permutations that keep the order of what defines, or extends, the same are what lists are rearranged by.
use Rattle.std.proofs.Common.{◌≡◌, ℕ, Bool, true, false, ◌&&◌, ◌||◌, cond, List, [], ◌∷◌, ◌++◌, filter, bytes_eq, is_some, refl, sym, ap, subst, ◌∙◌, Option, None, Some, true≢false}
use Rattle.std.specs.List.{list_any, AllByRecursion}
use Rattle.std.specs.Option.{option_map_or}
use Rattle.std.proofs.lemmas.List.Elements.{filter-append}
use Rattle.std.proofs.lemmas.List.Folds.{list_any-append}
use Rattle.std.proofs.lemmas.Slice.Eq.{bytes_eq-Decides}
use Rattle.graphql_names.specs.Placed.{Place, Placed}
use Rattle.schema_fold.specs.in_directives.DirectiveTree.{DirectiveDefinitionTree}
use Rattle.schema_fold.specs.in_definitions.DefinitionTree as tree
use Rattle.schema_fold.specs.in_definitions.DefinitionTree.{DefinitionTree, unplaced_definition, unplaced_document}
use Rattle.schema_fold.specs.in_definitions.Queries.{is_executable}
use Rattle.schema_fold.specs.in_schema_types.TypeParts.{TypeParts, TypeDefinition, type_here, type_extension_here}
use Rattle.schema_fold.specs.NumberedDefinition.{Definitions, type_name, directive_here, directive_name}
use Rattle.schema_fold.specs.SchemaFold.{schema_here, schema_extension_here}
use Rattle.verdict_laws.specs.RearrangedLists.{defines_type, extends_type, defines_directive, defines_schema, is_schema_extension, AgreeOn, IsRearranged}
use Rattle.verdict_laws.specs.Permuting.{CanPass, IsPermuted, nothing, next, PermutedIsRearranged, RearrangedIsPermuted, RearrangingIsAnEquivalence}
use Rattle.verdict_laws.proofs.Moved.{found}
use Rattle.verdict_laws.proofs.RearrangedLists.{itself, turned, rearranged_joined, cut}

-- ---- an equivalence

followed : (ds es fs : Definitions) → IsRearranged ds es → IsRearranged es fs → IsRearranged ds fs
followed ds es fs r q = record {
  types = λ n. r.types n ∙ q.types n;
  extensions = λ n. r.extensions n ∙ q.extensions n;
  directives = λ n. r.directives n ∙ q.directives n;
  schemas = r.schemas ∙ q.schemas;
  schema_extensions = r.schema_extensions ∙ q.schema_extensions;
  executables = r.executables ∙ q.executables;
}

pub equivalence : RearrangingIsAnEquivalence
equivalence = record { reflexive = itself; symmetric = turned; transitive = followed }

-- ---- a definition that is taken out

module _ (d : DefinitionTree Place) (back : Definitions) where
  module _ (sort : DefinitionTree Place → Bool) (apart : (f : DefinitionTree Place) → CanPass f d → (sort f && sort d) ≡ false) where
    none_before : (front : Definitions) → AllByRecursion (λ f. CanPass f d) front → sort d ≡ true → filter sort front ≡ []
    none_before [] pass is = refl
    none_before (f ∷ front) pass is = ap (λ b. cond b (f ∷ filter sort front) (filter sort front)) (not_both (sort f) (sort d) is (apart f pass.0)) ∙ none_before front pass.1 is
      where
        not_both : (a b : Bool) → b ≡ true → (a && b) ≡ false → a ≡ false
        not_both true b t h = absurd (true≢false (sym t ∙ h))
        not_both false b t h = refl

    agree_taken : (front : Definitions) → AllByRecursion (λ f. CanPass f d) front → AgreeOn sort (front ++ d ∷ back) (d ∷ (front ++ back))
    agree_taken front pass = ap unplaced_document (filter-append sort front (d ∷ back) ∙ by (sort d) refl ∙ sym (ap (λ l. cond (sort d) (d ∷ l) l) (filter-append sort front back)))
      where
        by : (b : Bool) → sort d ≡ b → filter sort front ++ cond b (d ∷ filter sort back) (filter sort back) ≡ cond b (d ∷ (filter sort front ++ filter sort back)) (filter sort front ++ filter sort back)
        by true is = ap (λ l. l ++ d ∷ filter sort back) (none_before front pass is) ∙ sym (ap (λ l. d ∷ (l ++ filter sort back)) (none_before front pass is))
        by false is = refl

  taken : (front : Definitions) → AllByRecursion (λ f. CanPass f d) front → IsRearranged (front ++ d ∷ back) (d ∷ (front ++ back))
  taken front pass = record {
    types = λ n. agree_taken (defines_type n) (λ f p. p.types n) front pass;
    extensions = λ n. agree_taken (extends_type n) (λ f p. p.extensions n) front pass;
    directives = λ n. agree_taken (defines_directive n) (λ f p. p.directives n) front pass;
    schemas = agree_taken defines_schema (λ f p. p.schemas) front pass;
    schema_extensions = agree_taken is_schema_extension (λ f p. p.schema_extensions) front pass;
    executables = list_any-append is_executable front (d ∷ back) ∙ by (list_any is_executable front) (is_executable d) ∙ sym (ap (λ b. is_executable d || b) (list_any-append is_executable front back));
  }
    where
      by : (a b : Bool) → (a || (b || list_any is_executable back)) ≡ (b || (a || list_any is_executable back))
      by true true = refl
      by true false = refl
      by false b = refl

pub permuted_rearranged : PermutedIsRearranged
permuted_rearranged ds es nothing = itself []
permuted_rearranged ds es (next front d back e rest pass same more) =
    followed (front ++ d ∷ back) (d ∷ (front ++ back)) (e ∷ rest) (taken d back front pass)
    (rearranged_joined (d ∷ []) (e ∷ []) (front ++ back) rest (cut (d ∷ []) (e ∷ []) (ap (λ u. u ∷ []) same)) (permuted_rearranged (front ++ back) rest more))

-- ---- what a definition must not pass

-- a sort that the definition has, where each that has it not may pass
record HasSort (d : DefinitionTree Place) : Type 0 where
  sort : DefinitionTree Place → Bool
  holds : sort d ≡ true
  agree : (ds es : Definitions) → IsRearranged ds es → AgreeOn sort ds es
  pass : (f : DefinitionTree Place) → sort f ≡ false → CanPass f d

and_false : (a b : Bool) → b ≡ false → (a && b) ≡ false
and_false true b h = h
and_false false b h = refl

not_here : {A : Type 0} (test : A → Bool) (o : Option A) → o ≡ None → (a : Bool) → (a && option_map_or test o false) ≡ false
not_here test o none a = and_false a (option_map_or test o false) (ap (λ x. option_map_or test x false) none)

not_some : {A : Type 0} (o : Option A) → o ≡ None → (a : Bool) → (a && is_some o) ≡ false
not_some o none a = and_false a (is_some o) (ap is_some none)

-- of another name, where that one has not this name
named_apart : {A : Type 0} (name : A → List ℕ) (o p : Option A) (x : A) → p ≡ Some x → option_map_or (λ a. bytes_eq (name x) (name a)) o false ≡ false → (m : List ℕ) → (option_map_or (λ a. bytes_eq m (name a)) o false && option_map_or (λ a. bytes_eq m (name a)) p false) ≡ false
named_apart name o p x is other m = ap (λ q. option_map_or (λ a. bytes_eq m (name a)) o false && option_map_or (λ a. bytes_eq m (name a)) q false) is ∙ by (bytes_eq m (name x)) refl
  where
    by : (b : Bool) → bytes_eq m (name x) ≡ b → (option_map_or (λ a. bytes_eq m (name a)) o false && b) ≡ false
    by true e = ap (λ n. option_map_or (λ a. bytes_eq n (name a)) o false && true) ((bytes_eq-Decides m (name x)).0 e) ∙ ap (λ b. b && true) other
    by false e = and_false (option_map_or (λ a. bytes_eq m (name a)) o false) false refl

named_here : {A : Type 0} (name : A → List ℕ) (o : Option A) (x : A) → o ≡ Some x → option_map_or (λ a. bytes_eq (name x) (name a)) o false ≡ true
named_here name o x is = ap (λ q. option_map_or (λ a. bytes_eq (name x) (name a)) q false) is ∙ (bytes_eq-Decides (name x) (name x)).1 refl

module _ (d : DefinitionTree Place) where
  of_type : (t : TypeDefinition Place) → type_here d ≡ Some t → type_extension_here d ≡ None → directive_here d ≡ None → schema_here d ≡ None → schema_extension_here d ≡ None → HasSort d
  of_type t is extends directs schema extends_it = record {
    sort = defines_type (type_name t);
    holds = named_here type_name (type_here d) t is;
    agree = λ ds es r. r.types (type_name t);
    pass = λ f other. record {
      types = named_apart type_name (type_here f) (type_here d) t is other;
      extensions = λ n. not_here (λ e. bytes_eq n e.name.it) (type_extension_here d) extends (extends_type n f);
      directives = λ n. not_here (λ x. bytes_eq n (directive_name x)) (directive_here d) directs (defines_directive n f);
      schemas = not_some (schema_here d) schema (defines_schema f);
      schema_extensions = not_some (schema_extension_here d) extends_it (is_schema_extension f);
    };
  }

  of_extension : (e : TypeParts Place) → type_here d ≡ None → type_extension_here d ≡ Some e → directive_here d ≡ None → schema_here d ≡ None → schema_extension_here d ≡ None → HasSort d
  of_extension e defines is directs schema extends_it = record {
    sort = extends_type e.name.it;
    holds = named_here (λ x. x.name.it) (type_extension_here d) e is;
    agree = λ ds es r. r.extensions e.name.it;
    pass = λ f other. record {
      types = λ n. not_here (λ t. bytes_eq n (type_name t)) (type_here d) defines (defines_type n f);
      extensions = named_apart (λ x. x.name.it) (type_extension_here f) (type_extension_here d) e is other;
      directives = λ n. not_here (λ x. bytes_eq n (directive_name x)) (directive_here d) directs (defines_directive n f);
      schemas = not_some (schema_here d) schema (defines_schema f);
      schema_extensions = not_some (schema_extension_here d) extends_it (is_schema_extension f);
    };
  }

  of_directive : (x : Placed Place (DirectiveDefinitionTree Place)) → type_here d ≡ None → type_extension_here d ≡ None → directive_here d ≡ Some x → schema_here d ≡ None → schema_extension_here d ≡ None → HasSort d
  of_directive x defines extends is schema extends_it = record {
    sort = defines_directive (directive_name x);
    holds = named_here directive_name (directive_here d) x is;
    agree = λ ds es r. r.directives (directive_name x);
    pass = λ f other. record {
      types = λ n. not_here (λ t. bytes_eq n (type_name t)) (type_here d) defines (defines_type n f);
      extensions = λ n. not_here (λ e. bytes_eq n e.name.it) (type_extension_here d) extends (extends_type n f);
      directives = named_apart directive_name (directive_here f) (directive_here d) x is other;
      schemas = not_some (schema_here d) schema (defines_schema f);
      schema_extensions = not_some (schema_extension_here d) extends_it (is_schema_extension f);
    };
  }

has_sort : (d : DefinitionTree Place) → is_executable d ≡ false → HasSort d
has_sort (tree.Operation p o) h = absurd (true≢false h)
has_sort (tree.Fragment p f) h = absurd (true≢false h)
has_sort (tree.DirectiveDefinition p x) h = of_directive (tree.DirectiveDefinition p x) _ refl refl refl refl refl
has_sort (tree.Schema p d s) h = record {
  sort = defines_schema;
  holds = refl;
  agree = λ ds es r. r.schemas;
  pass = λ f other. record {
    types = λ n. and_false (defines_type n f) false refl;
    extensions = λ n. and_false (extends_type n f) false refl;
    directives = λ n. and_false (defines_directive n f) false refl;
    schemas = ap (λ b. b && true) other;
    schema_extensions = and_false (is_schema_extension f) false refl;
  };
}
has_sort (tree.ExtendSchema p s) h = record {
  sort = is_schema_extension;
  holds = refl;
  agree = λ ds es r. r.schema_extensions;
  pass = λ f other. record {
    types = λ n. and_false (defines_type n f) false refl;
    extensions = λ n. and_false (extends_type n f) false refl;
    directives = λ n. and_false (defines_directive n f) false refl;
    schemas = and_false (defines_schema f) false refl;
    schema_extensions = ap (λ b. b && true) other;
  };
}
has_sort (tree.ScalarType p d t) h = of_type (tree.ScalarType p d t) _ refl refl refl refl refl
has_sort (tree.ObjectType p d t) h = of_type (tree.ObjectType p d t) _ refl refl refl refl refl
has_sort (tree.InterfaceType p d t) h = of_type (tree.InterfaceType p d t) _ refl refl refl refl refl
has_sort (tree.UnionType p d t) h = of_type (tree.UnionType p d t) _ refl refl refl refl refl
has_sort (tree.EnumType p d t) h = of_type (tree.EnumType p d t) _ refl refl refl refl refl
has_sort (tree.InputObjectType p d t) h = of_type (tree.InputObjectType p d t) _ refl refl refl refl refl
has_sort (tree.ExtendScalar p t) h = of_extension (tree.ExtendScalar p t) _ refl refl refl refl refl
has_sort (tree.ExtendObject p t) h = of_extension (tree.ExtendObject p t) _ refl refl refl refl refl
has_sort (tree.ExtendInterface p t) h = of_extension (tree.ExtendInterface p t) _ refl refl refl refl refl
has_sort (tree.ExtendUnion p t) h = of_extension (tree.ExtendUnion p t) _ refl refl refl refl refl
has_sort (tree.ExtendEnum p t) h = of_extension (tree.ExtendEnum p t) _ refl refl refl refl refl
has_sort (tree.ExtendInputObject p t) h = of_extension (tree.ExtendInputObject p t) _ refl refl refl refl refl

-- ---- definitions that are the same, apart from places

module _ (d e : DefinitionTree Place) (same : unplaced_definition d ≡ unplaced_definition e) where
  both : IsRearranged (d ∷ []) (e ∷ [])
  both = cut (d ∷ []) (e ∷ []) (ap (λ u. u ∷ []) same)

  sort_same : (sort : DefinitionTree Place → Bool) → AgreeOn sort (d ∷ []) (e ∷ []) → sort d ≡ sort e
  sort_same sort h = by (sort d) (sort e) h
    where
      by : (a b : Bool) → unplaced_document (cond a (d ∷ []) []) ≡ unplaced_document (cond b (e ∷ []) []) → a ≡ b
      by true true h = refl
      by true false h = cc
      by false true h = cc
      by false false h = refl

  pass_too : (f : DefinitionTree Place) → CanPass f e → CanPass f d
  pass_too f p = record {
    types = λ n. ap (λ b. defines_type n f && b) (sort_same (defines_type n) (both.types n)) ∙ p.types n;
    extensions = λ n. ap (λ b. extends_type n f && b) (sort_same (extends_type n) (both.extensions n)) ∙ p.extensions n;
    directives = λ n. ap (λ b. defines_directive n f && b) (sort_same (defines_directive n) (both.directives n)) ∙ p.directives n;
    schemas = ap (λ b. defines_schema f && b) (sort_same defines_schema both.schemas) ∙ p.schemas;
    schema_extensions = ap (λ b. is_schema_extension f && b) (sort_same is_schema_extension both.schema_extensions) ∙ p.schema_extensions;
  }

  abbrev rest_of : List (DefinitionTree (Unit {0})) → List (DefinitionTree (Unit {0}))
  rest_of [] = []
  rest_of (u ∷ us) = us

  agree_after : (sort : DefinitionTree Place → Bool) (ds es : Definitions) → AgreeOn sort (d ∷ []) (e ∷ []) → AgreeOn sort (d ∷ ds) (e ∷ es) → AgreeOn sort ds es
  agree_after sort ds es one h = by (sort d) (sort e) (sort_same sort one) h
    where
      by : (a b : Bool) → a ≡ b → unplaced_document (cond a (d ∷ filter sort ds) (filter sort ds)) ≡ unplaced_document (cond b (e ∷ filter sort es) (filter sort es)) → AgreeOn sort ds es
      by true true q h = ap rest_of h
      by true false q h = absurd (true≢false q)
      by false true q h = absurd (true≢false (sym q))
      by false false q h = h

  following : (ds es : Definitions) → list_any is_executable ds ≡ list_any is_executable es → IsRearranged (d ∷ ds) (e ∷ es) → IsRearranged ds es
  following ds es executables r = record {
    types = λ n. agree_after (defines_type n) ds es (both.types n) (r.types n);
    extensions = λ n. agree_after (extends_type n) ds es (both.extensions n) (r.extensions n);
    directives = λ n. agree_after (defines_directive n) ds es (both.directives n) (r.directives n);
    schemas = agree_after defines_schema ds es both.schemas r.schemas;
    schema_extensions = agree_after is_schema_extension ds es both.schema_extensions r.schema_extensions;
    executables = executables;
  }

-- ---- of lists that are rearranged

neither : (a b : Bool) → (a || b) ≡ false → (a ≡ false) × (b ≡ false)
neither true b h = absurd (true≢false h)
neither false b h = (refl, h)

none_left : (ds : Definitions) → list_any is_executable ds ≡ false → IsRearranged ds [] → IsPermuted ds []
none_left [] none r = nothing
none_left (d ∷ ds) none r =
    let s = has_sort d (neither (is_executable d) (list_any is_executable ds) none).0 in
    let empty : unplaced_document (d ∷ filter s.sort ds) ≡ [] = ap (λ b. unplaced_document (cond b (d ∷ filter s.sort ds) (filter s.sort ds))) (sym s.holds) ∙ s.agree (d ∷ ds) [] r in
    absurd cc

module _ (e d : DefinitionTree Place) (s : HasSort e) (same : unplaced_definition d ≡ unplaced_definition e) where
  all_pass : (front : Definitions) → unplaced_document (filter s.sort front) ≡ [] → AllByRecursion (λ f. CanPass f d) front
  all_pass [] h = tt
  all_pass (f ∷ front) h = by (s.sort f) refl h (all_pass front)
    where
      by : (b : Bool) → s.sort f ≡ b → unplaced_document (cond b (f ∷ filter s.sort front) (filter s.sort front)) ≡ [] → (unplaced_document (filter s.sort front) ≡ [] → AllByRecursion (λ f. CanPass f d) front) → AllByRecursion (λ f. CanPass f d) (f ∷ front)
      by true is h rest = absurd cc
      by false is h rest = (pass_too d e same f (s.pass f is), rest h)

permuted : (es ds : Definitions) → list_any is_executable ds ≡ false → IsRearranged ds es → IsPermuted ds es
permuted [] ds none r = none_left ds none r
permuted (e ∷ es) ds none r =
    let none_there = neither (is_executable e) (list_any is_executable es) (sym r.executables ∙ none) in
    let s = has_sort e none_there.0 in
    let p = found unplaced_definition s.sort ds [] (unplaced_definition e) (unplaced_document (filter s.sort es)) (s.agree ds (e ∷ es) r ∙ ap (λ b. unplaced_document (cond b (e ∷ filter s.sort es) (filter s.sort es))) s.holds) in
    let back : Definitions = p.stands.0 in
    let list : Definitions = p.front ++ p.it ∷ back in
    let others : Definitions = p.front ++ back in
    let is : ds ≡ list = p.stands.1 in
    let pass = all_pass e p.it s p.same p.front p.front_same in
    let out : IsRearranged list (p.it ∷ others) = taken p.it back p.front pass in
    let moved : IsRearranged (p.it ∷ others) (e ∷ es) = followed (p.it ∷ others) list (e ∷ es) (turned list (p.it ∷ others) out) (subst (λ l. IsRearranged l (e ∷ es)) is r) in
    let none_rest : list_any is_executable others ≡ false = (neither (is_executable p.it) (list_any is_executable others) (sym out.executables ∙ ap (list_any is_executable) (sym is) ∙ none)).1 in
    let rest : IsRearranged others es = following p.it e p.same others es (none_rest ∙ sym none_there.1) moved in
    subst (λ l. IsPermuted l (e ∷ es)) (sym is) (next p.front p.it back e es pass p.same (permuted es others none_rest rest))

pub rearranged_permuted : RearrangedIsPermuted
rearranged_permuted ds es none r = permuted es ds none r
