-- What the rules of the program's arguments say of them, and of what clap reads.
use Rattle.std.proofs.Common.{ℕ, zero, suc, ◌≡◌, ◌∙◌, ◌<◌, ◌≤◌, ◌&&◌, Bool, true, false, not, refl, sym, ap, subst, List, [], ◌∷◌, map, length, Option, Some, None, is_some, inl, inr, codes, arith}
use Rattle.std.specs.Prelude.{option_map, slice_get, unwrap_or}
use Rattle.std.specs.List.{All, list_all, slice_index_or}
use Rattle.std.specs.Str.{bytes_eq}
use Rattle.std.proofs.Math.ListN.{get_or-map}
use Rattle.std.proofs.lemmas.List.{length-map}
use Rattle.std.proofs.lemmas.Slice.Eq.{bytes_eq-Decides}
use Rattle.std.specs.Borrow.{Bor}
use Rattle.clap.specs.Facts.{Entry, EntryPasses, HasReading, PassesArg, args_of, parser_of, parser_of_value, unwrap_or_range}
use Rattle.clap.specs.Built.{IsParsedFrom, IsPlain}
use Rattle.clap.specs.Matches.{first_value, found_of, matched_of, one_text}
use Rattle.clap.specs.Values.{Accepts, IsUnsignedIn, read_as, reading_of}
use Rattle.clap.specs.Walk.{Rule, is_empty, is_free_arg, is_simple_arg, rule_of}
use Rattle.clap.specs.Simple.{App, IsSimple, app_of, is_ready, is_ready_leaf}
use Rattle.clap.specs.declared.builder.action.ArgAction.TheVariants.{Set}
use Rattle.clap.specs.declared.builder.arg.Arg.{Arg}
use Rattle.clap.specs.declared.builder.command.Command.{Command}
use Rattle.clap.specs.declared.builder.command.Command.TheViews.{out-Command}
use Rattle.clap.specs.declared.builder.arg_group.ArgGroup.{ArgGroup}
use Rattle.clap.specs.declared.builder.value_parser.Reading.{Reading}
use Rattle.clap.specs.declared.builder.value_parser.Reading.TheVariants.{AsWritten}
use Rattle.clap.specs.declared.builder.value_parser.ValueParser.{ValueParser}
use Rattle.clap.specs.declared.builder.value_parser.ValueParser.TheVariants.{Unsigned}
use Rattle.clap.specs.declared.parser.matches.MatchedArg.{MatchedArg}
use Rattle.clap.specs.declared.parser.matches.ArgMatches.{ArgMatches}
use Rattle.clap.proofs.WalkLemmas.{both}
use Rattle.clap.proofs.SimpleLemmas.{is_nil, is_false, ready_simple, simple_groups, all_simple}
use Rattle.clap.proofs.CallerLemmas.{entry_by_id, required_has_value, same_rules_by_id}
use Rattle.checker_calls.specs.Program.{document_rule, nesting_rule, schemas_rule, program}

free_arg : (a : Arg) → is_free_arg a ≡ true → (a.exclusive ≡ false) × (a.conflicts.items ≡ [])
free_arg a e =
    let p = both _ _ e in
    let q = both _ _ p.1 in
    (is_false _ p.0, is_nil _ q.0)

last_of_ten : (a b c d e f g h i j : Bool) → (a && (b && (c && (d && (e && (f && (g && (h && (i && j))))))))) ≡ true → j ≡ true
last_of_ten a b c d e f g h i j all =
    (both i j (both h _ (both g _ (both f _ (both e _ (both d _ (both c _ (both b _ (both a _ all).1).1).1).1).1).1).1).1).1

local_simple : (a : Arg) → is_simple_arg a ≡ true → a.global ≡ false
local_simple a e = is_false a.global
    (last_of_ten (is_empty a.overrides.items) (is_empty a.default_vals_ifs.items) (is_empty a.groups.items) (not (is_some a.val_delim))
    (not (is_some a.terminator)) (not a.allow_hyphen_values) (not a.allow_negative_numbers) (not a.require_equals) (not a.last) (not a.global) e)

-- an argument whose rule is simple is not global
pub local_arg : (a : Arg) (r : Rule) → rule_of a ≡ r → r.is_simple ≡ true → a.global ≡ false
local_arg a r is simple = local_simple a (ap (λ (x : Rule). x.is_simple) is ∙ simple)

each_free : (xs : List Arg) → list_all (λ (r : Rule). r.is_free) (map rule_of xs) ≡ true → All (λ a. is_free_arg a ≡ true) xs
each_free [] e k d lt = absurd (omega arith)
each_free (x ∷ xs) e zero d lt = (both _ _ e).0
each_free (x ∷ xs) e (suc k) d lt = each_free xs (both _ _ e).1 k d (omega arith)

some_arg : (xs : List Arg) → 0 < length xs → Arg
some_arg [] lt = absurd (omega arith)
some_arg (x ∷ xs) lt = x

-- no other argument has the document's name, or that of the schemas, or of the nesting
abbrev ids_are : ValueParser → ℕ → Rule → List ℕ → Bool
ids_are names j r id = bytes_eq (slice_index_or (program names).top.rules j r).id id

only_document : (names : ValueParser) (j : ℕ) (r : Rule) → j < 4 → ids_are names j r (codes "DOCUMENT") ≡ true → j ≡ 2
only_document names zero r lt e = cc
only_document names (suc zero) r lt e = cc
only_document names (suc (suc zero)) r lt e = refl
only_document names (suc (suc (suc zero))) r lt e = cc
only_document names (suc (suc (suc (suc j)))) r lt e = absurd (omega arith)

only_schemas : (names : ValueParser) (j : ℕ) (r : Rule) → j < 4 → ids_are names j r (codes "SCHEMA") ≡ true → j ≡ 3
only_schemas names zero r lt e = cc
only_schemas names (suc zero) r lt e = cc
only_schemas names (suc (suc zero)) r lt e = cc
only_schemas names (suc (suc (suc zero))) r lt e = refl
only_schemas names (suc (suc (suc (suc j)))) r lt e = absurd (omega arith)

only_nesting : (names : ValueParser) (j : ℕ) (r : Rule) → j < 4 → ids_are names j r (codes "nesting") ≡ true → j ≡ 1
only_nesting names zero r lt e = cc
only_nesting names (suc zero) r lt e = refl
only_nesting names (suc (suc zero)) r lt e = cc
only_nesting names (suc (suc (suc zero))) r lt e = cc
only_nesting names (suc (suc (suc (suc j)))) r lt e = absurd (omega arith)

no_help : codes "nesting" ≡ codes "help" → ⊥
no_help e = cc

no_version : codes "nesting" ≡ codes "version" → ⊥
no_version e =
    let first : ◌≡◌ {A = ℕ} 110 118 = ap (λ (t : List ℕ). slice_index_or t 0 0) e in
    absurd (omega arith)

no_empty : codes "nesting" ≡ [] → ⊥
no_empty e = cc

module _ (c : Command) (names : ValueParser) (is : app_of c ≡ program names) where
  rules_are : map rule_of (args_of c) ≡ (program names).top.rules
  rules_are = ap (λ (a : App). a.top.rules) is

  four : length (args_of c) ≡ 4
  four = sym (length-map (args_of c) rule_of) ∙ ap length rules_are

  rule_at : (k : ℕ) (d : Arg) → rule_of (slice_index_or (args_of c) k d) ≡ slice_index_or (program names).top.rules k (rule_of d)
  rule_at k d = sym (get_or-map rule_of (args_of c) k d) ∙ ap (λ (rs : List Rule). slice_index_or rs k (rule_of d)) rules_are

  pub simple : IsSimple c
  simple = ready_simple c (ap (λ (a : App). is_ready a.top) is) (ap (λ (a : App). list_all is_ready_leaf a.subs) is)

  pub plain : IsPlain c
  plain = (
    λ k d lt.
        let free = free_arg (slice_index_or (args_of c) k d) (each_free (args_of c) (ap (λ (rs : List Rule). list_all (λ (r : Rule). r.is_free) rs) rules_are) k d lt) in
        (free.0, free.1, (simple.args k d lt).overrides, simple_groups c (ap all_simple rules_are) k d lt),
    simple.groups,
  )

  pub not_negating : (out-Command c).subcommand_negates_reqs ≡ false
  not_negating = ap (λ (a : App). a.top.subcommand_negates_reqs) is

  -- a required argument of one name has a value
  value_there : (m : ArgMatches) → IsParsedFrom c m → (k : ℕ) (d : Arg) → k < 4 → (r : Rule) → rule_of (slice_index_or (args_of c) k d) ≡ r
      → r.required ≡ true → r.action ≡ Some Set → 1 ≤ (unwrap_or_range r.range).start_inclusive
      → ((j : ℕ) (q : Rule) → j < 4 → bytes_eq (slice_index_or (program names).top.rules j q).id r.id ≡ true → j ≡ k)
      → (r.id ≡ [] → ⊥) → (r.id ≡ codes "help" → ⊥) → (r.id ≡ codes "version" → ⊥)
      → is_some (first_value (found_of m) r.id) ≡ true
  value_there m p k d lt r at required set least only named no_help no_version =
      let a = slice_index_or (args_of c) k d in
      let id : a.id.now ≡ r.id = ap (λ (x : Rule). x.id) at in
      let there : is_some (first_value (found_of m) a.id.now) ≡ true =
      required_has_value c m p plain simple.globals not_negating k d (rw four lt) (ap (λ (x : Rule). x.required) at ∙ required) (ap (λ (x : Rule). x.action) at ∙ set)
      (simple.args k d (rw four lt)).delimiter
      (subst (λ (x : Rule). 1 ≤ (unwrap_or_range x.range).start_inclusive) (sym at) least)
      (λ j e under same. only j (rule_of e) (rw (← four) under)
      (subst (λ (x : Rule). bytes_eq x.id r.id ≡ true) (rule_at j e) (subst (λ (x : List ℕ). bytes_eq (slice_index_or (args_of c) j e).id.now x ≡ true) id same)))
      (λ empty. named (sym id ∙ empty))
      (λ auto. elim auto [ inl h ↦ no_help (sym id ∙ h) | inr h ↦ no_version (sym id ∙ h) ]) in
      subst (λ (x : List ℕ). is_some (first_value (found_of m) x) ≡ true) id there

  any_arg : Arg
  any_arg = some_arg (args_of c) (rw four (omega arith))

  pub document_there : (m : ArgMatches) → IsParsedFrom c m → is_some (first_value (found_of m) (codes "DOCUMENT")) ≡ true
  document_there m p = value_there m p 2 any_arg (omega arith) document_rule (rule_at 2 any_arg) refl refl (omega arith) (only_document names) (λ e. cc) (λ e. cc) (λ e. cc)

  pub schemas_there : (m : ArgMatches) → IsParsedFrom c m → is_some (first_value (found_of m) (codes "SCHEMA")) ≡ true
  schemas_there m p = value_there m p 3 any_arg (omega arith) schemas_rule (rule_at 3 any_arg) refl refl (omega arith) (only_schemas names) (λ e. cc) (λ e. cc) (λ e. cc)

  -- what passed the parser of an argument of the nesting's name is a number from 1 to 1000
  accepted : (m : ArgMatches) (p : IsParsedFrom c m) (w : List ℕ) → PassesArg p.built (codes "nesting") w → IsUnsignedIn 1 1000 w
  accepted m p w pass =
      let a = slice_index_or (args_of c) 1 any_arg in
      let at : rule_of a ≡ nesting_rule = rule_at 1 any_arg in
      let id : a.id.now ≡ codes "nesting" = ap (λ (x : Rule). x.id) at in
      let s = same_rules_by_id c m p 1 any_arg (rw four (omega arith))
      (λ j e under same. only_nesting names j (rule_of e) (rw (← four) under)
      (subst (λ (x : Rule). bytes_eq x.id (codes "nesting") ≡ true) (rule_at j e) (subst (λ (x : List ℕ). bytes_eq (slice_index_or (args_of c) j e).id.now x ≡ true) id same)))
      (λ auto. elim auto [
        | inl h ↦ no_help (sym id ∙ h)
        | inr h ↦ no_version (sym id ∙ h)
      ])
      pass.0 pass.1 pass.2 pass.3 (subst (λ (x : List ℕ). bytes_eq pass.1.id.now x ≡ true) (sym id) pass.4.0) in
      let is_range : parser_of pass.1 ≡ Unsigned 1 1000 = ap parser_of_value (s.parser (Unsigned 1 1000) (ap (λ (x : Rule). x.parser) at)) in
      subst (λ (q : ValueParser). Accepts pass.1.ignore_case q w) is_range pass.4.1

  -- and is read as it was written
  read_plainly : (m : ArgMatches) (p : IsParsedFrom c m) (how : Reading) → HasReading p.built (codes "nesting") how → AsWritten ≡ how
  read_plainly m p how pass =
      let a = slice_index_or (args_of c) 1 any_arg in
      let at : rule_of a ≡ nesting_rule = rule_at 1 any_arg in
      let id : a.id.now ≡ codes "nesting" = ap (λ (x : Rule). x.id) at in
      let s = same_rules_by_id c m p 1 any_arg (rw four (omega arith))
      (λ j e under same. only_nesting names j (rule_of e) (rw (← four) under)
      (subst (λ (x : Rule). bytes_eq x.id (codes "nesting") ≡ true) (rule_at j e) (subst (λ (x : List ℕ). bytes_eq (slice_index_or (args_of c) j e).id.now x ≡ true) id same)))
      (λ auto. elim auto [
        | inl h ↦ no_help (sym id ∙ h)
        | inr h ↦ no_version (sym id ∙ h)
      ])
      pass.0 pass.1 pass.2 pass.3 (subst (λ (x : List ℕ). bytes_eq pass.1.id.now x ≡ true) (sym id) pass.4.0) in
      let is_range : parser_of pass.1 ≡ Unsigned 1 1000 = ap parser_of_value (s.parser (Unsigned 1 1000) (ap (λ (x : Rule). x.parser) at)) in
      sym (ap reading_of is_range) ∙ pass.4.1

  first_accepted : (m : ArgMatches) (p : IsParsedFrom c m) (vs : List (Bor (List ℕ))) (t : List ℕ) → All (λ v. PassesArg p.built (codes "nesting") v.now) vs
      → option_map (λ v. v.now) (slice_get vs 0) ≡ Some t → IsUnsignedIn 1 1000 t
  first_accepted m p [] t all e = cc
  first_accepted m p (v ∷ vs) t all e =
      let same : v.now ≡ t = ap (λ (o : Option (List ℕ)). unwrap_or o []) e in
      subst (λ (w : List ℕ). IsUnsignedIn 1 1000 w) same (accepted m p v.now (all 0 v (omega arith)))

  entry_accepted : (m : ArgMatches) (p : IsParsedFrom c m) (e : Entry) (x : MatchedArg) (t : List ℕ) → e.1 ≡ x → e.0.now ≡ codes "nesting" → EntryPasses p.built e
      → option_map (λ v. read_as x.reading v.now) (slice_get x.vals.items 0) ≡ Some t → IsUnsignedIn 1 1000 t
  entry_accepted m p e x t same key pass text =
      let no_group : e.1.is_group ≡ true → ⊥ = λ g. elim (pass.3 g) [
        | inl empty ↦ no_empty (sym key ∙ empty)
        | inr has ↦
            let bad : 0 < 0 = subst (λ (gs : List ArgGroup). 0 < length gs) (p.from.plain plain).1 has in
            absurd (omega arith)
      ] in
      let all : All (λ v. PassesArg p.built (codes "nesting") v.now) x.vals.items = elim pass.0 [
        | inl g ↦ absurd (no_group g)
        | inr vals ↦ subst (λ (w : List ℕ). All (λ v. PassesArg p.built w v.now) x.vals.items) key (subst (λ (y : MatchedArg). All (λ v. PassesArg p.built e.0.now v.now) y.vals.items) same vals)
      ] in
      let how : AsWritten ≡ x.reading = elim pass.4 [
        | inl g ↦ absurd (no_group g)
        | inr h ↦ read_plainly m p e.1.reading (subst (λ (w : List ℕ). HasReading p.built w e.1.reading) key h) ∙ ap (λ (y : MatchedArg). y.reading) same
      ] in
      first_accepted m p x.vals.items t all (subst (λ (r : Reading). option_map (λ v. read_as r v.now) (slice_get x.vals.items 0) ≡ Some t) (sym how) text)

  -- the text of the nesting is a number from 1 to 1000
  pub nesting_accepted : (m : ArgMatches) → IsParsedFrom c m → (t : List ℕ) → one_text (found_of m) (codes "nesting") ≡ Some t → IsUnsignedIn 1 1000 t
  nesting_accepted m p t text = go (matched_of (found_of m) (codes "nesting")) refl text
    where
      go : (o : Option MatchedArg) → matched_of (found_of m) (codes "nesting") ≡ o → one_text (found_of m) (codes "nesting") ≡ Some t → IsUnsignedIn 1 1000 t
      go None e h =
          let bad : None ≡ Some t = rw e at h in
          cc
      go (Some x) e h =
          let got = entry_by_id (EntryPasses p.built) (found_of m).entries.items (codes "nesting") x (p.parsed (p.from.globals ∙ simple.globals)).values e in
          entry_accepted m p got.0 x t got.1 ((bytes_eq-Decides got.0.0.now (codes "nesting")).0 got.2) got.3 (rw e at h)
