use Rattle.std.proofs.Common.{◌≡◌, ◌∙◌, ◌++◌, Bool, true, false, List, refl, ap, sym, subst, true≢false}
use Rattle.std.proofs.lemmas.Result.{on_ok_weaker}
use Rattle.rule_field_groups.specs.in_sets.in_reach.Broken.{brokens_of}
use Rattle.rule_field_groups.specs.in_document_definitions.ReadFields.{ReadField}
use Rattle.rule_field_groups.specs.in_sets.declared.member.Member.{Member}
use Rattle.rule_field_groups.specs.in_sets.declared.field_sets.FieldSets.{FieldSets}
use Rattle.rule_field_groups.specs.in_sets.Nodes.{AreSets, HasMember}
use Rattle.rule_field_groups.proofs.in_sets.Among.{one_number}
use Rattle.rule_field_groups.specs.Members.{contents_of, contents_of_two}
use Rattle.rule_field_groups.specs.Under.{sets_in}
use Rattle.rule_field_groups.specs.MergeState.{Kept, account_of, kept_of, remembered, Remembers}
use Rattle.rule_merging.specs.Examined.{schema_of, document_of, sets_of}
use Rattle.rule_merging.specs.Twos.{are_two, IsListOf, IsListOfTwo}
use Rattle.rule_field_groups.specs.declared.merge_state.MergeState.{MergeState}
use Rattle.rule_merging.proofs.Pairing.{PairedTold, paired_apart, paired_known, paired_now, by_contents, members_of_two, read_of_two, some_list}
use Rattle.rule_merging.proofs.Joining.{together_so, so_together, is_list_of_two, all_together}
use Rattle.rule_merging.proofs.Counting.{grows_not, grows_same, grows_two}
use Rattle.rule_merging.proofs.examination.Examination.examine_two_fields.Goals as goal

-- a list by numbers is one by contents
as_contents : (w : FieldSets) → AreSets w → (one other : Member) → HasMember w one → HasMember w other → (list : List Member) → IsListOfTwo one other list → IsListOf one other list
as_contents w are one other a b list two = by_contents one other list (one_number w are one other a b).0 (one_number w are one other a b).1 two

-- a list that is remembered, by what is read of it
read_so : (one other : Member) (list : List Member) (old new : Kept) (is_new : Bool) → IsListOfTwo one other list → Remembers old (contents_of_two one other) is_new new → Remembers old (contents_of list) is_new new
read_so one other list old new is_new two h = subst (λ (l : List ReadField). Remembers old l is_new new) (sym (read_of_two one other list two)) h

-- where no list comes, nothing is counted
same_account : (w : FieldSets) (old new : MergeState) → account_of w new ≡ record (account_of w old) { lists = remembered w new } → kept_of w new ≡ kept_of w old → account_of w new ≡ account_of w old
same_account w old new is same = is ∙ ap (λ (k : Kept). record (account_of w old) { lists = k.lists }) same

pub returns-then-not-go_together-clause-examined : goal.returns-then-not-go_together-clause-examined
returns-then-not-go_together-clause-examined c =
    let e = c.args.self.now in
    let w = sets_of e in
    paired_apart e.pass (schema_of e) (document_of e) c.args.one.now c.args.other.now (kept_of w c.args.examined.now) (brokens_of c.args.breaches.now) (sets_in w c.args.examined.now.next)
    (λ t. true≢false (sym (c.go_together.ensures.1 (so_together w c.requires.sets.are (schema_of e) c.requires.sets.schema c.args.one.now c.args.other.now c.requires.one c.requires.other e.pass t)) ∙ c.if-not-go_together.true))

pub returns-then-not-go_together-clause-counted : goal.returns-then-not-go_together-clause-counted
returns-then-not-go_together-clause-counted c = grows_not (document_of c.args.self.now) _ c.args.self.now.pass (account_of (sets_of c.args.self.now) c.args.examined.now)

pub returns-in_err-remember_two-clause-counted : goal.returns-in_err-remember_two-clause-counted
returns-in_err-remember_two-clause-counted c =
    let e = c.args.self.now in
    let w = sets_of e in
    grows_same (document_of e) _ e.pass (account_of w c.args.examined.now) (account_of w c.remember_two.new.self)
    (same_account w c.args.examined.now c.remember_two.new.self (c.in_err-remember_two.ensures.account w) (c.in_err-remember_two.ensures.refused w))

pub returns-then-not-branch-clause-examined : goal.returns-then-not-branch-clause-examined
returns-then-not-branch-clause-examined c =
    let e = c.args.self.now in
    let w = sets_of e in
    let one = c.args.one.now in
    let other = c.args.other.now in
    let old = kept_of w c.args.examined.now in
    let new = kept_of w c.remember_two.new.self in
    let list = some_list one other in
    let known : Remembers old (contents_of list.0) false new = read_so one other list.0 old new false list.1
    (subst (λ b. Remembers old (contents_of_two one other) b new) c.if-not-branch.true (c.in_ok-remember_two.ensures.remembers w c.requires.sets.are c.requires.one c.requires.other)) in
    let told = brokens_of c.args.breaches.now in
    let next = sets_in w c.args.examined.now.next in
    subst (PairedTold e.pass (schema_of e) (document_of e) (are_two one other) old new told told next) (sym (c.in_ok-remember_two.ensures.next w))
    (paired_known e.pass (schema_of e) (document_of e) one other list.0 (as_contents w c.requires.sets.are one other c.requires.one c.requires.other list.0 list.1) old new told next known)

pub returns-then-not-branch-clause-counted : goal.returns-then-not-branch-clause-counted
returns-then-not-branch-clause-counted c =
    let e = c.args.self.now in
    let w = sets_of e in
    let old = kept_of w c.args.examined.now in
    let new = kept_of w c.remember_two.new.self in
    let known : Remembers old (contents_of_two c.args.one.now c.args.other.now) false new = subst (λ b. Remembers old (contents_of_two c.args.one.now c.args.other.now) b new) c.if-not-branch.true
    (c.in_ok-remember_two.ensures.remembers w c.requires.sets.are c.requires.one c.requires.other) in
    grows_same (document_of e) _ e.pass (account_of w c.args.examined.now) (account_of w c.remember_two.new.self)
    (same_account w c.args.examined.now c.remember_two.new.self (c.in_ok-remember_two.ensures.account w) known.1)

pub examine_together-requires-clause-members : goal.examine_together-requires-clause-members
examine_together-requires-clause-members c =
    members_of_two (sets_of c.args.self.now) c.args.one.now c.args.other.now c.list_of_two-fields.result.now c.requires.one c.requires.other (is_list_of_two c.args.one.now c.args.other.now c.list_of_two-fields.result.now c.list_of_two-fields.ensures)

pub examine_together-requires-clause-together : goal.examine_together-requires-clause-together
examine_together-requires-clause-together c =
    let e = c.args.self.now in
    let s = schema_of e in
    let one = c.args.one.now in
    let other = c.args.other.now in
    all_together e.pass s one other c.list_of_two-fields.result.now (is_list_of_two one other c.list_of_two-fields.result.now c.list_of_two-fields.ensures)
    (together_so (sets_of e) c.requires.sets.are s c.requires.sets.schema one other c.requires.one c.requires.other e.pass (c.go_together.ensures.0 c.if-not-go_together.false))

pub returns-clause-examined : goal.returns-clause-examined
returns-clause-examined c =
    let e = c.args.self.now in
    let w = sets_of e in
    let one = c.args.one.now in
    let other = c.args.other.now in
    let list = c.list_of_two-fields.result.now in
    let old = kept_of w c.args.examined.now in
    let new = kept_of w c.remember_two.new.self in
    let two : IsListOfTwo one other list = is_list_of_two one other list c.list_of_two-fields.ensures in
    let fresh : Remembers old (contents_of list) true new = read_so one other list old new true two
    (subst (λ b. Remembers old (contents_of_two one other) b new) c.if-not-branch.false (c.in_ok-remember_two.ensures.remembers w c.requires.sets.are c.requires.one c.requires.other)) in
    on_ok_weaker c.examine_together.result
    (λ h. (
      h.0,
      (
        h.1.0,
        (
          h.1.1.0,
          (
            h.1.1.1.0 ∙ ap (λ n. n ++ h.1.0) (c.in_ok-remember_two.ensures.next w),
            paired_now e.pass (schema_of e) (document_of e) one other list (as_contents w c.requires.sets.are one other c.requires.one c.requires.other list two) old new h.0 h.1.0 fresh h.1.1.1.1,
          ),
        ),
      ),
    ))
    c.examine_together.ensures.examined

pub returns-clause-counted : goal.returns-clause-counted
returns-clause-counted c =
    let e = c.args.self.now in
    let w = sets_of e in
    let one = c.args.one.now in
    let other = c.args.other.now in
    let list = c.list_of_two-fields.result.now in
    let old = kept_of w c.args.examined.now in
    let new = kept_of w c.remember_two.new.self in
    let two : IsListOfTwo one other list = is_list_of_two one other list c.list_of_two-fields.ensures in
    let fresh : Remembers old (contents_of list) true new = read_so one other list old new true two
    (subst (λ b. Remembers old (contents_of_two one other) b new) c.if-not-branch.false (c.in_ok-remember_two.ensures.remembers w c.requires.sets.are c.requires.one c.requires.other)) in
    grows_two (document_of e) e.pass one other list fresh.1.0 (account_of w c.args.examined.now) (account_of w c.remember_two.new.self) _
    (as_contents w c.requires.sets.are one other c.requires.one c.requires.other list two) fresh.1.1.1.0 fresh.0 fresh.1.1.1.1.0 (c.in_ok-remember_two.ensures.account w) c.examine_together.ensures.more c.examine_together.ensures.counted refl
