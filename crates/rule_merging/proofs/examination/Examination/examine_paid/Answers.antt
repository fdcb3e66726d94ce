use Rattle.std.proofs.Common.{◌≡◌, ◌∙◌, ◌∷◌, ◌++◌, [], true, false, refl, ap, sym, subst, append-nil}
use Rattle.std.specs.Prelude.{Some, is_some}
use Rattle.std.proofs.lemmas.Result.{on_ok_weaker}
use Rattle.rule_field_groups.specs.in_sets.in_reach.Broken.{brokens_of}
use Rattle.rule_field_groups.specs.Members.{contents_of, meant_sets, AreMembersOf}
use Rattle.rule_field_groups.specs.Below.{IsMergedIn, IsPartOfMergedIn}
use Rattle.rule_field_groups.specs.Paid.{Pays, IsPaidIf}
use Rattle.rule_merging.specs.Counted.{AreLast, AreListed}
use Rattle.rule_field_groups.specs.MergeState.{Kept, account_of, kept_of, Remembers, RemembersPaid}
use Rattle.rule_field_groups.specs.Under.{sets_in}
use Rattle.rule_merging.specs.Examined.{schema_of, document_of, sets_of}
use Rattle.rule_merging.proofs.Examining.{SetsTold, new_fields, known_fields}
use Rattle.rule_merging.proofs.Counting.{grows_on, grows_given, grows_paying, grows_paid, part_listed_fields}
use Rattle.rule_merging.proofs.examination.Examination.examine_paid.Goals as goal

pub returns-in_err-remember_paid-clause-counted : goal.returns-in_err-remember_paid-clause-counted
returns-in_err-remember_paid-clause-counted c =
    let e = c.args.self.now in
    let d = document_of e in
    let w = sets_of e in
    let has = c.requires.sets in
    let sets = meant_sets w c.args.nodes.now in
    let items = c.in_ok-list.list.members.items in
    let old = account_of w c.args.examined.now in
    let new = account_of w c.remember_paid.new.self in
    let part = c.in_ok-list.ensures.part d (sym has.fragments) in
    grows_given d (λ os. AreLast d os (contents_of items)) (λ os. AreListed d os (sets ∷ [])) (λ os. part_listed_fields d os sets items part) e.pass old new
    (grows_paying d e.pass (contents_of items) old new (ap (λ (k : Kept). k.lists) (c.in_err-remember_paid.ensures.refused w)) (c.in_err-remember_paid.ensures.pays w has.are c.in_ok-list.ensures.members))

pub examine_unpaid-requires-clause-members : goal.examine_unpaid-requires-clause-members
examine_unpaid-requires-clause-members c = c.in_ok-list.ensures.members

pub examine_unpaid-requires-clause-whole : goal.examine_unpaid-requires-clause-whole
examine_unpaid-requires-clause-whole c = λ whole. c.in_ok-list.ensures.whole whole (document_of c.args.self.now) (sym c.requires.sets.fragments)

pub returns-in-None-clause-examined : goal.returns-in-None-clause-examined
returns-in-None-clause-examined c =
    let e = c.args.self.now in
    let w = sets_of e in
    let has = c.requires.sets in
    let told = brokens_of c.args.breaches.now in
    let later = brokens_of c.examine_unpaid.new.breaches in
    let old = kept_of w c.args.examined.now in
    let mid = kept_of w c.remember_paid.new.self in
    let new = kept_of w c.examine_unpaid.new.examined in
    let last = sets_in w c.examine_unpaid.new.examined.next in
    let lists = meant_sets w c.args.nodes.now ∷ [] in
    let same : mid ≡ old = subst (λ o. RemembersPaid old (contents_of c.in_ok-list.list.members.items) o mid) c.in-None.is (c.in_ok-remember_paid.ensures.remembers w has.are c.in_ok-list.ensures.members) in
    on_ok_weaker c.examine_unpaid.result
    (λ h. subst (λ (k : Kept). SetsTold e.pass (schema_of e) (document_of e) told later k new (sets_in w c.args.examined.now.next) last lists) same
    (subst (λ n. SetsTold e.pass (schema_of e) (document_of e) told later mid new n last lists) (c.in_ok-remember_paid.ensures.next w) h))
    c.examine_unpaid.ensures.examined

pub returns-in-None-clause-counted : goal.returns-in-None-clause-counted
returns-in-None-clause-counted c =
    let e = c.args.self.now in
    let d = document_of e in
    let w = sets_of e in
    let has = c.requires.sets in
    let sets = meant_sets w c.args.nodes.now in
    let items = c.in_ok-list.list.members.items in
    let old = account_of w c.args.examined.now in
    let mid = account_of w c.remember_paid.new.self in
    let part = c.in_ok-list.ensures.part d (sym has.fragments) in
    let same : kept_of w c.remember_paid.new.self ≡ kept_of w c.args.examined.now =
    subst (λ o. RemembersPaid (kept_of w c.args.examined.now) (contents_of items) o (kept_of w c.remember_paid.new.self)) c.in-None.is (c.in_ok-remember_paid.ensures.remembers w has.are c.in_ok-list.ensures.members) in
    grows_on d (λ os. AreListed d os (sets ∷ [])) e.pass old mid (account_of w c.examine_unpaid.new.examined)
    (grows_given d (λ os. AreLast d os (contents_of items)) (λ os. AreListed d os (sets ∷ [])) (λ os. part_listed_fields d os sets items part) e.pass old mid
    (grows_paying d e.pass (contents_of items) old mid (ap (λ (k : Kept). k.lists) same) (c.in_ok-remember_paid.ensures.pays w has.are c.in_ok-list.ensures.members)))
    c.examine_unpaid.ensures.counted

pub returns-in-Some-false-clause-examined : goal.returns-in-Some-false-clause-examined
returns-in-Some-false-clause-examined c =
    let e = c.args.self.now in
    let d = document_of e in
    let w = sets_of e in
    let has = c.requires.sets in
    let sets = meant_sets w c.args.nodes.now in
    let items = c.in_ok-list.list.members.items in
    let old = kept_of w c.args.examined.now in
    let new = kept_of w c.remember_paid.new.self in
    let is = c.in-Some-false.is ∙ ap (λ b. Some b) c.in-Some-false.field-0-test in
    let merged = c.in_ok-list.ensures.whole (c.in_ok-remember_paid.ensures.whole (ap is_some is)) d (sym has.fragments) in
    let known : Remembers old (contents_of items) false new =
    subst (λ o. RemembersPaid old (contents_of items) o new) is (c.in_ok-remember_paid.ensures.remembers w has.are c.in_ok-list.ensures.members) in (
      [],
      (
        [],
        (
          sym (append-nil (brokens_of c.args.breaches.now)),
          (
            c.in_ok-remember_paid.ensures.next w ∙ sym (append-nil (sets_in w c.args.examined.now.next)),
            known_fields e.pass (schema_of e) d sets items old new merged known,
          ),
        ),
      ),
    )

pub returns-in-Some-false-clause-counted : goal.returns-in-Some-false-clause-counted
returns-in-Some-false-clause-counted c =
    let e = c.args.self.now in
    let d = document_of e in
    let w = sets_of e in
    let has = c.requires.sets in
    let sets = meant_sets w c.args.nodes.now in
    let items = c.in_ok-list.list.members.items in
    let old = account_of w c.args.examined.now in
    let new = account_of w c.remember_paid.new.self in
    let part = c.in_ok-list.ensures.part d (sym has.fragments) in
    let is = c.in-Some-false.is ∙ ap (λ b. Some b) c.in-Some-false.field-0-test in
    let known : Remembers (kept_of w c.args.examined.now) (contents_of items) false (kept_of w c.remember_paid.new.self) =
    subst (λ o. RemembersPaid (kept_of w c.args.examined.now) (contents_of items) o (kept_of w c.remember_paid.new.self)) is (c.in_ok-remember_paid.ensures.remembers w has.are c.in_ok-list.ensures.members) in
    grows_given d (λ os. AreLast d os (contents_of items)) (λ os. AreListed d os (sets ∷ [])) (λ os. part_listed_fields d os sets items part) e.pass old new
    (grows_paying d e.pass (contents_of items) old new (ap (λ (k : Kept). k.lists) known.1) (c.in_ok-remember_paid.ensures.pays w has.are c.in_ok-list.ensures.members))

pub examine_list-requires-clause-members : goal.examine_list-requires-clause-members
examine_list-requires-clause-members c = subst (AreMembersOf (sets_of c.args.self.now)) (sym c.deref.ensures.value) c.in_ok-list.ensures.members

pub returns-clause-examined : goal.returns-clause-examined
returns-clause-examined c =
    let e = c.args.self.now in
    let d = document_of e in
    let w = sets_of e in
    let has = c.requires.sets in
    let sets = meant_sets w c.args.nodes.now in
    let items = c.in_ok-list.list.members.items in
    let old = kept_of w c.args.examined.now in
    let new = kept_of w c.remember_paid.new.self in
    let is = c.in-Some-true.is ∙ ap (λ b. Some b) c.in-Some-true.field-0-test in
    let merged : IsMergedIn d sets c.deref.result.now = subst (IsMergedIn d sets) (sym c.deref.ensures.value)
    (c.in_ok-list.ensures.whole (c.in_ok-remember_paid.ensures.whole (ap is_some is)) d (sym has.fragments)) in
    let fresh : Remembers old (contents_of c.deref.result.now) true new = subst (λ l. Remembers old (contents_of l) true new) (sym c.deref.ensures.value)
    (subst (λ o. RemembersPaid old (contents_of items) o new) is (c.in_ok-remember_paid.ensures.remembers w has.are c.in_ok-list.ensures.members)) in
    on_ok_weaker c.examine_list.result
    (λ h. (
      h.0,
      (
        h.1.0,
        (
          h.1.1.0,
          (
            h.1.1.1.0 ∙ ap (λ n. n ++ h.1.0) (c.in_ok-remember_paid.ensures.next w),
            new_fields e.pass (schema_of e) d sets c.deref.result.now fresh.1.0 h.0 h.1.0 old new merged fresh.1.1.0 h.1.1.1.1 fresh.1.1.1.1.0 fresh.1.1.1.1.1,
          ),
        ),
      ),
    ))
    c.examine_list.ensures.examined

pub returns-clause-counted : goal.returns-clause-counted
returns-clause-counted c =
    let e = c.args.self.now in
    let d = document_of e in
    let w = sets_of e in
    let has = c.requires.sets in
    let sets = meant_sets w c.args.nodes.now in
    let items = c.deref.result.now in
    let old = account_of w c.args.examined.now in
    let mid = account_of w c.remember_paid.new.self in
    let same = sym c.deref.ensures.value in
    let is = c.in-Some-true.is ∙ ap (λ b. Some b) c.in-Some-true.field-0-test in
    let list : IsMergedIn d sets items = subst (IsMergedIn d sets) same
    (c.in_ok-list.ensures.whole (c.in_ok-remember_paid.ensures.whole (ap is_some is)) d (sym has.fragments)) in
    let part : IsPartOfMergedIn d sets items = record { within = list.within; apart = list.apart } in
    let fresh : Remembers (kept_of w c.args.examined.now) (contents_of items) true (kept_of w c.remember_paid.new.self) =
    subst (λ l. Remembers (kept_of w c.args.examined.now) (contents_of l) true (kept_of w c.remember_paid.new.self)) same
    (subst (λ o. RemembersPaid (kept_of w c.args.examined.now) (contents_of c.in_ok-list.list.members.items) o (kept_of w c.remember_paid.new.self)) is
    (c.in_ok-remember_paid.ensures.remembers w has.are c.in_ok-list.ensures.members)) in
    let paid : IsPaidIf true (contents_of items) old mid =
    subst (λ l. IsPaidIf true (contents_of l) old mid) same (subst (λ o. IsPaidIf (is_some o) (contents_of c.in_ok-list.list.members.items) old mid) is (c.in_ok-remember_paid.ensures.paid w)) in
    grows_given d (λ os. AreLast d os (contents_of items)) (λ os. AreListed d os (sets ∷ [])) (λ os. part_listed_fields d os sets items part) e.pass old _
    (grows_paid d e.pass items fresh.1.0 old mid _ (subst (λ l. Pays (contents_of l) old mid) same (c.in_ok-remember_paid.ensures.pays w has.are c.in_ok-list.ensures.members))
    (paid refl) list.apart (fresh.1.1.1.0 list.apart) fresh.0 fresh.1.1.1.1.0 c.examine_list.ensures.more c.examine_list.ensures.counted refl)
