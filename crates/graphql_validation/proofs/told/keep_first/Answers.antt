use Rattle.std.proofs.Common.{◌-◌, ◌&&◌, map, length, ltb, ap, sym, ◌∙◌}
use Rattle.std.proofs.lemmas.List.{take-map, length-map}
use Rattle.fault_data.specs.FaultView.{fault_of, faults_of}
use Rattle.rule_definitions.specs.Room.{most_told}
use Rattle.rule_fragments.specs.in_reach.Broken.{broken_of, brokens_of}
use Rattle.graphql_validation.proofs.FirstTold.{kept_told}
use Rattle.graphql_validation.proofs.told.keep_first.Goals as goal

pub returns-then-is_passed : goal.returns-then-is_passed
returns-then-is_passed c =
    let room = most_told - c.len-room.result in
    let front = brokens_of c.truncate-2.new.self in
    kept_told most_told room (faults_of c.args.faults.now) (faults_of c.truncate.new.self) (brokens_of c.args.breaches.now) front c.args.is_passed _
    (ap (map fault_of) c.truncate.ensures.items ∙ sym (take-map fault_of most_told c.args.faults.now.items))
    (ap (λ k. most_told - k) (c.len-room.ensures ∙ c.truncate.new.self.ok.0 ∙ sym (length-map c.truncate.new.self.items fault_of)))
    (ap (map broken_of) c.truncate-2.ensures.items ∙ sym (take-map broken_of room c.args.breaches.now.items))
    (ap (λ k. ltb k room) (c.len.ensures ∙ c.truncate-2.new.self.ok.0 ∙ sym (length-map c.truncate-2.new.self.items broken_of)) ∙ ap (λ b. b && ltb (length front) room) (sym c.if-is_passed.true))

pub returns-else-is_passed : goal.returns-else-is_passed
returns-else-is_passed c =
    let room = most_told - c.len-room.result in
    let front = brokens_of c.truncate-2.new.self in
    kept_told most_told room (faults_of c.args.faults.now) (faults_of c.truncate.new.self) (brokens_of c.args.breaches.now) front c.args.is_passed _
    (ap (map fault_of) c.truncate.ensures.items ∙ sym (take-map fault_of most_told c.args.faults.now.items))
    (ap (λ k. most_told - k) (c.len-room.ensures ∙ c.truncate.new.self.ok.0 ∙ sym (length-map c.truncate.new.self.items fault_of)))
    (ap (map broken_of) c.truncate-2.ensures.items ∙ sym (take-map broken_of room c.args.breaches.now.items))
    (c.if-is_passed.false ∙ ap (λ b. b && ltb (length front) room) (sym c.if-is_passed.false))
