use Rattle.std.proofs.Common.{◌∙◌, sym, ap, arith, map-id}
use Rattle.std.proofs.lemmas.Iterator.{YieldsList-from_chars}
use Rattle.std.proofs.lemmas.Iterator.Consumers.{YieldsList-end}
use Rattle.rule_definitions.specs.Room.{◌⊕◌}
use Rattle.strict_documents.specs.Characters.{character_departures, stretches_of}
use Rattle.strict_documents.proofs.Spelled.{lies_within, one_longer, character_more}
use Rattle.strict_documents.proofs.characters.tell_characters.Goals as goal

pub tell_character-requires : goal.tell_character-requires
tell_character-requires c =
    let within = lies_within c.args.text.now c.loop-character.yielded _ _ c.in-Some.character _ (cc) c.loop-character.yielded_by c.in-Some.ensures.steps.0 in
    let at = c.loop-character.invariant.at in
    omega (arith, within, at)

pub overflow_add-offset : goal.overflow_add-offset
overflow_add-offset c =
    let within = lies_within c.args.text.now c.loop-character.yielded _ _ c.in-Some.character _ (cc) c.loop-character.yielded_by c.in-Some.ensures.steps.0 in
    let at = c.loop-character.invariant.at in
    let own = c.len_utf8-offset.ensures.len in
    omega (arith, within, at, own)

pub loop-character-preserved : goal.loop-character-preserved
loop-character-preserved c = record {
  told = character_more c.args.file.0 (stretches_of c.args.departures.now) c.loop-character.offset c.loop-character.yielded c.in-Some.character (stretches_of c.loop-character.departures) (stretches_of c.tell_character.new.departures)
      c.loop-character.invariant.at c.loop-character.invariant.told c.in_ok-tell_character.ensures;
  at =
      let more = one_longer c.loop-character.yielded c.in-Some.character in
      let own = c.len_utf8-offset.ensures.len in
      let at = c.loop-character.invariant.at in
      omega (arith, more, own, at);
}

pub returns : goal.returns
returns c =
    let end = YieldsList-end (YieldsList-from_chars c.args.text.now c.utf8.text cc) c.loop-character.yielded _ c.loop-character.yielded_by _ _ c.in-None.is c.next.ensures.steps in
    c.loop-character.invariant.told
    ∙ ap (λ cs. stretches_of c.args.departures.now ⊕ character_departures c.args.file.0 0 cs) (sym (map-id c.loop-character.yielded) ∙ end.0)
