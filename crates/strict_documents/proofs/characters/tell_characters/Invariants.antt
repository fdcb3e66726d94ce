use Rattle.std.proofs.Common.{◌≡◌, length}
use Rattle.std.specs.Str.{encode_utf8_all}
use Rattle.rule_definitions.specs.Room.{◌⊕◌}
use Rattle.strict_documents.specs.Characters.{character_departures, stretches_of}
use Rattle.strict_documents.proofs.characters.tell_characters.Given as goal

abbrev pub invariant-loop-character : goal.invariant-loop-character
invariant-loop-character l = record {
  told : stretches_of l.departures ≡ stretches_of l.fn.departures ⊕ character_departures l.file.0 0 l.yielded;
  at : l.offset ≡ length (encode_utf8_all l.yielded);
}
