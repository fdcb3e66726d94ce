use Rattle.std.proofs.Common.{◌≡◌, string_bytes, take}
use Rattle.std.specs.List.{flat_map}
use Rattle.report_cli.specs.Sarif.{uri_byte}
use Rattle.report_cli.proofs.sarif.uri_of.Given as goal

abbrev pub invariant-loop-byte : goal.invariant-loop-byte
invariant-loop-byte l = string_bytes l.uri ≡ flat_map uri_byte (take l.byte-index l.bytes)
