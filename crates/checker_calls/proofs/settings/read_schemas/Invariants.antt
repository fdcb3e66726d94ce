use Rattle.std.proofs.Common.{◌≡◌, map, string_bytes, take}
use Rattle.checker_calls.proofs.settings.read_schemas.Given as goal

-- the texts so far
abbrev pub invariant-loop-path : goal.invariant-loop-path
invariant-loop-path l = map string_bytes l.paths.items ≡ map (λ path. path.now) (take l.path-index l.path-items)
