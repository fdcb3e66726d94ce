-- What contracts see of a `Device`.
use Rattle.std.specs.Prelude.{ℕ, ◌==◌, nat_lt, Bool, true, ◌&&◌, List, length, Result, Ok, Err}
use Rattle.graphql_names.specs.declared.device.Device.{Device}

-- the reader or writer inside
abbrev pub device_inner : {D : Type 0} → Device D → D
device_inner d = d.inner

-- `d.failed()`
abbrev pub device_failed : {D : Type 0} → Device D → Bool
device_failed d = d.failed

-- whether `write(buf)` failed: its answer is an error, or 0 although `buf` is not empty
abbrev pub write_failed : {E : Type 0} → Result ℕ E → List ℕ → Bool
write_failed (Ok n) buf = n == 0 && nat_lt 0 (length buf)
write_failed (Err e) buf = true
