-- Private: leads to `RunFaultIsDue`. Why readers give no texts, and why an answer is not written whole.
use Rattle.std.specs.Prelude.{◌≡◌, ℕ, ◌+◌, ◌<◌, true, List, length, take, Option}
use Rattle.std.specs.Io.KnownBytes.{Appends}
use Rattle.graphql_names.specs.declared.device.Device.{Device}
use Rattle.graphql_names.specs.Device.{device_inner, device_failed}
use Rattle.checker_calls.specs.Devices.{IsNotUtf8Of, IsNotUtf8At, HasFailedAt}
use Rattle.checker_calls.specs.declared.read_device.TextFault.{TextFault}
use Rattle.checker_calls.specs.declared.read_device.TextFault.TheVariants as text
use Rattle.checker_calls.specs.declared.run_fault.RunFault.{RunFault}
use Rattle.checker_calls.specs.declared.run_fault.RunFault.TheVariants as run

-- ---- reading

-- the reader has failed, its text is not UTF-8, or memory ran out
abbrev pub IsTextFault : {R : Type 0} → (R → Option (List ℕ)) → Device R → Device R → TextFault → Type 0
IsTextFault remaining old new text.Memory = Unit {0}
IsTextFault remaining old new text.Reader = device_failed new ≡ true
IsTextFault remaining old new text.NotUtf8 = IsNotUtf8Of remaining old

-- the fault of the text with a number
abbrev pub numbered_fault : TextFault → ℕ → RunFault
numbered_fault text.Memory number = run.Memory
numbered_fault text.Reader number = run.Reader number
numbered_fault text.NotUtf8 number = run.NotUtf8 number

-- one of the readers has failed, its text is not UTF-8, or memory ran out; readers are counted from 1
abbrev pub IsReadFault : {R : Type 0} → (R → Option (List ℕ)) → List (Device R) → List (Device R) → RunFault → Type 0
IsReadFault remaining old new run.Memory = Unit {0}
IsReadFault remaining old new (run.Reader number) = HasFailedAt new number
IsReadFault remaining old new (run.NotUtf8 number) = IsNotUtf8At remaining old number
IsReadFault remaining old new (run.Writer count) = ⊥

-- ---- writing

-- the writer took fewer than all bytes
abbrev pub IsPutFault : {W : Type 0} → (W → Option (List ℕ)) → Device W → Device W → List ℕ → RunFault → Type 0
IsPutFault contents old new bytes (run.Writer count) =
    (count < length bytes) × (device_failed new ≡ true) × Appends (contents (device_inner old)) (contents (device_inner new)) (take count bytes)
IsPutFault contents old new bytes run.Memory = ⊥
IsPutFault contents old new bytes (run.Reader number) = ⊥
IsPutFault contents old new bytes (run.NotUtf8 number) = ⊥

-- the same for bytes after `before` others, which the writer has taken
abbrev pub IsPutFaultAfter : {W : Type 0} → (W → Option (List ℕ)) → ℕ → Device W → Device W → List ℕ → RunFault → Type 0
IsPutFaultAfter contents before old new bytes fault = (count : ℕ) × (fault ≡ run.Writer (before + count)) × IsPutFault contents old new bytes (run.Writer count)
