-- What readers hold, and whether devices have failed.
use Rattle.std.specs.Prelude.{◌≡◌, ℕ, zero, suc, true, false, List, Option, Some, IfSome, IsUtf8, slice_get, IsSomeAnd, All}
use Rattle.std.specs.List.{AllZip}
use Rattle.std.specs.Io.KnownBytes.{IsAtEnd}
use Rattle.graphql_names.specs.declared.device.Device.{Device}
use Rattle.graphql_names.specs.Device.{device_inner, device_failed}

-- if the reader tells its bytes, they are these
abbrev pub IsTextOf : {R : Type 0} → (R → Option (List ℕ)) → Device R → List ℕ → Type 0
IsTextOf remaining device text = IfSome (remaining (device_inner device)) (λ bytes. text ≡ bytes)

-- the reader tells its bytes, and they are this text
abbrev pub TellsText : {R : Type 0} → (R → Option (List ℕ)) → Device R → List ℕ → Type 0
TellsText remaining device text = (remaining (device_inner device) ≡ Some text) × IsUtf8 text

-- if the reader tells its bytes, none is left
abbrev pub IsReadToEnd : {R : Type 0} → (R → Option (List ℕ)) → Device R → Type 0
IsReadToEnd remaining device = IsAtEnd (remaining (device_inner device))

-- the same for each reader
abbrev pub AreReadToEnd : {R : Type 0} → (R → Option (List ℕ)) → List (Device R) → Type 0
AreReadToEnd remaining devices = All (IsReadToEnd remaining) devices

-- for each reader that tells its bytes, the text is those, in order
abbrev pub AreTextsOf : {R : Type 0} → (R → Option (List ℕ)) → List (Device R) → List (List ℕ) → Type 0
AreTextsOf remaining devices texts = AllZip (IsTextOf remaining) devices texts

-- if the reader tells its bytes, they are not UTF-8
abbrev pub IsNotUtf8Of : {R : Type 0} → (R → Option (List ℕ)) → Device R → Type 0
IsNotUtf8Of remaining device = (text : List ℕ) × (IsTextOf remaining device text × (IsUtf8 text → ⊥))

-- text `number`, counted from 1, is not UTF-8
abbrev pub IsNotUtf8At : {R : Type 0} → (R → Option (List ℕ)) → List (Device R) → ℕ → Type 0
IsNotUtf8At remaining devices zero = ⊥
IsNotUtf8At remaining devices (suc before) = IsSomeAnd (slice_get devices before) (IsNotUtf8Of remaining)

-- none of these devices has failed
abbrev pub HaveNotFailed : {R : Type 0} → List (Device R) → Type 0
HaveNotFailed devices = All (λ device. device_failed device ≡ false) devices

-- device `number`, counted from 1, has failed
abbrev pub HasFailedAt : {R : Type 0} → List (Device R) → ℕ → Type 0
HasFailedAt devices zero = ⊥
HasFailedAt devices (suc before) = IsSomeAnd (slice_get devices before) (λ device. device_failed device ≡ true)
