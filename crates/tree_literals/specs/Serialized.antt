-- What `Serialize` prints, and what a device has after `Serialize` wrote to it.
use Rattle.std.specs.Prelude.{ℕ, List, Option}
use Rattle.std.specs.Io.KnownBytes.{Appends}
use Rattle.std.specs.Option.{option_copied}
use Rattle.graphql_names.specs.declared.device.Device.{Device}
use Rattle.graphql_names.specs.Device.{device_inner}
use Rattle.tree_literals.specs.LineLayout.{Prefix}
use Rattle.tree_literals.specs.declared.serialize.Serialize.{Serialize}

-- the text of a tree in its layout, where `text` gives the texts of such trees
abbrev pub serialized : {T : Type 0} → (T → Prefix → ℕ → List ℕ) → Serialize T → List ℕ
serialized text s = text s.tree.now (option_copied s.prefix) s.level

-- the writer in the device has what it had before and then this text, if its contents are known
abbrev pub GainsText : {W : Type 0} → (W → Option (List ℕ)) → Device W → Device W → List ℕ → Type 0
GainsText contents old new text = Appends (contents (device_inner old)) (contents (device_inner new)) text
