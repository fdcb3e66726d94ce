-- What contracts see of departures, and their names and texts.
use Rattle.std.specs.Prelude.{◌≡◌, ℕ, Vec, List, [], ◌++◌, map, codes}
use Rattle.std.specs.Option.{option_map_or}
use Rattle.std.specs.declared.alloc.Global.{Global}
use Rattle.graphql_names.specs.Placed.{Place}
use Rattle.rule_definitions.specs.Room.{◌⊕◌}
use Rattle.strict_documents.specs.Departure.{Departure}
use Rattle.strict_documents.specs.declared.departure.DepartureKind.{DepartureKind}
use Rattle.strict_documents.specs.declared.departure.DepartureKind.TheVariants as kind
use Rattle.strict_documents.specs.declared.departure.Departure.{Departure as Rust}

-- the name of the warning
abbrev pub departure_name : DepartureKind → List ℕ
departure_name kind.FloatPast64Bits = codes "FloatPast64Bits"
departure_name kind.ItemIsNoList = codes "ItemIsNoList"
departure_name kind.NullDefault = codes "NullDefault"
departure_name kind.VariableInside = codes "VariableInside"
departure_name kind.SpreadWithoutObject = codes "SpreadWithoutObject"
departure_name kind.SubscriptionOfNothing = codes "SubscriptionOfNothing"
departure_name kind.ExtraRequiredArgument = codes "ExtraRequiredArgument"
departure_name kind.RequiredDeprecated = codes "RequiredDeprecated"
departure_name kind.OwnBuiltInDirective = codes "OwnBuiltInDirective"
departure_name kind.DirectiveOnDirective = codes "DirectiveOnDirective"
departure_name kind.ExtendedBuiltIn = codes "ExtendedBuiltIn"
departure_name kind.SourceCharacter = codes "SourceCharacter"

-- its text, before the name that it mentions and after it
abbrev pub text_before : DepartureKind → List ℕ
text_before kind.FloatPast64Bits = codes "no finite 64-bit float is nearest to this number"
text_before kind.ItemIsNoList = codes "a list is expected for each item of this list, and this item is none"
text_before kind.NullDefault = codes "`$"
text_before kind.VariableInside = codes "the type of `$"
text_before kind.SpreadWithoutObject = codes "no object is of the type `"
text_before kind.SubscriptionOfNothing = codes "the type of the subscription is none of `"
text_before kind.ExtraRequiredArgument = codes "`"
text_before kind.RequiredDeprecated = codes "`"
text_before kind.OwnBuiltInDirective = codes "`@"
text_before kind.DirectiveOnDirective = codes "`@"
text_before kind.ExtendedBuiltIn = codes "`"
text_before kind.SourceCharacter = codes "the specification has no such character in its texts"

abbrev pub text_after : DepartureKind → List ℕ
text_after kind.FloatPast64Bits = []
text_after kind.ItemIsNoList = []
text_after kind.NullDefault = codes "` fits this argument only by its default, which is null"
text_after kind.VariableInside = codes "` does not fit its place in this value"
text_after kind.SpreadWithoutObject = codes "`, so nothing is selected here"
text_after kind.SubscriptionOfNothing = codes "`, so nothing is selected here"
text_after kind.ExtraRequiredArgument = codes "` takes no null, and the field of the interface has no such argument"
text_after kind.RequiredDeprecated = codes "` is required, and deprecated"
text_after kind.OwnBuiltInDirective = codes "` is built in, and defined here"
text_after kind.DirectiveOnDirective = codes "` is applied to the definition of a directive"
text_after kind.ExtendedBuiltIn = codes "` is added to a type that is built in"
text_after kind.SourceCharacter = []

abbrev pub departure_text : {P : Type 0} → Departure P → List ℕ
departure_text d = text_before d.kind ++ (d.name ++ text_after d.kind)

abbrev pub departure_tree : Rust → Departure Place
departure_tree d = record { place = d.location; kind = d.kind; name = option_map_or (λ n. n.text) d.name [] }

abbrev pub departures_of : Vec Rust Global → List (Departure Place)
departures_of ds = map departure_tree ds.items

-- the old departures, then these, as long as the list has fewer than 1,000
abbrev pub Tells : Vec Rust Global → Vec Rust Global → List (Departure Place) → Type 0
Tells old new told = departures_of new ≡ departures_of old ⊕ told
