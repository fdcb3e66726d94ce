-- Private: leads to `ReservedNameAt`. What has a name, apart from types, in words.
use Rattle.std.specs.Prelude.{ℕ, List, codes}
use Rattle.rule_types.specs.declared.reserved.Named.{Named}
use Rattle.rule_types.specs.declared.reserved.Named.TheVariants.{Directive, Field, Argument, InputField, EnumValue}

abbrev pub named_words : Named → List ℕ
named_words Directive = codes "a directive definition"
named_words Field = codes "a field"
named_words Argument = codes "an argument"
named_words InputField = codes "an input object field"
named_words EnumValue = codes "an enum value"
