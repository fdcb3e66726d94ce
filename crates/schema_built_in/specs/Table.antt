-- Private: leads to `built_in_definitions`, which it re-exports. The definitions that each schema has, in the order in which a schema has them.
unfoldable pub use Rattle.schema_fold.specs.BuiltIn.{built_in_definitions}
