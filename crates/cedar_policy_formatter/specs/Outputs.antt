-- The output of bytes at a configuration.
use Rattle.std.specs.Prelude.{ℕ, List}
use Rattle.std.specs.Str.{IsUtf8}
use Rattle.cedar_documents.specs.declared.config.Config.{Config}
use Rattle.cedar_written.specs.Output.{IsOutputOf}

-- the bytes x are an accepted text, and y is its output at the configured width and indentation
abbrev pub HasOutput : Config → List ℕ → List ℕ → Type 0
HasOutput c x y = IsUtf8 x × IsOutputOf c.line_width c.indent_width x y
