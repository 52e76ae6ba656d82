-- The options of a run, and the words that ask for them.
use Rattle.std.specs.Prelude.{◌≡◌, ◌⊎◌, ◌<◌, ◌^◌, ℕ, pos, List, [], true, false, codes, Option, Some, None, IfSome, option_map}
use Rattle.std.specs.Str.Parse.{IsNumeral, digits_value, without_leading_plus}
use Rattle.clap.specs.Words.{Row, Text, fault_of, first_of, one_of, subcommand_of}
use Rattle.cedar_program.specs.CommandLine.{cedar_app}
use Rattle.cedar_program.specs.declared.options.Options.{Options}

-- the number that a text writes in decimal digits
abbrev pub number_of : Text → ℕ
number_of text = digits_value 10 (without_leading_plus text)

-- decimal digits, and a number of 16 bits
abbrev pub IsNumber : Text → Type 0
IsNumber text = IsNumeral 10 (without_leading_plus text) × (number_of text < 2 ^ 16)

-- this number if none is given, and otherwise the given one; a text that is no number, which clap refuses, gives nothing
abbrev pub IsNumberOr : ℕ → Option Text → ℕ → Type 0
IsNumberOr n None m = m ≡ n
IsNumberOr n (Some text) m = (IsNumber text × (m ≡ number_of text)) ⊎ (¬ (IsNumber text) × (m ≡ n))

-- the options that the matches of `format` name; by default 80 columns per line and 2 per level
pub record HasOptions (rows : List Row) (o : Options) : Type 0 where
  pub file : option_map (λ name. name.now) o.file ≡ first_of (codes "file") rows
  pub width : IsNumberOr 80 (one_of (codes "width") rows) o.config.line_width
  pub indent : (n : ℕ) × IsNumberOr 2 (one_of (codes "indent") rows) n × (o.config.indent_width ≡ pos n)
  pub checks : one_of (codes "check") rows ≡ Some (codes "true") → o.only_checks ≡ true
  pub formats : one_of (codes "check") rows ≡ Some (codes "false") → o.only_checks ≡ false

-- the words are taken, and these are their options
abbrev pub AskFor : List Text → Options → Type 0
AskFor words o = (fault_of cedar_app words ≡ []) × IfSome (subcommand_of cedar_app words) (λ found. HasOptions found.1 o)
