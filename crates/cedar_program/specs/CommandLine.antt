-- The command line: which words are taken.
use Rattle.std.specs.Prelude.{◌≡◌, ◌⊎◌, ℕ, pos, List, [], true, codes, Some}
use Rattle.clap.specs.Words.{App, IsAmong, Rule, Text, fault_of, new_app, new_rule, subcommand_of, subcommand_rows_of, with_rule, with_subcommand}
use Rattle.clap.specs.declared.builder.ArgAction.TheVariants.{SetTrue}
use Rattle.clap.specs.declared.builder.value_parser.ValueParser.TheVariants as value
use Rattle.clap.specs.declared.error.kind.ErrorKind.{ErrorKind}
use Rattle.clap.specs.declared.error.kind.ErrorKind.TheVariants.{OutOfMemory}
use Rattle.clap.specs.declared.parser.matches.ArgMatches.{ArgMatches}

-- `-p FILE` or `--policies FILE`
abbrev pub file_rule : Rule
file_rule = record (new_rule (codes "file")) { short = Some 112; long = Some (codes "policies"); value_names = 1 }

-- a number of 16 bits after a letter or a long name
abbrev pub number_rule : Text → ℕ → Text → Rule
number_rule id letter name = record (new_rule id) { short = Some letter; long = Some name; value_names = 1; parser = Some (value.Signed (pos 0) (pos 65535)) }

-- `-c` or `--check`
abbrev pub check_rule : Rule
check_rule = record (new_rule (codes "check")) { short = Some 99; long = Some (codes "check"); action = Some SetTrue }

-- `format [-p FILE] [-i N] [-l N] [-c]`, each option by its letter or its long name
abbrev pub format_app : App
format_app = with_rule (with_rule (with_rule (with_rule (new_app (codes "format")) file_rule) (number_rule (codes "indent") 105 (codes "indent-width"))) (number_rule (codes "width") 108 (codes "line-width"))) check_rule

-- `cedar` with its version, no `help` subcommand, and a required subcommand
abbrev pub bare_app : App
bare_app = let a = new_app (codes "cedar") in record { top = record a.top { subcommand_required = true; disable_help_subcommand = true; has_version = true }; subs = a.subs }

abbrev pub cedar_app : App
cedar_app = with_subcommand bare_app format_app.top

-- the words are taken, and these are the matches of `format` in them
abbrev pub HasMatches : List Text → ArgMatches → Type 0
HasMatches words m = (fault_of cedar_app words ≡ []) × (subcommand_rows_of m ≡ subcommand_of cedar_app words)

-- the words are refused, or ask for help or the version; or out of memory
abbrev pub HasFault : List Text → ErrorKind → Type 0
HasFault words kind = (kind ≡ OutOfMemory) ⊎ IsAmong kind (fault_of cedar_app words)
