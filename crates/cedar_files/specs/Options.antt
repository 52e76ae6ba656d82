-- What a run is asked for.
use Rattle.std.specs.Prelude.{Bool, true, false}
use Rattle.cedar_files.specs.declared.options.Mode.{Mode}
use Rattle.cedar_files.specs.declared.options.Mode.TheVariants.{Write, Check, Diff}

-- the mode of a run with or without `--check` and `--diff`, in that order
abbrev pub mode_of : Bool → Bool → Mode
mode_of true diffs = Check
mode_of false true = Diff
mode_of false false = Write
