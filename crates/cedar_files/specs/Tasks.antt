-- What the words of the command line ask for.
use Rattle.std.specs.Prelude.{◌≡◌, ◌≢◌, ◌++◌, ◌<◌, ◌≤◌, ℕ, List, Option, Some, None, Result, Ok, Err, IsSome, codes, length, map, option_to_list, slice_get}
use Rattle.std.specs.Option.{option_or}
use Rattle.std.specs.List.{Any, filter_map}
use Rattle.cedar_files.specs.Words.{IsText, first_odd_option, odd_bytes}
use Rattle.cedar_files.specs.declared.options.Mode.TheVariants.{Diff}
use Rattle.cedar_files.specs.declared.options.Options.{Options}
use Rattle.cedar_files.specs.declared.task.Misuse.{Misuse}
use Rattle.cedar_files.specs.declared.task.Misuse.TheVariants.{NotUtf8, InputAmongPaths, InputWithDiff, NameWithoutInput}
use Rattle.cedar_files.specs.declared.task.Task.{Task}
use Rattle.cedar_files.specs.declared.task.Task.TheVariants.{Input, Files}
use Rattle.cedar_files.specs.declared.words.Words.{Words}

-- the values of `--exclude`, in order, and then that of `--stdin-filename`
abbrev pub values_of : Options → List (List ℕ)
values_of options = map (λ x. x.now) (options.excluded.items ++ option_to_list options.input_name)

-- the first of these values that isn't UTF-8
abbrev pub first_odd_value : Words → Options → Option (List ℕ)
first_odd_value words options = slice_get (filter_map (odd_bytes words) (values_of options)) 0

-- the first option that isn't UTF-8, or else the first such value
abbrev pub first_odd_word : Words → Options → Option (List ℕ)
first_odd_word words options = option_or (first_odd_option words) (first_odd_value words options)

-- standard input is one of the paths
abbrev pub ReadsInput : Options → Type 0
ReadsInput options = Any (λ path. IsText path (codes "-")) options.paths.items

-- the words ask for this, or can't be followed for this reason: an option, or the value of one, isn't UTF-8, or else standard
-- input stands beside other paths, or else the difference to it is asked for, or it has a name and isn't read
abbrev pub IsTaskOf : Words → Options → Result Task Misuse → Type 0
IsTaskOf words options (Err (NotUtf8 word)) = first_odd_word words options ≡ Some word.now
IsTaskOf words options (Err InputAmongPaths) = (first_odd_word words options ≡ None) × ReadsInput options
    × (1 < length options.paths.items)
IsTaskOf words options (Err InputWithDiff) = (first_odd_word words options ≡ None) × ReadsInput options
    × (length options.paths.items ≤ 1) × (options.mode ≡ Diff)
IsTaskOf words options (Err NameWithoutInput) = (first_odd_word words options ≡ None) × ¬ (ReadsInput options)
    × IsSome options.input_name
IsTaskOf words options (Ok Input) = (first_odd_word words options ≡ None) × ReadsInput options
    × (length options.paths.items ≤ 1) × (options.mode ≢ Diff)
IsTaskOf words options (Ok Files) = (first_odd_word words options ≡ None) × ¬ (ReadsInput options)
    × (options.input_name ≡ None)
