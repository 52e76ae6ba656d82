-- Which settings decide about a layout.
use Rattle.std.specs.Prelude.{ℕ, ◌+◌, List, [], ◌∷◌, ◌++◌, ◌&&◌, Option, None, Some, filter_map, find, if◌then◌else◌, map, option_map, reverse}
use Rattle.cedar_settings.specs.declared.decisions.Applied.{Applied}
use Rattle.cedar_settings.specs.declared.decisions.Problem.{Problem}
use Rattle.cedar_settings.specs.declared.decisions.Setting.{Setting}
use Rattle.cedar_settings.specs.declared.files.ConfigFile.{ConfigFile}
use Rattle.cedar_settings.specs.declared.lines.Entry.{Entry}
use Rattle.cedar_settings.specs.declared.lines.Fault.{Fault}
use Rattle.cedar_settings.specs.declared.lines.Key.{Key}
use Rattle.cedar_settings.specs.declared.lines.Key.TheVariants.{IndentSize, TabWidth, MaxLineLength}
use Rattle.cedar_settings.specs.declared.lines.Value.{Value}
use Rattle.cedar_settings.specs.declared.lines.Value.TheVariants.{Columns, Tab, Off, Wrong}
use Rattle.cedar_settings.specs.Settings.{entries_of}
use Rattle.cedar_settings.specs.Values.{is_usable, same_key}

-- a line of the n-th file
abbrev pub applied_at : ℕ → Entry → Applied
applied_at n e = record { file = n; entry = e }

-- the lines of the n-th file that apply to a path, the strongest first: the last line first
abbrev pub applied_in : ℕ → ConfigFile → List ℕ → List Applied
applied_in n f path = map (applied_at n) (reverse (entries_of f path))

-- the lines that apply to a path, the strongest first: those of the nearest file, and then those of the files above it, unless
-- it is a root; the nearest file has the number n
abbrev pub applying_from : ℕ → List ConfigFile → List ℕ → List Applied
applying_from n [] path = []
applying_from n (f ∷ fs) path = applied_in n f path ++ (if f.is_root then [] else applying_from (n + 1) fs path)

abbrev pub applying : List ConfigFile → List ℕ → List Applied
applying files path = applying_from 0 files path

-- the line that decides about a key: the strongest one with a value that can be used
abbrev pub deciding : Key → List Applied → Option Applied
deciding key lines = find (λ a. same_key a.entry.key key && is_usable a.entry.value) lines

-- the columns of a tab, by the line that decides about it; 2 if none does
abbrev pub tab_columns_by : Value → ℕ
tab_columns_by (Columns n) = n
tab_columns_by _ = 2

abbrev pub tab_columns : Option Applied → ℕ
tab_columns None = 2
tab_columns (Some a) = tab_columns_by a.entry.value

-- the indentation that a value means, where a tab has so many columns
abbrev pub indent_columns : ℕ → Value → Option ℕ
indent_columns tab (Columns n) = Some n
indent_columns tab Tab = Some tab
indent_columns tab _ = None

-- the width that a value means
abbrev pub width_columns : Value → Option ℕ
width_columns (Columns n) = Some n
width_columns Off = Some 65535
width_columns _ = None

-- a setting, taken from a line
abbrev pub setting_at : Applied → Option ℕ → Option Setting
setting_at a None = None
setting_at a (Some n) = Some (record { columns = n; file = a.file; line = a.entry.line })

-- the setting that the deciding line makes
abbrev pub setting_by : (Value → Option ℕ) → Option Applied → Option Setting
setting_by meaning None = None
setting_by meaning (Some a) = setting_at a (meaning a.entry.value)

-- the indentation and the width that these lines set
abbrev pub indent_setting : List Applied → Option Setting
indent_setting lines = setting_by (indent_columns (tab_columns (deciding TabWidth lines))) (deciding IndentSize lines)

abbrev pub width_setting : List Applied → Option Setting
width_setting lines = setting_by width_columns (deciding MaxLineLength lines)

-- a fault of the n-th file
abbrev pub fault_at : ℕ → ℕ × Fault → Problem
fault_at n t = record { file = n; line = t.0; fault = t.1 }

-- what is wrong with a value, and with a line of the n-th file
abbrev pub fault_of : Value → Option Fault
fault_of (Wrong f) = Some f
fault_of _ = None

abbrev pub wrong_at : ℕ → Entry → Option Problem
wrong_at n e = option_map (λ f. fault_at n (e.line, f)) (fault_of e.value)

-- what is wrong in the n-th file: first what is in no section, then what is in the sections that match a path
abbrev pub problems_in : ℕ → ConfigFile → List ℕ → List Problem
problems_in n f path = map (fault_at n) f.faults.items ++ filter_map (wrong_at n) (entries_of f path)

-- what is wrong in all files up to the first root, of which the nearest has the number n
abbrev pub problems_from : ℕ → List ConfigFile → List ℕ → List Problem
problems_from n [] path = []
problems_from n (f ∷ fs) path = problems_in n f path ++ (if f.is_root then [] else problems_from (n + 1) fs path)
