-- What the files `.editorconfig` say about a path.
use Rattle.std.specs.Prelude.{ℕ, List, [], Bool, drop, flat_map, if◌then◌else◌, length, nat_eq, is_some, string_bytes}
use Rattle.std.specs.List.{starts_with}
use Rattle.regex.specs.Patterns.{find_str}
use Rattle.regex.specs.Strings.{regex_pattern}
use Rattle.cedar_settings.specs.declared.files.ConfigFile.{ConfigFile}
use Rattle.cedar_settings.specs.declared.files.Section.{Section}
use Rattle.cedar_settings.specs.declared.globs.Glob.{Glob}
use Rattle.cedar_settings.specs.declared.lines.Entry.{Entry}

-- whether a glob's regular expression is found in a path
abbrev pub matches : Glob → List ℕ → Bool
matches glob path = is_some (find_str (regex_pattern glob.regex) path 0)

-- the folder of a file
abbrev pub folder_of : ConfigFile → List ℕ
folder_of file = string_bytes file.folder

-- the lines of a section, if it matches a path below its folder
abbrev pub entries_in : List ℕ → Section → List Entry
entries_in below s = if matches s.glob below then s.entries.items else []

-- the lines of the sections that match it, in order
abbrev pub entries_below : List Section → List ℕ → List Entry
entries_below sections below = flat_map (entries_in below) sections

-- the lines of a file that apply to an absolute path, in order
abbrev pub entries_of : ConfigFile → List ℕ → List Entry
entries_of file path = if starts_with nat_eq path (folder_of file) then entries_below file.sections.items (drop (length (folder_of file)) path) else []
