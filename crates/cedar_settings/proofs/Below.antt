-- The lines of a file that apply to a path.
use Rattle.std.proofs.Common.{◌≡◌, ◌≢◌, ℕ, List, [], ◌++◌, true, false, nat_eq}
use Rattle.std.proofs.lemmas.Str.Pattern.{starts_text}
use Rattle.std.specs.List.{starts_with}
use Rattle.std.specs.Str.Pattern.{FindsTextPrefix, StripsPrefix}
use Rattle.cedar_settings.specs.Settings.{entries_below, entries_of, folder_of}
use Rattle.cedar_settings.specs.declared.files.ConfigFile.{ConfigFile}

-- no line applies to a path outside of the folder
pub entries_of-outside : (file : ConfigFile) (path : List ℕ) → ((rest : List ℕ) → path ≢ folder_of file ++ rest) → entries_of file path ≡ []
entries_of-outside file path outside =
    let no : false ≡ starts_with nat_eq path (folder_of file) = starts_text false (folder_of file) path outside in
    rw (← no)

-- to a path below the folder apply the lines of the sections that match the rest
pub entries_of-below : (file : ConfigFile) (path below : List ℕ) → StripsPrefix (FindsTextPrefix (folder_of file)) path below → entries_of file path ≡ entries_below file.sections.items below
entries_of-below file path below (n, (at, found, boundary), rest, lengths) =
    let yes : true ≡ starts_with nat_eq path (folder_of file) = starts_text true (folder_of file) path (n, (at, found, boundary), rw at boundary) in
    rw (← yes, rest, at)
