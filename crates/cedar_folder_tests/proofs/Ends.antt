-- Pictures to which the calls of a folder lead.
use Rattle.std.proofs.Common.{None, inl, refl}
use Rattle.std.specs.Prelude.{pos}
use Rattle.cedar_program.specs.Folders.{Stored}
use Rattle.cedar_program.specs.declared.folder.folder.Version.{Version}
use Rattle.cedar_folder_tests.specs.Laws.{CallsEnd}
use Rattle.cedar_folder_tests.specs.Logs.{with_name, with_names}
use Rattle.cedar_folder_tests.proofs.LogLemmas.{created, holding, not_created, not_put, not_removed, put, removed, renamed}

some_version : Version
some_version = record { device = 0; inode = 0; size = 0; modified = record { 0 = pos 0; 1 = pos 0 }; changed = record { 0 = pos 0; 1 = pos 0 } }

pub calls_end : CallsEnd
calls_end p = record {
  created = λ name bytes a.
      let f : Stored = record { bytes = bytes; access = a; version = some_version } in
      (holding p name f, created p name f a (inl refl));
  not_created = λ name bytes a e. (p, not_created p name bytes a e);
  put = λ from to f g apart new old. (with_names p (renamed p from to), put p from to f old);
  not_put = λ from to f e. (p, not_put p from to f.version e);
  removed = λ name. (with_names p (with_name name None p.holds), removed p name);
  not_removed = λ name e. (p, not_removed p name e);
}
