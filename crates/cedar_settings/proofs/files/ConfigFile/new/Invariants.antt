use Rattle.std.proofs.Common.{◌≡◌}
use Rattle.cedar_settings.specs.Settings.{folder_of}
use Rattle.cedar_settings.proofs.files.ConfigFile.new.Given as goal

abbrev pub invariant-loop-n : goal.invariant-loop-n
invariant-loop-n l = folder_of l.file ≡ l.folder
