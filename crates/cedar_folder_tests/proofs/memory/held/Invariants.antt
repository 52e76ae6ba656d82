use Rattle.std.proofs.Common.{◌≡◌, length}
use denote.Text.{Utf8}
use denote.Shadow.{shadow}
use Rattle.cedar_folder_tests.specs.Logs.{picture_of}
use Rattle.cedar_folder_tests.proofs.memory.held.Given as goal

abbrev pub invariant-loop-last : goal.invariant-loop-last
invariant-loop-last l = shadow (Utf8 l.asked)
    × ((picture_of l.entries).holds l.asked ≡ (picture_of l.fn.log).holds l.fn.name)

abbrev pub decreases-loop-last : goal.decreases-loop-last
decreases-loop-last l = length l.entries
