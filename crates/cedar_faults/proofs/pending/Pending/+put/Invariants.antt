use Rattle.std.proofs.Common.{length, ◌≡◌, ◌↔◌, ◌∷◌, ◌++◌, [], IsTrue, IfOk, OnOk, map, ℕ, ◌+◌, ◌-◌, ◌*◌, ◌<◌, ◌≤◌}
use Rattle.cedar_faults.specs.Inside.Pendings.{CanEnd, ReadsOn, all_pending, pair, parts_of, with_levels}
use Rattle.cedar_faults.specs.Inside.Reaching.{levels_in, room}
use Rattle.cedar_faults.proofs.pending.Pending.+put.Given as goal

-- proposed from what the function passes where it calls itself
abbrev pub decreases-put : goal.decreases-put
decreases-put l = length l.parts.now
