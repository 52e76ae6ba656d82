use Rattle.std.proofs.Common.{drop, string_bytes}
use Rattle.cedar_edits.proofs.Applying.{IsApplied}
use Rattle.cedar_edits.proofs.edits.apply_edits.Given as goal

abbrev pub invariant-loop-edit : goal.invariant-loop-edit
invariant-loop-edit l =
    IsApplied l.text l.edits (drop l.edit-index l.edits) l.at (string_bytes l.result)
