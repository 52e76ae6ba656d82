use Rattle.std.proofs.Common.{refl, append_assoc}
use Rattle.std.proofs.lemmas.Grind.{put_four}
use Rattle.cedar_faults.proofs.message.ExpectedDisplay.fmt.Goals as goal

pub returns-clause-writes : goal.returns-clause-writes
returns-clause-writes g c = λ plain ok.
    let a = c.in_ok-write_str.ensures.writes plain refl in
    let b = c.in_ok-write_alternatives.ensures a.plain refl in
    let d = c.in_ok-write_str-2.ensures.writes b.plain refl in
    put_four _ _ _ _ _ _ _ _ _ _ _ a b d (c.write_found.ensures d.plain ok) (simp append_assoc)
