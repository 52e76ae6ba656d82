use Rattle.std.proofs.Common.{◌≡◌, ap, sym, ◌∙◌, ◌++◌, map}
use Rattle.std.specs.Prelude.{reverse}
use Rattle.cedar_faults.specs.Inside.Pendings.{pair}
use Rattle.cedar_faults.proofs.Afters.{can_read, if_read}
use Rattle.cedar_faults.proofs.pending.Pending.can_read.Goals as goal

pub returns : goal.returns
returns c =
    let same = ap (λ xs. reverse (map pair xs)) (c.in_ok-extend_from_slice.ensures.items
    ∙ ap (λ xs. xs ++ c.deref.result.now) c.new-parts.ensures.items ∙ c.deref.ensures.value) in
    if_read c.read.result (λ b r. can_read
    (record { parts = c.extend_from_slice.new.self }) c.args.self.now c.read.new.self c.args.kind b same r) c.read.ensures
