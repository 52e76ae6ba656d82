use Rattle.std.proofs.Common.{◌/◌}
use Rattle.cedar_program.proofs.Rights.{either_limits, first_limits, second_limits}
use Rattle.cedar_program.proofs.folder.access.shared_bits.Goals as goal

pub returns : goal.returns
returns c =
    let m = c.args.mode in
    let owner = c.all_or-by_owner.result in
    let group = c.all_or-by_group.result in
    let others = c.all_or-by_others.result in
    let bits = c.bits_of.ensures in
    record {
      group = λ e. (
        second_limits owner others m _ (c.all_or-by_others.ensures e) bits.group,
        second_limits owner group (m / 8) _ (c.all_or-by_group.ensures e) bits.others,
      );
      owner = λ e. (
        first_limits owner others (m / 64) _ (c.all_or-by_owner.ensures e) bits.group,
        first_limits owner group (m / 64) _ (c.all_or-by_owner.ensures e) bits.others,
        either_limits c.all_or-of_owner.result (m / 8) m _ (c.all_or-of_owner.ensures e) bits.owner,
      );
    }
