use Rattle.cedar_program.proofs.Rights.{part_is_narrowed}
use Rattle.cedar_program.proofs.folder.access.narrowed_mode.Goals as goal

pub returns-clause-narrowed : goal.returns-clause-narrowed
returns-clause-narrowed c = part_is_narrowed c.args.mode c.args.keeps_owner c.args.keeps_group
    c.shared_bits.result c.shared_bits.ensures
