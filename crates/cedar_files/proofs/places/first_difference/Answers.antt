use Rattle.std.proofs.Common.{arith, sym}
use Rattle.std.specs.Prelude.{nat_eq}
use Rattle.std.proofs.lemmas.List.{length-take-le}
use Rattle.std.proofs.lemmas.List.Sums.{common_prefix_len-le}
use Rattle.cedar_files.proofs.places.first_difference.Goals as goal

pub slice_bounds-place_after-end : goal.slice_bounds-place_after-end
slice_bounds-place_after-end c =
    let within = common_prefix_len-le nat_eq c.args.before.now c.args.after.now in
    sym (length-take-le c.shared_len.result c.args.before.now
    (omega (arith, c.shared_len.ensures, within.0)))
