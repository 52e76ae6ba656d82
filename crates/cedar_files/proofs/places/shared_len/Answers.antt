use Rattle.std.proofs.Common.{arith, drop, length-drop}
use Rattle.std.specs.Prelude.{nat_eq}
use Rattle.std.proofs.lemmas.List.Sums.{common_prefix_len-le}
use Rattle.cedar_files.proofs.places.shared_len.Goals as goal

pub returns : goal.returns
returns c =
    let i = c.loop-i.i in
    let xs = c.args.before.now in
    let ys = c.args.after.now in
    let less = common_prefix_len-le nat_eq (drop i xs) (drop i ys) in
    omega (arith, c.loop-i.invariant, less.0, less.1, length-drop i xs, length-drop i ys, c.min-most.ensures, c.loop-i-test.false, c.loop-i.auto.i-end)
