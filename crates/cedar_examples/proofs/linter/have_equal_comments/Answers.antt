use Rattle.std.proofs.Common.{map, sym, ◌∙◌}
use Rattle.std.specs.Str.{bytes_eq}
use Rattle.std.specs.Cmp.Lexicographic.{bytes_decides}
use Rattle.std.specs.Cmp.Derive.Mapped.{pointwise-map}
use Rattle.std.proofs.lemmas.Slice.Eq.{slice_eq-Decides}
use Rattle.cedar_examples.specs.Comments.{AreCommentsOf}
use Rattle.cedar_examples.proofs.Comments.{equal_tells}
use Rattle.cedar_examples.proofs.linter.have_equal_comments.Goals as goal

pub returns-clause-told : goal.returns-clause-told
returns-clause-told c =
    let first = c.in-Some.first.items in
    let second = c.in-Some-2.second.items in
    let xs = map (λ s. s.now) first in
    let ys = map (λ s. s.now) second in
    let found : AreCommentsOf c.args.a.now xs = rw c.in-Some.is at c.in_ok-first.ensures in
    let others : AreCommentsOf c.args.b.now ys = rw c.in-Some-2.is at c.in_ok-second.ensures in
    equal_tells c.listing_is_unique.ensures c.args.a.now c.args.b.now xs ys c.eq.result found others
    (slice_eq-Decides bytes_decides xs ys c.eq.result
    (c.eq.ensures ∙ sym (pointwise-map (λ s. s.now) bytes_eq first second)))
