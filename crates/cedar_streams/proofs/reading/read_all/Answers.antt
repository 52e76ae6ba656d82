use Rattle.std.proofs.Common.{◌≡◌, ◌+◌, ◌++◌, ℕ, List, rules, take, drop, sym, ap, ◌∙◌, subst}
use Rattle.std.specs.Prelude.{Option}
use Rattle.std.proofs.Math.Seq.{take-add}
use Rattle.std.proofs.lemmas.List.{with_items_is, places}
use Rattle.std.specs.Io.KnownBytes.{Consumes}
use Rattle.std.proofs.KnownBytes.{Consumes-trans}
use Rattle.cedar_streams.proofs.reading.read_all.Goals as goal

-- what was read into ys after its first f bytes, which are those of xs, comes after them
read_on : (a b c : Option (List ℕ)) (xs room ys : List ℕ) (f n : ℕ) → take f room ≡ take f xs
    → take f ys ≡ take f room → Consumes a b (take f xs) → Consumes b c (take n (drop f ys))
    → Consumes a c (take (f + n) ys)
read_on a b c xs room ys f n roomy front before read =
    subst (Consumes a c) (ap (λ l. l ++ take n (drop f ys)) (sym (front ∙ roomy))
    ∙ sym (take-add f n ys)) (Consumes-trans a b c _ _ before read)

pub loop-bytes-preserved : goal.loop-bytes-preserved
loop-bytes-preserved g c =
    let f = c.loop-bytes.filled in
    let kept = with_items_is c.make_room.new.bytes c.read_at.new.bytes (search (rules, places)) in
    let roomy : take f c.as_mut_slice.result.now ≡ take f c.loop-bytes.bytes.items =
    search rules in (
      search rules,
      search (rules, places),
      rw kept (read_on _ _ _ c.loop-bytes.bytes.items c.as_mut_slice.result.now c.read_at.new.bytes
          f c.in-Ok.count roomy c.read_at.ensures.front c.loop-bytes.invariant.2
          c.in-Ok.ensures.gives),
    )
