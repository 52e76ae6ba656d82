use Rattle.std.proofs.Common.{◌≡◌, rules, sym, subst, arith}
use Rattle.std.specs.Prelude.{slice_range}
use Rattle.std.specs.Str.{IsCharBoundary}
use Rattle.cedar_edits.specs.Positions.{units}
use Rattle.cedar_edits.proofs.LineStarts.{units-next}
use Rattle.cedar_edits.proofs.Walks.{IsPlaceUpTo, Walked-kept, Walked-moved, Walked-next}
use Rattle.cedar_edits.proofs.positions.place_on_line.Goals as goal
use Rattle.cedar_edits.proofs.positions.place_on_line.Goals.{then-is_char_boundary+then-used-character, else-is_char_boundary, else-is_char_boundary-via-then-is_char_boundary+else-used-character, else-is_char_boundary-via-else-is_char_boundary}

pub loop-i-preserved : goal.loop-i-preserved
loop-i-preserved c =
    let e = c.args.encoding in
    let text = c.as_bytes-bytes.result.now in
    let i = c.loop-i.i in
    let walked = c.loop-i.invariant.0 in
    let used : c.loop-i.used ≡ units e (slice_range text c.args.start i) = c.loop-i.invariant.1 in
    let same : text ≡ c.args.text.now = search rules in
    let next : IsPlaceUpTo e text c.args.start c.args.character i c.if-is_char_boundary.last =
    elim c.if-is_char_boundary.branch [
      | then-is_char_boundary+then-used-character w ↦
          rw w.last-is (Walked-moved e text c.args.start c.args.character i c.loop-i.last walked
          (subst (λ t. IsCharBoundary t i) (sym same)
          (c.is_char_boundary.ensures.test.0 w.if-is_char_boundary.true)) (omega arith))
      | else-is_char_boundary w ↦
          rw w.last-is (Walked-kept e text c.args.start c.args.character i c.loop-i.last walked
          (λ boundary. elim w.else-is_char_boundary.branch [
            | else-is_char_boundary-via-then-is_char_boundary+else-used-character v ↦
                omega (arith, v.if-used-character.false)
            | else-is_char_boundary-via-else-is_char_boundary v ↦ absurd (search (
              rules,
              v.if-is_char_boundary.false,
              c.is_char_boundary.ensures.test.1 (subst (λ t. IsCharBoundary t i) same boundary),
            ))
          ]))
    ] in (
      Walked-next e text c.args.start c.args.character i c.loop-i.last c.if-is_char_boundary.last
          walked next c.if-byte-eq10.false c.if-byte-eq13.false,
      omega (
        arith,
        units-next e text c.args.start i (omega arith) (omega arith),
        c.unit_count-used.ensures.count,
      ),
      omega (arith, c.unit_count-used.ensures.bound),
    )
