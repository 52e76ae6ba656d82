use Rattle.std.proofs.Common.{◌≡◌, ◌+◌, ◌-◌, ◌<◌, get_or, length, ap, subst, inl, inr, sym, ◌∙◌, arith, rules}
use Rattle.std.proofs.lemmas.Bool.{cases_lt}
use Rattle.cedar_edits.specs.Inside.Trims.{StartsLine}
use Rattle.cedar_edits.proofs.CommonLines.{end_line, end_lines, end_next}
use Rattle.cedar_edits.proofs.lines.last_lines.Goals as goal
use Rattle.cedar_edits.proofs.lines.last_lines.Goals.{then-starts_line+then-starts_line-2, else-starts_line, else-starts_line-via-then-starts_line+else-starts_line-2, else-starts_line-via-else-starts_line}

pub returns-then-old-i : goal.returns-then-old-i
returns-then-old-i c =
    let x = c.args.old.now in
    let y = c.args.new.now in
    let n = c.loop-n.n in
    let i : (length x - n) - 1 ≡ length x - (n + 1) = omega arith in
    let j : (length y - n) - 1 ≡ length y - (n + 1) = omega arith in
    end_lines x y c.loop-n.lines n c.loop-n.invariant
    (inr (inr (λ same. c.if-old-i.true (ap (λ k. get_or x k 0) i
    ∙ (same ∙ sym (ap (λ k. get_or y k 0) j))))))

pub loop-n-preserved : goal.loop-n-preserved
loop-n-preserved c =
    let x = c.args.old.now in
    let y = c.args.new.now in
    let n = c.loop-n.n in
    let in_x : n < length x = omega arith in
    let in_y : n < length y = omega arith in
    let i : (length x - n) - 1 ≡ length x - (n + 1) = omega arith in
    let j : (length y - n) - 1 ≡ length y - (n + 1) = omega arith in
    let same : get_or x (length x - (n + 1)) 0 ≡ get_or y (length y - (n + 1)) 0 =
    sym (ap (λ k. get_or x k 0) i) ∙ (c.if-old-i.false ∙ ap (λ k. get_or y k 0) j) in
    elim c.if-starts_line.branch [
      | then-starts_line+then-starts_line-2 w ↦
          rw w.lines-is (end_line x y c.loop-n.lines n c.loop-n.invariant in_x in_y same
          (subst (StartsLine x) i (c.starts_line.ensures.0 w.if-starts_line.true))
          (subst (StartsLine y) j (w.starts_line-then-starts_line.ensures.0 w.if-starts_line-2.true)))
      | else-starts_line w ↦
          rw w.lines-is (end_next x y c.loop-n.lines n c.loop-n.invariant in_x in_y same
          (λ left right. elim w.else-starts_line.branch [
            | else-starts_line-via-then-starts_line+else-starts_line-2 v ↦ absurd (search (
              rules,
              v.if-starts_line-2.false,
              v.starts_line-then-starts_line.ensures.1 (subst (StartsLine y) (sym j) right),
            ))
            | else-starts_line-via-else-starts_line v ↦ absurd (search (
              rules,
              v.if-starts_line.false,
              c.starts_line.ensures.1 (subst (StartsLine x) (sym i) left),
            ))
          ]))
    ]

pub returns : goal.returns
returns c =
    let x = c.args.old.now in
    let y = c.args.new.now in
    let n = c.loop-n.n in
    end_lines x y c.loop-n.lines n c.loop-n.invariant (elim (cases_lt n (length x)) [
      | inr past ↦ inl past
      | inl within ↦ inr (inl (omega arith))
    ])
