use Rattle.std.proofs.Common.{◌≡◌, ◌≤◌, ◌+◌, ℕ, true, false, List, [], ◌++◌, drop, ap, sym, subst, ◌∙◌, arith, append-nil}
use Rattle.std.specs.Prelude.{slice_range}
use Rattle.std.specs.Str.{IsCharBoundary}
use Rattle.std.proofs.lemmas.List.Folds.{drop_split}
use Rattle.std.proofs.Math.Seq.{take-length}
use Rattle.std.proofs.lemmas.Slice.Eq.{bytes_eq-Decides}
use Rattle.std.proofs.lemmas.Str.{IsCharBoundary-from_rest, IsCharBoundary-start}
use Rattle.cedar_reading.specs.Pieces.{IsFirstPiece}
use Rattle.cedar_edits.specs.Laws.{CanBeNamed}
use Rattle.cedar_tokens.specs.declared.token.Span.{Span}
use Rattle.cedar_edits.specs.Edits.{IsNamedPart, edited_by}
use Rattle.cedar_policy_formatter.specs.Inside.Growing.{Adds}
use Rattle.cedar_edits.proofs.Turning.{IsTurned, all_turned, none_turned, turned_more}
use Rattle.cedar_policy_formatter.proofs.Named.{part_piece_named}
use Rattle.cedar_policy_formatter.proofs.Wholes.{part_kept, part_stays}
use Rattle.cedar_policy_formatter.proofs.ranges.pieces.edits_between.Goals as goal

pub returns-then-eq-clause-bytes : goal.returns-then-eq-clause-bytes
returns-then-eq-clause-bytes c =
    let text = c.args.text.now in
    let new = c.args.new.now in
    let same : c.range.result.now ≡ new =
    (bytes_eq-Decides c.range.result.now new).0 (sym c.if-eq.ensures) in
    ap (edited_by text) c.new-edits.ensures.items
    ∙ sym (part_kept text c.args.span new c.requires.order (sym same ∙ c.range.ensures.value))

pub pieces-init : goal.pieces-init
pieces-init c = record {
  order = omega arith;
  inside = c.requires.order;
  named = c.requires.first;
  boundary = IsCharBoundary-start c.args.new.now c.utf8.new;
  turned = none_turned c.args.text.now c.args.span c.args.new.now c.new-edits.result.items
      c.new-edits.ensures.items;
}

-- the end of the next piece of the text
end_of_piece : (text : List ℕ) (span : Span) (at n : ℕ) (old : List ℕ) → IsNamedPart text span
    → at ≤ span.end → old ≡ slice_range text at span.end → IsFirstPiece old n
    → IsCharBoundary old n → (CanBeNamed text (at + n)) × (at + n ≤ span.end)
end_of_piece text span at n old part inside same first boundary =
    part_piece_named text at span.end n inside part.inside part.last
    (subst (λ z. IsFirstPiece z n) same first) (subst (λ z. IsCharBoundary z n) same boundary)

pub push_edit-requires : goal.push_edit-requires
push_edit-requires c =
    let end = end_of_piece c.args.text.now c.args.span c.pieces.at c.in-Some.len
    c.range-in-pieces.result.now c.requires c.pieces.invariant.inside
    c.range-in-pieces.ensures.value c.in-Some.ensures.piece
    c.in-Some.ensures.boundary in
    record {
      order = omega arith;
      inside = omega (arith, end.1, c.requires.inside);
      first = c.pieces.invariant.named;
      last = end.0;
    }

pub pieces-preserved : goal.pieces-preserved
pieces-preserved c =
    let text = c.args.text.now in
    let new = c.args.new.now in
    let at = c.pieces.at in
    let from = c.pieces.from in
    let n = c.in-Some.len in
    let m = c.in-Some-first_piece.new_len in
    let end = end_of_piece text c.args.span at n c.range-in-pieces.result.now c.requires
    c.pieces.invariant.inside c.range-in-pieces.ensures.value
    c.in-Some.ensures.piece
    c.in-Some.ensures.boundary in
    let boundary : IsCharBoundary (drop from new) m = subst (λ z. IsCharBoundary z m)
    (c.range_from.ensures.value ∙ ap (drop from) (take-length new)) c.in-Some-first_piece.ensures.boundary in
    let split : drop from new ≡ slice_range new from (from + m) ++ drop (from + m) new =
    drop_split new from (from + m) (omega arith) in
    let adds : Adds text (record { start = at; end = at + n }) (slice_range new from (from + m))
    c.pieces.edits.items c.push_edit.new.edits.items =
    subst (λ z. Adds text (record { start = at; end = at + n }) z c.pieces.edits.items
    c.push_edit.new.edits.items) (c.range-in-Some.ensures.value
    ∙ ap (λ z. slice_range z from (from + m)) (take-length new)) c.in_ok-push_edit.ensures in
    record {
      order = omega (arith, c.pieces.invariant.order);
      inside = end.1;
      named = end.0;
      boundary =
          IsCharBoundary-from_rest new from m c.pieces.invariant.boundary.0 boundary;
      turned = turned_more text c.args.span new c.pieces.edits.items c.push_edit.new.edits.items at
          (at + n) (slice_range new from (from + m)) (drop (from + m) new) (omega arith)
          (subst (IsTurned text c.args.span new c.pieces.edits.items at) split
          c.pieces.invariant.turned) adds;
    }

pub returns : goal.returns
returns c =
    let text = c.args.text.now in
    let new = c.args.new.now in
    let span = c.args.span in
    let at = c.pieces.at in
    let rest = drop c.pieces.from new in
    let edits = c.push_edit-2.new.edits.items in
    let adds : Adds text (record { start = at; end = span.end }) rest c.pieces.edits.items edits =
    subst (λ z. Adds text (record { start = at; end = span.end }) z c.pieces.edits.items edits)
    (c.range_from-2.ensures.value ∙ ap (drop c.pieces.from) (take-length new))
    c.in_ok-push_edit-2.ensures in
    let turned : IsTurned text span new edits span.end [] =
    turned_more text span new c.pieces.edits.items edits at span.end rest []
    c.pieces.invariant.inside (subst (IsTurned text span new c.pieces.edits.items at)
    (sym (append-nil rest)) c.pieces.invariant.turned) adds in
    let all = all_turned text span new edits turned in
    record {
      bytes = all.1;
      edits = record {
        order = all.0;
        least = turned.least;
        none = λ same.
            let old : c.range.result.now ≡ new = c.range.ensures.value
            ∙ sym (part_stays text span new c.requires.order (sym all.1 ∙ same)) in
            let e : false ≡ true =
            c.if-eq.ensures ∙ (bytes_eq-Decides c.range.result.now new).1 old in
            absurd cc;
      };
    }
