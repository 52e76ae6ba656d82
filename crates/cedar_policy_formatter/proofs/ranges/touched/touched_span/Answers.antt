use Rattle.std.proofs.Common.{◌≡◌, ◌≤◌, ◌+◌, length, drop, subst, refl}
use Rattle.std.specs.Str.{IsCharBoundary}
use Rattle.cedar_reading.specs.Pieces.{IsFirstPiece}
use Rattle.cedar_edits.specs.Laws.{CanBeNamed}
use Rattle.cedar_policy_formatter.proofs.Named.{grown_named, rest_piece_named, start_named}
use Rattle.cedar_policy_formatter.proofs.Progress.{none_touched, touched_piece}
use Rattle.cedar_policy_formatter.proofs.ranges.touched.touched_span.Goals as goal

pub pieces-init : goal.pieces-init
pieces-init c =
    let start = start_named c.args.text.now c.utf8.text in
    record {
      named = start;
      first = start;
      last = start;
      touched =
          none_touched c.args.text.now c.args.range (record { start = 0; end = 0 }) 0 refl refl;
    }

pub pieces-preserved : goal.pieces-preserved
pieces-preserved c =
    let text = c.args.text.now in
    let at = c.pieces.at in
    let n = c.in-Some.len in
    let rest : c.range_from.result.now ≡ drop at text = c.range_from.ensures.value in
    let first : IsFirstPiece (drop at text) n = subst (λ z. IsFirstPiece z n) rest
    c.in-Some.ensures.piece in
    let boundary : IsCharBoundary (drop at text) n = subst (λ z. IsCharBoundary z n) rest
    c.in-Some.ensures.boundary in
    let inside : at ≤ length text = c.pieces.invariant.named.boundary.0 in
    let end : CanBeNamed text (at + n) = rest_piece_named text at n inside first boundary in
    let ends = grown_named text c.args.range c.pieces.span (record { start = at; end = at + n })
    c.with_piece-span.result c.pieces.invariant.first c.pieces.invariant.last end
    c.with_piece-span.ensures in
    record {
      named = end;
      first = ends.0;
      last = ends.1;
      touched = touched_piece text c.args.range c.pieces.span at n c.pieces.invariant.touched first
          boundary.0 c.with_piece-span.result c.with_piece-span.ensures;
    }
