use Rattle.std.proofs.Common.{[], ◌++◌, append-nil, string_bytes, refl, sym}
use Rattle.std.specs.Prelude.{slice_range}
use Rattle.std.proofs.lemmas.Str.{IsCharBoundary-start}
use Rattle.cedar_layout.specs.Cleaning.{clean_piece}
use Rattle.cedar_layout.proofs.Cleaning.{cut_turn, last_pushed, two_pushed}
use Rattle.cedar_layout.proofs.Cuts.{kept_front, kept_through}
use Rattle.cedar_layout.proofs.utils.cleaning.push_pieces.Goals as goal

pub loop-kept-init : goal.loop-kept-init
loop-kept-init c = record {
  boundary = IsCharBoundary-start c.args.text.now c.utf8.text;
  joined = [];
  bytes = sym (append-nil (string_bytes c.args.out.now));
  cut = λ y h. h;
}

pub loop-kept-preserved : goal.loop-kept-preserved
loop-kept-preserved c =
    let text = c.args.text.now in
    let so_far = c.loop-kept.invariant in
    let kept = c.in-Some.kept in
    let more = (so_far.joined ++ clean_piece (slice_range text c.loop-kept.at kept.start))
    ++ slice_range text kept.start kept.end in
    record {
      boundary = c.in-Some.ensures.boundary.1;
      joined = more;
      bytes = two_pushed (string_bytes c.args.out.now) so_far.joined _ _ _ _ _ _ _ so_far.bytes
          c.in_ok-push_piece.ensures.ok c.in_ok-push_str.ensures.bytes c.range.ensures.value
          c.range-in-Some.ensures.value;
      cut = cut_turn text so_far.joined more c.loop-kept.at kept c.in-Some.ensures.place refl
          so_far.cut;
    }

pub returns-in_err-push_piece-clause-kept : goal.returns-in_err-push_piece-clause-kept
returns-in_err-push_piece-clause-kept c =
    kept_through (string_bytes c.args.out.now) (string_bytes c.loop-kept.out)
    (string_bytes c.push_piece.new.out)
    (kept_front (string_bytes c.args.out.now) c.loop-kept.invariant.joined
    (string_bytes c.loop-kept.out) c.loop-kept.invariant.bytes)
    c.in_err-push_piece.ensures.kept

pub returns-clause-ok : goal.returns-clause-ok
returns-clause-ok c =
    last_pushed c.push_piece-2.result c.args.text.now
    (string_bytes c.args.out.now) c.loop-kept.invariant.joined (string_bytes c.loop-kept.out)
    (string_bytes c.push_piece-2.new.out) c.range_from.result.now c.loop-kept.at
    c.in_default.ensures.place c.loop-kept.invariant.cut c.loop-kept.invariant.bytes
    c.range_from.ensures.value c.push_piece-2.ensures.ok

pub returns-clause-kept : goal.returns-clause-kept
returns-clause-kept c =
    kept_through (string_bytes c.args.out.now) (string_bytes c.loop-kept.out)
    (string_bytes c.push_piece-2.new.out)
    (kept_front (string_bytes c.args.out.now) c.loop-kept.invariant.joined
    (string_bytes c.loop-kept.out) c.loop-kept.invariant.bytes)
    c.push_piece-2.ensures.kept
