use Rattle.std.proofs.Common.{◌≢◌, ◌∷◌, []}
use Rattle.std.proofs.lemmas.Bool.Decides.{Decides-eqb}
use Rattle.std.proofs.lemmas.Slice.Eq.{slice_eq-Decides}
use Rattle.cedar_tokens.specs.Bytes.{line_feed}
use Rattle.cedar_server.proofs.Reading.{place_more}
use Rattle.cedar_server.proofs.Lining.{feed_here, no_feed_here, line_ends, line_goes_on, all_so_far}
use Rattle.cedar_server.proofs.folds.lines.Goals as goal

pub loop-part-preserved-then-eq : goal.loop-part-preserved-then-eq
loop-part-preserved-then-eq c =
    let i = c.loop-part.invariant in
    let g = c.in-Some.ensures.steps in
    let same = slice_eq-Decides Decides-eqb c.in-Some.part.text.now _ c.eq.result c.eq.ensures in
    record {
      can_next = tt;
      is_finite = tt;
      place = place_more _ _ _ _ _ i.place g.2;
      so_far = line_ends _ _ _ _ _ _ _ i.so_far g.0 g.2 c.push.new.self.items
          (feed_here c.in-Some.part.text.now (same.0 c.if-eq.true)) c.in_ok-push.ensures.items;
    }

pub loop-part-preserved : goal.loop-part-preserved
loop-part-preserved c =
    let i = c.loop-part.invariant in
    let g = c.in-Some.ensures.steps in
    let same = slice_eq-Decides Decides-eqb c.in-Some.part.text.now _ c.eq.result c.eq.ensures in
    let other : c.in-Some.part.text.now ≢ line_feed ∷ [] =
    λ e. (let t = same.1 e in let f = c.if-eq.false in cc) in
    record {
      can_next = tt;
      is_finite = tt;
      place = place_more _ _ _ _ _ i.place g.2;
      so_far = line_goes_on _ _ _ _ _ _ _ i.so_far g.0 g.2 c.line_with-line.result
          (no_feed_here c.in-Some.part.text.now other) c.line_with-line.ensures;
    }

pub returns : goal.returns
returns c = all_so_far c.args.text.now c.loop-part.end c.loop-part.line _ c.loop-part.lines.items c.push-2.new.self.items
    c.in-None.ensures.steps.0 c.loop-part.invariant.so_far c.in_ok-push-2.ensures.items
