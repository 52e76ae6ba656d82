use Rattle.std.proofs.Common.{◌≡◌, ◌≢◌, ◌+◌, arith, length}
use Rattle.std.specs.Prelude.{codes}
use Rattle.std.proofs.lemmas.Bool.Decides.{Decides-eqb}
use Rattle.std.proofs.lemmas.Slice.Eq.{slice_eq-Decides}
use Rattle.cedar_server.specs.PartSteps.{parts_left}
use Rattle.cedar_server.proofs.Reading.{place_more}
use Rattle.cedar_server.proofs.Sectioning.{goes_on, ends_here, boundary_here}
use Rattle.cedar_server.proofs.sections.section_len.Goals as goal

pub returns-then-eq-clause-section : goal.returns-then-eq-clause-section
returns-then-eq-clause-section c =
    let g = c.in-Some.ensures.steps in
    let same = slice_eq-Decides Decides-eqb c.in-Some.part.text.now _ c.eq.result c.eq.ensures in
    ends_here _ _ _ _ _ c.loop-part.invariant.so_far g.0 g.2 (same.0 c.if-eq.true)

pub returns-then-eq-clause-boundary : goal.returns-then-eq-clause-boundary
returns-then-eq-clause-boundary c =
    let g = c.in-Some.ensures.steps in
    let more : c.loop-part.end + length c.in-Some.part.text.now + length (parts_left c.next.new.self) ≡ length c.args.text.now =
    place_more _ _ _ _ _ c.loop-part.invariant.place g.2 in
    boundary_here _ _ _ _ _ c.loop-part.invariant.so_far g.0 g.2 c.utf8.text (omega (arith, more))

pub loop-part-preserved : goal.loop-part-preserved
loop-part-preserved c =
    let g = c.in-Some.ensures.steps in
    let same = slice_eq-Decides Decides-eqb c.in-Some.part.text.now _ c.eq.result c.eq.ensures in
    let other : c.in-Some.part.text.now ≢ codes ";" =
    λ e. (let t = same.1 e in let f = c.if-eq.false in cc) in
    record {
      can_next = tt;
      is_finite = tt;
      place = place_more _ _ _ _ _ c.loop-part.invariant.place g.2;
      so_far = goes_on _ _ _ _ _ c.loop-part.invariant.so_far g.0 g.2 other;
    }
