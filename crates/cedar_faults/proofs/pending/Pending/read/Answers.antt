use Rattle.std.proofs.Common.{◌≡◌, ◌∷◌, ℕ, List, [], ◌++◌, map, refl, sym, ap, ◌∙◌, true, arith}
use Rattle.std.specs.Prelude.{reverse}
use Rattle.cedar_tokens.specs.declared.kind.Kind.{Kind}
use Rattle.cedar_faults.specs.Inside.Turns.{step_of, turn, taken, opened, stopped}
use Rattle.cedar_faults.specs.Inside.Pendings.{pair, parts_of, with_levels}
use Rattle.cedar_faults.specs.Inside.Reaching.{levels_in, room, reads_parts, left}
use Rattle.cedar_faults.proofs.Pendings.{none_left, next_part, room_is, if_taken, if_opened, if_stopped}
use Rattle.cedar_faults.proofs.Weights.{total, total_less}
use Rattle.cedar_faults.proofs.pending.Pending.read.Goals as goal

pub loop-ahead-init : goal.loop-ahead-init
loop-ahead-init c = λ ts. refl

pub returns-in-Takes : goal.returns-in-Takes
returns-in-Takes c = λ ts.
    let p = c.in-Some.ahead.part in
    let n = c.in-Some.ahead.levels in
    let rest = reverse (map pair c.pop.new.self.items) in
    c.loop-ahead.invariant ts
    ∙ ap (λ xs. reads_parts (reverse (map pair xs)) (c.args.kind ∷ ts)) c.in-Some.ensures.items
    ∙ ap (λ xs. reads_parts xs (c.args.kind ∷ ts)) (next_part c.pop.new.self.items c.in-Some.ahead)
    ∙ if_taken p n rest c.args.kind ts c.in-Takes.parts.now
    (sym (ap (turn p c.args.kind) (room_is n)) ∙ sym c.turn.ensures ∙ ap step_of c.in-Takes.is)
    ∙ sym (ap (λ xs. reads_parts xs ts) (c.in_ok-put-in-Takes.ensures
    ∙ ap (λ m. map (with_levels m) c.in-Takes.parts.now ++ rest) c.levels_inside-inside.ensures))

pub loop-ahead-smaller : goal.loop-ahead-smaller
loop-ahead-smaller c =
    let p = c.in-Some.ahead.part in
    let n = c.in-Some.ahead.levels in
    let rest = reverse (map pair c.pop.new.self.items) in
    let old = ap (λ xs. total (reverse (map pair xs))) c.in-Some.ensures.items ∙ ap total
    (next_part c.pop.new.self.items c.in-Some.ahead) in
    let new = ap total c.in_ok-put-in-Opens.ensures in
    let less = total_less p n c.levels_inside-inside.result c.args.kind
    (room n) c.in-Opens.parts.now rest
    (sym (ap (turn p c.args.kind) (room_is n)) ∙ sym c.turn.ensures ∙ ap step_of c.in-Opens.is) in
    omega (arith, old, new, less)

pub loop-ahead-preserved : goal.loop-ahead-preserved
loop-ahead-preserved c = λ ts.
    let p = c.in-Some.ahead.part in
    let n = c.in-Some.ahead.levels in
    let rest = reverse (map pair c.pop.new.self.items) in
    c.loop-ahead.invariant ts
    ∙ ap (λ xs. reads_parts (reverse (map pair xs)) (c.args.kind ∷ ts)) c.in-Some.ensures.items
    ∙ ap (λ xs. reads_parts xs (c.args.kind ∷ ts)) (next_part c.pop.new.self.items c.in-Some.ahead)
    ∙ if_opened p n rest c.args.kind ts c.in-Opens.parts.now
    (sym (ap (turn p c.args.kind) (room_is n)) ∙ sym c.turn.ensures ∙ ap step_of c.in-Opens.is)
    ∙ sym (ap (λ xs. reads_parts xs (c.args.kind ∷ ts)) (c.in_ok-put-in-Opens.ensures
    ∙ ap (λ m. map (with_levels m) c.in-Opens.parts.now ++ rest) c.levels_inside-inside.ensures))

pub returns-in-Stops : goal.returns-in-Stops
returns-in-Stops c = λ ts.
    let p = c.in-Some.ahead.part in
    let n = c.in-Some.ahead.levels in
    let rest = reverse (map pair c.pop.new.self.items) in
    ap left (c.loop-ahead.invariant ts
    ∙ ap (λ xs. reads_parts (reverse (map pair xs)) (c.args.kind ∷ ts)) c.in-Some.ensures.items
    ∙ ap (λ xs. reads_parts xs (c.args.kind ∷ ts)) (next_part c.pop.new.self.items c.in-Some.ahead))
    ∙ if_stopped p n rest c.args.kind ts
    (sym (ap (turn p c.args.kind) (room_is n)) ∙ sym c.turn.ensures ∙ ap step_of c.in-Stops.is)

pub returns : goal.returns
returns c = λ ts. ap left (c.loop-ahead.invariant ts ∙ ap (λ xs. reads_parts (reverse
    (map pair xs)) (c.args.kind ∷ ts))
    (none_left c.loop-ahead.self.parts.items c.pop.new.self.items _ c.in_default.ensures.cases.0 c.in_default.ensures.items c.in_default.ensures.rest))
