use Rattle.std.proofs.Common.{◌++◌, ◌∷◌, [], refl, subst, sym}
use Rattle.cedar_server.specs.Talks.{Grows, events_of}
use Rattle.cedar_server.proofs.Talks.{events_of-append, grows_by_nothing, grows_twice, one_more_turn}
use Rattle.cedar_server.proofs.session.serve.Goals as goal

pub turns-init : goal.turns-init
turns-init g c = (
  c.new-server.result,
  [],
  record {
    phase = c.new-server.ensures.phase;
    documents = c.new-server.ensures.documents;
    unjudged = c.new-server.ensures.unjudged;
  },
  refl,
  grows_by_nothing (g.C.Client.talk c.args.client.now),
)

pub turns-preserved : goal.turns-preserved
turns-preserved g c =
    let talk = g.C.Client.talk in
    let before = c.turns.invariant in
    let turn = c.in_ok-take_turn.ensures in (
      before.0,
      before.1 ++ (turn.0 ∷ []),
      before.2,
      one_more_turn before.1 turn.0 before.0 c.turns.server c.take_turn.new.server before.3 turn.1,
      subst (λ es. Grows es (talk c.args.client.now) (talk c.take_turn.new.client)) (sym (events_of-append before.1 (turn.0 ∷ [])))
          (grows_twice (events_of before.1) (events_of (turn.0 ∷ [])) (talk c.args.client.now) (talk c.turns.client)
          (talk c.take_turn.new.client) before.4 turn.2),
    )

pub returns-in-Ended : goal.returns-in-Ended
returns-in-Ended g c =
    let talk = g.C.Client.talk in
    let before = c.turns.invariant in
    let turn = c.in_ok-take_turn.ensures in
    record {
      turns = before.1 ++ (turn.0 ∷ []);
      start = before.0;
      end = c.take_turn.new.server;
      fresh = before.2;
      are_turns = one_more_turn before.1 turn.0 before.0 c.turns.server c.take_turn.new.server before.3 turn.1;
      ended = c.in-Ended.is;
      talk = subst (λ es. Grows es (talk c.args.client.now) (talk c.take_turn.new.client)) (sym (events_of-append before.1 (turn.0 ∷ [])))
          (grows_twice (events_of before.1) (events_of (turn.0 ∷ [])) (talk c.args.client.now) (talk c.turns.client)
          (talk c.take_turn.new.client) before.4 turn.2);
    }
