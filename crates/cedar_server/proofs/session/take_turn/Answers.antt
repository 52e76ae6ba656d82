use Rattle.std.proofs.Common.{◌++◌, refl}
use Rattle.cedar_server.proofs.Talks.{one_turn}
use Rattle.cedar_server.proofs.session.take_turn.Goals as goal

pub returns : goal.returns
returns g c =
    let m = c.in_ok-message.field-0.message in
    let p = c.in_ok-message.field-0.project in
    let before = c.in_ok-settle_if.ensures in
    let own = c.in_ok-own.own.items in
    let after = c.in_ok-settle_if-2.ensures in
    let talk = g.C.Client.talk in (
      record { message = m; project = p; answers = before.0 ++ (own ++ after.0) },
      record {
        before = before.0;
        own = own;
        after = after.0;
        asked = c.settle_if.new.server;
        answered = c.step.new.self;
        answers = refl;
        first = before.1;
        step = c.in_ok-own.ensures.ok;
        last = after.1;
      },
      one_turn m p before.0 own after.0 (talk c.args.client.now) (talk c.receive.new.self) (talk c.settle_if.new.client)
          (talk c.tell_all.new.client) (talk c.settle_if-2.new.client)
          c.in_ok-message.ensures before.2 c.in_ok-tell_all.ensures after.2,
    )
