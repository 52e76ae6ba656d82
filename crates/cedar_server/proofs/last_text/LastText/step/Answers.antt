use Rattle.std.proofs.Common.{◌≡◌, ◌-◌, drop, get_or, sym, ap, subst, ◌∙◌, arith}
use Rattle.std.specs.List.{All}
use Rattle.std.proofs.lemmas.List.Elements.{All-push}
use Rattle.cedar_tokens.specs.Bytes.{line_feed}
use Rattle.cedar_faults.specs.Faults.{BeginsWithPolicy}
use Rattle.cedar_server.specs.Inside.Standing.{StandsAt}
use Rattle.cedar_server.proofs.Standing.{read_stands, span_stands}
use Rattle.cedar_server.proofs.last_text.LastText.step.Goals.{in-Policy+then-as_bytes-end-eq10+in_ok-push, in-Policy+else-as_bytes-end-eq10, in_default}
use Rattle.cedar_server.proofs.last_text.LastText.step.Goals as goal

pub returns-clause-standing : goal.returns-clause-standing
returns-clause-standing c = λ before.
    let text = c.args.reader.now.text in
    let P = StandsAt text in
    elim c.match-step.branch [
      | in-Policy+then-as_bytes-end-eq10+in_ok-push w ↦
          let at = c.args.reader.now.at in
          let rest = c.rest-rest.result.now in
          let s = rw w.in-Policy.is at c.in_ok-step.ensures.step in
          let p : BeginsWithPolicy rest s.0 = subst (λ z. BeginsWithPolicy z s.0) (sym c.rest-rest.ensures) s.1 in
          let i : w.at-end.result - c.at-start.result - 1 ≡ s.0 - 1 = omega (arith, s.2, w.at-end.ensures, c.at-start.ensures) in
          let last : get_or rest (s.0 - 1) 0 ≡ line_feed =
          subst (λ k. get_or rest k 0 ≡ line_feed) i (subst (λ z. get_or z (w.at-end.result - c.at-start.result - 1) 0 ≡ line_feed)
          w.as_bytes.ensures.value w.if-as_bytes-end-eq10.true) in
          subst (λ v. All P v.items) (sym w.standing-is) (subst (All P) (sym w.in_ok-push.ensures.items)
          (All-push P c.args.standing.now.items _ before
          (span_stands text rest c.at-start.result w.at-end.result s.0 (c.rest-rest.ensures ∙ ap (λ i. drop i text) (sym c.at-start.ensures))
          (omega (arith, s.2, w.at-end.ensures, c.at-start.ensures)) (read_stands rest s.0 p.piece p.accepted last))))
      | in-Policy+else-as_bytes-end-eq10 w ↦ subst (λ v. All P v.items) (sym w.standing-is) before
      | in_default w ↦ subst (λ v. All P v.items) (sym w.standing-is) before
    ]
