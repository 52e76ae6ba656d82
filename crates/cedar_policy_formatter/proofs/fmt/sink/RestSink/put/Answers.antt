use Rattle.std.proofs.Common.{◌≡◌, ◌++◌, Some, subst, sym, ap, ◌∙◌}
use Rattle.std.specs.Prelude.{◌↔◌}
use Rattle.cedar_policy_formatter.specs.Inside.Sinks.{left_in}
use Rattle.cedar_policy_formatter.proofs.Sinks.{Strips, passed}
use Rattle.cedar_policy_formatter.proofs.fmt.sink.RestSink.put.Goals as goal

pub returns-in-Some : goal.returns-in-Some
returns-in-Some c = λ y.
    let r = c.strip_prefix-self-inside.result in
    let left = c.in-Some.left.now in
    let own : c.args.self.now ≡ Some left = sym c.self.view_is ∙ ap left_in c.in-Some.is in
    let h = subst
    (λ z. Strips left z r) c.as_bytes.ensures.value c.strip_prefix-self-inside.ensures.cases in
    subst (λ z. (z ≡ Some (c.args.text.now ++ y)) ↔ (left_in r ≡ Some y)) (sym own)
    (passed left c.args.text.now r h y)
