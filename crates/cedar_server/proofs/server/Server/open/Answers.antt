use Rattle.std.proofs.Common.{string_bytes, ap, sym, subst, ◌∙◌}
use Rattle.cedar_server.specs.Diagnoses.{AreDiagnoses}
use Rattle.cedar_server.proofs.server.Server.open.Goals as goal

pub returns-clause-ok : goal.returns-clause-ok
returns-clause-ok c =
    let text = string_bytes c.args.text in
    let e = c.args.self.now.encoding in
    let one = c.in_ok-message.ensures in
    let set = c.in_ok-set.ensures.ok in
    let found = c.in_ok-diagnoses.diagnoses.items in
    let wrong : AreDiagnoses e text found =
    subst (λ bytes. AreDiagnoses e bytes found) c.as_str.ensures.value c.in_ok-diagnoses.ensures in (
      record { own = set.own; others = set.others; phase = set.phase; encoding = set.encoding; wishes = set.wishes },
      ap (λ v. v.items) c.in_ok-set.ensures.unjudged,
      (
        one.0,
        one.1,
        c.in_ok-told.ensures ∙ one.2,
        one.3 ∙ c.as_str-2.ensures.value,
        subst (AreDiagnoses e text) (sym one.4) wrong,
      ),
    )
