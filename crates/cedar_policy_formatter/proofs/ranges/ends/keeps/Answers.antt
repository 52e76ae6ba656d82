use Rattle.std.proofs.Common.{◌≢◌, inl, inr, rules}
use Rattle.std.specs.Prelude.{◌↔◌, IsTrue}
use Rattle.std.proofs.lemmas.Result.{IfOk-weaker}
use Rattle.cedar_grammar.specs.Texts.{Accepted}
use Rattle.cedar_grammar.specs.declared.error.FormatError.TheVariants.{OutOfMemory}
use Rattle.cedar_policy_formatter.specs.Refused.{RefusesOne}
use Rattle.cedar_policy_formatter.specs.Keeping.{Keeps}
use Rattle.cedar_policy_formatter.proofs.OnlyMemory.{not_memory}
use Rattle.cedar_policy_formatter.proofs.ranges.ends.keeps.Goals as goal

pub returns-in-Err : goal.returns-in-Err
returns-in-Err c =
    let text = c.args.text.now in
    let other = c.args.other.now in
    let e = c.in-Err.field-0 in
    let not_out : e ≢ OutOfMemory = search rules in
    let refused : RefusesOne text other e =
    not_memory (RefusesOne text other) e not_out c.in-Err.ensures.answer in
    let from_keeps : Keeps text other → ¬ (Accepted text) = λ keeps accepted. elim refused [
      | inl first ↦ c.accepted_is_not_refused.ensures text e accepted
          ((c.written_texts_agree.ensures.refused text e).1 first)
      | inr second ↦ c.accepted_is_not_refused.ensures other e (keeps accepted).0
          ((c.written_texts_agree.ensures.refused other e).1 second.1)
    ] in
    IfOk-weaker c.is_refused.result (λ r. IsTrue r ↔ ¬ (Accepted text))
    (λ r. IsTrue r ↔ Keeps text other) (λ r p. (
      λ yes accepted. absurd (p.0 yes accepted),
      λ keeps. p.1 (from_keeps keeps),
    )) c.is_refused.ensures
