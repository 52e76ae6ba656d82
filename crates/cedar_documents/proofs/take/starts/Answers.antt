use Rattle.std.proofs.Common.{◌≡◌, ◌<◌, ◌≤◌, false, length, sym, ◌∙◌, subst, arith}
use Rattle.std.specs.Prelude.{nat_lt}
use Rattle.std.proofs.lemmas.Bool.Decides.{nat_tests}
use Rattle.cedar_documents.proofs.Places.{before, starts_none, starts_some}
use Rattle.cedar_documents.proofs.take.starts.Goals as goal

pub returns-then-place-tokens : goal.returns-then-place-tokens
returns-then-place-tokens c =
    let ts = c.args.tokens.now in
    let n : before c.args.byte ts < length ts =
    subst (λ k. k < length ts) c.count_before-place.ensures c.if-place-tokens.true in
    rw c.count_before-place.ensures
    (sym (starts_some c.args.byte 0 ts c.index-tokens-place.result c.requires n))

pub returns-else-place-tokens : goal.returns-else-place-tokens
returns-else-place-tokens c =
    let ts = c.args.tokens.now in
    let n : length ts ≤ before c.args.byte ts =
    subst (λ k. length ts ≤ k) c.count_before-place.ensures c.if-place-tokens.false in
    let f : nat_lt c.count_before-place.result (length ts) ≡ false = grind (arith, nat_tests) in
    f ∙ sym (starts_none c.args.byte 0 ts c.requires n)
