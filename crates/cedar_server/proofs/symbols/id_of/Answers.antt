use Rattle.std.proofs.Common.{take, arith, subst, sym}
use Rattle.std.proofs.lemmas.List.{take_all, take_more}
use Rattle.std.proofs.lemmas.List.Elements.{All-push}
use Rattle.std.specs.Prelude.{All}
use Rattle.cedar_server.specs.Symbols.{IsNoId}
use Rattle.cedar_server.proofs.symbols.id_of.Goals as goal

pub loop-annotation-preserved : goal.loop-annotation-preserved
loop-annotation-preserved c =
    let xs = c.args.annotations.now in
    let k = c.loop-annotation.annotation-index in
    let here = rw c.in_default.is at c.id_in.ensures in
    subst (All IsNoId) (sym (take_more xs k _ c.loop-annotation-test.true))
    (All-push IsNoId (take k xs) _ c.loop-annotation.invariant here)

pub returns : goal.returns
returns c = subst (All IsNoId)
    (take_all c.loop-annotation.annotation-index c.args.annotations.now (omega arith))
    c.loop-annotation.invariant
