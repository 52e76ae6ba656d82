use Rattle.std.proofs.Common.{inl, refl, ap, subst}
use Rattle.cedar_server.specs.Sessions.{IsUnjudged}
use Rattle.cedar_server.proofs.server.Server.receive.Goals as goal

pub returns-then-is_unjudged-clause-ok : goal.returns-then-is_unjudged-clause-ok
returns-then-is_unjudged-clause-ok c = (
  c.in_ok-set.ensures.ok,
  inl (
    subst (IsUnjudged c.args.self.now) c.as_str.ensures.value (c.if-is_unjudged.ensures.0 refl),
    ap (λ v. v.items) c.in_ok-set.ensures.unjudged,
  ),
  c.new.ensures.items,
)
