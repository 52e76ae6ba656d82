use Rattle.std.proofs.Common.{◌≡◌, true, false, subst, sym}
use Rattle.std.specs.Prelude.{All}
use Rattle.cedar_server.specs.Sessions.{IsPart}
use Rattle.cedar_server.proofs.Losing.{text_given}
use Rattle.cedar_server.proofs.documents.given_text.Goals as goal

pub returns : goal.returns
returns c = text_given c.args.encoding c.args.changes.items _ _ c.in_ok-text.ensures
    (λ parts. let never : false ≡ true = c.if-are_parts.ensures.1
    (subst (All IsPart) (sym c.deref.ensures.value) parts) in cc)
