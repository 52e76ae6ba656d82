use Rattle.std.proofs.Common.{List, [], ◌∷◌, ◌++◌, true, false, inr, ap, subst, sym, ◌∙◌, ◌≡◌, Some}
use Rattle.cedar_server.specs.Sessions.{document_of, lost}
use Rattle.cedar_server.specs.declared.messages.ServerMessage.{ServerMessage}
use Rattle.cedar_server.specs.declared.messages.ServerMessage.TheVariants.{Notice}
use Rattle.cedar_server.proofs.server.Server.lose.Goals as goal

pub returns-clause-ok : goal.returns-clause-ok
returns-clause-ok c =
    let one = c.in_ok-message.ensures in
    let name = c.in_ok-name.name in
    inr (
      (λ is. let never : false ≡ true = c.if-is_lost.ensures.1
          (subst (λ bytes. document_of c.args.self.now bytes ≡ Some lost) (sym c.as_str.ensures.value) is) in cc),
      (
        c.in_ok-set.ensures.ok,
        ap (λ v. v.items) c.in_ok-set.ensures.unjudged,
        c.in_ok-message.message ∷ [],
        name,
        (one.0, one.1, one.2, one.3 ∙ c.as_str-2.ensures.value, one.4),
        c.in_ok-name.ensures.ok ∙ c.as_str-3.ensures.value,
        c.in_ok-push.ensures.items ∙ ap (λ (ms : List ServerMessage). ms ++ (Notice (Some name) ∷ [])) c.in_ok-told.ensures,
      ),
    )
