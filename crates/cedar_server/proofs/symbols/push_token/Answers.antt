use Rattle.std.proofs.Common.{◌≡◌, ◌++◌, ◌∙◌, sym, ap, lit<}
use Rattle.std.specs.Prelude.{string_bytes}
use Rattle.std.proofs.lemmas.List.{append_assoc}
use Rattle.cedar_tokens.specs.TokenKinds.{kind_of}
use Rattle.cedar_server.specs.Symbols.{space_between}
use Rattle.cedar_server.specs.Inside.Heads.{needs_space}
use Rattle.cedar_server.proofs.Heading.{spaced, unspaced}
use Rattle.cedar_server.proofs.symbols.push_token.Goals.{then-needs_space+in_ok-push, else-needs_space}
use Rattle.cedar_server.proofs.symbols.push_token.Goals as goal

pub returns : goal.returns
returns c =
    let line = string_bytes c.args.line.now in
    let text = c.args.text.now in
    let asked = c.needs_space.ensures ∙ ap (needs_space c.args.before) c.kind_of.ensures in
    let so_far : string_bytes c.if-needs_space.line ≡ line ++ space_between c.args.before (kind_of text) =
    elim c.if-needs_space.branch [
      | then-needs_space+in_ok-push w ↦ ap string_bytes w.line-is ∙ w.in_ok-push.ensures.bytes ∙ ap (λ z. line ++ z) (w.in_ok-push.ensures.ascii (lit< tt))
          ∙ spaced c.args.before (kind_of text) line (sym asked ∙ w.if-needs_space.true)
      | else-needs_space w ↦ ap string_bytes w.line-is
          ∙ unspaced c.args.before (kind_of text) line (sym asked ∙ w.if-needs_space.false)
    ] in
    c.in_ok-push_str.ensures.bytes ∙ ap (λ z. z ++ text) so_far
    ∙ append_assoc line (space_between c.args.before (kind_of text)) text
