use Rattle.std.proofs.Common.{◌≡◌, ◌∙◌, take, drop, refl, sym, ap, subst}
use Rattle.std.proofs.lemmas.Result.{err_from_is_err_and}
use Rattle.cedar_grammar.specs.Refusals.{OutOfMemoryOr, Refuses}
use Rattle.cedar_reading.specs.Tokens.{HasTokens}
use Rattle.cedar_reading.specs.Lexemes.{AreLexemes}
use Rattle.cedar_reading.specs.Pieces.{IsFirstPiece, HasNoPiece}
use Rattle.cedar_cst.specs.Inside.Parts.{HasPoliciesFrom, RefusesFrom, IsNext}
use Rattle.cedar_cst.specs.PolicyReaders.{Position, HasEnded}
use Rattle.cedar_cst.proofs.Readers.{front, next_piece, only_policy, piece_refuses, reader_ends, rest_refuses, tokens_join, tokens_refuse}
use Rattle.cedar_cst.proofs.Moved.{given_moved}
use Rattle.cedar_cst.proofs.cst.reader.PolicyReader.read_piece.Goals as goal

pub returns-in_err-check_rest-clause-refusal : goal.returns-in_err-check_rest-clause-refusal
returns-in_err-check_rest-clause-refusal c =
    let e = c.in_err-check_rest.field-0.0 in
    let p = err_from_is_err_and c.from_residual-in_err-check_rest.result
    c.from_residual-in_err-check_rest.ensures.1 in
    rw (p.1, p.2) (tokens_refuse _ e c.in_err-check_rest.ensures)

pub returns-in_err-parse_part-clause-refusal : goal.returns-in_err-parse_part-clause-refusal
returns-in_err-parse_part-clause-refusal c =
    let text = c.self.inside.text.now in
    let at = c.self.inside.at in
    let e = c.in_err-parse_part.field-0.0 in
    let rest : c.rest-rest.result.now ≡ drop at text =
    c.rest-rest.ensures ∙ sym (ap (λ (z : Position). drop z.at z.text) c.self.view_is) in
    let tokens : HasTokens (drop at text) = subst (λ (z : Position). HasTokens (drop z.at z.text))
    (sym c.self.view_is) c.in_ok-check_rest.ensures in
    let refused : OutOfMemoryOr (Refuses text) e =
    rest_refuses text at c.self.invariant (tokens_join text at c.self.invariant tokens) e
    (subst (λ x. RefusesFrom at x e) rest c.in_err-parse_part.ensures.policies) in
    let p = err_from_is_err_and c.from_residual-in_err-parse_part.result
    c.from_residual-in_err-parse_part.ensures.1 in
    rw (p.1, p.2)
    (subst (λ (z : Position). OutOfMemoryOr (Refuses z.text) e) c.self.view_is refused)

pub returns-in_default-clause-answer : goal.returns-in_default-clause-answer
returns-in_default-clause-answer c =
    let text = c.self.inside.text.now in
    let at = c.self.inside.at in
    let qs = c.in_ok-parse_part.field-0.policies.items in
    let rest : c.rest-rest.result.now ≡ drop at text =
    c.rest-rest.ensures ∙ sym (ap (λ (z : Position). drop z.at z.text) c.self.view_is) in
    let tokens : HasTokens (drop at text) = subst (λ (z : Position). HasTokens (drop z.at z.text))
    (sym c.self.view_is) c.in_ok-check_rest.ensures in
    let none = rw c.in_default.is at c.in_ok-len.ensures.piece in
    subst HasEnded c.self.view_is
    (reader_ends text at c.args.by qs c.self.invariant
    (subst HasNoPiece rest (none (subst HasTokens (sym rest) tokens)))
    (subst (λ x. HasPoliciesFrom c.args.by x qs) rest c.in_ok-parse_part.ensures.policies))

pub returns-in-Err-clause-refusal : goal.returns-in-Err-clause-refusal
returns-in-Err-clause-refusal c =
    let text = c.self.inside.text.now in
    let at = c.self.inside.at in
    let n = c.in-Some.len in
    let e = c.in-Err.refusal in
    let rest : c.rest-rest.result.now ≡ drop at text =
    c.rest-rest.ensures ∙ sym (ap (λ (z : Position). drop z.at z.text) c.self.view_is) in
    let first : IsFirstPiece (drop at text) n =
    subst (λ x. IsFirstPiece x n) rest (rw c.in-Some.is at c.in_ok-len.ensures.piece) in
    let bytes : c.range-text.result.now ≡ take n (drop at text) =
    c.range-text.ensures.value ∙ front c.rest-rest.result.now n ∙ ap (take n) rest in
    subst (λ (z : Position). OutOfMemoryOr (Refuses z.text) e) c.self.view_is
    (piece_refuses text at c.self.invariant c.in_ok-check_tokens-in-Err.ensures.tokens n first.piece
    e (subst (λ x. RefusesFrom at x e) bytes c.in-Err.ensures.policies))

pub returns-in-Some-pop-clause-answer : goal.returns-in-Some-pop-clause-answer
returns-in-Some-pop-clause-answer c =
    let text = c.self.inside.text.now in
    let at = c.self.inside.at in
    let v = c.in-Ok.policies.policies in
    let rest : c.rest-rest.result.now ≡ drop at text =
    c.rest-rest.ensures ∙ sym (ap (λ (z : Position). drop z.at z.text) c.self.view_is) in
    let next = next_piece text at c.in-Some.len c.rest-rest.result.now c.range-text.result.now
    c.self.invariant.inside rest (c.range-text.ensures.value
    ∙ front c.rest-rest.result.now c.in-Some.len) (rw c.in-Some.is at c.in_ok-len.ensures.piece)
    (rw c.in-Some.is at c.in_ok-len.ensures.boundary) in
    let one = only_policy c.range-text.result.now c.args.by v.len v.items c.pop.result
    c.rest-rest.result.now c.in-Some.len (c.range-text.ensures.value
    ∙ front c.rest-rest.result.now c.in-Some.len) (rw c.in-Some.is at c.in_ok-len.ensures.piece)
    c.in-Ok.ensures.policies v.ok.0 c.pop.ensures.value in
    let same : one.0 ≡ c.in-Some-pop.policy = cc in (
      subst (λ (z : Position). IsNext z c.range-text.result.now) c.self.view_is next,
      (record { policies = v }, c.in-Ok.ensures.policies, rw (← same) one.2),
    )

pub returns-in-Some-pop-clause-lexemes : goal.returns-in-Some-pop-clause-lexemes
returns-in-Some-pop-clause-lexemes c =
    let bytes : c.range-text.result.now ≡ take c.in-Some.len c.rest-rest.result.now =
    c.range-text.ensures.value ∙ front c.rest-rest.result.now c.in-Some.len in
    let items = c.read_piece.new.lexemes.items in
    let own = rw c.in-Some.is at c.in_ok-len.ensures.lexemes in (
      items,
      subst (λ z. AreLexemes z items) (sym bytes) own,
      given_moved c.args.by c.read_piece.new.lexemes.len items c.deref_mut-2.result.now
          c.parse_part-2.new.lexemes _ c.deref_mut-2.ensures.value c.deref_mut-2.ensures.len
          c.in-Ok.ensures.moved refl,
    )

pub returns-clause-answer : goal.returns-clause-answer
returns-clause-answer c =
    let v = c.in-Ok.policies.policies in
    let one = only_policy c.range-text.result.now c.args.by v.len v.items c.pop.result
    c.rest-rest.result.now c.in-Some.len (c.range-text.ensures.value
    ∙ front c.rest-rest.result.now c.in-Some.len) (rw c.in-Some.is at c.in_ok-len.ensures.piece)
    c.in-Ok.ensures.policies v.ok.0 c.pop.ensures.value in
    absurd cc
