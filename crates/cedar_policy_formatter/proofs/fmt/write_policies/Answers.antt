use Rattle.std.proofs.Common.{◌≡◌, List, ℕ, [], ◌∷◌, ◌++◌, not, drop, take, length, ◌+◌, refl, ap, sym, ◌∙◌, subst}
use Rattle.std.specs.Prelude.{if◌then◌else◌, string_bytes}
use Rattle.std.proofs.lemmas.List.{drop-drop}
use Rattle.cedar_tokens.specs.Bytes.{line_feed}
use Rattle.cedar_tokens.specs.Tokens.{comments_left}
use Rattle.cedar_grammar.specs.Texts.{Accepted}
use Rattle.cedar_laws.specs.Canonical.{IsOutputOf}
use Rattle.cedar_laws.specs.Output.{closing_text}
use Rattle.cedar_reading.specs.Pieces.{IsFirstPiece, IsPiece}
use Rattle.cedar_cst.proofs.Readers.{front}
use Rattle.cedar_policy_formatter.proofs.FirstPieces.{first_alone}
use Rattle.cedar_policy_formatter.proofs.Piecewise.{laid_ends, laid_next, piece_refused, rest_refused, some_more, whole_accepted}
use Rattle.cedar_policy_formatter.proofs.fmt.write_policies.Goals as goal

pub lay_out-requires-clause-piece : goal.lay_out-requires-clause-piece
lay_out-requires-clause-piece g c =
    let rest = c.pieces.rest.now in
    let n = c.in-Some.len in
    let p = rw c.in-Some.is at c.in_ok-len.ensures.piece in
    subst (λ z. IsFirstPiece z (length z)) (sym (c.range.ensures.value ∙ front rest n))
    (first_alone rest n p)

pub refusal-requires : goal.refusal-requires
refusal-requires g c =
    let rest = c.pieces.rest.now in
    let n = c.in-Some.len in
    let p = rw c.in-Some.is at c.in_ok-len.ensures.piece in
    let so_far = c.pieces.invariant in
    piece_refused c.args.config.now.line_width c.args.config.now.indent_width c.args.ps.now
    so_far.at n rest c.range.result.now so_far.out so_far.left (c.range.ensures.value ∙ front rest n)
    p.piece so_far.laid (rw c.if-not-branch.true at c.in_ok-lay_out.ensures)

pub pieces-preserved : goal.pieces-preserved
pieces-preserved g c =
    let w = c.args.config.now.line_width in
    let i = c.args.config.now.indent_width in
    let rest = c.pieces.rest.now in
    let n = c.in-Some.len in
    let p = rw c.in-Some.is at c.in_ok-len.ensures.piece in
    let so_far = c.pieces.invariant in
    let feed : List ℕ = if not c.pieces.is_empty then line_feed ∷ [] else [] in
    let layout = string_bytes c.lay_out.new.layout in
    let both = g.met.S.Sink.takes_both in
    let put = subst (λ z. g.S.Sink.takes c.put_feed.new.sink z c.put.new.self)
    c.as_str.ensures.value c.in_ok-put.ensures in
    let laid = rw c.if-not-branch.false at c.in_ok-lay_out.ensures in
    let bytes : c.range.result.now ≡ take n (drop so_far.at c.args.ps.now) =
    c.range.ensures.value ∙ front rest n ∙ ap (take n) so_far.left in
    record {
      at = so_far.at + n;
      utf8 = c.range_from-rest.utf8;
      left = c.range_from-rest.ensures.value ∙ ap (drop n) so_far.left
          ∙ drop-drop n so_far.at c.args.ps.now;
      out = (so_far.out ++ feed) ++ layout;
      taken = both _ _ _ _ layout (both _ _ _ _ feed so_far.taken c.in_ok-put_feed.ensures) put;
      empty = some_more w i c.range.result.now (so_far.out ++ feed) _ layout laid refl;
      laid = laid_next w i c.args.ps.now so_far.at n so_far.out layout _ c.pieces.is_empty
          so_far.empty so_far.laid (subst (λ z. IsPiece z n) so_far.left p.piece)
          (subst (λ z. IsOutputOf w i z layout) bytes laid) refl;
    }

pub refusal-requires-then-not-branch-2 : goal.refusal-requires-then-not-branch-2
refusal-requires-then-not-branch-2 g c =
    let so_far = c.pieces.invariant in
    rest_refused c.args.config.now.line_width c.args.config.now.indent_width c.args.ps.now so_far.at
    c.pieces.rest.now so_far.out so_far.left so_far.laid
    (rw c.if-not-branch-2.true at c.in_ok-is_accepted.ensures)

pub returns-clause-answer : goal.returns-clause-answer
returns-clause-answer g c =
    let so_far = c.pieces.invariant in
    whole_accepted c.args.config.now.line_width c.args.config.now.indent_width c.args.ps.now
    so_far.at so_far.out so_far.laid
    (subst Accepted so_far.left (rw c.if-not-branch-2.false at c.in_ok-is_accepted.ensures))

pub returns-clause-output : goal.returns-clause-output
returns-clause-output g c =
    let so_far = c.pieces.invariant in
    let feed : List ℕ = if c.pieces.is_empty then line_feed ∷ [] else [] in
    let both = g.met.S.Sink.takes_both in
    let closing = closing_text (comments_left c.get_comment.result) in (
      (so_far.out ++ feed) ++ closing,
      laid_ends c.args.config.now.line_width c.args.config.now.indent_width c.args.ps.now so_far.at
          c.pieces.rest.now so_far.out _ c.pieces.is_empty so_far.left
          (rw c.in_default.is at c.in_ok-len.ensures.piece)
          (rw c.if-not-branch-2.false at c.in_ok-is_accepted.ensures) so_far.empty so_far.laid
          (ap (λ z. (so_far.out ++ feed) ++ closing_text z) c.get_comment.ensures),
      both _ _ _ _ closing
          (both _ _ _ _ feed so_far.taken c.in_ok-put_feed-2.ensures) c.in_ok-put_closing.ensures,
    )
