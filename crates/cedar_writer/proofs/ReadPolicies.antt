-- Reading and writing a policy, and the written grammar.
use Rattle.std.proofs.Common.{◌≡◌, ◌+◌, [], ◌++◌, length, sym, ap, ◌∙◌, arith, subst}
use Rattle.cedar_print.specs.WrittenMarks.{AreMarks}
use Rattle.cedar_writer.specs.Laws.{ReadPoliciesAreWritten, WrittenPoliciesAreRead, PoliciesHaveOneDocument}
use Rattle.cedar_writer.specs.Writing.{going, policy_to}
use Rattle.cedar_writer.proofs.OneDocument.{marks_are_of_one}
use Rattle.cedar_writer.proofs.SameRows.{Tokens, tokens_parts}
use Rattle.cedar_writer.proofs.PolicyRows.{policy}
use Rattle.cedar_writer.proofs.Sound.{policy_sound, same_marks}
use Rattle.cedar_writer.proofs.Complete.{policy_complete}

pub read_policies_are_written : ReadPoliciesAreWritten
read_policies_are_written i n ts us ms ns r q k e =
    let x = policy_sound i n ts us ms ns r q e in
    let y = (policy i n).back x.tokens x.marks (tokens_parts x.tokens us (subst Tokens x.split k)).0
    x.row in
    (x.tokens, x.marks, y.0, x.split, x.written, y.1, y.2)

pub written_policies_are_read : WrittenPoliciesAreRead
written_policies_are_read i n xs us d ms x =
    let y = (policy i n).there xs d x in
    (y.0, y.1, λ r. policy_complete i n xs y.0 us ms r y.2)

pub policies_have_one_document : PoliciesHaveOneDocument
policies_have_one_document i n ts d e x y =
    let a = written_policies_are_read i n ts [] d [] x in
    let b = written_policies_are_read i n ts [] e [] y in
    let c : length b.0 + length a.0 ≡ length a.0 + length b.0 = omega arith in
    let same : a.0 ≡ b.0 = same_marks (sym (a.2 (length b.0))
    ∙ (ap (λ z. policy_to i n (going (ts ++ []) [] z)) (sym c) ∙ b.2 (length a.0))) in
    marks_are_of_one b.0 d e (subst (λ z. AreMarks z d) same a.1) b.1
