use Rattle.std.proofs.Common.{◌≡◌, ◌≤◌, ◌++◌, map, take, drop, length, vec_len, vec_capacity}
use Rattle.cedar_layout.specs.Lookups.{shown, comment_parts, emptied}
use Rattle.cedar_layout.proofs.utils.lookups.take_all.Given as goal

abbrev pub invariant-loop-token : goal.invariant-loop-token
invariant-loop-token l = record {
  room : length l.tokens ≤ vec_capacity l.comments;
  few : vec_len l.comments ≤ l.token-index;
  left : map shown l.tokens ≡ map emptied (take l.token-index (map shown l.fn.tokens))
      ++ drop l.token-index (map shown l.fn.tokens);
  got : map comment_parts l.comments.items
      ≡ map (λ t. t.comment) (take l.token-index (map shown l.fn.tokens));
}
