use Rattle.std.proofs.Common.{◌≡◌, ◌++◌, ◌∷◌, map, drop, None}
use Rattle.std.specs.Option.{option_map}
use Rattle.cedar_tokens.specs.Tokens.{decorated, trailing_text}
use Rattle.cedar_tokens.specs.Inside.MovedLines.{moved_lines, lines_of}
use Rattle.cedar_tokens.proofs.commas.all_moved_lines.Given as goal

abbrev pub invariant-loop-token : goal.invariant-loop-token
invariant-loop-token l = map lines_of l.moved.items
    ++ moved_lines (option_map (λ w. trailing_text w.now.comment) l.before) (decorated l.last
    ∷ map decorated (drop l.token-index l.rest)) ≡ moved_lines None (map decorated l.fn.tokens)
