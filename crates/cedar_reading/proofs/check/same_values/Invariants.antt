use Rattle.std.proofs.Common.{◌≡◌, map, take}
use Rattle.cedar_tokens.specs.Tokens.{decorated}
use Rattle.cedar_laws.specs.Output.{with_value}
use Rattle.cedar_reading.proofs.check.same_values.Given as goal

-- the tokens so far are the same
abbrev pub invariant-loop-at : goal.invariant-loop-at
invariant-loop-at l =
    map with_value (map decorated (take l.at l.a)) ≡ map with_value (map decorated (take l.at l.b))
