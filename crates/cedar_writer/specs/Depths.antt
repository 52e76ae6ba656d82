-- What rules do where so many ifs and brackets may still be nested.
use Rattle.std.specs.Prelude.{ℕ, zero, suc, ℤ, true, false}
use Rattle.cedar_tokens.specs.declared.kind.Kind.{Kind}
use Rattle.cedar_tokens.specs.Kinds.{is}
pub use Rattle.cedar_written.specs.NodeLines.{has_room}
use Rattle.cedar_writer.specs.Rules.{Rule, tok, ◌▸◌}
use Rattle.cedar_writer.specs.Writing.{State, first, goes, refuse, size, turns, run, expr_to}

-- what may be inside a bracket or an if
abbrev pub inside : ℤ → ℕ → State → State
inside i zero = refuse true
inside i (suc n) = expr_to i n

-- a line of expressions, with at most n levels
abbrev pub at_depth : ℤ → ℕ → Rule → State → State
at_depth i n R s = run (has_room n) (inside i n) R s

-- a line of policies, with at most n levels in an expression
abbrev pub around : ℤ → ℕ → Rule → State → State
around i n R s = run true (expr_to i n) R s

-- a line that has no expressions in it
abbrev pub alone : Rule → State → State
alone R s = run false (refuse true) R s

-- a token of the kind k and x, as often as both begin
abbrev pub often_at : ℤ → ℕ → Kind → Rule → State → State
often_at i n k x s = turns (goes (is k) (first x)) (at_depth i n (tok k ▸ x)) (size s) s

abbrev pub often : Kind → Rule → State → State
often k x s = turns (goes (is k) (first x)) (alone (tok k ▸ x)) (size s) s
