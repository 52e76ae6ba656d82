use Rattle.std.proofs.Common.{◌≡◌, ℕ, ◌<◌, String, Global, string_bytes}
use Rattle.std.proofs.Common.{get_or}
use Rattle.cedar_server.proofs.server.Server.is_unjudged.Given as goal

abbrev pub invariant-loop-name : goal.invariant-loop-name
invariant-loop-name l = (k : ℕ) (d : String Global) → k < l.name-index
    → string_bytes (get_or l.fn.self.unjudged.items k d) ≡ l.fn.uri → ⊥
