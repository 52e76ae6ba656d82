-- Fixes that are added to others.
use Rattle.std.specs.Prelude.{◌≡◌, ℕ, List, ◌++◌}
use Rattle.cedar_tokens.specs.declared.token.Span.{Span}
use Rattle.cedar_faults.specs.declared.fault.Fault.{Fault}
use Rattle.cedar_edits.specs.declared.positions.Encoding.{Encoding}
use Rattle.cedar_server.specs.declared.fixes.Fix.{Fix}
use Rattle.cedar_server.specs.Fixes.{IsOffered}

-- the fixes of a fault come after others
abbrev pub Offers : Encoding → List ℕ → Span → List Fault → Fault → List Fix → List Fix → Type 0
Offers e text touched all f old new = (own : List Fix) × (new ≡ old ++ own) × IsOffered e text touched all f own
