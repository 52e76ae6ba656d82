use Rattle.std.proofs.Common.{◌≡◌, ◌+◌, length}
use Rattle.cedar_server.specs.PartSteps.{parts_left}
use Rattle.cedar_server.proofs.Classing.{SemanticSoFar}
use Rattle.cedar_server.proofs.semantic.semantic_tokens.Given as goal

abbrev pub invariant-parts : goal.invariant-parts
invariant-parts l = record {
  place : l.end + length (parts_left l.parts) ≡ length l.fn.text;
  classed : SemanticSoFar l.fn.text l.end l.before (parts_left l.parts) l.tokens.items;
}

abbrev pub decreases-parts : goal.decreases-parts
decreases-parts l = length (parts_left l.parts)
