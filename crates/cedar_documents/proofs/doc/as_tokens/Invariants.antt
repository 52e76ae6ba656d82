use Rattle.std.proofs.Common.{◌≡◌, ◌++◌, drop, map}
use Rattle.cedar_documents.specs.Taking.{own}
use Rattle.cedar_documents.proofs.doc.as_tokens.Given as goal

-- the tokens so far, and those to come
abbrev pub invariant-loop-token : goal.invariant-loop-token
invariant-loop-token l = l.tokens.items ++ map own (drop l.token-index l.taken) ≡ map own l.taken
