-- Each text is accepted or refused, and for one reason, as by the grammar of trees.
use Rattle.std.specs.Prelude.{◌⊎◌}
use Rattle.std.proofs.Common.{inl, inr}
use Rattle.cedar_tokens.proofs.Scanning.{split_unique, fault_unique, fault_prevents}
use Rattle.cedar_grammar.specs.Texts.{Accepted as AcceptedByTree}
use Rattle.cedar_grammar.specs.declared.error.FormatError.{FormatError}
use Rattle.cedar_grammar.specs.Refusals.{Refuses as RefusesByTrees}
use Rattle.cedar_grammar.proofs.RefusalLaws as trees
use Rattle.cedar_written.specs.Texts.{Accepted}
use Rattle.cedar_written.specs.Refusals.{Refuses}
use Rattle.cedar_written.specs.Judged.{TextIsJudged, AcceptedIsNotRefused, RefusalIsUnique}
use Rattle.cedar_written.proofs.Outputs.{accepted_agree, refusals_agree}

pub text_is_judged : TextIsJudged
text_is_judged text units s = go (trees.text_is_judged text units s)
  where
    go : AcceptedByTree text ⊎ ((e : FormatError) × RefusesByTrees text e)
        → Accepted text ⊎ ((e : FormatError) × Refuses text e)
    go (inl a) = inl ((accepted_agree text).0 a)
    go (inr (e, r)) = inr (e, (refusals_agree text e).0 r)

pub accepted_is_not_refused : AcceptedIsNotRefused
accepted_is_not_refused text e a r =
    trees.accepted_is_not_refused split_unique fault_unique fault_prevents text e
    ((accepted_agree text).1 a) ((refusals_agree text e).1 r)

pub refusal_is_unique : RefusalIsUnique
refusal_is_unique text d e q r =
    trees.refusal_is_unique split_unique fault_unique fault_prevents text d e
    ((refusals_agree text d).1 q) ((refusals_agree text e).1 r)
