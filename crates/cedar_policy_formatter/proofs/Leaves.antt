-- Spans are no leaves of a tree of nodes.
use Rattle.std.specs.Prelude.{◌≡◌, ◌∷◌, ◌++◌}
use Rattle.std.proofs.Common.{refl, ap, ◌∙◌}
use Rattle.cedar_grammar.specs.Trees.{none, leaf, branch, yield}
use Rattle.cedar_grammar.specs.Erased.{Erased, without_spans}

-- spans are no leaves
pub leaves_without_spans : (f : Erased) → yield (without_spans f) ≡ yield f
leaves_without_spans none = refl
leaves_without_spans (leaf t f) = ap (λ z. t ∷ z) (leaves_without_spans f)
leaves_without_spans (branch l f g) =
    ap (λ z. z ++ yield (without_spans g)) (leaves_without_spans f)
    ∙ ap (λ z. yield f ++ z) (leaves_without_spans g)
