-- Regrouping keeps the leaves.
use Rattle.std.specs.Prelude.{◌≡◌, Bool, true, false, [], ◌∷◌, ◌++◌}
use Rattle.std.proofs.Common.{sym, ap, ◌∙◌, append_assoc, append-nil}
use Rattle.cedar_grammar.specs.Trees.{Label, Forest, none, leaf, branch, yield, join}
use Rattle.cedar_grammar.specs.Reader.Regroup.{pick, text_first, is_access, gather}
use Rattle.cedar_grammar.proofs.Readers.Languages.{yield_join}

picked : {A B : Type 0} → (b : Bool) (f : A → B) (x y : A) (z : B) → f x ≡ z → f y ≡ z
    → f (pick b x y) ≡ z
picked true f x y z e d = e
picked false f x y z e d = d

pub gather_yield : {A : Type 0} → (read f : Forest Label A)
    → yield (gather read f) ≡ yield read ++ yield f
gather_yield read none = append-nil _ ∙ append-nil _ ∙ sym (append-nil _)
gather_yield read (leaf a f) = picked (text_first f) yield _ _ _ (append-nil _ ∙ append-nil _)
    (gather_yield (join read (leaf a none)) f ∙ ap (λ z. z ++ yield f)
    (yield_join read (leaf a none)) ∙ append_assoc (yield read) (a ∷ []) (yield f))
gather_yield read (branch l f g) =
    picked (is_access l) yield _ _ _ (ap (λ z. z ++ (yield f ++ yield g)) (append-nil (yield read)))
    (gather_yield (join read (branch l f none)) g ∙ ap (λ z. z ++ yield g)
    (yield_join read (branch l f none) ∙ ap (λ z. yield read ++ z) (append-nil (yield f)))
    ∙ append_assoc (yield read) (yield f) (yield g))
