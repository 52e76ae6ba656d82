-- Where the last of some operands ends.
use Rattle.std.specs.Prelude.{◌≡◌, ℕ, zero, suc, List, [], ◌∷◌, length, ◌<◌, ◌-◌, Some}
use Rattle.std.specs.List.{slice_get}
use Rattle.std.proofs.Common.{sym, ap, arith}
use Rattle.cedar_cst.specs.ReadingExprs.{end_of_last}
use Rattle.cedar_grammar.specs.declared.tree.Node.{Node}

module _ {X Y : Type 0} (operand : Y → Node X) where
  ends_at : (e : ℕ) (ys : List Y) (k : ℕ) (y : Y) → suc k ≡ length ys → slice_get ys k ≡ Some y
      → (operand y).span.end ≡ end_of_last operand e ys
  ends_at e [] k y l h = absurd (omega (arith, l))
  ends_at e (x ∷ []) zero y l h = let i : x ≡ y = cc in ap (λ z. (operand z).span.end) (sym i)
  ends_at e (x ∷ []) (suc k) y l h = absurd (omega (arith, l))
  ends_at e (x ∷ (z ∷ ys)) zero y l h = absurd (omega (arith, l))
  ends_at e (x ∷ (z ∷ ys)) (suc k) y l h =
      ends_at (operand x).span.end (z ∷ ys) k y (omega (arith, l)) h

  pub ends_some : (e : ℕ) (ys : List Y) (y : Y) → 0 < length ys
      → Some y ≡ slice_get ys (length ys - 1) → (operand y).span.end ≡ end_of_last operand e ys
  ends_some e ys y l h = ends_at e ys (length ys - 1) y (omega (arith, l)) (sym h)
