use Rattle.std.proofs.Common.{◌≡◌, ◌<◌, ◌+◌, ℕ, zero, suc, List, [], ◌∷◌, ◌++◌, length, map, take, drop, get_or, refl, sym, ap, ◌∙◌, arith}
use Rattle.std.specs.Prelude.{slice_set}
use Rattle.cedar_reading.specs.declared.lexeme.Lexeme.{Lexeme}
use Rattle.cedar_cst.specs.Inside.Parts.{moved_lexeme}
use Rattle.cedar_cst.proofs.cst.reader.move_spans.Goals as goal

-- Items that are changed one after the other.
module _ {A : Type 0} (h : A → A) (d : A) where
  same_item : (ys : List A) (i : ℕ) → get_or (map h (take i ys) ++ drop i ys) i d ≡ get_or ys i d
  same_item [] zero = refl
  same_item [] (suc i) = refl
  same_item (y ∷ ys) zero = refl
  same_item (y ∷ ys) (suc i) = same_item ys i

  one_more : (ys : List A) (i : ℕ) (w : A) → i < length ys → w ≡ h (get_or ys i d)
      → slice_set (map h (take i ys) ++ drop i ys) i w ≡ map h (take (suc i) ys) ++ drop (suc i) ys
  one_more [] i w l e = absurd (omega (arith, l))
  one_more (y ∷ ys) zero w l e = ap (λ z. z ∷ ys) e
  one_more (y ∷ ys) (suc i) w l e = ap (λ z. h y ∷ z) (one_more ys i w (omega (arith, l)) e)

  step : (ys xs : List A) (i j : ℕ) (w : A) → xs ≡ map h (take i ys) ++ drop i ys → i < length ys
      → w ≡ h (get_or xs i d) → j ≡ suc i → slice_set xs i w ≡ map h (take j ys) ++ drop j ys
  step ys xs i j w s l e k =
      ap (λ z. slice_set z i w) s
      ∙ (one_more ys i w l (e ∙ ap h (ap (λ z. get_or z i d) s ∙ same_item ys i))
      ∙ ap (λ z. map h (take z ys) ++ drop z ys) (sym k))

-- one lexeme, moved
moved_here : (n : ℕ) (l : Lexeme) → record {
  kind = l.kind;
  text = l.text;
  span = record { start = l.span.start + n; end = l.span.end + n };
} ≡ moved_lexeme n l
moved_here n l =
    let a : l.span.start + n ≡ n + l.span.start = omega arith in
    let b : l.span.end + n ≡ n + l.span.end = omega arith in
    ap (λ z.
    record { kind = l.kind; text = l.text; span = record { start = z; end = l.span.end + n } }) a
    ∙ ap (λ z.
    record { kind = l.kind; text = l.text; span = record { start = n + l.span.start; end = z } }) b

pub loop-lexeme-preserved : goal.loop-lexeme-preserved
loop-lexeme-preserved c =
    let i = c.loop-lexeme.lexeme-index in
    let inside : i < length c.args.lexemes.now =
    omega (arith, c.loop-lexeme-test.true, c.loop-lexeme.auto.lexemes) in
    step (moved_lexeme c.args.by) _ c.args.lexemes.now c.loop-lexeme.lexemes i
    (i + 1) _ c.loop-lexeme.invariant inside
    (moved_here c.args.by (get_or c.loop-lexeme.lexemes i _)) (omega arith)
