-- The line feeds after a text, by its last byte.
use Rattle.std.proofs.Common.{◌≡◌, ◌-◌, ℕ, Bool, true, false, cond, get_or, List, [], ◌∷◌, length, refl, ap, sym, ◌∙◌, arith}
use Rattle.std.specs.Prelude.{◌==◌, slice_index}
use Rattle.cedar_layout.specs.Cleaning.{last_byte_or}
use Rattle.cedar_policy_formatter.specs.RangeEdits.{feeds_after}
use Rattle.cedar_tokens.specs.Bytes.{line_feed}

last_byte : (b : ℕ) (bs : List ℕ) → get_or (b ∷ bs) (length bs) 0 ≡ last_byte_or b bs
last_byte b [] = refl
last_byte b (c ∷ bs) = last_byte c bs

-- one line feed at the start of a line, and otherwise two
pub feeds_by_test : (before : List ℕ) (empty ends : Bool) → empty ≡ (length before == 0)
    → empty ≡ false → ends ≡ (slice_index before (length before - 1) == line_feed)
    → feeds_after before ≡ cond ends (line_feed ∷ []) (line_feed ∷ (line_feed ∷ []))
feeds_by_test [] empty ends e f h = absurd (let z : false ≡ true = sym f ∙ e in cc)
feeds_by_test (b ∷ bs) empty ends e f h =
    let k : length (b ∷ bs) - 1 ≡ length bs = omega arith in
    let g : (last_byte_or b bs == line_feed) ≡ ends =
    ap (λ z. z == line_feed) (sym (ap (λ n. slice_index (b ∷ bs) n) k ∙ last_byte b bs)) ∙ sym h in
    ap (λ t. cond t (line_feed ∷ []) (line_feed ∷ (line_feed ∷ []))) g
