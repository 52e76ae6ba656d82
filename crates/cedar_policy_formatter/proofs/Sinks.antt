-- What is left of a text that an output is compared with.
use Rattle.std.proofs.Common.{◌≡◌, ℕ, Bool, List, [], ◌++◌, append-nil, take, drop, length, Option, Some, None, true, false, sym, ap, ◌∙◌}
use Rattle.std.specs.Prelude.{◌↔◌, ◌+◌, IsTrue, MatchOption, nat_eq}
use Rattle.std.specs.Borrow.{Bor}
use Rattle.std.specs.Cmp.Lexicographic.{pointwise}
use Rattle.std.proofs.Math.Seq.{drop-append_seam, take-append_seam}
use Rattle.std.proofs.lemmas.Bool.{false≢true}
use Rattle.std.proofs.lemmas.List.{take-append-drop}
use Rattle.std.proofs.lemmas.Slice.Eq.{bytes_eq-Decides}
use Rattle.cedar_policy_formatter.specs.Inside.Sinks.{left_in}

-- the result of stripping a prefix
abbrev pub Strips : List ℕ → List ℕ → Option (Bor (List ℕ)) → Type 0
Strips l p r = MatchOption r (pointwise nat_eq (take (length p) l) p ≡ false)
    (λ x. (pointwise nat_eq (take (length p) l) p ≡ true) × (x.now ≡ drop (length p) l)
    × (length x.now + length p ≡ length l))

-- what is left after a piece
pub passed : (l p : List ℕ) (r : Option (Bor (List ℕ))) → Strips l p r → (y : List ℕ)
    → (Some l ≡ Some (p ++ y)) ↔ (left_in r ≡ Some y)
passed l p None h y = (
  λ e.
      let f : l ≡ p ++ y = cc in
      absurd (false≢true (sym h ∙ (bytes_eq-Decides (take (length p) l) p).1 (ap (take (length p)) f
      ∙ take-append_seam p y))),
  λ e. absurd cc,
)
passed l p (Some x) h y = (
  λ e.
      let f : l ≡ p ++ y = cc in
      ap Some (h.1 ∙ ap (drop (length p)) f ∙ drop-append_seam p y),
  λ e.
      let f : x.now ≡ y = cc in
      ap Some (sym (take-append-drop (length p) l) ∙ ap (λ z. z ++ drop (length p) l)
      ((bytes_eq-Decides (take (length p) l) p).0 h.0) ∙ ap (λ z. p ++ z) (sym h.1 ∙ f)),
)

-- all of the text is passed if and only if the output is the text
pub used_up : (text out : List ℕ) (first rest : Option (List ℕ)) (t : Bool) → first ≡ Some text
    → ((y : List ℕ) → (first ≡ Some (out ++ y)) ↔ (rest ≡ Some y)) → IsTrue t ↔ (rest ≡ Some [])
    → IsTrue t ↔ (out ≡ text)
used_up text out first rest t b h e = (
  λ x. let f : Some text ≡ Some (out ++ []) = sym b ∙ (h []).1 (e.0 x) in
      let g : text ≡ out ++ [] = cc in
      sym (append-nil out) ∙ sym g,
  λ f. e.1 ((h []).0 (b ∙ ap Some (sym f ∙ sym (append-nil out)))),
)
