-- First steps of the law of trimming.
use Rattle.std.proofs.Common.{◌≡◌, ℕ, Bool, true, false, List, [], ◌∷◌, ◌++◌, refl, ap, sym, ◌∙◌, append-nil}
use Rattle.std.specs.List.{concat}
use Rattle.std.specs.Str.{trim, trim_start}
use Rattle.cedar_tokens.specs.Bytes.{line_feed}
use Rattle.cedar_tokens.specs.Units.{IsBlank, is_token}
use Rattle.cedar_tokens.specs.Listing.{listing, gaps, decorate, comments}
use Rattle.cedar_laws.proofs.BlankLines.{chars_blank, AreUnits, units_parts, blank_no_token, comments_pass, blank_no_slash, AllBlank}
use Rattle.cedar_laws.proofs.Listed.{decorate_same, gaps_skip}
use Rattle.std.proofs.Common.{ℕ, inl, inr, cond, not, ◌==◌}
use Rattle.std.proofs.lemmas.Bool.{and_parts, not-true}
use Rattle.cedar_tokens.specs.Listing.{Gaps}
use Rattle.cedar_tokens.specs.Inside.Newlines.{before_newline, after_newline}
use Rattle.cedar_tokens.proofs.CommentLines.{comments_nil}
use Rattle.cedar_laws.proofs.Joined.{before_cons, after_cons}
use Rattle.cedar_laws.proofs.BlankLines.{feedless, blanks_no_token, blanks_no_comment, blank_feed}

-- a blank at the start is removed
pub trim_blank : (u x : List ℕ) → IsBlank u → trim (u ++ x) ≡ trim x
unfolding trim_start
trim_blank u x k = rw (chars_blank u x k, k.1) refl

pub front_blank_goes : (u : List ℕ) (us : List (List ℕ)) → IsBlank u → AreUnits (u ∷ us)
    → AreUnits us × (listing us ≡ listing (u ∷ us))
unfolding listing gaps
front_blank_goes u us k p = (
  (units_parts (u ∷ []) us p).1,
  rw (blank_no_token u k) (decorate_same (gaps us).first (u ++ (gaps us).first) (gaps us).tokens
      (sym (comments_pass u (gaps us).first (blank_no_slash u k)))),
)

-- what blanks after a token say
pub before_free : (u x : List ℕ) → feedless u ≡ true
    → before_newline (u ++ x) ≡ u ++ before_newline x
before_free [] x h = refl
before_free (b ∷ u) x h =
    let p = and_parts (not (b == line_feed)) (feedless u) h in
    before_cons b (u ++ x) ∙ rw (not-true (b == line_feed) p.0, before_free u x p.1) refl

pub after_free : (u x : List ℕ) → feedless u ≡ true → after_newline (u ++ x) ≡ after_newline x
after_free [] x h = refl
after_free (b ∷ u) x h =
    let p = and_parts (not (b == line_feed)) (feedless u) h in
    after_cons b (u ++ x) ∙ rw (not-true (b == line_feed) p.0, after_free u x p.1) refl

blanks_before : (bs : List (List ℕ)) → AllBlank bs → trim (before_newline (concat bs)) ≡ trim []
blanks_before [] a = refl
blanks_before (u ∷ bs) a = elim (blank_feed u a.0) [
  | inl e ↦ rw e (ap trim (before_cons line_feed (concat bs)))
  | inr f ↦ ap trim (before_free u (concat bs) f)
      ∙ (trim_blank u (before_newline (concat bs)) a.0 ∙ blanks_before bs a.1)
]

pub blanks_after : (bs : List (List ℕ)) → AllBlank bs → comments (after_newline (concat bs)) ≡ []
blanks_after [] a = comments_nil
blanks_after (u ∷ bs) a = elim (blank_feed u a.0) [
  | inl e ↦ rw e (ap comments (after_cons line_feed (concat bs)) ∙ blanks_no_comment bs a.1)
  | inr f ↦ ap comments (after_free u (concat bs) f) ∙ blanks_after bs a.1
]

-- lists of tokens with gaps that say the same
abbrev pub SameGaps : List (List ℕ × List ℕ) → List (List ℕ × List ℕ) → Type 0
SameGaps ts us = (f : List ℕ) → decorate f ts ≡ decorate f us

same_more : (w g : List ℕ) (ts us : List (List ℕ × List ℕ)) → SameGaps ts us
    → SameGaps ((w, g) ∷ ts) ((w, g) ∷ us)
unfolding decorate
same_more w g ts us h f = rw (h (after_newline g)) refl

-- units after which the gaps say the same
pub same_front : (vs xs ys : List (List ℕ)) → (gaps xs).first ≡ (gaps ys).first
    → SameGaps (gaps xs).tokens (gaps ys).tokens → ((gaps (vs ++ xs)).first
    ≡ (gaps (vs ++ ys)).first) × SameGaps (gaps (vs ++ xs)).tokens (gaps (vs ++ ys)).tokens
unfolding gaps
same_front [] xs ys e h = (e, h)
same_front (u ∷ vs) xs ys e h = go (is_token u) (same_front vs xs ys e h)
  where
    step : Bool → Gaps → Gaps
    step t g = cond t (record { first = []; tokens = (u, g.first) ∷ g.tokens })
        (record { first = u ++ g.first; tokens = g.tokens })

    go : (t : Bool) → ((gaps (vs ++ xs)).first ≡ (gaps (vs ++ ys)).first)
        × SameGaps (gaps (vs ++ xs)).tokens (gaps (vs ++ ys)).tokens
        → ((step t (gaps (vs ++ xs))).first ≡ (step t (gaps (vs ++ ys))).first)
        × SameGaps (step t (gaps (vs ++ xs))).tokens (step t (gaps (vs ++ ys))).tokens
    go true q = (
      refl,
      rw q.0 (same_more u (gaps (vs ++ ys)).first (gaps (vs ++ xs)).tokens
          (gaps (vs ++ ys)).tokens q.1),
    )
    go false q = (ap (λ z. u ++ z) q.0, q.1)

-- blanks after the last token are removed
pub token_end : (vs bs : List (List ℕ)) (k : List ℕ) → is_token k ≡ true → AllBlank bs
    → AreUnits ((vs ++ (k ∷ [])) ++ bs)
    → AreUnits (vs ++ (k ∷ [])) × (listing (vs ++ (k ∷ [])) ≡ listing (vs ++ (k ∷ bs)))
unfolding listing gaps decorate
token_end vs bs k h a p =
    let g : gaps bs ≡ record { first = concat bs ++ []; tokens = [] } =
    ap gaps (sym (append-nil bs)) ∙ gaps_skip bs [] (blanks_no_token bs a) in
    let w = same_front vs (k ∷ []) (k ∷ bs) (rw h refl) (λ f.
    rw (h, g, append-nil (concat bs), blanks_before bs a, blanks_after bs a, comments_nil) refl) in
    ((units_parts (vs ++ (k ∷ [])) bs p).0, rw w.0 (w.1 (gaps (vs ++ (k ∷ bs))).first))
