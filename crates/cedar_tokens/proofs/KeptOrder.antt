-- Tokens in order stay in order where their comments change
-- and where the trailing commas are left out.
use Rattle.std.proofs.Common.{◌≡◌, ◌≤◌, ℕ, List, [], ◌∷◌, map, Bool, true, false, refl, sym, ap, ◌∙◌, arith}
use Rattle.std.specs.Prelude.{if◌then◌else◌}
use Rattle.cedar_tokens.specs.Places.{AreInOrder, InOrderFrom}
use Rattle.cedar_tokens.specs.PlainList.{is_trailing_comma, kept_tokens}
use Rattle.cedar_tokens.specs.Tokens.{bare, decorated}
use Rattle.cedar_tokens.specs.declared.token.Span.{Span}
use Rattle.cedar_tokens.specs.declared.token.WrappedToken.{WrappedToken}

pub spans_of_bare : (ts : List WrappedToken) → map (λ b. b.1) (map bare ts) ≡ map (λ t. t.span) ts
spans_of_bare [] = refl
spans_of_bare (t ∷ ts) = ap (λ r. t.span ∷ r) (spans_of_bare ts)

pub order_kept : (old new : List WrappedToken) → map bare new ≡ map bare old → AreInOrder old
    → AreInOrder new
order_kept old new e h =
    rw (sym (spans_of_bare new) ∙ (ap (map (λ b. b.1)) e ∙ spans_of_bare old)) h

-- what begins at a place begins at each place before it
from_earlier : (p q : ℕ) (ss : List Span) → p ≤ q → InOrderFrom q ss → InOrderFrom p ss
from_earlier p q [] e h = h
from_earlier p q (s ∷ ss) e h = let first = h.0 in (omega (arith, e, first), h.1, h.2)

one_left_out : (b : Bool) (p : ℕ) (t : WrappedToken) (ts : List WrappedToken)
    → InOrderFrom p (map (λ w. w.span) (t ∷ ts))
    → InOrderFrom p (map (λ w. w.span) (if b then ts else t ∷ ts))
one_left_out true p t ts h =
    let first = h.0 in
    let second = h.1 in
    from_earlier p t.span.end (map (λ w. w.span) ts) (omega (arith, first, second)) h.2
one_left_out false p t ts h = h

kept_from : (p : ℕ) (ts : List WrappedToken) → InOrderFrom p (map (λ w. w.span) ts)
    → InOrderFrom p (map (λ w. w.span) (kept_tokens ts))
kept_from p [] h = h
kept_from p (c ∷ []) h = h
kept_from p (c ∷ (b ∷ ts)) h = one_left_out (is_trailing_comma (decorated c) (decorated b)) p c
    (kept_tokens (b ∷ ts)) (h.0, h.1, kept_from c.span.end (b ∷ ts) h.2)

pub order_without_commas : (old new : List WrappedToken) → map bare new ≡ map bare (kept_tokens old)
    → AreInOrder old → AreInOrder new
order_without_commas old new e h = order_kept (kept_tokens old) new e (kept_from 0 old h)
