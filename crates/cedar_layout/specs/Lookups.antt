-- The tokens that a lookup names, and what it returns. The tokens' places are in order.
use Rattle.std.specs.Prelude.{◌≡◌, ◌≤◌, ◌<◌, ◌+◌, ◌^◌, ℕ, List, [], ◌∷◌, ◌++◌, map, Bool, ◌==◌, ◌&&◌, nat_le, IsTrue, IsFalse, if◌then◌else◌, Option, MatchOption}
use Rattle.std.specs.List.{All, filter}
use Rattle.std.specs.Borrow.{Bor}
use Rattle.std.specs.declared.alloc.Global.{Global}
use Rattle.std.specs.declared.vec.Vec.{Vec}
pub use Rattle.cedar_tokens.specs.Places.{AreInOrder}
use Rattle.cedar_tokens.specs.Tokens.{leading_lines, trailing_text}
use Rattle.cedar_tokens.specs.declared.token.Comment.{Comment}
use Rattle.cedar_tokens.specs.declared.token.Span.{Span}
use Rattle.cedar_tokens.specs.declared.token.Token.{Token}
use Rattle.cedar_tokens.specs.declared.token.WrappedToken.{WrappedToken}

-- what a comment holds
pub record Parts : Type 0 where
  pub leading : List (List ℕ)
  pub trailing : List ℕ

abbrev pub comment_parts : Comment → Parts
comment_parts c = record { leading = leading_lines c; trailing = trailing_text c }

abbrev pub no_comment : Parts
no_comment = record { leading = []; trailing = [] }

-- a token with its comment's texts; two tokens of which these are the same are equal
pub record Shown : Type 0 where
  pub token : Token
  pub comment : Parts
  pub span : Span

abbrev pub shown : WrappedToken → Shown
shown t = record { token = t.token; comment = comment_parts t.comment; span = t.span }

-- the token without its comment, and without its leading lines alone
abbrev pub emptied : Shown → Shown
emptied t = record t { comment = no_comment }

abbrev pub unled : Shown → Shown
unled t = record t { comment = record { leading = []; trailing = t.comment.trailing } }

-- ---- which token is named

abbrev pub starts_at : ℕ → Shown → Bool
starts_at p t = t.span.start == p

abbrev pub ends_at : ℕ → Shown → Bool
ends_at p t = t.span.end == p

abbrev pub starts_from : ℕ → Shown → Bool
starts_from p t = nat_le p t.span.start

-- the token is in the span
abbrev pub stands_in : Span → Shown → Bool
stands_in s t = nat_le s.start t.span.start && nat_le t.span.end s.end

-- ---- what is returned

-- no token is named, and nothing has changed
pub record Unmatched (named : Shown → Bool) (old new : List Shown) : Type 0 where
  pub none : All (λ t. IsFalse (named t)) old
  pub same : new ≡ old

-- the first named token's comment is the answer and is empty afterwards; all else is as before
pub record HandedOut (named : Shown → Bool) (old new : List Shown) (answer : Parts) : Type 0 where
  pub before : List Shown
  pub token : Shown
  pub after : List Shown
  pub was : old ≡ before ++ token ∷ after
  pub is_named : IsTrue (named token)
  pub is_first : All (λ t. IsFalse (named t)) before
  pub now : new ≡ before ++ emptied token ∷ after
  pub answered : answer ≡ token.comment

-- the same for the first named token's leading lines alone
pub record LeadingHandedOut (named : Shown → Bool) (old new : List Shown) (answer : List (List ℕ)) : Type 0 where
  pub before : List Shown
  pub token : Shown
  pub after : List Shown
  pub was : old ≡ before ++ token ∷ after
  pub is_named : IsTrue (named token)
  pub is_first : All (λ t. IsFalse (named t)) before
  pub now : new ≡ before ++ unled token ∷ after
  pub answered : answer ≡ token.comment.leading

-- the answer is the first named token's comment, and none where no token is named
abbrev pub HandsOutNamed : (Shown → Bool) → List WrappedToken → List WrappedToken → Option Comment → Type 0
HandsOutNamed named old new answer = MatchOption answer (Unmatched named (map shown old) (map shown new)) (λ c. HandedOut named (map shown old) (map shown new) (comment_parts c))

-- the same for its leading lines
abbrev pub HandsOutLines : (Shown → Bool) → List WrappedToken → List WrappedToken → Option (Vec (Bor (List ℕ)) Global) → Type 0
HandsOutLines named old new answer = MatchOption answer (Unmatched named (map shown old) (map shown new)) (λ lines. LeadingHandedOut named (map shown old) (map shown new) (map (λ l. l.now) lines.items))

-- the comments of the tokens in the span, in order
abbrev pub comments_in : Span → List Shown → List Parts
comments_in s ts = map (λ t. t.comment) (filter (stands_in s) ts)

-- the tokens, those in the span without their comments
abbrev pub emptied_in : Span → List Shown → List Shown
emptied_in s ts = map (λ t. if stands_in s t then emptied t else t) ts

-- ---- steps

-- the steps of a search among n tokens: 0 if n is 0, else at least one and at most one more than n has binary digits,
-- where n below 2 ^ d has at most d of them
pub record CountsSteps (n old new : ℕ) : Type 0 where
  pub none : n ≡ 0 → new ≡ old
  pub least : 0 < n → old < new
  pub most : (d : ℕ) → n < 2 ^ d → new ≤ old + (d + 1)
