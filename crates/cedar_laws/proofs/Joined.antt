-- The decorated list of two texts with a line feed between.
use Rattle.std.proofs.Common.{◌≡◌, ℕ, suc, ◌+◌, not, take, drop, arith, Bool, true, false, cond, ◌||◌, ◌==◌, List, [], ◌∷◌, ◌++◌, map, refl, ap, sym, ◌∙◌, append_assoc}
use Rattle.std.specs.List.{filter, prefix_len}
use Rattle.std.proofs.Math.Numerals.{one-add}
use Rattle.std.specs.Str.{trim}
use Rattle.cedar_tokens.specs.Bytes.{carriage_return, line_feed}
use Rattle.cedar_tokens.specs.Units.{is_token}
use Rattle.cedar_tokens.specs.Listing.{Decorated, Listing, IsListing, Gaps, gaps, decorate, listing, comments, lines, with_first, comment_of_line, is_empty}
use Rattle.cedar_tokens.specs.Inside.Newlines.{before_newline, after_newline}
use Rattle.cedar_tokens.proofs.CommentLines.{comments_nil}
use Rattle.cedar_laws.specs.Joining.{follow, ahead_tokens, ahead_closing}
use Rattle.cedar_laws.proofs.Scanned.{splits_join}
use Rattle.cedar_laws.proofs.Listed.{feed_no_token}

-- ---- comments
lines_nonempty : (b : ℕ) (ls ms : List (List ℕ)) (l : List ℕ) (ks : List (List ℕ)) → ls ≡ l ∷ ks
    → with_first b (ls ++ ms) ≡ with_first b ls ++ ms
lines_nonempty b ls ms l ks e = rw e refl

abbrev Lines : List (List ℕ) → Type 0
Lines ls = (l : List ℕ) × (ks : List (List ℕ)) × (ls ≡ l ∷ ks)

lines_are : (x : List ℕ) → Lines (lines x)
unfolding lines
lines_are [] = ([], [], refl)
lines_are (b ∷ x) = go (b == line_feed || b == carriage_return) (lines_are x)
  where
    go : (t : Bool) → Lines (lines x) → Lines (cond t ([] ∷ lines x) (with_first b (lines x)))
    go true q = ([], lines x, refl)
    go false q = (b ∷ q.0, q.1, ap (with_first b) q.2)

lines_join : (x y : List ℕ) → lines (x ++ (line_feed ∷ y)) ≡ lines x ++ lines y
unfolding lines
lines_join [] y = refl
lines_join (b ∷ x) y = go (b == line_feed || b == carriage_return) (lines_join x y)
  where
    go : (t : Bool) → lines (x ++ (line_feed ∷ y)) ≡ lines x ++ lines y
        → cond t ([] ∷ lines (x ++ (line_feed ∷ y))) (with_first b (lines (x ++ (line_feed ∷ y))))
        ≡ cond t ([] ∷ lines x) (with_first b (lines x)) ++ lines y
    go true ih = ap (λ z. [] ∷ z) ih
    go false ih =
        let q = lines_are x in
        ap (with_first b) ih ∙ lines_nonempty b (lines x) (lines y) q.0 q.1 q.2

found_join : (ls ms : List (List ℕ)) → map trim (filter (λ c. not (is_empty c))
    (map comment_of_line (ls ++ ms))) ≡ map trim (filter (λ c. not (is_empty c))
    (map comment_of_line ls)) ++ map trim (filter (λ c. not (is_empty c)) (map comment_of_line ms))
found_join [] ms = refl
found_join (l ∷ ls) ms = go (comment_of_line l) (found_join ls ms)
  where
    go : (c : List ℕ) → map trim (filter (λ c. not (is_empty c)) (map comment_of_line (ls ++ ms)))
        ≡ map trim (filter (λ c. not (is_empty c)) (map comment_of_line ls)) ++ map trim (filter
        (λ c. not (is_empty c)) (map comment_of_line ms))
        → map trim (filter (λ c. not (is_empty c)) (c ∷ map comment_of_line (ls ++ ms)))
        ≡ map trim (filter (λ c. not (is_empty c)) (c ∷ map comment_of_line ls)) ++ map trim (filter
        (λ c. not (is_empty c)) (map comment_of_line ms))
    go [] ih = ih
    go (b ∷ c) ih = ap (λ z. trim (b ∷ c) ∷ z) ih

pub comments_join : (x y : List ℕ) → comments (x ++ (line_feed ∷ y)) ≡ comments x ++ comments y
unfolding comments
comments_join x y =
    ap (λ ls. map trim (filter (λ c. not (is_empty c)) (map comment_of_line ls))) (lines_join x y)
    ∙ found_join (lines x) (lines y)

-- ---- gaps
pub before_cons : (b : ℕ) (g : List ℕ)
    → before_newline (b ∷ g) ≡ cond (b == line_feed) [] (b ∷ before_newline g)
before_cons b g = go (b == line_feed)
  where
    go : (t : Bool) → take (cond (not t) (1 + prefix_len (λ x. not (x == line_feed)) g) 0) (b ∷ g)
        ≡ cond t [] (b ∷ take (prefix_len (λ x. not (x == line_feed)) g) g)
    go true = refl
    go false = rw one-add refl

pub after_cons : (b : ℕ) (g : List ℕ) → after_newline (b ∷ g)
    ≡ cond (b == line_feed) g (after_newline g)
after_cons b g = go (b == line_feed)
  where
    go : (t : Bool) → drop (cond (not t) (1 + prefix_len (λ x. not (x == line_feed)) g) 0 + 1)
        (b ∷ g)
        ≡ cond t g (drop (prefix_len (λ x. not (x == line_feed)) g + 1) g)
    go true = refl
    go false =
        let e : (1 + prefix_len (λ x. not (x == line_feed)) g) + 1
        ≡ suc (prefix_len (λ x. not (x == line_feed)) g + 1) = omega arith in rw e refl

pub before_join : (g x : List ℕ) → before_newline (g ++ (line_feed ∷ x)) ≡ before_newline g
before_join [] x = refl
before_join (b ∷ g) x =
    rw (before_cons b (g ++ (line_feed ∷ x)), before_cons b g)
    (go (b == line_feed) (before_join g x))
  where
    go : (t : Bool) → before_newline (g ++ (line_feed ∷ x)) ≡ before_newline g
        → cond t [] (b ∷ before_newline (g ++ (line_feed ∷ x))) ≡ cond t [] (b ∷ before_newline g)
    go true ih = refl
    go false ih = ap (λ z. b ∷ z) ih

pub comments_after_join : (g x : List ℕ)
    → comments (after_newline (g ++ (line_feed ∷ x))) ≡ comments (after_newline g) ++ comments x
comments_after_join [] x = ap (λ z. z ++ comments x) (sym comments_nil)
comments_after_join (b ∷ g) x =
    rw (after_cons b (g ++ (line_feed ∷ x)), after_cons b g)
    (go (b == line_feed) (comments_after_join g x))
  where
    go : (t : Bool)
        → comments (after_newline (g ++ (line_feed ∷ x))) ≡ comments (after_newline g) ++ comments x
        → comments (cond t (g ++ (line_feed ∷ x)) (after_newline (g ++ (line_feed ∷ x))))
        ≡ comments (cond t g (after_newline g)) ++ comments x
    go true ih = comments_join g x
    go false ih = ih

-- the gaps of two lists of units with a line feed between
abbrev join_gaps : List ℕ → List (List ℕ × List ℕ) → Gaps → Gaps
join_gaps f [] h = record { first = f ++ (line_feed ∷ h.first); tokens = h.tokens }
join_gaps f (t ∷ ts) h =
    record { first = f; tokens = (t.0, (join_gaps t.1 ts h).first) ∷ (join_gaps t.1 ts h).tokens }

join_gaps_more : (u f : List ℕ) (ts : List (List ℕ × List ℕ)) (h : Gaps) → join_gaps (u ++ f) ts h
    ≡ record { first = u ++ (join_gaps f ts h).first; tokens = (join_gaps f ts h).tokens }
join_gaps_more u f [] h =
    ap (λ z. record { first = z; tokens = h.tokens }) (append_assoc u f (line_feed ∷ h.first))
join_gaps_more u f (t ∷ ts) h = refl

-- one more unit in front
abbrev step : Bool → List ℕ → Gaps → Gaps
step t u g = cond t (record { first = []; tokens = (u, g.first) ∷ g.tokens })
    (record { first = u ++ g.first; tokens = g.tokens })

gaps_join : (us vs : List (List ℕ))
    → gaps (us ++ ((line_feed ∷ []) ∷ vs)) ≡ join_gaps (gaps us).first (gaps us).tokens (gaps vs)
unfolding gaps
gaps_join [] vs = rw feed_no_token refl
gaps_join (u ∷ us) vs = go (is_token u) (gaps_join us vs)
  where
    go : (t : Bool)
        → gaps (us ++ ((line_feed ∷ []) ∷ vs))
        ≡ join_gaps (gaps us).first (gaps us).tokens (gaps vs)
        → step t u (gaps (us ++ ((line_feed ∷ []) ∷ vs)))
        ≡ join_gaps (step t u (gaps us)).first (step t u (gaps us)).tokens (gaps vs)
    go true ih = rw ih refl
    go false ih = rw ih (sym (join_gaps_more u (gaps us).first (gaps us).tokens (gaps vs)))

-- ---- lists
decorate_ahead : (f x : List ℕ) (cs : List (List ℕ)) (ts : List (List ℕ × List ℕ))
    → comments f ≡ cs ++ comments x → decorate f ts ≡ record {
      tokens = ahead_tokens cs (decorate x ts).tokens;
      closing = ahead_closing cs (decorate x ts).tokens (decorate x ts).closing;
    }
unfolding decorate
decorate_ahead f x cs [] e = rw e refl
decorate_ahead f x cs (t ∷ ts) e = rw e refl

-- one more token in front
abbrev led_by : Decorated → Listing → Listing
led_by d l = record { tokens = d ∷ l.tokens; closing = l.closing }

decorate_join : (ts : List (List ℕ × List ℕ)) (f : List ℕ) (h : Gaps) → decorate (join_gaps f ts
    h).first (join_gaps f ts h).tokens ≡ follow (decorate f ts) (decorate h.first h.tokens)
unfolding decorate
decorate_join [] f h =
    decorate_ahead (f ++ (line_feed ∷ h.first)) h.first (comments f) h.tokens
    (comments_join f h.first)
decorate_join ((w, g) ∷ []) f h =
    rw (
      before_join g h.first,
      decorate_ahead (after_newline (g ++ (line_feed ∷ h.first))) h.first
          (comments (after_newline g)) h.tokens (comments_after_join g h.first),
    ) refl
decorate_join ((w, g) ∷ (t ∷ ts)) f h = ap
    (λ z. led_by (record { text = w; leading = comments f; trailing = trim (before_newline g) }) z)
    (decorate_join (t ∷ ts) (after_newline g) h)

pub listing_join : (us vs : List (List ℕ))
    → listing (us ++ ((line_feed ∷ []) ∷ vs)) ≡ follow (listing us) (listing vs)
unfolding listing
listing_join us vs = rw (gaps_join us vs) (decorate_join (gaps us).tokens (gaps us).first (gaps vs))

-- The decorated list of two texts with a line feed between is the list
-- of the first followed by that of the second.
pub joined : (x y : List ℕ) (l m : Listing) → IsListing x l → IsListing y m
    → IsListing (x ++ (line_feed ∷ y)) (follow l m)
joined x y l m a b = record {
  units = a.units ++ ((line_feed ∷ []) ∷ b.units);
  split = splits_join a.units b.units x y a.split b.split;
  value = rw (a.value, b.value) (sym (listing_join a.units b.units));
}
