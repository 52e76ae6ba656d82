-- Units without a token: their comments, where their first line feed is,
-- and how a text of them is cut at its end.
use Rattle.std.proofs.Common.{◌≡◌, ℕ, true, not, ◌==◌, ◌⊎◌, inl, inr, List, [], ◌∷◌, ◌++◌, length, map, drop, refl, ap, arith, sym, ◌∙◌, subst, append_assoc, length-append}
use Rattle.std.proofs.Math.Numerals.{one-add}
use Rattle.std.specs.List.{list_all, AllByRecursion, concat, filter, prefix_len}
use Rattle.std.specs.Str.{trim, IsUtf8}
use Rattle.std.proofs.Math.Seq.{drop-append_seam, take-append_seam}
use Rattle.std.proofs.lemmas.Bool.Decides.{nat_tests}
use Rattle.std.proofs.lemmas.Str.{IsUtf8-take, IsUtf8-drop, IsUtf8-append, IsUtf8-nil}
use Rattle.std.proofs.lemmas.Bool.{and_parts, false_from_ne_true}
use Rattle.cedar_tokens.specs.Bytes.{line_feed, slash}
use Rattle.cedar_tokens.specs.Units.{IsUnit, blank, comment, token, is_comment, is_comment_byte, IsFirstUnit}
use Rattle.cedar_tokens.specs.Split.{Scans, SplitsInto}
use Rattle.cedar_tokens.specs.Listing.{comments}
use Rattle.cedar_tokens.proofs.Prefixes.{begins_take}
use Rattle.cedar_tokens.proofs.FirstUnit.{comment_parts, unit_boundary}
use Rattle.cedar_tokens.proofs.CommentLines.{comments_nil, comments_here}
use Rattle.cedar_tokens.proofs.Gaps.{NoTokens}
use Rattle.cedar_laws.proofs.Units.{Ended}
use Rattle.cedar_laws.proofs.Scanned.{first_within}
use Rattle.cedar_laws.proofs.BlankLines.{blank_no_comment, AreUnits, units_parts, comments_pass, blank_no_slash, blank_feed, feedless, feedless_append}
use Rattle.cedar_tokens.proofs.Lists.{all_more}

-- ---- UTF-8

-- the units of a UTF-8 text are UTF-8
pub units_utf8 : (us : List (List ℕ)) (x : List ℕ) → IsUtf8 x → SplitsInto x us
    → AllByRecursion IsUtf8 us
units_utf8 [] x h s = tt
units_utf8 (u ∷ us) x h s =
    let b = unit_boundary x u h s.0 in (
      rw (begins_take x u s.0.begins) (IsUtf8-take x (length u) h b),
      units_utf8 us (drop (length u) x) (IsUtf8-drop x (length u) h b) s.1,
    )

pub concat_utf8 : (us : List (List ℕ)) → AllByRecursion IsUtf8 us → IsUtf8 (concat us)
concat_utf8 [] a = IsUtf8-nil
concat_utf8 (u ∷ us) a = IsUtf8-append u (concat us) a.0 (concat_utf8 us a.1)

-- ---- the comments

line_is : (v r : List ℕ) → list_all is_comment_byte v ≡ true → Ended r
    → prefix_len is_comment_byte (v ++ r) ≡ length v
line_is [] [] h e = refl
line_is [] (d ∷ r) h e = rw e refl
line_is (b ∷ v) r h e =
    let p = and_parts (is_comment_byte b) (list_all is_comment_byte v) h in
    rw (p.0, line_is v r p.1 e, one-add) refl

-- a comment and a line end after it
comment_then : (u r : List ℕ) → is_comment u ≡ true → Ended r
    → comments (u ++ r) ≡ trim u ∷ comments r
comment_then [] r h e = absurd cc
comment_then (a ∷ []) r h e = absurd cc
comment_then (a ∷ (b ∷ v)) r h e =
    let p = comment_parts a b v h in
    let n = line_is v r p.2 e in
    let k : comments (slash ∷ (slash ∷ (v ++ r))) ≡ trim (slash ∷ (slash ∷ v)) ∷ comments r =
    comments_here (v ++ r) ∙ rw (n, take-append_seam v r, drop-append_seam v r) refl in
    rw (p.0, p.1) k

comment_more : (u : List ℕ) (d : ℕ) → is_comment u ≡ true → is_comment_byte d ≡ true
    → is_comment (u ++ (d ∷ [])) ≡ true
comment_more [] d h k = absurd cc
comment_more (a ∷ []) d h k = absurd cc
comment_more (a ∷ (b ∷ v)) d h k = let p = comment_parts a b v h in rw (p.0, p.1) (all_after v p.2)
  where
    all_after : (v : List ℕ) → list_all is_comment_byte v ≡ true
        → list_all is_comment_byte (v ++ (d ∷ [])) ≡ true
    all_after [] h = rw k refl
    all_after (c ∷ v) h =
        let p = and_parts (is_comment_byte c) (list_all is_comment_byte v) h in
        rw p.0 (all_after v p.1)

-- the longest comment ends at a line end
pub ended_after : (u r : List ℕ) → is_comment u ≡ true → IsFirstUnit (u ++ r) u → Ended r
ended_after u [] h f = tt
ended_after u (d ∷ r) h f = false_from_ne_true (is_comment_byte d)
    (λ e. let l = f.longest (u ++ (d ∷ [])) (comment (comment_more u d h e))
    (r, sym (append_assoc u (d ∷ []) r)) in omega (arith, l, length-append u (d ∷ [])))

-- units without a token say their text's comments, trimmed
pub units_comments : (us : List (List ℕ)) → AreUnits us → NoTokens us
    → comments (concat us) ≡ map trim (filter is_comment us)
units_comments [] p a = comments_nil
units_comments (u ∷ us) p a = elim p.0.kind [
  | blank k ↦ comments_pass u (concat us) (blank_no_slash u k)
      ∙ (units_comments us (units_parts (u ∷ []) us p).1 a.1 ∙ rw (blank_no_comment u k) refl)
  | comment k ↦ comment_then u (concat us) k (ended_after u (concat us) k p.0)
      ∙ rw (k, units_comments us (units_parts (u ∷ []) us p).1 a.1) refl
  | token k ↦ absurd (let e = a.0 in cc)
]

-- ---- the first line feed

line_feedless : (v : List ℕ) → list_all is_comment_byte v ≡ true → feedless v ≡ true
line_feedless v h = all_more is_comment_byte (λ x. not (x == line_feed)) no_feed v h
  where
    no_feed : (x : ℕ) → is_comment_byte x ≡ true → not (x == line_feed) ≡ true
    no_feed x h = grind (arith, nat_tests)

pub comment_feedless : (u : List ℕ) → is_comment u ≡ true → feedless u ≡ true
comment_feedless [] h = absurd cc
comment_feedless (a ∷ []) h = absurd cc
comment_feedless (a ∷ (b ∷ v)) h =
    let p = comment_parts a b v h in rw (p.0, p.1) (line_feedless v p.2)

-- units cut at their first line feed
pub data AtFeed (us : List (List ℕ)) : Type 0 where
  no_feed : feedless (concat us) ≡ true → AtFeed us
  at_feed : (fs bs : List (List ℕ)) → us ≡ fs ++ ((line_feed ∷ []) ∷ bs) → feedless (concat fs)
      ≡ true
      → AtFeed us

pub find_feed : (us : List (List ℕ)) → AreUnits us → NoTokens us → AtFeed us
find_feed [] p a = no_feed refl
find_feed (u ∷ us) p a = go (u_feed p.0.kind) (find_feed us (units_parts (u ∷ []) us p).1 a.1)
  where
    u_feed : IsUnit u → (u ≡ line_feed ∷ []) ⊎ (feedless u ≡ true)
    u_feed k = elim k [
      | blank e ↦ blank_feed u e
      | comment e ↦ inr (comment_feedless u e)
      | token e ↦ absurd (let f = a.0 in cc)
    ]

    go : (u ≡ line_feed ∷ []) ⊎ (feedless u ≡ true) → AtFeed us → AtFeed (u ∷ us)
    go (inl e) r = at_feed [] us (ap (λ z. z ∷ us) e) refl
    go (inr f) (no_feed h) = no_feed (feedless_append u (concat us) f h)
    go (inr f) (at_feed fs bs e h) =
        at_feed (u ∷ fs) bs (ap (λ z. u ∷ z) e) (feedless_append u (concat fs) f h)

-- ---- a shorter end

-- a shorter text after units leaves them unchanged
pub scans_shorter : (us : List (List ℕ)) (a b : List ℕ) → Scans us (concat us ++ (a ++ b)) (a ++ b)
    → Scans us (concat us ++ a) a
scans_shorter [] a b s = refl
scans_shorter (u ∷ us) a b s =
    let e : (u ++ concat us) ++ (a ++ b) ≡ ((u ++ concat us) ++ a) ++ b =
    sym (append_assoc (u ++ concat us) a b) in
    let f : IsFirstUnit (((u ++ concat us) ++ a) ++ b) u = subst (λ z. IsFirstUnit z u) e s.0 in
    let d : drop (length u) ((u ++ concat us) ++ (a ++ b)) ≡ concat us ++ (a ++ b) =
    ap (drop (length u)) (append_assoc u (concat us) (a ++ b))
    ∙ drop-append_seam u (concat us ++ (a ++ b)) in
    let g : drop (length u) ((u ++ concat us) ++ a) ≡ concat us ++ a =
    ap (drop (length u)) (append_assoc u (concat us) a) ∙ drop-append_seam u (concat us ++ a) in (
      first_within ((u ++ concat us) ++ a) b u f
          (omega (arith, length-append (u ++ concat us) a, length-append u (concat us))),
      subst (λ z. Scans us z a) (sym g)
          (scans_shorter us a b (subst (λ z. Scans us z (a ++ b)) d s.1)),
    )
