-- Removing a blank line after a line feed leaves the units of the remaining text,
-- with the same decorated list.
use Rattle.std.proofs.Common.{◌≡◌, ℕ, ◌<◌, Bool, true, false, cond, not, ◌&&◌, ◌==◌, ◌⊎◌, inl, inr, List, [], ◌∷◌, ◌++◌, Option, Some, None, length, get_or, drop, refl, ap, arith, sym, ◌∙◌, subst, append_assoc, append-nil, length-append}
use Rattle.std.specs.List.{list_all, AllByRecursion, concat}
use Rattle.std.specs.Char.{is_whitespace, encode_utf8}
use Rattle.std.specs.Str.{chars}
use Rattle.std.proofs.Math.Seq.{drop-append_seam}
use Rattle.std.proofs.lemmas.Str.{chars-append, chars_past_char, IsUtf8-encode, encode_ascii, chars-nil, inside_one}
use Rattle.std.specs.Str.{IsUtf8}
use Rattle.std.specs.Char.{IsScalar}
use Rattle.std.proofs.lemmas.Bool.{or_right, and_parts, false_from_ne_true, not-true}
use Rattle.std.proofs.lemmas.Bool.Decides.{nat_tests, Decides-eqb}
use Rattle.std.proofs.lemmas.List.Folds.{concat-append}
use Rattle.cedar_tokens.specs.Bytes.{line_feed, slash, space_character}
use Rattle.cedar_tokens.specs.Units.{IsBlank, IsToken, is_token, is_comment}
use Rattle.cedar_tokens.specs.Split.{Scans, SplitsInto}
use Rattle.cedar_tokens.specs.Listing.{Decorated, Listing, gaps, decorate, listing, comments, with_first}
use Rattle.cedar_tokens.proofs.CommentLines.{comments_nil, comments_skip}
use Rattle.cedar_tokens.proofs.Heads.{class, class-white, class-blank, token_of, no_empty_token, token_class}
use Rattle.cedar_tokens.proofs.FirstUnit.{comment_parts, no_both_blank, low_from_class}
use Rattle.cedar_tokens.proofs.Lists.{All-append, all_more}
use Rattle.cedar_layout.specs.Cleaning.{last_byte_or}
use Rattle.cedar_laws.specs.CleaningLaws.{is_solid, Thinned, no_units, unit_stays, blank_goes}
use Rattle.cedar_layout.specs.Cleaning.{piece_lines, is_blank_line, without_blank_lines, clean_lines, clean_piece}
use Rattle.cedar_laws.proofs.Scanned.{scans_unit, first_within, splits_join}
use Rattle.cedar_laws.proofs.Joined.{listing_join}
use Rattle.cedar_laws.specs.Joining.{follow}
use Rattle.cedar_laws.proofs.Listed.{gaps_skip}
use Rattle.cedar_laws.proofs.Units.{last_passes, feed_blank}

-- these units are what their text splits into
abbrev pub AreUnits : List (List ℕ) → Type 0
AreUnits us = SplitsInto (concat us) us

-- a front of units that their text splits into is one too
units_front : (us vs : List (List ℕ)) (y : List ℕ) → Scans (us ++ vs) (concat us ++ y) []
    → AreUnits us
units_front [] vs y s = refl
units_front (u ∷ us) vs y s =
    let e : drop (length u) ((u ++ concat us) ++ y) ≡ concat us ++ y =
    ap (drop (length u)) (append_assoc u (concat us) y) ∙ drop-append_seam u (concat us ++ y) in
    scans_unit u us (concat us) [] (first_within (u ++ concat us) y u s.0
    (omega (arith, length-append u (concat us)))) (units_front us vs y (rw e at s.1))

units_back : (us vs : List (List ℕ)) (y : List ℕ) → Scans (us ++ vs) (concat us ++ y) []
    → Scans vs y []
units_back [] vs y s = s
units_back (u ∷ us) vs y s =
    let e : drop (length u) ((u ++ concat us) ++ y) ≡ concat us ++ y =
    ap (drop (length u)) (append_assoc u (concat us) y) ∙ drop-append_seam u (concat us ++ y) in
    units_back us vs y (rw e at s.1)

pub units_parts : (us vs : List (List ℕ)) → AreUnits (us ++ vs) → AreUnits us × AreUnits vs
units_parts us vs p =
    let s : Scans (us ++ vs) (concat us ++ concat vs) [] = rw concat-append at p in
    (units_front us vs (concat vs) s, units_back us vs (concat vs) s)

pub units_join : (us vs : List (List ℕ)) → AreUnits us → AreUnits vs
    → AreUnits (us ++ ((line_feed ∷ []) ∷ vs))
units_join us vs p q =
    rw (concat-append us ((line_feed ∷ []) ∷ vs)) (splits_join us vs (concat us) (concat vs) p q)

-- units without a token or a comment say nothing
abbrev pub Silent : List (List ℕ) → Type 0
Silent us = listing us ≡ record { tokens = []; closing = [] }

-- a blank line goes
line_goes : (us bs vs : List (List ℕ)) → Silent bs
    → AreUnits (us ++ ((line_feed ∷ []) ∷ (bs ++ ((line_feed ∷ []) ∷ vs))))
    → AreUnits (us ++ ((line_feed ∷ []) ∷ vs))
    × (listing (us ++ ((line_feed ∷ []) ∷ vs))
    ≡ listing (us ++ ((line_feed ∷ []) ∷ (bs ++ ((line_feed ∷ []) ∷ vs)))))
line_goes us bs vs h p =
    let a = units_parts us ((line_feed ∷ []) ∷ (bs ++ ((line_feed ∷ []) ∷ vs))) p in
    let b = units_parts ((line_feed ∷ []) ∷ []) (bs ++ ((line_feed ∷ []) ∷ vs)) a.1 in
    let c = units_parts bs ((line_feed ∷ []) ∷ vs) b.1 in
    let d = units_parts ((line_feed ∷ []) ∷ []) vs c.1 in (
      units_join us vs a.0 d.1,
      listing_join us vs ∙ (ap (follow (listing us)) (sym
          (listing_join bs vs ∙ (ap (λ z. follow z (listing vs)) h ∙ nothing_first (listing vs))))
          ∙ sym (listing_join us (bs ++ ((line_feed ∷ []) ∷ vs)))),
    )
  where
    nothing_first : (m : Listing) → follow (record { tokens = []; closing = [] }) m ≡ m
    nothing_first m = by_tokens m.tokens m.closing
      where
        by_tokens : (ts : List Decorated) (cs : List (List ℕ))
            → follow (record { tokens = []; closing = [] }) (record { tokens = ts; closing = cs })
            ≡ record { tokens = ts; closing = cs }
        by_tokens [] cs = refl
        by_tokens (t ∷ ts) cs = refl

-- ---- lines of a piece

abbrev pub onto : List ℕ → List (List ℕ) → List (List ℕ)
onto u [] = u ∷ []
onto u (l ∷ ls) = (u ++ l) ∷ ls

abbrev pub feedless : List ℕ → Bool
feedless u = list_all (λ b. not (b == line_feed)) u

onto_first : (b : ℕ) (u : List ℕ) (ls : List (List ℕ)) → with_first b (onto u ls) ≡ onto (b ∷ u) ls
onto_first b u [] = refl
onto_first b u (l ∷ ls) = refl

onto_nothing : (x : List ℕ) → onto [] (piece_lines x) ≡ piece_lines x
onto_nothing [] = refl
onto_nothing (b ∷ x) = go (b == line_feed) (piece_lines x)
  where
    same : (ls : List (List ℕ)) → onto [] (with_first b ls) ≡ with_first b ls
    same [] = refl
    same (l ∷ ls) = refl

    go : (t : Bool) (ls : List (List ℕ))
        → onto [] (cond t ((line_feed ∷ []) ∷ ls) (with_first b ls))
        ≡ cond t ((line_feed ∷ []) ∷ ls) (with_first b ls)
    go true ls = refl
    go false ls = same ls

pub lines_onto : (u x : List ℕ) → feedless u ≡ true → piece_lines (u ++ x) ≡ onto u (piece_lines x)
lines_onto [] x h = sym (onto_nothing x)
lines_onto (b ∷ u) x h =
    let p = and_parts (not (b == line_feed)) (feedless u) h in
    rw (not-true (b == line_feed) p.0, lines_onto u x p.1) (onto_first b u (piece_lines x))

clean_onto : (u : List ℕ) (ls : List (List ℕ)) → clean_lines (onto u ls) ≡ u ++ clean_lines ls
clean_onto u [] = refl
clean_onto u (l ∷ ls) = append_assoc u l (without_blank_lines ls)

pub feedless_append : (u v : List ℕ) → feedless u ≡ true → feedless v ≡ true
    → feedless (u ++ v) ≡ true
feedless_append [] v h k = k
feedless_append (b ∷ u) v h k =
    let p = and_parts (not (b == line_feed)) (feedless u) h in
    rw (p.0, feedless_append u v p.1 k) refl

-- a unit of a piece: a line feed, or without one; a token or a blank
pub record Plain (u : List ℕ) : Type 0 where
  pub kind : IsBlank u ⊎ IsToken u
  pub feed : (u ≡ line_feed ∷ []) ⊎ (feedless u ≡ true)

abbrev pub AllPlain : List (List ℕ) → Type 0
AllPlain us = AllByRecursion Plain us

-- which bytes a text lacks
pub lacks : (n : ℕ) (u : List ℕ) → ((w v : List ℕ) → u ≡ w ++ (n ∷ v) → ⊥)
    → list_all (λ b. not (n == b)) u ≡ true
lacks n [] h = refl
lacks n (b ∷ u) h = go (n == b) refl (lacks n u (λ w v e. h (b ∷ w) v (ap (λ z. b ∷ z) e)))
  where
    go : (t : Bool) → (n == b) ≡ t → list_all (λ b. not (n == b)) u ≡ true
        → (not t && list_all (λ b. not (n == b)) u) ≡ true
    go true e ih = absurd (h [] u (ap (λ z. z ∷ u) (sym ((Decides-eqb n b).0 e))))
    go false e ih = ih

get_at : (w : List ℕ) (n : ℕ) (v : List ℕ) → get_or (w ++ (n ∷ v)) (length w) 0 ≡ n
get_at [] n v = refl
get_at (c ∷ w) n v = get_at w n v

-- an ASCII byte of a blank is the whole blank
pub blank_is_byte : (u w v : List ℕ) (n : ℕ) → n < 128 → (k : IsBlank u) → u ≡ w ++ (n ∷ v)
    → k.0 ≡ n
blank_is_byte u w v n l k e =
    let at : get_or u (length w) 0 ≡ n = ap (λ z. get_or z (length w) 0) e ∙ get_at w n v in
    let size = ap length e in
    let size2 = ap length k.2 in
    inside_one k.0 [] u (length w) (k.2 ∙ sym (append-nil (encode_utf8 k.0)))
    (omega (arith, size, size2, length-append w (n ∷ v))) (omega (arith, at)) ∙ at

pub blank_no_slash : (u : List ℕ) → IsBlank u → list_all (λ b. not (slash == b)) u ≡ true
blank_no_slash u k = lacks slash u
    (λ w v e. absurd (let f = blank_is_byte u w v slash (omega arith) k
    e in let g : is_whitespace slash ≡ true = rw f at k.1 in let h : false ≡ true = g in cc))

pub comments_pass : (u y : List ℕ) → list_all (λ b. not (slash == b)) u ≡ true
    → comments (u ++ y) ≡ comments y
comments_pass [] y h = refl
comments_pass (b ∷ u) y h =
    let p = and_parts (not (slash == b)) (list_all (λ b. not (slash == b)) u) h in
    comments_skip b (u ++ y) (rw (not-true (slash == b) p.0) refl) ∙ comments_pass u y p.1

pub feed_other : (x : ℕ) → not (line_feed == x) ≡ true → not (x == line_feed) ≡ true
feed_other x h = grind (arith, nat_tests)

-- a blank is the line feed or has none
pub blank_feed : (u : List ℕ) → IsBlank u → (u ≡ line_feed ∷ []) ⊎ (feedless u ≡ true)
blank_feed u e = go (e.0 == line_feed) refl
  where
    go : (t : Bool) → (e.0 == line_feed) ≡ t → (u ≡ line_feed ∷ []) ⊎ (feedless u ≡ true)
    go true h =
        inl (e.2 ∙ (ap encode_utf8 ((Decides-eqb e.0 line_feed).0 h)
        ∙ encode_ascii line_feed (omega arith)))
    go false h = inr (all_more (λ x. not (line_feed == x)) (λ x. not (x == line_feed)) feed_other u
        (lacks line_feed u (λ w v g. absurd (let f = blank_is_byte u w v line_feed
        (omega arith) e g in let t =
        (Decides-eqb e.0 line_feed).1 f in cc))))

abbrev pub AllBlank : List (List ℕ) → Type 0
AllBlank us = AllByRecursion IsBlank us

pub blank_no_token : (u : List ℕ) → IsBlank u → is_token u ≡ false
blank_no_token u k = false_from_ne_true (is_token u) (λ e. no_both_blank u k e)

pub blanks_no_token : (us : List (List ℕ)) → AllBlank us
    → AllByRecursion (λ u. is_token u ≡ false) us
blanks_no_token [] a = tt
blanks_no_token (u ∷ us) a = (blank_no_token u a.0, blanks_no_token us a.1)

pub blanks_no_comment : (us : List (List ℕ)) → AllBlank us → comments (concat us) ≡ []
blanks_no_comment [] a = comments_nil
blanks_no_comment (u ∷ us) a =
    comments_pass u (concat us) (blank_no_slash u a.0) ∙ blanks_no_comment us a.1

pub blanks_silent : (us : List (List ℕ)) → AllBlank us → Silent us
unfolding listing decorate gaps
blanks_silent us a =
    let e : gaps us ≡ record { first = concat us ++ []; tokens = [] } =
    ap gaps (sym (append-nil us)) ∙ gaps_skip us [] (blanks_no_token us a) in
    rw (e, append-nil (concat us))
    (ap (λ z. record { tokens = []; closing = z }) (blanks_no_comment us a))

-- a byte below 128 is a character
pub chars_low : (b : ℕ) (x : List ℕ) → b < 128 → chars (b ∷ x) ≡ b ∷ chars x
chars_low b x l =
    let k : IsUtf8 (b ∷ []) = rw (encode_ascii b l) at (IsUtf8-encode b (low_scalar b l)) in
    chars-append (b ∷ []) x k ∙ ap (λ z. z ++ chars x) (chars_past_char (b ∷ []) [] b k
    (ap (λ z. z ++ []) (sym (encode_ascii b l))) ∙ ap (λ z. b ∷ z) chars-nil)
  where
    low_scalar : (b : ℕ) → b < 128 → IsScalar b
    low_scalar b l = grind (arith, nat_tests)

pub white_scalar : (c : ℕ) → is_whitespace c ≡ true → IsScalar c
white_scalar c h = grind (arith, nat_tests)

pub chars_blank : (u x : List ℕ) (k : IsBlank u) → chars (u ++ x) ≡ k.0 ∷ chars x
chars_blank u x k =
    let s : IsScalar k.0 = white_scalar k.0 k.1 in
    let w : IsUtf8 (encode_utf8 k.0) = IsUtf8-encode k.0 s in
    ap (λ z. chars (z ++ x)) k.2
    ∙ (chars-append (encode_utf8 k.0) x w ∙ ap (λ z. z ++ chars x) (chars_past_char
    (encode_utf8 k.0) [] k.0 w (sym (append-nil (encode_utf8 k.0))) ∙ ap (λ z. k.0 ∷ z) chars-nil))

pub white_token : (u x : List ℕ) → IsToken u → list_all is_whitespace (chars (u ++ x)) ≡ true → ⊥
white_token [] x t h = no_empty_token t
white_token (b ∷ u) x t h =
    let k = token_class b u (token_of b u t) in
    let l = low_from_class b k in
    let g : list_all is_whitespace (b ∷ chars (u ++ x)) ≡ true = rw (chars_low b (u ++ x) l) at h in
    omega (
      arith,
      k,
      class-white b l (and_parts (is_whitespace b) (list_all is_whitespace (chars (u ++ x))) g).0,
    )

-- the units of a line of White_Space are blanks
pub all_blank : (us : List (List ℕ)) (x : List ℕ) → AllPlain us
    → list_all is_whitespace (chars (concat us ++ x)) ≡ true → AllBlank us
all_blank [] x a h = tt
all_blank (u ∷ us) x a h =
    let g : list_all is_whitespace (chars (u ++ (concat us ++ x))) ≡ true =
    rw (append_assoc u (concat us) x) at h in
    elim a.0.kind [
      | inl k ↦ (
        k,
        all_blank us x a.1 (and_parts (is_whitespace k.0) (list_all is_whitespace
            (chars (concat us ++ x))) (rw (chars_blank u (concat us ++ x) k) at g)).1,
      )
      | inr t ↦ absurd (white_token u (concat us ++ x) t g)
    ]

-- a line of blanks is a blank line
blank_line : (qs : List (List ℕ)) → AllBlank qs → is_blank_line (concat qs ++ (line_feed ∷ []))
    ≡ true
blank_line qs a = rw (last_feed space_character (concat qs), white qs a) refl
  where
    last_feed : (c : ℕ) (x : List ℕ) → (last_byte_or c (x ++ (line_feed ∷ [])) == line_feed) ≡ true
    last_feed c [] = refl
    last_feed c (b ∷ x) = last_feed b x

    white : (qs : List (List ℕ)) → AllBlank qs
        → list_all is_whitespace (chars (concat qs ++ (line_feed ∷ []))) ≡ true
    white [] a = rw (chars_low line_feed [] (omega arith), chars-nil) refl
    white (u ∷ qs) a =
        rw (
          append_assoc u (concat qs) (line_feed ∷ []),
          chars_blank u (concat qs ++ (line_feed ∷ [])) a.0,
          a.0.1,
        )
        (white qs a.1)

-- ---- a piece

-- ---- blank lines among units

abbrev pub is_feed : List ℕ → Bool
is_feed (b ∷ []) = b == line_feed
is_feed _ = false

-- reads units after a line feed and blanks (true) or elsewhere (false);
-- says which holds at the end, `None` on a blank line
abbrev pub lined : Bool → List (List ℕ) → Option Bool
lined fresh [] = Some fresh
lined fresh (u ∷ us) = cond (is_solid u) (lined false us)
    (cond (is_feed u) (cond fresh None (lined true us)) (lined fresh us))

pub lined_append : (us vs : List (List ℕ)) (o e : Bool) → lined o us ≡ Some e
    → lined o (us ++ vs) ≡ lined e vs
lined_append [] vs o e h = let f : o ≡ e = cc in ap (λ z. lined z vs) f
lined_append (u ∷ us) vs o e h = go (is_solid u) (is_feed u) o (λ p k. lined_append us vs p e k) h
  where
    go : (s f o : Bool) → ((p : Bool) → lined p us ≡ Some e → lined p (us ++ vs) ≡ lined e vs)
        → cond s (lined false us) (cond f (cond o None (lined true us)) (lined o us)) ≡ Some e
        → cond s (lined false (us ++ vs)) (cond f (cond o None (lined true (us ++ vs)))
        (lined o (us ++ vs))) ≡ lined e vs
    go true f o ih h = ih false h
    go false true true ih h = absurd cc
    go false true false ih h = ih true h
    go false false o ih h = ih o h

pub token_solid : (u : List ℕ) → is_token u ≡ true → is_solid u ≡ true
token_solid u h = rw h refl

pub comment_solid : (u : List ℕ) → is_comment u ≡ true → is_solid u ≡ true
comment_solid u h = or_right (is_token u) (is_comment u) h

pub blank_no_comment : (u : List ℕ) → IsBlank u → is_comment u ≡ false
blank_no_comment u k = go (is_comment u) refl
  where
    none : (u : List ℕ) → IsBlank u → is_comment u ≡ true → ⊥
    none [] k e = absurd cc
    none (a ∷ []) k e = absurd cc
    none (a ∷ (b ∷ v)) k e =
        let p = comment_parts a b v e in
        let z : class slash ≡ 0 = rw p.0 at (class-blank a (b ∷ v) k) in
        omega (arith, z)

    go : (t : Bool) → is_comment u ≡ t → t ≡ false
    go true e = absurd (none u k e)
    go false e = refl

pub blank_not_solid : (u : List ℕ) → IsBlank u → is_solid u ≡ false
blank_not_solid u k = rw (blank_no_token u k, blank_no_comment u k) refl

pub no_feed_unit : (u : List ℕ) → feedless u ≡ true → is_feed u ≡ false
no_feed_unit [] h = refl
no_feed_unit (b ∷ []) h = not-true (b == line_feed) (and_parts (not (b == line_feed)) true h).0
no_feed_unit (b ∷ (c ∷ u)) h = refl

pub feedless_front : (u x : List ℕ) → feedless (u ++ x) ≡ true → feedless u ≡ true
feedless_front [] x h = refl
feedless_front (b ∷ u) x h =
    let p = and_parts (not (b == line_feed)) (feedless (u ++ x)) h in
    rw p.0 (feedless_front u x p.1)

pub feedless_back : (u x : List ℕ) → feedless (u ++ x) ≡ true → feedless x ≡ true
feedless_back [] x h = h
feedless_back (b ∷ u) x h = feedless_back u x
    (and_parts (not (b == line_feed)) (feedless (u ++ x)) h).1

-- in a line that has more than blanks
line_stays : (qs : List (List ℕ)) → AllPlain qs → feedless (concat qs) ≡ true
    → lined false qs ≡ Some false
line_stays [] a f = refl
line_stays (u ∷ qs) a f =
    go (is_solid u) (is_feed u) (no_feed_unit u (feedless_front u (concat qs) f))
    (line_stays qs a.1 (feedless_back u (concat qs) f))
  where
    go : (s t : Bool) → t ≡ false → lined false qs ≡ Some false
        → cond s (lined false qs) (cond t (lined true qs) (lined false qs)) ≡ Some false
    go true t e ih = ih
    go false true e ih = absurd cc
    go false false e ih = ih

-- blanks after a line feed
blanks_stay : (qs : List (List ℕ)) → AllBlank qs → feedless (concat qs) ≡ true
    → lined true qs ≡ Some true
blanks_stay [] a f = refl
blanks_stay (u ∷ qs) a f =
    rw (blank_not_solid u a.0, no_feed_unit u (feedless_front u (concat qs) f))
    (blanks_stay qs a.1 (feedless_back u (concat qs) f))

pub feed_not_solid : is_solid (line_feed ∷ []) ≡ false
feed_not_solid = blank_not_solid (line_feed ∷ []) feed_blank

lined_feed : (ps qs : List (List ℕ)) → lined false ps ≡ Some false
    → lined false (ps ++ ((line_feed ∷ []) ∷ qs)) ≡ lined true qs
lined_feed ps qs w = lined_append ps ((line_feed ∷ []) ∷ qs) false false w ∙ rw feed_not_solid refl

-- ---- units without some blanks

pub thinned_same : (us : List (List ℕ)) → Thinned us us
thinned_same [] = no_units
thinned_same (u ∷ us) = unit_stays u (thinned_same us)

pub thinned_append : {fs gs us vs : List (List ℕ)} → Thinned fs gs → Thinned us vs
    → Thinned (fs ++ us) (gs ++ vs)
thinned_append no_units t = t
thinned_append (unit_stays u s) t = unit_stays u (thinned_append s t)
thinned_append (blank_goes u k s) t = blank_goes u k (thinned_append s t)

pub thinned_twice : {us vs ws : List (List ℕ)} → Thinned us vs → Thinned vs ws → Thinned us ws
thinned_twice no_units t = t
thinned_twice (unit_stays u s) (unit_stays v t) = unit_stays u (thinned_twice s t)
thinned_twice (unit_stays u s) (blank_goes v k t) = blank_goes u k (thinned_twice s t)
thinned_twice (blank_goes u k s) t = blank_goes u k (thinned_twice s t)

pub thinned_blanks : (bs : List (List ℕ)) {us vs ws : List (List ℕ)} → AllBlank bs → Thinned us vs
    → bs ++ us ≡ ws → Thinned ws vs
thinned_blanks bs {vs = vs} a t e = subst (λ z. Thinned z vs) e (each bs a t)
  where
    each : (bs : List (List ℕ)) {us vs : List (List ℕ)} → AllBlank bs → Thinned us vs
        → Thinned (bs ++ us) vs
    each [] a t = t
    each (u ∷ bs) a t = blank_goes u a.0 (each bs a.1 t)

-- units that replace the first before ss, with the same decorated list:
-- the first without some blanks or any blank line
pub record Instead (us ss : List (List ℕ)) (y : List ℕ) : Type 0 where
  pub units : List (List ℕ)
  pub is : concat units ≡ y
  pub are_units : AreUnits (units ++ ss)
  pub list : listing (units ++ ss) ≡ listing (us ++ ss)
  pub thinned : Thinned us units
  pub ended : Bool
  pub lined : lined false units ≡ Some ended

instead_as : (us vs ss : List (List ℕ)) (x y : List ℕ) → us ≡ vs → x ≡ y → Instead us ss x
    → Instead vs ss y
instead_as us vs ss x y e f i = record {
  units = i.units;
  is = i.is ∙ f;
  are_units = i.are_units;
  list = i.list ∙ ap (λ z. listing (z ++ ss)) e;
  thinned = subst (λ z. Thinned z i.units) e i.thinned;
  ended = i.ended;
  lined = i.lined;
}

-- the units of a line are only blanks, or the line is not blank
line_kind : (qs : List (List ℕ)) → AllPlain qs → feedless (concat qs) ≡ true
    → AllBlank qs ⊎ (lined true qs ≡ Some false)
line_kind [] a f = inl tt
line_kind (u ∷ qs) a f = elim a.0.kind [
  | inr t ↦ inr (rw (token_solid u t) (line_stays qs a.1 (feedless_back u (concat qs) f)))
  | inl k ↦ elim (line_kind qs a.1 (feedless_back u (concat qs) f)) [
    | inl b ↦ inl (k, b)
    | inr e ↦ inr (rw (blank_not_solid u k, no_feed_unit u (feedless_front u (concat qs) f)) e)
  ]
]

in_line_end : (qs : List (List ℕ)) → AllPlain qs → feedless (concat qs) ≡ true
    → (e : Bool) × (lined true qs ≡ Some e)
in_line_end qs a f =
    elim (line_kind qs a f) [ inl b ↦ (true, blanks_stay qs b f) | inr e ↦ (false, e) ]

feedless_no_blank : (l : List ℕ) → feedless l ≡ true → is_blank_line l ≡ false
feedless_no_blank l h =
    rw (not-true (last_byte_or space_character l == line_feed)
    (last_passes (λ b. not (b == line_feed)) space_character l refl h)) refl

onto_onto : (u v : List ℕ) (ls : List (List ℕ)) → onto u (onto v ls) ≡ onto (u ++ v) ls
onto_onto u v [] = refl
onto_onto u v (l ∷ ls) = ap (λ z. z ∷ ls) (sym (append_assoc u v l))

gone_line : (l : List ℕ) (ls : List (List ℕ)) → is_blank_line l ≡ true
    → without_blank_lines (l ∷ ls) ≡ without_blank_lines ls
gone_line l ls h = rw h refl

kept_line : (l : List ℕ) (ls : List (List ℕ)) → is_blank_line l ≡ false
    → without_blank_lines (l ∷ ls) ≡ l ++ without_blank_lines ls
kept_line l ls h = rw h refl

regroup : (ps qs ms ss : List (List ℕ))
    → (ps ++ ((line_feed ∷ []) ∷ (qs ++ ((line_feed ∷ []) ∷ ms)))) ++ ss
    ≡ ps ++ ((line_feed ∷ []) ∷ (qs ++ ((line_feed ∷ []) ∷ (ms ++ ss))))
regroup ps qs ms ss = simp append_assoc

kept_text : (x y w z : List ℕ) → z ≡ x ++ (line_feed ∷ y)
    → z ++ (line_feed ∷ w) ≡ x ++ (line_feed ∷ ((y ++ (line_feed ∷ [])) ++ w))
kept_text x y w z e = rw e (simp append_assoc)

-- after a line feed, where qs is what was read of the line
in_lines : (ms ps qs ss : List (List ℕ)) → AllPlain ms → AllPlain qs → feedless (concat qs) ≡ true
    → lined false ps ≡ Some false → AreUnits ((ps ++ ((line_feed ∷ []) ∷ (qs ++ ms))) ++ ss)
    → Instead (ps ++ ((line_feed ∷ []) ∷ (qs ++ ms))) ss
    (concat ps ++ (line_feed ∷ without_blank_lines (onto (concat qs) (piece_lines (concat ms)))))
in_lines [] ps qs ss a b f w p =
    let k : is_blank_line (concat qs ++ []) ≡ false =
    rw (append-nil (concat qs)) (feedless_no_blank (concat qs) f) in
    let e = in_line_end qs b f in
    record {
      units = ps ++ ((line_feed ∷ []) ∷ (qs ++ []));
      is = rw k (simp (concat-append, append-nil));
      are_units = p;
      list = refl;
      thinned = thinned_same (ps ++ ((line_feed ∷ []) ∷ (qs ++ [])));
      ended = e.0;
      lined = lined_feed ps (qs ++ []) w ∙ (ap (lined true) (append-nil qs) ∙ e.1);
    }
in_lines (u ∷ ms) ps qs ss a b f w p = elim a.0.feed [
  | inr free ↦
      more (in_lines ms ps (qs ++ (u ∷ [])) ss a.1 (All-append Plain qs (u ∷ []) b (a.0, tt))
      (rw (concat-append qs (u ∷ []), append-nil u) (feedless_append (concat qs) u f free)) w
      (rw (append_assoc qs (u ∷ []) ms) p)) free
  | inl e ↦ at_feed e (is_blank_line (concat qs ++ (line_feed ∷ []))) refl
      (λ q. in_lines ms ps [] ss a.1 tt refl w q)
      (λ v q. in_lines ms (ps ++ ((line_feed ∷ []) ∷ qs)) [] ss a.1 tt refl v q)
]
  where
    more : Instead (ps ++ ((line_feed ∷ []) ∷ ((qs ++ (u ∷ [])) ++ ms))) ss (concat ps
        ++ (line_feed ∷ without_blank_lines
        (onto (concat (qs ++ (u ∷ []))) (piece_lines (concat ms)))))
        → feedless u ≡ true
        → Instead (ps ++ ((line_feed ∷ []) ∷ (qs ++ (u ∷ ms)))) ss
        (concat ps ++ (line_feed ∷ without_blank_lines
        (onto (concat qs) (piece_lines (u ++ concat ms)))))
    more i free =
        instead_as _ _ ss _ _ (ap (λ z. ps ++ ((line_feed ∷ []) ∷ z)) (append_assoc qs (u ∷ []) ms))
        (ap (λ z. concat ps ++ (line_feed ∷ without_blank_lines z))
        (ap (λ z. onto z (piece_lines (concat ms))) (concat-append qs (u ∷ []) ∙ ap (λ z.
        concat qs ++ z) (append-nil u)) ∙ (sym (onto_onto (concat qs) u (piece_lines (concat ms)))
        ∙ ap (onto (concat qs)) (sym (lines_onto u (concat ms) free))))) i

    at_feed : u ≡ line_feed ∷ [] → (t : Bool) → is_blank_line (concat qs ++ (line_feed ∷ [])) ≡ t
        → (AreUnits ((ps ++ ((line_feed ∷ []) ∷ ms)) ++ ss)
        → Instead (ps ++ ((line_feed ∷ []) ∷ ms)) ss
        (concat ps ++ (line_feed ∷ without_blank_lines (onto [] (piece_lines (concat ms))))))
        → (lined false (ps ++ ((line_feed ∷ []) ∷ qs)) ≡ Some false
        → AreUnits (((ps ++ ((line_feed ∷ []) ∷ qs)) ++ ((line_feed ∷ []) ∷ ms)) ++ ss)
        → Instead ((ps ++ ((line_feed ∷ []) ∷ qs)) ++ ((line_feed ∷ []) ∷ ms)) ss
        (concat (ps ++ ((line_feed ∷ []) ∷ qs))
        ++ (line_feed ∷ without_blank_lines (onto [] (piece_lines (concat ms))))))
        → Instead (ps ++ ((line_feed ∷ []) ∷ (qs ++ (u ∷ ms)))) ss
        (concat ps ++ (line_feed ∷ without_blank_lines
        (onto (concat qs) (piece_lines (u ++ concat ms)))))
    at_feed e true h gone stays =
        let p0 : AreUnits ((ps ++ ((line_feed ∷ []) ∷ (qs ++ ((line_feed ∷ []) ∷ ms)))) ++ ss) =
        rw e at p in
        let E = regroup ps qs ms ss in
        let k = all_blank qs (line_feed ∷ []) b
        (and_parts (last_byte_or space_character (concat qs ++ (line_feed ∷ [])) == line_feed)
        (list_all is_whitespace (chars (concat qs ++ (line_feed ∷ [])))) h).1 in
        let g = line_goes ps qs (ms ++ ss) (blanks_silent qs k) (subst (λ z. AreUnits z) E p0) in
        let i = gone (rw (append_assoc ps ((line_feed ∷ []) ∷ ms) ss) g.0) in
        rw e (record {
          units = i.units;
          is = i.is
              ∙ ap (λ z. concat ps ++ (line_feed ∷ z))
              (ap without_blank_lines (onto_nothing (concat ms))
              ∙ sym (gone_line (concat qs ++ (line_feed ∷ [])) (piece_lines (concat ms)) h));
          are_units = i.are_units;
          list = i.list
              ∙ (ap listing (append_assoc ps ((line_feed ∷ []) ∷ ms) ss)
              ∙ (g.1 ∙ ap listing (sym E)));
          thinned =
              thinned_twice (thinned_append (thinned_same ps)
              (unit_stays (line_feed ∷ []) (thinned_blanks
              (qs ++ ((line_feed ∷ []) ∷ [])) (All-append IsBlank qs ((line_feed ∷ []) ∷ []) k
              (feed_blank, tt))
              (thinned_same ms) (append_assoc qs ((line_feed ∷ []) ∷ []) ms)))) i.thinned;
          ended = i.ended;
          lined = i.lined;
        })
    at_feed e false h gone stays =
        let p0 : AreUnits ((ps ++ ((line_feed ∷ []) ∷ (qs ++ ((line_feed ∷ []) ∷ ms)))) ++ ss) =
        rw e at p in
        let E = append_assoc ps ((line_feed ∷ []) ∷ qs) ((line_feed ∷ []) ∷ ms) in
        let n : lined true qs ≡ Some false =
        elim (line_kind qs b f) [ inr k ↦ k | inl k ↦ absurd (let m = blank_line qs k in cc) ] in
        let i = stays (lined_feed ps qs w ∙ n) (subst (λ z. AreUnits (z ++ ss)) (sym E) p0) in
        rw e (record {
          units = i.units;
          is = i.is ∙ (ap (λ z. concat (ps ++ ((line_feed ∷ []) ∷ qs)) ++
              (line_feed ∷ without_blank_lines z))
              (onto_nothing (concat ms)) ∙ (kept_text (concat ps) (concat qs)
              (without_blank_lines (piece_lines (concat ms)))
              (concat (ps ++ ((line_feed ∷ []) ∷ qs)))
              (concat-append ps ((line_feed ∷ []) ∷ qs)) ∙ ap (λ z. concat ps ++ (line_feed ∷ z))
              (sym (kept_line (concat qs ++ (line_feed ∷ [])) (piece_lines (concat ms)) h))));
          are_units = i.are_units;
          list = i.list ∙ ap (λ z. listing (z ++ ss)) E;
          thinned = subst (λ z. Thinned z i.units) E i.thinned;
          ended = i.ended;
          lined = i.lined;
        })

-- in a line that stays
pub in_line : (ms ps ss : List (List ℕ)) → AllPlain ms → lined false ps ≡ Some false
    → AreUnits ((ps ++ ms) ++ ss) → Instead (ps ++ ms) ss (concat ps ++ clean_piece (concat ms))
in_line [] ps ss a w p = record {
  units = ps;
  is = sym (append-nil (concat ps));
  are_units = rw (append-nil ps) at p;
  list = ap (λ z. listing (z ++ ss)) (sym (append-nil ps));
  thinned = rw (append-nil ps) (thinned_same ps);
  ended = false;
  lined = w;
}
in_line (u ∷ ms) ps ss a w p = elim a.0.feed [
  | inr free ↦
      instead_as ((ps ++ (u ∷ [])) ++ ms) (ps ++ (u ∷ ms)) ss _ _ (append_assoc ps (u ∷ []) ms)
      (rw (concat-append ps (u ∷ []), append-nil u)
      (append_assoc (concat ps) u (clean_piece (concat ms)) ∙ ap (λ z. concat ps ++ z) (sym
      (ap clean_lines (lines_onto u (concat ms) free) ∙ clean_onto u (piece_lines (concat ms))))))
      (in_line ms (ps ++ (u ∷ [])) ss a.1 (lined_append ps (u ∷ []) false false w ∙ line_stays
      (u ∷ []) (a.0, tt) (rw (append-nil u) free)) (rw (append_assoc ps (u ∷ []) ms) p))
  | inl e ↦ feed e (in_lines ms ps [] ss a.1 tt refl w (rw e at p))
]
  where
    feed : u ≡ line_feed ∷ [] → Instead (ps ++ ((line_feed ∷ []) ∷ ms)) ss (concat ps
        ++ (line_feed ∷ without_blank_lines (onto [] (piece_lines (concat ms)))))
        → Instead (ps ++ (u ∷ ms)) ss (concat ps ++ clean_piece (u ++ concat ms))
    feed e i = rw e (instead_as (ps ++ ((line_feed ∷ []) ∷ ms)) (ps ++ ((line_feed ∷ []) ∷ ms)) ss _
        _ refl
        (ap (λ z. concat ps ++ (line_feed ∷ without_blank_lines z)) (onto_nothing (concat ms))) i)
