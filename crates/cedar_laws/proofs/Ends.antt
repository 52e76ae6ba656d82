-- Trimming removes blanks at the end.
use Rattle.std.proofs.Common.{◌≡◌, ℕ, suc, Bool, true, false, cond, ◌&&◌, ◌==◌, List, [], ◌∷◌, ◌++◌, length, refl, ap, sym, ◌∙◌, subst, arith}
use Rattle.std.specs.List.{list_all, concat}
use Rattle.std.specs.Char.{is_whitespace, IsScalar, encode_utf8}
use Rattle.std.specs.Str.{trim, trim_start, trim_end, chars, IsUtf8, encode_utf8_all, skip_leading_whitespace, drop_trailing_whitespace}
use Rattle.std.proofs.lemmas.Str.{chars-append, chars-encodes, scalars-chars, IsUtf8-append, IsUtf8-encode, chars-nil, encodes-chars, encodes-append}
use Rattle.std.proofs.lemmas.Bool.{and_parts, ne_eqb}
use Rattle.std.proofs.Math.Bool.{and-false}
use lib.Utf8.{scalars}
use Rattle.cedar_laws.proofs.BlankLines.{chars_blank, AllBlank, white_scalar}

drop_white : (ws : List ℕ) → list_all is_whitespace ws ≡ true → drop_trailing_whitespace ws ≡ []
drop_white [] h = refl
drop_white (c ∷ ws) h =
    let p = and_parts (is_whitespace c) (list_all is_whitespace ws) h in
    rw (drop_white ws p.1, p.0) refl

drop_append : (cs ws : List ℕ) → list_all is_whitespace ws ≡ true
    → drop_trailing_whitespace (cs ++ ws) ≡ drop_trailing_whitespace cs
drop_append [] ws h = drop_white ws h
drop_append (c ∷ cs) ws h = rw (drop_append cs ws h) refl

skip_white : (ws : List ℕ) → list_all is_whitespace ws ≡ true → skip_leading_whitespace ws ≡ []
skip_white [] h = refl
skip_white (c ∷ ws) h =
    let p = and_parts (is_whitespace c) (list_all is_whitespace ws) h in rw p.0 (skip_white ws p.1)

both_append : (cs ws : List ℕ) → list_all is_whitespace ws ≡ true → drop_trailing_whitespace
    (skip_leading_whitespace (cs ++ ws)) ≡ drop_trailing_whitespace (skip_leading_whitespace cs)
both_append [] ws h = ap drop_trailing_whitespace (skip_white ws h)
both_append (c ∷ cs) ws h = go (is_whitespace c) (both_append cs ws h)
  where
    go : (t : Bool) → drop_trailing_whitespace (skip_leading_whitespace (cs ++ ws))
        ≡ drop_trailing_whitespace (skip_leading_whitespace cs)
        → drop_trailing_whitespace (cond t (skip_leading_whitespace (cs ++ ws)) (c ∷ (cs ++ ws)))
        ≡ drop_trailing_whitespace (cond t (skip_leading_whitespace cs) (c ∷ cs))
    go true ih = ih
    go false ih = drop_append (c ∷ cs) ws h

pub scalars_skip : (cs : List ℕ) → scalars cs ≡ true → scalars (skip_leading_whitespace cs) ≡ true
scalars_skip [] h = refl
scalars_skip (c ∷ cs) h = go (is_whitespace c) (scalars_skip cs (and_parts _ (scalars cs) h).1)
  where
    go : (t : Bool) → scalars (skip_leading_whitespace cs) ≡ true
        → scalars (cond t (skip_leading_whitespace cs) (c ∷ cs)) ≡ true
    go true ih = ih
    go false ih = h

pub trim_is : (x : List ℕ) → IsUtf8 x
    → trim x ≡ encode_utf8_all (drop_trailing_whitespace (skip_leading_whitespace (chars x)))
unfolding trim_start trim_end
trim_is x u = ap (λ z. encode_utf8_all (drop_trailing_whitespace z))
    (chars-encodes (skip_leading_whitespace (chars x)) (scalars_skip (chars x) (scalars-chars x u)))

pub blanks_utf8 : (bs : List (List ℕ)) → AllBlank bs
    → IsUtf8 (concat bs) × (list_all is_whitespace (chars (concat bs)) ≡ true)
blanks_utf8 [] a = (([], (refl, refl)), rw chars-nil refl)
blanks_utf8 (u ∷ bs) a =
    let r = blanks_utf8 bs a.1 in (
      IsUtf8-append u (concat bs)
          (subst (λ z. IsUtf8 z) (sym a.0.2) (IsUtf8-encode a.0.0 (white_scalar a.0.0 a.0.1))) r.0,
      rw (chars_blank u (concat bs) a.0, a.0.1) r.1,
    )

-- blanks at the end are removed
pub trim_back : (x : List ℕ) (bs : List (List ℕ)) → IsUtf8 x → AllBlank bs
    → trim (x ++ concat bs) ≡ trim x
trim_back x bs u a =
    let r = blanks_utf8 bs a in
    trim_is (x ++ concat bs) (IsUtf8-append x (concat bs) u r.0) ∙ (ap encode_utf8_all
    (ap (λ z. drop_trailing_whitespace (skip_leading_whitespace z)) (chars-append x (concat bs) u)
    ∙ both_append (chars x) (chars (concat bs)) r.1) ∙ sym (trim_is x u))

-- ---- what trimming leaves of a text that begins with a non-blank

pub not_zero : (n : ℕ) → (suc n == 0) ≡ false
not_zero n = ne_eqb (suc n) 0 (λ e. omega (arith, e))

-- a character stays if something after it stays, or if it isn't a blank
pub stays_before : (c d : ℕ) (cs ds : List ℕ) → drop_trailing_whitespace cs ≡ d ∷ ds
    → drop_trailing_whitespace (c ∷ cs) ≡ c ∷ (d ∷ ds)
stays_before c d cs ds e = rw (e, not_zero (length ds), and-false (is_whitespace c)) refl

pub stays_black : (c : ℕ) (cs : List ℕ) → is_whitespace c ≡ false
    → drop_trailing_whitespace (c ∷ cs) ≡ c ∷ drop_trailing_whitespace cs
stays_black c cs h = rw h refl

goes_white : (c : ℕ) (cs : List ℕ) → is_whitespace c ≡ true → drop_trailing_whitespace cs ≡ []
    → drop_trailing_whitespace (c ∷ cs) ≡ []
goes_white c cs h e = rw (h, e) refl

-- the blanks that are removed
record Tail (cs : List ℕ) : Type 0 where
  blanks : List ℕ
  white : list_all is_whitespace blanks ≡ true
  is : cs ≡ drop_trailing_whitespace cs ++ blanks

tail_of : (cs : List ℕ) → Tail cs
tail_of [] = record { blanks = []; white = refl; is = refl }
tail_of (c ∷ cs) = go (is_whitespace c) refl (drop_trailing_whitespace cs) refl (tail_of cs)
  where
    go : (t : Bool) → is_whitespace c ≡ t → (ds : List ℕ) → drop_trailing_whitespace cs ≡ ds
        → Tail cs → Tail (c ∷ cs)
    go true h [] e k = record {
      blanks = c ∷ k.blanks;
      white = rw (h, k.white) refl;
      is = ap (λ z. c ∷ z) (k.is ∙ ap (λ z. z ++ k.blanks) e)
          ∙ ap (λ z. z ++ (c ∷ k.blanks)) (sym (goes_white c cs h e));
    }
    go true h (d ∷ ds) e k = record {
      blanks = k.blanks;
      white = k.white;
      is = ap (λ z. c ∷ z) (k.is ∙ ap (λ z. z ++ k.blanks) e)
          ∙ ap (λ z. z ++ k.blanks) (sym (stays_before c d cs ds e));
    }
    go false h ds e k = record {
      blanks = k.blanks;
      white = k.white;
      is = ap (λ z. c ∷ z) k.is ∙ ap (λ z. z ++ k.blanks) (sym (stays_black c cs h));
    }

pub drop_twice : (cs : List ℕ)
    → drop_trailing_whitespace (drop_trailing_whitespace cs) ≡ drop_trailing_whitespace cs
drop_twice [] = refl
drop_twice (c ∷ cs) = go (is_whitespace c) refl (drop_trailing_whitespace cs) refl (drop_twice cs)
  where
    go : (t : Bool) → is_whitespace c ≡ t → (ds : List ℕ) → drop_trailing_whitespace cs ≡ ds
        → drop_trailing_whitespace (drop_trailing_whitespace cs) ≡ drop_trailing_whitespace cs
        → drop_trailing_whitespace (drop_trailing_whitespace (c ∷ cs))
        ≡ drop_trailing_whitespace (c ∷ cs)
    go true h [] e k = rw (goes_white c cs h e) refl
    go true h (d ∷ ds) e k =
        rw (stays_before c d cs ds e) (stays_before c d (d ∷ ds) ds (rw e at k))
    go false h ds e k =
        rw (stays_black c cs h) (stays_black c (drop_trailing_whitespace cs) h ∙ ap (λ z. c ∷ z) k)

-- what ends in a non-blank stays, whatever comes before it
pub drop_after : (cs : List ℕ) (d : ℕ) (ds : List ℕ) → drop_trailing_whitespace (d ∷ ds) ≡ d ∷ ds
    → drop_trailing_whitespace (cs ++ (d ∷ ds)) ≡ cs ++ (d ∷ ds)
drop_after [] d ds h = h
drop_after (c ∷ []) d ds h = stays_before c d (d ∷ ds) ds h
drop_after (c ∷ (b ∷ cs)) d ds h =
    stays_before c b (b ∷ (cs ++ (d ∷ ds))) (cs ++ (d ∷ ds)) (drop_after (b ∷ cs) d ds h)

pub scalars_drop : (cs : List ℕ) → scalars cs ≡ true → scalars (drop_trailing_whitespace cs) ≡ true
scalars_drop [] h = refl
scalars_drop (c ∷ cs) h = go (is_whitespace c && length (drop_trailing_whitespace cs) == 0)
    (and_parts _ (scalars cs) h).0 (scalars_drop cs (and_parts _ (scalars cs) h).1)
  where
    go : (t : Bool) → IsScalar c → scalars (drop_trailing_whitespace cs) ≡ true
        → scalars (cond t [] (c ∷ drop_trailing_whitespace cs)) ≡ true
    go true s k = refl
    go false s k = rw s k

-- the characters of a trimmed text
pub chars_trim : (x : List ℕ) → IsUtf8 x
    → chars (trim x) ≡ drop_trailing_whitespace (skip_leading_whitespace (chars x))
chars_trim x u = ap chars (trim_is x u)
    ∙ chars-encodes (drop_trailing_whitespace (skip_leading_whitespace (chars x)))
    (scalars_drop (skip_leading_whitespace (chars x)) (scalars_skip (chars x) (scalars-chars x u)))

pub trim_utf8 : (x : List ℕ) → IsUtf8 x → IsUtf8 (trim x)
trim_utf8 x u = (
  drop_trailing_whitespace (skip_leading_whitespace (chars x)),
  (
    scalars_drop (skip_leading_whitespace (chars x)) (scalars_skip (chars x) (scalars-chars x u)),
    sym (trim_is x u),
  ),
)

-- the first character isn't a blank
abbrev pub StartsBlack : List ℕ → Type 0
StartsBlack x = skip_leading_whitespace (chars x) ≡ chars x

abbrev units_of : List ℕ → List (List ℕ)
units_of [] = []
units_of (c ∷ cs) = encode_utf8 c ∷ units_of cs

units_blank : (cs : List ℕ) → list_all is_whitespace cs ≡ true
    → AllBlank (units_of cs) × (concat (units_of cs) ≡ encode_utf8_all cs)
units_blank [] h = (tt, refl)
units_blank (c ∷ cs) h =
    let p = and_parts (is_whitespace c) (list_all is_whitespace cs) h in
    let r = units_blank cs p.1 in
    (((c, p.0, refl), r.0), ap (λ z. encode_utf8 c ++ z) r.1)

-- a text that begins with a non-blank is its trimmed text followed by blanks
pub trimmed_tail : (x : List ℕ) → IsUtf8 x → StartsBlack x
    → (bs : List (List ℕ)) × AllBlank bs × (x ≡ trim x ++ concat bs)
trimmed_tail x u s =
    let t = tail_of (chars x) in
    let r = units_blank t.blanks t.white in
    let e : trim x ≡ encode_utf8_all (drop_trailing_whitespace (chars x)) =
    trim_is x u ∙ ap (λ z. encode_utf8_all (drop_trailing_whitespace z)) s in (
      units_of t.blanks,
      r.0,
      sym (encodes-chars x u) ∙ (ap encode_utf8_all t.is
          ∙ (encodes-append (drop_trailing_whitespace (chars x)) t.blanks ∙ rw (e, r.1) refl)),
    )

-- a text that begins and ends with non-blanks is trimmed already
pub trim_same : (x k : List ℕ) (d : ℕ) (ds : List ℕ) → IsUtf8 x → IsUtf8 k → StartsBlack (x ++ k)
    → chars k ≡ d ∷ ds → drop_trailing_whitespace (d ∷ ds) ≡ d ∷ ds → trim (x ++ k) ≡ x ++ k
trim_same x k d ds u v s e h =
    let w = IsUtf8-append x k u v in
    let c : chars (x ++ k) ≡ chars x ++ (d ∷ ds) = chars-append x k u ∙ ap (λ z. chars x ++ z) e in
    trim_is (x ++ k) w ∙ (ap encode_utf8_all (ap drop_trailing_whitespace (s ∙ c)
    ∙ (drop_after (chars x) d ds h ∙ sym c)) ∙ encodes-chars (x ++ k) w)
