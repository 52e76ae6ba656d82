-- Cleaning removes only White_Space from a UTF-8 text, and none from a string.
use Rattle.std.proofs.Common.{◌≡◌, ℕ, ◌<◌, Bool, true, false, cond, not, ◌&&◌, ◌==◌, ◌⊎◌, inl, inr, List, [], ◌∷◌, ◌++◌, length, get_or, refl, ap, arith, sym, ◌∙◌, subst, append_assoc, append-nil, length-append}
use Rattle.std.specs.List.{list_all, AllByRecursion, concat}
use Rattle.std.specs.Char.{is_whitespace, IsScalar, encode_utf8}
use Rattle.std.specs.Str.{trim, chars, IsUtf8, encode_utf8_all, IsCharBoundary, skip_leading_whitespace, drop_trailing_whitespace}
use Rattle.std.proofs.Math.Seq.{drop-append_seam, take-append_seam, get_or-append_seam}
use Rattle.std.proofs.lemmas.List.{nil_from_length}
use Rattle.std.proofs.lemmas.Bool.{cases_lt, or_cases, and_parts}
use Rattle.std.proofs.lemmas.Bool.Decides.{Decides-eqb}
use Rattle.std.proofs.lemmas.Str.{chars-append, chars-encodes, chars-nil, encodes-chars, encodes-append, scalars-chars, encode_ascii, inside_one, IsUtf8-append, IsUtf8-encode, IsUtf8-nil, IsUtf8-take, IsUtf8-drop, IsCharBoundary-before_ascii}
use lib.Utf8.{scalars}
use Rattle.cedar_tokens.specs.Bytes.{line_feed, quote, slash}
use Rattle.cedar_tokens.specs.Units.{IsLongest, IsFirstUnit, is_string, is_comment, is_string_rest}
use Rattle.cedar_tokens.proofs.Longest.{is_token-string}
use Rattle.cedar_tokens.proofs.FirstUnit.{comment_parts, unit_boundary}
use Rattle.cedar_layout.specs.Cleaning.{IsKept, NoneBegins, Cut, last_piece, more_pieces, piece_lines, is_blank_line, without_blank_lines, clean_lines, clean_piece}
use Rattle.cedar_laws.proofs.Ends.{scalars_skip, scalars_drop, trim_is, stays_black, stays_before}
use Rattle.cedar_laws.proofs.CleanedLists.{kept_unit, kept_too}
use Rattle.cedar_laws.proofs.TrimmedLists.{token_black}
use Rattle.cedar_laws.proofs.BlankLines.{onto, feedless, lacks, lines_onto, chars_low, feed_other}
use Rattle.cedar_laws.specs.LostBlanks.{LosesBlanks, none_left, stays, goes, LosesBlanksBetween, last_part, more_parts, EveryTextLosesBlanks}
use Rattle.cedar_tokens.proofs.Lists.{all_more}

-- ---- characters

-- ds is cs without some White_Space
data Fewer : List ℕ → List ℕ → Type 0 where
  no_chars : Fewer [] []
  char_stays : (c : ℕ) {cs ds : List ℕ} → Fewer cs ds → Fewer (c ∷ cs) (c ∷ ds)
  char_goes : (c : ℕ) {cs ds : List ℕ} → is_whitespace c ≡ true → Fewer cs ds → Fewer (c ∷ cs) ds

fewer_same : (cs : List ℕ) → Fewer cs cs
fewer_same [] = no_chars
fewer_same (c ∷ cs) = char_stays c (fewer_same cs)

fewer_append : {cs ds es fs : List ℕ} → Fewer cs ds → Fewer es fs → Fewer (cs ++ es) (ds ++ fs)
fewer_append no_chars g = g
fewer_append (char_stays c f) g = char_stays c (fewer_append f g)
fewer_append (char_goes c h f) g = char_goes c h (fewer_append f g)

fewer_twice : {cs ds es : List ℕ} → Fewer cs ds → Fewer ds es → Fewer cs es
fewer_twice no_chars g = g
fewer_twice (char_stays c f) (char_stays d g) = char_stays c (fewer_twice f g)
fewer_twice (char_stays c f) (char_goes d h g) = char_goes c h (fewer_twice f g)
fewer_twice (char_goes c h f) g = char_goes c h (fewer_twice f g)

white_goes : (cs : List ℕ) → list_all is_whitespace cs ≡ true → Fewer cs []
white_goes [] h = no_chars
white_goes (c ∷ cs) h =
    let p = and_parts (is_whitespace c) (list_all is_whitespace cs) h in
    char_goes c p.0 (white_goes cs p.1)

fewer_skip : (cs : List ℕ) → Fewer cs (skip_leading_whitespace cs)
fewer_skip [] = no_chars
fewer_skip (c ∷ cs) = go (is_whitespace c) refl (fewer_skip cs)
  where
    go : (t : Bool) → is_whitespace c ≡ t → Fewer cs (skip_leading_whitespace cs)
        → Fewer (c ∷ cs) (cond t (skip_leading_whitespace cs) (c ∷ cs))
    go true h f = char_goes c h f
    go false h f = fewer_same (c ∷ cs)

fewer_drop : (cs : List ℕ) → Fewer cs (drop_trailing_whitespace cs)
fewer_drop [] = no_chars
fewer_drop (c ∷ cs) =
    go (is_whitespace c && length (drop_trailing_whitespace cs) == 0) refl (fewer_drop cs)
  where
    go : (t : Bool) → (is_whitespace c && length (drop_trailing_whitespace cs) == 0) ≡ t
        → Fewer cs (drop_trailing_whitespace cs)
        → Fewer (c ∷ cs) (cond t [] (c ∷ drop_trailing_whitespace cs))
    go true h f =
        let p = and_parts (is_whitespace c) (length (drop_trailing_whitespace cs) == 0) h in
        let e = nil_from_length (drop_trailing_whitespace cs)
        ((Decides-eqb (length (drop_trailing_whitespace cs)) 0).0 p.1) in
        char_goes c p.0 (subst (λ z. Fewer cs z) e f)
    go false h f = char_stays c f

-- what ends in a non-blank stays, and so does what comes before it
drop_more : (cs ds : List ℕ) (e : ℕ) (es : List ℕ) → drop_trailing_whitespace ds ≡ e ∷ es
    → drop_trailing_whitespace (cs ++ ds) ≡ cs ++ (e ∷ es)
drop_more [] ds e es h = h
drop_more (c ∷ []) ds e es h = stays_before c e ds es h
drop_more (c ∷ (b ∷ cs)) ds e es h =
    stays_before c b (b ∷ (cs ++ ds)) (cs ++ (e ∷ es)) (drop_more (b ∷ cs) ds e es h)

drop_none : (cs ws : List ℕ) → drop_trailing_whitespace ws ≡ []
    → drop_trailing_whitespace (cs ++ ws) ≡ drop_trailing_whitespace cs
drop_none [] ws h = h
drop_none (c ∷ cs) ws h = rw (drop_none cs ws h) refl

skip_before : (cs ds : List ℕ) (d : ℕ) → is_whitespace d ≡ false
    → skip_leading_whitespace (cs ++ (d ∷ ds)) ≡ skip_leading_whitespace cs ++ (d ∷ ds)
skip_before [] ds d h = rw h refl
skip_before (c ∷ cs) ds d h = go (is_whitespace c) (skip_before cs ds d h)
  where
    go : (t : Bool)
        → skip_leading_whitespace (cs ++ (d ∷ ds)) ≡ skip_leading_whitespace cs ++ (d ∷ ds)
        → cond t (skip_leading_whitespace (cs ++ (d ∷ ds))) (c ∷ (cs ++ (d ∷ ds)))
        ≡ cond t (skip_leading_whitespace cs) (c ∷ cs) ++ (d ∷ ds)
    go true e = e
    go false e = refl

-- ---- texts

-- b is a without some White_Space
record Less (a b : List ℕ) : Type 0 where
  before : IsUtf8 a
  after : IsUtf8 b
  fewer : Fewer (chars a) (chars b)

less_same : (a : List ℕ) → IsUtf8 a → Less a a
less_same a u = record { before = u; after = u; fewer = fewer_same (chars a) }

less_append : (a b c d : List ℕ) → Less a b → Less c d → Less (a ++ c) (b ++ d)
less_append a b c d l m = record {
  before = IsUtf8-append a c l.before m.before;
  after = IsUtf8-append b d l.after m.after;
  fewer = subst (λ z. Fewer z (chars (b ++ d))) (sym (chars-append a c l.before))
      (subst (λ z. Fewer (chars a ++ chars c) z) (sym (chars-append b d l.after))
      (fewer_append l.fewer m.fewer));
}

chars_lose : {cs ds : List ℕ} → scalars cs ≡ true → Fewer cs ds
    → LosesBlanks (encode_utf8_all cs) (encode_utf8_all ds)
chars_lose h no_chars = none_left
chars_lose h (char_stays c {cs} f) =
    let p = and_parts _ (scalars cs) h in stays c p.0 (chars_lose p.1 f)
chars_lose h (char_goes c {cs} k f) = goes c k (chars_lose (and_parts _ (scalars cs) h).1 f)

loses : (a b : List ℕ) → Less a b → LosesBlanks a b
loses a b l = subst (λ z. LosesBlanks z b) (encodes-chars a l.before)
    (subst (λ z. LosesBlanks (encode_utf8_all (chars a)) z) (encodes-chars b l.after)
    (chars_lose (scalars-chars a l.before) l.fewer))

-- a text with the characters ds
less_chars : (a ds : List ℕ) → IsUtf8 a → scalars ds ≡ true → Fewer (chars a) ds
    → Less a (encode_utf8_all ds)
less_chars a ds u h f = record {
  before = u;
  after = (ds, (h, refl));
  fewer = subst (λ z. Fewer (chars a) z) (sym (chars-encodes ds h)) f;
}

-- without the blanks at its start, and at its end
abbrev start : List ℕ → List ℕ
start x = encode_utf8_all (skip_leading_whitespace (chars x))

abbrev end : List ℕ → List ℕ
end x = encode_utf8_all (drop_trailing_whitespace (chars x))

trim_both : (x : List ℕ) → IsUtf8 x → trim x ≡ end (start x)
trim_both x u =
    trim_is x u ∙ ap (λ z. encode_utf8_all (drop_trailing_whitespace z)) (sym (chars-encodes
    (skip_leading_whitespace (chars x)) (scalars_skip (chars x) (scalars-chars x u))))

less_start : (a b : List ℕ) → Less a b → Less a (start b)
less_start a b l = less_chars a (skip_leading_whitespace (chars b)) l.before
    (scalars_skip (chars b) (scalars-chars b l.after)) (fewer_twice l.fewer (fewer_skip (chars b)))

less_end : (a b : List ℕ) → Less a b → Less a (end b)
less_end a b l = less_chars a (drop_trailing_whitespace (chars b)) l.before
    (scalars_drop (chars b) (scalars-chars b l.after)) (fewer_twice l.fewer (fewer_drop (chars b)))

-- ---- a piece

-- the bytes of a character other than a line feed contain none
char_feedless : (c : ℕ) → (c == line_feed) ≡ false → feedless (encode_utf8 c) ≡ true
char_feedless c h = all_more (λ x. not (line_feed == x)) (λ x. not (x == line_feed)) feed_other
    (encode_utf8 c)
    (lacks line_feed (encode_utf8 c) within)
  where
    within : (w v : List ℕ) → encode_utf8 c ≡ w ++ (line_feed ∷ v) → ⊥
    within w v e =
        let at : get_or (encode_utf8 c) (length w) 0 ≡ line_feed =
        ap (λ z. get_or z (length w) 0) e ∙ get_or-append_seam w line_feed v 0 in
        let f : c ≡ line_feed =
        inside_one c [] (encode_utf8 c) (length w) (sym (append-nil (encode_utf8 c)))
        (omega (arith, ap length e, length-append w (line_feed ∷ v))) (omega (arith, at)) ∙ at in
        let t = (Decides-eqb c line_feed).1 f in
        cc

abbrev AllUtf8 : List (List ℕ) → Type 0
AllUtf8 ls = AllByRecursion IsUtf8 ls

onto_utf8 : (u : List ℕ) (ls : List (List ℕ)) → IsUtf8 u → AllUtf8 ls
    → AllUtf8 (onto u ls) × (concat (onto u ls) ≡ u ++ concat ls)
onto_utf8 u [] h a = ((h, tt), refl)
onto_utf8 u (l ∷ ls) h a = ((IsUtf8-append u l h a.0, a.1), append_assoc u l (concat ls))

chars_lines : (cs : List ℕ) → scalars cs ≡ true → AllUtf8 (piece_lines (encode_utf8_all cs))
    × (concat (piece_lines (encode_utf8_all cs)) ≡ encode_utf8_all cs)
chars_lines [] h = ((IsUtf8-nil, tt), refl)
chars_lines (c ∷ cs) h =
    go (c == line_feed) refl (and_parts _ (scalars cs) h).0
    (chars_lines cs (and_parts _ (scalars cs) h).1)
  where
    go : (t : Bool) → (c == line_feed) ≡ t → IsScalar c → AllUtf8 (piece_lines (encode_utf8_all cs))
        × (concat (piece_lines (encode_utf8_all cs)) ≡ encode_utf8_all cs)
        → AllUtf8 (piece_lines (encode_utf8 c ++ encode_utf8_all cs)) × (concat (piece_lines
        (encode_utf8 c ++ encode_utf8_all cs)) ≡ encode_utf8 c ++ encode_utf8_all cs)
    go true e s r =
        let f : encode_utf8 c ≡ line_feed ∷ [] =
        ap encode_utf8 ((Decides-eqb c line_feed).0 e) ∙ encode_ascii line_feed (omega arith) in
        let g : IsUtf8 (line_feed ∷ []) = subst (λ z. IsUtf8 z) f (IsUtf8-encode c s) in
        rw f ((g, r.0), ap (λ z. line_feed ∷ z) r.1)
    go false e s r =
        let q =
        onto_utf8 (encode_utf8 c) (piece_lines (encode_utf8_all cs)) (IsUtf8-encode c s) r.0 in
        rw (lines_onto (encode_utf8 c) (encode_utf8_all cs) (char_feedless c e))
        (q.0, q.1 ∙ ap (λ z. encode_utf8 c ++ z) r.1)

less_lines : (ls : List (List ℕ)) → AllUtf8 ls → Less (concat ls) (without_blank_lines ls)
less_lines [] a = less_same [] IsUtf8-nil
less_lines (l ∷ ls) a = go (is_blank_line l) refl (less_lines ls a.1)
  where
    go : (t : Bool) → is_blank_line l ≡ t → Less (concat ls) (without_blank_lines ls)
        → Less (l ++ concat ls) (without_blank_lines (l ∷ ls))
    go true e m = rw e (less_append l [] (concat ls) (without_blank_lines ls)
        (gone (and_parts _ (list_all is_whitespace (chars l)) e).1) m)
      where
        gone : list_all is_whitespace (chars l) ≡ true → Less l []
        gone h = record {
          before = a.0;
          after = IsUtf8-nil;
          fewer = rw chars-nil (white_goes (chars l) h);
        }
    go false e m = rw e (less_append l l (concat ls) (without_blank_lines ls) (less_same l a.0) m)

less_clean : (ls : List (List ℕ)) → AllUtf8 ls → Less (concat ls) (clean_lines ls)
less_clean [] a = less_same [] IsUtf8-nil
less_clean (l ∷ ls) a =
    less_append l l (concat ls) (without_blank_lines ls) (less_same l a.0) (less_lines ls a.1)

less_piece : (m : List ℕ) → IsUtf8 m → Less m (clean_piece m)
less_piece m u =
    let e = encodes-chars m u in
    let r = chars_lines (chars m) (scalars-chars m u) in
    let a : AllUtf8 (piece_lines m) = subst (λ z. AllUtf8 (piece_lines z)) e r.0 in
    let c : concat (piece_lines m) ≡ m = subst (λ z. concat (piece_lines z) ≡ z) e r.1 in
    subst (λ z. Less z (clean_piece m)) c (less_clean (piece_lines m) a)

-- ---- a string or a comment

-- its first byte
record Marked (s : List ℕ) : Type 0 where
  mark : ℕ
  rest : List ℕ
  is : s ≡ mark ∷ rest
  low : mark < 128
  black : is_whitespace mark ≡ false

marked : (s : List ℕ) → IsKept s → Marked s
marked [] k = absurd cc
marked (b ∷ s) k = elim (or_cases (is_string (b ∷ s)) (is_comment (b ∷ s)) k) [
  | inl e ↦ at (b ∷ s) s quote (ap (λ z. z ∷ s)
      ((Decides-eqb b quote).0 (and_parts (b == quote) (is_string_rest s) e).0)) (omega arith) refl
  | inr e ↦ slashes s e
]
  where
    at : (x rest : List ℕ) (mark : ℕ) → x ≡ mark ∷ rest → mark < 128 → is_whitespace mark ≡ false
        → Marked x
    at x rest mark e l w = record { mark = mark; rest = rest; is = e; low = l; black = w }

    slashes : (s : List ℕ) → is_comment (b ∷ s) ≡ true → Marked (b ∷ s)
    slashes [] e = absurd cc
    slashes (c ∷ s) e = at (b ∷ (c ∷ s)) (c ∷ s) slash
        (ap (λ z. z ∷ (c ∷ s)) (comment_parts b c s e).0) (omega arith) refl

-- the text may be cut before and after it
cut_utf8 : (x y : List ℕ) → IsUtf8 (x ++ y) → IsCharBoundary (x ++ y) (length x)
    → IsUtf8 x × IsUtf8 y
cut_utf8 x y u b = (
  subst (λ z. IsUtf8 z) (take-append_seam x y) (IsUtf8-take (x ++ y) (length x) u b),
  subst (λ z. IsUtf8 z) (drop-append_seam x y) (IsUtf8-drop (x ++ y) (length x) u b),
)

before_utf8 : (m s r : List ℕ) → Marked s → IsUtf8 (m ++ (s ++ r)) → IsUtf8 m × IsUtf8 (s ++ r)
before_utf8 m s r k u =
    let e : m ++ (s ++ r) ≡ m ++ (k.mark ∷ (k.rest ++ r)) = ap (λ z. m ++ (z ++ r)) k.is in
    let at : get_or (m ++ (s ++ r)) (length m) 0 ≡ k.mark =
    ap (λ z. get_or z (length m) 0) e ∙ get_or-append_seam m k.mark (k.rest ++ r) 0 in
    let n : length (m ++ (s ++ r)) ≡ length (m ++ (k.mark ∷ (k.rest ++ r))) = ap length e in
    let l = k.low in
    cut_utf8 m (s ++ r) u (IsCharBoundary-before_ascii (m ++ (s ++ r)) (length m)
    (omega (arith, n, length-append m (k.mark ∷ (k.rest ++ r)))) (omega (arith, at, l)))

-- it is the first unit of the text that begins with it
first_unit : (s r : List ℕ) → IsLongest IsKept (s ++ r) s → IsFirstUnit (s ++ r) s
first_unit s r k = record {
  kind = kept_unit s k.kind;
  begins = k.begins;
  longest = λ v n g. elim (cases_lt (length s) (length v)) [
    | inl l ↦ k.longest v (kept_too (s ++ r) s v k.kind k.begins n g (omega (arith, l))) g
    | inr l ↦ l
  ];
}

-- ---- a text that is cut

-- the text without some White_Space between its strings and comments
data Thin : List ℕ → List ℕ → Type 0 where
  thin_last : (m n : List ℕ) → NoneBegins m [] → Less m n → Thin m n
  thin_more : (m n s r y : List ℕ) → NoneBegins m (s ++ r) → IsLongest IsKept (s ++ r) s → IsUtf8 s
      → Less m n → Thin r y → Thin (m ++ (s ++ r)) (n ++ (s ++ y))

thin : {x z : List ℕ} → Cut x z → IsUtf8 x → Thin x z
thin (last_piece m a) u = thin_last m (clean_piece m) a (less_piece m u)
thin (more_pieces m s r y a k c) u =
    let p = before_utf8 m s r (marked s k.kind) u in
    let q = cut_utf8 s r p.1 (unit_boundary (s ++ r) s p.1 (first_unit s r k)) in
    thin_more m (clean_piece m) s r y a k q.0 (less_piece m p.0) (thin c q.1)

thin_utf8 : {x z : List ℕ} → Thin x z → IsUtf8 z
thin_utf8 (thin_last m n a l) = l.after
thin_utf8 (thin_more m n s r y a k u l t) =
    IsUtf8-append n (s ++ y) l.after (IsUtf8-append s y u (thin_utf8 t))

-- the characters of a string or a comment and of what follows it
marked_chars : (s w : List ℕ) (k : Marked s) → chars (s ++ w) ≡ k.mark ∷ chars (k.rest ++ w)
marked_chars s w k = ap (λ z. chars (z ++ w)) k.is ∙ chars_low k.mark (k.rest ++ w) k.low

-- ---- trimmed at the start

thin_start : {x z : List ℕ} → Thin x z → Thin x (start z)
thin_start (thin_last m n a l) = thin_last m (start n) a (less_start m n l)
thin_start (thin_more m n s r y a k u l t) =
    subst (λ z. Thin (m ++ (s ++ r)) z) (sym (same (marked s k.kind)))
    (thin_more m (start n) s r y a k u (less_start m n l) t)
  where
    same : Marked s → start (n ++ (s ++ y)) ≡ start n ++ (s ++ y)
    same q =
        let c = marked_chars s y q in
        let w = IsUtf8-append s y u (thin_utf8 t) in
        ap (λ z. encode_utf8_all (skip_leading_whitespace z))
        (chars-append n (s ++ y) l.after ∙ ap (λ z. chars n ++ z) c)
        ∙ (ap encode_utf8_all (skip_before (chars n) (chars (q.rest ++ y)) q.mark q.black
        ∙ ap (λ z. skip_leading_whitespace (chars n) ++ z) (sym c))
        ∙ (encodes-append (skip_leading_whitespace (chars n)) (chars (s ++ y))
        ∙ ap (λ z. start n ++ z) (encodes-chars (s ++ y) w)))

-- ---- trimmed at the end

-- a string stays
string_whole : (s : List ℕ) → IsUtf8 s → is_string s ≡ true → end s ≡ s
string_whole s u h =
    let b = token_black s (is_token-string s h) u in
    ap encode_utf8_all (ap drop_trailing_whitespace b.is ∙ (b.stays ∙ sym b.is)) ∙ encodes-chars s u

-- a comment is trimmed
comment_cut : (s : List ℕ) → IsUtf8 s → Marked s → end s ≡ trim s
comment_cut s u q = sym (trim_is s u ∙ ap (λ z. encode_utf8_all (drop_trailing_whitespace z))
    (ap skip_leading_whitespace c ∙ (rw q.black refl ∙ sym c)))
  where
    c : chars s ≡ q.mark ∷ chars (q.rest ++ [])
    c = ap chars (sym (append-nil s)) ∙ marked_chars s [] q

-- where nothing is left after it, and where something is
end_none : (n s y : List ℕ) → IsUtf8 n → IsUtf8 s → Marked s
    → drop_trailing_whitespace (chars y) ≡ [] → end (n ++ (s ++ y)) ≡ n ++ end s
end_none n s y u v q h =
    let c : chars (n ++ (s ++ y)) ≡ chars n ++ (chars s ++ chars y) =
    chars-append n (s ++ y) u ∙ ap (λ z. chars n ++ z) (chars-append s y v) in
    let d : chars s ≡ q.mark ∷ chars (q.rest ++ []) =
    ap chars (sym (append-nil s)) ∙ marked_chars s [] q in
    let f : drop_trailing_whitespace (chars s)
    ≡ q.mark ∷ drop_trailing_whitespace (chars (q.rest ++ [])) =
    ap drop_trailing_whitespace d ∙ stays_black q.mark (chars (q.rest ++ [])) q.black in
    let g : drop_trailing_whitespace (chars s ++ chars y) ≡ drop_trailing_whitespace (chars s) =
    drop_none (chars s) (chars y) h in
    ap encode_utf8_all
    (ap drop_trailing_whitespace c ∙ (drop_more (chars n) (chars s ++ chars y) q.mark
    (drop_trailing_whitespace (chars (q.rest ++ []))) (g ∙ f) ∙ ap (λ z. chars n ++ z) (sym f)))
    ∙ (encodes-append (chars n) (drop_trailing_whitespace (chars s))
    ∙ ap (λ z. z ++ end s) (encodes-chars n u))

end_some : (n s y : List ℕ) (d : ℕ) (ds : List ℕ) → IsUtf8 n → IsUtf8 s
    → drop_trailing_whitespace (chars y) ≡ d ∷ ds → end (n ++ (s ++ y)) ≡ n ++ (s ++ end y)
end_some n s y d ds u v h =
    let w = IsUtf8-append n s u v in
    let c : chars (n ++ (s ++ y)) ≡ chars (n ++ s) ++ chars y =
    ap chars (sym (append_assoc n s y)) ∙ chars-append (n ++ s) y w in
    ap encode_utf8_all (ap drop_trailing_whitespace c
    ∙ (drop_more (chars (n ++ s)) (chars y) d ds h ∙ ap (λ z. chars (n ++ s) ++ z) (sym h)))
    ∙ (encodes-append (chars (n ++ s)) (drop_trailing_whitespace (chars y))
    ∙ (ap (λ z. z ++ end y) (encodes-chars (n ++ s) w) ∙ append_assoc n s (end y)))

thin_end : {x z : List ℕ} → Thin x z → LosesBlanksBetween x (end z)
thin_end (thin_last m n a l) = last_part m (end n) a (loses m (end n) (less_end m n l))
thin_end (thin_more m n s r y a k u l t) = go (drop_trailing_whitespace (chars y)) refl (thin_end t)
  where
    only : end y ≡ [] → LosesBlanksBetween r (end y) → is_string s ≡ true ⊎ is_comment s ≡ true
        → LosesBlanksBetween (m ++ (s ++ r)) (n ++ end s)
    only e b (inl h) = subst (λ z. LosesBlanksBetween (m ++ (s ++ r)) (n ++ z))
        (append-nil s ∙ sym (string_whole s u h)) (more_parts m n s s r [] a k (loses m n l)
        (inl refl) (subst (λ z. LosesBlanksBetween r z) e b))
    only e b (inr h) = subst (λ z. LosesBlanksBetween (m ++ (s ++ r)) (n ++ z))
        (append-nil (trim s) ∙ sym (comment_cut s u (marked s k.kind))) (more_parts m n s (trim s) r
        [] a k (loses m n l) (inr (h, refl, refl)) (subst (λ z. LosesBlanksBetween r z) e b))

    go : (ds : List ℕ) → drop_trailing_whitespace (chars y) ≡ ds → LosesBlanksBetween r (end y)
        → LosesBlanksBetween (m ++ (s ++ r)) (end (n ++ (s ++ y)))
    go [] h b = subst (λ z. LosesBlanksBetween (m ++ (s ++ r)) z)
        (sym (end_none n s y l.after u (marked s k.kind) h))
        (only (ap encode_utf8_all h) b (or_cases (is_string s) (is_comment s) k.kind))
    go (d ∷ ds) h b =
        subst (λ z. LosesBlanksBetween (m ++ (s ++ r)) z) (sym (end_some n s y d ds l.after u h))
        (more_parts m n s s r (end y) a k (loses m n l) (inl refl) b)

pub every_text_loses_blanks : EveryTextLosesBlanks
every_text_loses_blanks x y u c =
    let t = thin c.cut u in
    subst (λ z. LosesBlanksBetween x z) (sym (c.trimmed ∙ trim_both c.joined (thin_utf8 t)))
    (thin_end (thin_start t))
