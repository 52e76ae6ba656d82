-- Scans of texts, piece by piece.
use Rattle.std.proofs.Common.{◌≡◌, ℕ, suc, ◌<◌, ◌≤◌, Bool, true, not, ◌==◌, inl, inr, List, [], ◌∷◌, ◌++◌, length, get_or, drop, refl, ap, arith, sym, ◌∙◌, append_assoc, append-nil, length-append}
use Rattle.std.specs.List.{list_all}
use Rattle.std.specs.Char.{is_ascii_digit, encode_utf8}
use Rattle.std.proofs.Math.Seq.{drop-append_seam}
use Rattle.std.proofs.lemmas.List.{drop-append-le}
use Rattle.std.proofs.lemmas.Str.{inside_one, encode_ascii}
use Rattle.std.proofs.lemmas.Bool.{and_parts}
use Rattle.cedar_tokens.specs.Bytes.{line_feed, slash}
use Rattle.cedar_tokens.specs.Units.{BeginsWith, IsUnit, blank, comment, token, IsBlank, IsComment, IsToken, IsFirstUnit, is_word_byte, is_comment_byte, is_string_rest, slots, punctuators}
use Rattle.cedar_tokens.specs.Split.{Scans, SplitsInto}
use Rattle.cedar_tokens.proofs.Prefixes.{same_head, begins_fits}
use Rattle.cedar_tokens.proofs.Heads.{class, class-blank, word, number, string, slot, punctuator, token_of, one_of}
use Rattle.cedar_tokens.proofs.Longest.{clash}
use Rattle.cedar_tokens.proofs.FirstUnit.{comment_parts, unit_nonempty}
use Rattle.cedar_laws.proofs.Units.{Past, past, string_then, next_passes, blank_first, feed_blank}

pub scans_unit : (u : List ℕ) (us : List (List ℕ)) (r rest : List ℕ) → IsFirstUnit (u ++ r) u
    → Scans us r rest → Scans (u ∷ us) (u ++ r) rest
scans_unit u us r rest f s = (f, rw (drop-append_seam u r) s)

pub scans_append : (us vs : List (List ℕ)) (x y z : List ℕ) → Scans us x y → Scans vs y z
    → Scans (us ++ vs) x z
scans_append [] vs x y z a b = rw a b
scans_append (u ∷ us) vs x y z a b = (a.0, scans_append us vs (drop (length u) x) y z a.1 b)

-- what a text begins with, its front begins with too, if it is long enough
pub begins_within : (a b v : List ℕ) → BeginsWith (a ++ b) v → length v ≤ length a → BeginsWith a v
begins_within a b [] g l = (a, refl)
begins_within [] b (c ∷ v) g l = absurd (omega (arith, l))
begins_within (x ∷ a) b (c ∷ v) g l =
    let s = same_head x c (a ++ b) v g in
    let w = begins_within a b v s.1 (omega (arith, l)) in
    let e : a ≡ v ++ w.0 = w.1 in
    let f : x ≡ c = s.0 in
    (w.0, cc)

-- a unit of a text is that of its front
pub first_within : (a b u : List ℕ) → IsFirstUnit (a ++ b) u → length u ≤ length a → IsFirstUnit a u
first_within a b u f l = record {
  kind = f.kind;
  begins = begins_within a b u f.begins l;
  longest = λ v k g. f.longest v k (g.0 ++ b, ap (λ x. x ++ b) g.1 ∙ append_assoc v g.0 b);
}

-- no byte is a line feed
abbrev feedless : List ℕ → Bool
feedless u = list_all (λ b. not (b == line_feed)) u

slots_feedless : list_all feedless slots ≡ true
unfolding slots
slots_feedless = refl

punctuators_feedless : list_all feedless punctuators ≡ true
unfolding punctuators
punctuators_feedless = refl

no_feed_in : (w v : List ℕ) → feedless (w ++ (line_feed ∷ v)) ≡ true → ⊥
no_feed_in w v h = absurd (let e = next_passes (λ b. not (b == line_feed)) w line_feed v h in cc)

pub token_no_feed : (b : ℕ) (w v : List ℕ) → IsToken (b ∷ (w ++ (line_feed ∷ v)))
    → (class b ≡ 3) × (is_string_rest (w ++ (line_feed ∷ v)) ≡ true)
token_no_feed b w v t = elim (token_of b (w ++ (line_feed ∷ v)) t) [
  | word _ a ↦ absurd (let e = next_passes is_word_byte w line_feed v a in cc)
  | number _ a ↦ absurd (let e = next_passes is_ascii_digit w line_feed v a in cc)
  | string c a ↦ (c, a)
  | slot _ a ↦ absurd (no_feed_in w v (and_parts (not (b == line_feed)) _
      (one_of feedless slots (b ∷ (w ++ (line_feed ∷ v))) slots_feedless a)).1)
  | punctuator _ _ a ↦ absurd (no_feed_in w v (and_parts (not (b == line_feed)) _
      (one_of feedless punctuators (b ∷ (w ++ (line_feed ∷ v))) punctuators_feedless a)).1)
]

comment_no_feed : (b : ℕ) (w v : List ℕ) → IsComment (b ∷ (w ++ (line_feed ∷ v))) → ⊥
comment_no_feed b [] v k = let p = comment_parts b line_feed v k in omega (arith, p.1)
comment_no_feed b (c ∷ w) v k = absurd
    (let e = next_passes is_comment_byte w line_feed v
    (comment_parts b c (w ++ (line_feed ∷ v)) k).2 in cc)

get_feed : (b : ℕ) (w v : List ℕ) → get_or (b ∷ (w ++ (line_feed ∷ v))) (suc (length w)) 0
    ≡ line_feed
get_feed b [] v = refl
get_feed b (c ∷ w) v = get_feed c w v

blank_no_feed : (b : ℕ) (w v : List ℕ) → IsBlank (b ∷ (w ++ (line_feed ∷ v))) → ⊥
blank_no_feed b w v k =
    let g = get_feed b w v in
    let l : suc (length w) < length (encode_utf8 k.0) =
    rw (sym k.2) (omega (arith, length-append w (line_feed ∷ v))) in
    let e = inside_one k.0 [] (b ∷ (w ++ (line_feed ∷ v))) (suc (length w))
    (k.2 ∙ sym (append-nil (encode_utf8 k.0))) l (omega (arith, g)) in
    let f : k.0 ≡ line_feed = e ∙ g in
    let h : b ∷ (w ++ (line_feed ∷ v)) ≡ line_feed ∷ [] =
    k.2 ∙ (ap encode_utf8 f ∙ encode_ascii line_feed (omega arith)) in
    let n = ap length h in
    omega (arith, n, length-append w (line_feed ∷ v))

pub string_class : (u : List ℕ) (b : ℕ) → IsUnit (b ∷ u) → class b ≡ 3 → is_string_rest u ≡ true
string_class u b k c = elim k [
  | blank e ↦ absurd (let z = class-blank b u e in omega (arith, z, c))
  | comment e ↦ absurd (no_comment u e)
  | token t ↦ elim (token_of b u t) [
    | string _ a ↦ a
    | word c2 _ ↦ absurd (clash c c2 refl)
    | number c2 _ ↦ absurd (clash c c2 refl)
    | slot c2 _ ↦ absurd (clash c c2 refl)
    | punctuator c2 _ _ ↦ absurd (clash c c2 refl)
  ]
]
  where
    no_comment : (u : List ℕ) → IsComment (b ∷ u) → ⊥
    no_comment [] e = absurd cc
    no_comment (d ∷ u) e =
        let p = comment_parts b d u e in
        let f : class slash ≡ 3 = rw p.0 at c in
        omega (arith, f)

-- a line feed after a text changes none of its units
pub first_before_feed : (a r u : List ℕ) → IsFirstUnit a u → IsFirstUnit (a ++ (line_feed ∷ r)) u
first_before_feed [] r u f =
    absurd (omega (arith, unit_nonempty u f.kind, begins_fits [] u f.begins))
first_before_feed (b ∷ a) r u f = record {
  kind = f.kind;
  begins = (
    f.begins.0 ++ (line_feed ∷ r),
    ap (λ x. x ++ (line_feed ∷ r)) f.begins.1 ∙ append_assoc u f.begins.0 (line_feed ∷ r),
  );
  longest = λ v k g. elim (past (b ∷ a) (line_feed ∷ r) v g) [
    | inl l ↦ f.longest v k (begins_within (b ∷ a) (line_feed ∷ r) v g l)
    | inr p ↦ absurd (crosses v k p)
  ];
}
  where
    front : (u : List ℕ) → IsUnit u → BeginsWith (b ∷ a) u → class b ≡ 3
        → (w : List ℕ) × BeginsWith a w × (is_string_rest w ≡ true)
    front [] k g c = absurd (omega (arith, unit_nonempty [] k))
    front (d ∷ w) k g c = let s = same_head b d a w g in (w, s.1, string_class w d k (rw s.0 at c))

    string_front : (w v : List ℕ) → BeginsWith a w → is_string_rest w ≡ true
        → is_string_rest (a ++ (line_feed ∷ v)) ≡ true → ⊥
    string_front w v g h k = go g.0 g.1
      where
        go : (t : List ℕ) → a ≡ w ++ t → ⊥
        go [] e = string_then w line_feed v h (rw (e, append-nil) at k)
        go (d ∷ t) e = string_then w d (t ++ (line_feed ∷ v)) h (rw (e, append_assoc) at k)

    crosses : (v : List ℕ) → IsUnit v → Past (b ∷ a) (line_feed ∷ r) v → ⊥
    crosses v k p =
        let feed : line_feed ≡ p.next = let e = p.is_rest in cc in
        let n : IsUnit (b ∷ (a ++ (line_feed ∷ p.more))) = rw feed (rw p.is at k) in
        elim n [
          | blank e ↦ blank_no_feed b a p.more e
          | comment e ↦ comment_no_feed b a p.more e
          | token e ↦ (let s = token_no_feed b a p.more e in let w = front u f.kind f.begins s.0 in
              string_front w.0 p.more w.1 w.2 s.1)
        ]

-- so a line feed after a text that splits changes nothing
pub scans_before_feed : (us : List (List ℕ)) (x r : List ℕ) → Scans us x []
    → Scans us (x ++ (line_feed ∷ r)) (line_feed ∷ r)
scans_before_feed [] x r s = rw s refl
scans_before_feed (u ∷ us) x r s = (
  first_before_feed x r u s.0,
  rw (drop-append-le (length u) x (line_feed ∷ r) (begins_fits x u s.0.begins))
      (scans_before_feed us (drop (length u) x) r s.1),
)

-- two texts that split, with a line feed between
pub splits_join : (us vs : List (List ℕ)) (x y : List ℕ) → SplitsInto x us → SplitsInto y vs
    → SplitsInto (x ++ (line_feed ∷ y)) (us ++ ((line_feed ∷ []) ∷ vs))
splits_join us vs x y s t =
    scans_append us ((line_feed ∷ []) ∷ vs) (x ++ (line_feed ∷ y)) (line_feed ∷ y) []
    (scans_before_feed us x y s)
    (scans_unit (line_feed ∷ []) vs y [] (blank_first (line_feed ∷ []) y feed_blank) t)
