-- Strings and comments at a place of a text, and lines.
use Rattle.std.proofs.Common.{◌≡◌, ◌≢◌, ℕ, zero, suc, ◌+◌, ◌-◌, ◌<◌, ◌≤◌, true, false, ◌==◌, ◌⊎◌, inl, inr, List, [], ◌∷◌, ◌++◌, length, get_or, take, drop, Option, Some, None, refl, ap, arith, sym, subst, ◌∙◌, add-one}
use Rattle.std.specs.List.{position, slice_get}
use Rattle.std.specs.Str.{IsUtf8, IsCharBoundary}
use Rattle.std.proofs.lemmas.List.{drop_all}
use Rattle.std.proofs.lemmas.List.Quantifiers.{position-Some}
use Rattle.std.proofs.lemmas.Bool.Decides.{Decides-eqb}
use Rattle.std.proofs.lemmas.Str.{IsCharBoundary-after_ascii}
use Rattle.std.proofs.lemmas.Bool.{or_cases, or_right}
use Rattle.cedar_tokens.specs.Bytes as byte
use Rattle.cedar_tokens.specs.Bytes.{line_feed, quote}
use Rattle.cedar_tokens.specs.Units.{BeginsWith, BeginsNone, FindsLongest, IsUnit, blank, comment, token, IsBlank, IsComment, IsToken, is_string, is_comment, is_one_of, punctuators}
use Rattle.cedar_tokens.specs.Split.{HasKind}
use Rattle.cedar_tokens.specs.Listing.{with_first}
use Rattle.cedar_tokens.specs.declared.lexer.UnitKind.{UnitKind}
use Rattle.cedar_tokens.specs.declared.lexer.UnitKind.TheVariants.{Blank, Comment, Token}
use Rattle.cedar_tokens.proofs.Prefixes.{begins_fits}
use Rattle.cedar_tokens.proofs.Heads.{class, class-blank, word, number, string, slot, punctuator, token_of}
use Rattle.cedar_tokens.proofs.FirstUnit.{comment_parts, only_blank}
use Rattle.cedar_tokens.proofs.Longest.{is_token-string}
use Rattle.cedar_layout.specs.Cleaning.{IsString, IsKept, last_byte_or, piece_lines}
use Rattle.cedar_layout.specs.Inside.Seeking.{IsFirstLine, IsSought}
use Rattle.cedar_layout.specs.declared.utils.cleaning.Sought.{Sought}
use Rattle.cedar_layout.specs.declared.utils.cleaning.Sought.TheVariants.{Comment as SoughtComment, String as SoughtString, Either}
use Rattle.cedar_layout.proofs.Halving.{none_passes}

-- ---- the unit at a place

comment_no_blank : (v : List ℕ) → IsComment v → ¬ (IsBlank v)
comment_no_blank [] k b = absurd cc
comment_no_blank (x ∷ []) k b = absurd cc
comment_no_blank (x ∷ y ∷ v) k b =
    let e : class byte.slash ≡ 0 = rw ((comment_parts x y v k).0) at (class-blank x (y ∷ v) b) in
    omega (arith, e)

-- a token of two bytes or more does not begin with `//`
no_slashes : (u : List ℕ) → IsToken (byte.slash ∷ byte.slash ∷ u) → ⊥
unfolding punctuators
no_slashes u t = elim (token_of byte.slash (byte.slash ∷ u) t) [
  | word e _ ↦ omega (arith, e)
  | number e _ ↦ omega (arith, e)
  | string e _ ↦ omega (arith, e)
  | slot e _ ↦ omega (arith, e)
  | punctuator e l p ↦ short u l p
]
  where
    short : (w : List ℕ) → length (byte.slash ∷ w) < 2
        → is_one_of punctuators (byte.slash ∷ byte.slash ∷ w) ≡ true → ⊥
    short [] l p = absurd cc
    short (x ∷ w) l p = absurd (omega (arith, l))

-- where a comment begins, no other unit that is as long begins
slashes_begin : (text u v : List ℕ) → IsComment v → BeginsWith text v → IsToken u
    → BeginsWith text u → length v ≤ length u → ⊥
slashes_begin text u [] k g t h l = absurd cc
slashes_begin text u (x ∷ []) k g t h l = absurd cc
slashes_begin text [] (x ∷ y ∷ v) k g t h l = absurd (omega arith)
slashes_begin text (a ∷ []) (x ∷ y ∷ v) k g t h l = absurd (omega arith)
slashes_begin text (a ∷ b ∷ u) (x ∷ y ∷ v) k g t h l =
    let p = comment_parts x y v k in
    let e : a ∷ b ∷ (u ++ h.0) ≡ x ∷ y ∷ (v ++ g.0) = sym h.1 ∙ g.1 in
    let q : a ≡ byte.slash = (let f : a ≡ x = cc in f ∙ p.0) in
    let r : b ≡ byte.slash = (let f : b ≡ y = cc in f ∙ p.1) in
    no_slashes u (rw (q, r) at t)

pub no_comment : (text : List ℕ) (n : ℕ) (kind : UnitKind) → FindsLongest IsUnit text (Some n)
    → HasKind kind (take n text) → kind ≢ Comment → FindsLongest IsComment text None
no_comment text n Comment f k ne v c g = ne refl
no_comment text n Blank f k ne v c g =
    comment_no_blank v c (only_blank text (take n text) v k f.1.begins (comment c) g)
no_comment text n Token f k ne v c g =
    slashes_begin text (take n text) v c g k f.1.begins (f.1.longest v (comment c) g)

-- at a quote the unit is a string
quoted : (u : List ℕ) → IsUnit (quote ∷ u) → IsString (quote ∷ u)
quoted u k = elim k [
  | blank b ↦ absurd (let e : class quote ≡ 0 = class-blank quote u b in omega (arith, e))
  | comment c ↦ absurd (slash u c)
  | token t ↦ elim (token_of quote u t) [
    | word e _ ↦ absurd (omega (arith, e))
    | number e _ ↦ absurd (omega (arith, e))
    | string e r ↦ r
    | slot e _ ↦ absurd (omega (arith, e))
    | punctuator e _ _ ↦ absurd (omega (arith, e))
  ]
]
  where
    slash : (w : List ℕ) → IsComment (quote ∷ w) → ⊥
    slash [] c = absurd cc
    slash (y ∷ w) c = let p = comment_parts quote y w c in omega (arith, p.0)

string_unit : (v : List ℕ) → IsString v → IsUnit v
string_unit v s = token (is_token-string v s)

pub unit_string : (text : List ℕ) (n : ℕ) → 0 < n → 0 < length text → get_or text 0 0 ≡ quote
    → FindsLongest IsUnit text (Some n) → FindsLongest IsString text (Some n)
unit_string [] n z h e f = absurd (omega arith)
unit_string (b ∷ t) zero z h e f = absurd (omega arith)
unit_string (b ∷ t) (suc n) z h e f = (
  f.0,
  record {
    kind = subst (λ x. IsString (x ∷ take n t)) (sym e)
        (quoted (take n t) (subst (λ x. IsUnit (x ∷ take n t)) e f.1.kind));
    begins = f.1.begins;
    longest = λ v s g. f.1.longest v (string_unit v s) g;
  },
)

-- ---- a string or a comment

pub string_kept : (u : List ℕ) → IsString u → IsKept u
string_kept u h = rw h refl

pub comment_kept : (u : List ℕ) → IsComment u → IsKept u
comment_kept u h = or_right (is_string u) (is_comment u) h

pub kept_comment : (text : List ℕ) (r : Option ℕ) → FindsLongest IsString text None
    → FindsLongest IsComment text r → FindsLongest IsKept text r
kept_comment text None a f =
    λ v k g. elim (or_cases (is_string v) (is_comment v) k) [ inl s ↦ a v s g | inr c ↦ f v c g ]
kept_comment text (Some n) a f = (
  f.0,
  record {
    kind = comment_kept (take n text) f.1.kind;
    begins = f.1.begins;
    longest = λ v k g. elim (or_cases (is_string v)
        (is_comment v) k) [ inl s ↦ absurd (a v s g) | inr c ↦ f.1.longest v c g ];
  },
)

-- ---- lines

pub last_found : (xs : List ℕ) (c x i : ℕ) → i + 1 ≡ length xs → Some x ≡ slice_get xs i
    → last_byte_or c xs ≡ x
last_found [] c x i l e = absurd (omega arith)
last_found (b ∷ []) c x zero l e = cc
last_found (b ∷ []) c x (suc i) l e = absurd (omega arith)
last_found (b ∷ d ∷ ds) c x zero l e = absurd (omega arith)
last_found (b ∷ d ∷ ds) c x (suc i) l e = last_found (d ∷ ds) b x i (omega arith) e

line_at : (text : List ℕ) (i : ℕ) → i < length text
    → ((k : ℕ) → k < i → (get_or text k 0 == line_feed) ≡ false) → (get_or text i 0 == line_feed)
    ≡ true
    → piece_lines text ≡ take (suc i) text ∷ piece_lines (drop (suc i) text)
line_at [] i l n h = absurd (omega arith)
line_at (b ∷ bs) zero l n h =
    let e = (Decides-eqb b line_feed).0 h in rw h (ap (λ z. (z ∷ []) ∷ piece_lines bs) (sym e))
line_at (b ∷ bs) (suc i) l n h =
    let q : (b == line_feed) ≡ false = n zero (omega arith) in
    rw q (ap (with_first b) (line_at bs i (omega arith) (λ k m. n (suc k) (omega arith)) h))

no_line : (text : List ℕ) → ((k : ℕ) → k < length text → (get_or text k 0 == line_feed) ≡ false)
    → piece_lines text ≡ text ∷ []
no_line [] n = refl
no_line (b ∷ bs) n =
    let q : (b == line_feed) ≡ false = n zero (omega arith) in
    rw q (ap (with_first b) (no_line bs (λ k m. n (suc k) (omega arith))))

pub first_line : (text l r : List ℕ) (i : ℕ) → Some i ≡ position (λ b. b == line_feed) text
    → l ≡ take (i + 1) text → r ≡ drop (i + 1) text → IsFirstLine text l r
first_line text l r i e f g =
    let p = position-Some (λ b. b == line_feed) text i 0 (sym e) in
    let h = line_at text i p.0 p.2 p.1 in
    let a : take (suc i) text ≡ l = ap (λ k. take k text) (sym (add-one i)) ∙ sym f in
    let b : drop (suc i) text ≡ r = ap (λ k. drop k text) (sym (add-one i)) ∙ sym g in
    inl (h ∙ ap (λ z. z ∷ piece_lines (drop (suc i) text)) a ∙ ap (λ z. l ∷ piece_lines z) b)

pub only_line : (text : List ℕ) → None ≡ position (λ b. b == line_feed) text
    → IsFirstLine text text []
only_line text e = inr (
  no_line text (λ k h. none_passes (λ b. b == line_feed) text (sym e) k 0 h),
  refl,
)

pub cut_after : (text : List ℕ) (i : ℕ) → IsUtf8 text → Some i ≡ position (λ b. b == line_feed) text
    → IsCharBoundary text (i + 1)
cut_after text i u e =
    let p = position-Some (λ b. b == line_feed) text i 0 (sym e) in
    let q = (Decides-eqb (get_or text i 0) line_feed).0 p.1 in
    IsCharBoundary-after_ascii text i u p.0 (omega (arith, q))

nothing_kept : (v : List ℕ) → BeginsWith [] v → IsKept v → ⊥
nothing_kept [] g k = absurd cc
nothing_kept (x ∷ v) g k = absurd (let l = begins_fits [] (x ∷ v) g in omega (arith, l))

-- nothing begins after the text's end
pub none_past : (sought : Sought) (text : List ℕ) (k : ℕ) → length text ≤ k
    → BeginsNone (IsSought sought) (drop k text)
none_past sought text k l v h g =
    nothing_kept v (subst (λ z. BeginsWith z v) (drop_all k text l) g) (kept sought v h)
  where
    kept : (w : Sought) (u : List ℕ) → IsSought w u → IsKept u
    kept SoughtComment u h = comment_kept u h
    kept SoughtString u h = string_kept u h
    kept Either u h = h

pub none_more : (sought : Sought) (text : List ℕ) (from i : ℕ)
    → ((k : ℕ) → from ≤ k → k < i → BeginsNone (IsSought sought) (drop k text))
    → BeginsNone (IsSought sought) (drop i text) → (k : ℕ) → from ≤ k → k < i + 1
    → BeginsNone (IsSought sought) (drop k text)
none_more sought text from i n h k f l = go (split k)
  where
    split : (j : ℕ) → (j < i) ⊎ (i ≤ j)
    split j = grind arith

    go : (k < i) ⊎ (i ≤ k) → BeginsNone (IsSought sought) (drop k text)
    go (inl a) = n k f a
    go (inr a) =
        let e : i ≡ k = omega arith in subst (λ z. BeginsNone (IsSought sought) (drop z text)) e h

pub none_all : (sought : Sought) (text : List ℕ) (from i : ℕ)
    → ((k : ℕ) → from ≤ k → k < i → BeginsNone (IsSought sought) (drop k text)) → length text ≤ i
    → (k : ℕ) → from ≤ k → BeginsNone (IsSought sought) (drop k text)
none_all sought text from i n h k f = go (split k)
  where
    split : (j : ℕ) → (j < i) ⊎ (i ≤ j)
    split j = grind arith

    go : (k < i) ⊎ (i ≤ k) → BeginsNone (IsSought sought) (drop k text)
    go (inl a) = n k f a
    go (inr a) = none_past sought text k (omega arith)

pub last_of : (xs : List ℕ) (c x : ℕ) → Some x ≡ slice_get xs (length xs - 1)
    → last_byte_or c xs ≡ x
last_of [] c x e = absurd cc
last_of (b ∷ bs) c x e = last_found (b ∷ bs) c x (length (b ∷ bs) - 1) (omega arith) e
