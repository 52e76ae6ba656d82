-- Kinds of texts: which texts have a kind, and what a token of a kind is.
use Rattle.std.specs.Prelude.{◌≡◌, ◌≢◌, ◌==◌, ℕ, Bool, true, false, not, ◌&&◌, ◌||◌, List, [], ◌∷◌, if◌then◌else◌}
use Rattle.std.specs.List.{list_all}
use Rattle.std.specs.Char.{is_ascii_digit}
use Rattle.std.specs.Str.{bytes_eq}
use Rattle.std.proofs.Common.{refl, sym, ap, ◌∙◌, get_or}
use Rattle.std.proofs.lemmas.Bool.Decides.{Decides-eqb}
use Rattle.std.proofs.lemmas.Slice.Eq.{bytes_eq-Decides}
use Rattle.std.proofs.lemmas.Bool.{and_parts, not-true, false_from_ne_true}
use Rattle.cedar_tokens.specs.Bytes.{quote}
use Rattle.cedar_tokens.specs.Units.{IsToken, is_word, is_number, is_string, is_one_of, keywords, slots, punctuators}
use Rattle.cedar_tokens.specs.Inside.Scanners.{IsNotFixed}
use Rattle.cedar_tokens.specs.Inside.FixedTexts.{is_open, text_among, fixed_text}
use Rattle.cedar_tokens.specs.declared.kind.Kind.{Kind}
use Rattle.cedar_tokens.specs.declared.kind.Kind.TheVariants as K
use Rattle.cedar_tokens.specs.Kinds.{code, is}
use Rattle.cedar_tokens.specs.TokenKinds.{fixed_tokens, other_kind, kind_among, kind_of}
use Rattle.cedar_tokens.proofs.Prefixes.{apart_from}
use Rattle.cedar_tokens.proofs.TokenKinds.{proper_string, proper_number, proper_word}

abbrev pub IsNone : List (List ℕ × Kind) → List ℕ → Type 0
IsNone [] text = Unit {0}
IsNone (f ∷ fs) text = (text ≢ f.0) × IsNone fs text

pub kind_among-none : (fs : List (List ℕ × Kind)) (text : List ℕ) → IsNone fs text
    → kind_among fs text ≡ other_kind text
kind_among-none [] text n = refl
kind_among-none (f ∷ fs) text (d, n) = ap (λ b. if b then f.1 else kind_among fs text)
    (false_from_ne_true (bytes_eq f.0 text) (λ e. d (sym ((bytes_eq-Decides f.0 text).0 e))))
    ∙ kind_among-none fs text n

-- a text that is no keyword, no slot and no punctuator has one of the other kinds
pub kind_of-not_fixed : (text : List ℕ) → IsNotFixed text → kind_of text ≡ other_kind text
unfolding keywords slots punctuators
kind_of-not_fixed text (a, b, c) =
    let k = apart_from keywords text a in
    let s = apart_from slots text b in
    let p = apart_from punctuators text c in
    kind_among-none fixed_tokens text
    (k.0, (k.1.0, (k.1.1.0, (k.1.1.1.1.1.1.1.1.1.1.1.0, (k.1.1.1.1.1.1.1.1.1.1.1.1.0, (k.1.1.1.1.1.1.1.0, (k.1.1.1.1.1.1.1.1.1.1.0, (k.1.1.1.1.1.1.1.1.1.0, (k.1.1.1.1.1.1.1.1.0, (k.1.1.1.0, (k.1.1.1.1.0, (k.1.1.1.1.1.0, (k.1.1.1.1.1.1.0, (k.1.1.1.1.1.1.1.1.1.1.1.1.1.0, (k.1.1.1.1.1.1.1.1.1.1.1.1.1.1.0, (k.1.1.1.1.1.1.1.1.1.1.1.1.1.1.1.0, (k.1.1.1.1.1.1.1.1.1.1.1.1.1.1.1.1.0, (s.0, (s.1.0, (p.0, (p.1.0, (p.1.1.0, (p.1.1.1.0, (p.1.1.1.1.0, (p.1.1.1.1.1.0, (p.1.1.1.1.1.1.0, (p.1.1.1.1.1.1.1.0, (p.1.1.1.1.1.1.1.1.0, (p.1.1.1.1.1.1.1.1.1.0, (p.1.1.1.1.1.1.1.1.1.1.0, (p.1.1.1.1.1.1.1.1.1.1.1.0, (p.1.1.1.1.1.1.1.1.1.1.1.1.0, (p.1.1.1.1.1.1.1.1.1.1.1.1.1.0, (p.1.1.1.1.1.1.1.1.1.1.1.1.1.1.0, (p.1.1.1.1.1.1.1.1.1.1.1.1.1.1.1.0, (p.1.1.1.1.1.1.1.1.1.1.1.1.1.1.1.1.0, (p.1.1.1.1.1.1.1.1.1.1.1.1.1.1.1.1.1.0, (p.1.1.1.1.1.1.1.1.1.1.1.1.1.1.1.1.1.1.0, (p.1.1.1.1.1.1.1.1.1.1.1.1.1.1.1.1.1.1.1.0, (p.1.1.1.1.1.1.1.1.1.1.1.1.1.1.1.1.1.1.1.1.0, (p.1.1.1.1.1.1.1.1.1.1.1.1.1.1.1.1.1.1.1.1.1.0, (p.1.1.1.1.1.1.1.1.1.1.1.1.1.1.1.1.1.1.1.1.1.1.0, (p.1.1.1.1.1.1.1.1.1.1.1.1.1.1.1.1.1.1.1.1.1.1.1.0, (p.1.1.1.1.1.1.1.1.1.1.1.1.1.1.1.1.1.1.1.1.1.1.1.1.0, (p.1.1.1.1.1.1.1.1.1.1.1.1.1.1.1.1.1.1.1.1.1.1.1.1.1.0, tt)))))))))))))))))))))))))))))))))))))))))))))

-- ---- a kind that has one text

-- the kind stands beside none of the texts
abbrev fresh : Kind → List (List ℕ × Kind) → Bool
fresh k [] = true
fresh k (f ∷ fs) = not (is k f.1) && fresh k fs

-- no kind stands beside two texts
abbrev distinct : List (List ℕ × Kind) → Bool
distinct [] = true
distinct (f ∷ fs) = fresh f.1 fs && distinct fs

is_itself : (k : Kind) → is k k ≡ true
is_itself k = (Decides-eqb (code k) (code k)).1 refl

other_is_open : (text : List ℕ) → is_open (other_kind text) ≡ true
other_is_open [] = refl
other_is_open (b ∷ bs) = go (b == quote) (is_ascii_digit b)
  where
    go : (c d : Bool) → is_open (if c then K.Str else (if d then K.Number else K.Identifier)) ≡ true
    go true d = refl
    go false true = refl
    go false false = refl

-- a kind that stands beside none of the texts is not that of a text of the list
differs_among : (k : Kind) (fs : List (List ℕ × Kind)) (text : List ℕ) → fresh k fs ≡ true
    → is_open (kind_among fs text) ≡ false → is k (kind_among fs text) ≡ false
differs_among k [] text f o = absurd (let t = other_is_open text in cc)
differs_among k (g ∷ gs) text f o =
    let parts = and_parts (not (is k g.1)) (fresh k gs) f in
    go (not-true (is k g.1) parts.0) (differs_among k gs text parts.1) (bytes_eq g.0 text) o
  where
    go : is k g.1 ≡ false
        → (is_open (kind_among gs text) ≡ false → is k (kind_among gs text) ≡ false) → (b : Bool)
        → is_open (if b then g.1 else kind_among gs text) ≡ false
        → is k (if b then g.1 else kind_among gs text) ≡ false
    go here later true o = here
    go here later false o = later o

text_is_among : (fs : List (List ℕ × Kind)) (text : List ℕ) → distinct fs ≡ true
    → is_open (kind_among fs text) ≡ false → text ≡ text_among fs (kind_among fs text)
text_is_among [] text d o = absurd (let t = other_is_open text in cc)
text_is_among (f ∷ fs) text d o =
    let parts = and_parts (fresh f.1 fs) (distinct fs) d in
    go parts.0 (text_is_among fs text parts.1) (bytes_eq f.0 text) refl o
  where
    go : fresh f.1 fs ≡ true
        → (is_open (kind_among fs text) ≡ false → text ≡ text_among fs (kind_among fs text))
        → (b : Bool) → bytes_eq f.0 text ≡ b
        → is_open (if b then f.1 else kind_among fs text) ≡ false
        → text ≡ text_among (f ∷ fs) (if b then f.1 else kind_among fs text)
    go new later true e o = sym ((bytes_eq-Decides f.0 text).0 e)
        ∙ sym (ap (λ b. if b then f.0 else text_among fs f.1) (is_itself f.1))
    go new later false e o =
        let k = kind_among fs text in
        later o
        ∙ sym (ap (λ b. if b then f.0 else text_among fs k) (differs_among f.1 fs text new o))

-- a text whose kind has one text is that text
pub text_is_fixed : (text : List ℕ) → is_open (kind_of text) ≡ false
    → text ≡ fixed_text (kind_of text)
text_is_fixed text o = text_is_among fixed_tokens text refl o

-- ---- the other kinds

-- the kinds of these texts are not open
one_of_fixed : (ts : List (List ℕ)) (u : List ℕ)
    → list_all (λ t. not (is_open (kind_of t))) ts ≡ true → is_open (kind_of u) ≡ true
    → is_one_of ts u ≡ false
one_of_fixed [] u h o = refl
one_of_fixed (t ∷ ts) u h o =
    let parts =
    and_parts (not (is_open (kind_of t))) (list_all (λ t. not (is_open (kind_of t))) ts) h in
    go (not-true (is_open (kind_of t)) parts.0) (one_of_fixed ts u parts.1 o) (bytes_eq t u) refl
  where
    go : is_open (kind_of t) ≡ false → is_one_of ts u ≡ false → (b : Bool) → bytes_eq t u ≡ b
        → (b || is_one_of ts u) ≡ false
    go here later true e = absurd (let same =
        sym here ∙ (ap (λ z. is_open (kind_of z)) ((bytes_eq-Decides t u).0 e) ∙ o) in cc)
    go here later false e = later

pub open_not_fixed : (u : List ℕ) → is_open (kind_of u) ≡ true → IsNotFixed u
unfolding keywords slots punctuators
open_not_fixed u o =
    (one_of_fixed keywords u refl o, one_of_fixed slots u refl o, one_of_fixed punctuators u refl o)

-- the kind of a text that is not fixed tells its first byte
string_begins : (u : List ℕ) → other_kind u ≡ K.Str → get_or u 0 0 ≡ quote
string_begins [] e = absurd cc
string_begins (b ∷ bs) e = go (b == quote) refl (is_ascii_digit b) e
  where
    go : (c : Bool) → (b == quote) ≡ c → (d : Bool)
        → (if c then K.Str else (if d then K.Number else K.Identifier)) ≡ K.Str → b ≡ quote
    go true q d e = (Decides-eqb b quote).0 q
    go false q true e = absurd cc
    go false q false e = absurd cc

number_begins : (u : List ℕ) → other_kind u ≡ K.Number → is_ascii_digit (get_or u 0 0) ≡ true
number_begins [] e = absurd cc
number_begins (b ∷ bs) e = go (b == quote) (is_ascii_digit b) refl e
  where
    go : (c d : Bool) → is_ascii_digit b ≡ d
        → (if c then K.Str else (if d then K.Number else K.Identifier)) ≡ K.Number
        → is_ascii_digit b ≡ true
    go true d q e = absurd cc
    go false true q e = q
    go false false q e = absurd cc

word_begins : (u : List ℕ) → other_kind u ≡ K.Identifier
    → (get_or u 0 0 ≢ quote) × (is_ascii_digit (get_or u 0 0) ≡ false)
word_begins [] e = ((λ h. cc), refl)
word_begins (b ∷ bs) e = go (b == quote) refl (is_ascii_digit b) refl e
  where
    go : (c : Bool) → (b == quote) ≡ c → (d : Bool) → is_ascii_digit b ≡ d
        → (if c then K.Str else (if d then K.Number else K.Identifier)) ≡ K.Identifier
        → (b ≢ quote) × (is_ascii_digit b ≡ false)
    go true q d r e = absurd cc
    go false q true r e = absurd cc
    go false q false r e = ((λ h. let t = (Decides-eqb b quote).1 h in cc), r)

pub string_of_kind : (u : List ℕ) → IsToken u → kind_of u ≡ K.Str → is_string u ≡ true
string_of_kind u h k = proper_string u h
    (string_begins u (sym (kind_of-not_fixed u (open_not_fixed u (ap is_open k))) ∙ k))

pub number_of_kind : (u : List ℕ) → IsToken u → kind_of u ≡ K.Number → is_number u ≡ true
number_of_kind u h k = proper_number u h
    (number_begins u (sym (kind_of-not_fixed u (open_not_fixed u (ap is_open k))) ∙ k))

pub word_of_kind : (u : List ℕ) → IsToken u → kind_of u ≡ K.Identifier
    → (is_word u ≡ true) × (is_one_of keywords u ≡ false)
word_of_kind u h k =
    let n = open_not_fixed u (ap is_open k) in
    let b = word_begins u (sym (kind_of-not_fixed u n) ∙ k) in
    (proper_word u h b.0 b.1 n.1 n.2, n.0)

-- an open kind is one of three
pub open_kind : (k : Kind) → is_open k ≡ true → k ≢ K.Str → k ≢ K.Number → k ≡ K.Identifier
open_kind K.Identifier o s n = refl
open_kind K.Str o s n = absurd (s refl)
open_kind K.Number o s n = absurd (n refl)
open_kind K.True o s n = absurd cc
open_kind K.False o s n = absurd cc
open_kind K.If o s n = absurd cc
open_kind K.Then o s n = absurd cc
open_kind K.Else o s n = absurd cc
open_kind K.In o s n = absurd cc
open_kind K.Is o s n = absurd cc
open_kind K.Like o s n = absurd cc
open_kind K.Has o s n = absurd cc
open_kind K.Permit o s n = absurd cc
open_kind K.Forbid o s n = absurd cc
open_kind K.When o s n = absurd cc
open_kind K.Unless o s n = absurd cc
open_kind K.Principal o s n = absurd cc
open_kind K.Action o s n = absurd cc
open_kind K.Resource o s n = absurd cc
open_kind K.Context o s n = absurd cc
open_kind K.PrincipalSlot o s n = absurd cc
open_kind K.ResourceSlot o s n = absurd cc
open_kind K.At o s n = absurd cc
open_kind K.Dot o s n = absurd cc
open_kind K.Comma o s n = absurd cc
open_kind K.SemiColon o s n = absurd cc
open_kind K.Colon o s n = absurd cc
open_kind K.DoubleColon o s n = absurd cc
open_kind K.LParen o s n = absurd cc
open_kind K.RParen o s n = absurd cc
open_kind K.LBrace o s n = absurd cc
open_kind K.RBrace o s n = absurd cc
open_kind K.LBracket o s n = absurd cc
open_kind K.RBracket o s n = absurd cc
open_kind K.Equal o s n = absurd cc
open_kind K.NotEqual o s n = absurd cc
open_kind K.Lt o s n = absurd cc
open_kind K.Le o s n = absurd cc
open_kind K.Gt o s n = absurd cc
open_kind K.Ge o s n = absurd cc
open_kind K.Or o s n = absurd cc
open_kind K.And o s n = absurd cc
open_kind K.Add o s n = absurd cc
open_kind K.Dash o s n = absurd cc
open_kind K.Mul o s n = absurd cc
open_kind K.Div o s n = absurd cc
open_kind K.Modulo o s n = absurd cc
open_kind K.Neg o s n = absurd cc
