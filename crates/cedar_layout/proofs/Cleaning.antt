-- A text is cut at its strings and comments.
use Rattle.std.proofs.Common.{◌≡◌, ℕ, zero, suc, ◌+◌, ◌-◌, ◌<◌, ◌≤◌, List, [], ◌∷◌, ◌++◌, length, take, drop, refl, ap, arith, sym, subst, ◌∙◌, append_assoc, append-nil, Result, Ok, Err}
use Rattle.std.specs.Prelude.{slice_range, OnOk}
use Rattle.std.specs.Str.{trim, trim_end, trim_start}
use Rattle.std.proofs.Math.Seq.{take-append-add}
use Rattle.std.proofs.lemmas.List.{take-append-drop, length-take, length-take-le, length-drop, drop_at}
use Rattle.cedar_tokens.specs.Units.{BeginsNone, IsLongest}
use Rattle.cedar_tokens.specs.declared.token.Span.{Span}
use Rattle.cedar_layout.specs.Cleaning.{IsKept, NoneBegins, Cut, last_piece, more_pieces, StandsFirst, clean_piece}

-- ---- pieces of a text

drop_nothing : (n : ℕ) → drop {A = ℕ} n [] ≡ []
drop_nothing zero = refl
drop_nothing (suc n) = refl

drop_more : (a k : ℕ) (xs : List ℕ) → drop k (drop a xs) ≡ drop (a + k) xs
drop_more zero k xs = let e : k ≡ 0 + k = omega arith in ap (λ n. drop n xs) e
drop_more (suc a) k [] = drop_nothing k ∙ sym (drop_nothing (suc a + k))
drop_more (suc a) k (x ∷ xs) =
    let e : suc (a + k) ≡ suc a + k = omega arith in drop_more a k xs ∙ ap (λ n. drop n (x ∷ xs)) e

none_begins : (m r : List ℕ) → ((k : ℕ) → k < length m → BeginsNone IsKept (drop k (m ++ r)))
    → NoneBegins m r
none_begins [] r n = tt
none_begins (b ∷ m) r n = (n zero (omega arith), none_begins m r (λ k h. n (suc k) (omega arith)))

parts : (a b : ℕ) (xs : List ℕ) → a ≤ b → drop a xs ≡ slice_range xs a b ++ drop b xs
parts a b xs l =
    sym (ap (λ z. slice_range xs a b ++ z) (sym (drop_more a (b - a) xs ∙ ap (λ n. drop n xs) q))
    ∙ take-append-drop (b - a) (drop a xs))
  where
    q : a + (b - a) ≡ b
    q = omega arith

pub cut_turn : (text joined new : List ℕ) (at : ℕ) (s : Span) → StandsFirst IsKept text at s
    → new ≡ (joined ++ clean_piece (slice_range text at s.start)) ++ slice_range text s.start s.end
    → ((y : List ℕ) → Cut (drop at text) y → Cut text (joined ++ y)) → (y : List ℕ)
    → Cut (drop s.end text) y → Cut text (new ++ y)
cut_turn text joined new at s f e inv y c =
    let m = slice_range text at s.start in
    let u = slice_range text s.start s.end in
    let r = drop s.end text in
    let p : drop s.start text ≡ u ++ r =
    (let z = f.nonempty in parts s.start s.end text (omega arith)) in
    let q : drop at text ≡ m ++ (u ++ r) = parts at s.start text f.not_before
    ∙ ap (λ z. m ++ z) p in
    let none : (k : ℕ) → k < length m → BeginsNone IsKept (drop k (m ++ (u ++ r))) =
    λ k h. let l : at + k < s.start = omega (arith, h, length-take (s.start - at) (drop at text)) in
    subst (λ z. BeginsNone IsKept z) (sym (drop_more at k text) ∙ ap (drop k) q)
    (f.first (at + k) (omega arith) l) in
    let longest : IsLongest IsKept (u ++ r) u = subst (λ z. IsLongest IsKept z u) p f.longest in
    let d : Cut (m ++ (u ++ r)) (clean_piece m ++ (u ++ y)) =
    more_pieces m u r y (none_begins m (u ++ r) none) longest c in
    let w : Cut text (joined ++ (clean_piece m ++ (u ++ y))) =
    inv (clean_piece m ++ (u ++ y)) (subst (λ z. Cut z (clean_piece m ++ (u ++ y))) (sym q) d) in
    let same : joined ++ (clean_piece m ++ (u ++ y)) ≡ new ++ y =
    sym (append_assoc joined (clean_piece m) (u ++ y))
    ∙ (sym (append_assoc (joined ++ clean_piece m) u y) ∙ ap (λ z. z ++ y) (sym e)) in
    subst (λ z. Cut text z) same w

pub cut_end : (text joined new : List ℕ) (at : ℕ)
    → ((k : ℕ) → at ≤ k → BeginsNone IsKept (drop k text))
    → new ≡ joined ++ clean_piece (drop at text)
    → ((y : List ℕ) → Cut (drop at text) y → Cut text (joined ++ y)) → Cut text new
cut_end text joined new at n e inv =
    let m = drop at text in
    let none : (k : ℕ) → k < length m → BeginsNone IsKept (drop k (m ++ [])) =
    λ k h. subst (λ z. BeginsNone IsKept z)
    (sym (drop_more at k text) ∙ ap (drop k) (sym (append-nil m))) (n (at + k) (omega arith)) in
    subst (λ z. Cut text z) (sym e) (inv (clean_piece m) (last_piece m (none_begins m [] none)))

-- a piece and a kept text were appended
pub two_pushed : (old joined out mid new piece kept piece' kept' : List ℕ) → out ≡ old ++ joined
    → mid ≡ out ++ clean_piece piece → new ≡ mid ++ kept → piece ≡ piece' → kept ≡ kept'
    → new ≡ old ++ ((joined ++ clean_piece piece') ++ kept')
two_pushed old joined out mid new piece kept piece' kept' e f g p k =
    let all : new ≡ ((old ++ joined) ++ clean_piece piece') ++ kept' = cc in
    all ∙ ap (λ z. z ++ kept') (append_assoc old joined (clean_piece piece'))
    ∙ append_assoc old (joined ++ clean_piece piece') kept'

-- the last piece was appended
pub last_pushed : {E : Type 0} (result : Result (Unit {0}) E)
    (text old joined out new piece : List ℕ) (at : ℕ)
    → ((k : ℕ) → at ≤ k → BeginsNone IsKept (drop k text))
    → ((y : List ℕ) → Cut (drop at text) y → Cut text (joined ++ y)) → out ≡ old ++ joined
    → piece ≡ drop at text
    → OnOk result (new ≡ out ++ clean_piece piece)
    → OnOk result ((t : List ℕ) × Cut text t × (new ≡ old ++ t))
last_pushed (Err e) text old joined out new piece at n inv b p h = tt
last_pushed (Ok u) text old joined out new piece at n inv b p h =
    let t = joined ++ clean_piece (drop at text) in (
      t,
      cut_end text joined t at n refl inv,
      h ∙ (ap (λ z. z ++ clean_piece piece) b ∙ (ap (λ z. (old ++ joined) ++ clean_piece z) p
          ∙ append_assoc old joined (clean_piece (drop at text)))),
    )

-- ---- blanks at the ends

-- what is left of a text after its first bytes is as long as it was before
pub drop_rest : (n : ℕ) (xs t : List ℕ) → t ≡ drop n xs → drop (length xs - length t) xs ≡ t
drop_rest zero xs t e =
    let q : length xs - length t ≡ 0 = omega (arith, ap length e) in ap (λ k. drop k xs) q ∙ sym e
drop_rest (suc n) [] t e = drop_nothing (0 - length t) ∙ sym e
drop_rest (suc n) (x ∷ xs) t e =
    let q : length (x ∷ xs) - length t ≡ suc (length xs - length t) =
    omega (arith, ap length e, length-drop n xs) in
    ap (λ k. drop k (x ∷ xs)) q ∙ drop_rest n xs t e

pub trimmed_from : (start blanks n : ℕ) (old mid new : List ℕ) → start ≤ length old
    → mid ≡ (take start old ++ []) ++ drop (start + blanks) old
    → drop blanks (drop start old) ≡ trim_start (drop start old)
    → take n (drop start mid) ≡ trim_end (drop start mid) → new ≡ take (start + n) mid
    → new ≡ take start old ++ trim (drop start old)
trimmed_from start blanks n old mid new l e r f g =
    let p = take start old in
    let t = trim_start (drop start old) in
    let m : mid ≡ p ++ t = e ∙ (ap (λ z. z ++ drop (start + blanks) old) (append-nil p)
    ∙ ap (λ z. p ++ z) (sym (drop_more start blanks old) ∙ r)) in
    let s : length p ≡ start = length-take-le start old l in
    let d : drop start mid ≡ t = ap (drop start) m ∙ drop_at p t start s in
    let ends : take n t ≡ trim_end t = subst (λ z. take n z ≡ trim_end z) d f in
    g ∙ (ap (take (start + n)) m
    ∙ (ap (λ k. take (k + n) (p ++ t)) (sym s) ∙ (take-append-add p t n ∙ ap (λ z. p ++ z) ends)))
