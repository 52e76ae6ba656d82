-- What the atoms of tokens print meets the law of gaps.
use Rattle.std.proofs.Common.{◌≡◌, ℕ, zero, suc, List, [], ◌∷◌, ◌++◌, false, refl, sym, ap, ◌∙◌, append_assoc, replicate}
use Rattle.cedar_tokens.specs.Bytes.{line_feed, space_character}
use Rattle.cedar_tokens.specs.Listing.{Decorated, token_value}
use Rattle.cedar_layout.specs.Layout.{Atom, word, space_or_break, nothing_or_break, must_break, Piece, written, flat_space, flat_nothing, broken, print, AreMadeOf}
use Rattle.std.specs.List.{flat_map}
use Rattle.cedar_laws.specs.Neighbours.{glues, first_or}
use Rattle.cedar_laws.specs.Fit.{after_of, before_of}
use Rattle.cedar_laws.proofs.PrintedTokens.{break, Prints, p_nil, p_word, p_line, p_line_break, p_nothing, p_nil_break, p_hard, Weave, done, w_space, w_line, w_line_or_nil, w_hard, w_token, lead_atoms, line_atoms, trail_atoms}
use Rattle.cedar_laws.proofs.PrintedNodes.{blank_apart}
use Rattle.cedar_laws.specs.Gaps.{Blanks, no_blank, a_space, a_feed, Lines, no_line, a_comment, Front, bare, led, back, front_end, Spelled, the_end, a_token}

blanks_append : {a b : List ℕ} → Blanks a → Blanks b → Blanks (a ++ b)
blanks_append no_blank q = q
blanks_append (a_space p) q = a_space (blanks_append p q)
blanks_append (a_feed p) q = a_feed (blanks_append p q)

spaces : (n : ℕ) → Blanks (replicate n space_character)
spaces zero = no_blank
spaces (suc n) = a_space (spaces n)

pub breaks : (n : ℕ) → Blanks (break n)
breaks n = a_feed (spaces n)

front_blank : {a g : List ℕ} {ls : List (List ℕ)} → Blanks a → Front ls g → Front ls (a ++ g)
front_blank p (bare q) = bare (blanks_append p q)
front_blank {a} p (led {b} {g} q r) = rw (← append_assoc a b (line_feed ∷ g))
    (led (blanks_append p q) r)

-- blanks may come first
pub spelled_blank : {c d x : ℕ} {a s : List ℕ} {ts : List Decorated} → Blanks (x ∷ a)
    → Spelled c ts s → Spelled d ts ((x ∷ a) ++ s)
spelled_blank p (the_end q) = the_end (blanks_append p q)
spelled_blank {x = x} {a = a} p (a_token {g = g} {s = s} t f n r) =
    rw (← append_assoc (x ∷ a) g (token_value t.text ++ (back t.trailing ++ s)))
    (a_token t (front_blank p f) (blank_apart (first_or space_character (token_value t.text))) r)

pub spelled_spaces : (n : ℕ) {s : List ℕ} {ts : List Decorated} → Spelled space_character ts s
    → Spelled space_character ts (replicate n space_character ++ s)
spelled_spaces zero p = p
spelled_spaces (suc n) p = spelled_blank (spaces (suc n)) p

-- what prints two lists of atoms is what prints the first followed by what prints the second
pub record Split (xs ys : List Atom) (s : List ℕ) : Type 0 where
  pub first : List ℕ
  pub second : List ℕ
  pub is : s ≡ first ++ second
  pub prints_first : Prints xs first
  pub prints_second : Prints ys second

pub prints_split : (xs : List Atom) {ys : List Atom} {s : List ℕ} → Prints (xs ++ ys) s
    → Split xs ys s
prints_split [] {s = s} p =
    record { first = []; second = s; is = refl; prints_first = p_nil; prints_second = p }
prints_split (word w ∷ xs) (p_word p) = let q = prints_split xs p in record {
  first = w ++ q.first;
  second = q.second;
  is = ap (λ r. w ++ r) q.is ∙ sym (append_assoc w q.first q.second);
  prints_first = p_word q.prints_first;
  prints_second = q.prints_second;
}
prints_split (space_or_break ∷ xs) (p_line p) = let q = prints_split xs p in record {
  first = space_character ∷ q.first;
  second = q.second;
  is = ap (λ r. space_character ∷ r) q.is;
  prints_first = p_line q.prints_first;
  prints_second = q.prints_second;
}
prints_split (space_or_break ∷ xs) (p_line_break n p) = let q = prints_split xs p in record {
  first = break n ++ q.first;
  second = q.second;
  is = ap (λ r. break n ++ r) q.is ∙ sym (append_assoc (break n) q.first q.second);
  prints_first = p_line_break n q.prints_first;
  prints_second = q.prints_second;
}
prints_split (nothing_or_break ∷ xs) (p_nothing p) = let q = prints_split xs p in record {
  first = q.first;
  second = q.second;
  is = q.is;
  prints_first = p_nothing q.prints_first;
  prints_second = q.prints_second;
}
prints_split (nothing_or_break ∷ xs) (p_nil_break n p) = let q = prints_split xs p in record {
  first = break n ++ q.first;
  second = q.second;
  is = ap (λ r. break n ++ r) q.is ∙ sym (append_assoc (break n) q.first q.second);
  prints_first = p_nil_break n q.prints_first;
  prints_second = q.prints_second;
}
prints_split (must_break ∷ xs) (p_hard n p) = let q = prints_split xs p in record {
  first = break n ++ q.first;
  second = q.second;
  is = ap (λ r. break n ++ r) q.is ∙ sym (append_assoc (break n) q.first q.second);
  prints_first = p_hard n q.prints_first;
  prints_second = q.prints_second;
}

-- the text of a token's leading lines, with the spaces n before the first
lines_print : (n : ℕ) (ls : List (List ℕ)) (s : List ℕ) → Prints (line_atoms ls) s
    → Lines ls (replicate n space_character ++ s)
lines_print n [] s p_nil = no_line (blanks_append (spaces n) no_blank)
lines_print n (l ∷ ls) s (p_word (p_hard {s = t} m p)) =
    a_comment l (spaces n) (lines_print m ls t p)

front_print : (ls : List (List ℕ)) (s : List ℕ) → Prints (lead_atoms ls) s → Front ls s
front_print [] s p_nil = bare no_blank
front_print (l ∷ ls) s (p_hard {s = t} n p) = led no_blank (lines_print n (l ∷ ls) t p)

front_apart : (c d : ℕ) (ls : List (List ℕ)) (g : List ℕ) → Prints (lead_atoms ls) g
    → glues (before_of c ls) d ≡ false → glues (front_end c g) d ≡ false
front_apart c d [] g p_nil e = e
front_apart c d (l ∷ ls) g (p_hard n p) e = blank_apart d

record RightAfter (w tr : List ℕ) (ts : List Decorated) (r : List ℕ) : Type 0 where
  rest : List ℕ
  is : r ≡ back tr ++ rest
  spells : Spelled (after_of w tr) ts rest

trail_print : (w tr : List ℕ) {ts : List Decorated} {xs : List Atom} {r : List ℕ}
    → ((s : List ℕ) → Prints xs s → Spelled (after_of w tr) ts s) → Prints (trail_atoms tr ++ xs) r
    → RightAfter w tr ts r
trail_print w [] {r = r} f p = record { rest = r; is = refl; spells = f r p }
trail_print w (c ∷ cs) f (p_word (p_word (p_hard {s = s} n p))) =
    record {
      rest = replicate n space_character ++ s;
      is = ap (λ r. space_character ∷ (c ∷ r))
          (sym (append_assoc cs (line_feed ∷ []) (replicate n space_character ++ s)));
      spells = spelled_spaces n (f s p);
    }

record Word (w : List ℕ) (xs : List Atom) (r : List ℕ) : Type 0 where
  rest : List ℕ
  is : r ≡ w ++ rest
  prints : Prints xs rest

word_print : {w : List ℕ} {xs : List Atom} {r : List ℕ} → Prints (word w ∷ xs) r → Word w xs r
word_print (p_word {s = s} p) = record { rest = s; is = refl; prints = p }

token_print : (c : ℕ) (t : Decorated) (ts : List Decorated) (xs : List Atom) (s : List ℕ)
    → glues (before_of c t.leading) (first_or space_character (token_value t.text)) ≡ false
    → ((s : List ℕ) → Prints xs s → Spelled (after_of (token_value t.text) t.trailing) ts s)
    → Prints (lead_atoms t.leading
    ++ (word (token_value t.text) ∷ (trail_atoms t.trailing ++ xs))) s → Spelled c (t ∷ ts) s
token_print c t ts xs s apart f p =
    let q = prints_split (lead_atoms t.leading) p in
    let w = word_print q.prints_second in
    let b = trail_print (token_value t.text) t.trailing f w.prints in
    let e : s ≡ q.first ++ (token_value t.text ++ (back t.trailing ++ b.rest)) =
    q.is ∙ ap (λ r. q.first ++ r) (w.is ∙ ap (λ r. token_value t.text ++ r) b.is) in
    rw e (a_token t (front_print t.leading q.first q.prints_first) (front_apart c
    (first_or space_character (token_value t.text)) t.leading q.first q.prints_first apart)
    b.spells)

-- Under every choice of groups, a woven document's text meets the law of gaps.
pub spelled : {c d : ℕ} {ts : List Decorated} {xs : List Atom} {s : List ℕ} → Weave c ts xs d
    → Prints xs s → Spelled c ts s
spelled done p_nil = the_end no_blank
spelled (w_space w) (p_word p) = spelled_blank (a_space no_blank) (spelled w p)
spelled (w_line w) (p_line p) = spelled_blank (a_space no_blank) (spelled w p)
spelled (w_line w) (p_line_break n p) = spelled_blank (breaks n) (spelled w p)
spelled (w_line_or_nil w) (p_nothing p) = spelled w p
spelled (w_line_or_nil w) (p_nil_break n p) = spelled_blank (breaks n) (spelled w p)
spelled (w_hard w) (p_hard n p) = spelled_blank (breaks n) (spelled w p)
spelled (w_token {c = c} {ts = ts} {xs = xs} t apart w) p =
    token_print c t ts xs _ apart (λ s q. spelled w q) p

-- what is made from the atoms prints them
pub made_prints : (ps : List Piece) (xs : List Atom) → AreMadeOf ps xs
    → Prints xs (flat_map print ps)
made_prints [] [] h = p_nil
made_prints [] (x ∷ xs) h = absurd h
made_prints (p ∷ ps) [] h = absurd h
made_prints (written u ∷ ps) (word s ∷ xs) h = rw h.0 (p_word (made_prints ps xs h.1))
made_prints (flat_space ∷ ps) (space_or_break ∷ xs) h = p_line (made_prints ps xs h.1)
made_prints (broken i ∷ ps) (space_or_break ∷ xs) h = p_line_break i (made_prints ps xs h.1)
made_prints (flat_nothing ∷ ps) (nothing_or_break ∷ xs) h = p_nothing (made_prints ps xs h.1)
made_prints (broken i ∷ ps) (nothing_or_break ∷ xs) h = p_nil_break i (made_prints ps xs h.1)
made_prints (broken i ∷ ps) (must_break ∷ xs) h = p_hard i (made_prints ps xs h.1)
made_prints (written u ∷ ps) (space_or_break ∷ xs) h = absurd h.0
made_prints (written u ∷ ps) (nothing_or_break ∷ xs) h = absurd h.0
made_prints (written u ∷ ps) (must_break ∷ xs) h = absurd h.0
made_prints (flat_space ∷ ps) (word s ∷ xs) h = absurd h.0
made_prints (flat_space ∷ ps) (nothing_or_break ∷ xs) h = absurd h.0
made_prints (flat_space ∷ ps) (must_break ∷ xs) h = absurd h.0
made_prints (flat_nothing ∷ ps) (word s ∷ xs) h = absurd h.0
made_prints (flat_nothing ∷ ps) (space_or_break ∷ xs) h = absurd h.0
made_prints (flat_nothing ∷ ps) (must_break ∷ xs) h = absurd h.0
made_prints (broken i ∷ ps) (word s ∷ xs) h = absurd h.0
