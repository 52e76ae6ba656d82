-- A policy's layout splits into units that are cut from those of its pieces.
use Rattle.std.proofs.Common.{◌≡◌, ◌≤◌, ℕ, ℤ, zero, suc, Bool, true, false, cond, not, ◌&&◌, ◌||◌, ◌==◌, ◌⊎◌, inl, inr, List, [], ◌∷◌, ◌++◌, length, drop, replicate, refl, ap, arith, sym, ◌∙◌, subst, append_assoc, append-nil}
use Rattle.std.specs.List.{AllByRecursion, concat, filter, flat_map, list_all}
use Rattle.std.specs.Str.{trim, IsUtf8, chars, skip_leading_whitespace, drop_trailing_whitespace}
use Rattle.std.specs.Char.{is_whitespace}
use Rattle.std.proofs.lemmas.Bool.{false≢true, and_parts}
use Rattle.std.proofs.lemmas.Bool.Decides.{Decides-eqb}
use Rattle.std.proofs.lemmas.List.Elements.{filter-append}
use Rattle.std.proofs.lemmas.List.Folds.{concat-append}
use Rattle.std.proofs.lemmas.Str.{chars-nil}
use Rattle.cedar_tokens.specs.Bytes.{line_feed, space_character, slash}
use Rattle.cedar_tokens.specs.Units.{IsBlank, IsToken, IsComment, IsUnit, blank, comment, token, IsFirstUnit, BeginsWith, is_token, is_comment}
use Rattle.cedar_tokens.specs.Split.{Scans, SplitsInto}
use Rattle.cedar_tokens.specs.Listing.{Decorated, token_value}
use Rattle.cedar_tokens.specs.Inside.Newlines.{before_newline}
use Rattle.cedar_tokens.proofs.FirstUnit.{no_empty_blank}
use Rattle.cedar_tokens.proofs.Heads.{no_empty_token}
use Rattle.cedar_tokens.proofs.Lists.{All-append}
use Rattle.cedar_tokens.proofs.Prefixes.{longest_unique}
use Rattle.cedar_tokens.proofs.UnitsSoFar.{scans_concat}
use Rattle.cedar_grammar.specs.TypedTrees.{Clause, policy, part_yield}
use Rattle.cedar_layout.specs.Layout.{Atom, word, space_or_break, nothing_or_break, must_break, Piece, written, flat_space, flat_nothing, broken, print, pieces, text_of_choice, AreMadeOf}
use Rattle.cedar_layout.proofs.Atoms.{pieces_are_made}
use Rattle.cedar_laws.specs.CleaningLaws.{is_solid}
use Rattle.cedar_laws.specs.Fit.{PartFit}
use Rattle.cedar_laws.specs.Good.{IsGood, IsLine, IsTrailing}
use Rattle.cedar_laws.specs.Table.{part_table}
use Rattle.cedar_laws.proofs.BlankLines.{blank_not_solid, blank_no_slash, chars_blank, comment_solid, feedless, feedless_back, feedless_front, token_solid, white_token}
use Rattle.cedar_laws.proofs.CleanedLists.{nothing_left}
use Rattle.cedar_laws.proofs.Ends.{chars_trim}
use Rattle.cedar_laws.proofs.Joined.{before_cons}
use Rattle.cedar_laws.proofs.Listed.{value_token}
use Rattle.cedar_laws.proofs.PrintedNodes.{blank_opens}
use Rattle.cedar_laws.proofs.PrintedPolicies.{law_of_gaps, policy_weave}
use Rattle.cedar_laws.proofs.PrintedTokens.{Weave, done, w_space, w_line, w_line_or_nil, w_hard, w_token, line_atoms, lead_atoms, trail_atoms}
use Rattle.cedar_laws.proofs.ReadBack.{reading, solids}
use Rattle.cedar_laws.proofs.Scanned.{begins_within}
use Rattle.cedar_laws.proofs.Units.{blank_first, feed_blank, space_blank}
use Rattle.cedar_written.specs.Cleaning.{is_feed}
use Rattle.cedar_print.specs.Clean.{space, feed, units_of, is_blank}
use Rattle.cedar_print.specs.Laws.{AreCutFrom, no_units, a_blank, a_text, SplitsByPieces}

-- ---- units

-- a blank, or a token or a comment
abbrev IsKnown : List ℕ → Type 0
IsKnown u = IsBlank u ⊎ (is_solid u ≡ true)

known : (u : List ℕ) → IsUnit u → IsKnown u
known u (blank k) = inl k
known u (comment k) = inr (comment_solid u k)
known u (token k) = inr (token_solid u k)

scanned_known : (us : List (List ℕ)) (text rest : List ℕ) → Scans us text rest
    → AllByRecursion IsKnown us
scanned_known [] text rest s = tt
scanned_known (u ∷ us) text rest s =
    (known u s.0.kind, scanned_known us (drop (length u) text) rest s.1)

-- a token or a comment
solid_kind : (u : List ℕ) → is_solid u ≡ true → IsToken u ⊎ IsComment u
solid_kind u h = go (is_token u) refl h
  where
    go : (t : Bool) → is_token u ≡ t → (t || is_comment u) ≡ true → IsToken u ⊎ IsComment u
    go true e k = inl e
    go false e k = inr k

no_empty_solid : is_solid [] ≡ true → ⊥
no_empty_solid h = elim (solid_kind [] h) [ inl t ↦ no_empty_token t | inr c ↦ false≢true c ]

solid_not_blank : (u : List ℕ) → is_solid u ≡ true → is_blank u ≡ false
solid_not_blank [] h = refl
solid_not_blank (b ∷ []) h = go (b == line_feed) (b == space_character) refl refl
  where
    refuse : (c : ℕ) → b ≡ c → IsBlank (c ∷ []) → ⊥
    refuse c e k = false≢true (sym (blank_not_solid (c ∷ []) k)
        ∙ ap (λ z. is_solid (z ∷ [])) (sym e) ∙ h)

    go : (f s : Bool) → (b == line_feed) ≡ f → (b == space_character) ≡ s → (f || s) ≡ false
    go true s e k = absurd (refuse line_feed ((Decides-eqb b line_feed).0 e) feed_blank)
    go false true e k = absurd (refuse space_character ((Decides-eqb b space_character).0 k)
        space_blank)
    go false false e k = refl
solid_not_blank (b ∷ (c ∷ u)) h = refl

joined_not_blank : (v x : List ℕ) → is_solid v ≡ true → is_blank (v ++ x) ≡ false
joined_not_blank [] x h = absurd (no_empty_solid h)
joined_not_blank (b ∷ []) [] h = solid_not_blank (b ∷ []) h
joined_not_blank (b ∷ []) (c ∷ x) h = refl
joined_not_blank (b ∷ (c ∷ v)) x h = refl

-- ---- a text is split in one way

-- a token or a comment doesn't begin with a blank
blank_front : (f u rest : List ℕ) → is_solid f ≡ true → IsBlank u → IsFirstUnit (f ++ rest) u → ⊥
blank_front f u rest h k s =
    let unit : IsUnit f = elim (solid_kind f h) [ inl t ↦ token t | inr c ↦ comment c ] in
    let long : length f ≤ length u = s.longest f unit (rest, refl) in
    let front : BeginsWith u f =
    begins_within u s.begins.0 f (rest, sym s.begins.1) long in
    elim (solid_kind f h) [
      | inl t ↦ white_token f front.0 t
          (ap (λ z. list_all is_whitespace (chars z)) (sym front.1 ∙ sym (append-nil u))
          ∙ (ap (list_all is_whitespace) (chars_blank u [] k) ∙ rw (k.1, chars-nil) refl))
      | inr c ↦ slashes f front.0 c (subst (λ z. list_all (λ b. not (slash == b)) z ≡ true) front.1
          (blank_no_slash u k))
    ]
  where
    slashes : (f z : List ℕ) → IsComment f → list_all (λ b. not (slash == b)) (f ++ z) ≡ true → ⊥
    slashes [] z c h = false≢true c
    slashes (a ∷ []) z c h = false≢true c
    slashes (a ∷ (b ∷ f)) z c h =
        let e : a ≡ slash = (Decides-eqb a slash).0 (and_parts (a == slash) _ c).0 in
        let n = (and_parts (not (slash == a)) _ h).0 in
        false≢true (rw (e) at n)

same_first : (f u rest text : List ℕ) → text ≡ f ++ rest → IsFirstUnit text u → IsKnown f
    → (is_solid u ≡ true → is_solid f ≡ true → u ≡ f) → u ≡ f
same_first f u rest text e s (inl k) h =
    longest_unique IsUnit (f ++ rest) u f (subst (λ z. IsFirstUnit z u) e s) (blank_first f rest k)
same_first f u rest text e s (inr k) h = go (known u s.kind)
  where
    go : IsKnown u → u ≡ f
    go (inl b) = absurd (blank_front f u rest k b (subst (λ z. IsFirstUnit z u) e s))
    go (inr t) = h t k

-- the tokens and comments that come first are the same, and so are those after them
heads : (u f : List ℕ) (us fs : List (List ℕ)) → filter is_solid (u ∷ us) ≡ filter is_solid (f ∷ fs)
    → is_solid u ≡ true → is_solid f ≡ true → u ≡ f
heads u f us fs e h k =
    let a : filter is_solid (u ∷ us) ≡ u ∷ filter is_solid us = rw h refl in
    let b : filter is_solid (f ∷ fs) ≡ f ∷ filter is_solid fs = rw k refl in
    let c : u ∷ filter is_solid us ≡ f ∷ filter is_solid fs = sym a ∙ (e ∙ b) in cc

tails : (f : List ℕ) (us fs : List (List ℕ)) → filter is_solid (f ∷ us) ≡ filter is_solid (f ∷ fs)
    → filter is_solid us ≡ filter is_solid fs
tails f us fs e = go (is_solid f) e
  where
    go : (t : Bool) → cond t (f ∷ filter is_solid us) (filter is_solid us)
        ≡ cond t (f ∷ filter is_solid fs) (filter is_solid fs)
        → filter is_solid us ≡ filter is_solid fs
    go true e = cc
    go false e = e

drop_front : (f rest : List ℕ) → drop (length f) (f ++ rest) ≡ rest
drop_front [] rest = refl
drop_front (b ∷ f) rest = drop_front f rest

-- units that have the tokens and the comments of a text, in order, are those that it splits into
same_units : (fs us : List (List ℕ)) (text : List ℕ) → AllByRecursion IsKnown fs → text ≡ concat fs
    → SplitsInto text us → filter is_solid us ≡ filter is_solid fs → us ≡ fs
same_units [] us text a e s h = nothing_left us (subst (λ z. Scans us z []) e s)
same_units (f ∷ fs) [] text a e s h = absurd (empty f (concat fs) (sym e ∙ s) a.0)
  where
    empty : (f x : List ℕ) → f ++ x ≡ [] → IsKnown f → ⊥
    empty [] x e (inl k) = no_empty_blank k
    empty [] x e (inr k) = no_empty_solid k
    empty (b ∷ f) x e k = absurd cc
same_units (f ∷ fs) (u ∷ us) text a e s h =
    let first : u ≡ f = same_first f u (concat fs) text e s.0 a.0 (heads u f us fs h) in
    let left : Scans us (concat fs) [] = subst (λ z. Scans us z [])
    (ap (λ z. drop (length z) text) first ∙ ap (drop (length f)) e ∙ drop_front f (concat fs)) s.1 in
    let more = tails f us fs (subst (λ z. filter is_solid (z ∷ us) ≡ filter is_solid (f ∷ fs))
    first h) in
    ap (λ z. z ∷ us) first ∙ ap (λ z. f ∷ z) (same_units fs us (concat fs) a.1 refl left more)

-- ---- cutting

-- units that are cut from these, with the tokens and comments that were said
record Cuts (us said : List (List ℕ)) : Type 0 where
  units : List (List ℕ)
  cut : AreCutFrom us units
  solid : filter is_solid units ≡ said
  known : AllByRecursion IsKnown units

nothing_cut : Cuts [] []
nothing_cut = record { units = []; cut = no_units; solid = refl; known = tt }

blank_cut : (u : List ℕ) → is_blank u ≡ true → IsBlank u → {us said : List (List ℕ)} → Cuts us said
    → Cuts (u ∷ us) said
blank_cut u b k {us} c = record {
  units = u ∷ c.units;
  cut = a_blank u us c.units b c.cut;
  solid = rw (blank_not_solid u k) c.solid;
  known = (inl k, c.known);
}

spaces_cut : (n : ℕ) {us said : List (List ℕ)} → Cuts us said → Cuts (replicate n space ++ us) said
spaces_cut zero c = c
spaces_cut (suc n) c = blank_cut space refl space_blank (spaces_cut n c)

break_cut : (n : ℕ) {us said : List (List ℕ)} → Cuts us said → Cuts (units_of (broken n) ++ us) said
break_cut n c = blank_cut feed refl feed_blank (spaces_cut n c)

solid_cut : (w : List ℕ) → is_solid w ≡ true → {us said : List (List ℕ)} → Cuts us said
    → Cuts (w ∷ us) (w ∷ said)
solid_cut w s {us} c = record {
  units = w ∷ c.units;
  cut = subst (λ z. AreCutFrom (z ∷ us) (w ∷ c.units)) (append-nil w)
      (a_text w [] us c.units (joined_not_blank w [] s) s tt c.cut);
  solid = rw s (ap (λ z. w ∷ z) c.solid);
  known = (inr s, c.known);
}

-- ---- trailing texts

no_feed : (u : List ℕ) → feedless u ≡ true → is_feed u ≡ false
no_feed [] h = refl
no_feed (b ∷ []) h = go (b == line_feed) (and_parts (not (b == line_feed)) true h).0
  where
    go : (t : Bool) → not t ≡ true → t ≡ false
    go true e = absurd (false≢true e)
    go false e = refl
no_feed (b ∷ (c ∷ u)) h = refl

no_feeds : (us : List (List ℕ)) → feedless (concat us) ≡ true
    → AllByRecursion (λ u. is_feed u ≡ false) us
no_feeds [] h = tt
no_feeds (u ∷ us) h = (
  no_feed u (feedless_front u (concat us) h),
  no_feeds us (feedless_back u (concat us) h),
)

one_line_feedless : (x : List ℕ) → before_newline x ≡ x → feedless x ≡ true
one_line_feedless [] e = refl
one_line_feedless (b ∷ x) e = go (b == line_feed) (rw (before_cons b x) at e) (one_line_feedless x)
  where
    go : (t : Bool) → cond t [] (b ∷ before_newline x) ≡ b ∷ x
        → (before_newline x ≡ x → feedless x ≡ true) → (not t && feedless x) ≡ true
    go true e ih = absurd cc
    go false e ih = ih (let f : b ∷ before_newline x ≡ b ∷ x = e in cc)

skip_shorter : (cs : List ℕ) → length (skip_leading_whitespace cs) ≤ length cs
skip_shorter [] = omega arith
skip_shorter (c ∷ cs) = go (is_whitespace c) (skip_shorter cs)
  where
    go : (t : Bool) → length (skip_leading_whitespace cs) ≤ length cs
        → length (cond t (skip_leading_whitespace cs) (c ∷ cs)) ≤ length (c ∷ cs)
    go true ih = omega (arith, ih)
    go false ih = omega arith

drop_shorter : (cs : List ℕ) → length (drop_trailing_whitespace cs) ≤ length cs
drop_shorter [] = omega arith
drop_shorter (c ∷ cs) =
    go (is_whitespace c && length (drop_trailing_whitespace cs) == 0) (drop_shorter cs)
  where
    go : (t : Bool) → length (drop_trailing_whitespace cs) ≤ length cs
        → length (cond t [] (c ∷ drop_trailing_whitespace cs)) ≤ length (c ∷ cs)
    go true ih = omega arith
    go false ih = omega (arith, ih)

-- a trimmed text doesn't begin with a blank
trimmed_front : (v x : List ℕ) → IsUtf8 (v ++ x) → trim (v ++ x) ≡ v ++ x → IsBlank v → ⊥
trimmed_front v x u t k =
    let cs = chars x in
    let e : chars (v ++ x) ≡ k.0 ∷ cs = chars_blank v x k in
    let s : drop_trailing_whitespace (skip_leading_whitespace (chars (v ++ x))) ≡ chars (v ++ x) =
    sym (chars_trim (v ++ x) u) ∙ ap chars t in
    let r : drop_trailing_whitespace (skip_leading_whitespace cs) ≡ k.0 ∷ cs =
    rw (e, k.1) at s in
    let n = ap length r in
    let a = drop_shorter (skip_leading_whitespace cs) in
    let b = skip_shorter cs in
    omega (arith, n, a, b)

text_cut : (tr : List ℕ) (ws : List (List ℕ)) → IsUtf8 tr → trim tr ≡ tr → before_newline tr ≡ tr
    → SplitsInto tr ws → AllByRecursion (λ u. is_token u ≡ false) ws → (tr ≡ [] → ⊥)
    → {us said : List (List ℕ)} → Cuts us said → Cuts (tr ∷ us) (filter is_solid ws ++ said)
text_cut tr [] u t o s n e c = absurd (e s)
text_cut tr (v ∷ ws) u t o s n e {us} {said} c =
    let is : tr ≡ concat (v ∷ ws) = scans_concat (v ∷ ws) tr [] s ∙ append-nil (concat (v ∷ ws)) in
    let free = one_line_feedless tr o in
    let k : is_solid v ≡ true = go is s.0.kind in
    record {
      units = v ∷ (ws ++ c.units);
      cut = subst (λ z. AreCutFrom (z ∷ us) (v ∷ (ws ++ c.units))) (sym is)
          (a_text v ws us c.units (joined_not_blank v (concat ws) k) k
          (no_feeds ws (feedless_back v (concat ws) (subst (λ z. feedless z ≡ true) is free))) c.cut);
      solid = filter-append is_solid (v ∷ ws) c.units
          ∙ ap (λ z. filter is_solid (v ∷ ws) ++ z) c.solid;
      known = All-append IsKnown (v ∷ ws) c.units (scanned_known (v ∷ ws) tr [] s) c.known;
    }
  where
    go : tr ≡ v ++ concat ws → IsUnit v → is_solid v ≡ true
    go is (blank k) = absurd (trimmed_front v (concat ws) (subst IsUtf8 is u)
        (subst (λ z. trim z ≡ z) is t) k)
    go is (comment k) = comment_solid v k
    go is (token k) = token_solid v k

-- ---- the pieces of a woven document

-- what is left of the pieces is cut so
abbrev Left : List Atom → List (List ℕ) → Type 0
Left xs said = (ps : List Piece) → AreMadeOf ps xs → Cuts (flat_map units_of ps) said

word_pieces : (w : List ℕ) (xs : List Atom) (old new : List (List ℕ))
    → ((us : List (List ℕ)) → Cuts us old → Cuts (w ∷ us) new) → Left xs old
    → Left (word w ∷ xs) new
word_pieces w xs old new f g [] m = absurd m
word_pieces w xs old new f g (written u ∷ ps) m =
    subst (λ z. Cuts (z ∷ flat_map units_of ps) new) (sym m.0)
    (f (flat_map units_of ps) (g ps m.1))
word_pieces w xs old new f g (flat_space ∷ ps) m = absurd m.0
word_pieces w xs old new f g (flat_nothing ∷ ps) m = absurd m.0
word_pieces w xs old new f g (broken i ∷ ps) m = absurd m.0

hard_pieces : (xs : List Atom) (said : List (List ℕ)) → Left xs said → Left (must_break ∷ xs) said
hard_pieces xs said g [] m = absurd m
hard_pieces xs said g (written u ∷ ps) m = absurd m.0
hard_pieces xs said g (flat_space ∷ ps) m = absurd m.0
hard_pieces xs said g (flat_nothing ∷ ps) m = absurd m.0
hard_pieces xs said g (broken i ∷ ps) m = break_cut i (g ps m.1)

line_pieces : (xs : List Atom) (said : List (List ℕ)) → Left xs said
    → Left (space_or_break ∷ xs) said
line_pieces xs said g [] m = absurd m
line_pieces xs said g (written u ∷ ps) m = absurd m.0
line_pieces xs said g (flat_space ∷ ps) m = blank_cut space refl space_blank (g ps m.1)
line_pieces xs said g (flat_nothing ∷ ps) m = absurd m.0
line_pieces xs said g (broken i ∷ ps) m = break_cut i (g ps m.1)

line_or_nil_pieces : (xs : List Atom) (said : List (List ℕ)) → Left xs said
    → Left (nothing_or_break ∷ xs) said
line_or_nil_pieces xs said g [] m = absurd m
line_or_nil_pieces xs said g (written u ∷ ps) m = absurd m.0
line_or_nil_pieces xs said g (flat_space ∷ ps) m = absurd m.0
line_or_nil_pieces xs said g (flat_nothing ∷ ps) m = g ps m.1
line_or_nil_pieces xs said g (broken i ∷ ps) m = break_cut i (g ps m.1)

leading_lines : (ls : List (List ℕ)) (xs : List Atom) (said : List (List ℕ))
    → AllByRecursion IsLine ls → Left xs said → Left (line_atoms ls ++ xs) (ls ++ said)
leading_lines [] xs said a g = g
leading_lines (l ∷ ls) xs said a g =
    word_pieces l (must_break ∷ (line_atoms ls ++ xs)) (ls ++ said) (l ∷ (ls ++ said))
    (λ us. solid_cut l (comment_solid l a.0.comment))
    (hard_pieces (line_atoms ls ++ xs) (ls ++ said) (leading_lines ls xs said a.1 g))

leading : (ls : List (List ℕ)) (xs : List Atom) (said : List (List ℕ))
    → AllByRecursion IsLine ls → Left xs said → Left (lead_atoms ls ++ xs) (ls ++ said)
leading [] xs said a g = g
leading (l ∷ ls) xs said a g = hard_pieces (line_atoms (l ∷ ls) ++ xs) ((l ∷ ls) ++ said)
    (leading_lines (l ∷ ls) xs said a g)

trailing : (tr : List ℕ) (h : IsTrailing tr) (xs : List Atom) (said : List (List ℕ)) → Left xs said
    → Left (trail_atoms tr ++ xs) (filter is_solid h.units ++ said)
trailing [] h xs said g =
    subst (λ z. Left xs (filter is_solid z ++ said)) (sym (nothing_left h.units h.split)) g
trailing (c ∷ cs) h xs said g =
    word_pieces space (word (c ∷ cs) ∷ (must_break ∷ xs)) (filter is_solid h.units ++ said)
    (filter is_solid h.units ++ said) (λ us. blank_cut space refl space_blank)
    (word_pieces (c ∷ cs) (must_break ∷ xs) said (filter is_solid h.units ++ said)
    (λ us. text_cut (c ∷ cs) h.units h.utf8 h.trimmed h.one_line h.split h.no_token
    (λ e. absurd cc))
    (hard_pieces xs said g))

woven : {c d : ℕ} {ts : List Decorated} {xs : List Atom} → Weave c ts xs d
    → (a : AllByRecursion IsGood ts) → Left xs (solids ts a)
woven done a [] m = nothing_cut
woven done a (p ∷ ps) m = absurd m
woven (w_space w) a ps m =
    word_pieces space _ _ _ (λ us. blank_cut space refl space_blank) (woven w a) ps m
woven (w_line w) a ps m = line_pieces _ _ (woven w a) ps m
woven (w_line_or_nil w) a ps m = line_or_nil_pieces _ _ (woven w a) ps m
woven (w_hard w) a ps m = hard_pieces _ _ (woven w a) ps m
woven (w_token t apart w) a ps m =
    let v = token_value t.text in
    leading t.leading _ _ a.0.leading (word_pieces v _ _ _
    (λ us. solid_cut v (token_solid v (value_token t.text a.0.token)))
    (trailing t.trailing a.0.trailing _ _ (woven w a.1))) ps m

-- ---- policies

-- the text of pieces is that of their units
spaces_text : (n : ℕ) → concat (replicate n space) ≡ replicate n space_character
spaces_text zero = refl
spaces_text (suc n) = ap (λ z. space_character ∷ z) (spaces_text n)

cut_text : {us vs : List (List ℕ)} → AreCutFrom us vs → concat us ≡ concat vs
cut_text no_units = refl
cut_text (a_blank u us vs b c) = ap (λ z. u ++ z) (cut_text c)
cut_text (a_text v ws us vs b s n c) = append_assoc v (concat ws) (concat us)
    ∙ ap (λ z. v ++ z) (ap (λ z. concat ws ++ z) (cut_text c) ∙ sym (concat-append ws vs))

pieces_text : (ps : List Piece) → concat (flat_map units_of ps) ≡ flat_map print ps
pieces_text [] = refl
pieces_text (written u ∷ ps) = ap (λ z. u ++ z) (pieces_text ps)
pieces_text (flat_space ∷ ps) = ap (λ z. space_character ∷ z) (pieces_text ps)
pieces_text (flat_nothing ∷ ps) = pieces_text ps
pieces_text (broken i ∷ ps) = ap (λ z. line_feed ∷ z)
    (concat-append (replicate i space) (flat_map units_of ps)
    ∙ (ap (λ z. z ++ concat (flat_map units_of ps)) (spaces_text i)
    ∙ ap (λ z. replicate i space_character ++ z) (pieces_text ps)))

-- under each choice a policy's layout splits so
pub policy_splits : (w : ℕ) (i : ℤ) (p : Clause Decorated policy) → PartFit p
    → AllByRecursion IsGood (part_yield p) → SplitsByPieces w (part_table i p)
policy_splits w i p f g c at =
    let ps = pieces (part_table i p) c false 0 in
    let r = reading (law_of_gaps i p c f) g in
    let cuts = woven (policy_weave i p space_character blank_opens f).weave g ps
    (pieces_are_made (part_table i p) c false 0) in
    let same : r.units ≡ cuts.units = same_units cuts.units r.units (text_of_choice (part_table i p) c)
    cuts.known (sym (pieces_text ps) ∙ cut_text cuts.cut) r.split (r.solid ∙ sym cuts.solid) in
    (r.units, r.split, subst (λ z. AreCutFrom (flat_map units_of ps) z) (sym same) cuts.cut)
