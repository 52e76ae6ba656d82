-- What the parser of policies gives if its loop gives what the reader gives:
-- the tree of the text, or the exact place of its refusal.
use Rattle.std.specs.Prelude.{◌≡◌, ℕ, suc, ◌-◌, Bool, true, false, List, [], ◌∷◌, ◌++◌, ◌⊎◌, length, map, Some, Err, if◌then◌else◌}
use Rattle.std.specs.List.{filter, slice_get, AllByRecursion}
use Rattle.std.proofs.Common.{refl, sym, ap, ◌∙◌, arith, inl, inr, subst, length-append}
use Rattle.std.proofs.lemmas.Option.{slice_get_past}
use Rattle.cedar_tokens.specs.Units.{is_token}
use Rattle.cedar_tokens.specs.TokenKinds.{kind_of}
use Rattle.cedar_grammar.specs.Trees.{Label, Forest, none, leaf, branch, yield}
use Rattle.cedar_grammar.specs.Texts.{greatest_depth, LeavesGrammar}
use Rattle.cedar_grammar.specs.Reader.Hopeless.{IsRefused}
use Rattle.cedar_grammar.proofs.Leaving.{leaves_grammar}
use Rattle.cedar_grammar.specs.Reader.Reading.{Answer, done, stuck}
use Rattle.cedar_grammar.specs.Reader.Lines.{set_to}
use Rattle.cedar_grammar.proofs.Readers.Depths.{Beyond}
use Rattle.cedar_grammar.proofs.WholeLaws.{set_sound, set_local, set_deeper}
use Rattle.cedar_reading.specs.declared.lexeme.Lexeme.{Lexeme}
use Rattle.cedar_reading.specs.declared.reading.Refusal.TheVariants.{Grammar, TooDeep}
use Rattle.cedar_reading.specs.Lexemes.{AreLexemes}
use Rattle.cedar_reading.specs.Reading.{kind, IsRight, AreRight, start_or, place_of}
use Rattle.cedar_cst.specs.Inside.ReadingSet.{GivesSet}
use Rattle.cedar_reading.proofs.Parsing.{parsed}
use Rattle.cedar_tokens.proofs.Lists.{All-parts}

-- The lexemes of a text are correct.
all_tokens : (us : List (List ℕ)) (xs : List Lexeme)
    → map (λ (l : Lexeme). l.text.now) xs ≡ filter is_token us
    → AllByRecursion (λ (l : Lexeme). is_token l.text.now ≡ true) xs
all_tokens [] [] e = tt
all_tokens [] (x ∷ xs) e = absurd cc
all_tokens (u ∷ us) xs e = go (λ ys i. all_tokens us ys i) (is_token u) refl xs e
  where
    go : ((ys : List Lexeme) → map (λ (l : Lexeme). l.text.now) ys ≡ filter is_token us
        → AllByRecursion (λ (l : Lexeme). is_token l.text.now ≡ true) ys) → (b : Bool)
        → is_token u ≡ b
        → (xs : List Lexeme) → map (λ (l : Lexeme). l.text.now) xs
        ≡ (if b then u ∷ filter is_token us else filter is_token us)
        → AllByRecursion (λ (l : Lexeme). is_token l.text.now ≡ true) xs
    go again true i [] e = tt
    go again true i (x ∷ xs) e =
        let h : x.text.now ≡ u = cc in
        let t : map (λ (l : Lexeme). l.text.now) xs ≡ filter is_token us = cc in
        (ap is_token h ∙ i, again xs t)
    go again false i xs e = again xs e

all_right : (xs : List Lexeme) → AllByRecursion (λ (l : Lexeme). l.kind ≡ kind_of l.text.now) xs
    → AllByRecursion (λ (l : Lexeme). is_token l.text.now ≡ true) xs → AllByRecursion IsRight xs
all_right [] k t = tt
all_right (x ∷ xs) k t = ((k.0, t.0), all_right xs k.1 t.1)

right_leaves : (f : Forest Label Lexeme) → AllByRecursion IsRight (yield f) → AreRight f
right_leaves none h = tt
right_leaves (leaf t f) h = (h.0, right_leaves f h.1)
right_leaves (branch l f g) h =
    let k = All-parts IsRight (yield f) (yield g) h in (right_leaves f k.0, right_leaves g k.1)

get_after : (front : List Lexeme) (t : Lexeme) (r : List Lexeme)
    → slice_get (front ++ (t ∷ r)) (length front) ≡ Some t
get_after [] t r = refl
get_after (x ∷ front) t r = get_after front t r

place_at : (text : List ℕ) (front : List Lexeme) (t : Lexeme) (r : List Lexeme)
    → place_of text (front ++ (t ∷ r)) (length (t ∷ r)) ≡ t.span.start
place_at text front t r =
    let n = length-append front (t ∷ r) in
    let e : length (front ++ (t ∷ r)) - length (t ∷ r) ≡ length front = omega (arith, n) in
    ap (λ z. start_or (length text) (slice_get (front ++ (t ∷ r)) z)) e
    ∙ ap (start_or (length text)) (get_after front t r)

place_end : (text : List ℕ) (ls : List Lexeme) → place_of text ls 0 ≡ length text
place_end text ls = ap (start_or (length text)) (slice_get_past ls (length ls - 0) (omega arith))

module _ (text : List ℕ) (ls : List Lexeme) (are : AreLexemes text ls) where
  -- a tree of the text's lexemes has correct leaves
  pub are_right : (f : Forest Label Lexeme) (r : List Lexeme)
      → set_to kind greatest_depth ls ≡ done f r → AreRight f
  are_right f r e =
      let all = all_right ls are.kinds (all_tokens are.units ls are.texts) in
      right_leaves f (All-parts IsRight (yield f) r
      (subst (AllByRecursion IsRight) (set_sound kind greatest_depth ls f r e).tokens all)).0

  never_beyond : (a : Answer Lexeme) → Beyond a 0 → ⊥
  never_beyond (done f s) h = omega (arith, h)
  never_beyond (stuck b s) h = omega (arith, h)

  stuck_place : (b : Bool) (r : List Lexeme) → set_to kind greatest_depth ls ≡ stuck b r
      → IsRefused text (place_of text ls (length r)) b
  stuck_place false [] e = subst (λ z. IsRefused text z false) (sym (place_end text ls))
      (parsed text ls are (stuck false []) e)
  stuck_place true [] e = absurd (never_beyond (set_to kind (suc greatest_depth) ls)
      ((set_deeper kind greatest_depth ls).deep [] e))
  stuck_place b (t ∷ r) e =
      let k = (set_local kind greatest_depth).failure ls b (t ∷ r) e in
      subst (λ z. IsRefused text z b)
      (sym (ap (λ z. place_of text z (length (t ∷ r))) k.tokens ∙ place_at text k.front t r))
      (parsed text ls are (stuck b (t ∷ r)) e)

  left_place : (f : Forest Label Lexeme) (t : Lexeme) (s : List Lexeme)
      → set_to kind greatest_depth ls ≡ done f (t ∷ s)
      → IsRefused text (place_of text ls (length (t ∷ s))) false
  left_place f t s e =
      let k = (set_sound kind greatest_depth ls f (t ∷ s) e).tokens in
      subst (λ z. IsRefused text z false)
      (sym (ap (λ z. place_of text z (length (t ∷ s))) k ∙ place_at text (yield f) t s))
      (parsed text ls are (done f (t ∷ s)) e)

  pub whole_grammar : (left : ℕ) → GivesSet (Err (Grammar left)) (set_to kind greatest_depth ls)
      → LeavesGrammar text (place_of text ls left) false
  whole_grammar left h = leaves_grammar text (place_of text ls left) false (go h.0 h.1 h.2)
    where
      go : (r : List Lexeme) → (set_to kind greatest_depth ls ≡ stuck false r)
          ⊎ ((f : Forest Label Lexeme) × (t : Lexeme) × (s : List Lexeme)
          × (set_to kind greatest_depth ls ≡ done f r) × (r ≡ t ∷ s)) → left ≡ length r
          → IsRefused text (place_of text ls left) false
      go r (inl e) n =
          subst (λ z. IsRefused text (place_of text ls z) false) (sym n) (stuck_place false r e)
      go r (inr x) n = subst (λ z. IsRefused text (place_of text ls z) false)
          (sym (n ∙ ap length x.4)) (left_place x.0 x.1 x.2 (x.3 ∙ ap (done x.0) x.4))

  pub whole_deep : (left : ℕ) → GivesSet (Err (TooDeep left)) (set_to kind greatest_depth ls)
      → LeavesGrammar text (place_of text ls left) true
  whole_deep left h = leaves_grammar text (place_of text ls left) true
      (subst (λ z. IsRefused text (place_of text ls z) true) (sym h.2) (stuck_place true h.0 h.1))
