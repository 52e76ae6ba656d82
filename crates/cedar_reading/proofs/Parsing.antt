-- What the reader's answer on the lexemes of a text says about the text:
-- its tree of nodes, or the exact place and kind of its refusal.
use Rattle.std.specs.Prelude.{◌≡◌, ℕ, suc, ◌+◌, Bool, true, false, List, [], ◌∷◌, ◌++◌, ◌⊎◌, length, map, Some, None, if◌then◌else◌}
use Rattle.std.specs.List.{list_any, sum_by, AllByRecursion}
use Rattle.std.proofs.Common.{refl, sym, ap, ◌∙◌, inl, inr, arith, length-append, append-nil, subst}
use Rattle.std.proofs.lemmas.List.Sums.{sum_by-cons}
use Rattle.cedar_tokens.specs.Units.{is_token}
use Rattle.cedar_tokens.specs.Split.{SplitsInto}
use Rattle.cedar_tokens.specs.Places.{token_spans}
use Rattle.cedar_tokens.specs.Listing.{token_value}
use Rattle.cedar_tokens.specs.declared.token.Span.{Span}
use Rattle.cedar_tokens.specs.declared.kind.Kind.{Kind}
use Rattle.cedar_reading.specs.declared.lexeme.Lexeme.{Lexeme}
use Rattle.cedar_grammar.specs.declared.tree.Policies.{Policies}
use Rattle.cedar_grammar.specs.Trees.{Label, Forest, none, leaf, branch, yield}
use Rattle.cedar_grammar.specs.KindGrammar.{G}
use Rattle.cedar_tokens.specs.TokenKinds.{kind_of}
use Rattle.cedar_grammar.specs.Reader.Hopeless.{Hopeless, Unfinished, IsRefused}
use Rattle.cedar_grammar.specs.Numbers.{is_too_large}
use Rattle.cedar_grammar.specs.Texts.{greatest_depth, only_tokens}
use Rattle.cedar_grammar.specs.TrailingCommas.{without_trailing}
use Rattle.cedar_grammar.proofs.Texts.Placed.{tree_by_texts}
use Rattle.cedar_grammar.proofs.Plain.ByTexts.{plain_same}
use Rattle.cedar_grammar.specs.Erased.{erase}
use Rattle.cedar_grammar.specs.NodeTrees.{is_node, end_of, span_of, spanned, IsTreeOf}
use Rattle.cedar_grammar.specs.Placed.{Placed, with_places, placed, kind_of_placed}
use Rattle.cedar_reading.specs.Lexemes.{AreLexemes, lexeme_nodes}
use Rattle.cedar_grammar.specs.Reader.Reading.{Answer, done, stuck}
use Rattle.cedar_grammar.specs.Reader.Lines.{set_to}
use Rattle.cedar_grammar.proofs.Rules.Maps.{each, relabel, answer_of, set_agrees, each_length}
use Rattle.cedar_grammar.proofs.WholeLaws.{set_sound, set_local}
use Rattle.cedar_grammar.proofs.Answers.{Says, says_of}
use Rattle.cedar_grammar.proofs.Texts.Kinds.{samples}
use Rattle.cedar_grammar.proofs.Texts.Cuts.{cuts, unit_cut}
use Rattle.cedar_grammar.proofs.Trees.Relabelling.{relabelled, each_map, each_append, relabel_yield, without_relabel}

-- Changing leaves, and what depends on them.
module _ {A B : Type 0} (h : A → B) where
  module _ (text : B → List ℕ) (place : B → Span) where
    end_relabel : (s : Span) (ts : List A)
        → end_of text place s (each h ts) ≡ end_of (λ a. text (h a)) (λ a. place (h a)) s ts
    end_relabel s [] = refl
    end_relabel s (t ∷ ts) = end_relabel (place (h t)) ts

    span_relabel : (ts : List A)
        → span_of text place (each h ts) ≡ span_of (λ a. text (h a)) (λ a. place (h a)) ts
    span_relabel [] = refl
    span_relabel (t ∷ ts) = ap (λ e. Some (record { start = (place (h t)).start; end = e }))
        (end_relabel (place (h t)) ts)

    spanned_relabel : (f : Forest Label A)
        → spanned text place (relabel h f) ≡ spanned (λ a. text (h a)) (λ a. place (h a)) f
    spanned_relabel none = refl
    spanned_relabel (leaf a f) = ap (leaf (token_value (text (h a)))) (spanned_relabel f)
    spanned_relabel (branch l f g) =
        ap (λ s. branch (l, if is_node l then s else None) (spanned text place (relabel h f))
        (spanned text place (relabel h g)))
        (ap (span_of text place) (relabel_yield h f) ∙ span_relabel (yield f))
        ∙ ap (λ z. branch
        (l, if is_node l then span_of (λ a. text (h a)) (λ a. place (h a)) (yield f) else None) z
        (spanned text place (relabel h g))) (spanned_relabel f)
        ∙ ap (branch
        (l, if is_node l then span_of (λ a. text (h a)) (λ a. place (h a)) (yield f) else None)
        (spanned (λ a. text (h a)) (λ a. place (h a)) f)) (spanned_relabel g)

each_each : {A B C : Type 0} → (g : B → C) (h : A → B) (xs : List A)
    → each g (each h xs) ≡ each (λ x. g (h x)) xs
each_each g h [] = refl
each_each g h (x ∷ xs) = ap (λ z. g (h x) ∷ z) (each_each g h xs)

-- Places.
same_head : {A : Type 0} → (x y : List A) (a b : A) (r s : List A) → x ++ (a ∷ r) ≡ y ++ (b ∷ s)
    → length x ≡ length y → a ≡ b
same_head x y a b r s e n = go (cuts x y a b r s e)
  where
    go : ((x ≡ y) × (a ≡ b)) ⊎ (((e : List _) × (y ≡ x ++ (a ∷ e)))
        ⊎ ((e : List _) × (x ≡ y ++ (b ∷ e)))) → a ≡ b
    go (inl h) = h.1
    go (inr (inl (d, i))) =
        let k = ap length i in
        let l = length-append x (a ∷ d) in
        absurd (omega (arith, n, k, l))
    go (inr (inr (d, i))) =
        let k = ap length i in
        let l = length-append y (b ∷ d) in
        absurd (omega (arith, n, k, l))

pub spans_length : (p : ℕ) (units : List (List ℕ))
    → length (token_spans p units) ≡ length (only_tokens units)
unfolding token_spans
spans_length p [] = refl
spans_length p (u ∷ us) = go (spans_length (p + length u) us) (is_token u)
  where
    go : length (token_spans (p + length u) us) ≡ length (only_tokens us) → (b : Bool)
        → length (if b then record { start = p; end = p + length u }
        ∷ token_spans (p + length u) us else token_spans (p + length u) us)
        ≡ length (if b then u ∷ only_tokens us else only_tokens us)
    go h true = ap suc h
    go h false = h

-- a token comes after the units before it
span_at : (p : ℕ) (before : List (List ℕ)) (t : List ℕ) (after : List (List ℕ)) → is_token t ≡ true
    → (s : Span) × (rest : List Span) × (token_spans p (before ++ (t ∷ after))
    ≡ token_spans p before ++ (s ∷ rest)) × (s.start ≡ p + sum_by length before)
unfolding token_spans
span_at p [] t after h = (
  record { start = p; end = p + length t },
  token_spans (p + length t) after,
  ap (λ b. if b then record { start = p; end = p + length t }
      ∷ token_spans (p + length t) after else token_spans (p + length t) after) h,
  omega arith,
)
span_at p (u ∷ us) t after h =
    let r = span_at (p + length u) us t after h in (
      r.0,
      r.1,
      go (is_token u) r.0 r.1 r.2,
      (let i = r.3 in let j = sum_by-cons length u us in omega (arith, i, j)),
    )
  where
    go : (b : Bool) (s : Span) (rest : List Span) → token_spans (p + length u) (us ++ (t ∷ after))
        ≡ token_spans (p + length u) us ++ (s ∷ rest)
        → (if b then record { start = p; end = p + length u } ∷ token_spans (p + length u)
        (us ++ (t ∷ after)) else token_spans (p + length u) (us ++ (t ∷ after)))
        ≡ (if b then record { start = p; end = p + length u }
        ∷ token_spans (p + length u) us else token_spans (p + length u) us) ++ (s ∷ rest)
    go true s rest e = ap (λ z. record { start = p; end = p + length u } ∷ z) e
    go false s rest e = e

-- A lexeme with its kind checked.
abbrev Checked : Type 0
Checked = (l : Lexeme) × (l.kind ≡ kind_of l.text.now)

abbrev checked : (ls : List Lexeme) → AllByRecursion (λ l. l.kind ≡ kind_of l.text.now) ls
    → List Checked
checked [] k = []
checked (l ∷ ls) k = (l, k.0) ∷ checked ls k.1

checked_back : (ls : List Lexeme) (k : AllByRecursion (λ l. l.kind ≡ kind_of l.text.now) ls)
    → each (λ (c : Checked). c.0) (checked ls k) ≡ ls
checked_back [] k = refl
checked_back (l ∷ ls) k = ap (λ z. l ∷ z) (checked_back ls k.1)

abbrev text_of : Checked → List ℕ
text_of c = c.0.text.now

abbrev place_of : Checked → Span
place_of c = c.0.span

abbrev kind_at : Checked → Kind
kind_at c = c.0.kind

abbrev as_placed : Checked → Placed
as_placed c = record { text = c.0.text.now; span = c.0.span }

-- What the answer on the lexemes says about the text.
abbrev pub Outcome : List ℕ → Answer Lexeme → Type 0
Outcome text (done f []) = (p : Policies) → erase p ≡ lexeme_nodes f → IsTreeOf text p
Outcome text (done f (l ∷ r)) = IsRefused text l.span.start false
Outcome text (stuck b []) = IsRefused text (length text) false
Outcome text (stuck b (l ∷ r)) = IsRefused text l.span.start b

-- Lexemes that are the tokens of these units, which start at the byte from.
module _ (from : ℕ) (units : List (List ℕ)) (ls : List Lexeme)
    (kinds : AllByRecursion (λ l. l.kind ≡ kind_of l.text.now) ls)
    (texts : map (λ l. l.text.now) ls ≡ only_tokens units)
    (places : map (λ l. l.span) ls ≡ token_spans from units) where
  abbrev cs_of : List Checked
  cs_of = checked ls kinds

  texts_of : each text_of cs_of ≡ only_tokens units
  texts_of = sym (each_each (λ (l : Lexeme). l.text.now) (λ (c : Checked). c.0) cs_of)
      ∙ ap (each (λ (l : Lexeme). l.text.now)) (checked_back ls kinds)
      ∙ each_map (λ (l : Lexeme). l.text.now) ls ∙ texts

  places_of : each place_of cs_of ≡ token_spans from units
  places_of = sym (each_each (λ (l : Lexeme). l.span) (λ (c : Checked). c.0) cs_of)
      ∙ ap (each (λ (l : Lexeme). l.span)) (checked_back ls kinds)
      ∙ each_map (λ (l : Lexeme). l.span) ls ∙ places

  both_lists : (xs : List Checked)
      → with_places (each text_of xs) (each place_of xs) ≡ each as_placed xs
  both_lists [] = refl
  both_lists (x ∷ xs) = ap (λ z. as_placed x ∷ z) (both_lists xs)

  placed_of : each as_placed cs_of ≡ with_places (only_tokens units) (token_spans from units)
  placed_of = sym (both_lists cs_of) ∙ ap (λ z. with_places z (each place_of cs_of)) texts_of
      ∙ ap (with_places (only_tokens units)) places_of

  checked_tree : (d : ℕ) (f : Forest Label Checked) → set_to kind_at d cs_of ≡ done f []
      → G kind_of_placed d (relabel as_placed f)
      (with_places (only_tokens units) (token_spans from units))
      × (lexeme_nodes (relabel (λ (c : Checked). c.0) f) ≡ spanned (λ (t : Placed). t.text)
      (λ (t : Placed). t.span) (without_trailing kind_of_placed (relabel as_placed f)))
  checked_tree d f e =
      let k = set_sound kind_at d cs_of f [] e in
      let g : G kind_at d f cs_of =
      record { shape = k.among; leaves = sym (k.tokens ∙ append-nil (yield f)) } in
      let left : lexeme_nodes (relabel (λ (c : Checked). c.0) f)
      ≡ spanned text_of place_of (without_trailing kind_at f) =
      ap (spanned (λ (l : Lexeme). l.text.now) (λ (l : Lexeme). l.span))
      (without_relabel (λ (c : Checked). c.0) kind_at (λ l. l.kind) (λ c. refl) f)
      ∙ spanned_relabel (λ (c : Checked). c.0) (λ (l : Lexeme). l.text.now) (λ (l : Lexeme). l.span)
      (without_trailing kind_at f) in
      let right : spanned (λ (t : Placed). t.text) (λ (t : Placed). t.span)
      (without_trailing kind_of_placed (relabel as_placed f))
      ≡ spanned text_of place_of (without_trailing kind_at f) =
      ap (spanned (λ (t : Placed). t.text) (λ (t : Placed). t.span))
      (without_relabel as_placed kind_at kind_of_placed (λ c. sym c.1) f)
      ∙ spanned_relabel as_placed (λ (t : Placed). t.text) (λ (t : Placed). t.span)
      (without_trailing kind_at f) in (
        subst (λ z. G kind_of_placed d (relabel as_placed f) z) placed_of
            (relabelled as_placed kind_at kind_of_placed (λ c. sym c.1) d f cs_of g),
        left ∙ sym right,
      )

  -- a tree of the lexemes is one of the tokens with their places
  pub placed_tree : (d : ℕ) (f : Forest Label Lexeme) → set_to (λ l. l.kind) d ls ≡ done f []
      → (tree : Forest Label Placed) × G kind_of_placed d tree (with_places (only_tokens units)
      (token_spans from units)) × (lexeme_nodes f ≡ spanned (λ (t : Placed). t.text)
      (λ (t : Placed). t.span) (without_trailing kind_of_placed tree))
  placed_tree d f e = go (set_to kind_at d cs_of) refl
    where
      back : set_to (λ l. l.kind) d ls ≡ answer_of (λ (c : Checked). c.0) (set_to kind_at d cs_of)
      back = ap (set_to (λ l. l.kind) d) (sym (checked_back ls kinds))
          ∙ set_agrees (λ (c : Checked). c.0) kind_at (λ l. l.kind) (λ c. refl) d cs_of

      go : (x : Answer Checked) → set_to kind_at d cs_of ≡ x
          → (tree : Forest Label Placed) × G kind_of_placed d tree (with_places (only_tokens units)
          (token_spans from units)) × (lexeme_nodes f ≡ spanned (λ (t : Placed). t.text)
          (λ (t : Placed). t.span) (without_trailing kind_of_placed tree))
      go (stuck b r) i =
          let w : done f [] ≡ stuck b (each (λ (c : Checked). c.0) r) =
          sym e ∙ back ∙ ap (answer_of (λ (c : Checked). c.0)) i in absurd cc
      go (done g (c ∷ r)) i =
          let w : done f []
          ≡ done (relabel (λ (c : Checked). c.0) g) (each (λ (c : Checked). c.0) (c ∷ r)) =
          sym e ∙ back ∙ ap (answer_of (λ (c : Checked). c.0)) i in absurd cc
      go (done g []) i =
          let w : done f [] ≡ done (relabel (λ (c : Checked). c.0) g) [] =
          sym e ∙ back ∙ ap (answer_of (λ (c : Checked). c.0)) i in
          let same : f ≡ relabel (λ (c : Checked). c.0) g = cc in
          let t = checked_tree d g i in
          (relabel as_placed g, t.0, ap lexeme_nodes same ∙ t.1)

module _ (text : List ℕ) (ls : List Lexeme) (are : AreLexemes text ls) (d : ℕ)
    (deep : d ≡ greatest_depth) where
  abbrev cs : List Checked
  cs = checked ls are.kinds

  cs_texts : each text_of cs ≡ only_tokens are.units
  cs_texts = texts_of 0 are.units ls are.kinds are.texts are.places

  cs_places : each place_of cs ≡ token_spans 0 are.units
  cs_places = places_of 0 are.units ls are.kinds are.texts are.places

  refused_at : (before : List Checked) (c : Checked) (r : List Checked) (b : Bool)
      → cs ≡ before ++ (c ∷ r)
      → (front : List (List ℕ))
      → Hopeless kind_of d (each text_of cs) front (text_of c) (each text_of r) b
      → IsRefused text (place_of c).start b
  refused_at before c r b e front h =
      let whole : only_tokens are.units ≡ front ++ (text_of c ∷ each text_of r) =
      sym cs_texts ∙ h.split in
      let cut = unit_cut are.units front (text_of c) (each text_of r) whole in
      let spans = span_at 0 cut.before (text_of c) cut.after cut.is_one in
      let left : each place_of before ++ (place_of c ∷ each place_of r)
      ≡ token_spans 0 cut.before ++ (spans.0 ∷ spans.1) =
      sym (ap (each place_of) e ∙ each_append place_of before (c ∷ r)) ∙ cs_places
      ∙ ap (token_spans 0) cut.whole ∙ spans.2 in
      let counts : length front ≡ length before =
      (let i = ap length h.split ∙ length-append front (text_of c ∷ each text_of r) in
      let j = ap length e ∙ length-append before (c ∷ r) in
      let k = each_length text_of cs in
      let m = each_length text_of r in
      omega (arith, i, j, k, m)) in
      let same : length (each place_of before) ≡ length (token_spans 0 cut.before) =
      each_length place_of before ∙ sym counts ∙ ap length (sym cut.front_is)
      ∙ sym (spans_length 0 cut.before) in
      let head : place_of c ≡ spans.0 = same_head (each place_of before) (token_spans 0 cut.before)
      (place_of c) spans.0 (each place_of r) spans.1 left same in
      inl (record {
        before = cut.before;
        token = text_of c;
        after = cut.after;
        split = subst (λ z. SplitsInto text z) cut.whole are.split;
        fitting = sym (ap (list_any is_too_large) cut.whole) ∙ are.fitting;
        place = ap (λ (s : Span). s.start) head ∙ spans.3 ∙ omega arith;
        is_one = cut.is_one;
        hopeless = subst (λ z. Hopeless kind_of greatest_depth (only_tokens z)
            (only_tokens cut.before) (text_of c) (only_tokens cut.after) b) cut.whole
            (subst (λ z. Hopeless kind_of z (only_tokens are.units) (only_tokens cut.before)
            (text_of c) (only_tokens cut.after) b) deep
            (subst (λ z. Hopeless kind_of d (only_tokens are.units) (only_tokens cut.before)
            (text_of c) z b) (sym cut.rest_is)
            (subst (λ z. Hopeless kind_of d (only_tokens are.units) z (text_of c)
            (each text_of r) b) (sym cut.front_is)
            (subst (λ z. Hopeless kind_of d z front (text_of c) (each text_of r) b) cs_texts h))));
      })

  whole_tree : (f : Forest Label Checked) → set_to kind_at d cs ≡ done f [] → (p : Policies)
      → erase p ≡ lexeme_nodes (relabel (λ (c : Checked). c.0) f) → IsTreeOf text p
  whole_tree f e p same =
      let t = checked_tree 0 are.units ls are.kinds are.texts are.places d f e in
      record {
        units = are.units;
        split = are.split;
        fitting = are.fitting;
        tree = relabel as_placed f;
        grammar = tree_by_texts are.units (relabel as_placed f)
            (subst (λ z. G kind_of_placed z (relabel as_placed f) (placed are.units)) deep t.0);
        nodes = same ∙ (t.1 ∙ ap (spanned (λ (t : Placed). t.text) (λ (t : Placed). t.span))
            (sym (plain_same (λ (t : Placed). t.text) (relabel as_placed f))));
      }

  answered : (x : Answer Checked) → set_to kind_at d cs ≡ x
      → Says kind_of d (each text_of cs) (answer_of text_of x)
      → Outcome text (answer_of (λ (c : Checked). c.0) x)
  answered (done f []) e s = whole_tree f e
  answered (done f (c ∷ r)) e s =
      refused_at (yield f) c r false (set_sound kind_at d cs f (c ∷ r) e).tokens s.0 s.1
  answered (stuck b []) e s = inr (
    record {
      units = are.units;
      split = are.split;
      fitting = are.fitting;
      unfinished = subst (λ z. Unfinished kind_of z (only_tokens are.units)) deep
          (subst (λ z. Unfinished kind_of d z) cs_texts s);
    },
    refl,
    refl,
  )
  answered (stuck b (c ∷ r)) e s =
      let k = (set_local kind_at d).failure cs b (c ∷ r) e in
      refused_at k.front c r b k.tokens s.0 s.1

  outcome : (x : Answer Lexeme) → set_to (λ l. l.kind) d ls ≡ x → Outcome text x
  outcome x e =
      let y = set_to kind_at d cs in
      let back : set_to (λ l. l.kind) d ls ≡ answer_of (λ (c : Checked). c.0) y =
      ap (set_to (λ l. l.kind) d) (sym (checked_back ls are.kinds))
      ∙ set_agrees (λ (c : Checked). c.0) kind_at (λ l. l.kind) (λ c. refl) d cs in
      subst (Outcome text) (sym back ∙ e)
      (answered y refl (says_of text_of kind_at kind_of (λ c. sym c.1) samples d cs y refl))

-- The reader's answer on the lexemes of a text holds for the text.
pub parsed : (text : List ℕ) (ls : List Lexeme) → AreLexemes text ls → (x : Answer Lexeme)
    → set_to (λ l. l.kind) greatest_depth ls ≡ x → Outcome text x
parsed text ls are x e = outcome text ls are greatest_depth refl x e
