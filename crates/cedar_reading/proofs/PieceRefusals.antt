-- Refusals of a text and of its pieces:
-- where the text splits and its numbers fit, they are the same.
use Rattle.std.specs.Prelude.{◌≡◌, ℕ, ◌+◌, Bool, true, false, ◌||◌, ◌&&◌, not, IsTrue, List, [], ◌∷◌, ◌++◌, length, take, drop, codes, ◌==◌, if◌then◌else◌}
use Rattle.std.specs.List.{list_any, sum_by, concat}
use Rattle.std.specs.Str.{bytes_eq}
use Rattle.std.specs.Char.{is_ascii_digit}
use Rattle.std.proofs.Common.{refl, sym, ap, ◌∙◌, inl, inr, arith, append_assoc, append-nil, subst, length-append}
use Rattle.std.proofs.lemmas.List.Elements.{filter-append}
use Rattle.std.proofs.lemmas.List.Folds.{list_any-append}
use Rattle.std.proofs.lemmas.List.Sums.{sum_by-append}
use Rattle.std.proofs.lemmas.Slice.Eq.{bytes_eq-Decides}
use Rattle.std.proofs.lemmas.Bool.{or_from, or_cases, both_ways}
use Rattle.cedar_tokens.specs.Bytes.{quote}
use Rattle.cedar_tokens.specs.Units.{is_token}
use Rattle.cedar_tokens.specs.Split.{SplitsInto}
use Rattle.cedar_tokens.proofs.Scanning.{split_unique}
use Rattle.cedar_tokens.proofs.UnitsSoFar.{scans_concat, concat_length}
use Rattle.cedar_tokens.proofs.Gaps.{split_after}
use Rattle.cedar_tokens.specs.declared.kind.Kind.{Kind}
use Rattle.cedar_tokens.specs.declared.kind.Kind.TheVariants as K
use Rattle.cedar_tokens.specs.Kinds.{is}
use Rattle.cedar_grammar.specs.KindGrammar.{G}
use Rattle.cedar_grammar.specs.Numbers.{is_too_large}
use Rattle.cedar_tokens.specs.TokenKinds.{fixed_tokens, other_kind, kind_among, kind_of}
use Rattle.cedar_grammar.specs.Texts.{greatest_depth, only_tokens, Accepted}
use Rattle.cedar_grammar.specs.Reader.Hopeless.{BeginsByKinds, IsRefused}
use Rattle.cedar_grammar.specs.Trees.{Label, Forest}
use Rattle.cedar_grammar.proofs.Booleans.{and_first as and_left, and_second as and_right, neither_first as or_left, neither_second as or_right}
use Rattle.std.proofs.lemmas.Bool.{not-true as not_true}
use Rattle.cedar_grammar.proofs.Trees.Laws.{deeper}
use Rattle.cedar_grammar.proofs.Texts.Accepted.{kinds_of}
use Rattle.cedar_reading.specs.Pieces.{IsPiece, HasNoPiece, is_semicolon}
use Rattle.cedar_reading.proofs.Prefixes.{units_of}
use Rattle.cedar_reading.proofs.Lists.{piece_units, semicolon_token}
use Rattle.cedar_reading.proofs.Sequences.{list_parts, lists_join, no_semicolon}
use Rattle.cedar_grammar.proofs.Hopeless.{tokens_cut, Through, hopeless_at}

-- Tokens of units.
tokens_join : (us vs : List (List ℕ)) → only_tokens (us ++ vs) ≡ only_tokens us ++ only_tokens vs
tokens_join us vs = filter-append is_token us vs

-- units that aren't tokens have none
pub no_tokens : (us : List (List ℕ)) → list_any is_token us ≡ false → only_tokens us ≡ []
no_tokens [] h = refl
no_tokens (u ∷ us) h = rw (or_left (is_token u) (list_any is_token us) h)
    (no_tokens us (or_right (is_token u) (list_any is_token us) h))

-- a piece's last token is its `;`
pub piece_tokens : (text : List ℕ) (n : ℕ) (p : IsPiece text n)
    → only_tokens (p.before ++ (codes ";" ∷ p.line)) ≡ only_tokens p.before ++ (codes ";" ∷ [])
piece_tokens text n p = tokens_cut p.before (codes ";") p.line semicolon_token
    ∙ ap (λ z. only_tokens p.before ++ (codes ";" ∷ z)) (no_tokens p.line p.rest_of_line.no_token)

-- A token other than `;` has another kind.
abbrev alone : List (List ℕ × Kind) → Bool
alone [] = true
alone (f ∷ fs) = (is_semicolon f.0 || not (is K.SemiColon f.1)) && alone fs

other_differs : (text : List ℕ) → is K.SemiColon (other_kind text) ≡ false
other_differs [] = refl
other_differs (b ∷ bs) = go (b == quote) (is_ascii_digit b)
  where
    go : (c d : Bool)
        → is K.SemiColon (if c then K.Str else (if d then K.Number else K.Identifier)) ≡ false
    go true d = refl
    go false true = refl
    go false false = refl

kind_differs : (fs : List (List ℕ × Kind)) (text : List ℕ) → IsTrue (alone fs)
    → is_semicolon text ≡ false → is K.SemiColon (kind_among fs text) ≡ false
kind_differs [] text a h = other_differs text
kind_differs (f ∷ fs) text a h = go
    (kind_differs fs text (and_right (is_semicolon f.0 || not (is K.SemiColon f.1)) (alone fs) a) h)
    (bytes_eq f.0 text) refl
  where
    go : is K.SemiColon (kind_among fs text) ≡ false → (b : Bool) → bytes_eq f.0 text ≡ b
        → is K.SemiColon (if b then f.1 else kind_among fs text) ≡ false
    go again false e = again
    go again true e = not_true (is K.SemiColon f.1)
        (elim (or_cases (is_semicolon f.0) (not (is K.SemiColon f.1))
        (and_left (is_semicolon f.0 || not (is K.SemiColon f.1)) (alone fs) a)) [
          | inl s ↦ absurd (both_ways (is_semicolon f.0)
              (ap is_semicolon ((bytes_eq-Decides f.0 text).0 e) ∙ h) s)
          | inr o ↦ o
        ])

-- units without a `;` have no token of that kind
pub no_kind : (us : List (List ℕ)) → list_any is_semicolon us ≡ false
    → list_any (λ t. is K.SemiColon (kind_of t)) (only_tokens us) ≡ false
no_kind [] h = refl
no_kind (u ∷ us) h =
    go (kind_differs fixed_tokens u refl (or_left (is_semicolon u) (list_any is_semicolon us) h))
    (no_kind us (or_right (is_semicolon u) (list_any is_semicolon us) h)) (is_token u)
  where
    go : is K.SemiColon (kind_of u) ≡ false
        → list_any (λ t. is K.SemiColon (kind_of t)) (only_tokens us) ≡ false → (b : Bool)
        → list_any (λ t. is K.SemiColon (kind_of t)) (if b then u
        ∷ only_tokens us else only_tokens us) ≡ false
    go x y true = or_from (is K.SemiColon (kind_of u))
        (list_any (λ t. is K.SemiColon (kind_of t)) (only_tokens us)) x y
    go x y false = y

-- Numbers of units.
pub fit_parts : (us vs : List (List ℕ)) → list_any is_too_large (us ++ vs) ≡ false
    → (list_any is_too_large us ≡ false) × (list_any is_too_large vs ≡ false)
fit_parts us vs h =
    let e : (list_any is_too_large us || list_any is_too_large vs) ≡ false =
    sym (list_any-append is_too_large us vs) ∙ h in (
      or_left (list_any is_too_large us) (list_any is_too_large vs) e,
      or_right (list_any is_too_large us) (list_any is_too_large vs) e,
    )

-- the piece and the rest split too, and their numbers fit
pub parts_fit : (text : List ℕ) (n : ℕ) (us : List (List ℕ)) → (p : IsPiece text n)
    → SplitsInto text us → list_any is_too_large us ≡ false
    → ((vs : List (List ℕ)) × SplitsInto (take n text) vs × (list_any is_too_large vs ≡ false))
    × ((vs : List (List ℕ)) × SplitsInto (drop n text) vs × (list_any is_too_large vs ≡ false))
parts_fit text n us p s h =
    let q = piece_units text n us p s in
    let f = fit_parts (units_of p) q.0 (sym (ap (λ z. list_any is_too_large z) q.1) ∙ h) in
    ((units_of p, q.2, f.0), (q.0, q.3, f.1))

-- an accepted text without a `;` has no tokens
pub rest_is_empty : (text : List ℕ) → HasNoPiece text → Accepted text → (us : List (List ℕ))
    × SplitsInto text us × (only_tokens us ≡ []) × (list_any is_too_large us ≡ false)
rest_is_empty text h (tree, a) =
    let r = split_after h.units a.units text h.rest h.scans a.split in (
      a.units,
      a.split,
      no_semicolon kind_of greatest_depth tree (only_tokens a.units) (no_kind a.units
          (ap (λ z. list_any is_semicolon z) (r.1 ∙ same r.0 r.2) ∙ h.none)) (kinds_of a),
      a.fitting,
    )
  where
    same : (ws : List (List ℕ)) → SplitsInto h.rest ws → h.units ++ ws ≡ h.units
    same [] s = append-nil h.units
    same (w ∷ ws) s = absurd (h.stops w s.0.kind s.0.begins)

-- Lists that begin with a whole one, whose last token is a `;`.
module _ (front : List (List ℕ)) where
  abbrev whole : List (List ℕ)
  whole = front ++ (codes ";" ∷ [])

  regroup : (ts : List (List ℕ)) → whole ++ ts ≡ front ++ (codes ";" ∷ ts)
  regroup ts = append_assoc front (codes ";" ∷ []) ts

  parts : (d : ℕ) (tree : Forest Label (List ℕ)) (ts : List (List ℕ))
      → G kind_of d tree (whole ++ ts)
      → ((f : Forest Label (List ℕ)) × G kind_of d f whole) × ((g : Forest Label (List ℕ))
      × G kind_of d g ts)
  parts d tree ts g = list_parts kind_of d tree front (codes ";") ts refl
      (subst (λ z. G kind_of d tree z) (regroup ts) g)

  following : (d : ℕ) (ts : List (List ℕ)) → BeginsByKinds kind_of d (whole ++ ts)
      → BeginsByKinds kind_of d ts
  following d ts b =
      let q = parts d b.tree (ts ++ b.rest)
      (subst (λ z. G kind_of d b.tree z) (append_assoc whole ts b.rest) b.grammar) in
      record { rest = b.rest; tree = q.1.0; grammar = q.1.1 }

  onto : (d : ℕ) (tree : Forest Label (List ℕ)) (ts : List (List ℕ)) → G kind_of d tree whole
      → BeginsByKinds kind_of d ts → BeginsByKinds kind_of d (whole ++ ts)
  onto d tree ts g b =
      let q = lists_join kind_of d tree b.tree whole (ts ++ b.rest) g b.grammar in
      record {
        rest = b.rest;
        tree = q.0;
        grammar = subst (λ z. G kind_of d q.0 z) (sym (append_assoc whole ts b.rest)) q.1;
      }

-- where the whole text splits and its numbers fit,
-- a refusal of its piece is one of the text, at the same place
pub piece_refused : (text : List ℕ) (n at : ℕ) (deep : Bool) (us : List (List ℕ)) → IsPiece text n
    → SplitsInto text us → list_any is_too_large us ≡ false → IsRefused (take n text) at deep
    → IsRefused text at deep
piece_refused text n at deep us p s fit r = go r
  where
    q : (vs : List (List ℕ)) × (us ≡ (p.before ++ (codes ";" ∷ p.line)) ++ vs)
        × SplitsInto (take n text) (p.before ++ (codes ";" ∷ p.line)) × SplitsInto (drop n text) vs
    q = piece_units text n us p s

    go : IsRefused (take n text) at deep → IsRefused text at deep
    go (inl h) =
        let whole : us ≡ h.before ++ (h.token ∷ (h.after ++ q.0)) =
        q.1 ∙ ap (λ z. z ++ q.0)
        (split_unique (take n text) (units_of p) (h.before ++ (h.token ∷ h.after)) q.2 h.split)
        ∙ append_assoc h.before (h.token ∷ h.after) q.0 in
        inl (hopeless_at text h.before h.token (h.after ++ q.0) at deep
        (subst (λ z. SplitsInto text z) whole s)
        (sym (ap (λ z. list_any is_too_large z) whole) ∙ fit) h.place h.is_one
        (h.hopeless.before, h.hopeless.through, h.hopeless.kind_is))
    go (inr (h, e, d)) =
        let same : only_tokens h.units ≡ only_tokens p.before ++ (codes ";" ∷ []) =
        ap only_tokens (split_unique (take n text) h.units (units_of p) h.split q.2)
        ∙ piece_tokens text n p in
        let b = h.unfinished.before in
        let x = parts (only_tokens p.before) greatest_depth b.tree b.rest
        (subst (λ z. G kind_of greatest_depth b.tree (z ++ b.rest)) same b.grammar) in
        absurd (h.unfinished.not_whole x.0.0
        (subst (λ z. G kind_of greatest_depth x.0.0 z) (sym same) x.0.1))

-- after an accepted piece a refusal of the rest is one of the text, its place moved by the piece
pub rest_refused : (text : List ℕ) (n at : ℕ) (deep : Bool) (us : List (List ℕ)) → IsPiece text n
    → SplitsInto text us → list_any is_too_large us ≡ false → Accepted (take n text)
    → IsRefused (drop n text) at deep
    → IsRefused text (n + at) deep
rest_refused text n at deep us p s fit (tree, a) r = go r
  where
    q : (vs : List (List ℕ)) × (us ≡ (p.before ++ (codes ";" ∷ p.line)) ++ vs)
        × SplitsInto (take n text) (p.before ++ (codes ";" ∷ p.line)) × SplitsInto (drop n text) vs
    q = piece_units text n us p s

    front : List (List ℕ)
    front = only_tokens p.before

    accepted : G kind_of greatest_depth tree (front ++ (codes ";" ∷ []))
    accepted = subst (λ z. G kind_of greatest_depth tree z)
        (ap only_tokens (split_unique (take n text) a.units (units_of p) a.split q.2)
        ∙ piece_tokens text n p) (kinds_of a)

    tokens_are : (vs : List (List ℕ))
        → only_tokens (units_of p ++ vs) ≡ (front ++ (codes ";" ∷ [])) ++ only_tokens vs
    tokens_are vs =
        tokens_join (units_of p) vs ∙ ap (λ z. z ++ only_tokens vs) (piece_tokens text n p)

    onto_deeper : (e : ℕ) (ts : List (List ℕ)) → BeginsByKinds kind_of e ts
        → (d : ℕ) × BeginsByKinds kind_of d ((front ++ (codes ";" ∷ [])) ++ ts)
    onto_deeper e ts b = (
      e + greatest_depth,
      onto front (e + greatest_depth) tree ts
          (deeper kind_of e greatest_depth (front ++ (codes ";" ∷ [])) tree accepted) (record {
            rest = b.rest;
            tree = b.tree;
            grammar = subst (λ d. G kind_of d b.tree (ts ++ b.rest)) (omega arith)
                (deeper kind_of greatest_depth e (ts ++ b.rest) b.tree b.grammar);
          }),
    )

    length_is : length text ≡ n + length (drop n text)
    length_is =
        ap length (scans_concat (units_of p) text (drop n text) p.scans)
        ∙ length-append (concat (units_of p)) (drop n text)
        ∙ ap (λ k. k + length (drop n text)) (concat_length (units_of p) ∙ sym p.place)

    through : (hb : List (List ℕ)) (ht : List ℕ) (t : List (List ℕ))
        → t ≡ (front ++ (codes ";" ∷ [])) ++ only_tokens hb → Through (only_tokens hb) ht deep
        → Through t ht deep
    through hb ht t e h =
        let same : t ++ (ht ∷ []) ≡ (front ++ (codes ";" ∷ [])) ++ (only_tokens hb ++ (ht ∷ [])) =
        ap (λ z. z ++ (ht ∷ [])) e
        ∙ append_assoc (front ++ (codes ";" ∷ [])) (only_tokens hb) (ht ∷ []) in (
          subst (λ z. BeginsByKinds kind_of greatest_depth z) (sym e)
              (onto front greatest_depth tree (only_tokens hb) accepted h.0),
          λ b. h.1 (following front greatest_depth (only_tokens hb ++ (ht ∷ []))
              (subst (λ z. BeginsByKinds kind_of greatest_depth z) same b)),
          (
            λ i. let x = h.2.0 i in
                let y = onto_deeper x.0 (only_tokens hb ++ (ht ∷ [])) x.1 in
                (y.0, subst (λ z. BeginsByKinds kind_of y.0 z) (sym same) y.1),
            λ x. h.2.1 (
              x.0,
              following front x.0 (only_tokens hb ++ (ht ∷ []))
                  (subst (λ z. BeginsByKinds kind_of x.0 z) same x.1),
            ),
          ),
        )

    go : IsRefused (drop n text) at deep → IsRefused text (n + at) deep
    go (inl h) =
        let whole : us ≡ (units_of p ++ h.before) ++ (h.token ∷ h.after) =
        q.1 ∙ ap (λ z. units_of p ++ z)
        (split_unique (drop n text) q.0 (h.before ++ (h.token ∷ h.after)) q.3 h.split)
        ∙ sym (append_assoc (units_of p) h.before (h.token ∷ h.after)) in
        let place : n + at ≡ sum_by length (units_of p ++ h.before) =
        ap (λ k. k + at) p.place ∙ ap (λ k. sum_by length (units_of p) + k) h.place
        ∙ sym (sum_by-append length (units_of p) h.before) in
        inl (hopeless_at text (units_of p ++ h.before) h.token h.after (n + at) deep
        (subst (λ z. SplitsInto text z) whole s)
        (sym (ap (λ z. list_any is_too_large z) whole) ∙ fit) place h.is_one
        (through h.before h.token (only_tokens (units_of p ++ h.before)) (tokens_are h.before)
        (h.hopeless.before, h.hopeless.through, h.hopeless.kind_is)))
    go (inr (h, e, d)) =
        let same : only_tokens us ≡ (front ++ (codes ";" ∷ [])) ++ only_tokens h.units =
        ap only_tokens q.1 ∙ tokens_are q.0 ∙ ap (λ z. (front ++ (codes ";" ∷ [])) ++ only_tokens z)
        (split_unique (drop n text) q.0 h.units q.3 h.split) in
        inr (
          record {
            units = us;
            split = s;
            fitting = fit;
            unfinished = record {
              before = subst (λ z. BeginsByKinds kind_of greatest_depth z) (sym same) (onto front
                  greatest_depth tree (only_tokens h.units) accepted h.unfinished.before);
              not_whole = λ f g. let x = parts front greatest_depth f (only_tokens h.units)
                  (subst (λ z. G kind_of greatest_depth f z) same g) in
                  h.unfinished.not_whole x.1.0 x.1.1;
            };
          },
          ap (λ k. n + k) e ∙ sym length_is,
          d,
        )
