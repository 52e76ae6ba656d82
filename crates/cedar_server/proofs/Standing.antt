-- Policies that stand in any text.
use Rattle.std.proofs.Common.{◌≡◌, ◌+◌, ◌-◌, ◌==◌, ℕ, Bool, true, false, List, [], ◌∷◌, ◌++◌, length, take, drop, get_or, inl, inr, refl, ap, sym, subst, ◌∙◌, arith, append_assoc}
use Rattle.std.specs.Prelude.{◌⊎◌, codes}
use Rattle.std.specs.List.{list_any}
use Rattle.std.specs.Str.{IsCharBoundary}
use Rattle.std.specs.Str.Pattern.{FindsTextPrefix, StripsPrefix}
use Rattle.std.proofs.Math.Seq.{drop-append_seam, take-append_seam}
use Rattle.std.proofs.lemmas.List.{drop_all, length-take-le, take_more}
use Rattle.std.proofs.lemmas.List.Folds.{list_any-append}
use Rattle.std.proofs.lemmas.Grind.{get_or_default_zero}
use Rattle.cedar_grammar.proofs.Booleans.{neither_second as or_right}
use Rattle.cedar_tokens.specs.Bytes.{line_feed}
use Rattle.cedar_tokens.specs.Split.{Scans, SplitsInto}
use Rattle.cedar_tokens.proofs.Scanning.{split_unique}
use Rattle.cedar_grammar.specs.Texts.{Accepted}
use Rattle.cedar_laws.proofs.Scanned.{scans_append, scans_before_feed, scans_unit, splits_join}
use Rattle.cedar_laws.proofs.Units.{blank_first, feed_blank}
use Rattle.cedar_reading.specs.Pieces.{IsPiece, EndInFeed, HaveNoFeed, BeginsNoBlank}
use Rattle.cedar_reading.proofs.Prefixes.{piece_alone, piece_inside, piece_positive, units_of}
use Rattle.cedar_cst.proofs.PartLaws.{append_not_nil}
use Rattle.cedar_faults.specs.Faults.{BeginsWithPolicy}
use Rattle.cedar_policy_formatter.proofs.Feeds.{front_splits}
use Rattle.cedar_server.specs.Inside.Standing.{Stands, StandsAt}

-- ---- a policy in front of any text

-- the last item of two lists together is the last of the second, if there is one
suffix : {X : Type 0} (b c v : List X) (f : X) → b ++ c ≡ v ++ (f ∷ []) → (c ≡ [])
    ⊎ ((w : List X) × (c ≡ w ++ (f ∷ [])))
suffix [] c v f e = inr (v, e)
suffix (x ∷ b) [] v f e = inl refl
suffix (x ∷ b) (y ∷ c) [] f e = absurd (append_not_nil b y c (let n : b ++ (y ∷ c) ≡ [] = cc in n))
suffix (x ∷ b) (y ∷ c) (z ∷ v) f e = suffix b (y ∷ c) v f (let n : b ++ (y ∷ c) ≡ v ++ (f ∷ []) = cc in n)

-- the units of a text that ends in a line feed, with anything after it
scans_on : (us : List (List ℕ)) (front r : List ℕ) → SplitsInto (front ++ (line_feed ∷ [])) us
    → Scans us (front ++ (line_feed ∷ r)) r
scans_on us front r s =
    let f = front_splits us front s in
    let same : us ≡ f.0 ++ ((line_feed ∷ []) ∷ []) =
    split_unique (front ++ (line_feed ∷ [])) us (f.0 ++ ((line_feed ∷ []) ∷ [])) s
    (splits_join f.0 [] front [] f.1 refl) in
    subst (λ z. Scans z (front ++ (line_feed ∷ r)) r) (sym same)
    (scans_append f.0 ((line_feed ∷ []) ∷ []) (front ++ (line_feed ∷ r)) (line_feed ∷ r) r
    (scans_before_feed f.0 front r f.1)
    (scans_unit (line_feed ∷ []) [] r r (blank_first (line_feed ∷ []) r feed_blank) refl))

-- its last unit is the line feed
ends_on : (us : List (List ℕ)) (front : List ℕ) → SplitsInto (front ++ (line_feed ∷ [])) us
    → (vs : List (List ℕ)) × (us ≡ vs ++ ((line_feed ∷ []) ∷ []))
ends_on us front s =
    let f = front_splits us front s in (
      f.0,
      split_unique (front ++ (line_feed ∷ [])) us (f.0 ++ ((line_feed ∷ []) ∷ [])) s
          (splits_join f.0 [] front [] f.1 refl),
    )

has_feed : (w : List (List ℕ)) → HaveNoFeed (w ++ ((line_feed ∷ []) ∷ [])) → ⊥
has_feed w h =
    let p : List ℕ → Bool = λ u. list_any (λ b. b == line_feed) u in
    let e : list_any p ((line_feed ∷ []) ∷ []) ≡ false =
    or_right (list_any p w) (list_any p ((line_feed ∷ []) ∷ []))
    (sym (list_any-append p w ((line_feed ∷ []) ∷ [])) ∙ h) in
    let n : true ≡ false = e in
    absurd cc

-- so the rest of the line of its last `;` ends with it
line_ends : (before line vs : List (List ℕ)) (rest : List ℕ)
    → before ++ (codes ";" ∷ line) ≡ vs ++ ((line_feed ∷ []) ∷ [])
    → EndInFeed line ⊎ (HaveNoFeed line × BeginsNoBlank rest) → EndInFeed line
line_ends before line vs rest e (inl f) = f
line_ends before line vs rest e (inr (h, b)) = absurd (go (suffix (before ++ (codes ";" ∷ [])) line vs (line_feed ∷ []) (append_assoc before (codes ";" ∷ []) line ∙ e)))
  where
    semicolon : (w : List (List ℕ)) → codes ";" ∷ [] ≡ w ++ ((line_feed ∷ []) ∷ []) → ⊥
    semicolon [] k = let n : codes ";" ≡ line_feed ∷ [] = cc in absurd (omega (arith, ap (λ z. get_or z 0 0) n))
    semicolon (x ∷ []) k = absurd cc
    semicolon (x ∷ y ∷ w) k = absurd cc

    go : (line ≡ []) ⊎ ((w : List (List ℕ)) × (line ≡ w ++ ((line_feed ∷ []) ∷ []))) → ⊥
    go (inr (w, k)) = has_feed w (subst HaveNoFeed k h)
    go (inl k) = last (suffix before (codes ";" ∷ []) vs (line_feed ∷ []) (subst (λ z. before ++ (codes ";" ∷ z) ≡ vs ++ ((line_feed ∷ []) ∷ [])) k e))
      where
        last : (codes ";" ∷ [] ≡ []) ⊎ ((w : List (List ℕ)) × (codes ";" ∷ [] ≡ w ++ ((line_feed ∷ []) ∷ []))) → ⊥
        last (inl n) = absurd cc
        last (inr (w, n)) = semicolon w n

-- a policy that stands is a piece in front of anything
pub stands_piece : (x r : List ℕ) → Stands x → IsPiece (x ++ r) (length x)
stands_piece x r s =
    let us = units_of s.piece in
    let none : drop (length x) x ≡ [] = drop_all (length x) x (omega arith) in
    let split : SplitsInto (s.front ++ (line_feed ∷ [])) us =
    subst (λ z. SplitsInto z us) s.feed (subst (λ z. Scans us x z) none s.piece.scans) in
    let e = ends_on us s.front split in
    let text : x ++ r ≡ s.front ++ (line_feed ∷ r) =
    ap (λ z. z ++ r) s.feed ∙ append_assoc s.front (line_feed ∷ []) r in
    record {
      before = s.piece.before;
      line = s.piece.line;
      scans = subst (λ z. Scans us (x ++ r) z) (sym (drop-append_seam x r))
          (subst (λ z. Scans us z r) (sym text) (scans_on us s.front r split));
      place = s.piece.place;
      rest_of_line = record {
        no_token = s.piece.rest_of_line.no_token;
        ends = inl (line_ends s.piece.before s.piece.line e.0 (drop (length x) x) e.1 s.piece.rest_of_line.ends);
      };
    }

-- a text that begins with one
pub stands_begins : (x rest left : List ℕ) → Stands x → IsCharBoundary rest (length x)
    → rest ≡ x ++ left → BeginsWithPolicy rest (length x)
stands_begins x rest left s b e =
    let front : take (length x) rest ≡ x = ap (take (length x)) e ∙ take-append_seam x left in
    record {
      boundary = b;
      piece = subst (λ z. IsPiece z (length x)) (sym e) (stands_piece x left s);
      accepted = subst Accepted (sym front) s.accepted;
    }

-- what a text has after one that it begins with
pub strips : (x rest y : List ℕ) → StripsPrefix (FindsTextPrefix x) rest y → Stands x
    → BeginsWithPolicy rest (length x)
strips x rest y (n, (k, e, b), f, g) s =
    stands_begins x rest y s b (e ∙ ap (λ z. x ++ z) (sym f))

-- accepted policies that end with a line feed stand
pub read_stands : (text : List ℕ) (n : ℕ) → IsPiece text n → Accepted (take n text)
    → get_or text (n - 1) 0 ≡ line_feed → Stands (take n text)
read_stands text n p a last =
    let some = piece_positive text n p in
    let inside = piece_inside text n p in
    let long : length (take n text) ≡ n = length-take-le n text inside in
    let size : (n - 1) + 1 ≡ n = omega (arith, some) in
    record {
      front = take (n - 1) text;
      feed = ap (λ k. take k text) (sym size) ∙ take_more text (n - 1) line_feed (omega (arith, some, inside))
          ∙ ap (λ b. take (n - 1) text ++ (b ∷ [])) (get_or_default_zero text (n - 1) line_feed (omega (arith, some, inside)) ∙ last);
      piece = subst (λ k. IsPiece (take n text) k) (sym long) (piece_alone text n p);
      accepted = a;
    }

-- where it stands
pub span_stands : (text rest : List ℕ) (at end n : ℕ) → rest ≡ drop at text → end ≡ at + n
    → Stands (take n rest) → StandsAt text (record { start = at; end = end })
span_stands text rest at end n e h s =
    let k : end - at ≡ n = omega (arith, h) in
    subst Stands (ap (take n) e ∙ ap (λ i. take i (drop at text)) (sym k)) s
