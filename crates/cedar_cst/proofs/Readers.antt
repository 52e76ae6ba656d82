-- What a reader of policies has read, and what the next part of the text adds.
use Rattle.std.proofs.Common.{◌≡◌, ◌≤◌, ◌<◌, ◌+◌, ◌-◌, ◌||◌, ℕ, Bool, true, false, get_or, Some, List, [], ◌∷◌, ◌++◌, length, take, drop, refl, ap, sym, ◌∙◌, subst, arith, inl, inr, append-nil}
use Rattle.std.specs.Prelude.{Option, Result, Ok, Err, MatchResult, slice_range}
use Rattle.std.specs.List.{list_any}
use Rattle.std.specs.Str.{IsCharBoundary}
use Rattle.std.proofs.lemmas.List.{length-take-le, length-drop}
use Rattle.std.proofs.lemmas.List.Folds.{list_any-append}
use Rattle.std.proofs.lemmas.Str.{IsCharBoundary-from_rest}
use Rattle.cedar_tokens.specs.Split.{SplitsInto}
use Rattle.cedar_tokens.proofs.Scanning.{fault_prevents, split_unique}
use Rattle.cedar_grammar.specs.Numbers.{is_too_large}
use Rattle.cedar_grammar.specs.Texts.{Accepted, LeavesGrammar}
use Rattle.cedar_grammar.proofs.Leaving.{leaves_grammar, is_refused}
use Rattle.cedar_grammar.proofs.Texts.Cuts.{fit_part}
use Rattle.cedar_grammar.specs.declared.error.FormatError.{FormatError}
use Rattle.cedar_grammar.specs.declared.error.FormatError.TheVariants.{UnknownCharacter, UnfinishedString, NumberTooLarge, Grammar, TooDeep, NoDocument, Unsound, OutOfMemory}
use Rattle.cedar_grammar.specs.declared.tree.Node.{Node}
use Rattle.cedar_grammar.specs.declared.tree.Policy.{Policy}
use Rattle.cedar_grammar.specs.Refusals.{OutOfMemoryOr, Refuses, RefusesTokens}
use Rattle.cedar_reading.specs.Tokens.{HasTokens}
use Rattle.cedar_reading.specs.Pieces.{IsPiece, HasNoPiece, IsFirstPiece}
use Rattle.cedar_reading.proofs.Accepted.{accepted_join, accepted_empty}
use Rattle.cedar_reading.proofs.Scans.{piece_more}
use Rattle.cedar_reading.proofs.Prefixes.{through, piece_positive, piece_inside, piece_before, piece_within, units_of, through_after}
use Rattle.cedar_reading.proofs.Lists.{piece_splits, units_follow}
use Rattle.cedar_reading.proofs.PieceRefusals.{parts_fit, rest_is_empty, piece_refused, rest_refused}
use Rattle.cedar_cst.specs.Inside.Parts.{HasPoliciesFrom, RefusesFrom, IsNext, IsPolicyFrom}
use Rattle.cedar_cst.specs.PolicyReaders.{Position, EndsPiece, HasPolicies, HasRead, HasEnded, GoesOn, IsAfterPolicies}
use Rattle.cedar_cst.proofs.PartLaws.{parts_join, from_start, to_start, none_from, no_units, part_accepted, has_one, has_some}

-- ---- two parts of a text

-- what is read lies inside the text
pub ends_inside : (text : List ℕ) (at : ℕ) → EndsPiece text at → at ≤ length text
ends_inside text at (inl e) = omega (arith, e)
ends_inside text at (inr p) = piece_inside text at p

-- the units of what is read, and of the rest
splits_join : (text : List ℕ) (at : ℕ) (us vs : List (List ℕ)) → EndsPiece text at
    → SplitsInto (take at text) us → SplitsInto (drop at text) vs → SplitsInto text (us ++ vs)
splits_join text at us vs (inl e) a b =
    let none : us ≡ [] = no_units us (subst (λ k. SplitsInto (take k text) us) e a) in
    subst (λ z. SplitsInto text (z ++ vs)) (sym none) (subst (λ k. SplitsInto (drop k text) vs) e b)
splits_join text at us vs (inr p) a b =
    let same : us ≡ units_of p =
    split_unique (take at text) us (units_of p) a (piece_splits text at p) in
    subst (λ z. SplitsInto text (z ++ vs)) (sym same) (units_follow text at vs p b)

reads_join : (text : List ℕ) (at : ℕ) (ps qs : List (Node Policy)) → EndsPiece text at
    → HasPoliciesFrom 0 (take at text) ps → HasPoliciesFrom at (drop at text) qs
    → HasPoliciesFrom 0 text (ps ++ qs)
reads_join text at ps qs e a b =
    let place : at ≡ 0 + length (take at text) =
    omega (arith, length-take-le at text (ends_inside text at e)) in
    let back : HasPoliciesFrom (0 + length (take at text)) (drop at text) qs =
    subst (λ k. HasPoliciesFrom k (drop at text) qs) place b in
    parts_join 0 (take at text) (drop at text) text ps qs a back
    (splits_join text at a.units back.units e a.split back.split)

accepted_both : (text : List ℕ) (at : ℕ) → EndsPiece text at → Accepted (take at text)
    → Accepted (drop at text) → Accepted text
accepted_both text at (inl e) a b = subst (λ k. Accepted (drop k text)) e b
accepted_both text at (inr p) a b = accepted_join text at p a b

-- ---- one more piece

pub ends_more : (text : List ℕ) (at n : ℕ) → EndsPiece text at → IsPiece (drop at text) n
    → EndsPiece text (at + n)
ends_more text at n (inl e) q =
    inr (subst (λ k. IsPiece text k) (omega (arith, e)) (subst (λ k. IsPiece (drop k text) n) e q))
ends_more text at n (inr p) q = inr (piece_more text at n p q)

-- what is read is at the start of the text that ends with the next piece
pub ends_within : (text : List ℕ) (at n : ℕ) → EndsPiece text at → IsPiece (drop at text) n
    → EndsPiece (through text at n) at × (take at (through text at n) ≡ take at text)
ends_within text at n (inl e) q =
    (inl e, subst (λ k. take k (through text k n) ≡ take k text) (sym e) refl)
ends_within text at n (inr p) q = (inr (piece_within text at n p q), piece_before text at n p q)

accepted_more : (text : List ℕ) (at n : ℕ) → EndsPiece text at → IsPiece (drop at text) n
    → Accepted (take at text) → Accepted (take n (drop at text)) → Accepted (take (at + n) text)
accepted_more text at n e q a b =
    let w = ends_within text at n e q in
    accepted_both (through text at n) at w.0 (subst Accepted (sym w.1) a)
    (subst Accepted (sym (through_after text at n)) b)

reads_more : (text : List ℕ) (at n : ℕ) (ps qs : List (Node Policy)) → EndsPiece text at
    → IsPiece (drop at text) n → HasPoliciesFrom 0 (take at text) ps
    → HasPoliciesFrom at (take n (drop at text)) qs
    → HasPoliciesFrom 0 (take (at + n) text) (ps ++ qs)
reads_more text at n ps qs e q a b =
    let w = ends_within text at n e q in
    reads_join (through text at n) at ps qs w.0 (subst (λ x. HasPoliciesFrom 0 x ps) (sym w.1) a)
    (subst (λ x. HasPoliciesFrom at x qs) (sym (through_after text at n)) b)

-- ---- readers

-- nothing is read yet
pub reader_begins : (text : List ℕ) → IsCharBoundary text 0 → IsAfterPolicies text 0
reader_begins text b = record {
  inside = omega arith;
  boundary = b;
  ends = inl refl;
  accepted = accepted_empty [] [] refl refl refl;
}

pub read_none : (text : List ℕ) → HasRead (record { text = text; at = 0 }) text []
read_none text = record {
  of_text = refl;
  ends = inl refl;
  read = from_start [] [] (none_from 0 [] [] refl refl refl);
}

-- the next piece lies inside the text
pub next_inside : (text : List ℕ) (at : ℕ) (piece : List ℕ) → at ≤ length text
    → IsNext (record { text = text; at = at }) piece → at + length piece ≤ length text
next_inside text at piece b x =
    omega (arith, piece_inside (drop at text) (length piece) x.first.piece, length-drop at text, b)

-- the reader continues with the next piece, which has a policy
pub reader_goes_on : (text : List ℕ) (at by : ℕ) (piece : List ℕ) (q : Node Policy)
    → IsAfterPolicies text at → IsNext (record { text = text; at = at }) piece
    → IsPolicyFrom by piece q → IsAfterPolicies text (at + length piece)
reader_goes_on text at by piece q b x (p, h, e) = record {
  inside = next_inside text at piece b.inside x;
  boundary = x.boundary;
  ends = ends_more text at (length piece) b.ends x.first.piece;
  accepted = accepted_more text at (length piece) b.ends x.first.piece b.accepted
      (subst Accepted x.bytes (part_accepted by piece p.policies.items h));
}

-- what a reader has read of its text
ends_of : (text : List ℕ) (at : ℕ) (ps : List (Node Policy)) (all : List ℕ)
    → HasRead (record { text = text; at = at }) all ps → EndsPiece text at
ends_of text at ps all r = subst (λ x. EndsPiece x at) (sym r.of_text) r.ends

reads_of : (text : List ℕ) (at : ℕ) (ps : List (Node Policy)) (all : List ℕ)
    → HasRead (record { text = text; at = at }) all ps → HasPoliciesFrom 0 (take at text) ps
reads_of text at ps all r =
    to_start (take at text) ps (subst (λ x. HasPolicies (take at x) ps) (sym r.of_text) r.read)

pub read_more : (text : List ℕ) (at : ℕ) (piece : List ℕ) (ps : List (Node Policy))
    (q : Node Policy) (all : List ℕ) → HasRead (record { text = text; at = at }) all ps
    → IsNext (record { text = text; at = at }) piece → IsPolicyFrom at piece q
    → HasRead (record { text = text; at = at + length piece }) all (ps ++ q ∷ [])
read_more text at piece ps q all r x (p, h, e) =
    let n = length piece in
    let all_read : HasPoliciesFrom 0 (take (at + n) text) (ps ++ p.policies.items) =
    reads_more text at n ps p.policies.items (ends_of text at ps all r) x.first.piece
    (reads_of text at ps all r) (subst (λ z. HasPoliciesFrom at z p.policies.items) x.bytes h) in
    record {
      of_text = r.of_text;
      ends = subst (λ z. EndsPiece z (at + n)) r.of_text
          (ends_more text at n (ends_of text at ps all r) x.first.piece);
      read = subst (λ z. HasPolicies (take (at + n) z) (ps ++ q ∷ [])) r.of_text
          (subst (λ z. HasPolicies (take (at + n) text) (ps ++ z)) e
          (from_start (take (at + n) text) (ps ++ p.policies.items) all_read));
    }

-- if nothing more is read, the policies are those of the text
pub read_all : (text : List ℕ) (at : ℕ) (ps : List (Node Policy)) (all : List ℕ)
    → HasRead (record { text = text; at = at }) all ps → HasEnded (record { text = text; at = at })
    → HasPolicies all ps
read_all text at ps all r x =
    let left = rest_is_empty (drop at text) x.none x.rest in
    let none : HasPoliciesFrom at (drop at text) [] =
    none_from at (drop at text) left.0 left.1 left.2 left.3 in
    subst (λ z. HasPolicies z ps) r.of_text
    (subst (HasPolicies text) (append-nil ps) (from_start text (ps ++ [])
    (reads_join text at ps [] (ends_of text at ps all r) (reads_of text at ps all r) none)))

-- if no piece follows and the rest is accepted, the reader has ended
pub reader_ends : (text : List ℕ) (at by : ℕ) (qs : List (Node Policy)) → IsAfterPolicies text at
    → HasNoPiece (drop at text) → HasPoliciesFrom by (drop at text) qs
    → HasEnded (record { text = text; at = at })
reader_ends text at by qs b n h =
    let rest = part_accepted by (drop at text) qs h in
    record { none = n; rest = rest; accepted = accepted_both text at b.ends b.accepted rest }

-- a reader that has answered no policies has read nothing
pub read_nothing : (reader : Position) (text : List ℕ) → HasRead reader text [] → reader.at ≡ 0
read_nothing reader text r = go r.ends
  where
    go : EndsPiece text reader.at → reader.at ≡ 0
    go (inl e) = e
    go (inr p) = absurd (has_some text reader.at p (to_start (take reader.at text) [] r.read))

-- a reader that continues has less left
pub goes_further : (old new : Position) (piece : List ℕ) → GoesOn old new piece
    → length new.text - new.at < length old.text - old.at
goes_further old new piece g =
    omega (
      arith,
      ap length g.of_text,
      g.further,
      piece_positive (drop old.at old.text) (length piece) g.first.piece,
      piece_inside (drop old.at old.text) (length piece) g.first.piece,
      length-drop old.at old.text,
    )

-- ---- refusals

-- if the part's tokens can be parsed, only the grammar refuses it
only_grammar : (from : ℕ) (part text : List ℕ) (vs : List (List ℕ)) → SplitsInto part vs
    → list_any is_too_large vs ≡ false
    → ((p : ℕ) (deep : Bool) → LeavesGrammar part p deep → LeavesGrammar text (from + p) deep)
    → (e : FormatError) → RefusesFrom from part e → OutOfMemoryOr (Refuses text) e
only_grammar from part text vs s f h (UnknownCharacter p) r =
    absurd (fault_prevents part p r.0 (vs, s))
only_grammar from part text vs s f h (UnfinishedString p) r =
    absurd (fault_prevents part p r.0 (vs, s))
only_grammar from part text vs s f h (NumberTooLarge p) r =
    absurd (fit_part r.before r.number r.after (ap (list_any is_too_large)
    (split_unique part (r.before ++ (r.number ∷ r.after)) vs r.split s) ∙ f) r.large)
only_grammar from part text vs s f h (Grammar p) (q, e, r) =
    subst (λ k. LeavesGrammar text k false) (sym e) (h q false r)
only_grammar from part text vs s f h (TooDeep p) (q, e, r) =
    subst (λ k. LeavesGrammar text k true) (sym e) (h q true r)
only_grammar from part text vs s f h NoDocument r = absurd r
only_grammar from part text vs s f h Unsound r = absurd r
only_grammar from part text vs s f h OutOfMemory r = tt

-- units whose numbers fit
abbrev Fitting : List ℕ → Type 0
Fitting text = (vs : List (List ℕ)) × SplitsInto text vs × (list_any is_too_large vs ≡ false)

-- where the tokens of the rest can be parsed, those of the text can
pub tokens_join : (text : List ℕ) (at : ℕ) → IsAfterPolicies text at → HasTokens (drop at text)
    → HasTokens text
tokens_join text at b h =
    let a = b.accepted.1 in
    record {
      units = a.units ++ h.units;
      split = splits_join text at a.units h.units b.ends a.split h.split;
      fitting = list_any-append is_too_large a.units h.units
          ∙ (ap (λ z. z || list_any is_too_large h.units) a.fitting ∙ h.fitting);
    }

-- where a text's tokens are refused, the text is
pub tokens_refuse : (text : List ℕ) (e : FormatError) → RefusesTokens text e
    → OutOfMemoryOr (Refuses text) e
tokens_refuse text (UnknownCharacter p) r = r
tokens_refuse text (UnfinishedString p) r = r
tokens_refuse text (NumberTooLarge p) r = r
tokens_refuse text (Grammar p) r = absurd r
tokens_refuse text (TooDeep p) r = absurd r
tokens_refuse text NoDocument r = r
tokens_refuse text Unsound r = r
tokens_refuse text OutOfMemory r = tt

module _ (text : List ℕ) (at : ℕ) (b : IsAfterPolicies text at) (t : HasTokens text) where
  rest_fits : EndsPiece text at → Fitting (drop at text)
  rest_fits (inl e) = subst (λ k. Fitting (drop k text)) (sym e) (t.units, t.split, t.fitting)
  rest_fits (inr p) = (parts_fit text at t.units p t.split t.fitting).1

  rest_moves : EndsPiece text at → (p : ℕ) (deep : Bool) → LeavesGrammar (drop at text) p deep
      → LeavesGrammar text (at + p) deep
  rest_moves (inl e) p deep r =
      let z : LeavesGrammar text p deep = subst (λ k. LeavesGrammar (drop k text) p deep) e r in
      let same : p ≡ at + p = omega (arith, e) in
      subst (λ k. LeavesGrammar text k deep) same z
  rest_moves (inr q) p deep r =
      leaves_grammar text (at + p) deep (rest_refused text at p deep t.units q t.split t.fitting
      b.accepted (is_refused (drop at text) p deep r))

  -- the tokens of the rest can be parsed
  pub rest_tokens : HasTokens (drop at text)
  rest_tokens = let f = rest_fits b.ends in record { units = f.0; split = f.1; fitting = f.2 }

  -- a refusal of the rest is a refusal of the text
  pub rest_refuses : (e : FormatError) → RefusesFrom at (drop at text) e
      → OutOfMemoryOr (Refuses text) e
  rest_refuses e r =
      let f = rest_fits b.ends in
      only_grammar at (drop at text) text f.0 f.1 f.2 (rest_moves b.ends) e r

  -- a refusal of the next piece is a refusal of the text
  pub piece_refuses : (n : ℕ) → IsPiece (drop at text) n → (e : FormatError)
      → RefusesFrom at (take n (drop at text)) e → OutOfMemoryOr (Refuses text) e
  piece_refuses n q e r =
      let f = rest_fits b.ends in
      let g = (parts_fit (drop at text) n f.0 q f.1 f.2).0 in
      only_grammar at (take n (drop at text)) text g.0 g.1 g.2 (λ p deep h. rest_moves b.ends p deep
      (leaves_grammar (drop at text) p deep (piece_refused (drop at text) n p deep f.0 q f.1 f.2
      (is_refused (take n (drop at text)) p deep h)))) e r

-- what a check of the whole text says of the rest
pub rest_checked : {A : Type 0} (text : List ℕ) (at : ℕ) → IsAfterPolicies text at
    → (r : Result A FormatError) → MatchResult r (λ _. HasTokens text) (RefusesTokens text)
    → MatchResult r (λ _. HasTokens (drop at text)) (RefusesTokens text)
rest_checked text at b (Ok x) h = rest_tokens text at b h
rest_checked text at b (Err e) h = h

-- ---- the policy of a piece

only_item : {X : Type 0} → (len : ℕ) (items : List X) (q : X) (o : Option X) → items ≡ q ∷ []
    → len ≡ length items → ((d : X) → 0 < len → o ≡ Some (get_or items (len - 1) d)) → o ≡ Some q
only_item len items q o e l v =
    let one : len ≡ 1 = l ∙ ap length e in
    v q (omega (arith, one))
    ∙ (ap (λ z. Some (get_or z (len - 1) q)) e ∙ ap (λ k. Some (get_or (q ∷ []) (k - 1) q)) one)

-- the first bytes of a slice
pub front : (text : List ℕ) (n : ℕ) → slice_range text 0 n ≡ take n text
front text n = let e : n - 0 ≡ n = omega arith in rw e refl

-- the last of a first piece's policies is its only one
pub only_policy : (part : List ℕ) (by : ℕ) (len : ℕ) (items : List (Node Policy))
    (o : Option (Node Policy)) (rest : List ℕ) (n : ℕ) → part ≡ take n rest → IsFirstPiece rest n
    → HasPoliciesFrom by part items → len ≡ length items
    → ((d : Node Policy) → 0 < len → o ≡ Some (get_or items (len - 1) d))
    → (q : Node Policy) × (o ≡ Some q) × (items ≡ q ∷ [])
only_policy part by len items o rest n e p h l v =
    let one =
    has_one by rest n items p.piece p.first (subst (λ z. HasPoliciesFrom by z items) e h) in
    (one.0, only_item len items one.0 o one.1 l v, one.1)

-- the next piece of a reader's text
pub next_piece : (text : List ℕ) (at n : ℕ) (rest piece : List ℕ) → at ≤ length text
    → rest ≡ drop at text → piece ≡ take n rest → IsFirstPiece rest n → IsCharBoundary rest n
    → IsNext (record { text = text; at = at }) piece
next_piece text at n rest piece inside r t p b =
    let first : IsFirstPiece (drop at text) n = subst (λ z. IsFirstPiece z n) r p in
    let bytes : piece ≡ take n (drop at text) = t ∙ ap (take n) r in
    let long : length piece ≡ n =
    ap length bytes ∙ length-take-le n (drop at text) (piece_inside (drop at text) n first.piece) in
    record {
      first = subst (λ k. IsFirstPiece (drop at text) k) (sym long) first;
      bytes = bytes ∙ ap (λ k. take k (drop at text)) (sym long);
      boundary = subst (λ k. IsCharBoundary text (at + k)) (sym long)
          (IsCharBoundary-from_rest text at n inside (subst (λ z. IsCharBoundary z n) r b));
    }
