-- Where a part of a text leaves the grammar, the text does.
use Rattle.std.specs.Prelude.{◌≡◌, ◌≢◌, ◌≤◌, ℕ, Bool, true, false, List, [], ◌∷◌, ◌++◌, length, take, drop, codes}
use Rattle.std.specs.List.{concat, list_any, sum_by}
use Rattle.std.proofs.Common.{refl, sym, ap, ◌∙◌, arith, subst, append_assoc, append-nil, length-append}
use Rattle.std.proofs.Math.Seq.{take-append_seam}
use Rattle.std.proofs.lemmas.List.{length-take-le}
use Rattle.std.proofs.lemmas.List.Folds.{list_any-append}
use Rattle.cedar_tokens.specs.Units.{IsToken}
use Rattle.cedar_tokens.specs.Split.{Scans, SplitsInto, IsFirstFault}
use Rattle.cedar_tokens.specs.TokenKinds.{kind_of}
use Rattle.cedar_tokens.proofs.Lists.{All-parts}
use Rattle.cedar_tokens.proofs.Scanning.{fault_prevents, split_unique}
use Rattle.cedar_tokens.proofs.UnitsSoFar.{ends_at, concat_length, scans_concat, units_length}
use Rattle.cedar_grammar.proofs.Booleans.{neither_first as or_left, neither_second as or_right}
use Rattle.cedar_grammar.proofs.Texts.Cuts.{fit_part}
use Rattle.cedar_grammar.proofs.Texts.Grammars.{grammars_agree, texts_are_tokens}
use Rattle.cedar_grammar.specs.Beginnings.{Begins}
use Rattle.cedar_grammar.specs.KindGrammar.{G}
use Rattle.cedar_grammar.specs.Laws.{AreTokens}
use Rattle.cedar_grammar.specs.Numbers.{is_too_large}
use Rattle.cedar_grammar.specs.Texts.{greatest_depth, only_tokens, Accepted, LeavesGrammar, LeaveAfter}
use Rattle.cedar_grammar.specs.declared.error.FormatError.{FormatError}
use Rattle.cedar_grammar.specs.declared.error.FormatError.TheVariants.{UnknownCharacter, UnfinishedString, NumberTooLarge, Grammar, TooDeep, NoDocument, Unsound, OutOfMemory}
use Rattle.cedar_grammar.specs.Refusals.{Refuses}
use Rattle.cedar_laws.proofs.Spaces.{scans_shorter}
use Rattle.cedar_reading.specs.Tokens.{HasTokens}
use Rattle.cedar_reading.specs.Pieces.{IsPiece}
use Rattle.cedar_reading.proofs.Lists.{piece_splits}
use Rattle.cedar_reading.proofs.Prefixes.{units_of}
use Rattle.cedar_reading.proofs.PieceRefusals.{piece_tokens}
use Rattle.cedar_reading.proofs.Sequences.{list_parts}
use Rattle.cedar_faults.specs.Expectations.{IsList}
use Rattle.cedar_faults.specs.Inside.TokenBeginnings.{TokensBegin}
use Rattle.cedar_faults.proofs.Begun.{list_accepted}
use Rattle.cedar_faults.proofs.Probed.{of_units}
use Rattle.cedar_faults.specs.FirstFaults.{IsFirstOf, LeavesAt, Reaches}
use Rattle.cedar_faults.specs.Inside.Beginnings.{RefusesInside, IsTokenFault, Stops}
use Rattle.cedar_faults.specs.declared.beginnings.TokenFault.{TokenFault}

-- Units of the start of a text that end at the byte `n`.
pub record Start (text : List ℕ) (n : ℕ) (us : List (List ℕ)) : Type 0 where
  pub scans : Scans us text (drop n text)
  pub place : n ≡ sum_by length us
  pub fitting : list_any is_too_large us ≡ false

module _ (text : List ℕ) (n : ℕ) (us : List (List ℕ)) (s : Start text n us) where
  text_is : text ≡ concat us ++ drop n text
  text_is = scans_concat us text (drop n text) s.scans

  start_is : take n text ≡ concat us
  start_is = ap (λ k. take k text) (s.place ∙ sym (concat_length us))
      ∙ (ap (take (length (concat us))) text_is ∙ take-append_seam (concat us) (drop n text))

  pub start_splits : SplitsInto (take n text) us
  start_splits = subst (λ z. SplitsInto z us) (append-nil (concat us) ∙ sym start_is)
      (scans_shorter us [] (drop n text) (subst (λ z. Scans us z (drop n text)) text_is s.scans))

  pub start_inside : n ≤ length text
  start_inside = omega (
    arith,
    s.place,
    concat_length us,
    ap length text_is,
    length-append (concat us) (drop n text),
  )

  pub start_tokens : HasTokens (take n text)
  start_tokens = record { units = us; split = start_splits; fitting = s.fitting }

  -- what begins a list reaches its end
  pub reaches : Begins greatest_depth (only_tokens us) → Reaches text n
  reaches b =
      record { before = us; scans = s.scans; place = s.place; fitting = s.fitting; begins = b }

-- units scanned in two steps
pub parts : (xs ys : List (List ℕ)) (text rest : List ℕ) → Scans (xs ++ ys) text rest
    → (middle : List ℕ) × Scans xs text middle × Scans ys middle rest
parts [] ys text rest s = (text, refl, s)
parts (x ∷ xs) ys text rest s =
    let p = parts xs ys (drop (length x) text) rest s.1 in (p.0, (s.0, p.1), p.2)

-- where these units leave the grammar with a unit among them
among : (text rest : List ℕ) (before after : List (List ℕ)) (at : ℕ) (deep : Bool)
    → Scans (before ++ after) text rest → list_any is_too_large (before ++ after) ≡ false
    → at ≡ sum_by length before → Begins greatest_depth (only_tokens before)
    → LeaveAfter (only_tokens before) after deep
    → (after ≡ [] → (rest ≡ []) × LeaveAfter (only_tokens before) [] deep) → LeavesAt text at deep
among text rest before after at deep s fit e b l end =
    let p = parts before after text rest s in
    go p.0 p.1 (here p.0 p.1) after p.2 l (or_right (list_any is_too_large before)
    (list_any is_too_large after) (sym (list_any-append is_too_large before after) ∙ fit)) end
  where
    front_fit : list_any is_too_large before ≡ false
    front_fit = or_left (list_any is_too_large before) (list_any is_too_large after)
        (sym (list_any-append is_too_large before after) ∙ fit)

    here : (middle : List ℕ) → Scans before text middle → middle ≡ drop at text
    here middle k =
        let whole = scans_concat before text middle k in
        (ends_at before text middle at k
        (omega (arith, e, concat_length before, ap length whole, length-append (concat before) middle))).left

    go : (middle : List ℕ) → Scans before text middle → middle ≡ drop at text
        → (after : List (List ℕ)) → Scans after middle rest
        → LeaveAfter (only_tokens before) after deep → list_any is_too_large after ≡ false
        → (after ≡ [] → (rest ≡ []) × LeaveAfter (only_tokens before) [] deep) → LeavesAt text at deep
    go middle k i [] t l f end = record {
      reached = record {
        before = before;
        scans = subst (λ z. Scans before text z) i k;
        place = e;
        fitting = front_fit;
        begins = b;
      };
      next = [];
      is_next = sym i ∙ (t ∙ (end refl).0);
      leaves = (end refl).1;
    }
    go middle k i (u ∷ more) t l f end = record {
      reached = record {
        before = before;
        scans = subst (λ z. Scans before text z) i k;
        place = e;
        fitting = front_fit;
        begins = b;
      };
      next = u ∷ [];
      is_next = (
        rw i at t.0,
        or_left (is_too_large u) (list_any is_too_large more) f,
      );
      leaves = l;
    }

-- a text that leaves the grammar has its first fault there
pub leaves_whole : (text : List ℕ) (at : ℕ) (deep : Bool) → LeavesGrammar text at deep
    → LeavesAt text at deep
leaves_whole text at deep l = among text [] l.before l.after at deep l.split l.fitting l.place l.begins l.leaves
    (λ e. (refl, subst (λ z. LeaveAfter (only_tokens l.before) z deep) e l.leaves))

module _ (text : List ℕ) (n : ℕ) (us : List (List ℕ)) (s : Start text n us) where
  -- so does one whose start leaves it before its end
  pub leaves_start : (at : ℕ) (deep : Bool) → (l : LeavesGrammar (take n text) at deep)
      → l.after ≢ [] → LeavesAt text at deep
  leaves_start at deep l m =
      let same : us ≡ l.before ++ l.after =
      split_unique (take n text) us (l.before ++ l.after) (start_splits text n us s) l.split in
      among text (drop n text) l.before l.after at deep
      (subst (λ z. Scans z text (drop n text)) same s.scans) l.fitting l.place l.begins l.leaves
      (λ e. absurd (m e))

  size : length (take n text) ≡ n
  size = length-take-le n text (start_inside text n us s)

  not_last : (at : ℕ) (deep : Bool) → (l : LeavesGrammar (take n text) at deep) → l.after ≡ []
      → (deep ≡ false) × (at ≡ length (take n text))
  not_last at deep l e = (
    (subst (λ z. LeaveAfter (only_tokens l.before) z deep) e l.leaves).1,
    l.place ∙ ap (sum_by length) (sym (ap (λ z. l.before ++ z) e ∙ append-nil l.before))
        ∙ sym (units_length (l.before ++ l.after) (take n text) l.split),
  )

  no_fault : (at : ℕ) → IsFirstFault (take n text) at → ⊥
  no_fault at f = fault_prevents (take n text) at f (us, start_splits text n us s)

  -- the first fault of a start is the first of the text
  pub refused_start : (e : FormatError) → RefusesInside (take n text) e → IsFirstOf text e
  refused_start (UnknownCharacter at) (r, m) = absurd (no_fault at r.0)
  refused_start (UnfinishedString at) (r, m) = absurd (no_fault at r.0)
  refused_start (NumberTooLarge at) (r, m) = absurd (fit_part r.before r.number r.after
      (ap (list_any is_too_large) (split_unique (take n text) (r.before ++ (r.number ∷ r.after)) us
      r.split (start_splits text n us s)) ∙ s.fitting) r.large)
  refused_start (Grammar at) (r, m) =
      leaves_start at false r (λ e. m (ap Grammar (not_last at false r e).1))
  refused_start (TooDeep at) (r, m) =
      leaves_start at true r (λ e. (let z : true ≡ false = (not_last at true r e).0 in cc))
  refused_start NoDocument (r, m) = absurd r
  refused_start Unsound (r, m) = absurd r
  refused_start OutOfMemory (r, m) = absurd r

-- the refusal of a text whose tokens can be parsed is its first fault
pub refused_whole : (text : List ℕ) → HasTokens text → (e : FormatError) → Refuses text e
    → IsFirstOf text e
refused_whole text h (UnknownCharacter at) r = absurd (fault_prevents text at r.0 (h.units, h.split))
refused_whole text h (UnfinishedString at) r = absurd (fault_prevents text at r.0 (h.units, h.split))
refused_whole text h (NumberTooLarge at) r = absurd (fit_part r.before r.number r.after
    (ap (list_any is_too_large) (split_unique text (r.before ++ (r.number ∷ r.after)) h.units
    r.split h.split) ∙ h.fitting) r.large)
refused_whole text h (Grammar at) r = leaves_whole text at false r
refused_whole text h (TooDeep at) r = leaves_whole text at true r
refused_whole text h NoDocument r = absurd r
refused_whole text h Unsound r = absurd r
refused_whole text h OutOfMemory r = absurd r

-- a token fault that is reached is the first fault
pub stops_first : (text : List ℕ) (at : ℕ) (e : FormatError) → Reaches text at → Stops text at e
    → IsFirstOf text e
stops_first text at (UnknownCharacter n) r s =
    (subst (Reaches text) s.0 r, subst (IsFirstFault text) s.0 s.1, rw s.0 at s.2)
stops_first text at (UnfinishedString n) r s =
    (subst (Reaches text) s.0 r, subst (IsFirstFault text) s.0 s.1, rw s.0 at s.2)
stops_first text at (NumberTooLarge n) r s = (subst (Reaches text) s.0 r, rw s.0 at s.1)
stops_first text at (Grammar n) r s = absurd s
stops_first text at (TooDeep n) r s = absurd s
stops_first text at NoDocument r s = absurd s
stops_first text at Unsound r s = absurd s
stops_first text at OutOfMemory r s = absurd s

-- a list that begins with these tokens and a `;` begins with a list
semicolon_ends : (front : List (List ℕ)) → Begins greatest_depth (front ++ (codes ";" ∷ []))
    → IsList (front ++ (codes ";" ∷ []))
semicolon_ends front b =
    let all = front ++ (codes ";" ∷ []) in
    let a : AreTokens (λ t. t) (all ++ b.rest) =
    texts_are_tokens (λ t. t) greatest_depth (all ++ b.rest) b.tree b.grammar in
    let k : G kind_of greatest_depth b.tree (all ++ b.rest) =
    (grammars_agree (λ t. t) greatest_depth (all ++ b.rest) b.tree a).0 b.grammar in
    let q = (list_parts kind_of greatest_depth b.tree front (codes ";") b.rest refl
    (subst (λ z. G kind_of greatest_depth b.tree z) (append_assoc front (codes ";" ∷ []) b.rest) k)).0 in
    (q.0, (grammars_agree (λ t. t) greatest_depth all q.0 (All-parts IsToken all b.rest a).0).1 q.1)

-- the units of a piece whose tokens begin a list: it is accepted
pub piece_accepted : (text : List ℕ) (n : ℕ) (p : IsPiece text n) → HasTokens (take n text)
    → TokensBegin (take n text) → Accepted (take n text)
piece_accepted text n p h b =
    let shape = piece_tokens text n p in
    let us = units_of p in
    let split = piece_splits text n p in
    let same : h.units ≡ us = split_unique (take n text) h.units us h.split split in
    let begins : Begins greatest_depth (only_tokens us) =
    of_units (take n text) us (Begins greatest_depth) split b in
    list_accepted (take n text) us split (ap (list_any is_too_large) (sym same) ∙ h.fitting)
    (subst IsList (sym shape) (semicolon_ends (only_tokens p.before)
    (subst (Begins greatest_depth) shape begins)))

-- the units before a token fault
pub start_of : (text : List ℕ) (f : TokenFault) → (t : IsTokenFault text f)
    → Start text f.at t.before
start_of text f t = record { scans = t.scans; place = t.place; fitting = t.fitting }

-- the first fault of a piece is the first of the text
pub refused_piece : (text : List ℕ) (n : ℕ) → IsPiece text n → HasTokens (take n text)
    → (e : FormatError) → RefusesInside (take n text) e → IsFirstOf text e
refused_piece text n p h e r = refused_start text n (units_of p) (record {
  scans = p.scans;
  place = p.place;
  fitting = ap (list_any is_too_large)
      (split_unique (take n text) (units_of p) h.units (piece_splits text n p) h.split) ∙ h.fitting;
}) e r
