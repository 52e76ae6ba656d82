-- The lexemes of a piece.
use Rattle.std.proofs.Common.{◌≡◌, ℕ, ◌+◌, true, false, ◌||◌, List, [], ◌∷◌, ◌++◌, take, drop, refl, ap, sym, ◌∙◌, append_assoc, append-nil, subst}
use Rattle.std.specs.Prelude.{codes}
use Rattle.std.specs.List.{list_any}
use Rattle.std.proofs.lemmas.List.Folds.{list_any-append}
use Rattle.cedar_tokens.specs.Units.{is_token, BeginsNoUnit}
use Rattle.cedar_tokens.specs.Split.{Scans, SplitsInto}
use Rattle.cedar_tokens.specs.Places.{token_spans}
use Rattle.cedar_tokens.specs.UnitSteps.{unit_text}
use Rattle.cedar_tokens.specs.declared.units.Unit.{Unit}
use Rattle.cedar_tokens.proofs.UnitsSoFar.{texts, texts_more, EndsAt}
use Rattle.cedar_tokens.proofs.Streaming.{placed_all}
use Rattle.cedar_tokens.proofs.Between.{spans_before}
use Rattle.cedar_tokens.proofs.Gaps.{split_after}
use Rattle.cedar_grammar.specs.Numbers.{is_too_large}
use Rattle.cedar_grammar.proofs.Booleans.{neither_first as or_left, neither_second as or_right}
use Rattle.cedar_grammar.proofs.Texts.Cuts.{fit_part}
use Rattle.cedar_reading.specs.Tokens.{HasTokens}
use Rattle.cedar_reading.specs.Lexemes.{AreLexemes}
use Rattle.cedar_reading.specs.declared.lexeme.Lexeme.{Lexeme}
use Rattle.cedar_reading.proofs.Walking.{Lexed}
use Rattle.cedar_reading.specs.Pieces.{EndsLine, is_semicolon, IsPiece}
use Rattle.cedar_reading.specs.Inside.Steps.{LexesToSemicolon}
use Rattle.cedar_reading.proofs.Prefixes.{units_of}
use Rattle.cedar_reading.proofs.Lists.{piece_splits, tokenless, semicolon_token}
use Rattle.cedar_reading.proofs.PieceRefusals.{no_tokens, piece_tokens}
use Rattle.cedar_reading.proofs.Semicolons.{differs, piece_whole}
use Rattle.cedar_laws.proofs.Accepting.{other_small}
use Rattle.cedar_grammar.proofs.Hopeless.{tokens_cut}

-- what isn't a token isn't a `;`
pub no_semicolon : (u : List ℕ) → is_token u ≡ false → is_semicolon u ≡ false
no_semicolon u h =
    differs u (codes ";") (λ e. (let t = sym (ap is_token e ∙ semicolon_token) in cc))

no_numbers : (us : List (List ℕ)) → list_any is_token us ≡ false → list_any is_too_large us ≡ false
no_numbers [] h = refl
no_numbers (u ∷ us) h = rw (other_small u (or_left (is_token u) (list_any is_token us) h))
    (no_numbers us (or_right (is_token u) (list_any is_token us) h))

-- where a unit is a number that is too large, the text's tokens can't be parsed
pub too_large : (us : List (List ℕ)) (u text rest : List ℕ) (n : ℕ)
    → EndsAt (us ++ u ∷ []) text rest n → is_too_large u ≡ true → HasTokens text → ⊥
too_large us u text rest n e l h =
    let r = split_after (us ++ u ∷ []) h.units text (drop n text) e.scans h.split in
    fit_part us u r.0
    (sym (ap (list_any is_too_large) (r.1 ∙ append_assoc us (u ∷ []) r.0)) ∙ h.fitting) l

-- the units so far, of which the last is their only `;`, and their lexemes
pub lexes_to : (us : List Unit) (u : Unit) (text rest : List ℕ) (n : ℕ) (lexemes : List Lexeme)
    → EndsAt (texts us ++ unit_text u ∷ []) text rest n → unit_text u ≡ codes ";"
    → list_any is_semicolon (texts us) ≡ false
    → list_any is_too_large (texts us) ≡ false → Lexed (texts (us ++ u ∷ [])) lexemes n
    → LexesToSemicolon text n lexemes
lexes_to us u text rest n lexemes e m none f l =
    let k : Lexed (texts us ++ codes ";" ∷ []) lexemes n =
    subst (λ z. Lexed z lexemes n) (texts_more us u ∙ ap (λ z. texts us ++ z ∷ []) m) l in
    record {
      ends = record {
        before = texts us;
        scans = rw m at e.scans;
        place = rw m at e.place;
        first = none;
      };
      fitting = f;
      texts = k.texts;
      places = placed_all _ _ _ k.places;
      kinds = k.kinds;
    }

-- the units that end where none begins are all units of the text
all_units : (us : List (List ℕ)) (text rest : List ℕ) → Scans us text rest → BeginsNoUnit rest
    → (h : HasTokens text) → (SplitsInto text us) × (list_any is_too_large us ≡ false)
all_units us text rest s stops h =
    let r = split_after us h.units text rest s h.split in go r.0 r.1 r.2
  where
    go : (ws : List (List ℕ)) → h.units ≡ us ++ ws → SplitsInto rest ws
        → (SplitsInto text us) × (list_any is_too_large us ≡ false)
    go [] e r = (
      subst (λ z. Scans us text z) r s,
      sym (ap (list_any is_too_large) (e ∙ append-nil us)) ∙ h.fitting,
    )
    go (w ∷ ws) e r = absurd (stops w r.0.kind r.0.begins)

pub lexes_all : (us : List (List ℕ)) (text rest : List ℕ) (at : ℕ) (lexemes : List Lexeme)
    → Scans us text rest → BeginsNoUnit rest → HasTokens text → Lexed us lexemes at
    → AreLexemes text lexemes
lexes_all us text rest at lexemes s stops h l =
    let all = all_units us text rest s stops h in
    record {
      units = us;
      split = all.0;
      fitting = all.1;
      texts = l.texts;
      places = placed_all us _ at l.places;
      kinds = l.kinds;
    }

-- the lexemes to the `;` are those of the piece
pub piece_lexemes : (text rest : List ℕ) (at n : ℕ) (lexemes : List Lexeme)
    → LexesToSemicolon text at lexemes → rest ≡ drop at text → EndsLine rest n
    → AreLexemes (take (at + n) text) lexemes
piece_lexemes text rest at n lexemes s e r =
    let p : IsPiece text (at + n) = (piece_whole text rest at n s.ends e r).piece in
    let front = s.ends.before ++ (codes ";" ∷ []) in
    let places : token_spans 0 (units_of p) ≡ token_spans 0 front =
    ap (token_spans 0) (sym (append_assoc s.ends.before (codes ";" ∷ []) p.line))
    ∙ spans_before front p.line 0 (tokenless p.line (no_tokens p.line p.rest_of_line.no_token)) in
    record {
      units = units_of p;
      split = piece_splits text (at + n) p;
      fitting = list_any-append is_too_large s.ends.before (codes ";" ∷ p.line)
          ∙ (ap (λ z. z || list_any is_too_large p.line) s.fitting
          ∙ no_numbers p.line p.rest_of_line.no_token);
      texts = s.texts ∙ tokens_cut s.ends.before (codes ";") [] semicolon_token
          ∙ sym (piece_tokens text (at + n) p);
      places = s.places ∙ sym places;
      kinds = s.kinds;
    }
