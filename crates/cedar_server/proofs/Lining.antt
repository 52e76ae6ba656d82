-- The lines of a text so far.
use Rattle.std.proofs.Common.{◌≡◌, ◌≢◌, ◌+◌, ℕ, true, false, List, [], ◌∷◌, ◌++◌, length, refl, ap, sym, ◌∙◌, subst}
use Rattle.std.specs.Str.{bytes_eq}
use Rattle.std.proofs.lemmas.List.{append_assoc}
use Rattle.cedar_tokens.specs.Bytes.{line_feed}
use Rattle.cedar_tokens.specs.declared.token.Span.{Span}
use Rattle.std.proofs.lemmas.Bool.{false_from_ne_true}
use Rattle.std.proofs.lemmas.Slice.Eq.{bytes_eq-Decides}
use Rattle.cedar_server.specs.declared.parts.PartKind.{PartKind}
use Rattle.cedar_server.specs.Parts.{IsPart, AreParts, HasPartKind}
use Rattle.cedar_server.specs.Folds.{lines, comment_on, line_with}
use Rattle.cedar_server.specs.Inside.Folding.{AreLines}
use Rattle.cedar_server.specs.declared.folds.Line.{Line}
use Rattle.cedar_server.proofs.Reading.{more_parts}

-- the lines of what is left of a text
pub record AreLinesFrom (at : ℕ) (line : Line) (rest : List ℕ) (ls : List Line) : Type 0 where
  pub parts : List (List ℕ)
  pub are : AreParts rest parts
  pub value : ls ≡ lines at line parts

-- whatever follows these is followed by all lines of the text
abbrev pub LinesSoFar : List ℕ → ℕ → Line → List ℕ → List Line → Type 0
LinesSoFar text at line rest ls = (more : List Line) → AreLinesFrom at line rest more → AreLines text (ls ++ more)

pub none_so_far : (text : List ℕ) → LinesSoFar text 0 Line.Blank text []
none_so_far text more a = record { parts = a.parts; are = a.are; value = a.value }

no_parts : (at : ℕ) (line : Line) → lines at line [] ≡ line ∷ []
unfolding lines
no_parts at line = refl

pub all_so_far : (text : List ℕ) (at : ℕ) (line : Line) (rest : List ℕ) (ls now : List Line) → rest ≡ []
    → LinesSoFar text at line rest ls → now ≡ ls ++ line ∷ [] → AreLines text now
all_so_far text at line rest ls now e s n = subst (AreLines text) (sym n)
    (s (line ∷ []) (record { parts = []; are = e; value = sym (no_parts at line) }))

module _ (text rest u new : List ℕ) (at : ℕ) (line : Line) (ls : List Line)
    (s : LinesSoFar text at line rest ls) (p : IsPart rest u) (e : rest ≡ u ++ new) where
  ends : (us : List (List ℕ)) → bytes_eq (line_feed ∷ []) u ≡ true
      → lines at line (u ∷ us) ≡ line ∷ lines (at + length u) Line.Blank us
  unfolding lines
  ends us t = rw t refl

  goes : (us : List (List ℕ)) → bytes_eq (line_feed ∷ []) u ≡ false
      → lines at line (u ∷ us) ≡ lines (at + length u) (line_with line u (record { start = at; end = at + length u })) us
  unfolding lines
  goes us t = rw t refl

  pub line_ends : (now : List Line) → bytes_eq (line_feed ∷ []) u ≡ true → now ≡ ls ++ line ∷ []
      → LinesSoFar text (at + length u) Line.Blank new now
  line_ends now t n more a = subst (AreLines text) (sym (ap (λ z. z ++ more) n ∙ append_assoc ls (line ∷ []) more))
      (s (line ∷ more) (record {
        parts = u ∷ a.parts;
        are = more_parts rest u new a.parts p e a.are;
        value = ap (λ z. line ∷ z) a.value ∙ sym (ends a.parts t);
      }))

  pub line_goes_on : (next : Line) → bytes_eq (line_feed ∷ []) u ≡ false
      → next ≡ line_with line u (record { start = at; end = at + length u }) → LinesSoFar text (at + length u) next new ls
  line_goes_on next t n more a = s more (record {
    parts = u ∷ a.parts;
    are = more_parts rest u new a.parts p e a.are;
    value = a.value ∙ ap (λ z. lines (at + length u) z a.parts) n ∙ sym (goes a.parts t);
  })

-- a line with one more part of each kind
pub token_line : (line : Line) (u : List ℕ) (s : Span) → HasPartKind PartKind.Token u → Line.Other ≡ line_with line u s
token_line line u s h = rw h refl

pub comment_line : (line : Line) (u : List ℕ) (s : Span) → HasPartKind PartKind.Comment u → comment_on line s ≡ line_with line u s
comment_line line u s h = rw (h.0, h.1) refl

pub other_line : (line : Line) (u : List ℕ) (s : Span) → HasPartKind PartKind.Other u → line ≡ line_with line u s
other_line line u s h = rw (h.0, h.1) refl

pub feed_here : (u : List ℕ) → u ≡ line_feed ∷ [] → bytes_eq (line_feed ∷ []) u ≡ true
feed_here u e = (bytes_eq-Decides (line_feed ∷ []) u).1 (sym e)

pub no_feed_here : (u : List ℕ) → u ≢ line_feed ∷ [] → bytes_eq (line_feed ∷ []) u ≡ false
no_feed_here u n = false_from_ne_true (bytes_eq (line_feed ∷ []) u) (λ t. n (sym ((bytes_eq-Decides (line_feed ∷ []) u).0 t)))
