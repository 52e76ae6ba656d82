-- A piece that is the whole text.
use Rattle.std.proofs.Common.{◌≡◌, ℕ, List, length, take, subst, arith}
use Rattle.std.proofs.lemmas.List.{take_all}
use Rattle.cedar_reading.specs.Lexemes.{AreLexemes}
use Rattle.cedar_reading.specs.declared.lexeme.Lexeme.{Lexeme}
use Rattle.cedar_reading.specs.Pieces.{IsFirstPiece}

pub whole_piece : (text : List ℕ) (n : ℕ) → n ≡ length text → IsFirstPiece text n
    → IsFirstPiece text (length text)
whole_piece text n e p = subst (IsFirstPiece text) e p

pub whole_lexemes : (text : List ℕ) (n : ℕ) (lexemes : List Lexeme) → n ≡ length text
    → AreLexemes (take n text) lexemes → AreLexemes text lexemes
whole_lexemes text n lexemes e h =
    subst (λ z. AreLexemes z lexemes) (take_all n text (omega (arith, e))) h
