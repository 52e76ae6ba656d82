-- The code point of one character, and of more.
use Rattle.std.specs.Prelude.{◌≡◌, ℕ, false, true, nat_lt, List, [], ◌++◌, length, chars, codes}
use Rattle.std.specs.Char.{encode_utf8}
use Rattle.std.specs.Fmt.{digits}
use Rattle.std.proofs.Common.{IsUtf8, refl}
use Rattle.std.proofs.lemmas.List.{nil_from_length}
use Rattle.std.proofs.lemmas.Str.{IsUtf8-past_char, chars_past_char, chars-nil}
use Rattle.cedar_faults.specs.Words.{code_point}

pub two_characters : (bs r s : List ℕ) (c d : ℕ) → IsUtf8 bs → bs ≡ encode_utf8 c ++ r
    → r ≡ encode_utf8 d ++ s → code_point (chars bs) ≡ []
two_characters bs r s c d u e f =
    rw (chars_past_char bs r c u e, chars_past_char r s d (IsUtf8-past_char bs r c u e) f) refl

pub one_character : (bs r : List ℕ) (c : ℕ) → IsUtf8 bs → bs ≡ encode_utf8 c ++ r → length r ≡ 0
    → nat_lt c 128 ≡ false → code_point (chars bs) ≡ codes " (U+" ++ digits 16 true c ++ codes ")"
one_character bs r c u e l a =
    rw (chars_past_char bs r c u e, nil_from_length r l, chars-nil, a) refl
