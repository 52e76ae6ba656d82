-- The premises of the law are met: a token with a leading line and a trailing text, and a line.
use Rattle.std.proofs.Common.{[], ◌∷◌, refl}
use Rattle.std.specs.Prelude.{codes}
use Rattle.std.specs.Str.{trim_start, trim_end, chars, is_utf8}
use Rattle.std.proofs.lemmas.Str.{IsUtf8-from_is_utf8}
use Rattle.std.specs.Char.{encode_utf8}
use Rattle.cedar_tokens.specs.Units.{slots, punctuators}
use Rattle.cedar_laws.specs.Good.{IsGood, IsLine, IsTrailing}
use Rattle.cedar_laws.proofs.Units.{comment_first}
use Rattle.cedar_laws.proofs.Scanned.{scans_unit}

line_x : IsLine (codes "// x")
unfolding trim_start trim_end chars is_utf8 encode_utf8
line_x = record { comment = refl; trimmed = refl; utf8 = IsUtf8-from_is_utf8 (codes "// x") refl }

trailing_x : IsTrailing (codes "// x")
unfolding trim_start trim_end chars is_utf8 encode_utf8 slots punctuators
trailing_x = record {
  trimmed = refl;
  one_line = refl;
  utf8 = IsUtf8-from_is_utf8 (codes "// x") refl;
  units = codes "// x" ∷ [];
  split = scans_unit (codes "// x") [] [] [] (comment_first (codes "// x") [] refl tt) refl;
  no_token = (refl, tt);
}

good_x : IsGood (record { text = codes "("; leading = codes "// x" ∷ []; trailing = codes "// x" })
unfolding slots punctuators chars is_utf8 encode_utf8
good_x = record {
  token = refl;
  utf8 = IsUtf8-from_is_utf8 (codes "(") refl;
  leading = (line_x, tt);
  trailing = trailing_x;
}
