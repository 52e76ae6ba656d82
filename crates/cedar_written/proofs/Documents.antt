-- What a layout writes at most, by its document.
use Rattle.std.proofs.Common.{◌≡◌, ℕ, zero, suc, ◌+◌, ◌≤◌, ◌<◌, Bool, true, false, ◌||◌, List, [], ◌∷◌, ◌++◌, length, replicate, subst, arith, length-append}
use Rattle.std.specs.Prelude.{⊤}
use Rattle.std.specs.Char.{IsScalar}
use Rattle.std.specs.Str.{IsUtf8}
use Rattle.std.proofs.lemmas.Bool.Decides.{nat_tests}
use Rattle.std.proofs.lemmas.Str.{IsUtf8-append, IsUtf8-nil, IsUtf8-encode, encode_ascii}
use Rattle.cedar_tokens.specs.Bytes as byte
use Rattle.cedar_layout.specs.Layout.{Doc, nil, text_then, line_then, line_or_nil_then, hard_then, nest_then, group_then, ◌·◌, Atom, atoms, columns, indented}
use Rattle.cedar_written.specs.Layout.{fits, laid}

-- where a break writes at most u bytes
abbrev pub cost : ℕ → Doc → ℕ
cost u nil = 0
cost u (text_then s r) = length s + cost u r
cost u (line_then r) = u + cost u r
cost u (line_or_nil_then r) = u + cost u r
cost u (hard_then r) = u + cost u r
cost u (nest_then n d r) = cost u d + cost u r
cost u (group_then d r) = cost u d + cost u r

-- with the indentation j, no break of the document writes more than u bytes
abbrev pub Within : ℕ → ℕ → Doc → Type 0
Within u j nil = ⊤
Within u j (text_then s r) = Within u j r
Within u j (line_then r) = (j < u) × Within u j r
Within u j (line_or_nil_then r) = (j < u) × Within u j r
Within u j (hard_then r) = (j < u) × Within u j r
Within u j (nest_then n d r) = Within u (indented j n) d × Within u j r
Within u j (group_then d r) = Within u j d × Within u j r

pub cost_append : (u : ℕ) (d e : Doc) → cost u (d · e) ≡ cost u d + cost u e
cost_append u nil e = omega arith
cost_append u (text_then s r) e = omega (arith, cost_append u r e)
cost_append u (line_then r) e = omega (arith, cost_append u r e)
cost_append u (line_or_nil_then r) e = omega (arith, cost_append u r e)
cost_append u (hard_then r) e = omega (arith, cost_append u r e)
cost_append u (nest_then n d r) e = omega (arith, cost_append u r e)
cost_append u (group_then d r) e = omega (arith, cost_append u r e)

pub within_append : (u j : ℕ) (d e : Doc) → Within u j d → Within u j e → Within u j (d · e)
within_append u j nil e h k = k
within_append u j (text_then s r) e h k = within_append u j r e h k
within_append u j (line_then r) e h k = (h.0, within_append u j r e h.1 k)
within_append u j (line_or_nil_then r) e h k = (h.0, within_append u j r e h.1 k)
within_append u j (hard_then r) e h k = (h.0, within_append u j r e h.1 k)
within_append u j (nest_then n d r) e h k = (h.0, within_append u j r e h.1 k)
within_append u j (group_then d r) e h k = (h.0, within_append u j r e h.1 k)

break_length : (j : ℕ) (s : List ℕ)
    → length ((byte.line_feed ∷ replicate j byte.space_character) ++ s) ≡ suc (j + length s)
break_length zero s = omega arith
break_length (suc j) s = omega (arith, break_length j s)

pub laid_length : (w u : ℕ) (d : Doc) (flat : Bool) (j col : ℕ) (after : List Atom) → Within u j d
    → length (laid w flat j col after d).0 ≤ cost u d
laid_length w u nil flat j col after h = omega arith
laid_length w u (text_then s r) flat j col after h =
    omega (
      arith,
      length-append s (laid w flat j (col + columns s) after r).0,
      laid_length w u r flat j (col + columns s) after h,
    )
laid_length w u (line_then r) true j col after h =
    omega (arith, h.0, laid_length w u r true j (col + 1) after h.1)
laid_length w u (line_then r) false j col after h =
    omega (
      arith,
      h.0,
      break_length j (laid w false j j after r).0,
      laid_length w u r false j j after h.1,
    )
laid_length w u (line_or_nil_then r) true j col after h =
    omega (arith, h.0, laid_length w u r true j col after h.1)
laid_length w u (line_or_nil_then r) false j col after h =
    omega (
      arith,
      h.0,
      break_length j (laid w false j j after r).0,
      laid_length w u r false j j after h.1,
    )
laid_length w u (hard_then r) flat j col after h =
    omega (
      arith,
      h.0,
      break_length j (laid w flat j j after r).0,
      laid_length w u r flat j j after h.1,
    )
laid_length w u (nest_then n d r) flat j col after h =
    let a = laid w flat (indented j n) col (atoms r ++ after) d in
    omega (
      arith,
      length-append a.0 (laid w flat j a.1 after r).0,
      laid_length w u d flat (indented j n) col (atoms r ++ after) h.0,
      laid_length w u r flat j a.1 after h.1,
    )
laid_length w u (group_then d r) flat j col after h =
    let b = flat || fits w col (atoms d) (atoms r ++ after) in
    let a = laid w b j col (atoms r ++ after) d in
    omega (
      arith,
      length-append a.0 (laid w flat j a.1 after r).0,
      laid_length w u d b j col (atoms r ++ after) h.0,
      laid_length w u r flat j a.1 after h.1,
    )

-- ---- UTF-8

-- the document's texts are UTF-8
abbrev pub Encoded : Doc → Type 0
Encoded nil = ⊤
Encoded (text_then s r) = IsUtf8 s × Encoded r
Encoded (line_then r) = Encoded r
Encoded (line_or_nil_then r) = Encoded r
Encoded (hard_then r) = Encoded r
Encoded (nest_then n d r) = Encoded d × Encoded r
Encoded (group_then d r) = Encoded d × Encoded r

pub encoded_append : (d e : Doc) → Encoded d → Encoded e → Encoded (d · e)
encoded_append nil e h k = k
encoded_append (text_then s r) e h k = (h.0, encoded_append r e h.1 k)
encoded_append (line_then r) e h k = encoded_append r e h k
encoded_append (line_or_nil_then r) e h k = encoded_append r e h k
encoded_append (hard_then r) e h k = encoded_append r e h k
encoded_append (nest_then n d r) e h k = (h.0, encoded_append r e h.1 k)
encoded_append (group_then d r) e h k = (h.0, encoded_append r e h.1 k)

pub byte_utf8 : (b : ℕ) → b < 128 → IsUtf8 (b ∷ [])
byte_utf8 b l = subst (λ z. IsUtf8 z) (encode_ascii b l) (IsUtf8-encode b (low b l))
  where
    low : (b : ℕ) → b < 128 → IsScalar b
    low b l = grind (arith, nat_tests)

pub space_utf8 : IsUtf8 (byte.space_character ∷ [])
space_utf8 = byte_utf8 byte.space_character (omega arith)

break_utf8 : (j : ℕ) (s : List ℕ) → IsUtf8 s → IsUtf8 ((byte.line_feed ∷ replicate j byte.space_character) ++ s)
break_utf8 j s h = IsUtf8-append (byte.line_feed ∷ []) (replicate j byte.space_character ++ s)
    (byte_utf8 byte.line_feed (omega arith)) (spaces j)
  where
    spaces : (j : ℕ) → IsUtf8 (replicate j byte.space_character ++ s)
    spaces zero = h
    spaces (suc j) = IsUtf8-append (byte.space_character ∷ []) (replicate j byte.space_character ++ s) space_utf8 (spaces j)

pub laid_utf8 : (w : ℕ) (d : Doc) (flat : Bool) (j col : ℕ) (after : List Atom) → Encoded d
    → IsUtf8 (laid w flat j col after d).0
laid_utf8 w nil flat j col after h = IsUtf8-nil
laid_utf8 w (text_then s r) flat j col after h =
    IsUtf8-append s (laid w flat j (col + columns s) after r).0 h.0
    (laid_utf8 w r flat j (col + columns s) after h.1)
laid_utf8 w (line_then r) true j col after h =
    IsUtf8-append (byte.space_character ∷ []) (laid w true j (col + 1) after r).0 space_utf8
    (laid_utf8 w r true j (col + 1) after h)
laid_utf8 w (line_then r) false j col after h =
    break_utf8 j (laid w false j j after r).0 (laid_utf8 w r false j j after h)
laid_utf8 w (line_or_nil_then r) true j col after h = laid_utf8 w r true j col after h
laid_utf8 w (line_or_nil_then r) false j col after h =
    break_utf8 j (laid w false j j after r).0 (laid_utf8 w r false j j after h)
laid_utf8 w (hard_then r) flat j col after h =
    break_utf8 j (laid w flat j j after r).0 (laid_utf8 w r flat j j after h)
laid_utf8 w (nest_then n d r) flat j col after h =
    let a = laid w flat (indented j n) col (atoms r ++ after) d in
    IsUtf8-append a.0 (laid w flat j a.1 after r).0
    (laid_utf8 w d flat (indented j n) col (atoms r ++ after) h.0)
    (laid_utf8 w r flat j a.1 after h.1)
laid_utf8 w (group_then d r) flat j col after h =
    let b = flat || fits w col (atoms d) (atoms r ++ after) in
    let a = laid w b j col (atoms r ++ after) d in
    IsUtf8-append a.0 (laid w flat j a.1 after r).0
    (laid_utf8 w d b j col (atoms r ++ after) h.0)
    (laid_utf8 w r flat j a.1 after h.1)
