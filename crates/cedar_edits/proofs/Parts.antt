-- A part of a text without the lines that it has in common with another one.
use Rattle.std.proofs.Common.{◌≡◌, ◌≢◌, ◌≤◌, ◌+◌, ◌-◌, ℕ, List, ◌∷◌, ◌++◌, length, get_or, take, drop, sym, ap, ◌∙◌, subst, inl, inr, arith, append_assoc}
use Rattle.std.specs.Prelude.{◌⊎◌, slice_range, string_bytes}
use Rattle.std.specs.Str.{IsCharBoundary, IsUtf8}
use Rattle.std.proofs.lemmas.List.{drop-drop, drop-take, get_or-drop, get_or-take, length-drop, length-take-le, take-append-drop, take-take}
use Rattle.std.proofs.lemmas.Str.{IsCharBoundary-after_ascii, IsCharBoundary-end, IsCharBoundary-start}
use Rattle.cedar_tokens.specs.Bytes.{line_feed}
use Rattle.cedar_tokens.specs.declared.token.Span.{Span}
use Rattle.cedar_edits.specs.Laws.{CanBeNamed}
use Rattle.cedar_edits.specs.declared.edits.Edit.{Edit}
use Rattle.cedar_edits.specs.Edits.{IsNamedPart, within}
use Rattle.cedar_edits.specs.Lines.{BeginApart, EndApart, IsLeast, Replaces}
use Rattle.cedar_edits.specs.Inside.Trims.{EndLines, StartLines, StartsLine}

-- a character begins where a line does
pub line_boundary : (bytes : List ℕ) (n : ℕ) → IsUtf8 bytes → n ≤ length bytes → StartsLine bytes n
    → IsCharBoundary bytes n
line_boundary bytes n u within (inl start) =
    subst (IsCharBoundary bytes) (sym start) (IsCharBoundary-start bytes u)
line_boundary bytes n u within (inr (some, feed)) =
    let next : (n - 1) + 1 ≡ n = omega arith in
    subst (IsCharBoundary bytes) next
    (IsCharBoundary-after_ascii bytes (n - 1) u (omega arith) (omega (arith, feed)))

-- and so at so many bytes before the end
pub last_boundary : (bytes : List ℕ) (n : ℕ) → IsUtf8 bytes
    → (n ≡ 0) ⊎ StartsLine bytes (length bytes - n) → IsCharBoundary bytes (length bytes - n)
last_boundary bytes n u (inl none) =
    let all : length bytes ≡ length bytes - n = omega arith in
    subst (IsCharBoundary bytes) all (IsCharBoundary-end bytes)
last_boundary bytes n u (inr line) = line_boundary bytes (length bytes - n) u (omega arith) line

length-within : (text : List ℕ) (start end : ℕ) → start ≤ end → end ≤ length text
    → length (slice_range text start end) ≡ end - start
length-within text start end order inside =
    length-take-le (end - start) (drop start text) (omega (arith, length-drop start text))

-- a client can name the place where a line of a part begins
pub line_named : (text : List ℕ) (start end n : ℕ) → IsUtf8 text → start ≤ end → end ≤ length text
    → CanBeNamed text start → n ≤ end - start → StartsLine (slice_range text start end) n
    → CanBeNamed text (start + n)
line_named text start end n u order inside named upto (inl none) =
    let same : start ≡ start + n = omega arith in subst (CanBeNamed text) same named
line_named text start end n u order inside named upto (inr (some, feed)) =
    let place : start + (n - 1) ≡ (start + n) - 1 = omega arith in
    let next : ((start + n) - 1) + 1 ≡ start + n = omega arith in
    let byte : get_or text ((start + n) - 1) 0 ≡ 10 = ap (λ k. get_or text k 0) (sym place)
    ∙ (sym (get_or-drop start text (n - 1) 0) ∙ (sym (get_or-take (end - start) (drop start text)
    (n - 1) 0 (omega arith)) ∙ feed)) in
    record {
      boundary = subst (IsCharBoundary text) next
          (IsCharBoundary-after_ascii text ((start + n) - 1) u (omega arith) (omega (arith, byte)));
      outside = λ h. omega (arith, h.1, byte);
    }

-- texts that begin apart do so up to any place
begin_apart_within : (x y : List ℕ) (a b : ℕ) → BeginApart x y → BeginApart (take a x) (take b y)
begin_apart_within x y a b apart line xs ys p q =
    apart line (xs ++ drop a x) (ys ++ drop b y) (more x xs a p) (more y ys b q)
  where
    more : (z zs : List ℕ) (n : ℕ) → take n z ≡ line ++ (line_feed ∷ zs)
        → z ≡ line ++ (line_feed ∷ (zs ++ drop n z))
    more z zs n e = sym (take-append-drop n z)
        ∙ (ap (λ front. front ++ drop n z) e ∙ append_assoc line (line_feed ∷ zs) (drop n z))

module _ (text new : List ℕ) (span : Span) (first last : ℕ) (named : IsNamedPart text span)
    (s : StartLines (within text span) new first)
    (e : EndLines (drop first (within text span)) (drop first new) last) where
  old_rest : List ℕ
  old_rest = drop first (within text span)

  abbrev size : ℕ
  size = (span.end - span.start) - first

  old_size : length (within text span) ≡ span.end - span.start
  old_size = length-within text span.start span.end named.order named.inside

  first_upto : first ≤ span.end - span.start
  first_upto = omega (arith, s.in_first, old_size)

  rest_size : length (drop first (within text span)) ≡ size
  rest_size = omega (arith, length-drop first (within text span), old_size)

  last_upto : last ≤ size
  last_upto = omega (arith, e.in_first, rest_size)

  -- what is left of the part is a part of the text
  rest_is : drop first (within text span) ≡ slice_range text (span.start + first) span.end
  rest_is =
      let all : first + size ≡ span.end - span.start = omega (arith, first_upto) in
      let left : size ≡ span.end - (span.start + first) = omega arith in
      ap (λ k. drop first (take k (drop span.start text))) (sym all)
      ∙ (drop-take first size (drop span.start text)
      ∙ (ap (take size) (drop-drop first span.start text)
      ∙ ap (λ k. take k (drop (span.start + first) text)) left))

  abbrev Trimmed : Edit → Type 0
  Trimmed edit = (edit.span ≡ record { start = span.start + first; end = span.end - last })
      × (string_bytes edit.text ≡ take (length (drop first new) - last) (drop first new))

  abbrev removed : List ℕ
  removed = take (length (drop first (within text span)) - last) (drop first (within text span))

  removed_is : slice_range text (span.start + first) (span.end - last) ≡ removed
  removed_is =
      let k : (span.end - last) - (span.start + first) ≡ size - last = omega arith in
      let small : size - last ≤ span.end - (span.start + first) = omega arith in
      let n : size - last ≡ length (drop first (within text span)) - last =
      omega (arith, rest_size) in
      ap (λ m. take m (drop (span.start + first) text)) k
      ∙ (sym (take-take (size - last) (span.end - (span.start + first))
      (drop (span.start + first) text) small)
      ∙ (ap (take (size - last)) (sym rest_is)
      ∙ ap (λ m. take m (drop first (within text span))) n))

  tail_is : slice_range text (span.end - last) span.end
      ≡ drop (length (drop first (within text span)) - last) (drop first (within text span))
  tail_is =
      let n : length (drop first (within text span)) - last ≡ size - last =
      omega (arith, rest_size) in
      let all : span.end - (span.start + first) ≡ (size - last) + last =
      omega (arith, last_upto) in
      let place : (span.start + first) + (size - last) ≡ span.end - last =
      omega (arith, last_upto, first_upto, named.order) in
      let k : last ≡ span.end - (span.end - last) =
      omega (arith, last_upto, first_upto, named.order) in
      sym (ap (λ m. drop m (drop first (within text span))) n
      ∙ (ap (drop (size - last)) rest_is
      ∙ (ap (λ m. drop (size - last) (take m (drop (span.start + first) text))) all
      ∙ (drop-take (size - last) last (drop (span.start + first) text)
      ∙ (ap (take last) (drop-drop (size - last) (span.start + first) text)
      ∙ (ap (λ m. take last (drop m text)) place
      ∙ ap (λ m. take m (drop (span.end - last) text)) k))))))

  front_is : slice_range text span.start (span.start + first) ≡ take first (within text span)
  front_is =
      let k : (span.start + first) - span.start ≡ first = omega arith in
      ap (λ m. take m (drop span.start text)) k
      ∙ sym (take-take first (span.end - span.start) (drop span.start text) first_upto)

  pub trimmed_part : IsUtf8 text
      → IsNamedPart text (record { start = span.start + first; end = span.end - last })
  trimmed_part u = record {
    order = omega (arith, last_upto, first_upto, named.order);
    inside = omega (arith, named.inside);
    first = line_named text span.start span.end first u named.order named.inside named.first
        first_upto s.first_line;
    last = end e.first_line;
  }
    where
      start_named : CanBeNamed text (span.start + first)
      start_named = line_named text span.start span.end first u named.order named.inside
          named.first first_upto s.first_line

      end : (last ≡ 0) ⊎ StartsLine (drop first (within text span))
          (length (drop first (within text span)) - last) → CanBeNamed text (span.end - last)
      end (inl none) =
          let same : span.end ≡ span.end - last = omega arith in
          subst (CanBeNamed text) same named.last
      end (inr line) =
          let n : length (drop first (within text span)) - last ≡ size - last =
          omega (arith, rest_size) in
          let place : (span.start + first) + (size - last) ≡ span.end - last =
          omega (arith, last_upto, first_upto, named.order) in
          subst (CanBeNamed text) place (line_named text (span.start + first) span.end
          (size - last) u (omega (arith, first_upto, named.order)) named.inside start_named
          (omega arith) (subst (λ z. StartsLine z (size - last)) rest_is
          (subst (StartsLine (drop first (within text span))) n line)))

  pub trimmed_edit : IsUtf8 text → (edit : Edit) → Trimmed edit → Replaces text span new edit
  trimmed_edit u edit (at, put) = record {
    start = subst (λ (z : Span). span.start ≤ z.start) (sym at) (omega arith);
    end = subst (λ (z : Span). z.end ≤ span.end) (sym at) (omega arith);
    part = subst (IsNamedPart text) (sym at) (trimmed_part u);
    bytes = subst (λ (z : Span). slice_range text span.start z.start
        ++ (string_bytes edit.text ++ slice_range text z.end span.end) ≡ new) (sym at) bytes;
  }
    where
      bytes : slice_range text span.start (span.start + first)
          ++ (string_bytes edit.text ++ slice_range text (span.end - last) span.end) ≡ new
      bytes = ap (λ z. z ++ (string_bytes edit.text ++ slice_range text (span.end - last) span.end))
          (front_is ∙ s.same)
          ∙ (ap (λ z. take first new ++ (z ++ slice_range text (span.end - last) span.end)) put
          ∙ (ap (λ z. take first new ++ (take (length (drop first new) - last) (drop first new)
          ++ z)) (tail_is ∙ e.same)
          ∙ (ap (λ z. take first new ++ z)
          (take-append-drop (length (drop first new) - last) (drop first new))
          ∙ take-append-drop first new)))

  pub trimmed_least : (edit : Edit) → within text span ≢ new → Trimmed edit → IsLeast text edit
  trimmed_least edit differ (at, put) =
      let left : within text edit.span ≡ removed =
      subst (λ (z : Span). within text z ≡ removed) (sym at) removed_is in
      let put_is = take (length (drop first new) - last) (drop first new) in
      record {
        first = subst (λ z. BeginApart z (string_bytes edit.text)) (sym left)
            (subst (BeginApart removed) (sym put) (begin_apart_within
            (drop first (within text span)) (drop first new)
            (length (drop first (within text span)) - last) (length (drop first new) - last)
            s.all));
        last = subst (λ z. EndApart z (string_bytes edit.text)) (sym left)
            (subst (EndApart removed) (sym put) e.all);
        differs = λ same. differ (sym (take-append-drop first (within text span))
            ∙ (ap (λ z. z ++ drop first (within text span)) s.same
            ∙ (ap (λ z. take first new ++ z) (rests (sym left ∙ (same ∙ put)))
            ∙ take-append-drop first new)));
      }
    where
      rests : removed ≡ take (length (drop first new) - last) (drop first new)
          → drop first (within text span) ≡ drop first new
      rests same = sym (take-append-drop (length (drop first (within text span)) - last)
          (drop first (within text span)))
          ∙ (ap (λ z. z ++ drop (length (drop first (within text span)) - last)
          (drop first (within text span))) same
          ∙ (ap (λ z. take (length (drop first new) - last) (drop first new) ++ z) e.same
          ∙ take-append-drop (length (drop first new) - last) (drop first new)))
