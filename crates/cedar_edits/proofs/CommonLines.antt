-- The lines that two texts have in common.
use Rattle.std.proofs.Common.{◌≡◌, ◌≢◌, ◌≤◌, ◌<◌, ◌+◌, ◌-◌, ℕ, suc, List, [], ◌∷◌, ◌++◌, length, get_or, take, drop, sym, ap, ◌∙◌, subst, inl, inr, arith, append_assoc, length-append}
use Rattle.std.specs.Prelude.{◌⊎◌}
use Rattle.std.proofs.lemmas.Bool.{cases_lt}
use Rattle.std.proofs.lemmas.List.{drop-drop, get_or-append-add, get_or-drop, get_or-take, get_or_append_left, length-drop, length-take-le, take-take, take_more_same}
use Rattle.std.proofs.Math.Seq.{drop-cons, get_or-append_seam}
use Rattle.cedar_tokens.specs.Bytes.{line_feed}
use Rattle.cedar_edits.specs.Lines.{AreLines, BeginApart, EndApart}
use Rattle.cedar_edits.specs.Inside.Trims.{EndLines, StartLines, StartsLine}

-- ---- lines at the start

-- the first i bytes are equal, and the last line feed among them ends the lines
pub record BeginAlike (x y : List ℕ) (lines i : ℕ) : Type 0 where
  pub same : take i x ≡ take i y
  pub in_first : i ≤ length x
  pub in_second : i ≤ length y
  pub order : lines ≤ i
  pub first_line : StartsLine x lines
  pub second_line : StartsLine y lines
  pub none : (k : ℕ) → lines ≤ k → k < i → get_or x k 0 ≢ 10

pub alike_next : (x y : List ℕ) (lines i : ℕ) → BeginAlike x y lines i → i < length x
    → i < length y → get_or x i 0 ≡ get_or y i 0 → get_or x i 0 ≢ 10
    → BeginAlike x y lines (i + 1)
alike_next x y lines i a p q e n = record {
  same = take_more_same x y i 0 p q a.same e;
  in_first = omega arith;
  in_second = omega arith;
  order = omega (arith, a.order);
  first_line = a.first_line;
  second_line = a.second_line;
  none = λ k from below. elim (cases_lt k i) [
    | inl before ↦ a.none k from before
    | inr last ↦ let at : k ≡ i = omega arith in subst (λ m. get_or x m 0 ≢ 10) (sym at) n
  ];
}

pub alike_line : (x y : List ℕ) (lines i : ℕ) → BeginAlike x y lines i → i < length x
    → i < length y → get_or x i 0 ≡ get_or y i 0 → get_or x i 0 ≡ 10
    → BeginAlike x y (i + 1) (i + 1)
alike_line x y lines i a p q e n =
    let before : i ≡ (i + 1) - 1 = omega arith in record {
      same = take_more_same x y i 0 p q a.same e;
      in_first = omega arith;
      in_second = omega arith;
      order = omega arith;
      first_line = inr (omega arith, subst (λ m. get_or x m 0 ≡ 10) before n);
      second_line = inr (omega arith, subst (λ m. get_or y m 0 ≡ 10) before (sym e ∙ n));
      none = λ k from below. absurd (omega arith);
    }

-- a line that both begin with would end before the first difference
begin_apart : (x y : List ℕ) (lines i : ℕ) → BeginAlike x y lines i
    → (length x ≤ i) ⊎ ((length y ≤ i) ⊎ (get_or x i 0 ≢ get_or y i 0))
    → BeginApart (drop lines x) (drop lines y)
begin_apart x y lines i a stops line xs ys p q =
    let n = length line in
    let within_x : lines + n < length x = omega (
      arith,
      length-drop lines x,
      ap length p,
      length-append line (line_feed ∷ xs),
      a.in_first,
      a.order,
    ) in
    let within_y : lines + n < length y = omega (
      arith,
      length-drop lines y,
      ap length q,
      length-append line (line_feed ∷ ys),
      a.in_second,
      a.order,
    ) in
    let feed : get_or x (lines + n) 0 ≡ 10 = sym (get_or-drop lines x n 0)
    ∙ (ap (λ z. get_or z n 0) p ∙ get_or-append_seam line line_feed xs 0) in
    elim (cases_lt (lines + n) i) [
      | inl before ↦ absurd (a.none (lines + n) (omega arith) before feed)
      | inr past ↦ elim stops [
        | inl end ↦ absurd (omega arith)
        | inr more ↦ elim more [
          | inl end ↦ absurd (omega arith)
          | inr differs ↦ absurd (differs (alike i (omega (arith, a.order)) (omega arith)))
        ]
      ]
    ]
  where
    front : (zs : List ℕ) (k : ℕ) → k < length line + 1
        → get_or (line ++ (line_feed ∷ zs)) k 0 ≡ get_or (line ++ (line_feed ∷ [])) k 0
    front zs k below = ap (λ z. get_or z k 0) (sym (append_assoc line (line_feed ∷ []) zs))
        ∙ get_or_append_left (line ++ (line_feed ∷ [])) zs 0 k
        (omega (arith, length-append line (line_feed ∷ [])))

    alike : (k : ℕ) → lines ≤ k → k ≤ lines + length line → get_or x k 0 ≡ get_or y k 0
    alike k from upto =
        let place : lines + (k - lines) ≡ k = omega arith in
        let below : k - lines < length line + 1 = omega arith in
        let left : get_or x k 0 ≡ get_or (line ++ (line_feed ∷ [])) (k - lines) 0 =
        ap (λ m. get_or x m 0) (sym place) ∙ (sym (get_or-drop lines x (k - lines) 0)
        ∙ (ap (λ z. get_or z (k - lines) 0) p ∙ front xs (k - lines) below)) in
        let right : get_or y k 0 ≡ get_or (line ++ (line_feed ∷ [])) (k - lines) 0 =
        ap (λ m. get_or y m 0) (sym place) ∙ (sym (get_or-drop lines y (k - lines) 0)
        ∙ (ap (λ z. get_or z (k - lines) 0) q ∙ front ys (k - lines) below)) in
        left ∙ sym right

pub start_lines : (x y : List ℕ) (lines i : ℕ) → BeginAlike x y lines i
    → (length x ≤ i) ⊎ ((length y ≤ i) ⊎ (get_or x i 0 ≢ get_or y i 0)) → StartLines x y lines
start_lines x y lines i a stops = record {
  in_first = omega (arith, a.in_first, a.order);
  in_second = omega (arith, a.in_second, a.order);
  same = sym (take-take lines i x a.order) ∙ (ap (take lines) a.same ∙ take-take lines i y a.order);
  first_line = a.first_line;
  second_line = a.second_line;
  all = begin_apart x y lines i a stops;
}

-- ---- lines at the end

-- the last n bytes are equal, and the last of the places among them where both begin a line is so many bytes before the end
pub record EndAlike (x y : List ℕ) (lines n : ℕ) : Type 0 where
  pub same : drop (length x - n) x ≡ drop (length y - n) y
  pub in_first : n ≤ length x
  pub in_second : n ≤ length y
  pub order : lines ≤ n
  pub first_line : (lines ≡ 0) ⊎ StartsLine x (length x - lines)
  pub second_line : (lines ≡ 0) ⊎ StartsLine y (length y - lines)
  pub none : (m : ℕ) → lines < m → m ≤ n → StartsLine x (length x - m)
      → StartsLine y (length y - m) → ⊥

drop_more : (x : List ℕ) (n : ℕ) → n < length x → drop (length x - (n + 1)) x
    ≡ get_or x (length x - (n + 1)) 0 ∷ drop (length x - n) x
drop_more x n within =
    let next : suc (length x - (n + 1)) ≡ length x - n = omega arith in
    drop-cons x (length x - (n + 1)) 0 (omega arith)
    ∙ ap (λ k. get_or x (length x - (n + 1)) 0 ∷ drop k x) next

pub more_same : (x y : List ℕ) (lines n : ℕ) → EndAlike x y lines n → n < length x → n < length y
    → get_or x (length x - (n + 1)) 0 ≡ get_or y (length y - (n + 1)) 0
    → drop (length x - (n + 1)) x ≡ drop (length y - (n + 1)) y
more_same x y lines n a p q e = drop_more x n p
    ∙ (ap (λ b. b ∷ drop (length x - n) x) e
    ∙ (ap (λ bs. get_or y (length y - (n + 1)) 0 ∷ bs) a.same ∙ sym (drop_more y n q)))

pub end_next : (x y : List ℕ) (lines n : ℕ) → EndAlike x y lines n → n < length x → n < length y
    → get_or x (length x - (n + 1)) 0 ≡ get_or y (length y - (n + 1)) 0
    → (StartsLine x (length x - (n + 1)) → StartsLine y (length y - (n + 1)) → ⊥)
    → EndAlike x y lines (n + 1)
end_next x y lines n a p q e no_line = record {
  same = more_same x y lines n a p q e;
  in_first = omega arith;
  in_second = omega arith;
  order = omega (arith, a.order);
  first_line = a.first_line;
  second_line = a.second_line;
  none = λ m past upto left right. elim (cases_lt m (n + 1)) [
    | inl before ↦ a.none m past (omega arith) left right
    | inr last ↦ let at : m ≡ n + 1 = omega arith in
        no_line (subst (λ k. StartsLine x (length x - k)) at left)
        (subst (λ k. StartsLine y (length y - k)) at right)
  ];
}

pub end_line : (x y : List ℕ) (lines n : ℕ) → EndAlike x y lines n → n < length x → n < length y
    → get_or x (length x - (n + 1)) 0 ≡ get_or y (length y - (n + 1)) 0
    → StartsLine x (length x - (n + 1)) → StartsLine y (length y - (n + 1))
    → EndAlike x y (n + 1) (n + 1)
end_line x y lines n a p q e left right = record {
  same = more_same x y lines n a p q e;
  in_first = omega arith;
  in_second = omega arith;
  order = omega arith;
  first_line = inr left;
  second_line = inr right;
  none = λ m past upto _ _. absurd (omega arith);
}

-- whole lines before a place begin a line there
lines_start : (x xs lines : List ℕ) (n : ℕ) → n ≤ length x → take n x ≡ xs ++ lines → AreLines xs
    → StartsLine x (length xs)
lines_start x xs lines n within e (inl none) = inl (ap length none)
lines_start x xs lines n within e (inr (front, fed)) =
    let k = length front in
    let size : length xs ≡ k + 1 = ap length fed ∙ length-append front (line_feed ∷ []) in
    let inside : k < n = omega (
      arith,
      ap length e,
      length-append xs lines,
      length-take-le n x within,
      size,
    ) in
    let last : k ≡ length xs - 1 = omega (arith, size) in
    let in_xs : get_or (xs ++ lines) k 0 ≡ 10 =
    get_or_append_left xs lines 0 k (omega (arith, size))
    ∙ (ap (λ z. get_or z k 0) fed ∙ get_or-append_seam front line_feed [] 0) in
    inr (
      omega (arith, size),
      subst (λ m. get_or x m 0 ≡ 10) last
          (sym (get_or-take n x k 0 inside) ∙ (ap (λ z. get_or z k 0) e ∙ in_xs)),
    )

-- lines that both end with would begin after the last difference
end_apart : (x y : List ℕ) (lines n : ℕ) → EndAlike x y lines n
    → (length x ≤ n) ⊎ ((length y ≤ n)
    ⊎ (get_or x (length x - (n + 1)) 0 ≢ get_or y (length y - (n + 1)) 0))
    → EndApart (take (length x - lines) x) (take (length y - lines) y)
end_apart x y lines n a stops ls xs ys some whole_x whole_y p q =
    let m = lines + length ls in
    let size_x : length xs ≡ length x - m = omega (
      arith,
      ap length p,
      length-append xs ls,
      length-take-le (length x - lines) x (omega arith),
    ) in
    let size_y : length ys ≡ length y - m = omega (
      arith,
      ap length q,
      length-append ys ls,
      length-take-le (length y - lines) y (omega arith),
    ) in
    let in_x : m ≤ length x = omega (
      arith,
      ap length p,
      length-append xs ls,
      length-take-le (length x - lines) x (omega arith),
      a.in_first,
      a.order,
    ) in
    let in_y : m ≤ length y = omega (
      arith,
      ap length q,
      length-append ys ls,
      length-take-le (length y - lines) y (omega arith),
      a.in_second,
      a.order,
    ) in
    elim (cases_lt n m) [
      | inr upto ↦ absurd (a.none m (omega arith) upto
          (subst (StartsLine x) size_x
          (lines_start x xs ls (length x - lines) (omega arith) p whole_x))
          (subst (StartsLine y) size_y
          (lines_start y ys ls (length y - lines) (omega arith) q whole_y)))
      | inl past ↦ elim stops [
        | inl end ↦ absurd (omega arith)
        | inr more ↦ elim more [
          | inl end ↦ absurd (omega arith)
          | inr differs ↦ absurd (differs
              (byte x xs (omega arith) in_x past (omega (arith, a.order)) size_x p
              ∙ sym (byte y ys (omega arith) in_y past (omega (arith, a.order)) size_y q)))
        ]
      ]
    ]
  where
    byte : (z zs : List ℕ) → lines ≤ length z → lines + length ls ≤ length z
        → n < lines + length ls → lines ≤ n → length zs ≡ length z - (lines + length ls)
        → take (length z - lines) z ≡ zs ++ ls
        → get_or z (length z - (n + 1)) 0 ≡ get_or ls ((lines + length ls) - (n + 1)) 0
    byte z zs in_z inside past order size e =
        let k = length z - (n + 1) in
        let place : k ≡ length zs + ((lines + length ls) - (n + 1)) = omega arith in
        sym (get_or-take (length z - lines) z k 0 (omega arith))
        ∙ (ap (λ l. get_or l k 0) e ∙ (ap (λ j. get_or (zs ++ ls) j 0) place
        ∙ get_or-append-add zs ls ((lines + length ls) - (n + 1)) 0))

pub end_lines : (x y : List ℕ) (lines n : ℕ) → EndAlike x y lines n
    → (length x ≤ n) ⊎ ((length y ≤ n)
    ⊎ (get_or x (length x - (n + 1)) 0 ≢ get_or y (length y - (n + 1)) 0)) → EndLines x y lines
end_lines x y lines n a stops = record {
  in_first = omega (arith, a.in_first, a.order);
  in_second = omega (arith, a.in_second, a.order);
  same = same_end;
  first_line = a.first_line;
  second_line = a.second_line;
  all = end_apart x y lines n a stops;
}
  where
    same_end : drop (length x - lines) x ≡ drop (length y - lines) y
    same_end =
        let left : (length x - n) + (n - lines) ≡ length x - lines =
        omega (arith, a.in_first, a.order) in
        let right : (length y - n) + (n - lines) ≡ length y - lines =
        omega (arith, a.in_second, a.order) in
        ap (λ k. drop k x) (sym left) ∙ (sym (drop-drop (n - lines) (length x - n) x)
        ∙ (ap (drop (n - lines)) a.same ∙ (drop-drop (n - lines) (length y - n) y
        ∙ ap (λ k. drop k y) right)))
