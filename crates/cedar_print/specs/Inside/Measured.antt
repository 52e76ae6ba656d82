-- The measuring pass, from the last mark to the first. No public contract uses it.
use Rattle.std.specs.Prelude.{ℕ, ◌+◌, ◌^◌, List, [], ◌∷◌, reverse, Option, Some, None}
use Rattle.cedar_layout.specs.Layout.{columns}
use Rattle.cedar_print.specs.declared.measure.Known.{Known}
use Rattle.cedar_print.specs.WrittenMarks.{Mark, text, line, line_or_nil, hard, nest, end_nest, begin, end_group, end_nothing}

-- what is known at a mark about the marks from there on: the next end, break and beginning come first
pub record Facts : Type 0 where
  pub columns : ℕ
  pub stop : ℕ
  pub ends : List (Option ℕ)
  pub breaks : List ℕ
  pub begins : List (Option ℕ)

-- the first of a list, or this if it is empty
abbrev pub first_or : {A : Type 0} → A → List A → A
first_or x [] = x
first_or x (y ∷ ys) = y

-- a list without its first
abbrev pub others : {A : Type 0} → List A → List A
others [] = []
others (x ∷ xs) = xs

-- before a break that takes this many columns where it is laid out flat
abbrev pub before_break : ℕ → Facts → Facts
before_break n k = record k { columns = n + k.columns; stop = n + k.columns; breaks = k.columns ∷ k.breaks }

-- before an end of which this is known
abbrev pub before_end : Option ℕ → Facts → Facts
before_end e k = record k { ends = e ∷ k.ends }

-- what is known before a mark
abbrev pub before : Mark → Facts → Facts
before (text s) k = record k { columns = columns s + k.columns }
before line k = before_break 1 k
before line_or_nil k = before_break 0 k
before hard k = before_break (2 ^ 64) k
before (nest n) k = record k { ends = others k.ends }
before begin k = record k { ends = others k.ends; begins = first_or None k.ends ∷ k.begins }
before end_nest k = before_end None k
before end_nothing k = before_end None k
before end_group k = before_end (Some k.stop) k

abbrev pub facts : List Mark → Facts
facts [] = record { columns = 0; stop = 0; ends = []; breaks = []; begins = [] }
facts (m ∷ ms) = before m (facts ms)

abbrev pub facts_of : Known → Facts
facts_of k = record { columns = k.columns; stop = k.stop; ends = reverse k.ends.items; breaks = reverse k.breaks.items; begins = reverse k.begins.items }
