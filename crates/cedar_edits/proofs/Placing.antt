-- Edits by positions, one after the other.
use Rattle.std.proofs.Common.{◌≡◌, ◌+◌, ℕ, List, [], ◌∷◌, ◌++◌, length, sym, ap, ◌∙◌, subst, arith, append_assoc, append-nil, length-append}
use Rattle.std.specs.Prelude.{slice_range, string_bytes}
use Rattle.cedar_edits.specs.declared.positions.Encoding.{Encoding}
use Rattle.cedar_edits.specs.declared.changes.PlacedEdit.{PlacedEdit as Placed}
use Rattle.cedar_edits.specs.Changes.{PutsAll, PutsAllFrom}
use Rattle.cedar_edits.specs.Positions.{IsOffsetOf}
use Rattle.cedar_edits.specs.declared.edits.Edit.{Edit}
use Rattle.cedar_edits.specs.Edits.{AreInOrder, edited_by, edited_from}

-- the edits up to the byte at have their positions, and these are left: what puts the rest puts all
pub record ArePlaced (e : Encoding) (text : List ℕ) (all left : List Edit) (placed : List Placed) : Type 0 where
  pub at : ℕ
  pub order : AreInOrder text at left
  pub puts : (ps : List Placed) → PutsAllFrom e ps text at (edited_from text at left)
      → PutsAllFrom e (placed ++ ps) text 0 (edited_by text all)
  pub count : length placed + length left ≡ length all

pub none_placed : (e : Encoding) (text : List ℕ) (all left : List Edit) (placed : List Placed)
    → AreInOrder text 0 all → left ≡ all → placed ≡ [] → ArePlaced e text all left placed
none_placed e text all left placed order same none = record {
  at = 0;
  order = subst (AreInOrder text 0) (sym same) order;
  puts = λ ps rest. subst (λ qs. PutsAllFrom e (qs ++ ps) text 0 (edited_by text all)) (sym none)
      (subst (λ es. PutsAllFrom e ps text 0 (edited_by text es)) same rest);
  count = ap (λ ps. length ps + length left) none ∙ (omega (arith, ap length same));
}

pub one_more_placed : (e : Encoding) (text : List ℕ) (all left rest : List Edit)
    (placed : List Placed) (edit : Edit) (p : Placed) → left ≡ edit ∷ rest
    → ArePlaced e text all left placed → IsOffsetOf e text p.range.start edit.span.start
    → IsOffsetOf e text p.range.end edit.span.end → string_bytes p.text ≡ string_bytes edit.text
    → ArePlaced e text all rest (placed ++ (p ∷ []))
one_more_placed e text all left rest placed edit p same so_far start end bytes =
    let order = subst (AreInOrder text so_far.at) same so_far.order in
    record {
      at = edit.span.end;
      order = order.2;
      puts = λ ps more. subst (λ qs. PutsAllFrom e qs text 0 (edited_by text all))
          (sym (append_assoc placed (p ∷ []) ps)) (so_far.puts (p ∷ ps)
          (subst (λ es. PutsAllFrom e (p ∷ ps) text so_far.at (edited_from text so_far.at es))
          (sym same) (
            edit.span.start,
            edit.span.end,
            edited_from text edit.span.end rest,
            start,
            end,
            order.0,
            order.1.order,
            more,
            ap (λ put. slice_range text so_far.at edit.span.start
                ++ (put ++ edited_from text edit.span.end rest)) (sym bytes),
          )));
      count = omega (
        arith,
        so_far.count,
        length-append placed (p ∷ []),
        ap length same,
      );
    }

pub all_placed : (e : Encoding) (text : List ℕ) (all left : List Edit) (placed : List Placed)
    → left ≡ [] → ArePlaced e text all left placed → PutsAll e placed text (edited_by text all)
all_placed e text all left placed none so_far =
    subst (λ ps. PutsAllFrom e ps text 0 (edited_by text all)) (append-nil placed) (so_far.puts []
    (ap (edited_from text so_far.at) none))
