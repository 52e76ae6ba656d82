use Rattle.std.proofs.Common.{◌≡◌, ◌<◌, ◌+◌, ◌∷◌, [], ◌++◌, true, get_or, length, drop, string_bytes, sym, ap, ◌∙◌, subst, arith}
use Rattle.std.specs.Prelude.{slice_range}
use Rattle.std.proofs.lemmas.Str.{IsCharBoundary-before_ascii}
use Rattle.cedar_tokens.specs.Bytes.{carriage_return}
use Rattle.cedar_edits.specs.Inside.Before.{byte_before}
use Rattle.cedar_edits.specs.Returns.{lacks_return}
use Rattle.cedar_edits.proofs.Returning.{IsReturned, all_returned, kept_more, lacks_return_ascii, none_returned, returned_more}
use Rattle.cedar_edits.proofs.returns.with_returns.Goals as goal
use Rattle.cedar_edits.proofs.returns.with_returns.Goals.{then-lacks_return+in_ok-push_str+in_ok-push_str-2, else-lacks_return}

pub loop-i-init : goal.loop-i-init
loop-i-init c = none_returned c.args.text.now (string_bytes c.new-result.result) c.utf8.text
    c.new-result.ensures.bytes

pub loop-i-preserved : goal.loop-i-preserved
loop-i-preserved c =
    let text = c.args.text.now in
    let i = c.loop-i.i in
    let same : c.as_bytes-bytes.result.now ≡ text = c.as_bytes-bytes.ensures.value in
    let within : i < length text = omega (arith, ap length same) in
    let test : c.lacks_return.result ≡ lacks_return (byte_before text i) (get_or text i 0) =
    subst (λ z. c.lacks_return.result ≡ lacks_return (byte_before z i) (get_or z i 0)) same
    c.lacks_return.ensures in
    elim c.if-lacks_return.branch [
      | then-lacks_return+in_ok-push_str+in_ok-push_str-2 w ↦
          let bare : lacks_return (byte_before text i) (get_or text i 0) ≡ true =
          sym test ∙ w.if-lacks_return.true in
          let feed : get_or text i 0 < 128 =
          lacks_return_ascii (byte_before text i) (get_or text i 0) bare in
          let bytes : string_bytes w.push_str-then-lacks_return.new.self
          ≡ (string_bytes c.loop-i.result ++ slice_range text c.loop-i.from i)
          ++ (carriage_return ∷ []) = w.in_ok-push_str-2.ensures.bytes
          ∙ ap (λ z. z ++ (carriage_return ∷ [])) (w.in_ok-push_str.ensures.bytes
          ∙ ap (λ z. string_bytes c.loop-i.result ++ z) w.range.ensures.value) in
          rw (w.from-is, w.result-is) (subst (IsReturned text i (i + 1)) (sym bytes)
          (returned_more text c.loop-i.from i (string_bytes c.loop-i.result) c.loop-i.invariant
          within (IsCharBoundary-before_ascii text i within feed) bare))
      | else-lacks_return w ↦ rw (w.from-is, w.result-is) (kept_more text c.loop-i.from i
          (string_bytes c.loop-i.result) c.loop-i.invariant within
          (sym test ∙ w.if-lacks_return.false))
    ]

pub returns : goal.returns
returns c =
    let text = c.args.text.now in
    let end : c.loop-i.i ≡ length text = omega (arith, ap length c.as_bytes-bytes.ensures.value) in
    let rest : c.range_from.result.now ≡ drop c.loop-i.from text = c.range_from.ensures.value in
    c.in_ok-push_str-3.ensures.bytes ∙ (ap (λ z. string_bytes c.loop-i.result ++ z) rest
    ∙ all_returned text c.loop-i.from c.loop-i.i (string_bytes c.loop-i.result) c.loop-i.invariant
    end)
