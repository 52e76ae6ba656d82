use Rattle.std.proofs.Common.{◌≡◌, ◌∙◌, ◌+◌, ◌<◌, ap, codes, drop, get_or, length, map, string_bytes, subst, sym}
use Rattle.std.specs.Str.{bytes_eq}
use Rattle.cedar_files.specs.Words.{odd_bytes, odd_option_of}
use Rattle.cedar_files.proofs.WordLemmas.{found_bytes, next_text, passed_bytes, passed_text}
use Rattle.cedar_files.proofs.words.Words.odd_option.Goals as goal
use Rattle.cedar_files.proofs.words.Words.odd_option.Goals.{in-Text+else-eq, in-Bytes+else-starts_with}

pub returns-then-starts_with : goal.returns-then-starts_with
returns-then-starts_with c =
    let odd = odd_bytes c.args.self.now in
    let items = c.args.self.now.texts.items in
    let i = c.loop-text.text-index in
    let text = c.as_str.result.now in
    let next = next_text items i c.text-item.result text (subst (λ xs. i < length xs) c.deref-text-items.ensures.value c.loop-text-test.true)
    (subst (λ xs. c.text-item.result ≡ get_or xs i c.text-item.result) c.deref-text-items.ensures.value c.text-item.is) c.as_str.ensures.value in
    sym (c.loop-text.invariant
    ∙ ap (λ texts. odd_option_of odd texts) next
    ∙ found_bytes odd text (map string_bytes (drop (i + 1) items)) c.in-Bytes.bytes.now c.in-Bytes.ensures
    (sym c.starts_with.ensures.value ∙ c.if-starts_with.true))

pub loop-text-preserved : goal.loop-text-preserved
loop-text-preserved c =
    let odd = odd_bytes c.args.self.now in
    let items = c.args.self.now.texts.items in
    let i = c.loop-text.text-index in
    let text = c.as_str.result.now in
    let rest = map string_bytes (drop (i + 1) items) in
    let next = next_text items i c.text-item.result text (subst (λ xs. i < length xs) c.deref-text-items.ensures.value c.loop-text-test.true)
    (subst (λ xs. c.text-item.result ≡ get_or xs i c.text-item.result) c.deref-text-items.ensures.value c.text-item.is) c.as_str.ensures.value in
    c.loop-text.invariant ∙ ap (λ texts. odd_option_of odd texts) next ∙ elim c.match-word_of.branch [
      | in-Text+else-eq w ↦ passed_text odd text rest w.in-Text.ensures.0
          (ap (λ t. bytes_eq t (codes "--")) (sym w.in-Text.ensures.1) ∙ sym w.eq.ensures ∙ w.if-eq.false)
      | in-Bytes+else-starts_with w ↦
          passed_bytes odd text rest w.in-Bytes.bytes.now w.in-Bytes.ensures (sym w.starts_with.ensures.value ∙ w.if-starts_with.false)
    ]
