use Rattle.std.proofs.Common.{◌∙◌, ◌++◌, ◌+◌, List, [], ℕ, ap, drop, get_or, map, sym}
use Rattle.std.specs.Prelude.{option_map, option_to_list}
use Rattle.cedar_files.specs.Words.{odd_bytes}
use Rattle.cedar_files.proofs.TaskLemmas.{first_of, found_value, next_value, passed_value}
use denote.Ref.{Bor}
use Rattle.cedar_files.proofs.task.odd_word.Goals as goal

pub returns-in-Some-odd_word : goal.returns-in-Some-odd_word
returns-in-Some-odd_word c =
    let odd = odd_bytes c.args.words.now in
    let items = c.deref-value-items.result.now in
    let i = c.loop-value.value-index in
    let more = option_to_list c.args.options.now.input_name in
    let nothing : Bor (List ℕ) = record { ref_ptr = (0, 0); now = [] } in
    let rest = map (λ x. x.now) (drop (i + 1) items ++ more) in
    sym (c.loop-value.invariant
    ∙ ap (λ texts. first_of odd texts) (next_value items more i nothing c.loop-value-test.true)
    ∙ found_value odd (get_or items i nothing).now rest c.in-Some-odd_word.word.now
    (sym c.in-Some-odd_word.ensures))

pub loop-value-preserved : goal.loop-value-preserved
loop-value-preserved c =
    let odd = odd_bytes c.args.words.now in
    let items = c.deref-value-items.result.now in
    let i = c.loop-value.value-index in
    let more = option_to_list c.args.options.now.input_name in
    let nothing : Bor (List ℕ) = record { ref_ptr = (0, 0); now = [] } in
    let rest = map (λ x. x.now) (drop (i + 1) items ++ more) in
    let none = sym c.odd_word.ensures
    ∙ ap (λ o. option_map (λ bytes. bytes.now) o) c.in_default-odd_word.is in
    c.loop-value.invariant
    ∙ ap (λ texts. first_of odd texts) (next_value items more i nothing c.loop-value-test.true)
    ∙ passed_value odd (get_or items i nothing).now rest none
