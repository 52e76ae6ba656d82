use Rattle.std.proofs.Common.{◌≡◌, ◌++◌, drop, map}
use Rattle.std.specs.Prelude.{option_to_list}
use Rattle.cedar_files.specs.Tasks.{first_odd_word}
use Rattle.cedar_files.specs.Words.{odd_bytes}
use Rattle.cedar_files.proofs.TaskLemmas.{first_of}
use Rattle.cedar_files.proofs.task.odd_word.Given as goal

abbrev pub invariant-loop-value : goal.invariant-loop-value
invariant-loop-value l = first_odd_word l.words l.options
    ≡ first_of (odd_bytes l.words)
    (map (λ x. x.now) (drop l.value-index l.value-items ++ option_to_list l.options.input_name))
