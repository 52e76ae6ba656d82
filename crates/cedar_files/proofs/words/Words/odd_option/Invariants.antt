use Rattle.std.proofs.Common.{◌≡◌, drop, map, string_bytes}
use Rattle.cedar_files.specs.Words.{first_odd_option, odd_option_of, odd_bytes}
use Rattle.cedar_files.proofs.words.Words.odd_option.Given as goal

abbrev pub invariant-loop-text : goal.invariant-loop-text
invariant-loop-text l = first_odd_option l.self ≡ odd_option_of (odd_bytes l.self) (map string_bytes (drop l.text-index l.self.texts.items))
