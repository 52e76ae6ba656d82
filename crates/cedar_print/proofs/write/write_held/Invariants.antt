use Rattle.std.proofs.Common.{◌≡◌, ◌+◌, ◌≤◌, ◌++◌, replicate, string_bytes, string_len, string_capacity}
use Rattle.cedar_tokens.specs.Bytes.{space_character}
use Rattle.cedar_print.proofs.write.write_held.Given as goal

abbrev pub invariant-loop-i : goal.invariant-loop-i
invariant-loop-i l = record {
  bytes : string_bytes l.out ≡ string_bytes l.initial.out ++ replicate l._i space_character;
  len : string_len l.out ≡ string_len l.initial.out + l._i;
  capacity : string_capacity l.initial.out ≤ string_capacity l.out;
}
