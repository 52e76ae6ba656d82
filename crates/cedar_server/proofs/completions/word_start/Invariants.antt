use Rattle.std.proofs.Common.{ℕ, ◌<◌, ◌≤◌, IsTrue, slice_index}
use Rattle.std.specs.Str.{IsCharBoundary}
use Rattle.cedar_server.specs.Completions.{is_word_byte}
use Rattle.cedar_server.proofs.completions.word_start.Given as goal

abbrev pub invariant-loop-start : goal.invariant-loop-start
invariant-loop-start l = record {
  order : l.start ≤ l.at;
  word : (k : ℕ) → l.start ≤ k → k < l.at → IsTrue (is_word_byte (slice_index l.text k));
  boundary : IsCharBoundary l.text l.start;
}

abbrev pub decreases-loop-start : goal.decreases-loop-start
decreases-loop-start l = l.start
