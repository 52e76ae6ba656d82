use Rattle.std.proofs.Common.{◌≡◌, ◌-◌, length}
use Rattle.std.specs.Prelude.{MatchBool}
use Rattle.cedar_policy_formatter.specs.Inside.Alike.{HasNext}
use Rattle.cedar_policy_formatter.proofs.fmt.compare.has_more.Given as goal

-- the reader's text stays, and with no policy so far the reader too
abbrev pub invariant-rest : goal.invariant-rest
invariant-rest l = record {
  of_text : l.reader.text ≡ l.fn.reader.text;
  found : MatchBool l.more (HasNext l.fn.reader) (l.reader ≡ l.fn.reader);
}

abbrev pub decreases-rest : goal.decreases-rest
decreases-rest l = length l.reader.text - l.reader.at
