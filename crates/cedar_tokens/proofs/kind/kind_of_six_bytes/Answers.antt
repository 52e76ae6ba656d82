use Rattle.std.proofs.Common.{◌≡◌, true, Bool, ℕ, List, nat_eq, length, arith}
use Rattle.std.proofs.lemmas.Bool.Decides.{nat_tests}
use Rattle.cedar_tokens.specs.Units.{keywords, slots, punctuators}
use Rattle.cedar_tokens.proofs.Prefixes.{not_one_of_passing}
use Rattle.cedar_tokens.proofs.kind.kind_of_six_bytes.Goals as goal

abbrev has_six_bytes : List ℕ → Bool
has_six_bytes u = nat_eq (length u) 6

pub returns-in_default-clause-other : goal.returns-in_default-clause-other
unfolding keywords slots punctuators
returns-in_default-clause-other c =
    let d = c.in_default in
    let u = c.args.text.now in
    let h : has_six_bytes u ≡ true = grind (arith, nat_tests, c.requires) in (
      not_one_of_passing has_six_bytes keywords u h
          (d.not-permit, (d.not-forbid, (d.not-unless, (d.not-action, tt)))),
      not_one_of_passing has_six_bytes slots u h tt,
      not_one_of_passing has_six_bytes punctuators u h tt,
    )
