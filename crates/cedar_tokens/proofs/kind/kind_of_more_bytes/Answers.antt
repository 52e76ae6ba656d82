use Rattle.std.proofs.Common.{◌≡◌, true, Bool, ℕ, List, nat_eq, nat_lt, length, ◌&&◌, not, arith}
use Rattle.std.proofs.lemmas.Bool.Decides.{nat_tests}
use Rattle.cedar_tokens.specs.Units.{keywords, slots, punctuators}
use Rattle.cedar_tokens.proofs.Prefixes.{not_one_of_passing}
use Rattle.cedar_tokens.proofs.kind.kind_of_more_bytes.Goals as goal

abbrev has_more_bytes : List ℕ → Bool
has_more_bytes u = nat_lt 2 (length u) && (not (nat_eq (length u) 4) && not (nat_eq (length u) 6))

pub returns-in_default-clause-other : goal.returns-in_default-clause-other
unfolding keywords slots punctuators
returns-in_default-clause-other c =
    let d = c.in_default in
    let u = c.args.text.now in
    let h : has_more_bytes u ≡ true = grind (arith, nat_tests, c.requires) in (
      not_one_of_passing has_more_bytes keywords u h
          (d.not-false, (d.not-has, (d.not-principal, (d.not-resource, (d.not-context, tt))))),
      not_one_of_passing has_more_bytes slots u h (d.not-text, (d.not-text-2, tt)),
      not_one_of_passing has_more_bytes punctuators u h tt,
    )
