use Rattle.std.proofs.Common.{◌≡◌, ◌++◌, List, take}
use Rattle.cedar_server.specs.Symbols.{AreSymbolsOf}
use Rattle.cedar_server.specs.declared.symbols.Symbol.{Symbol}
use Rattle.cedar_server.proofs.symbols.push_symbols.Given as goal

abbrev pub invariant-loop-policy : goal.invariant-loop-policy
invariant-loop-policy l = (ss : List Symbol) × AreSymbolsOf l.section l.from (take l.policy-index l.policy-items) ss
    × (l.symbols.items ≡ l.fn.symbols.items ++ ss)
