-- What is put into a room where it fits.
use Rattle.std.specs.Prelude.{ℕ, List, Result, Ok, Err}
use Rattle.std.proofs.Common.{inl, inr, sym, arith}
use Rattle.cedar_c.specs.Answers.{TellsPut, PutsIfRoom}
use Rattle.cedar_c.specs.declared.answer.CallFault.{CallFault}
use Rattle.cedar_c.specs.declared.answer.CallFault.TheVariants.{NotUtf8, NoRoom, Format}

pub puts : (y old new : List ℕ) (r : Result ℕ CallFault) → TellsPut y old new r → PutsIfRoom y old new
puts y old new (Ok n) (e, l, p) = inl (omega (arith, e, l), rw (sym e) p)
puts y old new (Err (NoRoom n)) (e, l, p) = inr (omega (arith, e, l), p)
puts y old new (Err NotUtf8) h = absurd h
puts y old new (Err (Format f)) h = absurd h
