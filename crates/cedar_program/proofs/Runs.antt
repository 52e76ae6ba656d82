-- What the clauses of streams say about a check by the program.
use Rattle.std.proofs.Common.{◌≡◌, ◌++◌, ℕ, List, Bool, true, false, Option, Some, None, Ok, refl, sym, ap, ◌∙◌, append-nil, inl, inr}
use Rattle.cedar_streams.specs.Texts.{GivesText}
use Rattle.cedar_written.specs.Texts.{Accepted}
use Rattle.cedar_documents.specs.declared.config.Config.{Config}
use Rattle.cedar_policy_formatter.specs.Streams.{TellsCheck}
use Rattle.cedar_program.specs.Runs.{Checks, IsRead}

-- a text that was given to its end is all there was
read_of : (known new : Option (List ℕ)) (x : List ℕ) → GivesText known new x → Accepted x
    → IsRead known x
read_of None new x g a = (tt, g.1, a)
read_of (Some xs) None x g a = absurd g.0.0
read_of (Some xs) (Some ys) x g a = (sym (g.0.0 ∙ ap (λ l. x ++ l) g.0.1 ∙ append-nil x), g.1, a)

module _ (c : Config) (known new : Option (List ℕ)) (b : Bool) where
  pub is_formatted : b ≡ true → TellsCheck c.line_width c.indent_width known new (Ok b)
      → Checks c known 0
  is_formatted e (x, g, a, tells) = inr (x, read_of known new x g a, inl (refl, (g.1, tells.0 e)))

  pub is_unformatted : b ≡ false → TellsCheck c.line_width c.indent_width known new (Ok b)
      → Checks c known 3
  is_unformatted e (x, g, a, tells) = inr (
    x,
    read_of known new x g a,
    inr (refl, λ h. let bad : false ≡ true = sym e ∙ tells.1 h.1 in cc),
  )
