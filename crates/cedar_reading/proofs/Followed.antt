-- What was read, and the token after it.
use Rattle.std.specs.Prelude.{◌≡◌, ℕ, List, Result, Ok, Err}
use Rattle.std.specs.Borrow.{Bor}
use Rattle.cedar_tokens.specs.declared.kind.Kind.{Kind}
use Rattle.cedar_grammar.specs.Trees.{Label, Forest, none, leaf, branch}
use Rattle.cedar_grammar.specs.Reader.Reading.{Reader, done, both, one}
use Rattle.cedar_grammar.proofs.Readers.Equations.{both_done, both_fails, both_then_fails}
use Rattle.cedar_grammar.specs.Erased.{Erased}
use Rattle.cedar_reading.specs.Reading.{kind, Fails, Stands, GivesNode, FollowedBy}
use Rattle.cedar_reading.specs.declared.lexeme.Lexeme.{Lexeme}
use Rattle.cedar_reading.specs.declared.reading.Refusal.{Refusal}
use Rattle.cedar_grammar.specs.declared.tree.Node.{Node}
use Rattle.cedar_reading.proofs.Steps.{passes}

module _ {X : Type 0} (l : Label) (parts : X → Erased) (k : Kind) (P : Reader Lexeme)
    (ts : List Lexeme) where
  pub followed_fails : (read : Result (Node X × Bor (List Lexeme)) Refusal) (e : Refusal)
      → GivesNode l parts read (P ts) → FollowedBy k read (Err e) → Fails e (both P (one kind k) ts)
  followed_fails (Ok x) e g c = passes e (one kind k x.1.now) _ c
      (λ b r i. both_then_fails P (one kind k) ts (branch l g.0 none) x.1.now b r g.1 i)
  followed_fails (Err f) e g c =
      rw c (passes f (P ts) _ g (λ b r i. both_fails P (one kind k) ts b r i))

  pub followed_done : (read : Result (Node X × Bor (List Lexeme)) Refusal)
      (y : (Node X × ℕ) × Bor (List Lexeme)) → GivesNode l parts read (P ts)
      → FollowedBy k read (Ok y)
      → (f : Forest Label Lexeme) × (t : Lexeme) × (both P (one kind k) ts
      ≡ done (branch l f (leaf t none)) y.1.now) × (t.kind ≡ k)
      × Stands y.0.0.span (parts y.0.0.inner) f × (y.0.1 ≡ t.span.end)
  followed_done (Ok x) y g c = (
    g.0,
    c.1,
    both_done P (one kind k) ts (branch l g.0 none) x.1.now (leaf c.1 none) y.1.now g.1 c.2,
    c.3,
    rw c.0 g.2,
    c.4,
  )
  followed_done (Err f) y g c = absurd c
