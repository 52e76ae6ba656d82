-- The loop over accesses in a primary, at a depth.
use Rattle.std.specs.Prelude.{◌≡◌, ◌&&◌, ℕ, Bool, true, false, List, [], ◌∷◌, ◌++◌}
use Rattle.std.proofs.Common.{refl}
use Rattle.cedar_tokens.specs.declared.kind.Kind.TheVariants as K
use Rattle.cedar_tokens.specs.Kinds.{is, begins}
use Rattle.cedar_grammar.specs.Trees.{Label, Forest, none, branch}
use Rattle.cedar_grammar.specs.Reader.Reading.{done, stuck}
use Rattle.cedar_grammar.specs.Reader.Lines as L
use Rattle.cedar_grammar.specs.Reader.Lines.{◌∥◌, field, index, call, access_rule, member_rule}
use Rattle.cedar_grammar.specs.Erased.{access_parts}
use Rattle.cedar_reading.specs.Reading.{kind, flat, Stands}
use Rattle.cedar_cst.specs.ReadingExprs.{at_depth}
use Rattle.cedar_reading.specs.declared.lexeme.Lexeme.{Lexeme}
use Rattle.cedar_grammar.specs.declared.tree.Node.{Node}
use Rattle.cedar_grammar.specs.declared.tree.Primary as Primary
use Rattle.cedar_grammar.specs.declared.tree.MemAccess as MemAccess
use Rattle.cedar_reading.proofs.Operands.{AccessesRead, accesses_next, accesses_stuck, one_access, grown}
use Rattle.cedar_reading.proofs.AccessLaws.{turn_fails, turn_plain, turn_called, turn_called_fails, two_accesses}
use Rattle.cedar_cst.proofs.Depths.{depth_takes}
use Rattle.cedar_cst.proofs.Primaries.{begins_turn}

module _ (d : ℕ) where
  -- a primary and the accesses read so far
  abbrev pub MemberRead : Node Primary.Primary → List (Node MemAccess.MemAccess) → List Lexeme
      → List Lexeme → Type 0
  MemberRead = AccessesRead (at_depth d L.item) begins_turn (at_depth d access_rule)

  -- b says whether a field was read
  pub member_plain : (item : Node Primary.Primary) (access more : List (Node MemAccess.MemAccess))
      (ts rest s : List Lexeme) (b : Bool) (n : Node MemAccess.MemAccess) (f : Forest Label Lexeme)
      → MemberRead item access ts rest → begins_turn rest ≡ true
      → b ≡ begins kind (is K.Dot) rest
      → flat (field ∥ index) rest ≡ done (branch Label.access f none) s
      → Stands n.span (access_parts n.inner) f → more ≡ access ++ n ∷ []
      → (b && begins kind (is K.LParen) s) ≡ false → MemberRead item more ts s
  member_plain item access more ts rest s b n f p t e r h m c =
      accesses_next (at_depth d L.item) begins_turn (at_depth d access_rule) (depth_takes d
      access_rule refl refl) item access (n ∷ []) more ts rest s n.span (branch Label.access f none)
      p t (turn_plain (flat field) (flat index) (at_depth d call) b rest f s e r c) refl
      (one_access n f h) (λ z. refl) m

  pub member_called : (item : Node Primary.Primary)
      (access more whole : List (Node MemAccess.MemAccess)) (ts rest s u : List Lexeme) (b : Bool)
      (n m : Node MemAccess.MemAccess) (f g : Forest Label Lexeme) → MemberRead item access ts rest
      → begins_turn rest ≡ true
      → b ≡ begins kind (is K.Dot) rest
      → flat (field ∥ index) rest ≡ done (branch Label.access f none) s
      → Stands n.span (access_parts n.inner) f → more ≡ access ++ n ∷ []
      → (b && begins kind (is K.LParen) s) ≡ true
      → at_depth d call s ≡ done (branch Label.access g none) u
      → Stands m.span (access_parts m.inner) g → whole ≡ more ++ m ∷ [] → MemberRead item whole ts u
  member_called item access more whole ts rest s u b n m f g p t e r h k c i j w =
      accesses_next (at_depth d L.item) begins_turn (at_depth d access_rule)
      (depth_takes d access_rule refl refl) item access (n ∷ m ∷ []) whole ts rest u _
      (branch Label.access f (branch Label.access g none)) p t
      (turn_called (flat field) (flat index) (at_depth d call) b rest f s g u e r c i) refl
      (two_accesses n m f g h j) (λ z. refl) (grown access more whole n m k w)

  pub member_fails : (item : Node Primary.Primary) (access : List (Node MemAccess.MemAccess))
      (ts rest : List Lexeme) (x : Bool) (r : List Lexeme) → MemberRead item access ts rest
      → begins_turn rest ≡ true → flat (field ∥ index) rest ≡ stuck x r
      → at_depth d member_rule ts ≡ stuck x r
  member_fails item access ts rest x r p t e =
      accesses_stuck (at_depth d L.item) begins_turn (at_depth d access_rule) item access ts rest x
      r p t (turn_fails (flat field) (flat index) (at_depth d call) rest x r e)

  pub member_call_fails : (item : Node Primary.Primary) (access : List (Node MemAccess.MemAccess))
      (ts rest s : List Lexeme) (b : Bool) (f : Forest Label Lexeme) (x : Bool) (r : List Lexeme)
      → MemberRead item access ts rest → begins_turn rest ≡ true
      → b ≡ begins kind (is K.Dot) rest
      → flat (field ∥ index) rest ≡ done (branch Label.access f none) s
      → (b && begins kind (is K.LParen) s) ≡ true → at_depth d call s ≡ stuck x r
      → at_depth d member_rule ts ≡ stuck x r
  member_call_fails item access ts rest s b f x r p t e k c i =
      accesses_stuck (at_depth d L.item) begins_turn (at_depth d access_rule) item access ts rest x
      r p t (turn_called_fails (flat field) (flat index) (at_depth d call) b rest f s x r e k c i)
