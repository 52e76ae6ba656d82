-- The loop over nodes in a row.
use Rattle.std.specs.Prelude.{◌≡◌, Bool, true, false, IsTrue, List, [], ◌∷◌, ◌++◌}
use Rattle.std.proofs.Common.{refl, ap, ◌∙◌, inl}
use Rattle.cedar_grammar.specs.Trees.{Label, Forest, none, branch, join}
use Rattle.cedar_grammar.specs.Reader.Reading.{Reader, done}
use Rattle.cedar_grammar.specs.Reader.Rules.{Rule, core, nullable, refuse}
use Rattle.cedar_grammar.proofs.Readers.Equations.{Takes, IsRead, read_none, read_more}
use Rattle.cedar_grammar.proofs.Rules.Meanings.{decided}
use Rattle.cedar_grammar.proofs.Rules.Languages.{read_takes, refuse_sound}
use Rattle.cedar_grammar.specs.Erased.{Erased, node}
use Rattle.cedar_grammar.specs.NodeTrees.{is_node}
use Rattle.cedar_reading.specs.Reading.{kind, flat, Stands, StandsMany, node_trees}
use Rattle.cedar_reading.specs.declared.lexeme.Lexeme.{Lexeme}
use Rattle.cedar_grammar.specs.declared.tree.Node.{Node}
use Rattle.cedar_reading.proofs.Rows.{row_node, many_join}

pub flat_takes : (R : Rule) → IsTrue (decided (core R)) → nullable (core R) ≡ false → Takes (flat R)
flat_takes R d n = read_takes kind false refuse (λ f. ⊥) (λ f x. absurd x) (refuse_sound (λ f. ⊥))
    (λ f r x s. absurd x) (core R) d n

module _ {X : Type 0} (l : Label) (parts : X → Erased) where
  trees_grow : (ns : List (Node X)) (n : Node X) → node_trees l parts (ns ++ n ∷ [])
      ≡ join (node_trees l parts ns) (node l n.span (parts n.inner) none)
  trees_grow [] n = refl
  trees_grow (x ∷ ns) n = ap (node l x.span (parts x.inner)) (trees_grow ns n)

  module _ (t : List Lexeme → Bool) (P : Reader Lexeme) where
    pub record ManyRead (ts : List Lexeme) (items : List (Node X))
        (rest : List Lexeme) : Type 0 where
      pub row : Forest Label Lexeme
      pub read : IsRead t P ts row rest
      pub stands : StandsMany (node_trees l parts items) row

    pub many_first : (ts : List Lexeme) (items : List (Node X)) → items ≡ [] → ManyRead ts items ts
    many_first ts items e = record {
      row = none;
      read = read_none t P ts;
      stands = record { same = λ r. ap (node_trees l parts) e; place = inl refl };
    }

    pub many_next : is_node l ≡ true → Takes P → (ts rest s : List Lexeme)
        (items more : List (Node X)) (n : Node X) (f : Forest Label Lexeme) → ManyRead ts items rest
        → t rest ≡ true → P rest ≡ done (branch l f none) s
        → Stands n.span (parts n.inner) f → more ≡ items ++ n ∷ [] → ManyRead ts more s
    many_next i takes ts rest s items more n f p h e g m = record {
      row = join p.row (branch l f none);
      read = read_more t P takes ts p.row rest (branch l f none) s p.read h e;
      stands =
          let k = many_join n.span (node_trees l parts items) (node l n.span (parts n.inner) none)
          p.row (branch l f none) refl p.stands (row_node l n.span (parts n.inner) f i g) in
          record {
            same = λ r. ap (node_trees l parts) m ∙ trees_grow items n ∙ k.same r;
            place = k.place;
          };
    }
