-- Parts are read on by their turns.
use Rattle.std.specs.Prelude.{◌≡◌, ℕ, zero, suc, ◌-◌, Bool, true, false, IsTrue, List, [], ◌∷◌, ◌++◌, map, Option, Some, None, if◌then◌else◌}
use Rattle.std.proofs.Common.{refl, sym, ap, ◌∙◌}
use native.Mathlib.Numerals.{unary_clauses}
use Rattle.cedar_tokens.specs.declared.kind.Kind.{Kind}
use Rattle.cedar_tokens.specs.declared.kind.Kind.TheVariants as K
use Rattle.cedar_tokens.specs.Kinds.{is}
use Rattle.cedar_grammar.specs.Reader.Reading.{Reader}
use Rattle.cedar_grammar.specs.Reader.Lines.{◌▸◌, one_of, expr_rule, or_rule}
use Rattle.cedar_grammar.specs.Reader.Rules.{Rule, inner, nullable, core}
use Rattle.cedar_faults.specs.declared.part.Part.{Part}
use Rattle.cedar_faults.specs.declared.part.Part.TheVariants as P
use Rattle.cedar_faults.specs.Inside.Turns.{Way, takes, nests, opens, table, otherwise, Step, taken, opened, stopped, last, along, first_of, turn}
use Rattle.cedar_faults.specs.Inside.PartRules.{rule_of}
use Rattle.cedar_faults.specs.Inside.Reaching.{Reach, past, stops_at, reach, on, room, inside, reads, levels_in}
use Rattle.cedar_faults.proofs.Branches.{flat, flats, rules, rule_way, rule_table, rest_of, option_rules, RuleWay, taking, nesting, opening, each_followed, branches, Begins, IsMadeOf}
use Rattle.cedar_faults.proofs.RuleReading.{on_past, on_same, reads_all, reads_append, reads_flat, Found, here, held, denied, absent, way_found, if_here, pick, follow, pick_follow, or_past, by}
use Rattle.cedar_faults.proofs.ReadBy.{reads_by, found, waits, expr_is, expr_read}
use Rattle.cedar_faults.proofs.Tables as table_of

module _ (n : ℕ) (k : Kind) (ts : List Kind) where
  -- how far a part is read, by its turn
  abbrev pub by_step : Step → Reach
  by_step (taken ps) = reads_all n (rules ps) ts
  by_step (opened ps) = reads_all n (rules ps) (k ∷ ts)
  by_step stopped = stops_at (k ∷ ts)

  -- by what is found, or else so
  abbrev by_or : Reach → Found → Reach
  by_or d (here rs) = reads_all n rs ts
  by_or d (held rs) = reads_all n rs (k ∷ ts)
  by_or d denied = stops_at (k ∷ ts)
  by_or d absent = d

  way_step : (b : Bool) (d : Reach) (w : Way) → by_step (along w b) ≡ by_or d (way_found b
      (rule_way w))
  way_step b d (takes ps) = refl
  way_step true d (nests ps) = refl
  way_step false d (nests ps) = refl
  way_step b d (opens ps) = refl

  table_step : (b : Bool) (other : Step) (t : List ((Kind → Bool) × Way)) → by_step
      (first_of t other k b) ≡ by_or (by_step other) (pick b (rule_table t) k)
  table_step b other [] = refl
  table_step b other ((p, w) ∷ t) = go (table_step b other t) (p k)
    where
      go : by_step (first_of t other k b) ≡ by_or (by_step other) (pick b (rule_table t) k) →
          (c : Bool)
          → by_step (if c then along w b else first_of t other k b) ≡ by_or (by_step other)
          (if_here c (way_found b (rule_way w)) (pick b (rule_table t) k))
      go again true = way_step b (by_step other) w
      go again false = again

  abbrev by_option : Option (List Rule) → Reach
  by_option None = stops_at (k ∷ ts)
  by_option (Some rs) = reads_all n rs (k ∷ ts)

  last_step : (o : Option (List Part)) → by_step (last o) ≡ by_option (option_rules o)
  last_step None = refl
  last_step (Some ps) = refl

  then_more : (m : Bool) (more : List Rule) (f : Found) → on (by n k ts m f)
      (reads_all n more) ≡ by_or (by_option (rest_of m more)) (follow more f)
  then_more m more (here rs) = sym (reads_append n rs more ts)
  then_more m more (held rs) = sym (reads_append n rs more (k ∷ ts))
  then_more m more denied = refl
  then_more true more absent = refl
  then_more false more absent = refl

  begun : (p : Part) → Begins p → turn p k (room n) ≡ first_of (table p) (last (otherwise p)) k
      (room n) → reads n (rule_of p) (k ∷ ts) ≡ by_step (turn p k (room n))
  begun p b e = reads_flat n (rule_of p) (k ∷ ts) ∙ ap (λ rs. reads_all n rs (k ∷ ts)) b.flat_is
      ∙ ap (λ x. on x (reads_all n b.more)) (reads_by n (waits n) k ts b.head b.is_decided)
      ∙ then_more (nullable b.head) b.more (found n (waits n) k ts b.head)
      ∙ ap (λ o. by_or (by_option o) (follow b.more (found n (waits n) k ts b.head))) b.otherwise_is
      ∙ ap (λ f. by_or (by_option (option_rules (otherwise p))) f) (sym (pick_follow
      (room n) b.more (branches b.head) k) ∙ ap (λ t. pick (room n) t k) b.table_is)
      ∙ ap (λ d. by_or d (pick (room n) (rule_table (table p)) k)) (sym (last_step (otherwise p)))
      ∙ sym (ap by_step e ∙ table_step (room n) (last (otherwise p)) (table p))

  made : (p : Part) → IsMadeOf p → reads n (rule_of p) (k ∷ ts) ≡ by_step (turn p k (room n))
  made p m = reads_flat n (rule_of p) (k ∷ ts) ∙ ap (λ rs. reads_all n rs (k ∷ ts)) m.flat_is
      ∙ sym (ap by_step (m.turn_is k (room n)))

  expr_turn : (b : Bool) → is K.If k ≡ b → reads n (rule_of P.Expr) (k ∷ ts) ≡ by_step (if b then
      (if room n then taken
      (P.Inner ∷ P.Token K.Then ∷ P.Inner ∷ P.Token K.Else ∷ P.Inner ∷ []) else stopped) else opened (P.Or ∷ []))
  expr_turn true h = expr_read n k ts true h ∙ go (room n)
    where
      go : (b : Bool) → by n k ts false (way_found b (nesting (flat (core
          (inner ▸ one_of K.Then ▸ inner ▸ one_of K.Else ▸ inner))))) ≡ by_step (if b then taken
          (P.Inner ∷ P.Token K.Then ∷ P.Inner ∷ P.Token K.Else ∷ P.Inner ∷ []) else stopped)
      go true = refl
      go false = refl
  expr_turn false h = expr_read n k ts false h ∙ reads_flat n (core or_rule) (k ∷ ts)

-- a part is read on by its turn
pub right : (p : Part) (n : ℕ) (k : Kind) (ts : List Kind) → reads n (rule_of p)
    (k ∷ ts) ≡ by_step (levels_in p n) k ts (turn p k (room n))
right P.Inner zero k ts = refl
right P.Inner (suc n) k ts = simp unary_clauses (ap (λ (R : Reader Kind). reach (R (k ∷ ts)))
    (expr_is n) ∙ reads_flat n (core expr_rule) (k ∷ ts))
right P.Expr n k ts = expr_turn n k ts (is K.If k) refl
right (P.Token own) n k ts = begun n k ts (P.Token own) (table_of.token own) refl
right P.Word n k ts = begun n k ts P.Word table_of.word refl
right P.Identifier n k ts = begun n k ts P.Identifier table_of.identifier refl
right P.Policies n k ts = begun n k ts P.Policies table_of.policies refl
right P.Policy n k ts = begun n k ts P.Policy table_of.policy refl
right P.Effect n k ts = begun n k ts P.Effect table_of.effect refl
right P.AnnotationText n k ts = begun n k ts P.AnnotationText table_of.annotation_text refl
right P.PrincipalTest n k ts = begun n k ts P.PrincipalTest table_of.principal_test refl
right P.PrincipalEntity n k ts = begun n k ts P.PrincipalEntity table_of.principal_entity refl
right P.PrincipalIn n k ts = begun n k ts P.PrincipalIn table_of.principal_in refl
right P.ActionTest n k ts = begun n k ts P.ActionTest table_of.action_test refl
right P.ActionSet n k ts = begun n k ts P.ActionSet table_of.action_set refl
right P.ResourceTest n k ts = begun n k ts P.ResourceTest table_of.resource_test refl
right P.ResourceEntity n k ts = begun n k ts P.ResourceEntity table_of.resource_entity refl
right P.ResourceIn n k ts = begun n k ts P.ResourceIn table_of.resource_in refl
right P.Entity n k ts = begun n k ts P.Entity table_of.entity refl
right P.EntityMarks n k ts = begun n k ts P.EntityMarks table_of.entity_marks refl
right P.EntityNext n k ts = begun n k ts P.EntityNext table_of.entity_next refl
right P.Entities n k ts = begun n k ts P.Entities table_of.entities refl
right P.MoreEntities n k ts = begun n k ts P.MoreEntities table_of.more_entities refl
right P.PathMarks n k ts = begun n k ts P.PathMarks table_of.path_marks refl
right P.Comma n k ts = begun n k ts P.Comma table_of.comma refl
right P.Conditions n k ts = begun n k ts P.Conditions table_of.conditions refl
right P.MoreOr n k ts = begun n k ts P.MoreOr table_of.more_or refl
right P.MoreAnd n k ts = begun n k ts P.MoreAnd table_of.more_and refl
right P.Comparison n k ts = begun n k ts P.Comparison table_of.comparison refl
right P.HasOperand n k ts = begun n k ts P.HasOperand table_of.has_operand refl
right P.Fields n k ts = begun n k ts P.Fields table_of.fields refl
right P.InAdd n k ts = begun n k ts P.InAdd table_of.in_add refl
right P.MoreAdd n k ts = begun n k ts P.MoreAdd table_of.more_add refl
right P.MoreMult n k ts = begun n k ts P.MoreMult table_of.more_mult refl
right P.Unary n k ts = begun n k ts P.Unary table_of.unary refl
right P.ThreeNegs n k ts = begun n k ts P.ThreeNegs table_of.three_negs refl
right P.TwoNegs n k ts = begun n k ts P.TwoNegs table_of.two_negs refl
right P.OneNeg n k ts = begun n k ts P.OneNeg table_of.one_neg refl
right P.ThreeDashes n k ts = begun n k ts P.ThreeDashes table_of.three_dashes refl
right P.TwoDashes n k ts = begun n k ts P.TwoDashes table_of.two_dashes refl
right P.OneDash n k ts = begun n k ts P.OneDash table_of.one_dash refl
right P.Item n k ts = begun n k ts P.Item table_of.item refl
right P.VariableMarks n k ts = begun n k ts P.VariableMarks table_of.variable_marks refl
right P.NameMarks n k ts = begun n k ts P.NameMarks table_of.name_marks refl
right P.NameNext n k ts = begun n k ts P.NameNext table_of.name_next refl
right P.Accesses n k ts = begun n k ts P.Accesses table_of.accesses refl
right P.Call n k ts = begun n k ts P.Call table_of.call refl
right P.Exprs n k ts = begun n k ts P.Exprs table_of.exprs refl
right P.MoreExprs n k ts = begun n k ts P.MoreExprs table_of.more_exprs refl
right P.Inits n k ts = begun n k ts P.Inits table_of.inits refl
right P.MoreInits n k ts = begun n k ts P.MoreInits table_of.more_inits refl
right P.Signature n k ts = made n k ts P.Signature table_of.signature
right P.Or n k ts = made n k ts P.Or table_of.or_part
right P.And n k ts = made n k ts P.And table_of.and_part
right P.Relation n k ts = made n k ts P.Relation table_of.relation
right P.Add n k ts = made n k ts P.Add table_of.add
right P.Mult n k ts = made n k ts P.Mult table_of.mult
right P.Member n k ts = made n k ts P.Member table_of.member
