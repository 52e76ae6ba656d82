-- What is still to be read after the tokens of a text.
use Rattle.std.specs.Prelude.{◌≡◌, ◌≢◌, ◌↔◌, ℕ, Bool, true, false, IsTrue, List, [], ◌∷◌, ◌++◌, map, drop, length, Contains, Result, Ok, Err, IfOk}
use Rattle.std.specs.List.{filter, list_all, list_any}
use Rattle.std.proofs.Common.{refl, sym, ap, ◌∙◌, append_assoc, append-nil, subst, arith}
use Rattle.std.proofs.lemmas.List.{map-append}
use Rattle.std.proofs.lemmas.List.Elements.{filter-append}
use Rattle.cedar_tokens.specs.Split.{Scans, SplitsInto}
use Rattle.cedar_tokens.specs.Units.{is_token, IsFirstUnit, BeginsNoUnit}
use Rattle.cedar_tokens.specs.TokenKinds.{kind_of}
use Rattle.cedar_tokens.specs.declared.kind.Kind.{Kind}
use Rattle.cedar_tokens.proofs.Gaps.{split_after}
use Rattle.cedar_tokens.proofs.Scanning.{scan_more}
use Rattle.cedar_grammar.specs.Texts.{only_tokens}
use Rattle.cedar_tokens.specs.Units.{IsToken}
use Rattle.cedar_grammar.specs.Laws.{AreTokens}
use Rattle.cedar_grammar.specs.Beginnings.{Begins}
use Rattle.cedar_grammar.specs.Trees as L
use Rattle.cedar_grammar.specs.Reader.Lines.{set_to, policy_rule}
use Rattle.cedar_grammar.specs.Reader.Reading.{Answer, done, stuck}
use Rattle.cedar_grammar.specs.Reader.Rules.{star, core}
use Rattle.cedar_grammar.proofs.Answers.{Says, says}
use Rattle.cedar_grammar.proofs.Rules.Maps.{each, answer_of, set_agrees}
use Rattle.cedar_grammar.proofs.Texts.Cuts.{whole_begins, not_hopeless}
use Rattle.cedar_grammar.proofs.Texts.Grammars.{grammars_agree}
use Rattle.cedar_grammar.proofs.Texts.Kinds.{samples}
use Rattle.cedar_grammar.proofs.Trees.Relabelling.{each_map}
use Rattle.cedar_grammar.proofs.Texts.Accepted.{are_tokens}
use Rattle.cedar_faults.specs.declared.part.Part.{Part}
use Rattle.cedar_faults.specs.Expectations.{AreAllAfter, IsList}
use Rattle.cedar_faults.specs.Inside.TokenBeginnings.{KindsFollow, HasTree}
use Rattle.cedar_faults.specs.Inside.Turns.{is_optional}
use Rattle.cedar_faults.specs.Samples.{sample}
use Rattle.cedar_faults.proofs.Deciding.{at_end, by_kinds, can_begin, begins, with_token}
use Rattle.cedar_faults.proofs.Following.{follows, is_follows}
use Rattle.cedar_faults.proofs.SampleTokens.{sample_token, sample_kind}
use Rattle.cedar_faults.proofs.Probed.{of_units}
use Rattle.cedar_faults.proofs.RuleReading.{on_same, on_past, reach_tree}
use Rattle.cedar_faults.proofs.Pendings.{all_ended, ended}
use Rattle.cedar_faults.specs.declared.pending.Pending.{Pending}
use Rattle.cedar_faults.specs.Inside.Reaching.{Reach, past, left, reach, reads, reads_parts}
use Rattle.cedar_faults.specs.Inside.Pendings.{parts_of, all_pending, IsAfter, NeverRead, ReadsOn, CanRead, CanEnd}

-- the kinds of the tokens of units
abbrev pub kinds_of : List (List ℕ) → List Kind
kinds_of us = map kind_of (only_tokens us)

kinds_append : (us vs : List (List ℕ)) → kinds_of (us ++ vs) ≡ kinds_of us ++ kinds_of vs
kinds_append us vs = ap (map kind_of) (filter-append is_token us vs) ∙ map-append kind_of
    (only_tokens us) (only_tokens vs)

one_kind : (us : List (List ℕ)) (u : List ℕ) → is_token u ≡ true → kinds_of
    (us ++ u ∷ []) ≡ kinds_of us ++ kind_of u ∷ []
one_kind us u t = kinds_append us (u ∷ []) ∙ ap (λ z. kinds_of us ++ z) (rw t refl)

no_kind : (us : List (List ℕ)) (u : List ℕ) → is_token u ≡ false → kinds_of
    (us ++ u ∷ []) ≡ kinds_of us
no_kind us u t = kinds_append us (u ∷ []) ∙ ap (λ z. kinds_of us ++ z) (rw t refl) ∙ append-nil
    (kinds_of us)

-- before any token
pub after_none : (p : Pending) → parts_of p ≡ all_pending → IsAfter [] p
after_none p e ts = ap (λ xs. reads_parts xs ts) (sym e)

-- after one more token, or a blank or comment
pub after_token : (us : List (List ℕ)) (u : List ℕ) (old new : Pending) (k : Kind)
    → is_token u ≡ true → k ≡ kind_of u
    → IsAfter (kinds_of us) old → ReadsOn old k new true → IsAfter (kinds_of (us ++ u ∷ [])) new
after_token us u old new k t e h r ts = ap (λ z. reads_parts all_pending (z ++ ts))
    (one_kind us u t ∙ ap (λ z. kinds_of us ++ z ∷ []) (sym e))
    ∙ ap (reads_parts all_pending) (append_assoc (kinds_of us) (k ∷ []) ts) ∙ h (k ∷ ts) ∙ r ts

pub after_other : (us : List (List ℕ)) (u : List ℕ) (p : Pending) → is_token u ≡ false → IsAfter
    (kinds_of us) p → IsAfter (kinds_of (us ++ u ∷ [])) p
after_other us u p t h = subst (λ z. IsAfter z p) (sym (no_kind us u t)) h

-- a token that can't come
pub never_read : (us vs : List (List ℕ)) (u : List ℕ) (old new : Pending) (k : Kind)
    → is_token u ≡ true → k ≡ kind_of u
    → IsAfter (kinds_of us) old → ReadsOn old k new false → NeverRead (kinds_of
    ((us ++ u ∷ []) ++ vs))
never_read us vs u old new k t e h r ts i = absurd (let z : k ∷ (kinds_of vs ++ ts) ≡ [] = sym (r
    (kinds_of vs ++ ts)) ∙ sym (ap left whole) ∙ i in cc)
  where
    whole : reads_parts all_pending (kinds_of ((us ++ u ∷ []) ++ vs) ++ ts) ≡ reads_parts
        (parts_of old) (k ∷ (kinds_of vs ++ ts))
    whole = ap (λ z. reads_parts all_pending (z ++ ts)) (kinds_append (us ++ u ∷ []) vs ∙ ap
        (λ z. z ++ kinds_of vs) (one_kind us u t ∙ ap (λ z. kinds_of us ++ z ∷ []) (sym e)))
        ∙ ap (reads_parts all_pending) (append_assoc (kinds_of us ++ k ∷ []) (kinds_of vs) ts
        ∙ append_assoc (kinds_of us) (k ∷ []) (kinds_of vs ++ ts))
        ∙ h (k ∷ (kinds_of vs ++ ts))

-- the units up to the end of the text
pub ends_all : (us units : List (List ℕ)) (text rest : List ℕ) → Scans us text rest
    → BeginsNoUnit rest → SplitsInto text units → units ≡ us
ends_all us units text rest s none h = let r = split_after us units text rest s h in r.1 ∙ ap
    (λ z. us ++ z) (nothing r.0 r.2) ∙ append-nil us
  where
    nothing : (vs : List (List ℕ)) → SplitsInto rest vs → vs ≡ []
    nothing [] i = refl
    nothing (v ∷ vs) i = absurd (none v i.0.kind i.0.begins)

-- nothing is left of no tokens
left_ended : (xs : List (Part × ℕ)) → left (reads_parts xs []) ≡ []
left_ended xs = ap left (all_ended xs) ∙ go (list_all (λ q. is_optional q.0) xs)
  where
    go : (b : Bool) → left (ended b) ≡ []
    go true = refl
    go false = refl

-- a copy that has read on tells whether the kind can come
pub can_read : (old self new : Pending) (k : Kind) (b : Bool) → parts_of old ≡ parts_of self
    → ReadsOn old k new b → CanRead self k b
can_read old self new k true e r = ap (λ xs. left (reads_parts xs (k ∷ []))) (sym e) ∙ ap left
    (r []) ∙ left_ended (parts_of new)
can_read old self new k false e r = ap (λ xs. left (reads_parts xs (k ∷ []))) (sym e) ∙ r []

pub if_read : {E : Type 0} {P Q : Bool → Type 0} (r : Result Bool E) → ((b : Bool) → P b → Q b)
    → IfOk r P → IfOk r Q
if_read (Ok b) f h = f b h
if_read (Err e) f h = h

-- what is left tells whether a list of the grammar begins with tokens, and whether they are one
abbrev is_nil : List Kind → Bool
is_nil [] = true
is_nil (k ∷ ks) = false

end_left : (x : Answer Kind) → at_end x ≡ is_nil (left (reach x))
end_left (done f []) = refl
end_left (done f (a ∷ r)) = refl
end_left (stuck b []) = refl
end_left (stuck b (a ∷ r)) = refl

set_reach : (ks : List Kind) → reach (set_to (λ k. k) 128 ks) ≡ reads_parts all_pending ks
set_reach ks = reach_tree L.policies _ ks ∙ sym (on_same (reads 129 (star (core policy_rule)) ks)
    (reads_parts []) past (λ r. refl) ∙ on_past (reads 129 (star (core policy_rule)) ks))

kinds_same : (ts : List (List ℕ)) → each kind_of ts ≡ map kind_of ts
kinds_same ts = each_map kind_of ts

begins_left : (ts : List (List ℕ)) → can_begin 128 ts ≡ is_nil (left (reads_parts all_pending
    (map kind_of ts)))
begins_left ts = by_kinds 128 ts ∙ end_left (set_to (λ k. k) 128 (each kind_of ts)) ∙ ap
    (λ x. is_nil (left x)) (set_reach (each kind_of ts))
    ∙ ap (λ ks. is_nil (left (reads_parts all_pending ks))) (kinds_same ts)

with_kind : (us : List (List ℕ)) (t : List ℕ) (k : Kind) → kind_of t ≡ k → map kind_of
    (only_tokens us ++ t ∷ []) ≡ kinds_of us ++ k ∷ []
with_kind us t k e = map-append kind_of (only_tokens us) (t ∷ []) ∙ ap
    (λ z. kinds_of us ++ z ∷ []) e

read_is : (p : Pending) (k : Kind) (b : Bool) → CanRead p k b → is_nil (left (reads_parts
    (parts_of p) (k ∷ []))) ≡ b
read_is p k true h = ap is_nil h
read_is p k false h = ap is_nil h

-- a kind follows if it can be read
pub reads_follow : (us : List (List ℕ)) (p : Pending) (k : Kind) (b : Bool) → IsAfter
    (kinds_of us) p → CanRead p k b → b ≡ follows us k
reads_follow us p k b a h = is_follows us k b (
  λ i. (begins 128 ts tokens).0 (same
      ∙ i),
  λ x. sym same ∙ (begins 128 ts tokens).1 x,
)
  where
    ts : List (List ℕ)
    ts = only_tokens us ++ sample k ∷ []

    tokens : AreTokens (λ t. t) (only_tokens us ++ sample k ∷ [])
    tokens = with_token (only_tokens us) (sample k) (are_tokens us) (sample_token k)

    same : can_begin 128 (only_tokens us ++ sample k ∷ []) ≡ b
    same = begins_left (only_tokens us ++ sample k ∷ [])
        ∙ ap (λ ks. is_nil (left (reads_parts all_pending ks))) (with_kind us (sample k) k
        (sample_kind k))
        ∙ ap (λ x. is_nil (left x)) (a (k ∷ [])) ∙ read_is p k b h

not_nil : (ks : List Kind) → ks ≢ [] → is_nil ks ≡ false
not_nil [] h = absurd (h refl)
not_nil (k ∷ ks) h = refl

never_begins : (us : List (List ℕ)) (t : List ℕ) → NeverRead (kinds_of us) → IsToken t → ¬
    (Begins 128 (only_tokens us ++ t ∷ []))
never_begins us t n i b =
    let tokens = with_token (only_tokens us) t (are_tokens us) i in
    let yes : can_begin 128 (only_tokens us ++ t ∷ []) ≡ true = (begins 128
    (only_tokens us ++ t ∷ []) tokens).1 b in
    let no : can_begin 128 (only_tokens us ++ t ∷ []) ≡ false = begins_left
    (only_tokens us ++ t ∷ [])
    ∙ ap (λ ks. is_nil (left (reads_parts all_pending ks))) (with_kind us t (kind_of t) refl)
    ∙ not_nil _ (n (kind_of t ∷ [])) in
    cc

-- nothing follows tokens of which one can't come
pub none_follows : (text : List ℕ) (us : List (List ℕ)) (kinds : List Kind) → SplitsInto text us
    → NeverRead (kinds_of us) → kinds ≡ [] → KindsFollow text kinds
none_follows text us kinds s n e = (
  us,
  s,
  subst (AreAllAfter (only_tokens us)) (sym e) (record {
    exact = λ k. (λ c. absurd (none_in c), λ (t, i, h, b). absurd (never_begins us t n i b));
    ordered = λ k l. absurd (omega (arith, l));
  }),
)
  where
    none_in : {k : Kind} → Contains [] k → ⊥
    none_in c = omega (arith, c.1)

-- the tokens are a list of the grammar if nothing more has to come
is_whole : {A : Type 0} → Answer A → Bool
is_whole (done f []) = true
is_whole (done f (a ∷ r)) = false
is_whole (stuck b r) = false

says_list : (ts : List (List ℕ)) → AreTokens (λ t. t) ts → (x : Answer (List ℕ))
    → Says kind_of 128 ts x → IsTrue (is_whole x) ↔ IsList ts
unfolding is_whole
says_list ts a (done f []) g = (λ _. (f, (grammars_agree (λ t. t) 128 ts f a).1 g), λ _. refl)
says_list ts a (done f (b ∷ r)) h = (
  λ i. absurd cc,
  λ (f, g). absurd
      (not_hopeless kind_of 128 ts h.0 b r false (whole_begins kind_of 128 f ts ((grammars_agree
      (λ t. t) 128 ts f a).0 g)) h.1),
)
says_list ts a (stuck d []) h = (
  λ i. absurd cc,
  λ (f, g). absurd (h.not_whole f ((grammars_agree
      (λ t. t) 128 ts f a).0 g)),
)
says_list ts a (stuck d (b ∷ r)) h = (
  λ i. absurd cc,
  λ (f, g). absurd
      (not_hopeless kind_of 128 ts h.0 b r d (whole_begins kind_of 128 f ts ((grammars_agree
      (λ t. t) 128 ts f a).0 g)) h.1),
)

whole_kept : (x : Answer (List ℕ)) → is_whole (answer_of kind_of x) ≡ is_whole x
unfolding is_whole
whole_kept (done f []) = refl
whole_kept (done f (a ∷ r)) = refl
whole_kept (stuck b r) = refl

whole_reach : (x : Answer Kind) → IsTrue (is_whole x) ↔ (reach x ≡ past [])
unfolding is_whole
whole_reach (done f []) = (λ _. refl, λ _. refl)
whole_reach (done f (a ∷ r)) = (λ i. absurd cc, λ i. absurd cc)
whole_reach (stuck b r) = (λ i. absurd cc, λ i. absurd cc)

list_reach : (us : List (List ℕ)) → IsList (only_tokens us) ↔ (reads_parts all_pending
    (kinds_of us) ≡ past [])
list_reach us =
    let ts = only_tokens us in
    let x = set_to kind_of 128 ts in
    let l = says_list ts (are_tokens us) x (says kind_of samples 128 ts x refl) in
    let same : is_whole (set_to (λ k. k) 128 (each kind_of ts)) ≡ is_whole x = ap is_whole
    (set_agrees kind_of kind_of (λ k. k) (λ t. refl) 128 ts) ∙ whole_kept x in
    let w = whole_reach (set_to (λ k. k) 128 (each kind_of ts)) in
    let e : reach (set_to (λ k. k) 128 (each kind_of ts)) ≡ reads_parts all_pending
    (kinds_of us) = set_reach (each kind_of ts) ∙ ap (reads_parts all_pending)
    (kinds_same ts) in
    (λ i. sym e ∙ w.0 (same ∙ l.1 i), λ r. l.0 (sym same ∙ w.1 (e ∙ r)))

-- the text is accepted if nothing more has to come after its tokens
pub ends_tree : (text : List ℕ) (us : List (List ℕ)) (p : Pending) (b : Bool)
    → SplitsInto text us → IsAfter (kinds_of us) p → IsTrue b ↔ CanEnd p → IsTrue b ↔ HasTree text
ends_tree text us p b s a h =
    let l = list_reach us in
    let e : reads_parts all_pending (kinds_of us) ≡ reads_parts (parts_of p) [] = ap
    (reads_parts all_pending) (sym (append-nil (kinds_of us))) ∙ a [] in
    (λ i. (us, s, l.1 (e ∙ h.0 i)), λ t. h.1 (sym e ∙ l.0 (of_units text us IsList s t)))

pub never_tree : (text : List ℕ) (us : List (List ℕ)) → SplitsInto text us → NeverRead
    (kinds_of us) → HasTree text → ⊥
never_tree text us s n t = n [] (ap (λ z. left (reads_parts all_pending z)) (append-nil
    (kinds_of us)) ∙ ap left ((list_reach us).0 (of_units text us IsList s t)))
