-- The steps by which a file is replaced.
use Rattle.std.proofs.Common.{◌≡◌, ◌≢◌, ◌∙◌, ◌⊎◌, ℕ, List, false, Option, None, Some, Result, Ok, Err, refl, sym, ap, inl, inr, subst}
use Rattle.std.specs.Prelude.{String, string_bytes}
use Rattle.std.specs.declared.alloc.Global.{Global}
use Rattle.std.specs.declared.io.Error.{Error}
use Rattle.cedar_program.specs.Folders.{Alike, Creates, HoldsMade, Names, Picture, PutsInPlace, Removes, Since, Spares, Stored, Untold}
use Rattle.cedar_program.specs.FolderRuns.{HoldsNew, IsLeftAs, IsMoment, IsReplaced, Replaces}
use Rattle.cedar_program.specs.declared.folder.folder.Access.{Access}
use Rattle.cedar_program.specs.declared.folder.folder.NotCreated.{NotCreated}
use Rattle.cedar_program.specs.declared.folder.folder.Version.{Version}
use Rattle.cedar_program.specs.declared.folder.folder.Outcome.{Outcome}
use Rattle.cedar_program.specs.declared.folder.folder.Outcome.TheVariants.{LeftBeside, Replaced, Unwritten}
use Rattle.cedar_program.proofs.Steps.{held_is_other, more_moments, no_moment, same_or_other, untold_are}

-- only this name may have changed, at every moment
pub record Touches (b : List ℕ) (p q : Picture) : Type 0 where
  pub others : Spares b p.holds q.holds
  pub moments : Since p q (Untold p (Spares b p.holds))
  pub report : q.report ≡ p.report

pub touches_more : (b : List ℕ) (p q r : Picture) → Touches b p q → Touches b q r → Touches b p r
touches_more b p q r h k = record {
  others = λ n o. k.others n o ∙ h.others n o;
  moments = more_moments p q r (Untold p (Spares b p.holds)) h.moments
      (untold_are p q r (Spares b q.holds) (Spares b p.holds) h.report
      (λ s t n o. t n o ∙ h.others n o) k.moments);
  report = k.report ∙ h.report;
}

pub created : (b xs : List ℕ) (a : Access) (res : Result Unit NotCreated) (p q : Picture)
    → Creates b xs a res p q → Touches b p q
created b xs a res p q h = record { others = h.others; moments = h.moments; report = h.report }

pub removed : (b : List ℕ) (res : Result Unit Error) (p q : Picture) → Removes b res p q
    → Touches b p q
removed b res p q h = record { others = h.others; moments = h.moments; report = h.report }

either_alike : (p q s : Names) (b : List ℕ) → Alike p q → Alike p s ⊎ Alike q s → Spares b p s
either_alike p q s b same (inl h) n o = h n
either_alike p q s b same (inr h) n o = h n ∙ same n

pub not_put : (b m : List ℕ) (v : Version) (e : Error) (p q : Picture)
    → PutsInPlace b m v (Err e) p q → Touches b p q
not_put b m v e p q h = record {
  others = λ n o. h.err n;
  moments = untold_are p p q (λ s. Alike p.holds s ⊎ Alike q.holds s) (Spares b p.holds) refl
      (λ s. either_alike p.holds q.holds s b h.err) h.moments;
  report = h.report;
}

module _ (name xs : List ℕ) (x : Stored) where
  -- what was read
  abbrev a : Access
  a = x.access

  abbrev v : Version
  v = x.version

  -- nothing was done, or only a name that held nothing was touched
  pub untouched : (o : Outcome)
      → ((f : Stored) (h : Option Stored) → h ≡ Some f → IsReplaced xs x f o h) → (p q : Picture)
      → q ≡ p → Replaces name xs x o p q
  untouched o keeps p q e = subst (λ r. Replaces name xs x o p r) (sym e) (record {
    own = λ f held. keeps f (p.holds name) held;
    others = λ n f other held. held;
    unused = λ f held n none. inl none;
    moments = λ f held. no_moment p _;
    report = refl;
  })

  unused_still : (o : Outcome) (p q : Names) (b n : List ℕ) → Spares b p q
      → (q b ≡ None) ⊎ IsLeftAs b o → p n ≡ None → (n ≡ b) ⊎ (n ≢ b) → (q n ≡ None) ⊎ IsLeftAs n o
  unused_still o p q b n spares (inl gone) none (inl e) = inl (ap q e ∙ gone)
  unused_still o p q b n spares (inr left) none (inl e) =
      inr (subst (λ z. IsLeftAs z o) (sym e) left)
  unused_still o p q b n spares gone none (inr other) = inl (spares n other ∙ none)

  pub beside_alone : (b : List ℕ) (o : Outcome)
      → ((f : Stored) (h : Option Stored) → h ≡ Some f → IsReplaced xs x f o h) → (p q : Picture)
      → p.holds b ≡ None → Touches b p q → (q.holds b ≡ None) ⊎ IsLeftAs b o
      → Replaces name xs x o p q
  beside_alone b o keeps p q unused t gone = record {
    own = λ f held.
        keeps f (q.holds name) (t.others name (held_is_other p.holds name b f held unused) ∙ held);
    others = λ n f other held. t.others n (held_is_other p.holds n b f held unused) ∙ held;
    unused =
        λ f held n none. unused_still o p.holds q.holds b n t.others gone none (same_or_other n b);
    moments = λ f held.
        untold_are p p q (Spares b p.holds) (IsMoment (HoldsNew name xs a) p.holds) refl
        (λ s spares n g h. inl (spares n (held_is_other p.holds n b g h unused) ∙ h)) t.moments;
    report = t.report;
  }

  module _ (b : List ℕ) (p q r : Picture) (unused : p.holds b ≡ None)
      (made : Creates b xs a (Ok tt) p q) (put : PutsInPlace b name v (Ok tt) q r) (f : Stored)
      (held : p.holds name ≡ Some f) where
    apart : b ≢ name
    apart e = held_is_other p.holds name b f held unused (sym e)

    there : HoldsMade xs a (r.holds name)
    there = subst (λ h. HoldsMade xs a h) (sym (put.ok apart).0) made.ok

    other_held : (n : List ℕ) (g : Stored) → n ≢ name → p.holds n ≡ Some g → r.holds n ≡ Some g
    other_held n g other h =
        let free : n ≢ b = held_is_other p.holds n b g h unused in
        put.others n free other ∙ made.others n free ∙ h

    nothing_left : (n : List ℕ) → p.holds n ≡ None → (n ≡ b) ⊎ (n ≢ b) → r.holds n ≡ None
    nothing_left n none (inl e) = ap r.holds e ∙ (put.ok apart).1
    nothing_left n none (inr apart_) = put.others n apart_
        (λ e. let bad : Some f ≡ None = sym held ∙ ap p.holds (sym e) ∙ none in cc)
        ∙ made.others n apart_ ∙ none

    at_new : (s : Names) (n : List ℕ) (g : Stored) → p.holds n ≡ Some g → Alike r.holds s
        → (n ≡ name) ⊎ (n ≢ name) → (s n ≡ Some g) ⊎ HoldsNew name xs a n g (s n)
    at_new s n g h same (inl e) =
        inr (e, subst (λ k. HoldsMade xs a k) (sym (same n ∙ ap r.holds e)) there)
    at_new s n g h same (inr other) = inl (same n ∙ other_held n g other h)

    at_moment : (s : Names) → Alike q.holds s ⊎ Alike r.holds s
        → IsMoment (HoldsNew name xs a) p.holds s
    at_moment s (inl same) n g h =
        inl (same n ∙ made.others n (held_is_other p.holds n b g h unused) ∙ h)
    at_moment s (inr same) n g h = at_new s n g h same (same_or_other n name)

    pub replaced_moments : Since p r (Untold p (IsMoment (HoldsNew name xs a) p.holds))
    replaced_moments = more_moments p q r _
        (untold_are p p q (Spares b p.holds) _ refl
        (λ s spares n g h. inl (spares n (held_is_other p.holds n b g h unused) ∙ h)) made.moments)
        (untold_are p q r (λ s. Alike q.holds s ⊎ Alike r.holds s) _ made.report at_moment
        put.moments)

    pub replaced_own : HoldsMade xs a (r.holds name)
    replaced_own = there

    pub replaced_unused : (n : List ℕ) → p.holds n ≡ None → r.holds n ≡ None
    replaced_unused n none = nothing_left n none (same_or_other n b)

  pub in_its_place : (b : List ℕ) (p q r : Picture) → p.holds b ≡ None
      → Creates b xs a (Ok tt) p q → PutsInPlace b name v (Ok tt) q r
      → Replaces name xs x Replaced p r
  in_its_place b p q r unused made put = record {
    own = λ f held. (
      put.was f (made.others name (held_is_other p.holds name b f held unused) ∙ held),
      replaced_own b p q r unused made put f held,
    );
    others = λ n f other held. put.others n (held_is_other p.holds n b f held unused) other
        ∙ made.others n (held_is_other p.holds n b f held unused) ∙ held;
    unused = λ f held n none. inl (replaced_unused b p q r unused made put f held n none);
    moments = λ f held. replaced_moments b p q r unused made put f held;
    report = put.report ∙ made.report;
  }

  -- the exits
  pub not_named : (e : Error) (p q : Picture) → (q ≡ p) × Unit {0}
      → Replaces name xs x (Unwritten e) p q
  not_named e p q h = untouched (Unwritten e) (λ f h held. held) p q h.0

  pub not_created : (b : List ℕ) (e : NotCreated) (p q r : Picture) → e.is_left ≡ false
      → (q ≡ p) × (p.holds b ≡ None) → Creates b xs a (Err e) q r
      → Replaces name xs x (Unwritten e.error) p r
  not_created b e p q r whole (same, unused) made =
      let from_p : Creates b xs a (Err e) p r = subst (λ s. Creates b xs a (Err e) s r) same made in
      beside_alone b (Unwritten e.error) (λ f h held. held) p r unused
      (created b xs a (Err e) p r from_p) (inl (from_p.err whole b ∙ unused))

  pub created_in_part : (n : String Global) (e : NotCreated) (p q r : Picture)
      → (q ≡ p) × (p.holds (string_bytes n) ≡ None) → Creates (string_bytes n) xs a (Err e) q r
      → Replaces name xs x (LeftBeside e.error n) p r
  created_in_part n e p q r (same, unused) made =
      let b = string_bytes n in
      let from_p : Creates b xs a (Err e) p r = subst (λ s. Creates b xs a (Err e) s r) same made in
      beside_alone b (LeftBeside e.error n) (λ f h held. held) p r unused
      (created b xs a (Err e) p r from_p) (inr refl)

  pub put : (b : List ℕ) (p q r s : Picture) → (q ≡ p) × (p.holds b ≡ None)
      → Creates b xs a (Ok tt) q r → PutsInPlace b name v (Ok tt) r s
      → Replaces name xs x Replaced p s
  put b p q r s (same, unused) made renamed =
      in_its_place b p r s unused (subst (λ s. Creates b xs a (Ok tt) s r) same made) renamed

  pub kept : (b : List ℕ) (e : Error) (o : Outcome)
      → ((f : Stored) (h : Option Stored) → h ≡ Some f → IsReplaced xs x f o h)
      → (res : Result Unit Error) (p q r s t : Picture) → (q ≡ p) × (p.holds b ≡ None)
      → Creates b xs a (Ok tt) q r → PutsInPlace b name v (Err e) r s
      → Removes b res s t → (t.holds b ≡ None) ⊎ IsLeftAs b o → Replaces name xs x o p t
  kept b e o keeps res p q r s t (same, unused) made renamed gone nothing =
      let from_p : Creates b xs a (Ok tt) p r = subst (λ s. Creates b xs a (Ok tt) s r) same made in
      beside_alone b o keeps p t unused
      (touches_more b p r t (created b xs a (Ok tt) p r from_p)
      (touches_more b r s t (not_put b name v e r s renamed) (removed b res s t gone))) nothing

  pub was_removed : (b : List ℕ) (e : Error) (p q r s t : Picture)
      → (q ≡ p) × (p.holds b ≡ None) → Creates b xs a (Ok tt) q r
      → PutsInPlace b name v (Err e) r s → Removes b (Ok tt) s t
      → Replaces name xs x (Unwritten e) p t
  was_removed b e p q r s t found made renamed gone = kept b e (Unwritten e) (λ f h held. held)
      (Ok tt) p q r s t found made renamed gone (inl gone.ok)

  pub was_left : (n : String Global) (e d : Error) (p q r s t : Picture)
      → (q ≡ p) × (p.holds (string_bytes n) ≡ None) → Creates (string_bytes n) xs a (Ok tt) q r
      → PutsInPlace (string_bytes n) name v (Err e) r s → Removes (string_bytes n) (Err d) s t
      → Replaces name xs x (LeftBeside e n) p t
  was_left n e d p q r s t found made renamed gone = kept (string_bytes n) e (LeftBeside e n)
      (λ f h held. held) (Err d) p q r s t found made renamed gone (inr refl)
