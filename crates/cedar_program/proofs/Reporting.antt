-- How a report grows.
use Rattle.std.proofs.Common.{◌≡◌, ◌≢◌, ◌∙◌, ◌⊎◌, ◌++◌, ◌∷◌, [], ℕ, List, Bool, true, false, Option, None, Some, append-nil, append_assoc, length, take, drop, get_or, ◌+◌, ◌<◌, ◌≤◌, arith, refl, sym, ap, inl, inr, subst, map}
use Rattle.std.specs.Prelude.{string_bytes}
use Rattle.std.specs.List.{AllByRecursion, flat_map}
use Rattle.std.proofs.lemmas.List.Concat.{flat_map-append}
use Rattle.std.proofs.lemmas.List.{map-append, take-append-drop, take_all, take_more}
use Rattle.cedar_tokens.specs.Listing.{ListingIsUnique}
use Rattle.cedar_written.specs.Canonical.{AcceptedHasOutput, OutputHasTheList, OutputsTellLists}
use Rattle.cedar_documents.specs.declared.config.Config.{Config}
use Rattle.cedar_program.specs.Folders.{Moment, Names, Picture, Reports, Since, Told, Stored, Untold, with_report}
use Rattle.cedar_program.specs.Rights.{Given, GivenBy, Inherits}
use Rattle.cedar_program.specs.declared.folder.folder.Access.{Access}
use Rattle.cedar_program.specs.FolderRuns.{AllGoOn, Became, Done, Handles, HandlesAll, HandlesThese, HoldsItsOutput, HoldsOutput, HoldsOwnOutput, IsLeftAs, IsMoment, IsMomentOf, IsNamed, IsOutputFile, NoneTwice, SomeLeft, task_of, told}
use Rattle.cedar_program.specs.declared.folder.files.Task.{Task}
use Rattle.cedar_program.specs.declared.folder.folder.Outcome.{Outcome}
use Rattle.cedar_program.specs.declared.folder.folder.Outcome.TheVariants.{Formatted, Empty, Unformatted, Replaced, NotUtf8, Refused, Unread, Unwritten, LeftBeside}
use Rattle.cedar_program.proofs.Layouts.{output_of_output}
use Rattle.cedar_program.proofs.Steps.{moments_are, more_moments, no_moment, same_or_other}
use Rattle.cedar_tokens.proofs.Lists.{All-append}

-- what a task asked for
abbrev pub asked : Done → List ℕ × Config
asked t = (t.name, t.config)

-- ---- names

named_more : (done : List Done) (t : Done) (n : List ℕ) → IsNamed done n → IsNamed (done ++ (t ∷ [])) n
named_more [] t n h = absurd h
named_more (u ∷ us) t n (inl e) = inl e
named_more (u ∷ us) t n (inr h) = inr (named_more us t n h)

named_last : (done : List Done) (t : Done) → IsNamed (done ++ (t ∷ [])) t.name
named_last [] t = inl refl
named_last (u ∷ us) t = inr (named_last us t)

left_more : (done : List Done) (t : Done) (n : List ℕ) → SomeLeft done n
    → SomeLeft (done ++ (t ∷ [])) n
left_more [] t n h = absurd h
left_more (u ∷ us) t n (inl e) = inl e
left_more (u ∷ us) t n (inr h) = inr (left_more us t n h)

left_last : (done : List Done) (t : Done) (n : List ℕ) → IsLeftAs n t.outcome
    → SomeLeft (done ++ (t ∷ [])) n
left_last [] t n h = inl h
left_last (u ∷ us) t n h = inr (left_last us t n h)

-- a report without repeated names is one before its last file, which it doesn't name
none_before : (done : List Done) (t : Done) → NoneTwice (done ++ (t ∷ []))
    → NoneTwice done × ¬ (IsNamed done t.name)
none_before [] t h = (tt, λ bad. bad)
none_before (u ∷ us) t (first, rest) =
    let more = none_before us t rest in (
      (λ h. first (named_more us t u.name h), more.0),
      elim [
        | inl e ↦ first (subst (λ z. IsNamed (us ++ (t ∷ [])) z) e (named_last us t))
        | inr h ↦ more.1 h
      ],
    )

-- ---- outputs

outputs_more : (done : List Done) (t : Done) (n : List ℕ) (f : Stored) (h : Option Stored)
    → HoldsItsOutput done n f h → HoldsItsOutput (done ++ (t ∷ [])) n f h
outputs_more [] t n f h is = absurd is
outputs_more (u ∷ us) t n f h (inl is) = inl is
outputs_more (u ∷ us) t n f h (inr is) = inr (outputs_more us t n f h is)

outputs_last : (done : List Done) (t : Done) (n : List ℕ) (f : Stored) (h : Option Stored)
    → HoldsOwnOutput t.config t.name n f h → HoldsItsOutput (done ++ (t ∷ [])) n f h
outputs_last [] t n f h is = inl is
outputs_last (u ∷ us) t n f h is = inr (outputs_last us t n f h is)

-- a name that holds its output holds one, and is named
some_output : (done : List Done) (n : List ℕ) (f : Stored) (h : Option Stored)
    → HoldsItsOutput done n f h → (d : Config) × HoldsOutput d f h
some_output [] n f h is = absurd is
some_output (t ∷ ts) n f h (inl is) = (t.config, is.1)
some_output (t ∷ ts) n f h (inr is) = some_output ts n f h is

output_is_named : (done : List Done) (n : List ℕ) (f : Stored) (h : Option Stored)
    → HoldsItsOutput done n f h → IsNamed done n
output_is_named [] n f h is = absurd is
output_is_named (t ∷ ts) n f h (inl is) = inl is.0
output_is_named (t ∷ ts) n f h (inr is) = inr (output_is_named ts n f h is)

-- ---- what became of a file lasts if no other is handled

module _ (only : Bool) (c : Config) (f : Stored) where
  lasts : (o : Outcome) (h k : Option Stored) → ((g : Stored) → h ≡ Some g → k ≡ Some g)
      → Became only c f o h → Became only c f o k
  lasts Formatted h k same (own, held) = (own, same f held)
  lasts Empty h k same (none, held) = (none, same f held)
  lasts (Unformatted bytes out) h k same (checks, isnt, are, output, held) =
      (checks, isnt, are, output, same f held)
  lasts Replaced h k same (writes, isnt, (g, is, held)) = (writes, isnt, (g, is, same g held))
  lasts NotUtf8 h k same (isnt, held) = (isnt, same f held)
  lasts (Refused e bytes) h k same (why, are, held) = (why, are, same f held)
  lasts (Unread e) h k same held = same f held
  lasts (Unwritten e) h k same held = same f held
  lasts (LeftBeside e n) h k same held = same f held

-- one access more that is inherited
given_more : (by : List Access) (a b d : Access) → GivenBy by a b → Given b d
    → GivenBy (by ++ (b ∷ [])) a d
given_more [] a b d h k = (h, k)
given_more (c ∷ cs) a b d (first, rest) k = (first, given_more cs c b d rest k)

given_by_both : (by more : List Access) (a b d : Access) → GivenBy by a b → GivenBy more b d
    → Inherits a d
given_by_both by [] a b d h k = (by ++ (b ∷ []), given_more by a b d h k)
given_by_both by (c ∷ cs) a b d h (k, rest) =
    given_by_both (by ++ (b ∷ [])) cs a c d (given_more by a b c h k) rest

inherits_more : (a b d : Access) → Inherits a b → Inherits b d → Inherits a d
inherits_more a b d (by, h) (more, k) = given_by_both by more a b d h k

-- ---- one file more

-- the moment of a task's report: what was held, and one report more
abbrev IsTold : Picture → Done → Moment → Type 0
IsTold r t m = (m.holds ≡ r.holds) × (m.report ≡ r.report ++ told t)

-- the end of a task: it was reported, or it wasn't
pub record Ends (t : Done) (r s : Picture) : Type 0 where
  pub holds : s.holds ≡ r.holds
  pub report : s.report ≡ r.report ++ told t
  pub moments : Since r s (IsTold r t)

module _ (n : List ℕ) (c : Config) (o : Outcome) (b : Bool) where
  -- a task whose report was made, and one whose report wasn't
  abbrev pub with_told : Bool → Done
  with_told is_told = record { name = n; config = c; outcome = o; is_told = is_told; goes_on = b }

  pub ends_told : (r s : Picture) → s ≡ with_report r (record { name = n; outcome = o; goes_on = b })
      → Ends (with_told true) r s
  ends_told r s is =
      let at : Moment = record { holds = r.holds; report = r.report ++ told (with_told true) } in
      subst (λ z. Ends (with_told true) r z) (sym is)
      (record { holds = refl; report = refl; moments = (at ∷ [], refl, ((refl, refl), tt)) })

  pub ends_untold : (r s : Picture) → s ≡ r → Ends (with_told false) r s
  ends_untold r s is = subst (λ z. Ends (with_told false) r z) (sym is)
      (record { holds = refl; report = sym (append-nil r.report); moments = no_moment r _ })

  -- one that asked to go on was reported
  pub ends_going_on : (r s : Picture) → b ≡ true → Reports n o b r s → Ends (with_told true) r s
  ends_going_on r s go (inl is) = ends_told r s is
  ends_going_on r s go (inr (stop, is)) = let bad : true ≡ false = sym go ∙ stop in cc

  -- one that asked to stop was, or it wasn't
  pub ends_at_all : (r s : Picture) → Reports n o b r s → (is_told : Bool) × Ends (with_told is_told) r s
  ends_at_all r s (inl is) = (true, ends_told r s is)
  ends_at_all r s (inr (stop, is)) = (false, ends_untold r s is)

module _ (some : AcceptedHasOutput) (listed : OutputHasTheList) (tell : OutputsTellLists)
    (unique : ListingIsUnique) (only : Bool) where
  old_or_output : (c : Config) (f : Stored) (o : Outcome) (h : Option Stored)
      → Became only c f o h → (h ≡ Some f) ⊎ HoldsOutput c f h
  old_or_output c f Formatted h (own, held) = inl held
  old_or_output c f Empty h (none, held) = inl held
  old_or_output c f (Unformatted bytes out) h (checks, isnt, are, output, held) = inl held
  old_or_output c f Replaced h (writes, isnt, is) = inr is
  old_or_output c f NotUtf8 h (isnt, held) = inl held
  old_or_output c f (Refused e bytes) h (why, are, held) = inl held
  old_or_output c f (Unread e) h held = inl held
  old_or_output c f (Unwritten e) h held = inl held
  old_or_output c f (LeftBeside e n) h held = inl held

  -- an output of an output is one of the file
  still : (d c : Config) (f g : Stored) (h : Option Stored) → IsOutputFile d f g
      → HoldsOutput c g h → HoldsOutput c f h
  still d c f g h is (k, other, held) = (
    k,
    (
      output_of_output some listed tell unique d c f.bytes g.bytes k.bytes is.0 other.0,
      other.1,
      inherits_more f.access g.access k.access is.2 other.2,
    ),
    held,
  )

  module _ (done : List Done) (t : Done) (p q r : Picture) (before : HandlesThese only done p q)
      (step : Handles t.config only t.name t.outcome q r) where
    abbrev more : List Done
    more = done ++ (t ∷ [])

    -- what the step leaves is a moment of it
    at_end : (n : List ℕ) (f : Stored) → (n ≡ t.name) ⊎ (n ≢ t.name) → q.holds n ≡ Some f
        → (r.holds n ≡ Some f) ⊎ HoldsOwnOutput t.config t.name n f (r.holds n)
    at_end n f (inr other) held = inl (step.others n f other held)
    at_end n f (inl e) held =
        let own : Became only t.config f t.outcome (r.holds n) =
        subst (λ z. Became only t.config f t.outcome (r.holds z)) (sym e)
        (step.own f (subst (λ z. q.holds z ≡ Some f) e held)) in
        elim (old_or_output t.config f t.outcome (r.holds n) own) as (λ _.
        (r.holds n ≡ Some f) ⊎ HoldsOwnOutput t.config t.name n f (r.holds n))
        [ inl same ↦ inl same | inr is ↦ inr (e, is) ]

    -- a file that held its output holds it still, or that of the step
    after_output : (s : Names) (n : List ℕ) (f : Stored)
        → IsMoment (HoldsOwnOutput t.config t.name) q.holds s → HoldsItsOutput done n f (q.holds n)
        → HoldsItsOutput more n f (s n)
    after_output s n f moment was =
        let (d, (g, is, held)) = some_output done n f (q.holds n) was in
        elim (moment n g held) as (λ _. HoldsItsOutput more n f (s n)) [
          | inl same ↦ outputs_more done t n f (s n)
              (subst (λ h. HoldsItsOutput done n f h) (held ∙ sym same) was)
          | inr own ↦ outputs_last done t n f (s n)
              (own.0, still d t.config f g (s n) is own.1)
        ]

    at_moment : (s : Names) → IsMoment (HoldsOwnOutput t.config t.name) q.holds s
        → IsMoment (HoldsItsOutput more) p.holds s
    at_moment s moment n f held =
        elim (before.holds n f held) as (λ _. (s n ≡ Some f) ⊎ HoldsItsOutput more n f (s n)) [
          | inl same ↦ elim (moment n f same) as (λ _.
              (s n ≡ Some f) ⊎ HoldsItsOutput more n f (s n))
              [ inl kept ↦ inl kept | inr own ↦ inr (outputs_last done t n f (s n) own) ]
          | inr was ↦ inr (after_output s n f moment was)
        ]

    weaker : (s u : Names) → IsMoment (HoldsItsOutput done) s u → IsMoment (HoldsItsOutput more) s u
    weaker s u moment n f held =
        elim (moment n f held) as (λ _. (u n ≡ Some f) ⊎ HoldsItsOutput more n f (u n))
        [ inl same ↦ inl same | inr h ↦ inr (outputs_more done t n f (u n) h) ]

    last_became : ¬ (IsNamed done t.name) → (f : Stored) → p.holds t.name ≡ Some f
        → Became only t.config f t.outcome (r.holds t.name)
    last_became new f held = elim (before.holds t.name f held) as (λ _.
        Became only t.config f t.outcome (r.holds t.name)) [
          | inl same ↦ step.own f same
          | inr is ↦ absurd (new (output_is_named done t.name f (q.holds t.name) is))
        ]

    became_more : (us : List Done) → ¬ (IsNamed us t.name) → AllByRecursion
        (λ u. (f : Stored) → p.holds u.name ≡ Some f
        → Became only u.config f u.outcome (q.holds u.name)) us
        → ((f : Stored) → p.holds t.name ≡ Some f → Became only t.config f t.outcome (r.holds t.name))
        → AllByRecursion (λ u. (f : Stored) → p.holds u.name ≡ Some f
        → Became only u.config f u.outcome (r.holds u.name)) (us ++ (t ∷ []))
    became_more [] new h last = (last, tt)
    became_more (u ∷ us) new h last = (
      λ f held. lasts only u.config f u.outcome (q.holds u.name) (r.holds u.name)
          (λ g k. step.others u.name g (λ e. new (inl (sym e))) k) (h.0 f held),
      became_more us (λ x. new (inr x)) h.1 last,
    )

    still_unused : (n : List ℕ) → (q.holds n ≡ None) ⊎ SomeLeft done n
        → (r.holds n ≡ None) ⊎ SomeLeft more n
    still_unused n (inr left) = inr (left_more done t n left)
    still_unused n (inl none) =
        elim (step.unused n none) as (λ _. (r.holds n ≡ None) ⊎ SomeLeft more n)
        [ inl same ↦ inl same | inr left ↦ inr (left_last done t n left) ]

    -- the moments before, those of the step, and the one of its report
    earlier : (m : Moment) → IsMomentOf done p m → IsMomentOf more p m
    earlier m h = record {
      reported = h.reported;
      next = h.next;
      later = h.later ++ (t ∷ []);
      order = ap (λ z. z ++ (t ∷ [])) h.order
          ∙ append_assoc (h.reported ++ h.next) h.later (t ∷ []);
      one = h.one;
      report = h.report;
      holds = h.holds;
    }

    in_step : (m : Moment) → Untold q (IsMoment (HoldsOwnOutput t.config t.name) q.holds) m
        → IsMomentOf more p m
    in_step m h = record {
      reported = done;
      next = t ∷ [];
      later = [];
      order = sym (append-nil more);
      one = omega arith;
      report = h.0 ∙ before.report;
      holds = at_moment m.holds h.1;
    }

    at_the_end : IsMoment (HoldsItsOutput more) p.holds r.holds
    at_the_end =
        at_moment r.holds (λ n f held. at_end n f (same_or_other n t.name) held)

    reports_more : (all : List Told) → all ≡ r.report ++ told t → all ≡ p.report ++ flat_map told more
    reports_more all is = is ∙ ap (λ z. z ++ told t) (step.report ∙ before.report)
        ∙ append_assoc p.report (flat_map told done) (told t)
        ∙ ap (λ z. p.report ++ (flat_map told done ++ z)) (sym (append-nil (told t)))
        ∙ ap (λ z. p.report ++ z) (sym (flat_map-append told done (t ∷ [])))

    in_report : (m : Moment) → IsTold r t m → IsMomentOf more p m
    in_report m h = record {
      reported = more;
      next = [];
      later = [];
      order = sym (append-nil (more ++ []) ∙ append-nil more);
      one = omega arith;
      report = reports_more m.report h.1;
      holds = subst (λ z. IsMoment (HoldsItsOutput z) p.holds m.holds) (sym (append-nil more))
          (subst (λ s. IsMoment (HoldsItsOutput more) p.holds s) (sym h.0) at_the_end);
    }

    module _ (s : Picture) (end : Ends t r s) where
      unchanged : (only ≡ true) → Since p s (λ m. m.holds ≡ p.holds)
      unchanged e =
          let was = before.check e in
          let same : r.holds ≡ p.holds = ap (λ z. z.holds) (step.check e) ∙ was.0 in
          more_moments p q s (λ m. m.holds ≡ p.holds) was.1
          (subst (λ z. Since z s (λ m. m.holds ≡ p.holds)) (step.check e)
          (moments_are r s (IsTold r t) (λ m. m.holds ≡ p.holds) (λ m h. h.0 ∙ same) end.moments))

      pub reported : HandlesThese only more p s
      reported = record {
        report = reports_more s.report end.report;
        became = λ once. let b = none_before done t once in
            subst (λ h. AllByRecursion (λ u. (f : Stored) → p.holds u.name ≡ Some f
            → Became only u.config f u.outcome (h u.name)) more) (sym end.holds)
            (became_more done b.1 (before.became b.0) (last_became b.1));
        holds = subst (λ h. IsMoment (HoldsItsOutput more) p.holds h) (sym end.holds) at_the_end;
        unused = λ n none. subst (λ h. (h n ≡ None) ⊎ SomeLeft more n) (sym end.holds)
            (still_unused n (before.unused n none));
        moments = more_moments p q s (IsMomentOf more p)
            (moments_are p q (IsMomentOf done p) (IsMomentOf more p) earlier before.moments)
            (more_moments q r s (IsMomentOf more p)
            (moments_are q r (Untold q (IsMoment (HoldsOwnOutput t.config t.name) q.holds))
            (IsMomentOf more p) in_step step.moments)
            (moments_are r s (IsTold r t) (IsMomentOf more p) in_report end.moments));
        check = λ e.
            (end.holds ∙ ap (λ z. z.holds) (step.check e) ∙ (before.check e).0, unchanged e);
      }

  pub one_more : (done : List Done) (t : Done) (p q r s : Picture)
      → HandlesThese only done p q → Handles t.config only t.name t.outcome q r → Ends t r s
      → HandlesThese only (done ++ (t ∷ [])) p s
  one_more done t p q r s before step end = reported done t p q r before step s end

-- nothing was done yet
pub none_done : (only : Bool) (p : Picture) → HandlesThese only [] p p
none_done only p = record {
  report = sym (append-nil p.report);
  became = λ once. tt;
  holds = λ n f held. inl held;
  unused = λ n none. inl none;
  moments = no_moment p _;
  check = λ e. (refl, no_moment p _);
}

-- ---- all of them

module _ (tasks : List Task) (done : List Done) (i : ℕ) where
  abbrev given : List Task → List (List ℕ × Config)
  given = map task_of

  pub next_task : (x : Task) (t : Done) → i < length tasks → x ≡ get_or tasks i x
      → t.name ≡ string_bytes x.name → t.config ≡ x.config
      → given (take i tasks) ≡ map asked done
      → given (take (i + 1) tasks) ≡ map asked (done ++ (t ∷ []))
  next_task x t less item name config so_far =
      let same : task_of x ≡ asked t = cc in
      ap given (take_more tasks i x less)
      ∙ map-append task_of (take i tasks) (get_or tasks i x ∷ [])
      ∙ ap (λ z. given (take i tasks) ++ (task_of z ∷ [])) (sym item)
      ∙ ap (λ z. given (take i tasks) ++ (z ∷ [])) same
      ∙ ap (λ z. z ++ (asked t ∷ [])) so_far ∙ sym (map-append asked done (t ∷ []))

  pub until_stopped : (only : Bool) (most : List Done) (last : Done) (p q : Picture)
      → done ≡ most ++ (last ∷ []) → AllGoOn most → last.goes_on ≡ false
      → given (take i tasks) ≡ map asked done → HandlesThese only done p q
      → HandlesAll only (given tasks) p q
  until_stopped only most last p q parts go stop so_far these = record {
    done = done;
    rest = given (drop i tasks);
    order = ap given (sym (take-append-drop i tasks))
        ∙ map-append task_of (take i tasks) (drop i tasks)
        ∙ ap (λ z. z ++ given (drop i tasks)) so_far;
    obeyed = inr (most, last, parts, go, stop);
    these = these;
  }

  pub to_the_end : (only : Bool) (p q : Picture) → length tasks ≤ i
      → given (take i tasks) ≡ map asked done → AllGoOn done → HandlesThese only done p q
      → HandlesAll only (given tasks) p q
  to_the_end only p q over so_far go these = record {
    done = done;
    rest = [];
    order = ap given (sym (take_all i tasks over)) ∙ so_far ∙ sym (append-nil (map asked done));
    obeyed = inl (go, refl);
    these = these;
  }

-- one more that was reported and asked to go on
pub goes_on_more : (done : List Done) (t : Done) → AllGoOn done → t.is_told ≡ true → t.goes_on ≡ true
    → AllGoOn (done ++ (t ∷ []))
goes_on_more done t go told is =
    All-append (λ u. (u.is_told ≡ true) × (u.goes_on ≡ true)) done (t ∷ []) go ((told, is), tt)
