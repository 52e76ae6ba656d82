-- Tokens that stay, whichever comments are taken from them.
use Rattle.std.proofs.Common.{◌≡◌, ℕ, zero, suc, ◌<◌, List, [], ◌∷◌, ◌++◌, map, length, get_or, set, refl, ap, ◌∙◌, inl, inr, arith}
use Rattle.std.specs.List.{AllZip}
use Rattle.cedar_tokens.specs.declared.token.WrappedToken.{WrappedToken}
use Rattle.cedar_layout.specs.Lookups.{Shown, shown, emptied}
use Rattle.cedar_documents.specs.Kept.{KeepsTokens, StaysOrGoes, TakenFrom}

-- ---- one token

untouched : (t : Shown) → TakenFrom t t
untouched t = record { token = refl; span = refl; leading = inl refl; trailing = inl refl }

pub emptying : (s t : Shown) → s ≡ emptied t → TakenFrom t s
emptying s t e = record {
  token = ap (λ (u : Shown). u.token) e;
  span = ap (λ (u : Shown). u.span) e;
  leading = inr (ap (λ (u : Shown). u.comment.leading) e);
  trailing = inr (ap (λ (u : Shown). u.comment.trailing) e);
}

stays_or_goes_on : {X : Type 0} (old mid new : List X) → StaysOrGoes mid new → StaysOrGoes old mid
    → StaysOrGoes old new
stays_or_goes_on old mid new (inr k) h = inr k
stays_or_goes_on old mid new (inl k) (inl h) = inl (k ∙ h)
stays_or_goes_on old mid new (inl k) (inr h) = inr (k ∙ h)

taken_on : (old mid new : Shown) → TakenFrom mid new → TakenFrom old mid → TakenFrom old new
taken_on old mid new k h = record {
  token = k.token ∙ h.token;
  span = k.span ∙ h.span;
  leading = stays_or_goes_on old.comment.leading mid.comment.leading new.comment.leading k.leading
      h.leading;
  trailing = stays_or_goes_on old.comment.trailing mid.comment.trailing new.comment.trailing
      k.trailing h.trailing;
}

-- ---- each of these tokens

each_untouched : (ts : List Shown) → AllZip TakenFrom ts ts
each_untouched [] = tt
each_untouched (t ∷ ts) = (untouched t, each_untouched ts)

each_on : (old mid new : List Shown) → AllZip TakenFrom mid new → AllZip TakenFrom old mid
    → AllZip TakenFrom old new
each_on [] [] [] k h = tt
each_on [] [] (n ∷ new) k h = absurd k
each_on [] (m ∷ mid) new k h = absurd h
each_on (o ∷ old) [] new k h = absurd h
each_on (o ∷ old) (m ∷ mid) [] k h = absurd k
each_on (o ∷ old) (m ∷ mid) (n ∷ new) k h = (taken_on o m n k.0 h.0, each_on old mid new k.1 h.1)

each_set : (ts : List WrappedToken) (i : ℕ) (d t : WrappedToken) → i < length ts
    → TakenFrom (shown (get_or ts i d)) (shown t)
    → AllZip TakenFrom (map shown ts) (map shown (set ts i t))
each_set [] i d t l h = absurd (omega arith)
each_set (u ∷ us) zero d t l h = (h, each_untouched (map shown us))
each_set (u ∷ us) (suc i) d t l h = (untouched (shown u), each_set us i d t (omega arith) h)

-- ---- lists of tokens

pub all_kept : (ts : List WrappedToken) → KeepsTokens ts ts
all_kept ts = record { each = each_untouched (map shown ts) }

-- what is kept by the later and the earlier call
pub kept_on : (old mid new : List WrappedToken) → KeepsTokens mid new → KeepsTokens old mid
    → KeepsTokens old new
kept_on old mid new k h =
    record { each = each_on (map shown old) (map shown mid) (map shown new) k.each h.each }

-- where one token is emptied
pub kept_set : (ts : List WrappedToken) (i : ℕ) (d t : WrappedToken) → i < length ts
    → shown t ≡ emptied (shown (get_or ts i d)) → KeepsTokens ts (set ts i t)
kept_set ts i d t l e =
    record { each = each_set ts i d t l (emptying (shown t) (shown (get_or ts i d)) e) }

-- ---- the token after these

pub seam_get : (b : List Shown) (t : Shown) (a : List Shown) (ts : List WrappedToken) (i : ℕ)
    (d : WrappedToken) → map shown ts ≡ b ++ (t ∷ a) → i ≡ length b
    → (i < length ts) × (shown (get_or ts i d) ≡ t)
seam_get [] t a [] i d e p = absurd cc
seam_get [] t a (u ∷ us) i d e p = rw p (omega arith, cc)
seam_get (x ∷ b) t a [] i d e p = absurd cc
seam_get (x ∷ b) t a (u ∷ us) i d e p =
    let r = seam_get b t a us (length b) d (cc) refl in rw p (omega (arith, r.0), r.1)

pub seam_set : (b : List Shown) (t : Shown) (a : List Shown) (ts : List WrappedToken) (i : ℕ)
    (x : WrappedToken) (y : Shown) → map shown ts ≡ b ++ (t ∷ a) → i ≡ length b → shown x ≡ y
    → map shown (set ts i x) ≡ b ++ (y ∷ a)
seam_set [] t a [] i x y e p q = absurd cc
seam_set [] t a (u ∷ us) i x y e p q = rw p cc
seam_set (z ∷ b) t a [] i x y e p q = absurd cc
seam_set (z ∷ b) t a (u ∷ us) i x y e p q =
    let r = seam_set b t a us (length b) x y (cc) refl q in rw p cc

each_one : (old new : List WrappedToken) → AllZip TakenFrom (map shown old) (map shown new) → length new ≡ length old
each_one [] [] h = refl
each_one [] (n ∷ new) h = absurd h
each_one (o ∷ old) [] h = absurd h
each_one (o ∷ old) (n ∷ new) h = ap suc (each_one old new h.1)

pub lengths : (old new : List WrappedToken) → KeepsTokens old new → length new ≡ length old
lengths old new k = each_one old new k.each
