-- Steps of a folder, one after another.
use Rattle.std.proofs.Common.{◌≡◌, ◌≢◌, ◌∙◌, ◌⊎◌, ◌++◌, ◌∷◌, [], ℕ, List, Option, None, Some, append-nil, append_assoc, refl, sym, ap, inl, inr, Bool, true, false}
use Rattle.std.specs.List.{AllByRecursion}
use Rattle.std.specs.Str.{bytes_eq}
use Rattle.std.specs.Cmp.Lexicographic.{bytes_decides}
use Rattle.cedar_program.specs.Folders.{Follows, Moment, Names, Picture, Since, Stored, Untold}
use Rattle.cedar_tokens.proofs.Lists.{All-append}

-- what is known of one step is known of it as another, and of two as one
pub as_one : {A C : Picture → Picture → Type 0} → ((p q : Picture) → A p q → C p q)
    → (o n : Option Picture) → Follows A o n → Follows C o n
as_one f None n a = tt
as_one f (Some p) None a = absurd a
as_one f (Some p) (Some q) a = f p q a

pub of_two : {A B C : Picture → Picture → Type 0} → ((p q r : Picture) → A p q → B q r → C p r)
    → (o m n : Option Picture) → Follows A o m → Follows B m n → Follows C o n
of_two f None m n a b = tt
of_two f (Some p) None n a b = absurd a
of_two f (Some p) (Some q) None a b = absurd b
of_two f (Some p) (Some q) (Some r) a b = f p q r a b

pub of_three : {A B C D : Picture → Picture → Type 0}
    → ((p q r s : Picture) → A p q → B q r → C r s → D p s) → (o m n l : Option Picture)
    → Follows A o m → Follows B m n → Follows C n l → Follows D o l
of_three f None m n l a b c = tt
of_three f (Some p) None n l a b c = absurd a
of_three f (Some p) (Some q) None l a b c = absurd b
of_three f (Some p) (Some q) (Some r) None a b c = absurd c
of_three f (Some p) (Some q) (Some r) (Some s) a b c = f p q r s a b c

pub of_four : {A B C D E : Picture → Picture → Type 0}
    → ((p q r s t : Picture) → A p q → B q r → C r s → D s t → E p t) → (o m n l k : Option Picture)
    → Follows A o m → Follows B m n → Follows C n l → Follows D l k → Follows E o k
of_four f None m n l k a b c d = tt
of_four f (Some p) None n l k a b c d = absurd a
of_four f (Some p) (Some q) None l k a b c d = absurd b
of_four f (Some p) (Some q) (Some r) None k a b c d = absurd c
of_four f (Some p) (Some q) (Some r) (Some s) None a b c d = absurd d
of_four f (Some p) (Some q) (Some r) (Some s) (Some t) a b c d = f p q r s t a b c d

pub all_are : {P Q : Moment → Type 0} → ((m : Moment) → P m → Q m) → (xs : List Moment)
    → AllByRecursion P xs → AllByRecursion Q xs
all_are f [] h = tt
all_are f (x ∷ xs) h = (f x h.0, all_are f xs h.1)

-- no moment, and those of two steps
pub no_moment : (p : Picture) (P : Moment → Type 0) → Since p p P
no_moment p P = ([], sym (append-nil p.moments), tt)

pub more_moments : (p q r : Picture) (P : Moment → Type 0) → Since p q P → Since q r P → Since p r P
more_moments p q r P (xs, e, h) (ys, f, k) =
    (xs ++ ys, f ∙ ap (λ l. l ++ ys) e ∙ append_assoc p.moments xs ys, All-append P xs ys h k)

pub moments_are : (p q : Picture) (P Q : Moment → Type 0) → ((m : Moment) → P m → Q m) → Since p q P
    → Since p q Q
moments_are p q P Q f (xs, e, h) = (xs, e, all_are f xs h)

-- moments at which nothing more was reported than at an earlier picture, which had the same report
pub untold_are : (p q r : Picture) (P Q : Names → Type 0) → q.report ≡ p.report
    → ((s : Names) → P s → Q s) → Since q r (Untold q P) → Since q r (Untold p Q)
untold_are p q r P Q same f h =
    moments_are q r (Untold q P) (Untold p Q) (λ m k. (k.0 ∙ same, f m.holds k.1)) h

-- a name is another one, or it isn't
by_test : (n m : List ℕ) (b : Bool) → bytes_eq n m ≡ b → (n ≡ m) ⊎ (n ≢ m)
by_test n m true e = inl ((bytes_decides n m).0 e)
by_test n m false e = inr (λ h. let bad : true ≡ false = sym ((bytes_decides n m).1 h) ∙ e in cc)

pub same_or_other : (n m : List ℕ) → (n ≡ m) ⊎ (n ≢ m)
same_or_other n m = by_test n m (bytes_eq n m) refl

pub held_is_other : (s : Names) (n m : List ℕ) (f : Stored) → s n ≡ Some f → s m ≡ None → n ≢ m
held_is_other s n m f h k e = let bad : Some f ≡ None = sym h ∙ ap s e ∙ k in cc
