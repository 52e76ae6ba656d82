-- What keys say, from the laws of outputs.
use Rattle.std.proofs.Common.{◌≡◌, ℕ, List, [], ◌∷◌, Bool, true, false, cond, map, pos, refl, sym, ap, ◌∙◌, subst, inl, inr}
use Rattle.std.specs.Prelude.{◌↔◌, ◌⊎◌, ◌||◌, Contains, IsTrue, String, string_bytes}
use Rattle.std.specs.List.{list_any}
use Rattle.std.specs.Str.{IsUtf8, bytes_eq}
use Rattle.std.specs.Cmp.Lexicographic.{bytes_decides, nat_list_eq_equiv}
use Rattle.std.proofs.lemmas.Map.Views.{Contains-from_any, list_any-from_Contains}
use Rattle.cedar_tokens.specs.Listing.{ListingIsUnique, by_value}
use Rattle.cedar_laws.specs.Canonical.{plain_listing}
use Rattle.cedar_written.specs.Canonical.{AcceptedHasOutput, OutputsTellLists}
use Rattle.cedar_written.specs.Lists.{HaveEqualLists}
use Rattle.cedar_examples.specs.Keys.{Gains, HasKeyOf, IsKeyOf, KeysTellLists}

pub keys_tell : OutputsTellLists → ListingIsUnique → KeysTellLists
keys_tell tell unique a b j k f g p q = (
  λ e. (p.list, q.list, p.is_list, q.is_list, (tell 80 (pos 2) a b j k f g p q).0 e),
  λ (l, m, c, d, e). (tell 80 (pos 2) a b j k f g p q).1
      (ap (λ z. by_value (plain_listing z)) (unique a p.list l p.is_list c) ∙ e
      ∙ ap (λ z. by_value (plain_listing z)) (unique b m q.list d q.is_list)),
)

-- a text has one key
one_key : KeysTellLists → (x j k : List ℕ) → IsUtf8 x → IsKeyOf x j → IsKeyOf x k → j ≡ k
one_key tell x j k u p q = (tell x x j k u u p q).1 (p.list, p.list, p.is_list, p.is_list, refl)

module _ {Y : Type 0} where
  -- a test of the keys is a test of their bytes
  any_key : (k : List ℕ) (keys : List (String Y)) → list_any (bytes_eq k) (map string_bytes keys)
      ≡ list_any (λ s. bytes_eq k (string_bytes s)) keys
  any_key k [] = refl
  any_key k (x ∷ xs) = ap (λ z. bytes_eq k (string_bytes x) || z) (any_key k xs)

  key_found : (k : List ℕ) (keys : List (String Y))
      → list_any (λ s. bytes_eq k (string_bytes s)) keys ≡ true → Contains (map string_bytes keys) k
  key_found k keys h = Contains-from_any (λ x y. (bytes_decides x y).0) k (map string_bytes keys)
      (any_key k keys ∙ h)

  found_key : (k : List ℕ) (keys : List (String Y)) → Contains (map string_bytes keys) k
      → list_any (λ s. bytes_eq k (string_bytes s)) keys ≡ true
  found_key k keys h =
      sym (any_key k keys) ∙ list_any-from_Contains nat_list_eq_equiv k (map string_bytes keys) h

  module _ (tell : KeysTellLists) where
    pub found_tells : (keys : List (String Y)) (x k : List ℕ) (t : Bool) → IsUtf8 x → IsKeyOf x k
        → t ≡ list_any (λ s. bytes_eq k (string_bytes s)) keys
        → IsTrue t ↔ HasKeyOf (map string_bytes keys) x
    found_tells keys x k t u p e = (
      λ h. (k, key_found k keys (sym e ∙ h), p),
      λ (j, c, q). e ∙ found_key k keys (subst (λ z. Contains (map string_bytes keys) z)
          (one_key tell x j k u q p) c),
    )

    -- the keys after one was added
    pub put_gains : AcceptedHasOutput → (old new : List (String Y)) (text k : List ℕ) → IsUtf8 text
        → IsKeyOf text k
        → ((q : List ℕ) → list_any (λ s. bytes_eq q (string_bytes s)) new
        ≡ cond (bytes_eq k q) true (list_any (λ s. bytes_eq q (string_bytes s)) old))
        → Gains (map string_bytes old) (map string_bytes new) text
    put_gains some old new text k u p puts x v accepted =
        (λ (q, c, r). forth q (bytes_eq k q) refl r (sym (puts q) ∙ found_key q new c), back)
      where
        forth : (q : List ℕ) (t : Bool) → bytes_eq k q ≡ t → IsKeyOf x q
            → cond (bytes_eq k q) true (list_any (λ s. bytes_eq q (string_bytes s)) old) ≡ true
            → HasKeyOf (map string_bytes old) x ⊎ HaveEqualLists x text
        forth q true e r h = inr ((tell x text q k v u r p).0 (sym ((bytes_decides k q).0 e)))
        forth q false e r h = inl (
          q,
          key_found q old
              (sym (ap (λ z. cond z true (list_any (λ s. bytes_eq q (string_bytes s)) old)) e) ∙ h),
          r,
        )

        kept : (q : List ℕ) (t : Bool) → list_any (λ s. bytes_eq q (string_bytes s)) old ≡ true
            → cond t true (list_any (λ s. bytes_eq q (string_bytes s)) old) ≡ true
        kept q true h = refl
        kept q false h = h

        back : HasKeyOf (map string_bytes old) x ⊎ HaveEqualLists x text
            → HasKeyOf (map string_bytes new) x
        back (inl (q, c, r)) =
            (q, key_found q new (puts q ∙ kept q (bytes_eq k q) (found_key q old c)), r)
        back (inr e) =
            let y = some 80 (pos 2) x v accepted in
            let same = (tell x text y.0 k v u y.1 p).1 e in (
              k,
              key_found k new (puts k ∙ ap (λ z. cond z true
                  (list_any (λ s. bytes_eq k (string_bytes s)) old)) ((bytes_decides k k).1 refl)),
              subst (λ z. IsKeyOf x z) same y.1,
            )
