-- The units so far, compared with given tokens.
use Rattle.std.proofs.Common.{◌≡◌, ◌≢◌, ◌≤◌, ◌<◌, ◌+◌, ℕ, true, false, List, [], ◌∷◌, ◌++◌, length, map, drop, refl, ap, sym, ◌∙◌, arith, append_assoc, append-nil, get_or, suc, drop-cons, add-one}
use Rattle.std.specs.Prelude.{if◌then◌else◌}
use Rattle.std.specs.List.{filter}
use Rattle.std.proofs.lemmas.List.{append_cancel_left, drop_all, length-drop, map-append}
use Rattle.std.proofs.lemmas.List.Elements.{filter-append}
use Rattle.cedar_tokens.specs.Units.{IsUnit, IsFirstUnit, BeginsNoUnit, is_token}
use Rattle.cedar_tokens.specs.Split.{Scans, SplitsInto}
use Rattle.cedar_tokens.specs.UnitSteps.{unit_text}
use Rattle.cedar_tokens.specs.declared.units.Unit.{Unit}
use Rattle.cedar_tokens.specs.Listing.{Decorated, token_value}
use Rattle.cedar_tokens.proofs.Gaps.{split_after}
use Rattle.cedar_tokens.proofs.Prefixes.{longest_unique}
use Rattle.cedar_tokens.proofs.Scanning.{empty_begins_none}
use Rattle.cedar_tokens.proofs.UnitsSoFar.{texts, texts_more}
use Rattle.cedar_reading.specs.SameTokens.{HasTheTokens, value_of}

-- the values of the tokens among units
abbrev values : List (List ℕ) → List (List ℕ)
values units = map token_value (filter is_token units)

-- the tokens among the units are the first ones found, by value
pub record Held (ws : List Decorated) (units : List (List ℕ)) (found : ℕ) : Type 0 where
  pub fits : found ≤ length ws
  pub same : values units ++ map value_of (drop found ws) ≡ map value_of ws

values_append : (us vs : List (List ℕ)) → values (us ++ vs) ≡ values us ++ values vs
values_append us vs = ap (map token_value) (filter-append is_token us vs)
    ∙ map-append token_value (filter is_token us) (filter is_token vs)

values_skip : (us : List (List ℕ)) (u : List ℕ) → is_token u ≡ false
    → values (us ++ u ∷ []) ≡ values us
values_skip us u t = values_append us (u ∷ [])
    ∙ ap (λ b. values us ++ map token_value (if b then u ∷ [] else [])) t ∙ append-nil (values us)

values_token : (us : List (List ℕ)) (u : List ℕ) → is_token u ≡ true
    → values (us ++ u ∷ []) ≡ values us ++ token_value u ∷ []
values_token us u t =
    values_append us (u ∷ []) ∙ ap (λ b. values us ++ map token_value (if b then u ∷ [] else [])) t

-- one more blank or comment
pub held_skip : (ws : List Decorated) (us : List Unit) (u : Unit) (found : ℕ)
    → Held ws (texts us) found → is_token (unit_text u) ≡ false
    → Held ws (texts (us ++ u ∷ [])) found
held_skip ws us u found h t = rw (texts_more us u) (record {
  fits = h.fits;
  same = ap (λ z. z ++ map value_of (drop found ws)) (values_skip (texts us) (unit_text u) t)
      ∙ h.same;
})

-- one more token, which is the next one
pub held_token : (ws : List Decorated) (us : List Unit) (u : Unit) (w : Decorated) (found : ℕ)
    → Held ws (texts us) found → is_token (unit_text u) ≡ true
    → found < length ws → drop found ws ≡ w ∷ drop (found + 1) ws
    → token_value (unit_text u) ≡ value_of w → Held ws (texts (us ++ u ∷ [])) (found + 1)
held_token ws us u w found h t l next v = rw (texts_more us u) (record {
  fits = omega (arith, l);
  same = ap (λ z. z ++ map value_of (drop (found + 1) ws)) (values_token (texts us) (unit_text u) t)
      ∙ append_assoc (values (texts us)) (token_value (unit_text u) ∷ [])
      (map value_of (drop (found + 1) ws))
      ∙ ap (λ z. values (texts us) ++ z ∷ map value_of (drop (found + 1) ws)) v
      ∙ ap (λ z. values (texts us) ++ map value_of z) (sym next) ∙ h.same;
})

-- what the text has after the units, and the tokens that are left
record RightAfter (rest : List ℕ) (ws : List Decorated) (found : ℕ) : Type 0 where
  units : List (List ℕ)
  split : SplitsInto rest units
  same : values units ≡ map value_of (drop found ws)

following : (text rest : List ℕ) (ws : List Decorated) (us : List (List ℕ)) (found : ℕ)
    → Scans us text rest → Held ws us found → HasTheTokens text ws → RightAfter rest ws found
following text rest ws us found k h x =
    let s = split_after us x.units text rest k x.split in
    let e : values us ++ values s.0 ≡ values us ++ map value_of (drop found ws) =
    sym (values_append us s.0) ∙ ap values (sym s.1) ∙ x.same ∙ sym h.same in
    record {
      units = s.0;
      split = s.2;
      same = append_cancel_left (values us) (values s.0) (map value_of (drop found ws)) e;
    }

-- a token here has the value of the next one
next_value : (rest u : List ℕ) (ws : List Decorated) (found : ℕ) → RightAfter rest ws found
    → IsFirstUnit rest u → is_token u ≡ true
    → (more : List (List ℕ)) × (token_value u ∷ more ≡ map value_of (drop found ws))
next_value rest u ws found b f t = go b.units b.split b.same
  where
    go : (us : List (List ℕ)) → SplitsInto rest us → values us ≡ map value_of (drop found ws)
        → (more : List (List ℕ)) × (token_value u ∷ more ≡ map value_of (drop found ws))
    go [] s v = absurd (empty_begins_none u f.kind (rw s at f.begins))
    go (w ∷ us) s v =
        let first : values (w ∷ us) ≡ token_value u ∷ values us =
        ap (λ z. values (z ∷ us)) (longest_unique IsUnit rest w u s.0 f)
        ∙ ap (λ c. map token_value (if c then u ∷ filter is_token us else filter is_token us)) t in
        (values us, sym first ∙ v)

-- a token, and none is left
pub held_more : (text rest u : List ℕ) (ws : List Decorated) (us : List (List ℕ)) (found : ℕ)
    → Scans us text rest → Held ws us found → IsFirstUnit rest u → is_token u ≡ true
    → length ws ≤ found → HasTheTokens text ws → ⊥
held_more text rest u ws us found k h f t l x =
    let v = next_value rest u ws found (following text rest ws us found k h x) f t in
    let none : token_value u ∷ v.0 ≡ [] = v.1 ∙ ap (map value_of) (drop_all found ws l) in
    absurd cc

-- a token that differs from the next one
pub held_other : (text rest u : List ℕ) (ws : List Decorated) (us : List (List ℕ))
    (w : Decorated) (found : ℕ) → Scans us text rest → Held ws us found → IsFirstUnit rest u
    → is_token u ≡ true
    → drop found ws ≡ w ∷ drop (found + 1) ws → token_value u ≢ value_of w
    → HasTheTokens text ws → ⊥
held_other text rest u ws us w found k h f t next m x =
    let v = next_value rest u ws found (following text rest ws us found k h x) f t in
    let both : token_value u ∷ v.0 ≡ value_of w ∷ map value_of (drop (found + 1) ws) =
    v.1 ∙ ap (map value_of) next in
    let one : token_value u ≡ value_of w = cc in
    m one

no_values : (ws : List Decorated) → [] ≡ map value_of ws → length ws ≡ 0
no_values [] e = refl
no_values (w ∷ ws) e = absurd cc

-- the units are the whole text
pub held_all : (text : List ℕ) (ws : List Decorated) (us : List (List ℕ)) (found : ℕ)
    → SplitsInto text us → Held ws us found → found ≡ length ws → HasTheTokens text ws
held_all text ws us found s h e =
    let none : drop found ws ≡ [] = drop_all found ws (omega (arith, e)) in
    record {
      units = us;
      split = s;
      same = sym (append-nil (values us)) ∙ ap (λ z. values us ++ map value_of z) (sym none)
          ∙ h.same;
    }

-- no unit begins here: nothing is left of either
pub held_end : (text rest : List ℕ) (ws : List Decorated) (us : List (List ℕ)) (found : ℕ)
    → Scans us text rest → Held ws us found → BeginsNoUnit rest → HasTheTokens text ws
    → (rest ≡ []) × (found ≡ length ws)
held_end text rest ws us found k h none x = go b.units b.split b.same
  where
    b : RightAfter rest ws found
    b = following text rest ws us found k h x

    go : (vs : List (List ℕ)) → SplitsInto rest vs → values vs ≡ map value_of (drop found ws)
        → (rest ≡ []) × (found ≡ length ws)
    go [] s v = (s, omega (arith, no_values (drop found ws) v, length-drop found ws, h.fits))
    go (v ∷ vs) s e = absurd (none v s.0.kind s.0.begins)

-- the token at an index, and those after it
pub token_at : (ws : List Decorated) (index : ℕ) (w : Decorated) → index < length ws
    → w ≡ get_or ws index w → drop index ws ≡ w ∷ drop (index + 1) ws
token_at ws index w l is = drop-cons ws index w l ∙ ap (λ z. z ∷ drop (suc index) ws) (sym is)
    ∙ ap (λ j. w ∷ drop j ws) (sym (add-one index))
