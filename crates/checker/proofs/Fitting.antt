-- A turn of the loop that types the values of a run and compares them with what is wanted.
use Rattle.std.proofs.Common.{◌≡◌, ℕ, ◌+◌, ◌<◌, ◌≤◌, Bool, true, false, ◌&&◌, List, [], ◌∷◌, length, get_or, drop, sym, refl, ap, ◌∙◌}
use Rattle.std.proofs.lemmas.List.{at_drop_more, at_drop_all, drop-drop}
use Rattle.xi.specs.declared.rule.Rule.{Rule}
use Rattle.sheet.specs.Outcome.{Outcome, good, bad, then}
use Rattle.checker.specs.Walk.{types_each, agree}
use Rattle.checker.specs.Wants.{begins}

agree_front : (t : ℕ) (ts ws : List ℕ) → agree (t ∷ ts) ws ≡ (begins t ws && agree ts (drop 1 ws))
agree_front t ts [] = refl
agree_front t ts (w ∷ ws) = refl

and_joined : (a b x : Bool) → ((a && b) && x) ≡ (a && (b && x))
and_joined true b x = refl
and_joined false b x = refl

and_true : (a : Bool) → (a && true) ≡ a
and_true true = refl
and_true false = refl

and_false : (a : Bool) → (a && false) ≡ false
and_false true = refl
and_false false = refl

-- what is left to type and to compare, where `fit` says whether the values so far fit
abbrev pub left : (ℕ → Outcome ℕ) → List ℕ → List ℕ → ℕ → Bool → Outcome Bool
left go ns ws i fit = then (types_each go (drop i ns)) (λ ts. good (fit && agree ts (drop i ws)))

put_front : (o : Outcome (List ℕ)) (t : ℕ) (f : List ℕ → Bool) → then (then o (λ ts. good (t ∷ ts))) (λ us. good (f us)) ≡ then o (λ ts. good (f (t ∷ ts)))
put_front (good ts) t f = refl
put_front (bad k q) t f = refl

module _ (go : ℕ → Outcome ℕ) (ns ws : List ℕ) (i : ℕ) (fit : Bool) where
  module _ (more : i < length ns) where
    turn : left go ns ws i fit ≡ then (then (go (get_or ns i 0)) (λ t. then (types_each go (drop (i + 1) ns)) (λ ts. good (t ∷ ts)))) (λ ts. good (fit && agree ts (drop i ws)))
    turn = at_drop_more (λ ms. then (types_each go ms) (λ ts. good (fit && agree ts (drop i ws)))) ns i 0 more

    pub fit-bad : (k : Rule) (q : ℕ) → go (get_or ns i 0) ≡ bad k q → left go ns ws i fit ≡ bad k q
    fit-bad k q e = turn ∙ ap (λ o. then (then o (λ t. then (types_each go (drop (i + 1) ns)) (λ ts. good (t ∷ ts)))) (λ ts. good (fit && agree ts (drop i ws)))) e

    pub fit_next : (t : ℕ) (b : Bool) → go (get_or ns i 0) ≡ good t → b ≡ begins t (drop i ws) → left go ns ws (i + 1) (fit && b) ≡ left go ns ws i fit
    fit_next t b e h =
        sym (turn
        ∙ ap (λ o. then (then o (λ t. then (types_each go (drop (i + 1) ns)) (λ ts. good (t ∷ ts)))) (λ ts. good (fit && agree ts (drop i ws)))) e
        ∙ put_front (types_each go (drop (i + 1) ns)) t (λ ts. fit && agree ts (drop i ws))
        ∙ (λ j. then (types_each go (drop (i + 1) ns)) (λ ts. good (same ts j))))
      where
        same : (ts : List ℕ) → (fit && agree (t ∷ ts) (drop i ws)) ≡ ((fit && b) && agree ts (drop (i + 1) ws))
        same ts =
            ap (λ x. fit && x) (agree_front t ts (drop i ws) ∙ (λ j. sym h j && agree ts (drop-drop 1 i ws j)))
            ∙ sym (and_joined fit b (agree ts (drop (i + 1) ws)))

    -- a value that fits leaves `fit` as it was, another makes it false
    pub fit-kept : (t : ℕ) (new : Bool) → go (get_or ns i 0) ≡ good t → true ≡ begins t (drop i ws) → new ≡ fit → left go ns ws (i + 1) new ≡ left go ns ws i fit
    fit-kept t new e h same = ap (left go ns ws (i + 1)) (same ∙ sym (and_true fit)) ∙ fit_next t true e h

    pub fit-lost : (t : ℕ) (new : Bool) → go (get_or ns i 0) ≡ good t → false ≡ begins t (drop i ws) → new ≡ false → left go ns ws (i + 1) new ≡ left go ns ws i fit
    fit-lost t new e h none = ap (left go ns ws (i + 1)) (none ∙ sym (and_false fit)) ∙ fit_next t false e h

  pub fit-end : length ns ≤ i → left go ns ws i fit ≡ good fit
  fit-end h = at_drop_all (λ ms. then (types_each go ms) (λ ts. good (fit && agree ts (drop i ws)))) ns i h ∙ ap good (and_true fit)
