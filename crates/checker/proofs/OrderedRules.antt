-- All rules of a sheet that was read, as the first broken of its tests.
use Rattle.std.proofs.Common.{◌≡◌, ℕ, zero, suc, ◌+◌, Bool, true, false, List, [], ◌∷◌, ◌++◌, length, get_or, set, replicate, sym, refl, ap, ◌∙◌, arith}
use Rattle.xi.specs.declared.rule.Rule.{Rule}
use Rattle.xi.specs.declared.rule.Rule.TheVariants.{Tree as TreeRule, Taken, Return as ReturnRule, Main}
use Rattle.xi.specs.Program.{items_of}
use Rattle.sheet.specs.Outcome.{Outcome, good, bad, then, held, runs}
use Rattle.sheet.specs.Sheets.{Decoded}
use Rattle.xi.specs.Tree.{node_at, Part}
use Rattle.xi.specs.Typing.{pushed, parameters_of, results_of}
use Rattle.checker.specs.declared.mark.Mark.{Mark}
use Rattle.checker.specs.declared.mark.Mark.TheVariants.{Free, PartOf}
use Rattle.checker.specs.Trees.{function_at, parts_in, claimed_all, parts_claimed, body_claimed, tree_of}
use Rattle.checker.specs.Checked.{bodies_held, names_held, rules_held}
use Rattle.checker.specs.Tests.{Test, test, first_broken, step_tests, steps_lead, claim_tests, claim_marks, node_tests, node_marks, body_tests, body_marks, part_marks, used_tests, shallow_tests, stays, tree_tests, global_tests, function_tests, parameter_tests, parameters_tests, name_tests, function_body_tests, tests_of, AllHold, FirstBroken}
use Rattle.checker.specs.Exact.{RefusesFirst, AcceptsPassing}
use Rattle.checker.proofs.Ordered.{Gives, gives_good, gives-held, gives_then, gives-test}
use Rattle.checker.proofs.OrderedStatements.{statement_ordered}

steps_given : {S : Type 0} (go : ℕ → S → Outcome S) (tests : ℕ → S → List Test) (next : ℕ → S → S) → ((i : ℕ) (s : S) → Gives (go i s) (tests i s) (next i s)) → (n i : ℕ) (s : S) → Gives (runs go n i s) (step_tests tests next n i s) (steps_lead next n i s)
steps_given go tests next h zero i s = gives_good s
steps_given go tests next h (suc n) i s = gives_then (λ t. runs go n (i + 1) t) (h i s) (steps_given go tests next h n (i + 1) (next i s))

claims_given : (D : Decoded) (n : ℕ) (ps : List Part) (u : List Mark) → Gives (claimed_all D n ps u) (claim_tests D n ps u) (claim_marks n ps u)
claims_given D n [] u = gives_good u
claims_given D n (p ∷ ps) u =
    gives_then {us = test _ TreeRule _ ∷ []} (λ v. claimed_all D n ps v) (gives-test _ TreeRule _ _ (gives_good _)) (claims_given D n ps (set u p.number (PartOf n)))

tree_given : (D : Decoded) → Gives (tree_of D) (tree_tests D) tt
tree_given D =
    gives_then _ (steps_given (parts_claimed D) (node_tests D) (node_marks D) (λ n u. claims_given D n (parts_in D.program (node_at D.program n)) u) (length D.program.nodes) 0 (replicate (length D.program.nodes) Free))
    (gives_then _ (steps_given (body_claimed D) (body_tests D) (body_marks D) (λ i u. gives-test _ TreeRule _ _ (gives_good _)) (length D.program.functions) 0 (part_marks D))
    (gives_then _ (steps_given _ (used_tests D) stays (λ n _. gives-held _ TreeRule _) (length D.program.nodes) 0 tt)
    (steps_given _ (shallow_tests D) stays (λ n _. gives-held _ TreeRule _) (length D.program.nodes) 0 tt)))

names_given : (D : Decoded) → Gives (names_held D) (name_tests D) tt
names_given D =
    gives_then _ (steps_given _ (global_tests D) stays (λ i _. gives-held _ Taken _) (length D.program.globals) 0 tt)
    (gives_then _ (steps_given _ (function_tests D) stays (λ i _. gives-held _ Taken _) (length D.program.functions) 0 tt)
    (gives_then _
    (steps_given _ (parameters_tests D) stays
    (λ i _. steps_given _ (parameter_tests D.program.globals (items_of D.program.parameters (function_at D.program i).parameters) (get_or D.function_places i 0)) stays (λ j _. gives-held _ Taken _) (length (items_of D.program.parameters (function_at D.program i).parameters)) 0 tt)
    (length D.program.functions) 0 tt)
    (gives-held _ Main _)))

bodies_given : (D : Decoded) → Gives (bodies_held D) (step_tests (function_body_tests D) stays (length D.program.functions) 0 tt) tt
bodies_given D =
    steps_given _ (function_body_tests D) stays
    (λ i _. gives_then _ (statement_ordered D (results_of D.program (function_at D.program i)) false (pushed (parameters_of D.program (function_at D.program i)) []) (function_at D.program i).body) (gives-held _ ReturnRule _))
    (length D.program.functions) 0 tt

-- the rules hold, or the first broken of the tests is the answer
pub rules_ordered : (D : Decoded) → Gives (rules_held D) (tests_of D) tt
rules_ordered D = gives_then _ (tree_given D) (gives_then _ (names_given D) (bodies_given D))

never : {A : Type 0} (x : A) (k : Rule) (p : ℕ) → good x ≡ bad k p → ⊥
never x k p e = let z : ◌≡◌ {A = ℕ} 0 1 = cc in omega arith

module _ (t : Test) (ts : List Test) where
  -- one test more at the front
  behind-one : (k : Rule) (p : ℕ) → (first_broken ts ≡ bad k p → FirstBroken ts k p) → (b : Bool) (j : Rule) (q : ℕ) → test b j q ≡ t → then (held b j q) (λ _. first_broken ts) ≡ bad k p → FirstBroken (t ∷ ts) k p
  behind-one k p rest true j q i h =
      let more = rest h in
      record { before = t ∷ more.before; behind = more.behind; order = ap (λ us. t ∷ us) more.order; hold = (ap (λ (u : Test). u.holds) (sym i), more.hold) }
  behind-one k p rest false j q i h =
      let same-rule : j ≡ k = cc in
      let same_place : q ≡ p = cc in
      record { before = []; behind = ts; order = ap (λ u. u ∷ ts) (sym i ∙ (λ l. test false (same-rule l) (same_place l))); hold = tt }

  hold-one : (first_broken ts ≡ good tt → AllHold ts) → (b : Bool) → t.holds ≡ b → then (held b t.rule t.place) (λ _. first_broken ts) ≡ good tt → AllHold (t ∷ ts)
  hold-one rest true i h = (i, rest h)
  hold-one rest false i h = absurd (never tt t.rule t.place (sym h))

-- where the first broken is a refusal, it is that of a test that fails, and all before it hold
found : (ts : List Test) (k : Rule) (p : ℕ) → first_broken ts ≡ bad k p → FirstBroken ts k p
found [] k p e = absurd (never tt k p e)
found (t ∷ ts) k p e = behind-one t ts k p (found ts k p) t.holds t.rule t.place refl e

held_all : (ts : List Test) → first_broken ts ≡ good tt → AllHold ts
held_all [] e = tt
held_all (t ∷ ts) e = hold-one t ts (held_all ts) t.holds refl e

-- what the tests say, without the value
verdict : (o : Outcome (Unit {0})) → then o (λ _. good tt) ≡ o
verdict (good tt) = refl
verdict (bad k p) = refl

-- a test that fails behind tests that hold is the answer
answers : (us : List Test) (k : Rule) (p : ℕ) (vs : List Test) → AllHold us → first_broken (us ++ (test false k p ∷ vs)) ≡ bad k p
answers [] k p vs h = refl
answers (t ∷ us) k p vs h = ap (λ b. then (held b t.rule t.place) (λ _. first_broken (us ++ (test false k p ∷ vs)))) h.0 ∙ answers us k p vs h.1

passes : (ts : List Test) → AllHold ts → first_broken ts ≡ good tt
passes [] h = refl
passes (t ∷ ts) h = ap (λ b. then (held b t.rule t.place) (λ _. first_broken ts)) h.0 ∙ passes ts h.1

-- the rules give what the first broken test gives
verdict_of : (D : Decoded) → rules_held D ≡ first_broken (tests_of D)
verdict_of D = (rules_ordered D).is ∙ verdict (first_broken (tests_of D))

pub refuses_first : RefusesFirst
refuses_first D k p = (
  λ e. found (tests_of D) k p (sym (verdict_of D) ∙ e),
  λ f. verdict_of D ∙ ap first_broken f.order ∙ answers f.before k p f.behind f.hold,
)

pub accepts_passing : AcceptsPassing
accepts_passing D = (λ e. held_all (tests_of D) (sym (verdict_of D) ∙ e), λ h. verdict_of D ∙ passes (tests_of D) h)
