-- What a search finds.
use Rattle.std.proofs.Common.{◌≡◌, ℕ, suc, ◌+◌, ◌<◌, Bool, true, false, cond, List, [], ◌∷◌, length, map, get_or, refl, sym, ap, ◌∙◌, arith, Some, None, Option as RustOption, MatchOption}
use mathlib.Core.Option.{Option, none, some}
use Rattle.std.specs.List.{position_from}
use Rattle.sheet.specs.declared.functions.FunctionRecord.{FunctionRecord}
use Rattle.xi.specs.declared.program.Function.{Function}
use Rattle.checker.specs.Trees.{no_function}
use Rattle.std.proofs.lemmas.List.{get_or-map}
use lib.ListN.{length-map}

-- `look` gives the value of the first item that passes the test, d stands where there is no item
module _ {A B : Type 0} (test : A → Bool) (value : A → B) (look : List A → Option B) (nil : look [] ≡ none) (cons : (a : A) (more : List A) → look (a ∷ more) ≡ cond (test a) (some (value a)) (look more)) (d : A) where
  abbrev Found : ℕ → List A → RustOption ℕ → Type 0
  Found i xs None = look xs ≡ none
  Found i xs (Some j) = (k : ℕ) × (j ≡ i + k) × (k < length xs) × (look xs ≡ some (value (get_or xs k d)))

  on : (i : ℕ) (a : A) (more : List A) (o : RustOption ℕ) → look (a ∷ more) ≡ look more → Found (i + 1) more o → Found i (a ∷ more) o
  on i a more None e f = e ∙ f
  on i a more (Some j) e f = (suc f.0, omega arith, omega arith, e ∙ f.3)

  either : (i : ℕ) (a : A) (more : List A) (b : Bool) → test a ≡ b → Found (i + 1) more (position_from test (i + 1) more) → Found i (a ∷ more) (cond b (Some i) (position_from test (i + 1) more))
  either i a more true e f = (0, omega arith, omega arith, cons a more ∙ ap (λ b. cond b (some (value a)) (look more)) e)
  either i a more false e f = on i a more _ (cons a more ∙ ap (λ b. cond b (some (value a)) (look more)) e) f

  search_from : (xs : List A) (i : ℕ) → Found i xs (position_from test i xs)
  search_from [] i = nil
  search_from (a ∷ more) i = either i a more (test a) refl (search_from more (i + 1))

  from_start : (xs : List A) (o : RustOption ℕ) → Found 0 xs o → MatchOption o (look xs ≡ none) (λ i. (i < length xs) × (look xs ≡ some (value (get_or xs i d))))
  from_start xs None f = f
  from_start xs (Some j) f = let e : f.0 ≡ j = omega arith in (omega arith, f.3 ∙ ap (λ k. some (value (get_or xs k d))) e)

  pub looked : (xs : List A) → MatchOption (position_from test 0 xs) (look xs ≡ none) (λ i. (i < length xs) × (look xs ≡ some (value (get_or xs i d))))
  looked xs = from_start xs _ (search_from xs 0)

abbrev record_function : FunctionRecord → Function
record_function r = r.function

abbrev no_record : FunctionRecord
no_record = record { function = no_function; at = 0 }

-- the same of a function, among function records
module _ (test : Function → Bool) (look : List Function → Option Function) (nil : look [] ≡ none) (cons : (F : Function) (more : List Function) → look (F ∷ more) ≡ cond (test F) (some F) (look more)) (rs : List FunctionRecord) where
  abbrev FunctionFound : RustOption ℕ → Type 0
  FunctionFound o = MatchOption o (look (map record_function rs) ≡ none) (λ i. (i < length (map record_function rs)) × (look (map record_function rs) ≡ some (get_or (map record_function rs) i no_function)))

  looked_as : (o : RustOption ℕ) → MatchOption o (look (map record_function rs) ≡ none) (λ i. (i < length rs) × (look (map record_function rs) ≡ some (get_or rs i no_record).function)) → FunctionFound o
  looked_as None f = f
  looked_as (Some i) f = (simp length-map f.0, f.1 ∙ ap some (sym (get_or-map record_function rs i no_record no_function f.0)))

  pub looked_in : FunctionFound (position_from (λ (r : FunctionRecord). test r.function) 0 rs)
  looked_in = looked_as _ (looked (λ (r : FunctionRecord). test r.function) record_function (λ qs. look (map record_function qs)) nil (λ r qs. cons r.function (map record_function qs)) no_record rs)
