-- What reading grants.
use Rattle.std.proofs.Common.{◌≡◌, ℕ, zero, suc, ◌+◌, ◌*◌, ◌^◌, ◌<◌, ◌≤◌, ◌&&◌, eqb, ltb, leb, List, [], ◌∷◌, ◌++◌, length, get_or, sym, refl, ap, ◌∙◌, subst, arith}
use Rattle.std.proofs.lemmas.List.{length_push}
use Rattle.std.proofs.lemmas.Bool.{leb-true, ltb-true}
use Rattle.xi.specs.declared.node.Node.TheVariants.{Discard}
use Rattle.xi.specs.declared.node.Ty.{Ty}
use Rattle.xi.specs.declared.program.Function.{Function}
use Rattle.xi.specs.declared.program.Parameter.{Parameter}
use Rattle.xi.specs.declared.rule.Rule.TheVariants.{Range, Bytes}
use Rattle.sheet.specs.Outcome.{Outcome, good, held, runs}
use Rattle.sheet.specs.Fields.{pair, signed_at, span_at, byte_at, count_at, item_of, items_at}
use Rattle.sheet.specs.Names.{names_at}
use Rattle.sheet.specs.Nodes.{node_reads}
use Rattle.sheet.specs.Globals.{global_reads}
use Rattle.sheet.specs.Functions.{FunctionList, listed, parameter_item, result_item, parameters_of, results_of, function_of, function_item, functions_at}
use Rattle.sheet.specs.Sheets.{Decoded, decoded_with, head_at, decoded_at}
use Rattle.checker.specs.Trees.{no_function}
use Rattle.checker.specs.Facts.{Sized, Granted}
use Rattle.checker.proofs.Opens.{same_good, then_opens, held_opens, cond_opens, and_left, and_right, runs-keep, Each, each_push, each_get, each_map}
use Rattle.checker.proofs.NodeSizes.{read-fit}

-- items of one size: where they end, and what holds of each that is read
module _ {A : Type 0} (n : ℕ) (reads : ℕ → List ℕ → Outcome A) (R : A → Type 0) (each : (p : ℕ) (w : List ℕ) (x : A) → reads p w ≡ good x → R x) (bs : List ℕ) (start : ℕ) where
  abbrev Kept : List A × ℕ → Type 0
  Kept s = (s.1 ≡ start + n * length s.0) × (s.1 ≤ length bs) × Each R s.0

  step : (i : ℕ) (s t : List A × ℕ) → Kept s → item_of n reads bs s ≡ good t → Kept t
  step i s t k e =
      let o = then_opens (span_at bs s.1 n) _ t e in
      let r = then_opens (reads s.1 o.0) _ t o.2 in
      let room : s.1 + n ≤ length bs = leb-true _ _ (cond_opens _ _ _ _ _ o.1) in
      let place : s.1 + n ≡ start + n * length (s.0 ++ r.0 ∷ []) = simp length_push (omega (arith, k.0)) in
      subst Kept (same_good r.2) (place, room, each_push R s.0 r.0 k.2 (each _ _ _ r.1))

pub record Items {A : Type 0} (n : ℕ) (R : A → Type 0) (bs : List ℕ) (p : ℕ) (xs : List A) : Type 0 where
  pub room : p + 2 + n * length xs ≤ length bs
  pub all : Each R xs

items_kept : {A : Type 0} (n : ℕ) (reads : ℕ → List ℕ → Outcome A) (R : A → Type 0) → ((p : ℕ) (w : List ℕ) (x : A) → reads p w ≡ good x → R x) → (m : ℕ) (bs : List ℕ) (p : ℕ) (t : List A × ℕ) → items_at n reads m bs p ≡ good t → Items n R bs p t.0
items_kept {A} n reads R each m bs p t e =
    let o = then_opens (count_at bs p m) _ t e in
    let a = then_opens (span_at bs p 2) _ o.0 o.1 in
    let front : p + 2 ≤ length bs = leb-true _ _ (cond_opens _ _ _ _ _ a.1) in
    let none : p + 2 ≡ p + 2 + n * length {A = A} [] = omega arith in
    let k = runs-keep (λ _ s. item_of n reads bs s) (Kept n reads R each bs (p + 2)) (step n reads R each bs (p + 2)) o.0 0 ([], p + 2) t (none, front, tt) o.2 in
    record { room = omega (arith, k.0, k.1); all = k.2 }

-- a run of steps that each add one item
grows : {A : Type 0} (go : ℕ → List A → Outcome (List A)) → ((i : ℕ) (xs ys : List A) → go i xs ≡ good ys → length ys ≡ length xs + 1) → (n i : ℕ) (xs ys : List A) → runs go n i xs ≡ good ys → length ys ≡ length xs + n
grows go one zero i xs ys e = let same = ap length (same_good e) in omega (arith, same)
grows go one (suc n) i xs ys e =
    let o = then_opens (go i xs) (λ u. runs go n (i + 1) u) ys e in
    let a = one i xs o.0 o.1 in
    let b = grows go one n (i + 1) o.0 ys o.2 in
    omega (arith, a, b)

parameters_grow : (n : ℕ) (w : List ℕ) (p m : ℕ) (ps qs : List Parameter) → parameters_of n w p m ps ≡ good qs → length qs ≡ length ps + m
parameters_grow n w p m ps qs e = grows (λ i s. parameter_item n w p (3 + 3 * i) s) one m 0 ps qs e
  where
    one : (i : ℕ) (xs ys : List Parameter) → parameter_item n w p (3 + 3 * i) xs ≡ good ys → length ys ≡ length xs + 1
    one i xs ys f = let o = then_opens (held (ltb (pair w (3 + 3 * i)) n && leb (get_or w (3 + 3 * i + 2) 0) 9) Range p) _ ys f in sym (ap length (same_good o.2)) ∙ length_push xs _

results_grow : (w : List ℕ) (p i k : ℕ) (ts us : List Ty) → results_of w p i k ts ≡ good us → length us ≡ length ts + k
results_grow w p i k ts us e = grows (λ j s. result_item w p (i + j) s) one k 0 ts us e
  where
    one : (j : ℕ) (xs ys : List Ty) → result_item w p (i + j) xs ≡ good ys → length ys ≡ length xs + 1
    one j xs ys f = let o = then_opens (held (leb (get_or w (i + j) 0) 9) Range p) _ ys f in sym (ap length (same_good o.2)) ∙ length_push xs _

-- what holds of a function where there are n names, a parameters and b results
pub record Has (n a b : ℕ) (F : Function) : Type 0 where
  pub named : F.name < n
  pub parameters : F.parameters.first + F.parameters.count ≤ a
  pub few : F.parameters.count ≤ 8
  pub results : F.results.first + F.results.count ≤ b

abbrev Listed : ℕ → FunctionList → Type 0
Listed n f = (length f.places ≡ length f.records) × Each (Has n (length f.parameters) (length f.results)) f.records

-- the function of the record w, after those of s
abbrev record_of : List ℕ → ℕ → ℕ → FunctionList → Function
record_of w m k s = record { name = pair w 0; parameters = record { first = length s.parameters; count = m }; results = record { first = length s.results; count = k }; body = pair w (4 + 3 * m + k) }

-- one function more
adds : (n p m k : ℕ) (w : List ℕ) (s t : FunctionList) → Listed n s → function_of n p m k w s ≡ good t → Listed n t
adds n p m k w s t l e =
    let made = record_of w m k s in
    let h = then_opens (held (ltb (pair w 0) n && (leb m 8 && leb k 8)) Range p) _ t e in
    let a = then_opens (parameters_of n w p m s.parameters) _ t h.2 in
    let b = then_opens (results_of w p (4 + 3 * m) k s.results) _ t a.2 in
    let tested = held_opens (ltb (pair w 0) n && (leb m 8 && leb k 8)) Range p tt h.1 in
    let low : pair w 0 < n = ltb-true _ _ (and_left (ltb (pair w 0) n) (leb m 8 && leb k 8) tested) in
    let few : m ≤ 8 = leb-true _ _ (and_left (leb m 8) (leb k 8) (and_right (ltb (pair w 0) n) (leb m 8 && leb k 8) tested)) in
    let pa = parameters_grow n w p m s.parameters a.0 a.1 in
    let re = results_grow w p (4 + 3 * m) k s.results b.0 b.1 in
    let many : length (s.places ++ p ∷ []) ≡ length (s.records ++ made ∷ []) = length_push s.places p ∙ ap (λ x. x + 1) l.0 ∙ sym (length_push s.records made) in
    let old = each_map (Has n (length s.parameters) (length s.results)) (Has n (length a.0) (length b.0)) (λ F x. record { named = x.named; parameters = omega (arith, x.parameters, pa); few = x.few; results = omega (arith, x.results, re) }) s.records l.1 in
    let new : Has n (length a.0) (length b.0) made = record { named = low; parameters = omega (arith, pa); few = few; results = omega (arith, re) } in
    subst (Listed n) (same_good b.2) (many, each_push (Has n (length a.0) (length b.0)) s.records made old new)

functions_kept : (n : ℕ) (bs : List ℕ) (p : ℕ) (t : FunctionList × ℕ) → functions_at n bs p ≡ good t → Listed n t.0
functions_kept n bs p t e =
    let o = then_opens (count_at bs p 64) _ t e in
    runs-keep (λ _ s. function_item n bs s) (λ (s : FunctionList × ℕ). Listed n s.0) one o.0 0 (listed [] [] [] [], p + 2) t (refl, tt) o.2
  where
    one : (i : ℕ) (s u : FunctionList × ℕ) → Listed n s.0 → function_item n bs s ≡ good u → Listed n u.0
    one i s u l f =
        let a = then_opens (byte_at bs s.1 2) _ u f in
        let b = then_opens (byte_at bs s.1 (3 + 3 * a.0)) _ u a.2 in
        let d = then_opens (span_at bs s.1 (6 + 3 * a.0 + b.0)) _ u b.2 in
        let g = then_opens (function_of n s.1 a.0 b.0 d.0 s.0) _ u d.2 in
        subst (λ (v : FunctionList × ℕ). Listed n v.0) (same_good g.2) (adds n s.1 a.0 b.0 d.0 s.0 g.0 l g.1)

get_within : {A : Type 0} (R : A → Type 0) (xs : List A) (d : A) → Each R xs → (i : ℕ) → i < length xs → R (get_or xs i d)
get_within R [] d r i h = absurd (omega arith)
get_within R (x ∷ xs) d r zero h = r.0
get_within R (x ∷ xs) d r (suc i) h = get_within R xs d r.1 i (omega arith)

small_too : (a l : ℕ) → a ≤ l → l < 2 ^ 64 → a < 2 ^ 64
small_too a l h g = omega arith

-- all that reading grants
pub grants : (bs : List ℕ) (D : Decoded) → length bs < 2 ^ 64 → decoded_at bs ≡ good D → Granted D
grants bs D small e =
    let a = then_opens (head_at bs) _ D e in
    let ws = then_opens (names_at bs 5) _ D a.2 in
    let cs = then_opens (items_at 8 (λ _ w. good (signed_at w 0)) 1024 bs ws.0.1) _ D ws.2 in
    let es = then_opens (items_at 2 (λ _ w. good (pair w 0)) 4096 bs cs.0.1) _ D cs.2 in
    let n = length ws.0.0 in
    let m = length es.0.0 in
    let ds = then_opens (items_at 8 (node_reads n cs.0.0 m) 2048 bs es.0.1) _ D es.2 in
    let gs = then_opens (items_at 12 (global_reads n cs.0.0 m) 32 bs ds.0.1) _ D ds.2 in
    let f = then_opens (functions_at n bs gs.0.1) _ D gs.2 in
    let z = then_opens (held (eqb f.0.1 (length bs)) Bytes f.0.1) _ D f.2 in
    let all = decoded_with ws.0.0 cs.0.0 es.0.0 ds.0.0 gs.0.0 f.0.0 (es.0.1 + 2) (ds.0.1 + 2) gs.0.1 in
    let P = all.program in
    let nodes = items_kept 8 (node_reads n cs.0.0 m) (Sized P) (λ p w d h. read-fit P n cs.0.0 p w d h) 2048 bs es.0.1 ds.0 ds.1 in
    let globals = items_kept 12 (global_reads n cs.0.0 m) (λ _. Unit {0}) (λ p w d h. tt) 32 bs ds.0.1 gs.0 gs.1 in
    let functions = functions_kept n bs gs.0.1 f.0 f.1 in
    subst Granted (same_good z.2) record {
      nodes = λ i. each_get (Sized P) ds.0.0 Discard nodes.all tt i;
      node_offsets = small_too _ _ nodes.room small;
      global_offsets = small_too _ _ globals.room small;
      places = functions.0;
      functions = λ i h.
          let g = get_within (Has n (length f.0.0.parameters) (length f.0.0.results)) f.0.0.records no_function functions.1 i h in
          record { named = g.named; parameters = g.parameters; few = g.few; results = g.results };
    }
