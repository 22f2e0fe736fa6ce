-- What is read from bytes lies in its ranges.
use Rattle.std.proofs.Common.{◌≡◌, ℕ, zero, suc, ◌+◌, ◌*◌, ◌^◌, ◌<◌, ◌≤◌, Bool, true, false, cond, ◌&&◌, ◌||◌, eqb, ltb, leb, List, [], ◌∷◌, length, get_or, take, drop, ℤ, Some, None, Option, sym, ap, ◌∙◌, subst, ⊎_elim, arith, w64, SFits, to_z}
use mir.Facts.{sfits_to_z}
use Rattle.std.proofs.lemmas.List.{get_or-take, get_or-drop, get_or_past, length-take, length_push}
use Rattle.std.proofs.lemmas.Bool.{lt-ltb, leb-true, and_parts, cases_lt, cases_Bool, ne_eqb, or_from, and_left, false≢true}
use Rattle.xi.specs.declared.node.Node.{Node}
use Rattle.xi.specs.declared.node.Node.TheVariants.{Discard}
use Rattle.xi.specs.declared.node.Ty.{Ty}
use Rattle.xi.specs.declared.program.GlobalVariable.{GlobalVariable}
use Rattle.xi.specs.declared.program.Parameter.{Parameter}
use Rattle.xi.specs.declared.program.Function.{Function}
use Rattle.xi.specs.declared.rule.Rule.TheVariants.{Range, Bytes}
use Rattle.xi.specs.Program.{Program}
use Rattle.xi.specs.Tree.{node_at, Each}
use Rattle.xi.specs.Obeys.{Within, Ranged, FirstFits, InRange}
use Rattle.sheet.specs.Outcome.{Outcome, good, bad, then, held, runs}
use Rattle.sheet.specs.Fields.{pair, eight, signed_at, span_at, byte_at, count_at, item_of, items_at}
use Rattle.sheet.specs.Names.{names_at}
use Rattle.sheet.specs.Nodes.{raw_of, node_of, known, node_reads}
use Rattle.sheet.specs.Globals.{first_value, global_reads}
use Rattle.sheet.specs.Functions.{FunctionList, listed, parameter_item, result_item, parameters_of, results_of, function_of, function_item, functions_at}
use Rattle.sheet.specs.Sheets.{Decoded, decoded_with, head_at}
use Rattle.checker.specs.Exact.{ReadsInRange}
use Rattle.checker.proofs.Chains.{not_good, good_same, then_splits, then_leads, held_splits}
use Rattle.checker.proofs.Eaches.{each-onto, each_append, each_at}
use Rattle.checker.proofs.NodeRanges.{Fine, node-fine}

-- what each step of a run keeps, the run keeps
runs-keep : {S : Type 0} (I : ℕ → S → Type 0) (go : ℕ → S → Outcome S) → ((i : ℕ) (s t : S) → I i s → go i s ≡ good t → I (i + 1) t) → (m i : ℕ) (s t : S) → I i s → runs go m i s ≡ good t → I (i + m) t
runs-keep I go step zero i s t h q = let e : i ≡ i + 0 = omega arith in subst (I (i + 0)) (good_same q) (subst (λ (j : ℕ). I j s) e h)
runs-keep I go step (suc m) i s t h q =
    let x = then_splits (go i s) (λ u. runs go m (i + 1) u) q in
    let e : (i + 1) + m ≡ i + suc m = omega arith in
    subst (λ (j : ℕ). I j t) e (runs-keep I go step m (i + 1) x.0 t (step i s x.0 h x.1) x.2)

-- every byte is below 256
abbrev Octets : List ℕ → Type 0
Octets w = (i : ℕ) → get_or w i 0 < 256

-- bytes of a span
span_octets : (bs : List ℕ) (p n : ℕ) (w : List ℕ) → Octets bs → span_at bs p n ≡ good w → Octets w
span_octets bs p n w o q = ⊎_elim yes no (cases_Bool (leb (p + n) (length bs)))
  where
    taken : Octets (take n (drop p bs))
    taken i =
        ⊎_elim (λ (l : i < n). rw (get_or-take n (drop p bs) i 0 l, get_or-drop p bs i 0) (o (p + i)))
        (λ (l : n ≤ i). rw (get_or_past (take n (drop p bs)) i 0 (omega (arith, length-take n (drop p bs)))) (omega arith)) (cases_lt i n)

    yes : leb (p + n) (length bs) ≡ true → Octets w
    yes e = subst Octets (good_same (ap (λ b. cond b (good (take n (drop p bs))) (bad Bytes p)) (sym e) ∙ q)) taken

    no : leb (p + n) (length bs) ≡ false → Octets w
    no e = absurd (not_good (ap (λ b. cond b (good (take n (drop p bs))) (bad Bytes p)) (sym e) ∙ q))

-- eight bytes are a number of 64 bits
eight_fits : (w : List ℕ) (i : ℕ) → Octets w → SFits w64 (to_z w64 (eight w i))
eight_fits w i o =
    let l : eight w i < 2 ^ 64 = omega (arith, o i, o (i + 1), o (i + 2), o (i + 2 + 1), o (i + 4), o (i + 4 + 1), o (i + 4 + 2), o (i + 4 + 2 + 1)) in
    sfits_to_z (record { fits = l })

-- items that are read one after another
items-each : {A : Type 0} (Q : A → Type 0) (n : ℕ) (reads : ℕ → List ℕ → Outcome A) (m : ℕ) (bs : List ℕ) (p : ℕ) (s : List A × ℕ) → Octets bs → ((q : ℕ) (w : List ℕ) (x : A) → Octets w → reads q w ≡ good x → Q x) → items_at n reads m bs p ≡ good s → Each Q s.0
items-each {A} Q n reads m bs p s o h q =
    let x = then_splits (count_at bs p m) (λ k. runs (λ _ t. item_of n reads bs t) k 0 ([], p + 2)) q in
    runs-keep (λ _ (t : List A × ℕ). Each Q t.0) (λ _ t. item_of n reads bs t) step x.0 0 ([], p + 2) s tt x.2
  where
    step : (i : ℕ) (t u : List A × ℕ) → Each Q t.0 → item_of n reads bs t ≡ good u → Each Q u.0
    step i t u e r =
        let y = then_splits (span_at bs t.1 n) _ r in
        let z = then_splits (reads t.1 y.0) _ y.2 in
        subst (λ (v : List A × ℕ). Each Q v.0) (good_same z.2) (each_append Q t.0 (z.0 ∷ []) e (h t.1 y.0 z.0 (span_octets bs t.1 n y.0 o y.1) z.1, tt))

-- a node that is read
node_reads-Ranged : (P : Program) (n p : ℕ) (w : List ℕ) (d : Node) → node_reads n P.constants (length P.entries) p w ≡ good d → Ranged P d
node_reads-Ranged P n p w d q = read (node_of n P.constants (length P.entries) (raw_of w)) (node-fine P n w) q
  where
    read : (o : Option Node) → Fine P o → known o p ≡ good d → Ranged P d
    read None f e = absurd (not_good e)
    read (Some c) f e = f.ranged d (ap {B = Option Node} Some (good_same e))

-- the first value of a global
abbrev Global : GlobalVariable → Type 0
Global g = (g.ty.number ≤ 9) × FirstFits g.ty.number g.first

-- a value that is given
given_fits : (t v : ℕ) → SFits w64 (to_z w64 v) → (eqb t 0 || (eqb t 1 && leb v 1)) ≡ true → FirstFits t (Some (to_z w64 v))
given_fits zero v f h = f
given_fits (suc zero) v f h = let l : v ≤ 1 = leb-true v 1 h in (v, rw (lt-ltb v (2 ^ 63) (omega arith)), l)
given_fits (suc (suc t)) v f h = absurd (false≢true (sym (or_from _ _ (ne_eqb (suc (suc t)) 0 (λ e. omega arith)) (and_left _ _ (ne_eqb (suc (suc t)) 1 (λ e. omega arith)))) ∙ h))

-- a first value that was read
first_fits : (p t g v : ℕ) (o : Option ℤ) → SFits w64 (to_z w64 v) → first_value p t g v ≡ good o → FirstFits t o
first_fits p t g v o f q = ⊎_elim none given (cases_Bool (eqb g 0))
  where
    some : Outcome (Option ℤ)
    some = cond (eqb g 1 && (eqb t 0 || (eqb t 1 && leb v 1))) (good (Some (to_z w64 v))) (bad Range p)

    nothing : Outcome (Option ℤ)
    nothing = cond (eqb v 0) (good None) (bad Range p)

    none : eqb g 0 ≡ true → FirstFits t o
    none e =
        let r : nothing ≡ good o = ap (λ b. cond b nothing some) (sym e) ∙ q in
        ⊎_elim (λ (z : eqb v 0 ≡ true). subst (FirstFits t) (good_same (ap (λ b. cond b (good None) (bad Range p)) (sym z) ∙ r)) tt)
        (λ (z : eqb v 0 ≡ false). absurd (not_good (ap (λ b. cond b (good None) (bad Range p)) (sym z) ∙ r))) (cases_Bool (eqb v 0))

    given : eqb g 0 ≡ false → FirstFits t o
    given e =
        let r : some ≡ good o = ap (λ b. cond b nothing some) (sym e) ∙ q in
        let c : Bool = eqb g 1 && (eqb t 0 || (eqb t 1 && leb v 1)) in
        ⊎_elim (λ (z : c ≡ true). subst (FirstFits t) (good_same (ap (λ b. cond b (good (Some (to_z w64 v))) (bad Range p)) (sym z) ∙ r)) (given_fits t v f (and_parts (eqb g 1) _ z).1))
        (λ (z : c ≡ false). absurd (not_good (ap (λ b. cond b (good (Some (to_z w64 v))) (bad Range p)) (sym z) ∙ r))) (cases_Bool c)

-- a global that was read
global_reads-Global : (n : ℕ) (cs : List ℤ) (e p : ℕ) (w : List ℕ) (g : GlobalVariable) → Octets w → global_reads n cs e p w ≡ good g → Global g
global_reads-Global n cs e p w g o q =
    let x = held_splits (ltb (pair w 0) n && leb (get_or w 2 0) 9) Range p _ q in
    let y = then_splits (first_value p (get_or w 2 0) (get_or w 3 0) (eight w 4)) _ x.1 in
    subst Global (good_same y.2) (leb-true _ _ (and_parts (ltb (pair w 0) n) _ x.0).1, first_fits p (get_or w 2 0) (get_or w 3 0) (eight w 4) y.0 (eight_fits w 4 o) y.1)

-- a type that there is
abbrev Small : Ty → Type 0
Small t = t.number ≤ 9

-- a parameter of a type that there is
abbrev SmallParameter : Parameter → Type 0
SmallParameter p = p.ty.number ≤ 9

-- m parameters more
parameters_more : (n : ℕ) (w : List ℕ) (p m : ℕ) (ps qs : List Parameter) → Each SmallParameter ps → parameters_of n w p m ps ≡ good qs → Each SmallParameter qs × (length qs ≡ length ps + m)
parameters_more n w p m ps qs h q = let r = runs-keep (λ i (s : List Parameter). Each SmallParameter s × (length s ≡ length ps + i)) (λ i s. parameter_item n w p (3 + 3 * i) s) step m 0 ps qs (h, omega arith) q in (r.0, omega (arith, r.1))
  where
    step : (i : ℕ) (s t : List Parameter) → Each SmallParameter s × (length s ≡ length ps + i) → parameter_item n w p (3 + 3 * i) s ≡ good t → Each SmallParameter t × (length t ≡ length ps + (i + 1))
    step i s t a r =
        let j : ℕ = 3 + 3 * i in
        let x = held_splits (ltb (pair w j) n && leb (get_or w (j + 2) 0) 9) Range p _ r in
        let new : Parameter = record { name = pair w j; ty = record { number = get_or w (j + 2) 0 } } in
        let l : length s ≡ length ps + i = a.1 in
        subst (λ (u : List Parameter). Each SmallParameter u × (length u ≡ length ps + (i + 1))) (good_same x.1)
        (each_append SmallParameter s (new ∷ []) a.0 (leb-true _ _ (and_parts (ltb (pair w j) n) _ x.0).1, tt), omega (arith, length_push s new))

-- k results more
results_more : (w : List ℕ) (p i k : ℕ) (ts us : List Ty) → Each Small ts → results_of w p i k ts ≡ good us → Each Small us × (length us ≡ length ts + k)
results_more w p i k ts us h q = let r = runs-keep (λ j (s : List Ty). Each Small s × (length s ≡ length ts + j)) (λ j s. result_item w p (i + j) s) step k 0 ts us (h, omega arith) q in (r.0, omega (arith, r.1))
  where
    step : (j : ℕ) (s t : List Ty) → Each Small s × (length s ≡ length ts + j) → result_item w p (i + j) s ≡ good t → Each Small t × (length t ≡ length ts + (j + 1))
    step j s t a r =
        let x = held_splits (leb (get_or w (i + j) 0) 9) Range p _ r in
        let new : Ty = record { number = get_or w (i + j) 0 } in
        let l : length s ≡ length ts + j = a.1 in
        subst (λ (u : List Ty). Each Small u × (length u ≡ length ts + (j + 1))) (good_same x.1) (each_append Small s (new ∷ []) a.0 (leb-true _ _ x.0, tt), omega (arith, length_push s new))

-- a function whose runs lie within that many parameters and results
abbrev Runs : ℕ → ℕ → Function → Type 0
Runs a b F = Within a 8 F.parameters × Within b 8 F.results

-- more parameters and results
runs_wider : (a b c d : ℕ) → a ≤ c → b ≤ d → (F : Function) → Runs a b F → Runs c d F
runs_wider a b c d l m F h =
    let x : F.parameters.first + F.parameters.count ≤ a = h.0.inside in
    let y : F.results.first + F.results.count ≤ b = h.1.inside in
    (record { inside = omega arith; short = h.0.short }, record { inside = omega arith; short = h.1.short })

-- what holds of the functions that were read
pub record Listed (f : FunctionList) : Type 0 where
  pub parameters : Each SmallParameter f.parameters
  pub results : Each Small f.results
  pub functions : Each (Runs (length f.parameters) (length f.results)) f.records

-- one function more
function_of-Listed : (n p m k : ℕ) (w : List ℕ) (s t : FunctionList) → Listed s → function_of n p m k w s ≡ good t → Listed t
function_of-Listed n p m k w s t h q =
    let x = held_splits (ltb (pair w 0) n && (leb m 8 && leb k 8)) Range p _ q in
    let l = and_parts (leb m 8) (leb k 8) (and_parts (ltb (pair w 0) n) _ x.0).1 in
    let y = then_splits (parameters_of n w p m s.parameters) _ x.1 in
    let z = then_splits (results_of w p (4 + 3 * m) k s.results) _ y.2 in
    let a = parameters_more n w p m s.parameters y.0 h.parameters y.1 in
    let b = results_more w p (4 + 3 * m) k s.results z.0 h.results z.1 in
    let c : length y.0 ≡ length s.parameters + m = a.1 in
    let d : length z.0 ≡ length s.results + k = b.1 in
    let F : Function = record {
      name = pair w 0;
      parameters = record { first = length s.parameters; count = m };
      results = record { first = length s.results; count = k };
      body = pair w (4 + 3 * m + k);
    } in
    let new : Runs (length y.0) (length z.0) F = (record { inside = omega arith; short = leb-true _ _ l.0 }, record { inside = omega arith; short = leb-true _ _ l.1 }) in
    subst Listed (good_same z.2)
    (record {
      parameters = a.0;
      results = b.0;
      functions = each_append (Runs (length y.0) (length z.0)) s.records (F ∷ [])
          (each-onto (Runs (length s.parameters) (length s.results)) (Runs (length y.0) (length z.0)) (runs_wider _ _ _ _ (omega arith) (omega arith)) s.records h.functions) (new, tt);
    })

-- all functions
functions_listed : (n : ℕ) (bs : List ℕ) (p : ℕ) (s : FunctionList × ℕ) → functions_at n bs p ≡ good s → Listed s.0
functions_listed n bs p s q =
    let x = then_splits (count_at bs p 64) _ q in
    runs-keep (λ _ (t : FunctionList × ℕ). Listed t.0) (λ _ t. function_item n bs t) step x.0 0 (listed [] [] [] [], p + 2) s (record { parameters = tt; results = tt; functions = tt }) x.2
  where
    step : (i : ℕ) (t u : FunctionList × ℕ) → Listed t.0 → function_item n bs t ≡ good u → Listed u.0
    step i t u h r =
        then_leads (Listed u.0) (byte_at bs t.1 2) _ r (λ m _ r1.
        then_leads (Listed u.0) (byte_at bs t.1 (3 + 3 * m)) _ r1 (λ k _ r2.
        then_leads (Listed u.0) (span_at bs t.1 (6 + 3 * m + k)) _ r2 (λ w _ r3.
        then_leads (Listed u.0) (function_of n t.1 m k w t.0) _ r3 (λ f e r4.
        subst (λ (v : FunctionList × ℕ). Listed v.0) (good_same r4) (function_of-Listed n t.1 m k w t.0 f h e)))))

-- a node past the last is a discarding target, which has no range
all-ranged : (P : Program) → Each (Ranged P) P.nodes → (n : ℕ) → Ranged P (node_at P n)
all-ranged P h n =
    ⊎_elim (λ (l : n < length P.nodes). each_at (Ranged P) P.nodes n Discard l h) (λ (l : length P.nodes ≤ n). subst (Ranged P) (sym (get_or_past P.nodes n Discard l)) tt) (cases_lt n (length P.nodes))

-- what was read, part by part
module _
    (bs : List ℕ) (o : Octets bs) (D : Decoded) (n : ℕ) (ws : List (List ℕ)) (cs : List ℤ) (es : List ℕ) (ds : List Node) (gs : List GlobalVariable) (f : FunctionList) (p p1 p2 p3 p4 : ℕ)
    (constants : items_at 8 (λ _ w. good (signed_at w 0)) 1024 bs p ≡ good (cs, p1)) (nodes : items_at 8 (node_reads n cs (length es)) 2048 bs p2 ≡ good (ds, p3))
    (globals : items_at 12 (global_reads n cs (length es)) 32 bs p3 ≡ good (gs, p4)) (listed : Listed f)
  where
    -- each part lies in its ranges
    read-range : (a b c : ℕ) → InRange (decoded_with ws cs es ds gs f a b c).program
    read-range a b c =
        let P : Program = (decoded_with ws cs es ds gs f a b c).program in
        record {
          constants = items-each (SFits w64) 8 (λ _ w. good (signed_at w 0)) 1024 bs p (cs, p1) o (λ q w x v r. subst (SFits w64) (good_same r) (eight_fits w 0 v)) constants;
          nodes = all-ranged P (items-each (Ranged P) 8 (node_reads n cs (length es)) 2048 bs p2 (ds, p3) o (λ q w d _ r. node_reads-Ranged P n q w d r) nodes);
          globals = items-each Global 12 (global_reads n cs (length es)) 32 bs p3 (gs, p4) o (λ q w g v r. global_reads-Global n cs (length es) q w g v r) globals;
          parameters = listed.parameters;
          results = listed.results;
          functions = listed.functions;
        }

    -- so does the whole
    read_all : (a b c q : ℕ) → then (held (eqb q (length bs)) Bytes q) (λ _. good (decoded_with ws cs es ds gs f a b c)) ≡ good D → InRange D.program
    read_all a b c q e = subst (λ (d : Decoded). InRange d.program) (good_same (held_splits (eqb q (length bs)) Bytes q (λ _. good (decoded_with ws cs es ds gs f a b c)) e).1) (read-range a b c)

-- the parts in their order
pub reads_in_range : ReadsInRange
reads_in_range bs D o q =
    then_leads (InRange D.program) (head_at bs) _ q (λ _ _ q1.
    then_leads (InRange D.program) (names_at bs 5) _ q1 (λ ws _ q2.
    then_leads (InRange D.program) (items_at 8 (λ _ w. good (signed_at w 0)) 1024 bs ws.1) _ q2 (λ cs constants q3.
    then_leads (InRange D.program) (items_at 2 (λ _ w. good (pair w 0)) 4096 bs cs.1) _ q3 (λ es _ q4.
    then_leads (InRange D.program) (items_at 8 (node_reads (length ws.0) cs.0 (length es.0)) 2048 bs es.1) _ q4 (λ ds nodes q5.
    then_leads (InRange D.program) (items_at 12 (global_reads (length ws.0) cs.0 (length es.0)) 32 bs ds.1) _ q5 (λ gs globals q6.
    then_leads (InRange D.program) (functions_at (length ws.0) bs gs.1) _ q6 (λ f functions q7.
    read_all bs o D (length ws.0) ws.0 cs.0 es.0 ds.0 gs.0 f.0 ws.1 cs.1 es.1 ds.1 gs.1 constants nodes globals (functions_listed (length ws.0) bs gs.1 f functions) (es.1 + 2) (ds.1 + 2) gs.1 f.1 q7)))))))
