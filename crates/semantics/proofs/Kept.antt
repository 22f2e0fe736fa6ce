-- A sound run stays sound at every step, and is never stuck: one clause for each kind of node.
use Rattle.std.proofs.Common.{◌≡◌, ℕ, zero, suc, ◌+◌, ◌<◌, ◌≤◌, Bool, true, false, cond, eqb, ltb, leb, List, [], ◌∷◌, ◌++◌, map, length, get_or, drop, replicate, ℤ, sym, refl, ap, subst, le_of_suc-le-suc, not-suc-le-zero, arith, ltb→lt, length-take, w64, SFits}
use mathlib.Core.Option.{Option, none, some, none-ne-some, some-injective}
use mathlib.Core.Bool.{false≢true}
use lib.ListN.{get_elem?}
use Rattle.std.proofs.lemmas.Int.{SFits-int_wrap}
use Rattle.xi.specs.declared.node.Node.{Node}
use Rattle.xi.specs.declared.node.Node.TheVariants.{Number, Truth, Text, Variable as VariableNode, Element, Length, Unary, Binary, Constructor, Call, LibraryCall}
use Rattle.xi.specs.declared.node.Node.TheVariants.{Declare, DeclareValue, DeclareCall, Assign, AssignElement, If, IfElse, While, Return, CallStatement, Target, Discard, Block}
use Rattle.xi.specs.declared.node.UnaryOperator.TheVariants.{Minus, Not}
use Rattle.xi.specs.declared.node.Operator.{Operator}
use Rattle.xi.specs.declared.node.Operator.TheVariants.{Add, Subtract, Multiply, Divide, Remainder, Less, LessEqual, Greater, GreaterEqual, Equal, NotEqual, And, Or}
use Rattle.xi.specs.declared.node.LibraryFunction.{LibraryFunction}
use Rattle.xi.specs.declared.node.LibraryFunction.TheVariants.{Print, Println, Readln, Getchar, Eof, ParseInt, UnparseInt, Ratio}
use Rattle.xi.specs.declared.node.Run.{Run}
use Rattle.xi.specs.declared.program.Function.{Function}
use Rattle.xi.specs.Program.{Program, items_of}
use Rattle.xi.specs.Tree.{Part, all, statement_place, node_at, entries_of, sort_of, at, expression_place, first_parts, later_parts, Each, PartStands, BodyStands}
use Rattle.xi.specs.Typing.{Binding, Scope, pushed, or_else, Tables, gives, named_results, function_named, parameters_of, results_of, library_takes, library_gives, type_in, global_type}
use Rattle.xi.specs.Typing.{Begins, ScopesBy, Added, OperatorTyped, Typed}
use Rattle.xi.specs.Obeys.{depth_of, Ranged, FunctionObeys, Obeys}
use Rattle.semantics.specs.State.{leave, Value, int, array, Variable, variable, Store, Task, finish, core, Host, Limits}
use Rattle.semantics.specs.State.{Effect, quiet, wrote, took, Move, go, find, put, find_global, put_global, element_type, with_globals}
use Rattle.semantics.specs.Numbers.{literal, numeral, row, row_takes, cells_for, element_of, nested}
use Rattle.semantics.specs.Rules.{begins, known, read_slot, elements, answer, make_array, declares, writes, slots_of, assigns, operates, serves, finishes, does, next, step}
use Rattle.semantics.specs.Sound.{Use, Has, has_int, has_bool, has_array, Holds, unset, holds, Values, no_values, more_values, Variables, no_variables, more_variables}
use Rattle.semantics.specs.Sound.{Point, live, begun, worked, Comes, comes_on, comes_return, comes_block, comes_if, Todo, no_tasks, to_begin, to_finish, to_leave, to_back, MayBegin, callers, Good, is_done, halts}
use Rattle.semantics.specs.Soundness.{Characters, StepKeepsSound}
use Rattle.semantics.proofs.Lists.{at_is, each_at, each_front, each_back, each_take, each-drop, each_map, each_append}
use Rattle.semantics.proofs.Cells.{variables-more, values-more, find-typed, find_none, global_typed, put_typed, put_global-Globals, variables_keep, variables_size, element_at, set_heap, nested_grew}
use Rattle.semantics.proofs.Takers.{Kept, kept_more, kept_less, worked-each, targets_length, literal_fit, parsed-typed, remainder_fits, next_fits, row-characters, numeral-characters, slots_typed, dies, on, still, unwind-good, cond-good}
use Rattle.semantics.proofs.Takers.{any-good, int-good, bool-good, array-good, two_good, values-good, each-good, known-good, slot-good, length-good, elements-good, cell-good, fits-good, grew-good, make-good, bound-good, received-good, lengths-good, characters-good, integers-good, same_good, zero-good, assigns-here, assigns-there, variable-typed, size_fits}
use Rattle.semantics.proofs.Begun.{few_declared, first-places, begin-first, begin-firsts, alone-on, alone-ends, block_on, block-ends, body-on}

named-each : (Q : Function → Type 0) (Fs : List Function) (x : ℕ) (F : Function) → Each Q Fs → function_named Fs x ≡ some F → Q F
named-each Q [] x F a e = absurd (none-ne-some F e)
named-each Q (G ∷ Fs) x F a e =
    (elim (eqb G.name x) as (λ b. cond b (some G) (function_named Fs x) ≡ some F → Q F)
    [ true ↦ λ e. subst Q (some-injective _ _ e) a.0 | false ↦ λ e. named-each Q Fs x F a.1 e ]) e

callers-begins : (ps : List Part) (k : List Task) → callers (begins ps k) ≡ callers k
callers-begins [] k = refl
callers-begins (p ∷ ps) k = callers-begins ps k

kept-begins : {P : Program} {L : Limits} {K : List Use} {s : Store} (ps : List Part) (k : List Task) → Kept P L K (callers k) s → Kept P L K (callers (begins ps k)) s
kept-begins {P} {L} {K} {s} ps k c = subst (λ (m : ℕ). Kept P L K m s) (sym (callers-begins ps k)) c

pub node_inside : (ds : List Node) (n : ℕ) → begun (sort_of (get_or ds n Discard)) ≡ true → n < length ds
node_inside [] n b = absurd (false≢true b)
node_inside (d ∷ ds) zero b = omega arith
node_inside (d ∷ ds) (suc n) b = omega (arith, node_inside ds n b)

pub entries_short : {A : Type 0} (xs : List A) (r : Run) → length (items_of xs r) ≤ r.count
entries_short xs r = omega (arith, length-take r.count (drop r.first xs))

-- the array types
array_type : (t m : ℕ) → suc m ≤ depth_of t → (suc (suc (element_of t)) ≡ t) × (m ≤ depth_of (element_of t))
array_type zero m h = absurd (not-suc-le-zero h)
array_type (suc zero) m h = absurd (not-suc-le-zero h)
array_type (suc (suc t)) m h = (refl, le_of_suc-le-suc h)

values_hold : {K : List Use} (t : ℕ) (m : ℕ) {vs : List Value} → Values K (replicate m t) vs → Each (Holds K t) (map some vs)
values_hold t zero no_values = tt
values_hold t (suc m) (more_values h r) = (holds h, values_hold t m r)

constants_hold : (K : List Use) (zs : List ℤ) → Each (SFits w64) zs → Each (Holds K 0) (map (λ (z : ℤ). some (int z)) zs)
constants_hold K zs f = each_map (SFits w64) (Holds K 0) (λ (z : ℤ). some (int z)) (λ z h. holds (has_int h)) zs f

module _ (P : Program) (ok : Obeys P) (L : Limits) (small : L.cells ≤ 1048576) (h : Host) (text : Characters h.left) where
  abbrev T : Tables
  T = ok.tables

  abbrev V : ℕ → ℕ
  V = ok.level

  -- no begun node lies deeper than level 32
  shallow : {l : ℕ} (n : ℕ) → MayBegin P T V n l → V n ≤ 32
  shallow n mb = ok.tree.shallow n (node_inside P.nodes n mb.runs)

  module _ (K : List Use) where
    abbrev G : Move → Type 0
    G m = Good P T V L m

    -- an answer of the node's type
    typed-as : {u t : ℕ} {v : Value} → u ≡ t → Has K t v → Has K u v
    typed-as {v = v} e w = subst (λ (t : ℕ). Has K t v) (sym e) w

    add-good : {r : List ℕ} {l : ℕ} {Γ : Scope} {ts : List ℕ} {E : List Variable} {O : List Value} {k : List Task} {s : Store} (n b t u : ℕ) → Added t → u ≡ t → Values K (t ∷ t ∷ ts) O →
        Variables K Γ E → Todo P T V K r l (live Γ (u ∷ ts)) k → Kept P L K (callers k) s → G (operates P L h Add n b E O k s)
    unfolding operates
    add-good n b zero u w q (more_values (has_int y) (more_values (has_int x) o)) e d s = still P T V L e (more_values (typed-as q (has_int (SFits-int_wrap w64 _))) o) d s
    add-good n b (suc zero) u w q o e d s = absurd w
    add-good {E = E} {k = k} {s = s'} n b (suc (suc t)) u w q (more_values (has_array {p = p'} y) (more_values {vs = O} (has_array {p = p} x) o)) e d s =
        elements-good P T V L K (λ xs. elements s' p' (λ ys. known (element_type s'.made p) (λ t. make_array L n t (xs ++ ys) E O k s' quiet))) x s.heap (λ xs wx.
        elements-good P T V L K (λ ys. known (element_type s'.made p) (λ t. make_array L n t (xs ++ ys) E O k s' quiet)) y s.heap (λ ys wy.
        known-good P T V L K (element_type s'.made p) (λ t. make_array L n t (xs ++ ys) E O k s' quiet) t (s.heap.made p x.size t x.head) (make-good P T V L K quiet n t (xs ++ ys) q (each_append (Holds K t) xs ys wx wy) e o d s)))

    choose-good : {E : List Variable} {O : List Value} {s : Store} (b : Bool) (i j : List Task) → G (go (core E O i s) quiet) → G (go (core E O j s) quiet) → G (go (core E O (cond b i j) s) quiet)
    choose-good true i j x y = x
    choose-good false i j x y = y

    operates-good : {l : ℕ} {ts : List ℕ} {E : List Variable} {O : List Value} {k : List Task} {s : Store} (o : Operator) (n a b : ℕ) → MayBegin P T V n l → OperatorTyped P T n o a b →
        Each (Begins T n (T.scope n)) (later_parts P (Binary o a b)) → Each (PartStands P V n) (later_parts P (Binary o a b)) →
        Todo P T V K (T.owed n) l (live (T.scope n) (T.type n ∷ ts)) k → Variables K (T.scope n) E → Values K (worked P T (first_parts P (Binary o a b)) ts) O → Kept P L K (callers k) s → G (operates P L h o n b E O k s)
    unfolding operates
    operates-good {ts = ts} {O = O} Add n a b mb t sc st d e o s =
        add-good n b t.0 (T.type n) t.2 t.1.value
        (subst (λ (g : List ℕ). Values K (pushed g (t.0 ∷ ts)) O) t.1.right (subst (λ (g : List ℕ). Values K (pushed (gives P T b) (pushed g ts)) O) t.1.left o)) e d s
    operates-good Subtract n a b mb t sc st d e o s = two_good P T V L K _ t.left t.right o (λ x y O f o. still P T V L e (more_values (typed-as t.value (has_int (SFits-int_wrap w64 _))) o) d s)
    operates-good Multiply n a b mb t sc st d e o s = two_good P T V L K _ t.left t.right o (λ x y O f o. still P T V L e (more_values (typed-as t.value (has_int (SFits-int_wrap w64 _))) o) d s)
    operates-good Divide n a b mb t sc st d e o s = two_good P T V L K _ t.left t.right o (λ x y O f o. zero-good P T V L K n y _ (still P T V L e (more_values (typed-as t.value (has_int (SFits-int_wrap w64 _))) o) d s))
    operates-good Remainder n a b mb t sc st d e o s = two_good P T V L K _ t.left t.right o (λ x y O f o. zero-good P T V L K n y _ (still P T V L e (more_values (typed-as t.value (has_int (remainder_fits x y f))) o) d s))
    operates-good Less n a b mb t sc st d e o s = two_good P T V L K _ t.left t.right o (λ x y O f o. still P T V L e (more_values (typed-as t.value has_bool) o) d s)
    operates-good LessEqual n a b mb t sc st d e o s = two_good P T V L K _ t.left t.right o (λ x y O f o. still P T V L e (more_values (typed-as t.value has_bool) o) d s)
    operates-good Greater n a b mb t sc st d e o s = two_good P T V L K _ t.left t.right o (λ x y O f o. still P T V L e (more_values (typed-as t.value has_bool) o) d s)
    operates-good GreaterEqual n a b mb t sc st d e o s = two_good P T V L K _ t.left t.right o (λ x y O f o. still P T V L e (more_values (typed-as t.value has_bool) o) d s)
    operates-good Equal n a b mb t sc st d e o s =
        any-good P T V L K _ t.1.right o (λ w O hw o. any-good P T V L K _ t.1.left o (λ v O hv o. same_good P T V L K _ hv hw (λ q. still P T V L e (more_values (typed-as t.1.value has_bool) o) d s)))
    operates-good NotEqual n a b mb t sc st d e o s =
        any-good P T V L K _ t.1.right o (λ w O hw o. any-good P T V L K _ t.1.left o (λ v O hv o. same_good P T V L K _ hv hw (λ q. still P T V L e (more_values (typed-as t.1.value has_bool) o) d s)))
    operates-good {l} {ts} {k = k} And n a b mb t sc st d e o s =
        bool-good P T V L K _ t.left o (λ x O o. cond-good P T V L K x _ _
        (λ _. still P T V L e o (begin-first P T V ok.names K (at expression_place b) refl st.0 sc.0 mb.few (omega (arith, mb.deeper)) (subst (λ (g : List ℕ). Todo P T V K (T.owed n) l (live (T.scope n) (pushed g ts)) k) (sym t.right) (subst (λ (u : ℕ). Todo P T V K (T.owed n) l (live (T.scope n) (u ∷ ts)) k) t.value d))) s)
        (still P T V L e (more_values (typed-as t.value has_bool) o) d s))
    operates-good {l} {ts} {k = k} Or n a b mb t sc st d e o s =
        bool-good P T V L K _ t.left o (λ x O o. cond-good P T V L K x _ _
        (λ _. still P T V L e (more_values (typed-as t.value has_bool) o) d s)
        (still P T V L e o (begin-first P T V ok.names K (at expression_place b) refl st.0 sc.0 mb.few (omega (arith, mb.deeper)) (subst (λ (g : List ℕ). Todo P T V K (T.owed n) l (live (T.scope n) (pushed g ts)) k) (sym t.right) (subst (λ (u : ℕ). Todo P T V K (T.owed n) l (live (T.scope n) (u ∷ ts)) k) t.value d))) s))

    writes-good : {E : List Variable} {O : List Value} {k : List Task} {s : Store} (n : ℕ) (t : List ℕ) → ((x : Effect) → G (go (core E O k s) x)) → G (writes h n t (core E O k s))
    writes-good n t g = cond-good P T V L K (leb (length t) h.room) _ _ (λ _. g (wrote t)) halts

    serves-good : {r : List ℕ} {l : ℕ} {Γ : Scope} {E : List Variable} {O : List Value} {k : List Task} {s : Store} (ts : List ℕ) (f : LibraryFunction) (n : ℕ) →
        Todo P T V K r l (live Γ (pushed (library_gives f) ts)) k → Variables K Γ E → Values K (pushed (library_takes f) ts) O → Kept P L K (callers k) s → G (serves P L h f n E O k s)
    unfolding serves
    serves-good ts Print n d e o s = array-good P T V L K {g = 2 ∷ []} _ refl o (λ p O a o. elements-good P T V L K _ a s.heap (λ cs w. characters-good P T V L K n cs _ w (λ t. writes-good n t (λ x. on P T V L e o d s))))
    serves-good ts Println n d e o s = array-good P T V L K {g = 2 ∷ []} _ refl o (λ p O a o. elements-good P T V L K _ a s.heap (λ cs w. characters-good P T V L K n cs _ w (λ t. writes-good n (t ++ (10 ∷ [])) (λ x. on P T V L e o d s))))
    serves-good ts Readln n d e o s = make-good P T V L K (took (row_takes h.left)) n 0 (slots_of (row h.left)) refl (slots_typed K (row h.left) (row-characters h.left text)) e o d s
    serves-good ts Getchar n d e o s = on P T V L e (more_values (has_int (next_fits h.left text)) o) d s
    serves-good ts Eof n d e o s = still P T V L e (more_values has_bool o) d s
    serves-good ts ParseInt n d e o s =
        array-good P T V L K {g = 2 ∷ []} _ refl o (λ p O a o. elements-good P T V L K _ a s.heap (λ cs w. integers-good P T V L K n cs _ w (λ zs. still P T V L e (parsed-typed (literal zs) (literal_fit zs) o) d s)))
    serves-good ts UnparseInt n d e o s = int-good P T V L K {g = 0 ∷ []} _ refl o (λ z O f o. make-good P T V L K quiet n 0 (slots_of (numeral z)) refl (slots_typed K (numeral z) (numeral-characters z f)) e o d s)
    serves-good ts Ratio n d e o s = two_good P T V L K {g = 0 ∷ []} {g' = 0 ∷ []} _ refl refl o (λ a b O f o. zero-good P T V L K n b _ (still P T V L e (more_values (has_int (SFits-int_wrap w64 _)) o) d s))

    -- arrays of given lengths
    lengths-made : {r : List ℕ} {l : ℕ} {Γ : Scope} {ts : List ℕ} {E : List Variable} {O : List Value} {k : List Task} {s : Store} (n : ℕ) (b : Binding) (ms : List ℕ) → 1 ≤ length ms → length ms ≤ depth_of b.type →
        Variables K Γ E → Values K ts O → Todo P T V K r l (live (b ∷ Γ) ts) k → Kept P L K (callers k) s → length s.cells + cells_for ms ≤ L.cells →
        G (go (core (variable b.name (some (array (length s.cells))) ∷ E) O k (nested (element_of b.type) ms s)) quiet)
    lengths-made n b [] z w e o d s f = absurd (not-suc-le-zero z)
    lengths-made {s = s'} n b (m ∷ ms) z w e o d s f =
        let a = array_type b.type (length ms) w in
        let g = nested_grew (element_of b.type) m ms a.1 K s' s.heap in
        grew-good P T V L K g
        (more_variables (holds (subst (λ (u : ℕ). Has (K ++ g.more) u (array (length s'.cells))) a.0 (has_array g.array))) (variables-more K g.more e)) (values-more K g.more o) d s f

    declares-good : {r : List ℕ} {l : ℕ} {Γ : Scope} {ts : List ℕ} {E : List Variable} {O : List Value} {k : List Task} {s : Store} (n : ℕ) (b : Binding) (es : List ℕ) → length es ≤ depth_of b.type →
        Values K (pushed (replicate (length es) 0) ts) O → Variables K Γ E → Todo P T V K r l (live (b ∷ Γ) ts) k → Kept P L K (callers k) s → G (declares L n b.name b.type es E O k s)
    declares-good n b [] w o e d s = still P T V L (more_variables unset e) o d s
    declares-good {s = s'} n b (x ∷ es) w o e d s =
        values-good P T V L K (suc (length es)) _ (replicate (suc (length es)) 0) (sym (ap suc (lib.ListN.length-replicate (length es) 0))) o (λ vs O v o.
        lengths-good P T V L K n (suc (length es)) _ v (λ ms l. fits-good P T V L K n s' (cells_for ms) _ (λ f. lengths-made n b ms (omega (arith, l)) (omega (arith, l, w)) e o d s f)))

    finish-again : {l : ℕ} {ts : List ℕ} {c : Point} {k : List Task} (d : Node) (n : ℕ) → d ≡ node_at P n → MayBegin P T V n l → Comes P T n d ts c → Todo P T V K (T.owed n) l c k →
        Todo P T V K (T.owed n) (V n) (live (T.scope n) (worked P T (first_parts P d) ts)) (finish n ∷ k)
    finish-again {l} {ts} {c} {k} d n q mb =
        subst (λ (d : Node). Comes P T n d ts c → Todo P T V K (T.owed n) l c k → Todo P T V K (T.owed n) (V n) (live (T.scope n) (worked P T (first_parts P d) ts)) (finish n ∷ k)) (sym q) (λ c d. to_finish mb c d)

    assigns-good : {r : List ℕ} {l : ℕ} {Γ : Scope} {ts : List ℕ} {E : List Variable} {O : List Value} {k : List Task} {s : Store} {t : ℕ} {v : Value} (x : ℕ) (y : Option ℕ) → type_in Γ x ≡ y → or_else y (global_type P.globals x) ≡ some t →
        Has K t v → Variables K Γ E → Values K ts O → Todo P T V K r l (live Γ ts) k → Kept P L K (callers k) s →
        G (assigns (find E x) (find_global P.globals s.globals x) (go (core (put E x (some v)) O k s) quiet) (go (core E O k (with_globals s (put_global P.globals s.globals x (some v)))) quiet))
    assigns-good {t = t} {v} x none l q w e o d s =
        let a = global_typed x t s.globals q in
        assigns-there P T V L K _ a.0 (find_none x e l) a.1
        (still P T V L e o d (record { heap = record { cells = s.heap.cells; made = s.heap.made; owned = s.heap.owned }; globals = put_global-Globals x t v s.globals q w; fits = s.fits; calls = s.calls; deep = s.deep }))
    assigns-good {t = t} {v} x (some u) l q w e o d s =
        let a = find-typed x u e l in
        assigns-here P T V L K _ _ a.0 a.1 (still P T V L (put_typed x u v e l (subst (λ (t : ℕ). Has K t v) (sym (some-injective _ _ q)) w)) o d s)

    -- the end of a node: one clause for each kind
    finishes-good : {l : ℕ} {ts : List ℕ} {E : List Variable} {O : List Value} {k : List Task} {s : Store} (d : Node) (n : ℕ) {c : Point} → d ≡ node_at P n → MayBegin P T V n l → begun (sort_of d) ≡ true →
        Typed P T n d → Ranged P d → Each (Begins T n (T.scope n)) (first_parts P d) → Each (PartStands P V n) (first_parts P d) →
        ScopesBy P T n (sort_of d) (later_parts P d) → Each (PartStands P V n) (later_parts P d) →
        Comes P T n d ts c → Todo P T V K (T.owed n) l c k → Variables K (T.scope n) E → Values K (worked P T (first_parts P d) ts) O → Kept P L K (callers k) s → G (finishes P L h d n E O k s)
    unfolding finishes
    finishes-good (Number c) n q mb b t rg fs fp sc st comes_on d e o s =
        let z = at_is P.constants c rg in
        known-good P T V L K _ _ z.0 z.1 (still P T V L e (more_values (typed-as t (has_int (each_at (SFits w64) P.constants c z.0 ok.ranges.constants z.1))) o) d s)
    finishes-good (Truth x) n q mb b t rg fs fp sc st comes_on d e o s = still P T V L e (more_values (typed-as t has_bool) o) d s
    finishes-good (Text r) n q mb b t rg fs fp sc st comes_on d e o s =
        make-good P T V L K quiet n 0 (map (λ (z : ℤ). some (int z)) (items_of P.constants r)) t
        (constants_hold K (items_of P.constants r) (each_take (SFits w64) r.count _ (each-drop (SFits w64) r.first _ ok.ranges.constants))) e o d s
    finishes-good (VariableNode x) n q mb b t rg fs fp sc st comes_on d e o s =
        let a = variable-typed P T V L K x (T.type n) e s.globals t in
        known-good P T V L K _ _ a.0 a.1 (slot-good P T V L K n a.0 _ a.2 (λ v w. still P T V L e (more_values w o) d s))
    finishes-good {E = E} {k = k} {s = s'} (Element a i) n q mb b t rg fs fp sc st comes_on d e o s =
        int-good P T V L K _ t.1 o (λ j O f o. array-good P T V L K _ t.0 o (λ p O w o.
        cell-good P T V L K n j (λ q. known (get_elem? s'.cells q) (λ c. read_slot n c (λ v. answer E O k s' v))) w s.heap (λ q u.
        let c = element_at q s.heap.cells u in
        known-good P T V L K (get_elem? s'.cells q) (λ c. read_slot n c (λ v. answer E O k s' v)) c.0 c.1 (slot-good P T V L K n c.0 _ c.2 (λ v w. still P T V L e (more_values w o) d s)))))
    finishes-good (Length a) n q mb b t rg fs fp sc st comes_on d e o s =
        array-good P T V L K _ t.1 o (λ p O w o. length-good P T V L K _ w s.heap (still P T V L e (more_values (typed-as t.2 (has_int (size_fits P T V L K w s small))) o) d s))
    finishes-good (Unary Minus a) n q mb b t rg fs fp sc st comes_on d e o s = int-good P T V L K _ t.0 o (λ x O f o. still P T V L e (more_values (typed-as t.1 (has_int (SFits-int_wrap w64 _))) o) d s)
    finishes-good (Unary Not a) n q mb b t rg fs fp sc st comes_on d e o s = bool-good P T V L K _ t.0 o (λ x O o. still P T V L e (more_values (typed-as t.1 has_bool) o) d s)
    finishes-good (Binary p a i) n q mb b t rg fs fp sc st comes_on d e o s = operates-good p n a i mb t sc st d e o s
    finishes-good (Constructor u r) n q mb b t rg fs fp sc st comes_on d e o s =
        each-good P T V L K _ (entries_of P r) _ t.0 o (λ vs O v o. make-good P T V L K quiet n u.number (map some vs) t.1 (values_hold u.number (length (entries_of P r)) v) e o d s)
    finishes-good {l} {ts} {k = k} {s = s'} (Call x r) n q mb b t rg fs fp sc st comes_on d e o s =
        let F = t.0 in
        let B = named-each (FunctionObeys P T) P.functions x F ok.bodies t.1 in
        let S = named-each (BodyStands P V) P.functions x F ok.tree.bodies t.1 in
        each-good P T V L K _ (entries_of P r) _ t.2 o (λ vs O v o. known-good P T V L K _ _ F t.1 (bound-good P T V L K _ (parameters_of P F) v no_variables (λ E e'.
        cond-good P T V L K (ltb s'.depth L.depth) _ _
        (λ c. still P T V L e' no_values (body-on P T V ok.names K F.body (results_of P F) n B.scope B.owed (few_declared P (parameters_of P F) [] B.parameters (omega arith)) (omega (arith, S.top)) S.block B.ends (omega (arith, mb.deeper, shallow n mb)) mb.few (ap sort_of (sym q)) e o
        (subst (λ (y : Option Function). Todo P T V K (T.owed n) l (live (T.scope n) (pushed (named_results P y) ts)) k) t.1 d)) (kept_more (ltb→lt s'.depth L.depth c) s))
        halts)))
    finishes-good {ts = ts} {O = O} (LibraryCall f r) n q mb b t rg fs fp sc st comes_on d e o s =
        serves-good ts f n d e (subst (λ (w : List ℕ). Values K w O) (worked-each P T (entries_of P r) (library_takes f) ts t) o) s
    finishes-good {ts = ts} {O = O} (Declare x u r) n q mb b t rg fs fp sc st comes_on d e o s =
        declares-good n (record { name = x; type = u.number }) (entries_of P r) (omega (arith, entries_short P.entries r, rg.0.short))
        (subst (λ (w : List ℕ). Values K w O) (worked-each P T (entries_of P r) _ ts t) o) e d s
    finishes-good (DeclareValue x u a) n q mb b t rg fs fp sc st comes_on d e o s =
        any-good P T V L K _ t o (λ v O w o. still P T V L (more_variables {b = record { name = x; type = u.number }} (holds w) e) o d s)
    finishes-good (DeclareCall a r) n q mb b t rg fs fp sc st comes_on d e o s =
        values-good P T V L K (length (entries_of P r)) _ (gives P T a) (targets_length P (entries_of P r) (gives P T a) t) o
        (λ vs O v o. received-good P T V L K _ (entries_of P r) (gives P T a) t v e (λ E e. still P T V L e o d s))
    finishes-good (Assign x a) n q mb b t rg fs fp sc st comes_on d e o s = any-good P T V L K _ t.2 o (λ v O w o. assigns-good x (type_in (T.scope n) x) refl t.1 w e o d s)
    finishes-good {s = s'} (AssignElement a i x) n q mb b t rg fs fp sc st comes_on d e o s =
        any-good P T V L K _ t.3 o (λ v O w o. int-good P T V L K _ t.2 o (λ j O f o. array-good P T V L K _ t.1 o (λ p O w' o. cell-good P T V L K n j _ w' s.heap (λ q u.
        still P T V L e o d (record { heap = set_heap s' q t.0 v s.heap u w; globals = s.globals; fits = subst (λ (z : ℕ). z ≤ L.cells) (sym (lib.ListN.length-set s'.cells q (some v))) s.fits; calls = s.calls; deep = s.deep })))))
    finishes-good (If g a) n q mb b t rg fs fp sc st comes_on d e o s =
        bool-good P T V L K _ t o (λ x O o. choose-good x _ _ (still P T V L e o (alone-on P T V ok.names K a st.0 sc.0 mb.few (omega (arith, mb.deeper)) (variables_size e) d) s) (still P T V L e o d s))
    finishes-good (IfElse g a i) n q mb b t rg fs fp sc st comes_on d e o s =
        bool-good P T V L K _ t o (λ x O o. choose-good x _ _ (still P T V L e o (alone-on P T V ok.names K a st.0 sc.0 mb.few (omega (arith, mb.deeper)) (variables_size e) d) s)
        (still P T V L e o (alone-on P T V ok.names K i st.1.0 sc.1.0 mb.few (omega (arith, mb.deeper)) (variables_size e) d) s))
    finishes-good (IfElse g a i) n q mb b t rg fs fp sc st (comes_if x y) d e o s =
        bool-good P T V L K _ t o (λ w O o. choose-good w _ _ (still P T V L e o (alone-ends P T V ok.names K a st.0 sc.0 mb.few (omega (arith, mb.deeper)) x d) s) (still P T V L e o (alone-ends P T V ok.names K i st.1.0 sc.1.0 mb.few (omega (arith, mb.deeper)) y d) s))
    finishes-good (While g a) n q mb b t rg fs fp sc st comes_on d e o s =
        bool-good P T V L K _ t o (λ x O o. choose-good x _ _
        (still P T V L e o (alone-on P T V ok.names K a st.0 sc.0 mb.few (omega arith) (variables_size e) (begin-first P T V ok.names K (at expression_place g) refl fp.0 fs.0 mb.few (omega arith) (finish-again (While g a) n q mb comes_on d))) s)
        (still P T V L e o d s))
    finishes-good (Return r) n q mb b t rg fs fp sc st comes_on d e o s = each-good P T V L K _ (entries_of P r) _ t o (λ vs O v o. unwind-good P T V L (dies d) v s)
    finishes-good (Return r) n q mb b t rg fs fp sc st comes_return d e o s = each-good P T V L K _ (entries_of P r) _ t o (λ vs O v o. unwind-good P T V L d v s)
    finishes-good {ts = ts} {O = O} (CallStatement a) n q mb b t rg fs fp sc st comes_on d e o s = still P T V L e (subst (λ (g : List ℕ). Values K (pushed g ts) O) t o) d s
    finishes-good (Target x u) n q mb b t rg fs fp sc st c d e o s = absurd (false≢true b)
    finishes-good Discard n q mb b t rg fs fp sc st c d e o s = absurd (false≢true b)
    finishes-good {E = E} {k = k} (Block r) n q mb b t rg fs fp sc st comes_on d e o s = still P T V L e o (block_on P T V ok.names K (T.scope n) (entries_of P r) st sc mb.few (omega (arith, mb.deeper)) (variables_size e) d) (kept-begins (all statement_place (entries_of P r)) (leave (length E) ∷ k) s)
    finishes-good {E = E} {k = k} (Block r) n q mb b t rg fs fp sc st (comes_block w x) d e o s = still P T V L e o (block-ends P T V ok.names K (length E) (T.scope n) (entries_of P r) _ w x st sc mb.few (omega (arith, mb.deeper)) d) (kept-begins (all statement_place (entries_of P r)) (leave (length E) ∷ k) s)

    -- a task
    task-good : {r : List ℕ} {l : ℕ} {Γ : Scope} {ts : List ℕ} {E : List Variable} {O : List Value} {k : List Task} {s : Store} →
        Variables K Γ E → Values K ts O → Todo P T V K r l (live Γ ts) k → Kept P L K (callers k) s → G (next P L h k E O s)
    unfolding next does
    task-good e o (no_tasks f) s = is_done
    task-good e o (to_begin {n} {ts = ts} {k = k} mb c d) s =
        let p = ok.tree.parts n in
        still P T V L e o (begin-firsts P T V ok.names K (first_parts P (node_at P n)) ts (first-places P (node_at P n)) (each_front (PartStands P V n) (first_parts P (node_at P n)) (later_parts P (node_at P n)) p) (ok.first_scopes n) mb.few (to_finish mb c d)) (kept-begins (first_parts P (node_at P n)) (finish n ∷ k) s)
    task-good e o (to_finish {n} mb c d) s =
        let p = ok.tree.parts n in
        finishes-good (node_at P n) n refl mb mb.runs (ok.typed n) (ok.ranges.nodes n) (ok.first_scopes n) (each_front (PartStands P V n) (first_parts P (node_at P n)) (later_parts P (node_at P n)) p)
        (ok.later_scopes n) (each_back (PartStands P V n) (first_parts P (node_at P n)) (later_parts P (node_at P n)) p) c d e o s
    task-good e o (to_leave {m = m} h f d) s = still P T V L (variables_keep m e) o d s
    task-good e o (to_back n g h f c e' o' d) s = still P T V L e' o' d (kept_less s)

pub step_keeps_sound : StepKeepsSound
unfolding step
step_keeps_sound P ok L h c small text S = task-good P ok L small h text S.uses S.variables S.operands S.tasks (record { heap = S.heap; globals = S.globals; fits = S.fits; calls = S.calls; deep = S.deep })
