-- What the parts of the rules ask and give, under the invariant.
use Rattle.std.proofs.Common.{◌≡◌, ℕ, zero, suc, ◌+◌, ◌-◌, ◌^◌, ◌<◌, ◌≤◌, Bool, true, false, cond, T, eqb, ltb, leb, List, [], ◌∷◌, ◌++◌, length, replicate, ℤ, pos, negsuc, neg_ℤ, IsAscii, sym, refl, ap, ◌∙◌, subst, arith, ltb→lt, leb→le, w64, SFits}
use mathlib.Core.Option.{Option, none, some, some-injective}
use lib.Signed.{rem_z, mag_rem}
use lib.ListN.{get_elem?}
use Rattle.std.specs.Fmt.{signed_decimal}
use Rattle.std.proofs.lemmas.Fmt.{IsAscii-signed}
use Rattle.xi.specs.Program.{Program}
use Rattle.xi.specs.Tree.{node_at, all, expression_place, Each}
use Rattle.xi.specs.Typing.{Binding, Scope, pushed, Tables, GiveEach, type_in, global_type, variable_type, or_else, types_of, target_bindings, targets_bindings, BindingsHave, TargetsFit}
use Rattle.semantics.specs.State.{Value, int, array, Slot, Variable, Store, Task, core, Limits}
use Rattle.semantics.specs.State.{Effect, quiet, Move, go, find, find_global, with_depth, elements_at}
use Rattle.semantics.specs.Numbers.{ranged, natural, literal, numeral, equalℤ, row, is_character}
use Rattle.semantics.specs.Rules.{take_any, take_int, take_bool, take_array, take_values, known, read_slot, read_length, elements, within, element_cell, fits, make_array, bound, received, received_all, unwind, lengths, characters, integers, slots_of, assigns, same, two_ints, is_zero, unless_zero, next_character, parsed}
use Rattle.semantics.specs.Sound.{Use, element, ArrayAt, Has, has_int, has_bool, has_array, Holds, unset, holds, Values, no_values, more_values, Variables, more_variables, Globals}
use Rattle.semantics.specs.Sound.{Point, nowhere, live, worked, Todo, no_tasks, to_begin, to_finish, to_leave, to_back, pass_end, pass_begin, pass_finish, pass_leave, pass_back, Heap, callers, Good, goes_on, is_done, halts}
use Rattle.semantics.specs.Soundness.{Characters}
use Rattle.semantics.proofs.Decimal.{numeral_is_written}
use Rattle.semantics.proofs.Lists.{takes-pushed, pushed_append, at_less, each_map}
use Rattle.semantics.proofs.Cells.{values-more, variables-more, globals-more, todo-more, find-typed, find_none, global_typed, header_at, cells_length, elements_hold, Grew, grown_grew}

-- the store of a sound run
pub record Kept (P : Program) (L : Limits) (K : List Use) (m : ℕ) (s : Store) : Type 0 where
  pub heap : Heap K s
  pub globals : Globals K P.globals s.globals
  pub fits : length s.cells ≤ L.cells
  pub calls : s.depth ≡ suc m
  pub deep : s.depth ≤ L.depth

heap_depth : {K : List Use} {s : Store} (n : ℕ) → Heap K s → Heap K (with_depth s n)
heap_depth n h = record { cells = h.cells; made = h.made; owned = h.owned }

-- one call more, and one less
pub kept_more : {P : Program} {L : Limits} {K : List Use} {m : ℕ} {s : Store} → s.depth < L.depth → Kept P L K m s → Kept P L K (suc m) (with_depth s (suc s.depth))
kept_more h s = record { heap = heap_depth _ s.heap; globals = s.globals; fits = s.fits; calls = ap suc s.calls; deep = h }

pub kept_less : {P : Program} {L : Limits} {K : List Use} {m : ℕ} {s : Store} → Kept P L K (suc m) s → Kept P L K m (with_depth s (s.depth - 1))
kept_less s = record { heap = heap_depth _ s.heap; globals = s.globals; fits = s.fits; calls = omega (arith, s.calls); deep = omega (arith, s.deep) }

pub values_pushed : {K : List Use} {ts us : List ℕ} {vs O : List Value} → Values K ts vs → Values K us O → Values K (pushed ts us) (pushed vs O)
values_pushed no_values o = o
values_pushed (more_values h r) o = values_pushed r (more_values h o)

-- operands pushed one after another, taken apart again
record Split (K : List Use) (ts us : List ℕ) (O : List Value) : Type 0 where
  front : List Value
  rest : List Value
  is : O ≡ pushed front rest
  fronts : Values K ts front
  rests : Values K us rest

split : {K : List Use} {us : List ℕ} {O : List Value} (ts : List ℕ) → Values K (pushed ts us) O → Split K ts us O
split {O = O} [] o = record { front = []; rest = O; is = refl; fronts = no_values; rests = o }
split {K} {us} (t ∷ ts) o = let r = split ts o in more r r.rests
  where
    more : {O : List Value} (r : Split K ts (t ∷ us) O) → Values K (t ∷ us) r.rest → Split K (t ∷ ts) us O
    more {O} r w = at r.rest refl w
      where
        at : (q : List Value) → q ≡ r.rest → Values K (t ∷ us) q → Split K (t ∷ ts) us O
        at q e (more_values {v = v} {vs = vs} h o) =
            record { front = v ∷ r.front; rest = vs; is = r.is ∙ ap (λ (l : List Value). pushed r.front l) (sym e); fronts = more_values h r.fronts; rests = o }

pub values_length : {K : List Use} {ts : List ℕ} {vs : List Value} → Values K ts vs → length vs ≡ length ts
values_length no_values = refl
values_length (more_values h r) = ap suc (values_length r)

-- parts that give one value each
pub worked-each : (P : Program) (T : Tables) (es ts us : List ℕ) → GiveEach P T es ts → worked P T (all expression_place es) us ≡ pushed ts us
worked-each P T [] [] us g = refl
worked-each P T [] (t ∷ ts) us g = absurd g
worked-each P T (e ∷ es) [] us g = absurd g
worked-each P T (e ∷ es) (t ∷ ts) us g = ap (λ (w : List ℕ). worked P T (all expression_place es) (pushed w us)) g.0 ∙ worked-each P T es ts (t ∷ us) g.1

pub each-length : (P : Program) (T : Tables) (es ts : List ℕ) → GiveEach P T es ts → length es ≡ length ts
each-length P T [] [] g = refl
each-length P T [] (t ∷ ts) g = absurd g
each-length P T (e ∷ es) [] g = absurd g
each-length P T (e ∷ es) (t ∷ ts) g = ap suc (each-length P T es ts g.1)

pub targets_length : (P : Program) (ns ts : List ℕ) → TargetsFit P ns ts → length ns ≡ length ts
targets_length P [] [] g = refl
targets_length P [] (t ∷ ts) g = absurd g
targets_length P (a ∷ ns) [] g = absurd g
targets_length P (a ∷ ns) (t ∷ ts) g = ap suc (targets_length P ns ts g.1)

-- numbers that fit

abbrev Fit : Option ℤ → Type 0
Fit none = Unit {0}
Fit (some z) = SFits w64 z

cond_fit : (b : Bool) (x y : Option ℤ) → (T b → Fit x) → Fit y → Fit (cond b x y)
cond_fit true x y f g = f tt
cond_fit false x y f g = g

minus_fits : (m : ℕ) → m ≤ 2 ^ 63 → SFits w64 (neg_ℤ (pos m))
minus_fits zero h = record { sfits = omega arith }
minus_fits (suc m) h = record { sfits = h }

ranged_fit : (m : Bool) (x : Option ℕ) → Fit (ranged m x)
ranged_fit m none = tt
ranged_fit true (some m) = cond_fit (leb m (2 ^ 63)) _ _ (λ b. minus_fits m (leb→le m (2 ^ 63) b)) tt
ranged_fit false (some m) = cond_fit (ltb m (2 ^ 63)) _ _ (λ b. record { sfits = ltb→lt m (2 ^ 63) b }) tt

pub literal_fit : (zs : List ℤ) → Fit (literal zs)
literal_fit [] = tt
literal_fit (z ∷ zs) = cond_fit (equalℤ z (pos 45)) _ _ (λ _. ranged_fit true (natural zs)) (ranged_fit false (natural (z ∷ zs)))

pub parsed-typed : {K : List Use} {ts : List ℕ} {O : List Value} (x : Option ℤ) → Fit x → Values K ts O → Values K (1 ∷ 0 ∷ ts) (parsed x O)
parsed-typed none f o = more_values has_bool (more_values (has_int (record { sfits = omega arith })) o)
parsed-typed (some z) f o = more_values has_bool (more_values (has_int f) o)

pub remainder_fits : (x y : ℤ) → SFits w64 x → SFits w64 (rem_z x y)
remainder_fits x y f = record { sfits = omega (arith, mag_rem x y, f.sfits) }

pub next_fits : (l : List ℕ) → Characters l → SFits w64 (next_character l)
next_fits [] c = record { sfits = omega arith }
next_fits (x ∷ l) c = record { sfits = omega (arith, c.0) }

cond-characters : (b : Bool) (x y : List ℕ) → Characters x → Characters y → Characters (cond b x y)
cond-characters true x y f g = f
cond-characters false x y f g = g

pub row-characters : (l : List ℕ) → Characters l → Characters (row l)
row-characters [] c = tt
row-characters (x ∷ l) c = cond-characters (eqb x 10) [] (x ∷ row l) tt (c.0, row-characters l c.1)

ascii_characters : (l : List ℕ) → IsAscii l → Characters l
ascii_characters [] a = tt
ascii_characters (x ∷ l) a = (omega (arith, a 0), ascii_characters l (λ i. a (suc i)))

pub numeral-characters : (z : ℤ) → SFits w64 z → Characters (numeral z)
numeral-characters z f = rw (numeral_is_written z f) (ascii_characters (signed_decimal z) (IsAscii-signed z f.sfits))

pub slots_typed : (K : List Use) (l : List ℕ) → Characters l → Each (Holds K 0) (slots_of l)
slots_typed K l c = each_map (λ (c : ℕ). c < 1114112) (Holds K 0) (λ (c : ℕ). some (int (pos c))) (λ x h. holds (has_int (record { sfits = omega arith }))) l c

-- tasks

-- control that could come on may also come nowhere
pub dies : {P : Program} {T : Tables} {V : ℕ → ℕ} {K : List Use} {r : List ℕ} {l : ℕ} {a : Point} {k : List Task} → Todo P T V K r l a k → Todo P T V K r l nowhere k
dies (no_tasks f) = pass_end
dies (to_begin b c k) = pass_begin (dies k)
dies (to_finish b c k) = pass_finish b.deeper (dies k)
dies (to_leave h f k) = pass_leave h (dies k)
dies (to_back n g h f c e o k) = pass_back n h f c e o k
dies pass_end = pass_end
dies (pass_begin k) = pass_begin k
dies (pass_finish h k) = pass_finish h k
dies (pass_leave h k) = pass_leave h k
dies (pass_back n h f c e o k) = pass_back n h f c e o k

module _ (P : Program) (T : Tables) (V : ℕ → ℕ) (L : Limits) where
  pub on : {K : List Use} {r : List ℕ} {l : ℕ} {Γ : Scope} {ts : List ℕ} {E : List Variable} {O : List Value} {k : List Task} {s : Store} {e : Effect} →
      Variables K Γ E → Values K ts O → Todo P T V K r l (live Γ ts) k → Kept P L K (callers k) s → Good P T V L (go (core E O k s) e)
  on e o d s = goes_on (record { uses = _; owed = _; level = _; scope = _; types = _; variables = e; operands = o; tasks = d; heap = s.heap; globals = s.globals; fits = s.fits; calls = s.calls; deep = s.deep })

  pub still : {K : List Use} {r : List ℕ} {l : ℕ} {Γ : Scope} {ts : List ℕ} {E : List Variable} {O : List Value} {k : List Task} {s : Store} →
      Variables K Γ E → Values K ts O → Todo P T V K r l (live Γ ts) k → Kept P L K (callers k) s → Good P T V L (go (core E O k s) quiet)
  still e o d s = on e o d s

  pub unwind-good : {K : List Use} {r : List ℕ} {l : ℕ} {vs : List Value} {k : List Task} {s : Store} → Todo P T V K r l nowhere k → Values K r vs → Kept P L K (callers k) s → Good P T V L (unwind k vs s)
  unwind-good pass_end h c = is_done
  unwind-good (pass_begin k) h c = unwind-good k h c
  unwind-good (pass_finish _ k) h c = unwind-good k h c
  unwind-good (pass_leave _ k) h c = unwind-good k h c
  unwind-good (pass_back n _ _ _ e o k) h c = on e (values_pushed h o) k (kept_less c)

  module _ (K : List Use) where
    abbrev G : Move → Type 0
    G m = Good P T V L m

    pub cond-good : (b : Bool) (m m' : Move) → (lib.Dec.T b → G m) → G m' → G (cond b m m')
    cond-good true m m' h k = h tt
    cond-good false m m' h k = k

    pub any-good : {g : List ℕ} {t : ℕ} {ts : List ℕ} {O : List Value} (f : Value → List Value → Move) → g ≡ t ∷ [] → Values K (pushed g ts) O →
        ((v : Value) (O : List Value) → Has K t v → Values K ts O → G (f v O)) → G (take_any O f)
    any-good {t = t} {ts} {O} f e o h = at (subst (λ (g : List ℕ). Values K (pushed g ts) O) e o)
      where
        at : {O : List Value} → Values K (t ∷ ts) O → G (take_any O f)
        at (more_values a o) = h _ _ a o

    pub int-good : {g ts : List ℕ} {O : List Value} (f : ℤ → List Value → Move) → g ≡ 0 ∷ [] → Values K (pushed g ts) O →
        ((z : ℤ) (O : List Value) → SFits w64 z → Values K ts O → G (f z O)) → G (take_int O f)
    int-good {ts = ts} {O} f e o h = at (subst (λ (g : List ℕ). Values K (pushed g ts) O) e o)
      where
        at : {O : List Value} → Values K (0 ∷ ts) O → G (take_int O f)
        at (more_values (has_int a) o) = h _ _ a o

    pub bool-good : {g ts : List ℕ} {O : List Value} (f : Bool → List Value → Move) → g ≡ 1 ∷ [] → Values K (pushed g ts) O →
        ((b : Bool) (O : List Value) → Values K ts O → G (f b O)) → G (take_bool O f)
    bool-good {ts = ts} {O} f e o h = at (subst (λ (g : List ℕ). Values K (pushed g ts) O) e o)
      where
        at : {O : List Value} → Values K (1 ∷ ts) O → G (take_bool O f)
        at (more_values has_bool o) = h _ _ o

    pub array-good : {g : List ℕ} {t : ℕ} {ts : List ℕ} {O : List Value} (f : ℕ → List Value → Move) → g ≡ suc (suc t) ∷ [] → Values K (pushed g ts) O →
        ((p : ℕ) (O : List Value) → ArrayAt K p t → Values K ts O → G (f p O)) → G (take_array O f)
    array-good {t = t} {ts} {O} f e o h = at (subst (λ (g : List ℕ). Values K (pushed g ts) O) e o)
      where
        at : {O : List Value} → Values K (suc (suc t) ∷ ts) O → G (take_array O f)
        at (more_values (has_array a) o) = h _ _ a o

    pub two_good : {g g' ts : List ℕ} {O : List Value} (f : ℤ → ℤ → List Value → Move) → g ≡ 0 ∷ [] → g' ≡ 0 ∷ [] → Values K (pushed g' (pushed g ts)) O →
        ((x y : ℤ) (O : List Value) → SFits w64 x → Values K ts O → G (f x y O)) → G (two_ints O f)
    two_good f e e' o h = int-good _ e' o (λ y O b o. int-good _ e o (λ x O a o. h x y O a o))

    pub values-good : {us : List ℕ} {O : List Value} (m : ℕ) (f : List Value → List Value → Move) (ts : List ℕ) → m ≡ length ts → Values K (pushed ts us) O →
        ((vs O : List Value) → Values K ts vs → Values K us O → G (f vs O)) → G (take_values m O [] f)
    values-good {us} {O} m f ts e o h =
        let r = split ts o in
        let c : m ≡ length r.front = e ∙ sym (values_length r.fronts) in
        subst (λ (O : List Value). G (take_values m O [] f)) (sym r.is)
        (subst (λ (m : ℕ). G (take_values m (pushed r.front r.rest) [] f)) (sym c)
        (subst (λ (x : Move). G x) (sym (takes-pushed r.front r.rest f)) (h r.front r.rest r.fronts r.rests)))

    pub each-good : {us : List ℕ} {O : List Value} (f : List Value → List Value → Move) (es ts : List ℕ) → GiveEach P T es ts → Values K (worked P T (all expression_place es) us) O →
        ((vs O : List Value) → Values K ts vs → Values K us O → G (f vs O)) → G (take_values (length es) O [] f)
    each-good {us} {O} f es ts g o h = values-good (length es) f ts (each-length P T es ts g) (subst (λ (w : List ℕ). Values K w O) (worked-each P T es ts us g) o) h

    pub known-good : {A : Type 0} (x : Option A) (f : A → Move) (a : A) → x ≡ some a → G (f a) → G (known x f)
    known-good {A} x f a e h = subst (λ (y : Option A). G (known y f)) (sym e) h

    pub slot-good : {t : ℕ} (n : ℕ) (c : Slot) (f : Value → Move) → Holds K t c → ((v : Value) → Has K t v → G (f v)) → G (read_slot n c f)
    slot-good n none f d g = halts
    slot-good n (some v) f (holds d) g = g v d

    pub length-good : {s : Store} {p t : ℕ} (f : ℕ → Move) (a : ArrayAt K p t) → Heap K s → G (f a.size) → G (known (get_elem? s.cells p) (λ c. read_length c f))
    length-good {p = p} f a h g = known-good _ (λ c. read_length c f) (some (int (pos a.size))) (header_at p h.cells a.head) g

    pub elements-good : {s : Store} {p t : ℕ} (f : List Slot → Move) → ArrayAt K p t → Heap K s → ((cs : List Slot) → Each (Holds K t) cs → G (f cs)) → G (elements s p f)
    elements-good {s} {p} f a h g = length-good (λ m. f (elements_at s p m)) a h (g (elements_at s p a.size) (elements_hold p a.size h.cells a.body))

    pub within-good : (n : ℕ) (j : ℤ) (m : ℕ) (f : ℕ → Move) → ((i : ℕ) → i < m → G (f i)) → G (within n j m f)
    within-good n (pos i) m f g = cond-good (ltb i m) (f i) _ (λ b. g i (ltb→lt i m b)) halts
    within-good n (negsuc i) m f g = halts

    pub cell-good : {s : Store} {p t : ℕ} (n : ℕ) (j : ℤ) (f : ℕ → Move) → ArrayAt K p t → Heap K s → ((q : ℕ) → get_elem? K q ≡ some (element t) → G (f q)) → G (element_cell n s p j f)
    cell-good {s} {p} n j f a h g = length-good (λ m. within n j m (λ i. f (p + suc i))) a h (within-good n j a.size _ (λ i lt. g (p + suc i) (a.body i lt)))

    pub fits-good : (n : ℕ) (s : Store) (m : ℕ) (g : Move) → (length s.cells + m ≤ L.cells → G g) → G (fits L n s m g)
    fits-good n s m g h = cond-good (leb (length s.cells + m) L.cells) g _ (λ b. h (leb→le (length s.cells + m) L.cells b)) halts

    -- a run goes on in a heap that grew
    pub grew-good : {r : List ℕ} {l : ℕ} {Γ : Scope} {ts : List ℕ} {E : List Variable} {O : List Value} {k : List Task} {s s' : Store} {e : Effect} {t n m : ℕ} (g : Grew K s t n m s') →
        Variables (K ++ g.more) Γ E → Values (K ++ g.more) ts O → Todo P T V K r l (live Γ ts) k → Kept P L K (callers k) s → length s.cells + m ≤ L.cells → Good P T V L (go (core E O k s') e)
    grew-good {s = s} g e o d c f =
        on e o (todo-more K g.more d)
        (record { heap = g.heap; globals = subst (λ (l : List Slot). Globals (K ++ g.more) P.globals l) (sym g.globals) (globals-more K g.more c.globals); fits = omega (arith, g.size, f); calls = g.depth ∙ c.calls; deep = omega (arith, g.depth, c.deep) })

    pub make-good : {r : List ℕ} {l : ℕ} {Γ : Scope} {ts : List ℕ} {E : List Variable} {O : List Value} {k : List Task} {s : Store} {u : ℕ} (x : Effect) (n t : ℕ) (cs : List Slot) → u ≡ suc (suc t) →
        Each (Holds K t) cs → Variables K Γ E → Values K ts O → Todo P T V K r l (live Γ (u ∷ ts)) k → Kept P L K (callers k) s → G (make_array L n t cs E O k s x)
    make-good {s = s} x n t cs q w e o d c =
        fits-good n s (suc (length cs)) _ (λ f.
        let g = grown_grew s t cs c.heap w in
        grew-good g (variables-more K g.more e) (more_values (subst (λ (u : ℕ). Has (K ++ g.more) u (array (length s.cells))) (sym q) (has_array g.array)) (values-more K g.more o)) d c f)

    pub bound-good : {Γ : Scope} {E : List Variable} {vs : List Value} (f : List Variable → Move) (bs : List Binding) → Values K (types_of bs) vs → Variables K Γ E →
        ((E : List Variable) → Variables K (pushed bs Γ) E → G (f E)) → G (bound bs vs E f)
    bound-good f [] no_values e g = g _ e
    bound-good f (b ∷ bs) (more_values h r) e g = bound-good f bs r (more_variables (holds h) e) g

    received-typed : {Γ : Scope} {E : List Variable} {t : ℕ} {v : Value} (bs : List Binding) → BindingsHave t bs → Has K t v → Variables K Γ E → Variables K (pushed bs Γ) (received bs v E)
    received-typed [] w h e = e
    received-typed {v = v} (b ∷ bs) w h e = received-typed bs w.1 h (more_variables (holds (subst (λ (u : ℕ). Has K u v) (sym w.0) h)) e)

    pub received-good : (f : List Variable → Move) (ns ts : List ℕ) {Γ : Scope} {E : List Variable} {vs : List Value} → TargetsFit P ns ts → Values K ts vs → Variables K Γ E →
        ((E : List Variable) → Variables K (pushed (targets_bindings P ns) Γ) E → G (f E)) → G (received_all P ns vs E f)
    received-good f [] [] w no_values e g = g _ e
    received-good f [] (t ∷ ts) w r e g = absurd w
    received-good f (a ∷ ns) [] w r e g = absurd w
    received-good f (a ∷ ns) (t ∷ ts) {Γ} w (more_values h r) e g =
        received-good f ns ts w.1 r (received-typed (target_bindings (node_at P a)) w.0 h e)
        (λ E e. g E (subst (λ (Δ : Scope). Variables K Δ E) (sym (pushed_append (target_bindings (node_at P a)) (targets_bindings P ns) Γ)) e))

    pub lengths-good : {vs : List Value} (n m : ℕ) (f : List ℕ → Move) → Values K (replicate m 0) vs → ((ms : List ℕ) → length ms ≡ m → G (f ms)) → G (lengths n vs f)
    lengths-good n zero f no_values g = g [] refl
    lengths-good n (suc m) f (more_values (has_int {z = pos l} a) r) g = lengths-good n m _ r (λ ms e. g (l ∷ ms) (ap suc e))
    lengths-good n (suc m) f (more_values (has_int {z = negsuc l} a) r) g = halts

    pub characters-good : (n : ℕ) (cs : List Slot) (f : List ℕ → Move) → Each (Holds K 0) cs → ((t : List ℕ) → G (f t)) → G (characters n cs f)
    characters-good n [] f h g = g []
    characters-good n (c ∷ cs) f h g = at h.0 (λ f g. characters-good n cs f h.1 g)
      where
        at : {c : Slot} → Holds K 0 c → ((f : List ℕ → Move) → ((t : List ℕ) → G (f t)) → G (characters n cs f)) → G (characters n (c ∷ cs) f)
        at unset r = halts
        at (holds (has_int {z = pos z} a)) r = cond-good (is_character z) _ _ (λ _. r (λ t. f (z ∷ t)) (λ t. g (z ∷ t))) halts
        at (holds (has_int {z = negsuc z} a)) r = halts

    pub integers-good : (n : ℕ) (cs : List Slot) (f : List ℤ → Move) → Each (Holds K 0) cs → ((zs : List ℤ) → G (f zs)) → G (integers n cs f)
    integers-good n [] f h g = g []
    integers-good n (c ∷ cs) f h g = at h.0 (λ f g. integers-good n cs f h.1 g)
      where
        at : {c : Slot} → Holds K 0 c → ((f : List ℤ → Move) → ((zs : List ℤ) → G (f zs)) → G (integers n cs f)) → G (integers n (c ∷ cs) f)
        at unset r = halts
        at (holds (has_int {z = z} a)) r = r (λ zs. f (z ∷ zs)) (λ zs. g (z ∷ zs))

    pub same_good : {t : ℕ} {v w : Value} (f : Bool → Move) → Has K t v → Has K t w → ((b : Bool) → G (f b)) → G (same v w f)
    same_good f (has_int a) (has_int b) g = g _
    same_good f has_bool has_bool g = g _
    same_good f (has_array a) (has_array b) g = g _

    pub zero-good : (n : ℕ) (y : ℤ) (m : Move) → G m → G (unless_zero n y m)
    zero-good n y m h = cond-good (is_zero y) _ _ (λ _. halts) h

    pub assigns-here : {x : Option Slot} {a : Move} (y : Option Slot) (b : Move) (c : Slot) → x ≡ some c → G a → G (assigns x y a b)
    assigns-here {a = a} y b c e g = subst (λ (x : Option Slot). G (assigns x y a b)) (sym e) g

    pub assigns-there : {x y : Option Slot} {b : Move} (a : Move) (c : Slot) → x ≡ none → y ≡ some c → G b → G (assigns x y a b)
    assigns-there {y = y} {b} a c e f g = subst (λ (x : Option Slot). G (assigns x y a b)) (sym e) (subst (λ (y : Option Slot). G (assigns none y a b)) (sym f) g)

    pub variable-typed : {Γ : Scope} {E : List Variable} {cs : List Slot} (x t : ℕ) → Variables K Γ E → Globals K P.globals cs → variable_type P Γ x ≡ some t →
        (c : Slot) × (or_else (find E x) (find_global P.globals cs x) ≡ some c) × Holds K t c
    variable-typed {Γ} {E} {cs} x t e g q = at (type_in Γ x) refl q
      where
        at : (y : Option ℕ) → type_in Γ x ≡ y → or_else y (global_type P.globals x) ≡ some t → (c : Slot) × (or_else (find E x) (find_global P.globals cs x) ≡ some c) × Holds K t c
        at none l q = let a = global_typed x t g q in (a.0, ap (λ (o : Option Slot). or_else o (find_global P.globals cs x)) (find_none x e l) ∙ a.1, a.2)
        at (some u) l q =
            let a = find-typed x u e l in
            (a.0, ap (λ (o : Option Slot). or_else o (find_global P.globals cs x)) a.1, subst (λ (w : ℕ). Holds K w a.0) (some-injective _ _ q) a.2)

    -- the size of an array is an `int`
    pub size_fits : {m : ℕ} {s : Store} {p t : ℕ} (a : ArrayAt K p t) → Kept P L K m s → L.cells ≤ 1048576 → SFits w64 (pos a.size)
    size_fits {s = s} {p} a c l = at a.size refl
      where
        at : (m : ℕ) → a.size ≡ m → SFits w64 (pos a.size)
        at zero e = record { sfits = omega (arith, e) }
        at (suc m) e = record { sfits = omega (arith, e, at_less K (p + suc m) (a.body m (omega (arith, e))), cells_length c.heap.cells, c.fits) }
