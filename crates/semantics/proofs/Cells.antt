-- The heap: what is in it stays as it grows, an element can be set, an array can be made.
use Rattle.std.proofs.Common.{◌≡◌, ℕ, zero, suc, ◌+◌, ◌-◌, ◌*◌, ◌<◌, ◌≤◌, true, false, cond, eqb, ◌⊎◌, List, [], ◌∷◌, ◌++◌, length, take, drop, set, replicate, pos, sym, refl, ap, ◌∙◌, subst, inl, inr, append_assoc, le_of_suc-le-suc, not-suc-le-zero, add-zero, suc-mul, mul-zero, zero-mul, arith, length-append, length-set}
use mathlib.Core.Option.{Option, none, some, none-ne-some, some-injective}
use lib.Dec.{eqb-suc-zero, eqb-suc-suc}
use lib.ListN.{get_elem?, length-replicate}
use Rattle.xi.specs.declared.program.GlobalVariable.{GlobalVariable}
use Rattle.xi.specs.Program.{Program}
use Rattle.xi.specs.Tree.{Each}
use Rattle.xi.specs.Typing.{Scope, Tables, type_in, global_type}
use Rattle.xi.specs.Obeys.{depth_of}
use Rattle.semantics.specs.State.{Value, int, array, Slot, Variable, variable, Made, Store, Task, find, put, keep, find_global, put_global, element_type, grown, with_cell}
use Rattle.semantics.specs.Numbers.{cells_for, filled, nested}
use Rattle.semantics.specs.Sound.{Use, header, element, ArrayAt, Has, has_int, has_bool, has_array, Holds, unset, holds, Cell, is_header, is_element, Cells, no_cells, more_cells, Values, no_values, more_values}
use Rattle.semantics.specs.Sound.{Variables, no_variables, more_variables, Globals, no_globals, more_globals, Point, Todo, no_tasks, to_begin, to_finish, to_leave, to_back, pass_end, pass_begin, pass_finish, pass_leave, pass_back, Owned, Heap}
use Rattle.semantics.proofs.Lists.{at_append, get_elem-append_end, at_first, at-replicate, at_drop, append-nil}

-- a heap that grows keeps what it holds

module _ (K X : List Use) where
  pub array-more : {p t : ℕ} → ArrayAt K p t → ArrayAt (K ++ X) p t
  array-more {p} a = record { size = a.size; head = at_append K X p a.head; body = λ i h. at_append K X (p + suc i) (a.body i h) }

  pub has_more : {t : ℕ} {v : Value} → Has K t v → Has (K ++ X) t v
  has_more (has_int b) = has_int b
  has_more has_bool = has_bool
  has_more (has_array a) = has_array (array-more a)

  pub holds_more : {t : ℕ} {c : Slot} → Holds K t c → Holds (K ++ X) t c
  holds_more unset = unset
  holds_more (holds h) = holds (has_more h)

  cell-more : {u : Use} {c : Slot} → Cell K u c → Cell (K ++ X) u c
  cell-more is_header = is_header
  cell-more (is_element h) = is_element (holds_more h)

  pub cells-more : {us : List Use} {cs : List Slot} → Cells K us cs → Cells (K ++ X) us cs
  cells-more no_cells = no_cells
  cells-more (more_cells h r) = more_cells (cell-more h) (cells-more r)

  pub values-more : {ts : List ℕ} {O : List Value} → Values K ts O → Values (K ++ X) ts O
  values-more no_values = no_values
  values-more (more_values h r) = more_values (has_more h) (values-more r)

  pub variables-more : {Γ : Scope} {E : List Variable} → Variables K Γ E → Variables (K ++ X) Γ E
  variables-more no_variables = no_variables
  variables-more (more_variables h r) = more_variables (holds_more h) (variables-more r)

  pub globals-more : {gs : List GlobalVariable} {cs : List Slot} → Globals K gs cs → Globals (K ++ X) gs cs
  globals-more no_globals = no_globals
  globals-more (more_globals h r) = more_globals (holds_more h) (globals-more r)

  pub todo-more : {P : Program} {T : Tables} {V : ℕ → ℕ} {r : List ℕ} {l : ℕ} {a : Point} {k : List Task} → Todo P T V K r l a k → Todo P T V (K ++ X) r l a k
  todo-more (no_tasks f) = no_tasks f
  todo-more (to_begin b c k) = to_begin b c (todo-more k)
  todo-more (to_finish b c k) = to_finish b c (todo-more k)
  todo-more (to_leave h f k) = to_leave h f (todo-more k)
  todo-more (to_back n g h f c e o k) = to_back n g h f c (variables-more e) (values-more o) (todo-more k)
  todo-more pass_end = pass_end
  todo-more (pass_begin k) = pass_begin (todo-more k)
  todo-more (pass_finish h k) = pass_finish h (todo-more k)
  todo-more (pass_leave h k) = pass_leave h (todo-more k)
  todo-more (pass_back n h f c e o k) = pass_back n h f c (variables-more e) (values-more o) (todo-more k)

-- variables and globals

pub find-typed : {K : List Use} {Γ : Scope} {E : List Variable} (x t : ℕ) → Variables K Γ E → type_in Γ x ≡ some t → (c : Slot) × (find E x ≡ some c) × Holds K t c
find-typed x t no_variables e = absurd (none-ne-some t e)
find-typed {K} x t (more_variables {b} {c} {Γ} {E} h r) e =
    (elim (eqb b.name x) as (λ y. cond y (some b.type) (type_in Γ x) ≡ some t → (d : Slot) × (cond y (some c) (find E x) ≡ some d) × Holds K t d)
    [ true ↦ λ e. (c, refl, subst (λ u. Holds K u c) (some-injective _ _ e) h) | false ↦ λ e. find-typed x t r e ]) e

pub find_none : {K : List Use} {Γ : Scope} {E : List Variable} (x : ℕ) → Variables K Γ E → type_in Γ x ≡ none → find E x ≡ none
find_none x no_variables e = refl
find_none {K} x (more_variables {b} {c} {Γ} {E} h r) e =
    (elim (eqb b.name x) as (λ y. cond y (some b.type) (type_in Γ x) ≡ none → cond y (some c) (find E x) ≡ none)
    [ true ↦ λ e. absurd (none-ne-some _ (sym e)) | false ↦ λ e. find_none x r e ]) e

pub put_typed : {K : List Use} {Γ : Scope} {E : List Variable} (x t : ℕ) (v : Value) → Variables K Γ E → type_in Γ x ≡ some t → Has K t v → Variables K Γ (put E x (some v))
put_typed x t v no_variables e h = no_variables
put_typed {K} x t v (more_variables {b} {c} {Γ} {E} g r) e h =
    (elim (eqb b.name x) as (λ y. cond y (some b.type) (type_in Γ x) ≡ some t → Variables K (b ∷ Γ) (cond y (variable b.name (some v) ∷ E) (variable b.name c ∷ put E x (some v))))
    [ true ↦ λ e. more_variables (holds (subst (λ u. Has K u v) (sym (some-injective _ _ e)) h)) r | false ↦ λ e. more_variables g (put_typed x t v r e h) ]) e

pub global_typed : {K : List Use} {gs : List GlobalVariable} {cs : List Slot} (x t : ℕ) → Globals K gs cs → global_type gs x ≡ some t → (c : Slot) × (find_global gs cs x ≡ some c) × Holds K t c
global_typed x t no_globals e = absurd (none-ne-some t e)
global_typed {K} x t (more_globals {g} {c} {gs} {cs} h r) e =
    (elim (eqb g.name x) as (λ y. cond y (some g.ty.number) (global_type gs x) ≡ some t → (d : Slot) × (cond y (some c) (find_global gs cs x) ≡ some d) × Holds K t d)
    [ true ↦ λ e. (c, refl, subst (λ u. Holds K u c) (some-injective _ _ e) h) | false ↦ λ e. global_typed x t r e ]) e

pub put_global-Globals : {K : List Use} {gs : List GlobalVariable} {cs : List Slot} (x t : ℕ) (v : Value) → Globals K gs cs → global_type gs x ≡ some t → Has K t v → Globals K gs (put_global gs cs x (some v))
put_global-Globals x t v no_globals e h = no_globals
put_global-Globals {K} x t v (more_globals {g} {c} {gs} {cs} i r) e h =
    (elim (eqb g.name x) as (λ y. cond y (some g.ty.number) (global_type gs x) ≡ some t → Globals K (g ∷ gs) (cond y (some v ∷ cs) (c ∷ put_global gs cs x (some v))))
    [ true ↦ λ e. more_globals (holds (subst (λ u. Has K u v) (sym (some-injective _ _ e)) h)) r | false ↦ λ e. more_globals i (put_global-Globals x t v r e h) ]) e

variables_length : {K : List Use} {Γ : Scope} {E : List Variable} → Variables K Γ E → length Γ ≡ length E
variables_length no_variables = refl
variables_length (more_variables h r) = ap suc (variables_length r)

variables_drop : {K : List Use} {Γ : Scope} {E : List Variable} (n : ℕ) → Variables K Γ E → Variables K (drop n Γ) (drop n E)
variables_drop zero e = e
variables_drop (suc n) no_variables = no_variables
variables_drop (suc n) (more_variables h r) = variables_drop n r

pub variables_keep : {K : List Use} {Γ : Scope} {E : List Variable} (m : ℕ) → Variables K Γ E → Variables K (keep m Γ) (keep m E)
variables_keep {K} {Γ} {E} m e = rw (← variables_length e) (variables_drop (length Γ - m) e)

pub variables_size : {K : List Use} {Γ : Scope} {E : List Variable} → Variables K Γ E → length Γ ≡ length E
variables_size e = variables_length e

-- cells

pub cell_at : {K us : List Use} {cs : List Slot} {u : Use} (p : ℕ) → Cells K us cs → get_elem? us p ≡ some u → (c : Slot) × (get_elem? cs p ≡ some c) × Cell K u c
cell_at {u = u} p no_cells e = absurd (none-ne-some u e)
cell_at {K} zero (more_cells {c = c} h r) e = (c, refl, subst (λ u. Cell K u c) (some-injective _ _ e) h)
cell_at (suc p) (more_cells h r) e = cell_at p r e

pub element_at : {K us : List Use} {cs : List Slot} {t : ℕ} (p : ℕ) → Cells K us cs → get_elem? us p ≡ some (element t) → (c : Slot) × (get_elem? cs p ≡ some c) × Holds K t c
element_at {K} {t = t} p c e = let a = cell_at p c e in (a.0, a.1, holds_of a.2)
  where
    holds_of : {c : Slot} → Cell K (element t) c → Holds K t c
    holds_of (is_element h) = h

pub header_at : {K us : List Use} {cs : List Slot} {n t : ℕ} (p : ℕ) → Cells K us cs → get_elem? us p ≡ some (header n t) → get_elem? cs p ≡ some (some (int (pos n)))
header_at {K} {n = n} {t} p c e = let a = cell_at p c e in a.1 ∙ ap {B = Option Slot} some (is-of a.2)
  where
    is-of : {c : Slot} → Cell K (header n t) c → c ≡ some (int (pos n))
    is-of is_header = refl

pub cells_length : {K us : List Use} {cs : List Slot} → Cells K us cs → length us ≡ length cs
cells_length no_cells = refl
cells_length (more_cells h r) = ap suc (cells_length r)

pub cells_set : {K us : List Use} {cs : List Slot} {t : ℕ} (p : ℕ) (v : Value) → Cells K us cs → get_elem? us p ≡ some (element t) → Has K t v → Cells K us (set cs p (some v))
cells_set {t = t} p v no_cells e h = absurd (none-ne-some (element t) e)
cells_set {K} zero v (more_cells g r) e h = more_cells (subst (λ (u : Use). Cell K u (some v)) (sym (some-injective _ _ e)) (is_element (holds h))) r
cells_set (suc p) v (more_cells g r) e h = more_cells g (cells_set p v r e h)

cells_drop : {K us : List Use} {cs : List Slot} (q : ℕ) → Cells K us cs → Cells K (drop q us) (drop q cs)
cells_drop zero c = c
cells_drop (suc q) no_cells = no_cells
cells_drop (suc q) (more_cells h r) = cells_drop q r

cells_append : {K us ls : List Use} {cs ds : List Slot} → Cells K us cs → Cells K ls ds → Cells K (us ++ ls) (cs ++ ds)
cells_append no_cells d = d
cells_append (more_cells h r) d = more_cells h (cells_append r d)

front_holds : {K us : List Use} {cs : List Slot} {t : ℕ} (m : ℕ) → Cells K us cs → ((i : ℕ) → i < m → get_elem? us i ≡ some (element t)) → Each (Holds K t) (take m cs)
front_holds zero c f = tt
front_holds (suc m) no_cells f = tt
front_holds {K} {t = t} (suc m) (more_cells {c = c} h r) f =
    (holds_of (subst (λ (u : Use). Cell K u c) (some-injective _ _ (f 0 (omega arith))) h), front_holds m r (λ i lt. f (suc i) (omega arith)))
  where
    holds_of : {c : Slot} → Cell K (element t) c → Holds K t c
    holds_of (is_element h) = h

-- the elements of an array have its type
pub elements_hold : {K : List Use} {cs : List Slot} {t : ℕ} (p m : ℕ) → Cells K K cs → ((i : ℕ) → i < m → get_elem? K (p + suc i) ≡ some (element t)) → Each (Holds K t) (take m (drop (suc p) cs))
elements_hold {K} {t = t} p m c f =
    front_holds m (cells_drop (suc p) c) (λ i lt. at_drop (suc p) K i ∙ subst (λ (z : ℕ). get_elem? K z ≡ some (element t)) (omega arith) (f i lt))

cells_of : {K : List Use} (t : ℕ) (cs : List Slot) → Each (Holds K t) cs → Cells K (replicate (length cs) (element t)) cs
cells_of t [] h = no_cells
cells_of t (c ∷ cs) h = more_cells (is_element h.0) (cells_of t cs h.1)

-- a new array

no_header : {n u : ℕ} (t m p : ℕ) → get_elem? (replicate m (element t)) p ≡ some (header n u) → ⊥
no_header t zero p e = none-ne-some _ e
no_header t (suc m) zero e = let z : ◌≡◌ {A = ℕ} 0 1 = cc in omega arith
no_header t (suc m) (suc p) e = no_header t m p e

new_header : (K : List Use) (p m n t u : ℕ) → get_elem? (K ++ (header m t ∷ replicate m (element t))) p ≡ some (header n u) →
    ((get_elem? K p ≡ some (header n u)) × (eqb (length K) p ≡ false)) ⊎ ((eqb (length K) p ≡ true) × (t ≡ u))
new_header [] zero m n t u e = inr (refl, cc)
new_header [] (suc p) m n t u e = absurd (no_header t m p e)
new_header (w ∷ K) zero m n t u e = inl (e, eqb-suc-zero (length K))
new_header (w ∷ K) (suc p) m n t u e = rw (eqb-suc-suc (length K) p) (new_header K p m n t u e)

new_element : (K : List Use) (p m t u : ℕ) → get_elem? (K ++ (header m t ∷ replicate m (element t))) p ≡ some (element u) →
    (get_elem? K p ≡ some (element u)) ⊎ ((i : ℕ) × (i < m) × (p ≡ length K + suc i) × (t ≡ u))
new_element [] zero m t u e = absurd (let z : ◌≡◌ {A = ℕ} 0 1 = cc in let f : ⊥ = omega arith in f)
new_element [] (suc p) m t u e = let a = in-replicate m p e in inr (p, a.0, omega arith, a.1)
  where
    in-replicate : (m p : ℕ) → get_elem? (replicate m (element t)) p ≡ some (element u) → (p < m) × (t ≡ u)
    in-replicate zero p e = absurd (none-ne-some _ e)
    in-replicate (suc m) zero e = (omega arith, cc)
    in-replicate (suc m) (suc p) e = let a = in-replicate m p e in (omega (arith, a.0), a.1)
new_element (w ∷ K) zero m t u e = inl e
new_element (w ∷ K) (suc p) m t u e = elim (new_element K p m t u e) [ inl a ↦ inl a | inr a ↦ inr (a.0, a.1, omega (arith, a.2), a.3) ]

abbrev array_new : (K : List Use) (t m : ℕ) → ArrayAt (K ++ (header m t ∷ replicate m (element t))) (length K) t
array_new K t m =
    record { size = m; head = at_first K (replicate m (element t)); body = λ i h. get_elem-append_end K (header m t ∷ replicate m (element t)) (suc i) ∙ at-replicate m (element t) i h }

made_new : (K : List Use) (M : List Made) (t m : ℕ) → ((p n u : ℕ) → get_elem? K p ≡ some (header n u) → element_type M p ≡ some u) →
    (p n u : ℕ) → get_elem? (K ++ (header m t ∷ replicate m (element t))) p ≡ some (header n u) → element_type (record { first = length K; element = t } ∷ M) p ≡ some u
made_new K M t m h p n u e = elim (new_header K p m n t u e)
    [ inl a ↦ rw a.1 (h p n u a.0) | inr a ↦ rw a.0 (ap {B = Option ℕ} some a.1) ]

owned_more : {K : List Use} (X : List Use) {q t : ℕ} → Owned K q t → Owned (K ++ X) q t
owned_more {K} X o = record { first = o.first; size = o.size; index = o.index; head = at_append K X o.first o.head; inside = o.inside; place = o.place }

owned_new : (K : List Use) (t m : ℕ) → ((q u : ℕ) → get_elem? K q ≡ some (element u) → Owned K q u) →
    (q u : ℕ) → get_elem? (K ++ (header m t ∷ replicate m (element t))) q ≡ some (element u) → Owned (K ++ (header m t ∷ replicate m (element t))) q u
owned_new K t m h q u e = elim (new_element K q m t u e) [
  | inl a ↦ owned_more (header m t ∷ replicate m (element t)) (h q u a)
  | inr a ↦ record { first = length K; size = m; index = a.0; head = at_first K (replicate m (element t)) ∙ ap {B = Option Use} (λ (v : ℕ). some (header m v)) a.3; inside = a.1; place = a.2 }
]

-- what came of making an array of n elements t in m cells
pub record Grew (K : List Use) (s : Store) (t n m : ℕ) (s' : Store) : Type 0 where
  pub more : List Use
  pub elements : (i : ℕ) → i < n → get_elem? (K ++ more) (length s.cells + suc i) ≡ some (element t)
  pub heap : Heap (K ++ more) s'
  pub array : ArrayAt (K ++ more) (length s.cells) t
  pub globals : s'.globals ≡ s.globals
  pub depth : s'.depth ≡ s.depth
  pub size : length s'.cells ≡ length s.cells + m

pub grown_grew : {K : List Use} (s : Store) (t : ℕ) (cs : List Slot) → Heap K s → Each (Holds K t) cs → Grew K s t (length cs) (suc (length cs)) (grown s t cs)
grown_grew {K} s t cs c h = record {
  more = X;
  elements = rw (← cells_length c.cells) (array_new K t (length cs)).body;
  heap = record {
    cells = cells_append (cells-more K X c.cells) (more_cells is_header (cells-more K X (cells_of t cs h)));
    made = rw (← cells_length c.cells) (made_new K s.made t (length cs) c.made);
    owned = owned_new K t (length cs) c.owned;
  };
  array = rw (← cells_length c.cells) (array_new K t (length cs));
  globals = refl;
  depth = refl;
  size = length-append s.cells (some (int (pos (length cs))) ∷ cs);
}
  where
    X : List Use
    X = header (length cs) t ∷ replicate (length cs) (element t)

pub set_heap : {K : List Use} (s : Store) (q t : ℕ) (v : Value) → Heap K s → get_elem? K q ≡ some (element t) → Has K t v → Heap K (with_cell s q v)
set_heap s q t v c e h = record { cells = cells_set q v c.cells e h; made = c.made; owned = c.owned }

-- nested arrays

none_hold : (K : List Use) (t n : ℕ) → Each (Holds K t) (replicate n none)
none_hold K t zero = tt
none_hold K t (suc n) = (unset, none_hold K t n)

record Filled (K : List Use) (s : Store) (m : ℕ) (s' : Store) : Type 0 where
  more : List Use
  heap : Heap (K ++ more) s'
  globals : s'.globals ≡ s.globals
  depth : s'.depth ≡ s.depth
  size : length s'.cells ≡ length s.cells + m

fill_grew : (t l m : ℕ) (make : Store → Store) → ((K : List Use) (s : Store) → Heap K s → Grew K s t l m (make s)) →
    (n c : ℕ) (K : List Use) (s : Store) → Heap K s → ((i : ℕ) → i < n → get_elem? K (c + i) ≡ some (element (suc (suc t)))) → Filled K s (n * m) (filled n c make s)
fill_grew t l m make f zero c K s h e = record { more = []; heap = rw (append-nil K) h; globals = refl; depth = refl; size = omega (arith, zero-mul m) }
fill_grew t l m make f (suc n) c K s h e =
    let g = f K s h in
    let q : get_elem? (K ++ g.more) c ≡ some (element (suc (suc t))) = at_append K g.more c (rw (← add-zero c) (e 0 (omega arith))) in
    let s₁ : Store = with_cell (make s) c (array (length s.cells)) in
    let r = fill_grew t l m make f n (suc c) (K ++ g.more) s₁ (set_heap (make s) c (suc (suc t)) (array (length s.cells)) g.heap q (has_array g.array))
    (λ i lt. at_append K g.more (suc c + i) (subst (λ (z : ℕ). get_elem? K z ≡ some (element (suc (suc t)))) (omega arith) (e (suc i) (omega arith)))) in
    record {
      more = g.more ++ r.more;
      heap = rw (← append_assoc K g.more r.more) r.heap;
      globals = r.globals ∙ g.globals;
      depth = r.depth ∙ g.depth;
      size = r.size ∙ ap (λ (z : ℕ). z + n * m) (length-set (make s).cells c (some (array (length s.cells))) ∙ g.size) ∙ adds (length s.cells) m n;
    }
  where
    adds : (a m n : ℕ) → a + m + n * m ≡ a + suc n * m
    adds a m n = omega (arith, suc-mul n m)

nested_one : (t n : ℕ) (K : List Use) (s : Store) → Heap K s → Grew K s t n (suc n + n * 0) (grown s t (replicate n none))
nested_one t n K s h =
    let g = grown_grew s t (replicate n none) h (none_hold K t n) in
    record {
      more = g.more;
      elements = λ i lt. g.elements i (rw length-replicate lt);
      heap = g.heap;
      array = g.array;
      globals = g.globals;
      depth = g.depth;
      size = g.size ∙ ap (λ (z : ℕ). length s.cells + suc z) (length-replicate n none) ∙ omega (arith, mul-zero n);
    }

nested-more : (t n l m : ℕ) (make : Store → Store) → ((K : List Use) (s : Store) → Heap K s → Grew K s t l m (make s)) →
    (K : List Use) (s : Store) → Heap K s → Grew K s (suc (suc t)) n (suc n + n * m) (filled n (suc (length s.cells)) make (grown s (suc (suc t)) (replicate n none)))
nested-more t n l m make f K s h =
    let g = nested_one (suc (suc t)) n K s h in
    let r = fill_grew t l m make f n (suc (length s.cells)) (K ++ g.more) (grown s (suc (suc t)) (replicate n none)) g.heap
    (λ i lt. subst (λ (z : ℕ). get_elem? (K ++ g.more) z ≡ some (element (suc (suc t)))) (omega arith) (g.elements i lt)) in
    record {
      more = g.more ++ r.more;
      elements = λ i lt. rw (← append_assoc K g.more r.more) (at_append (K ++ g.more) r.more (length s.cells + suc i) (g.elements i lt));
      heap = rw (← append_assoc K g.more r.more) r.heap;
      array = rw (← append_assoc K g.more r.more) (array-more (K ++ g.more) r.more g.array);
      globals = r.globals ∙ g.globals;
      depth = r.depth ∙ g.depth;
      size = r.size ∙ ap (λ (z : ℕ). z + n * m) g.size ∙ omega (arith, mul-zero n);
    }

pub nested_grew : (t n : ℕ) (ns : List ℕ) → length ns ≤ depth_of t → (K : List Use) (s : Store) → Heap K s → Grew K s t n (cells_for (n ∷ ns)) (nested t (n ∷ ns) s)
nested_grew t n [] d K s h = nested_one t n K s h
nested_grew zero n (m ∷ ns) d K s h = absurd (not-suc-le-zero d)
nested_grew (suc zero) n (m ∷ ns) d K s h = absurd (not-suc-le-zero d)
nested_grew (suc (suc t)) n (m ∷ ns) d K s h = nested-more t n m (cells_for (m ∷ ns)) (nested t (m ∷ ns)) (nested_grew t m ns (le_of_suc-le-suc d)) K s h
