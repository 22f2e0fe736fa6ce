-- What a place of the tree has of the node that stands there, where the rules hold: the walk passes it.
use Rattle.std.proofs.Common.{◌≡◌, ℕ, suc, Bool, true, eqb, List, [], ◌∷◌, length, refl, ap}
use Rattle.std.proofs.lemmas.Bool.{eq-eqb}
use Rattle.xi.specs.Program.{Program}
use Rattle.xi.specs.Tree.{node_at, return_sort, sort_of, Place, expression_place, call_place, statement_place, target_place, Part, all, Each}
use Rattle.xi.specs.Typing.{Scope, pushed, Tables, gives, GiveEach, declared_by}
use Rattle.sheet.specs.Outcome.{good}
use Rattle.sheet.specs.Sheets.{Decoded}
use Rattle.checker.specs.Walk.{types_each, agree, type_of, call_of, after_of}

-- the walk passes node a of that place, in the scope Γ of a function that owes ω
abbrev pub Ready : Decoded → Tables → Scope → List ℕ → Place → ℕ → Type 0
Ready D T Γ ω expression_place a = (t : ℕ) → gives D.program T a ≡ t ∷ [] → type_of D Γ a ≡ good t
Ready D T Γ ω call_place a = call_of D Γ (length (gives D.program T a)) a ≡ good (gives D.program T a)
Ready D T Γ ω statement_place a = (v : Bool) → (sort_of (node_at D.program a) ≡ return_sort → v ≡ true) → after_of D ω v Γ a ≡ good (pushed (declared_by D.program (node_at D.program a)) Γ)
Ready D T Γ ω target_place a = Unit {0}

-- the walk passes each of the parts
abbrev pub AllReady : Decoded → Tables → Scope → List ℕ → List Part → Type 0
AllReady D T Γ ω ps = Each (λ (p : Part). Ready D T Γ ω p.place p.number) ps

-- a number is itself
pub eqb_same : (n : ℕ) → eqb n n ≡ true
eqb_same n = eq-eqb n n refl

-- types agree with themselves
pub agree_same : (ts : List ℕ) → agree ts ts ≡ true
agree_same [] = refl
agree_same (t ∷ ts) = rw (eqb_same t) (agree_same ts)

-- nodes that give one value each are as many as the types
pub give_length : (P : Program) (T : Tables) (es ts : List ℕ) → GiveEach P T es ts → length es ≡ length ts
give_length P T [] [] h = refl
give_length P T [] (t ∷ ts) h = absurd h
give_length P T (e ∷ es) [] h = absurd h
give_length P T (e ∷ es) (t ∷ ts) h = ap suc (give_length P T es ts h.1)

module _ (D : Decoded) (T : Tables) (Γ : Scope) (ω : List ℕ) where
  -- the values of a run have the types that they give
  pub types-ready : (es ts : List ℕ) → AllReady D T Γ ω (all expression_place es) → GiveEach D.program T es ts → types_each (type_of D Γ) es ≡ good ts
  types-ready [] [] r h = refl
  types-ready [] (t ∷ ts) r h = absurd h
  types-ready (e ∷ es) [] r h = absurd h
  types-ready (e ∷ es) (t ∷ ts) r h = rw (r.0 t h.0, types-ready es ts r.1 h.1)
