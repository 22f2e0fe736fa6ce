-- The tables of a tree: scopes and owed results by the tree alone, types by the walk.
use Rattle.std.proofs.Common.{◌≡◌, ℕ, ◌<◌, ◌≤◌, List, [], ◌∷◌, length, sym, ap, subst, ⊎_elim}
use Rattle.std.proofs.lemmas.List.{get_or_past}
use Rattle.std.proofs.lemmas.Bool.{cases_lt}
use Rattle.xi.specs.declared.node.Node.{Node}
use Rattle.xi.specs.declared.node.Node.TheVariants.{Discard}
use Rattle.xi.specs.declared.program.Function.{Function}
use Rattle.xi.specs.Program.{Program}
use Rattle.xi.specs.Tree.{node_at, Sort, value_sort, call_sort, statement_sort, return_sort, block_sort, target_sort, sort_of, Part, first_parts, later_parts, Each, Tree}
use Rattle.xi.specs.Typing.{Scope, pushed, Tables, Inherit, Follow, ScopesBy, declared_by, parameters_of, results_of}
use Rattle.sheet.specs.Outcome.{Outcome, good, bad}
use Rattle.sheet.specs.Sheets.{Decoded}
use Rattle.checker.specs.Walk.{type_of}
use Rattle.checker.proofs.Eaches.{each_left, each_right}
use Rattle.checker.proofs.Placed.{Entry, find, inherit, follow, later, body_entries, places, handed-found, bodies-found}

-- the type that the walk finds, if any
abbrev pub value_of : Outcome ℕ → ℕ
value_of (good t) = t
value_of (bad k p) = 0

-- the tables of a sheet
abbrev pub tables_of : Decoded → Tables
tables_of D = record { scope = λ n. (find (places D.program) n).scope; type = λ n. value_of (type_of D (find (places D.program) n).scope n); owed = λ n. (find (places D.program) n).owed }

-- the type of an expression is what the walk finds
pub type_is : (D : Decoded) (n t : ℕ) → type_of D ((tables_of D).scope n) n ≡ good t → (tables_of D).type n ≡ t
type_is D n t q = ap value_of q

module _ (D : Decoded) where
  abbrev P : Program
  P = D.program

  abbrev T : Tables
  T = tables_of D

  -- an entry is found where it was put
  abbrev Found : Entry → Type 0
  Found e = find (places P) e.number ≡ e.standing

  -- parts with their node's scope
  inherits : (n : ℕ) (ps : List Part) → Each Found (inherit (find (places P) n) ps) → Inherit T n ps
  inherits n [] h = tt
  inherits n (p ∷ ps) h = (record { scope = ap (λ s. s.scope) h.0; owed = ap (λ s. s.owed) h.0 }, inherits n ps h.1)

  -- entries of a block
  follows : (n : ℕ) (Γ : Scope) (ps : List Part) → Each Found (follow P (find (places P) n).owed Γ ps) → Follow P T n Γ ps
  follows n Γ [] h = tt
  follows n Γ (p ∷ ps) h = (record { scope = ap (λ s. s.scope) h.0; owed = ap (λ s. s.owed) h.0 }, follows n (pushed (declared_by P (node_at P p.number)) Γ) ps h.1)

  -- later parts
  laters : (n : ℕ) (s : Sort) (ps : List Part) → Each Found (later P (find (places P) n) s ps) → ScopesBy P T n s ps
  laters n value_sort ps h = inherits n ps h
  laters n call_sort ps h = inherits n ps h
  laters n statement_sort ps h = inherits n ps h
  laters n return_sort ps h = inherits n ps h
  laters n block_sort ps h = follows n (T.scope n) ps h
  laters n target_sort ps h = inherits n ps h

  module _ (level : ℕ → ℕ) (tree : Tree P level) where
    -- the scopes of the parts that come first
    pub first-scopes : (n : ℕ) → Inherit T n (first_parts P (node_at P n))
    first-scopes n =
        ⊎_elim (λ (l : n < length P.nodes). inherits n (first_parts P (node_at P n)) (each_left Found (inherit (find (places P) n) (first_parts P (node_at P n))) (later P (find (places P) n) (sort_of (node_at P n)) (later_parts P (node_at P n))) (handed-found P level tree n l)))
        (λ (l : length P.nodes ≤ n). subst (λ (d : Node). Inherit T n (first_parts P d)) (sym (get_or_past P.nodes n Discard l)) tt) (cases_lt n (length P.nodes))

    -- the scopes of the parts that come later
    pub later-scopes : (n : ℕ) → ScopesBy P T n (sort_of (node_at P n)) (later_parts P (node_at P n))
    later-scopes n =
        ⊎_elim (λ (l : n < length P.nodes). laters n (sort_of (node_at P n)) (later_parts P (node_at P n)) (each_right Found (inherit (find (places P) n) (first_parts P (node_at P n))) (later P (find (places P) n) (sort_of (node_at P n)) (later_parts P (node_at P n))) (handed-found P level tree n l)))
        (λ (l : length P.nodes ≤ n). subst (λ (d : Node). ScopesBy P T n (sort_of d) (later_parts P d)) (sym (get_or_past P.nodes n Discard l)) tt) (cases_lt n (length P.nodes))

    -- a body begins with its function's parameters
    abbrev pub BodyBegins : Function → Type 0
    BodyBegins F = (T.scope F.body ≡ pushed (parameters_of P F) []) × (T.owed F.body ≡ results_of P F)

    -- so do all bodies of a list
    bodies-begin : (Fs : List Function) → Each Found (body_entries P Fs) → Each BodyBegins Fs
    bodies-begin [] h = tt
    bodies-begin (F ∷ Fs) h = ((ap (λ s. s.scope) h.0, ap (λ s. s.owed) h.0), bodies-begin Fs h.1)

    -- so do all bodies
    pub body-scopes : Each BodyBegins P.functions
    body-scopes = bodies-begin P.functions (bodies-found P level tree)
