-- A call, once its function and its arguments are known.
use Rattle.std.proofs.Common.{◌≡◌, ℕ, ◌⊎◌, List, [], ◌∷◌, map, length, get_or, sym, refl, ap, ◌∙◌, subst, ⊎_elim}
use mathlib.Core.Option.{some}
use lib.ListN.{length-map}
use Rattle.xi.specs.declared.node.Node.{Node}
use Rattle.xi.specs.declared.node.Node.TheVariants.{Call, LibraryCall}
use Rattle.xi.specs.declared.node.LibraryFunction.{LibraryFunction}
use Rattle.xi.specs.declared.node.Run.{Run}
use Rattle.xi.specs.declared.node.Ty.{Ty}
use Rattle.xi.specs.declared.program.Function.{Function}
use Rattle.xi.specs.declared.program.Parameter.{Parameter}
use Rattle.xi.specs.declared.rule.Rule.{Rule}
use Rattle.xi.specs.declared.rule.Rule.TheVariants.{Unknown}
use Rattle.xi.specs.Program.{items_of}
use Rattle.sheet.specs.Outcome.{Outcome, good, bad, then}
use Rattle.sheet.proofs.Outcomes.{then_good, then_bad}
use Rattle.xi.specs.Tree.{entries_of}
use Rattle.xi.specs.Typing.{Scope, binding, numbers_of, types_of, function_named, parameters_of, results_of, library_takes, library_gives}
use Rattle.checker.specs.declared.node_at.NodeAt.{NodeAt}
use Rattle.checker.specs.declared.node_at.Parts.{Parts}
use Rattle.checker.specs.Nodes.{whole, offset_at}
use Rattle.checker.specs.Walk.{known, argued, called, call_node, type_node, first_of, type_of, call_of}

-- a call of a function of the sheet
module _
    (n : NodeAt) (Γ : Scope) (k x : ℕ) (r : Run) (F : Function) (ns : Parts) (ps : List Parameter) (ts : List Ty)
    (calls : call_of (whole n) Γ k n.number ≡ call_node (type_of (whole n) Γ) (whole n).program k (offset_at n) (Call x r))
    (found : function_named (whole n).program.functions x ≡ some F)
    (own : ns.node ≡ n) (are : ns.numbers.now ≡ entries_of (whole n).program r)
    (takes : ps ≡ items_of (whole n).program.parameters F.parameters) (gives : ts ≡ items_of (whole n).program.results F.results)
  where
    abbrev pub arguing : Outcome (Unit {0})
    arguing = argued (type_of (whole ns.node) Γ) ns.numbers.now k (offset_at ns.node) (types_of (map (λ (p : Parameter). binding p.name p.ty) ps)) (length ts)

    many : length (results_of (whole n).program F) ≡ length ts
    many = length-map _ (λ (t : Ty). t.number) ∙ ap length (sym gives)

    opened : call_of (whole n) Γ k n.number ≡ then arguing (λ _. good (numbers_of ts))
    opened =
        calls
        ∙ ap (λ o. then (known o Unknown (offset_at n)) (λ G. called (type_of (whole n) Γ) (entries_of (whole n).program r) k (offset_at n) (types_of (parameters_of (whole n).program G)) (results_of (whole n).program G))) found
        ∙ (λ j. then (argued (type_of (whole (sym own j)) Γ) (sym are j) k (offset_at (sym own j)) (types_of (map (λ (p : Parameter). binding p.name p.ty) (sym takes j))) (many j)) (λ _. good (numbers_of (sym gives j))))

    pub call-bad : (u : Rule) (q : ℕ) → arguing ≡ bad u q → call_of (whole n) Γ k n.number ≡ bad u q
    call-bad u q e = opened ∙ then_bad _ e

    pub call-good : arguing ≡ good tt → call_of (whole n) Γ k n.number ≡ good (numbers_of ts)
    call-good e = opened ∙ then_good _ e

-- a call of a function of the library
module _
    (n : NodeAt) (Γ : Scope) (k : ℕ) (f : LibraryFunction) (r : Run) (ns : Parts) (us ts : List Ty)
    (calls : call_of (whole n) Γ k n.number ≡ call_node (type_of (whole n) Γ) (whole n).program k (offset_at n) (LibraryCall f r))
    (own : ns.node ≡ n) (are : ns.numbers.now ≡ entries_of (whole n).program r) (takes : numbers_of us ≡ library_takes f) (gives : numbers_of ts ≡ library_gives f)
  where
    abbrev pub library-arguing : Outcome (Unit {0})
    library-arguing = argued (type_of (whole ns.node) Γ) ns.numbers.now k (offset_at ns.node) (numbers_of us) (length ts)

    library-many : length (library_gives f) ≡ length ts
    library-many = ap length (sym gives) ∙ length-map _ (λ (t : Ty). t.number)

    library-opened : call_of (whole n) Γ k n.number ≡ then library-arguing (λ _. good (numbers_of ts))
    library-opened = calls ∙ (λ j. then (argued (type_of (whole (sym own j)) Γ) (sym are j) k (offset_at (sym own j)) (sym takes j) (library-many j)) (λ _. good (sym gives j)))

    pub library-bad : (u : Rule) (q : ℕ) → library-arguing ≡ bad u q → call_of (whole n) Γ k n.number ≡ bad u q
    library-bad u q e = library-opened ∙ then_bad _ e

    pub library-good : library-arguing ≡ good tt → call_of (whole n) Γ k n.number ≡ good (numbers_of ts)
    library-good e = library-opened ∙ then_good _ e

-- the type of a call is that of its only result
pub first-number : (ts : List Ty) (d : Ty) → d.number ≡ 0 → first_of (numbers_of ts) ≡ (get_or ts 0 d).number
first-number [] d e = sym e
first-number (t ∷ ts) d e = refl

module _
    (n : NodeAt) (Γ : Scope) (d : Node)
    (types : type_of (whole n) Γ n.number ≡ type_node (type_of (whole n) Γ) (whole n).program Γ (offset_at n) d)
    (calls : call_of (whole n) Γ 1 n.number ≡ call_node (type_of (whole n) Γ) (whole n).program 1 (offset_at n) d)
    (is : ((x : ℕ) × (r : Run) × (d ≡ Call x r)) ⊎ ((f : LibraryFunction) × (r : Run) × (d ≡ LibraryCall f r)))
  where
    abbrev typed : Node → Type 0
    typed e = type_node (type_of (whole n) Γ) (whole n).program Γ (offset_at n) e ≡ then (call_node (type_of (whole n) Γ) (whole n).program 1 (offset_at n) e) (λ ts. good (first_of ts))

    by_call : type_of (whole n) Γ n.number ≡ then (call_of (whole n) Γ 1 n.number) (λ ts. good (first_of ts))
    by_call =
        types
        ∙ ⊎_elim (λ s. subst typed (sym s.2) refl) (λ s. subst typed (sym s.2) refl) is
        ∙ ap (λ o. then o (λ ts. good (first_of ts))) (sym calls)

    pub by-call-bad : (u : Rule) (q : ℕ) → call_of (whole n) Γ 1 n.number ≡ bad u q → type_of (whole n) Γ n.number ≡ bad u q
    by-call-bad u q e = by_call ∙ then_bad _ e

    pub by-call-good : (ts : List Ty) (t : Ty) → t.number ≡ 0 → call_of (whole n) Γ 1 n.number ≡ good (numbers_of ts) → type_of (whole n) Γ n.number ≡ good (get_or ts 0 t).number
    by-call-good ts t z e = by_call ∙ then_good _ e ∙ ap good (first-number ts t z)
