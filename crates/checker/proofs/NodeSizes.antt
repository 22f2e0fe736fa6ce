-- The nodes that are read have their runs within the entries.
use Rattle.std.proofs.Common.{◌≡◌, ℕ, ◌/◌, ◌≤◌, Bool, true, false, cond, ◌&&◌, eqb, ltb, leb, List, length, ℤ, Some, None, Option, refl, ap, subst, arith}
use Rattle.std.proofs.lemmas.Bool.{leb-true}
use Rattle.xi.specs.declared.node.Node.{Node}
use Rattle.xi.specs.declared.node.Node.TheVariants.{Number, Truth, Text, Variable, Element, Length, Unary, Binary, Constructor, Call, LibraryCall, Declare, DeclareValue, DeclareCall, Assign, AssignElement, If, IfElse, While, Return, CallStatement, Target, Discard, Block}
use Rattle.xi.specs.Program.{Program}
use Rattle.sheet.specs.Outcome.{good}
use Rattle.xi.specs.Codes.{unary_of, operator_of, library_of}
use Rattle.sheet.specs.Nodes.{kept, kept_with, known, node_of, leaf_of, operation_of, collection_of, declaration_of, statement_of, target_or_block_of, node_reads, raw_of, is_text, type_of, run_of, run_within}
use Rattle.checker.specs.Facts.{Sized}
use Rattle.checker.proofs.Opens.{never, same_good, and_left, and_right}

-- a node that is read is as it must be
record Fit (P : Program) (o : Option Node) : Type 0 where
  fits : (d : Node) → o ≡ Some d → Sized P d

module _ (P : Program) where
  none-fit : Fit P None
  none-fit = record { fits = λ d e. let z : ◌≡◌ {A = ℕ} 0 1 = cc in absurd (omega arith) }

  some_fit : (d : Node) → Sized P d → Fit P (Some d)
  some_fit d h = record { fits = λ c e. let same : d ≡ c = cc in subst (λ (v : Node). Sized P v) same h }

  kept-fit : (b : Bool) (d : Node) → (b ≡ true → Sized P d) → Fit P (kept b d)
  kept-fit true d h = some_fit d (h refl)
  kept-fit false d h = none-fit

  with-fit : {A : Type 0} (b : Bool) (o : Option A) (d : A → Node) → ((x : A) → b ≡ true → Sized P (d x)) → Fit P (kept_with b o d)
  with-fit b None d h = none-fit
  with-fit b (Some x) d h = kept-fit b (d x) (h x)

  cond_fit : (b : Bool) (x y : Option Node) → Fit P x → Fit P y → Fit P (cond b x y)
  cond_fit true x y f g = f
  cond_fit false x y f g = g

  -- the run is within so many, where the test ends in that
  inside : (a b c : Bool) (m n : ℕ) → (a && (b && (c && leb m n))) ≡ true → m ≤ n
  inside a b c m n h = leb-true _ _ (and_right c _ (and_right b _ (and_right a _ h)))

  leaf-fit : (n : ℕ) (cs : List ℤ) (w : List ℕ) → Fit P (leaf_of n cs (raw_of w))
  leaf-fit n cs w =
      let r = raw_of w in
      cond_fit (eqb r.kind 1) _ _ (kept-fit (eqb r.s 0 && (eqb r.b 0 && (eqb r.c 0 && ltb r.a (length cs)))) (Number r.a) (λ h. tt))
      (cond_fit (eqb r.kind 2) _ _ (kept-fit (eqb r.s 0 && (eqb r.b 0 && (eqb r.c 0 && leb r.a 1))) (Truth (eqb r.a 1)) (λ h. tt))
      (cond_fit (eqb r.kind 3) _ _ (kept-fit (eqb r.s 0 && (eqb r.a 0 && is_text cs r.b r.c)) (Text (run_of r)) (λ h. tt))
      (cond_fit (eqb r.kind 4) _ _ (kept-fit (eqb r.s 0 && (eqb r.b 0 && (eqb r.c 0 && ltb r.a n))) (Variable r.a) (λ h. tt)) none-fit)))

  operation-fit : (w : List ℕ) → Fit P (operation_of (raw_of w))
  operation-fit w =
      let r = raw_of w in
      cond_fit (eqb r.kind 5) _ _ (kept-fit (eqb r.s 0 && eqb r.c 0) (Element r.a r.b) (λ h. tt))
      (cond_fit (eqb r.kind 6) _ _ (kept-fit (eqb r.s 0 && (eqb r.b 0 && eqb r.c 0)) (Length r.a) (λ h. tt))
      (cond_fit (eqb r.kind 7) _ _ (with-fit (eqb r.b 0 && eqb r.c 0) (unary_of r.s) (λ o. Unary o r.a) (λ _ h. tt))
      (cond_fit (eqb r.kind 8) _ _ (with-fit (eqb r.c 0) (operator_of r.s) (λ o. Binary o r.a r.b) (λ _ h. tt)) none-fit)))

  collection-fit : (n : ℕ) (w : List ℕ) → Fit P (collection_of n (length P.entries) (raw_of w))
  collection-fit n w =
      let r = raw_of w in
      cond_fit (eqb r.kind 9) _ _ (kept-fit (leb r.s 7 && (eqb r.a 0 && run_within r 16 (length P.entries))) (Constructor (type_of r.s) (run_of r)) (λ h. (inside (leb r.s 7) (eqb r.a 0) (leb r.c 16) _ _ h, leb-true _ _ (and_left (leb r.s 7) (eqb r.a 0 && run_within r 16 (length P.entries)) h))))
      (cond_fit (eqb r.kind 10) _ _ (kept-fit (eqb r.s 0 && (ltb r.a n && run_within r 8 (length P.entries))) (Call r.a (run_of r)) (λ h. inside (eqb r.s 0) (ltb r.a n) (leb r.c 8) _ _ h))
      (cond_fit (eqb r.kind 11) _ _ (with-fit (eqb r.a 0 && run_within r 8 (length P.entries)) (library_of r.s) (λ f. LibraryCall f (run_of r)) (λ _ h. leb-true _ _ (and_right (leb r.c 8) _ (and_right (eqb r.a 0) _ h)))) none-fit))

  declaration-fit : (n : ℕ) (w : List ℕ) → Fit P (declaration_of n (length P.entries) (raw_of w))
  declaration-fit n w =
      let r = raw_of w in
      cond_fit (eqb r.kind 20) _ _ (kept-fit (leb r.s 9 && (ltb r.a n && run_within r (r.s / 2) (length P.entries))) (Declare r.a (type_of r.s) (run_of r)) (λ h. inside (leb r.s 9) (ltb r.a n) (leb r.c (r.s / 2)) _ _ h))
      (cond_fit (eqb r.kind 21) _ _ (kept-fit (leb r.s 9 && (ltb r.a n && eqb r.c 0)) (DeclareValue r.a (type_of r.s) r.b) (λ h. tt))
      (cond_fit (eqb r.kind 22) _ _ (kept-fit (eqb r.s 0 && (ltb 0 r.c && run_within r 8 (length P.entries))) (DeclareCall r.a (run_of r)) (λ h. inside (eqb r.s 0) (ltb 0 r.c) (leb r.c 8) _ _ h)) none-fit))

  statement-fit : (n : ℕ) (w : List ℕ) → Fit P (statement_of n (length P.entries) (raw_of w))
  statement-fit n w =
      let r = raw_of w in
      cond_fit (eqb r.kind 23) _ _ (kept-fit (eqb r.s 0 && (ltb r.a n && eqb r.c 0)) (Assign r.a r.b) (λ h. tt))
      (cond_fit (eqb r.kind 24) _ _ (kept-fit (eqb r.s 0) (AssignElement r.a r.b r.c) (λ h. tt))
      (cond_fit (eqb r.kind 25) _ _ (kept-fit (eqb r.s 0 && eqb r.c 0) (If r.a r.b) (λ h. tt))
      (cond_fit (eqb r.kind 26) _ _ (kept-fit (eqb r.s 0) (IfElse r.a r.b r.c) (λ h. tt))
      (cond_fit (eqb r.kind 27) _ _ (kept-fit (eqb r.s 0 && eqb r.c 0) (While r.a r.b) (λ h. tt))
      (cond_fit (eqb r.kind 28) _ _ (kept-fit (eqb r.s 0 && (eqb r.a 0 && run_within r 8 (length P.entries))) (Return (run_of r)) (λ h. inside (eqb r.s 0) (eqb r.a 0) (leb r.c 8) _ _ h))
      (cond_fit (eqb r.kind 29) _ _ (kept-fit (eqb r.s 0 && (eqb r.b 0 && eqb r.c 0)) (CallStatement r.a) (λ h. tt)) none-fit))))))

  target-fit : (n : ℕ) (w : List ℕ) → Fit P (target_or_block_of n (length P.entries) (raw_of w))
  target-fit n w =
      let r = raw_of w in
      cond_fit (eqb r.kind 30) _ _ (kept-fit (leb r.s 9 && (ltb r.a n && (eqb r.b 0 && eqb r.c 0))) (Target r.a (type_of r.s)) (λ h. tt))
      (cond_fit (eqb r.kind 31) _ _ (kept-fit (eqb r.s 0 && (eqb r.a 0 && (eqb r.b 0 && eqb r.c 0))) Discard (λ h. tt))
      (cond_fit (eqb r.kind 32) _ _ (kept-fit (eqb r.s 0 && (eqb r.a 0 && run_within r 255 (length P.entries))) (Block (run_of r)) (λ h. inside (eqb r.s 0) (eqb r.a 0) (leb r.c 255) _ _ h)) none-fit))

  node-fit : (n : ℕ) (cs : List ℤ) (w : List ℕ) → Fit P (node_of n cs (length P.entries) (raw_of w))
  node-fit n cs w =
      let r = raw_of w in
      cond_fit (leb r.kind 4) _ _ (leaf-fit n cs w)
      (cond_fit (leb r.kind 8) _ _ (operation-fit w)
      (cond_fit (leb r.kind 11) _ _ (collection-fit n w)
      (cond_fit (leb r.kind 22) _ _ (declaration-fit n w)
      (cond_fit (leb r.kind 29) _ _ (statement-fit n w) (target-fit n w)))))

  known-fit : (o : Option Node) (p : ℕ) (d : Node) → Fit P o → known o p ≡ good d → Sized P d
  known-fit None p d f e = absurd (never e)
  known-fit (Some x) p d f e = f.fits d (ap Some (same_good e))

  pub read-fit : (n : ℕ) (cs : List ℤ) (p : ℕ) (w : List ℕ) (d : Node) → node_reads n cs (length P.entries) p w ≡ good d → Sized P d
  read-fit n cs p w d e = known-fit (node_of n cs (length P.entries) (raw_of w)) p d (node-fit n cs w) e
