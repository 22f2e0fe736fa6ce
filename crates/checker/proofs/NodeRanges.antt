-- The fields of a node that is read lie in their ranges.
use Rattle.std.proofs.Common.{◌≡◌, ℕ, zero, suc, ◌+◌, ◌/◌, ◌<◌, ◌≤◌, Bool, true, false, cond, ◌&&◌, eqb, ltb, leb, List, [], ◌∷◌, length, get_or, ℤ, pos, negsuc, Some, None, Option, refl, subst, arith}
use Rattle.std.proofs.lemmas.Bool.{ltb-true, leb-true, and_parts, false≢true}
use Rattle.xi.specs.declared.node.Node.{Node}
use Rattle.xi.specs.declared.node.Node.TheVariants.{Number, Truth, Text, Variable, Element, Length, Unary, Binary, Constructor, Call, LibraryCall}
use Rattle.xi.specs.declared.node.Node.TheVariants.{Declare, DeclareValue, DeclareCall, Assign, AssignElement, If, IfElse, While, Return, CallStatement, Target, Discard, Block}
use Rattle.xi.specs.Program.{Program}
use Rattle.xi.specs.Tree.{Each}
use Rattle.xi.specs.Obeys.{Within, Character, depth_of, Ranged}
use Rattle.sheet.specs.Fields.{pair}
use Rattle.xi.specs.Codes.{unary_of, operator_of, library_of}
use Rattle.sheet.specs.Nodes.{is_character, are_characters, is_text, kept, kept_with, type_of, run_of, run_within, leaf_of, operation_of, collection_of, declaration_of, statement_of, target_or_block_of, raw_of, node_of}

-- half a type's number is at most its depth
half : (t : ℕ) → t / 2 ≤ depth_of t
half zero = omega arith
half (suc zero) = omega arith
half (suc (suc t)) = let h = half t in omega arith

-- the test for a character
is_character-Character : (z : ℤ) → is_character z ≡ true → Character z
is_character-Character (pos n) h = let l = leb-true n 1114111 h in record { code = n; is = refl; small = omega arith }
is_character-Character (negsuc n) h = absurd (false≢true h)

-- the test for characters
are_characters-Each : (zs : List ℤ) → are_characters zs ≡ true → Each Character zs
are_characters-Each [] h = tt
are_characters-Each (z ∷ zs) h = let x = and_parts (is_character z) _ h in (is_character-Character z x.0, are_characters-Each zs x.1)

-- the test for a run
within : (w : List ℕ) (m e : ℕ) → run_within (raw_of w) m e ≡ true → Within e m (run_of (raw_of w))
within w m e h = let x = and_parts (leb (pair w 6) m) _ h in record { inside = leb-true _ _ x.1; short = leb-true _ _ x.0 }

-- a node, if it is one, lies in its ranges
pub record Fine (P : Program) (o : Option Node) : Type 0 where
  pub ranged : (d : Node) → o ≡ Some d → Ranged P d

module _ (P : Program) where
  -- one of two
  either : (b : Bool) (x y : Option Node) → Fine P x → Fine P y → Fine P (cond b x y)
  either true x y f g = f
  either false x y f g = g

  -- no node
  none-fine : Fine P None
  none-fine = record { ranged = λ d e. let z : ◌≡◌ {A = ℕ} 0 1 = cc in absurd (omega arith) }

  -- a node that is kept where a test holds
  kept_fine : (b : Bool) (d : Node) → (b ≡ true → Ranged P d) → Fine P (kept b d)
  kept_fine true d h = record { ranged = λ c e. let q : d ≡ c = cc in subst (Ranged P) q (h refl) }
  kept_fine false d h = none-fine

  -- a node with what a number stands for
  with-fine : {A : Type 0} (b : Bool) (o : Option A) (d : A → Node) → ((x : A) → b ≡ true → Ranged P (d x)) → Fine P (kept_with b o d)
  with-fine b None d h = none-fine
  with-fine b (Some x) d h = kept_fine b (d x) (h x)

  module _ (n : ℕ) (w : List ℕ) where
    -- the constants
    abbrev cs : List ℤ
    cs = P.constants

    -- the number of entries
    abbrev e : ℕ
    e = length P.entries

    -- a constant that is there
    number-fine : (eqb (get_or w 1 0) 0 && (eqb (pair w 4) 0 && (eqb (pair w 6) 0 && ltb (pair w 2) (length cs)))) ≡ true → pair w 2 < length cs
    number-fine h = ltb-true _ _ (and_parts (eqb (pair w 6) 0) _ (and_parts (eqb (pair w 4) 0) _ (and_parts (eqb (get_or w 1 0) 0) _ h).1).1).1

    -- a run of characters
    text-fine : (eqb (get_or w 1 0) 0 && (eqb (pair w 2) 0 && is_text cs (pair w 4) (pair w 6))) ≡ true → Ranged P (Text (run_of (raw_of w)))
    text-fine h =
        let x = and_parts (leb (pair w 6) 255) _ (and_parts (eqb (pair w 2) 0) _ (and_parts (eqb (get_or w 1 0) 0) _ h).1).1 in
        let y = and_parts (leb (pair w 4 + pair w 6) (length cs)) _ x.1 in
        (record { inside = leb-true _ _ y.0; short = leb-true _ _ x.0 }, are_characters-Each _ y.1)

    -- the last of three tests
    third : (a b c : Bool) → (a && (b && c)) ≡ true → c ≡ true
    third a b c h = (and_parts b c (and_parts a (b && c) h).1).1

    -- kinds 1 to 4
    leaf-fine : Fine P (leaf_of n cs (raw_of w))
    leaf-fine =
        either (eqb (get_or w 0 0) 1) _ _ (kept_fine _ (Number (pair w 2)) number-fine)
        (either (eqb (get_or w 0 0) 2) _ _ (kept_fine (eqb (get_or w 1 0) 0 && (eqb (pair w 4) 0 && (eqb (pair w 6) 0 && leb (pair w 2) 1))) (Truth (eqb (pair w 2) 1)) (λ _. tt))
        (either (eqb (get_or w 0 0) 3) _ _ (kept_fine _ (Text (run_of (raw_of w))) text-fine)
        (either (eqb (get_or w 0 0) 4) _ None (kept_fine (eqb (get_or w 1 0) 0 && (eqb (pair w 4) 0 && (eqb (pair w 6) 0 && ltb (pair w 2) n))) (Variable (pair w 2)) (λ _. tt)) none-fine)))

    -- kinds 5 to 8
    operation-fine : Fine P (operation_of (raw_of w))
    operation-fine =
        either (eqb (get_or w 0 0) 5) _ _ (kept_fine (eqb (get_or w 1 0) 0 && eqb (pair w 6) 0) (Element (pair w 2) (pair w 4)) (λ _. tt))
        (either (eqb (get_or w 0 0) 6) _ _ (kept_fine (eqb (get_or w 1 0) 0 && (eqb (pair w 4) 0 && eqb (pair w 6) 0)) (Length (pair w 2)) (λ _. tt))
        (either (eqb (get_or w 0 0) 7) _ _ (with-fine (eqb (pair w 4) 0 && eqb (pair w 6) 0) (unary_of (get_or w 1 0)) (λ o. Unary o (pair w 2)) (λ x _. tt))
        (either (eqb (get_or w 0 0) 8) _ None (with-fine (eqb (pair w 6) 0) (operator_of (get_or w 1 0)) (λ o. Binary o (pair w 2) (pair w 4)) (λ x _. tt)) none-fine)))

    -- kinds 9 to 11
    collection-fine : Fine P (collection_of n e (raw_of w))
    collection-fine =
        either (eqb (get_or w 0 0) 9) _ _ (kept_fine _ (Constructor (type_of (get_or w 1 0)) (run_of (raw_of w))) (λ h. (within w 16 e (third (leb (get_or w 1 0) 7) (eqb (pair w 2) 0) (run_within (raw_of w) 16 e) h), leb-true _ _ (and_parts (leb (get_or w 1 0) 7) _ h).0)))
        (either (eqb (get_or w 0 0) 10) _ _ (kept_fine _ (Call (pair w 2) (run_of (raw_of w))) (λ h. within w 8 e (third (eqb (get_or w 1 0) 0) (ltb (pair w 2) n) (run_within (raw_of w) 8 e) h)))
        (either (eqb (get_or w 0 0) 11) _ None (with-fine (eqb (pair w 2) 0 && run_within (raw_of w) 8 e) (library_of (get_or w 1 0)) (λ f. LibraryCall f (run_of (raw_of w))) (λ x h. within w 8 e (and_parts (eqb (pair w 2) 0) (run_within (raw_of w) 8 e) h).1)) none-fine))

    -- at most as many lengths as dimensions
    deep : Within e (get_or w 1 0 / 2) (run_of (raw_of w)) → Within e (depth_of (get_or w 1 0)) (run_of (raw_of w))
    deep v = let l : pair w 6 ≤ get_or w 1 0 / 2 = v.short in let h = half (get_or w 1 0) in record { inside = v.inside; short = omega arith }

    -- kinds 20 to 22
    declaration-fine : Fine P (declaration_of n e (raw_of w))
    declaration-fine =
        either (eqb (get_or w 0 0) 20) _ _ (kept_fine _ (Declare (pair w 2) (type_of (get_or w 1 0)) (run_of (raw_of w))) (λ h. (deep (within w (get_or w 1 0 / 2) e (third (leb (get_or w 1 0) 9) (ltb (pair w 2) n) (run_within (raw_of w) (get_or w 1 0 / 2) e) h)), leb-true _ _ (and_parts (leb (get_or w 1 0) 9) _ h).0)))
        (either (eqb (get_or w 0 0) 21) _ _ (kept_fine (leb (get_or w 1 0) 9 && (ltb (pair w 2) n && eqb (pair w 6) 0)) (DeclareValue (pair w 2) (type_of (get_or w 1 0)) (pair w 4)) (λ h. leb-true _ _ (and_parts (leb (get_or w 1 0) 9) _ h).0))
        (either (eqb (get_or w 0 0) 22) _ None (kept_fine _ (DeclareCall (pair w 2) (run_of (raw_of w))) (λ h. (within w 8 e (third (eqb (get_or w 1 0) 0) (ltb 0 (pair w 6)) (run_within (raw_of w) 8 e) h), ltb-true 0 (pair w 6) (and_parts (ltb 0 (pair w 6)) _ (and_parts (eqb (get_or w 1 0) 0) _ h).1).0))) none-fine))

    -- kinds 23 to 29
    statement-fine : Fine P (statement_of n e (raw_of w))
    statement-fine =
        either (eqb (get_or w 0 0) 23) _ _ (kept_fine (eqb (get_or w 1 0) 0 && (ltb (pair w 2) n && eqb (pair w 6) 0)) (Assign (pair w 2) (pair w 4)) (λ _. tt))
        (either (eqb (get_or w 0 0) 24) _ _ (kept_fine (eqb (get_or w 1 0) 0) (AssignElement (pair w 2) (pair w 4) (pair w 6)) (λ _. tt))
        (either (eqb (get_or w 0 0) 25) _ _ (kept_fine (eqb (get_or w 1 0) 0 && eqb (pair w 6) 0) (If (pair w 2) (pair w 4)) (λ _. tt))
        (either (eqb (get_or w 0 0) 26) _ _ (kept_fine (eqb (get_or w 1 0) 0) (IfElse (pair w 2) (pair w 4) (pair w 6)) (λ _. tt))
        (either (eqb (get_or w 0 0) 27) _ _ (kept_fine (eqb (get_or w 1 0) 0 && eqb (pair w 6) 0) (While (pair w 2) (pair w 4)) (λ _. tt))
        (either (eqb (get_or w 0 0) 28) _ _ (kept_fine _ (Return (run_of (raw_of w))) (λ h. within w 8 e (third (eqb (get_or w 1 0) 0) (eqb (pair w 2) 0) (run_within (raw_of w) 8 e) h)))
        (either (eqb (get_or w 0 0) 29) _ None (kept_fine (eqb (get_or w 1 0) 0 && (eqb (pair w 4) 0 && eqb (pair w 6) 0)) (CallStatement (pair w 2)) (λ _. tt)) none-fine))))))

    -- kinds 30 to 32
    target-fine : Fine P (target_or_block_of n e (raw_of w))
    target-fine =
        either (eqb (get_or w 0 0) 30) _ _ (kept_fine (leb (get_or w 1 0) 9 && (ltb (pair w 2) n && (eqb (pair w 4) 0 && eqb (pair w 6) 0))) (Target (pair w 2) (type_of (get_or w 1 0))) (λ h. leb-true _ _ (and_parts (leb (get_or w 1 0) 9) _ h).0))
        (either (eqb (get_or w 0 0) 31) _ _ (kept_fine (eqb (get_or w 1 0) 0 && (eqb (pair w 2) 0 && (eqb (pair w 4) 0 && eqb (pair w 6) 0))) Discard (λ _. tt))
        (either (eqb (get_or w 0 0) 32) _ None (kept_fine _ (Block (run_of (raw_of w))) (λ h. within w 255 e (third (eqb (get_or w 1 0) 0) (eqb (pair w 2) 0) (run_within (raw_of w) 255 e) h))) none-fine))

    -- a node that is read lies in its ranges
    pub node-fine : Fine P (node_of n cs e (raw_of w))
    node-fine =
        either (leb (get_or w 0 0) 4) _ _ leaf-fine
        (either (leb (get_or w 0 0) 8) _ _ operation-fine
        (either (leb (get_or w 0 0) 11) _ _ collection-fine
        (either (leb (get_or w 0 0) 22) _ _ declaration-fine
        (either (leb (get_or w 0 0) 29) _ _ statement-fine target-fine))))
