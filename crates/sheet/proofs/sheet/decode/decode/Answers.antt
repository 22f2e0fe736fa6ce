use Rattle.std.proofs.Common.{◌≡◌, ℕ, ◌+◌, List, map, length, vec_items, eqb, ap, sym, ◌∙◌, rules}
use Rattle.xi.specs.declared.rule.Rule.TheVariants.{Bytes}
use Rattle.sheet.specs.Outcome.{good, bad, held}
use Rattle.sheet.specs.Names.{names_at}
use Rattle.sheet.specs.Sheets.{decoded_at, decoded_with}
use Rattle.sheet.specs.FunctionsOf.{functions_of}
use Rattle.sheet.proofs.Outcomes.{said_on, then_good, then_bad}
use Rattle.sheet.proofs.Decoding.{constants_at, entries_at, nodes_on}
use Rattle.sheet.proofs.sheet.decode.decode.Goals as goal
use Rattle.sheet.proofs.sheet.decode.decode.Goals.{After-of-known}

pub returns-in_err-names : goal.returns-in_err-names
returns-in_err-names c =
    said_on _ _ _ _ _ _ c.from_residual-in_err-names.ensures.1 c.in_err-names.ensures.said
    (λ k q e. let f : names_at c.head.new.r.bytes.now c.head.new.r.at ≡ bad k q = e in search rules)

pub returns-in_err-constants : goal.returns-in_err-constants
returns-in_err-constants c =
    let names : names_at c.head.new.r.bytes.now c.head.new.r.at ≡ good (map (λ w. w.now) (vec_items c.in_ok-names.names), c.read_part.new.r.at) = c.in_ok-names.ensures.said in
    said_on _ _ _ _ _ _ c.from_residual-in_err-constants.ensures.1 c.in_err-constants.ensures.said
    (λ k q e. let f : constants_at c.read_part.new.r.bytes.now c.read_part.new.r.at ≡ bad k q = e in search rules)

pub returns-in_err-entries : goal.returns-in_err-entries
returns-in_err-entries c =
    let names : names_at c.head.new.r.bytes.now c.head.new.r.at ≡ good (map (λ w. w.now) (vec_items c.in_ok-names.names), c.read_part.new.r.at) = c.in_ok-names.ensures.said in
    let constants : constants_at c.read_part.new.r.bytes.now c.read_part.new.r.at ≡ good (vec_items c.in_ok-constants.constants, c.read_part-2.new.r.at) = c.in_ok-constants.ensures.said in
    said_on _ _ _ _ _ _ c.from_residual-in_err-entries.ensures.1 c.in_err-entries.ensures.said
    (λ k q e. let f : entries_at c.read_part-2.new.r.bytes.now c.read_part-2.new.r.at ≡ bad k q = e in search rules)

-- the names that were read, as lists of bytes
abbrev words : After-of-known → List (List ℕ)
words c = map (λ w. w.now) (vec_items c.in_ok-names.names)

lists_read : (c : After-of-known) →
    decoded_at c.args.bytes.now
    ≡ nodes_on c.args.bytes.now c.args.bytes.now c.args.bytes.now c.args.bytes.now (words c) (vec_items c.in_ok-constants.constants) (vec_items c.in_ok-entries.entries)
    (length (words c)) (vec_items c.in_ok-constants.constants) (length (vec_items c.in_ok-entries.entries)) c.read_part-3.new.r.at
lists_read c =
    let names : names_at c.head.new.r.bytes.now c.head.new.r.at ≡ good (words c, c.read_part.new.r.at) = c.in_ok-names.ensures.said in
    let constants : constants_at c.read_part.new.r.bytes.now c.read_part.new.r.at ≡ good (vec_items c.in_ok-constants.constants, c.read_part-2.new.r.at) = c.in_ok-constants.ensures.said in
    let entries : entries_at c.read_part-2.new.r.bytes.now c.read_part-2.new.r.at ≡ good (vec_items c.in_ok-entries.entries, c.read_part-3.new.r.at) = c.in_ok-entries.ensures.said in
    search rules

-- the reader keeps its bytes
kept : (c : After-of-known) → c.read_part-3.new.r.bytes.now ≡ c.args.bytes.now
kept c = c.in_ok-entries.ensures.same ∙ c.in_ok-constants.ensures.same ∙ c.in_ok-names.ensures.same ∙ c.in_ok-head.ensures.same ∙ c.new-r.ensures.bytes

left : (c : After-of-known) (r s : List ℕ) → r ≡ c.args.bytes.now → s ≡ c.args.bytes.now →
    decoded_at c.args.bytes.now
    ≡ nodes_on c.args.bytes.now c.read_part-3.new.r.bytes.now r s (words c) (vec_items c.in_ok-constants.constants) (vec_items c.in_ok-entries.entries)
    c.of-known.result.names c.of-known.result.constants.now c.of-known.result.entries c.read_part-3.new.r.at
left c r s e f =
    let names = ap (λ xs. length (map (λ w. w.now) xs)) (sym c.deref.ensures.value) ∙ sym c.of-known.ensures.names in
    let constants = sym c.deref-2.ensures.value ∙ sym c.of-known.ensures.constants in
    let entries = ap length (sym c.deref-3.ensures.value) ∙ sym c.of-known.ensures.entries in
    lists_read c
    ∙ (λ j. nodes_on c.args.bytes.now (sym (kept c) j) (sym e j) (sym f j) (words c) (vec_items c.in_ok-constants.constants) (vec_items c.in_ok-entries.entries) (names j) (constants j) (entries j) c.read_part-3.new.r.at)

pub returns-in_err-nodes : goal.returns-in_err-nodes
returns-in_err-nodes c =
    let a = (goal.at.returns-in_err-nodes c).After-of-known in
    said_on _ _ _ _ _ _ c.from_residual-in_err-nodes.ensures.1 c.in_err-nodes.ensures.said (λ k q e. left a _ _ (kept a) (kept a) ∙ then_bad _ e)

pub returns-in_err-globals : goal.returns-in_err-globals
returns-in_err-globals c =
    let a = (goal.at.returns-in_err-globals c).After-of-known in
    said_on _ _ _ _ _ _ c.from_residual-in_err-globals.ensures.1 c.in_err-globals.ensures.said
    (λ k q e. left a _ _ (c.in_ok-nodes.ensures.same ∙ kept a) (kept a) ∙ then_good _ c.in_ok-nodes.ensures.said ∙ then_bad _ e)

pub returns-in_err-functions : goal.returns-in_err-functions
returns-in_err-functions c =
    let a = (goal.at.returns-in_err-functions c).After-of-known in
    let e = c.in_ok-nodes.ensures.same ∙ kept a in
    said_on _ _ _ _ _ _ c.from_residual-in_err-functions.ensures.1 c.in_err-functions.ensures.said
    (λ k q h. left a _ _ e (c.in_ok-globals.ensures.same ∙ e) ∙ then_good _ c.in_ok-nodes.ensures.said ∙ then_good _ c.in_ok-globals.ensures.said ∙ then_bad _ h)

pub returns-in_err-hold : goal.returns-in_err-hold
returns-in_err-hold c =
    let a = (goal.at.returns-in_err-hold c).After-of-known in
    let e = c.in_ok-nodes.ensures.same ∙ kept a in
    said_on _ _ _ _ _ _ c.from_residual-in_err-hold.ensures.1 c.in_err-hold.ensures.said
    (λ k q h.
    let g : held (eqb c.read_part-6.new.r.at (length c.args.bytes.now)) Bytes c.read_part-6.new.r.at ≡ bad k q = search rules in
    left a _ _ e (c.in_ok-globals.ensures.same ∙ e) ∙ then_good _ c.in_ok-nodes.ensures.said ∙ then_good _ c.in_ok-globals.ensures.said ∙ then_good _ c.in_ok-functions.ensures.said ∙ then_bad _ g)

pub returns : goal.returns
returns c =
    let a = (goal.at.returns c).After-of-known in
    let e = c.in_ok-nodes.ensures.same ∙ kept a in
    let g : held (eqb c.read_part-6.new.r.at (length c.args.bytes.now)) Bytes c.read_part-6.new.r.at ≡ good tt = search rules in
    left a _ _ e (c.in_ok-globals.ensures.same ∙ e) ∙ then_good _ c.in_ok-nodes.ensures.said ∙ then_good _ c.in_ok-globals.ensures.said ∙ then_good _ c.in_ok-functions.ensures.said ∙ then_good _ g
    ∙ (λ j.
    good (decoded_with (words a) (vec_items c.in_ok-constants.constants) (vec_items c.in_ok-entries.entries) (vec_items c.in_ok-nodes.nodes) (vec_items c.in_ok-globals.globals) (functions_of c.in_ok-functions.functions)
    (sym c.place-nodes_at.ensures j + 2) (sym c.place-globals_at.ensures j + 2) (sym c.place-functions_at.ensures j)))
