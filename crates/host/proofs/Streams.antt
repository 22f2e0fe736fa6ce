-- The text of a tile, read one height after another, is the text by rows.
use Rattle.std.proofs.Common.{◌≡◌, ℕ, zero, suc, ◌+◌, ◌-◌, ◌*◌, ◌%◌, ◌<◌, ◌≤◌, true, false, cond, List, [], ◌∷◌, ◌++◌, map, length, take, drop, ℤ, sym, refl, ap, ◌∙◌, ⊎_elim, append_assoc, append-nil, suc-mul, zero-mul, arith}
use native.Mathlib.Nat.{mul-mod_left, add-mod_right}
use Rattle.std.proofs.lemmas.Nat.{mod-mul-add}
use Rattle.std.proofs.lemmas.List.{take_all, drop_all, length-drop}
use Rattle.std.proofs.lemmas.Bool.{eq-eqb, ne_eqb, cases_lt, cond-false}
use Rattle.host.specs.Decimal.{decimal}
use Rattle.host.specs.Stream.{ends_row, separator_behind, text_from, unread}
use Rattle.host.specs.Tile.{chunks, rows, separated, row_text, tile_text}

-- where no row ends before the last height, the text is that of one row
one_row : (w k : ℕ) (hs : List ℤ) → ((i : ℕ) → i + 1 < length hs → ends_row w (k + i) ≡ false) → text_from w k hs ≡ row_text hs
unfolding text_from row_text separated separator_behind
one_row w k [] none = refl
one_row w k (h ∷ []) none = append-nil _ ∙ append-nil _
one_row w k (h ∷ (g ∷ gs)) none =
    let here : ends_row w k ≡ false = ap (ends_row w) (omega arith) ∙ none 0 (omega arith) in
    let after = one_row w (k + 1) (g ∷ gs) (λ i l. ap (ends_row w) (omega arith) ∙ none (i + 1) (omega arith)) in
    append_assoc (decimal h) (cond (ends_row w k) 10 44 ∷ []) (text_from w (k + 1) (g ∷ gs)) ∙ ap (λ t. decimal h ++ (cond t 10 44 ∷ text_from w (k + 1) (g ∷ gs))) here ∙ ap (λ t. decimal h ++ (44 ∷ t)) after

-- where the first row ends with the height after j others
first-row : (w k j : ℕ) (hs : List ℤ) → j + 1 < length hs → ((i : ℕ) → i < j → ends_row w (k + i) ≡ false) → ends_row w (k + j) ≡ true → text_from w k hs ≡ row_text (take (suc j) hs) ++ (10 ∷ text_from w (k + suc j) (drop (suc j) hs))
unfolding text_from row_text separated separator_behind
first-row w k j [] l none ends = absurd (omega arith)
first-row w k j (h ∷ []) l none ends = absurd (omega arith)
first-row w k zero (h ∷ (g ∷ gs)) l none ends =
    let here : ends_row w k ≡ true = ap (ends_row w) (omega arith) ∙ ends in
    append_assoc (decimal h) (cond (ends_row w k) 10 44 ∷ []) (text_from w (k + 1) (g ∷ gs)) ∙ ap (λ t. decimal h ++ (cond t 10 44 ∷ text_from w (k + 1) (g ∷ gs))) here
first-row w k (suc j) (h ∷ (g ∷ gs)) l none ends =
    let here : ends_row w k ≡ false = ap (ends_row w) (omega arith) ∙ none 0 (omega arith) in
    let after = first-row w (k + 1) j (g ∷ gs) (omega arith) (λ i m. ap (ends_row w) (omega arith) ∙ none (i + 1) (omega arith)) (ap (ends_row w) (omega arith) ∙ ends) in
    let place : k + 1 + suc j ≡ k + suc (suc j) = omega arith in
    append_assoc (decimal h) (cond (ends_row w k) 10 44 ∷ []) (text_from w (k + 1) (g ∷ gs)) ∙ ap (λ t. decimal h ++ (cond t 10 44 ∷ text_from w (k + 1) (g ∷ gs))) here ∙ ap (λ t. decimal h ++ (44 ∷ t)) after ∙ ap (λ p. decimal h ++ (44 ∷ (row_text (take (suc j) (g ∷ gs)) ++ (10 ∷ text_from w p (drop (suc j) (g ∷ gs)))))) place ∙ sym (append_assoc (decimal h) (44 ∷ row_text (take (suc j) (g ∷ gs))) (10 ∷ text_from w (k + suc (suc j)) (drop (suc j) (g ∷ gs))))

-- at width suc v, the rows end with heights v, 2 v + 1 and so on
within-row : (q v i : ℕ) → i < v → ends_row (suc v) (q * suc v + i) ≡ false
unfolding ends_row
within-row q v i l =
    let place : (q * suc v + i + 1) % suc v ≡ i + 1 = ap (λ m. m % suc v) (omega arith) ∙ mod-mul-add q (suc v) (i + 1) (omega arith) in
    cond-false _ _ _ (ne_eqb (suc v) 0 (omega arith)) ∙ ne_eqb ((q * suc v + i + 1) % suc v) 0 (λ e. omega arith)

at_row_end : (q v : ℕ) → ends_row (suc v) (q * suc v + v) ≡ true
unfolding ends_row
at_row_end q v =
    let place : (q * suc v + v + 1) % suc v ≡ 0 = ap (λ m. m % suc v) (omega arith) ∙ add-mod_right (q * suc v) (suc v) ∙ mul-mod_left q (suc v) in
    cond-false _ _ _ (ne_eqb (suc v) 0 (omega arith)) ∙ eq-eqb ((q * suc v + v + 1) % suc v) 0 place

separated_more : (c : ℕ) (t : List ℕ) (us : List (List ℕ)) → 0 < length us → separated c (t ∷ us) ≡ t ++ (c ∷ separated c us)
unfolding separated
separated_more c t [] l = absurd (omega arith)
separated_more c t (u ∷ us) l = refl

no_chunks : (n w : ℕ) → chunks n w [] ≡ []
unfolding chunks
no_chunks zero w = refl
no_chunks (suc n) w = refl

some-chunks : (n w : ℕ) (hs : List ℤ) → 0 < n → 0 < length hs → 0 < length (map row_text (chunks n w hs))
unfolding chunks
some-chunks zero w hs l m = omega arith
some-chunks (suc n) w [] l m = omega arith
some-chunks (suc n) w (h ∷ hs) l m = omega arith

last_chunk : (n w : ℕ) (h : ℤ) (hs : List ℤ) → length (h ∷ hs) ≤ w → separated 10 (map row_text (chunks (suc n) w (h ∷ hs))) ≡ row_text (h ∷ hs)
unfolding chunks separated
last_chunk n w h hs l =
    ap (λ d. separated 10 (row_text (take w (h ∷ hs)) ∷ map row_text (chunks n w d))) (drop_all w (h ∷ hs) l) ∙ ap (λ cs. separated 10 (row_text (take w (h ∷ hs)) ∷ map row_text cs)) (no_chunks n w) ∙ ap row_text (take_all w (h ∷ hs) l)

-- from the start of row q on
by_rows : (n q v : ℕ) (hs : List ℤ) → length hs ≤ n → text_from (suc v) (q * suc v) hs ≡ separated 10 (map row_text (chunks n (suc v) hs))
unfolding text_from chunks separated
by_rows zero q v [] l = refl
by_rows zero q v (h ∷ hs) l = absurd (omega arith)
by_rows (suc n) q v [] l = refl
by_rows (suc n) q v (h ∷ hs) l =
    let below : List ℤ = drop (suc v) (h ∷ hs) in
    let size : length below ≡ length hs - v = simp length-drop (omega arith) in
    let again = by_rows n (suc q) v below (omega arith) in
    ⊎_elim
    (λ more.
    first-row (suc v) (q * suc v) v (h ∷ hs) (omega arith) (within-row q v) (at_row_end q v) ∙ ap (λ p. row_text (take (suc v) (h ∷ hs)) ++ (10 ∷ text_from (suc v) p below)) (sym (suc-mul q (suc v))) ∙ ap (λ t. row_text (take (suc v) (h ∷ hs)) ++ (10 ∷ t)) again ∙ sym (separated_more 10 (row_text (take (suc v) (h ∷ hs))) (map row_text (chunks n (suc v) below)) (some-chunks n (suc v) below (omega arith) (omega arith))))
    (λ last. one_row (suc v) (q * suc v) (h ∷ hs) (λ i m. within-row q v i (omega arith)) ∙ sym (last_chunk n (suc v) h hs last))
    (cases_lt (suc v) (length (h ∷ hs)))

pub tile_text_is : (w : ℕ) (hs : List ℤ) → text_from w 0 hs ≡ tile_text w hs
unfolding text_from tile_text rows chunks separated ends_row
tile_text_is zero [] = refl
tile_text_is zero (h ∷ hs) = one_row 0 0 (h ∷ hs) (λ i m. refl) ∙ sym (last_chunk (length hs) (suc (length hs)) h hs (omega arith))
tile_text_is (suc v) hs = ap (λ k. text_from (suc v) k hs) (sym (zero-mul (suc v))) ∙ by_rows (length hs) 0 v hs (omega arith) ∙ ap (λ w. separated 10 (map row_text (chunks (length hs) w hs))) (sym (cond-false _ _ _ (ne_eqb (suc v) 0 (omega arith))))

-- the text before anything is read
pub unread-none : (w k : ℕ) (hs : List ℤ) → unread w k 0 hs ≡ text_from w k hs
unfolding unread text_from
unread-none w k [] = refl
unread-none w k (h ∷ hs) = refl
