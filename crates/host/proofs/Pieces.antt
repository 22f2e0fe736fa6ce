-- The pieces of a tile's text: w is the tile's width, k the index of the first height, n how many characters of its piece are read.
use Rattle.std.proofs.Common.{◌≡◌, ℕ, ◌+◌, ◌-◌, ◌%◌, ◌<◌, ◌≤◌, ◌==◌, Bool, false, cond, leb, List, [], ◌∷◌, ◌++◌, length, get_or, drop, ℤ, Some, None, Option, sym, refl, ap, ◌∙◌, append-nil, append_assoc, arith, rules, length-append, length-drop, w16, SFits, ltb}
use Rattle.std.proofs.lemmas.Bool.{le-leb, lt-leb, cond-true, cond-false}
use Rattle.std.proofs.lemmas.Bool.Decides.{nat_tests}
use Rattle.host.specs.Tile.{tile_text}
use Rattle.std.proofs.lemmas.Fmt.{length_signed_le}
use Rattle.std.specs.Option.{option_or}
use Rattle.std.proofs.lemmas.Grind.{common_steps}
use Rattle.std.proofs.lemmas.List.{drop_more, get_or_append_left, get_or_push, get_or-drop, drop-append-le}
use Rattle.host.specs.Decimal.{decimal}
use Rattle.host.specs.Stream.{ends_row, separator_behind, separator_at, piece, piece_text, text_from, unread, front}
use Rattle.host.specs.Text.{item, first, rest, row_length}
use Rattle.host.proofs.Decimals.{decimal-some, decimal-row}
use Rattle.host.proofs.Rows.{plain-drop, row-append}
use Rattle.host.proofs.Streams.{unread-none, tile_text_is}

-- what stands behind a height that is not the last
pub separator_newline : (w k : ℕ) → (k + 1) % w ≡ 0 → Some 10 ≡ separator_at w k false
unfolding ends_row
separator_newline w k e = grind (arith, nat_tests)

pub separator_comma : (w k : ℕ) → ((k + 1) % w ≡ 0 → ⊥) → Some 44 ≡ separator_at w k false
unfolding ends_row
separator_comma w k e = grind (arith, nat_tests)

pub ruleset separators = (separator_newline, separator_comma)

-- it is the first of what stands between that height and those that follow
pub separator-first : (w k : ℕ) (hs : List ℤ) (last : Bool) → last ≡ (length hs == 0) → separator_at w k last ≡ first (separator_behind w k hs)
unfolding separator_behind
separator-first w k [] last e = ap (separator_at w k) e
separator-first w k (h ∷ hs) last e =
    let more : last ≡ false = grind (arith, nat_tests) in
    ap (separator_at w k) more

-- a piece's text, from its separator
pub piece_is : (w k : ℕ) (h : ℤ) (hs : List ℤ) → piece_text h (first (separator_behind w k hs)) ≡ piece w k h hs
unfolding separator_behind
piece_is w k h [] = sym (append-nil (decimal h))
piece_is w k h (g ∷ gs) = refl

pub front-some : (w k : ℕ) (hs : List ℤ) → 0 < length hs → 0 < length (front w k 0 hs)
front-some w k [] l = absurd (omega arith)
front-some w k (h ∷ hs) l = simp length-append (omega (arith, decimal-some h))

-- what is unread is the rest of the first piece and what follows it
pub unread-front : (w k n : ℕ) (h : ℤ) (hs : List ℤ) → unread w k n (h ∷ hs) ≡ drop n (piece w k h hs) ++ unread w (k + 1) 0 hs
unfolding unread
unread-front w k n h hs = ap (λ t. drop n (piece w k h hs) ++ t) (sym (unread-none w (k + 1) hs))

pub unread_end : (w k n : ℕ) (hs : List ℤ) → length hs ≡ 0 → unread w k n hs ≡ []
unfolding unread
unread_end w k n [] e = refl
unread_end w k n (h ∷ hs) e = absurd (omega arith)

module _ (w k n : ℕ) (hs : List ℤ) (h : ℤ) (others : List ℤ) (last : Bool) (e : hs ≡ h ∷ others) (s : last ≡ (length others == 0)) where
  pub first_piece : drop n (piece_text h (separator_at w k last)) ≡ front w k n hs
  first_piece = rw (separator-first w k others last s, e) (ap (drop n) (piece_is w k h others))

  pub unread-first_piece : unread w k n hs ≡ drop n (piece_text h (separator_at w k last)) ++ unread w (k + 1) 0 others
  unread-first_piece = rw (first_piece, e) (unread-front w k n h others)

  pub first_piece-unread : (0 < length hs → 0 < length (front w k n hs)) → n < length (piece_text h (separator_at w k last))
  first_piece-unread some =
      let l : 0 < length (drop n (piece_text h (separator_at w k last))) = rw first_piece (some (rw e (omega arith))) in
      omega (arith, length-drop n (piece_text h (separator_at w k last)), l)

-- at the start the whole text is unread, or none of it where the heights are too many
pub start_whole : (w most : ℕ) (hs : List ℤ) → length hs ≤ most → unread w 0 0 hs ≡ cond (leb (length hs) most) (tile_text w hs) []
start_whole w most hs h = unread-none w 0 hs ∙ tile_text_is w hs ∙ sym (cond-true _ _ _ (le-leb _ _ h))

pub start_none : (w most : ℕ) (hs : List ℤ) → most < length hs → unread w 0 0 [] ≡ cond (leb (length hs) most) (tile_text w hs) []
start_none w most hs h = unread_end w 0 0 [] refl ∙ sym (cond-false _ _ _ (lt-leb _ _ h))

pub piece_short : (h : ℤ) (s : Option ℕ) → SFits w16 h → length (piece_text h s) ≤ 7
piece_short h None f = search (rules, length_signed_le 5)
piece_short h (Some c) f =
    let l : length (decimal h) ≤ 6 = search (rules, length_signed_le 5) in
    simp length-append (omega arith)

-- a character of a piece: of its decimal, or else its separator
pub item-piece : (h : ℤ) (s : Option ℕ) (n j : ℕ) → j < length (drop n (piece_text h s)) → option_or (cond (ltb (n + j) (length (decimal h))) (Some (get_or (decimal h) (n + j) 0)) None) s ≡ item (drop n (piece_text h s)) j
item-piece h None n j l = grind (arith, nat_tests, common_steps, length-drop, get_or-drop)
item-piece h (Some c) n j l = grind (arith, nat_tests, common_steps, length-drop, length-append, get_or-drop, get_or_append_left, get_or_push)

-- past the next character, within the piece
pub rest-front : (w k n : ℕ) (hs : List ℤ) → 0 < length (front w k n hs) → unread w k (n + 1) hs ≡ rest (unread w k n hs)
unfolding unread
rest-front w k n [] l = refl
rest-front w k n (h ∷ hs) l =
    let inside : n < length (piece w k h hs) = omega (arith, length-drop n (piece w k h hs)) in
    sym (ap (λ t. rest (t ++ text_from w (k + 1) hs)) (drop_more (piece w k h hs) n 0 inside))

-- the row that is unread: it ends with the piece, or goes on past it
plain_piece : (h : ℤ) (s : Option ℕ) → (s ≡ Some 10 → ⊥) → row_length (piece_text h s) ≡ length (piece_text h s)
plain_piece h None n = decimal-row h
plain_piece h (Some c) n =
    let other : c ≡ 10 → ⊥ = λ e. n (ap Some e) in
    let behind : row_length (c ∷ []) ≡ 1 = grind (arith, nat_tests) in
    row-append (decimal h) (c ∷ []) (decimal-row h) ∙ simp length-append (omega arith)

pub row-past : (h : ℤ) (s : Option ℕ) (n : ℕ) (ys zs : List ℕ) → (s ≡ Some 10 → ⊥) → zs ≡ drop n (piece_text h s) ++ ys → row_length zs ≡ length (drop n (piece_text h s)) + row_length ys
row-past h s n ys zs other e = ap row_length e ∙ row-append (drop n (piece_text h s)) ys (plain-drop n (piece_text h s) (plain_piece h s other))

pub row-ends : (h : ℤ) (s : Option ℕ) (n : ℕ) (ys zs : List ℕ) → s ≡ Some 10 → n < length (piece_text h s) → zs ≡ drop n (piece_text h s) ++ ys → row_length zs ≡ length (drop n (piece_text h s)) - 1
row-ends h None n ys zs newline l e = absurd (search rules)
row-ends h (Some c) n ys zs newline l e =
    let ten : c ≡ 10 = search rules in
    let within : n ≤ length (decimal h) = omega (arith, length-append (decimal h) (c ∷ [])) in
    let parts : zs ≡ drop n (decimal h) ++ (c ∷ ys) = e ∙ ap (λ t. t ++ ys) (drop-append-le n (decimal h) (c ∷ []) within) ∙ append_assoc (drop n (decimal h)) (c ∷ []) ys in
    let none : row_length (c ∷ ys) ≡ 0 = grind (arith, nat_tests) in
    ap row_length parts ∙ row-append (drop n (decimal h)) (c ∷ ys) (plain-drop n (decimal h) (decimal-row h)) ∙ simp (length-drop, length-append) (omega (arith, none))
