-- What a stack holds.
use Rattle.std.specs.Prelude.{ℕ, zero, suc, ◌-◌, ◌^◌, ◌<◌, ◌≤◌, List, [], ◌∷◌, reverse, length, take, slice_index}
use Rattle.memory.specs.declared.stack.Stack.{Stack}

-- the first n words, the last of them first
abbrev pub newest_first : List ℕ → ℕ → List ℕ
newest_first ws zero = []
newest_first ws (suc n) = slice_index ws n ∷ newest_first ws n

-- the words on a stack, newest first
abbrev pub items : Stack → List ℕ
items s = reverse (take s.len s.words.now)

-- how many words are lent
abbrev pub word_count : Stack → ℕ
word_count s = length s.words.now

-- no more words are in use than are lent
pub record Sized (s : Stack) : Type 0 where
  pub within : s.len ≤ word_count s
  pub fits : word_count s < 2 ^ 64

-- where item i from the bottom stands
abbrev pub from_bottom : List ℕ → ℕ → ℕ
from_bottom l i = length l - suc i
