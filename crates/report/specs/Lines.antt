-- The lines that a program answers with.
use Rattle.std.specs.Prelude.{ℕ, List, [], ◌∷◌, ◌++◌, codes, decimal}
use Rattle.xi.specs.declared.rule.Rule.{Rule}
use Rattle.xi.specs.Numbers.{rule_number}
use Rattle.report.specs.declared.reply.Reply.{Reply}
use Rattle.report.specs.declared.reply.Reply.TheVariants.{Refused, Checked}

-- numbers with a space before each, and then r
abbrev pub spaced : List ℕ → List ℕ → List ℕ
spaced [] r = r
spaced (n ∷ ns) r = codes " " ++ (decimal n ++ spaced ns r)

abbrev pub refused_text : Rule → ℕ → List ℕ
refused_text k p = codes "= refused" ++ spaced (rule_number k ∷ p ∷ []) (codes "\n")

-- the line for a sheet with so many names, constants, entries, nodes, globals and functions
abbrev pub counted_text : List ℕ → List ℕ
counted_text ns = codes "= checked" ++ spaced ns (codes "\n")

abbrev pub line_of : Reply → List ℕ
line_of (Refused k p) = refused_text k p
line_of (Checked n c e d g f) = counted_text (n ∷ c ∷ e ∷ d ∷ g ∷ f ∷ [])
