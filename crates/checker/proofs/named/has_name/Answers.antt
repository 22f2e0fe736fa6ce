use Rattle.std.proofs.Common.{◌==◌, ◌∙◌, rules, tests}
use Rattle.std.proofs.lemmas.Iterator.{YieldsList-from_slice}
use Rattle.std.proofs.lemmas.Iterator.Search.{any_from_yields_List}
use Rattle.checker.proofs.Searches.{has_name-any}
use Rattle.checker.proofs.named.has_name.Goals as goal

pub returns : goal.returns
returns g c =
    any_from_yields_List (λ item. g.T.Named.name item == c.args.name) _ _ c.any.result c.any.ensures.ran (YieldsList-from_slice c.args.items.now c.iter.ensures.rest) (λ x b q k. search (rules, tests))
    ∙ has_name-any g.T.Named.name c.args.name c.args.items.now
