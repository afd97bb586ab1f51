use Rattle.std.proofs.Common.{◌≡◌, [], rules, tests}
use Rattle.std.specs.Prelude.{nat_eq}
use Rattle.std.proofs.lemmas.Iterator.{YieldsList-from_slice, YieldsList-from_map}
use Rattle.std.proofs.lemmas.Iterator.Adapters.{fact_from_collect}
use Rattle.indexmap.specs.IndexMap.{IsFromIterResult, insert_all}
use Rattle.mark_book.specs.Listed.{none_past}
use Rattle.mark_book.proofs.listings.unlisted_nodes.Goals as goal

pub returns : goal.returns
returns c =
    fact_from_collect (λ xs m. (m.entries ≡ insert_all nat_eq [] xs) × IsFromIterResult nat_eq xs m) c.collect.result c.collect.ensures.ran
    (YieldsList-from_map _ none_past (YieldsList-from_slice c.args.nodes.now (search rules)) c.map.ensures.closure (λ x r q k. search (rules, tests)))
