-- `Work::end` meets its contract: the chain, in words of lists.
use Rattle.std.proofs.Common.{rules, tests, sym, ◌∙◌}
use Rattle.std.proofs.lemmas.Iterator.{YieldsList-from_range, YieldsList-from_map}
use Rattle.std.proofs.lemmas.Iterator.Adapters.{option_map_id}
use Rattle.std.proofs.lemmas.Iterator.Consumers.{YieldsList-at, YieldsList-from_filter, max_from_yields_List}
use lib.Dec.{ltb}
use lib.ListN.{get_or}
use Rattle.edf.specs.Parts.{load_of, size_of}
use Rattle.edf.proofs.Looking.{greatest_picked}
use Rattle.edf.proofs.work.Work.end.Goals as goal

pub returns : goal.returns
returns c =
    let w = c.args.self.now in
    let chain =
    sym (option_map_id _)
    ∙ max_from_yields_List c.map.result _ c.max.ensures.ran
    (YieldsList-from_map _ (λ i. get_or c.args.finish.now i 0)
    (YieldsList-at c.map.ensures.source
    (YieldsList-from_filter _ (λ i. ltb 0 ((load_of w).owed i))
    (YieldsList-at c.filter.ensures.source (YieldsList-from_range 0 (size_of w) (size_of w) (search rules) (search rules)))
    c.filter.ensures.closure (λ x r q k. search (rules, tests))))
    c.map.ensures.closure (λ x r q k. search (rules, tests)))
    in
    c.unwrap_or.ensures ∙ rw chain (greatest_picked _ _ _)
