-- `Work::next_release` meets its contract: the least number of the list that lies after moment t.
use Rattle.std.proofs.Common.{◌≡◌, rules, tests, sym, ◌∙◌}
use Rattle.std.proofs.lemmas.Iterator.{YieldsList-from_slice}
use Rattle.std.proofs.lemmas.Iterator.Adapters.{option_map_id}
use Rattle.std.proofs.lemmas.Iterator.Consumers.{YieldsList-at, YieldsList-from_copied, YieldsList-from_filter, min_from_yields_List}
use lib.Dec.{ltb}
use Rattle.ticks.specs.Events.{next_release}
use Rattle.edf.specs.Parts.{load_of, released}
use Rattle.edf.proofs.Looking.{least_released, released_later}
use Rattle.edf.proofs.work.Work.next_release.Goals as goal

-- The chain, in words of lists.
least_after : (c : goal.After-min) → c.min.result ≡ released (next_release (load_of c.args.self.now).release (load_of c.args.self.now).on c.args.t)
least_after c =
    let w = c.args.self.now in
    sym (option_map_id _)
    ∙ min_from_yields_List c.filter.result _ c.min.ensures.ran
    (YieldsList-from_filter _ (ltb c.args.t)
    (YieldsList-at c.filter.ensures.source
    (YieldsList-from_copied (YieldsList-at c.copied.ensures.source (YieldsList-from_slice w.fit.set.releases.now (cc)))))
    c.filter.ensures.closure (λ x r q k. search (rules, tests)))
    ∙ least_released w.fit.set.releases.now _ w.fit.fit.lengths.releases c.args.t

pub returns : goal.returns
returns c = record { next = least_after c; later = rw (least_after c) (released_later _ _ _) }
