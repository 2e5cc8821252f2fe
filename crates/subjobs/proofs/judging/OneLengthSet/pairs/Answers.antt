-- `OneLengthSet::pairs` meets its contract: the chain, in words of lists.
use Rattle.std.proofs.Common.{rules, tests, refl, sym, ◌∙◌, ◌-◌}
use Rattle.std.proofs.lemmas.Iterator.{YieldsList-from_range}
use Rattle.std.proofs.lemmas.Iterator.Adapters.{option_map_id}
use Rattle.std.proofs.lemmas.Iterator.Search.{find_from_yields_List}
use Rattle.lists.specs.Search.{some_from}
use Rattle.subjobs.specs.declared.Reason.TheVariants.{Pair}
use Rattle.subjobs.specs.Sets.{subjobs_of, size, job, subtask}
use Rattle.subjobs.specs.Judging.{seen_earlier, pair_at}
use Rattle.subjobs.proofs.Searching.{refusal_found, refusal_second, matched}
use Rattle.subjobs.proofs.judging.OneLengthSet.pairs.Goals as goal

pub returns : goal.returns
unfolding some_from
returns c =
    let s = subjobs_of c.args.self.now.set in
    let seen = seen_earlier (job s) (subtask s) in
    let J = pair_at (job s) (subtask s) in
    let found =
    sym (option_map_id _)
    ∙ find_from_yields_List seen c.find.new.self _ c.find.result c.find.ensures.ran
    (YieldsList-from_range 1 (size s) (size s - 1) (search rules) refl) (λ x r q k. search (rules, tests))
    in
    matched Pair c.find.result c.map_or.result (search rules)
    ∙ rw found (sym (refusal_found J seen Pair (λ k. refl) (size s - 1) 1) ∙ refusal_second J (size s) refl)
