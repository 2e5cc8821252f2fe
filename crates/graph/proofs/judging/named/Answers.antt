-- `judging::named` meets its contract: the first stray arc is refused.
use Rattle.std.proofs.Common.{sym}
use Rattle.graph.specs.Graphs.{graph_of}
use Rattle.graph.proofs.Judged.{stray_refused, stray_passed}
use Rattle.graph.proofs.judging.named.Goals as goal

pub returns-in-Some : goal.returns-in-Some
returns-in-Some c = sym (stray_refused (graph_of c.args.graph.now) c.requires.1 c.in-Some.arc c.in-Some.ensures)

pub returns-in-None : goal.returns-in-None
returns-in-None c = sym (stray_passed (graph_of c.args.graph.now) c.requires.1 c.in-None.ensures)
