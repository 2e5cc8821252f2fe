-- The places are the measure of `put_figures`.
use Rattle.text.proofs.writing.+put_figures.Given as goal

abbrev pub decreases-put_figures : goal.decreases-put_figures
decreases-put_figures l = l.places
