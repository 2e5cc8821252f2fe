-- What the parts of the program say. No public contract and no promise speaks of these words.
--
--   meets s i d == place i meets (6) with the deadline d
use Rattle.std.specs.Prelude.{ℕ, ◌+◌, Bool, ◌&&◌, leb}
use Rattle.subjobs.specs.Sets.{Subjobs, release, execution, deadline, withheld}

abbrev pub meets : Subjobs → (place d : ℕ) → Bool
meets s i d = leb (release s i + execution s i) d && leb (d + withheld s i) (deadline s i)
