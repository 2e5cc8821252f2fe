-- What holds of every public function of the libraries, the engine's door included: its contract allows one outcome only;
-- and of the entries that write, that a refused call changes nothing and an accepted one writes all.
--
--   RefusedKeeps  == after a refusal every lent list and the totals hold what they held
--   WritesAll     == after acceptance every place of the result list is written, whatever it held
--   OneAssign, OneSimulate, OneRun, OneCheck, OneTable, OneCritical, OneRoom, OneDoorAssign, OneDoorCheck, OneDoorCritical,
--   OneDoorRoom   == two outcomes that the contract of an entry allows are equal
--   OneJudge, OneLengths, OneTell, OneRecord, OneAfterLine, OneWrite == the same of the functions that the entries share
use Rattle.std.specs.Prelude.{ℕ, Bool, List, Option, ◌≢◌, ◌≡◌, length}
use Rattle.subjobs.specs.Judging.{Judgement}
use Rattle.subjobs.specs.declared.Reason.{Reason}
use Rattle.subjobs.specs.declared.Told.{Told}
use Rattle.subjobs.specs.Sets.{Subjobs}
use Rattle.subjobs.specs.Reasons.{tell}
use Rattle.subjobs.specs.Judging.{one_length, values, Judges}
use Rattle.olda.specs.Answers as olda
use Rattle.stretches.specs.Answers as rooms
use Rattle.stretches.specs.Answers.{Room, room}
use Rattle.edf.specs.declared.Simulated.{Simulated}
use Rattle.edf.specs.declared.Totals.{Totals}
use Rattle.edf.specs.Answers as edf
use Rattle.checker.specs.Answers as checker
use Rattle.text.specs.Reading.{after_line, Recorded}
use Rattle.text.specs.Writing.{Wrote}
use Rattle.table.specs.Answers as table
use Rattle.graph.specs.Graphs.{Graph}
use Rattle.graph.specs.Answers as graph
use Rattle.charoktan.specs.Answers as door
use Rattle.charoktan.specs.Rooms as doorRooms
use Rattle.charoktan.specs.Rooms.{RoomBytes}
use Rattle.promises.specs.Words.{accepted}

-- A refused call changes no list and no total: whenever the number is not 0.
abbrev pub RefusedKeeps : Type 0
RefusedKeeps =
    ((s : Subjobs) (out : List ℕ) → (accepted (olda.values (olda.answer s (length out))) → ⊥) → olda.results s out ≡ out)
    × ((s : Subjobs) (ds asks fs : List ℕ) (t : Totals)
    → (accepted (edf.values (edf.answer s ds asks (length fs) t)) → ⊥)
    → (edf.finishes s ds asks fs t ≡ fs) × (edf.totals s ds asks (length fs) t ≡ t))
    × ((g : Graph) (out : List ℕ) → (accepted (values (graph.answer g (length out))) → ⊥) → graph.results g out ≡ out)
    × ((R : Room)
    → (accepted (values (rooms.judgement R)) → ⊥)
    → (rooms.deadlines_after R ≡ R.deadlines) × (rooms.numbers_after R ≡ R.numbers) × (rooms.places_after R ≡ R.places))
    × ((bs out : List ℕ) → door.assigned bs (length out) ≢ 0 → door.assigned_bytes bs out ≡ out)
    × ((es bs out : List ℕ) → door.found es bs (length out) ≢ 0 → door.found_bytes es bs out ≡ out)
    × ((B : RoomBytes)
    → doorRooms.roomed B ≢ 0
    → (doorRooms.deadline_bytes B ≡ B.deadlines) × (doorRooms.number_bytes B ≡ B.numbers) × (doorRooms.place_bytes B ≡ B.places))

-- After acceptance the whole result list is written: it has its length, and nothing of what it held is left. Of a room that
-- is read, numbers and places are; its deadlines are those of its accepted sets, each in its own stretch (Rooms).
abbrev pub WritesAll : Type 0
WritesAll =
    ((s : Subjobs) (out old : List ℕ)
    → accepted (olda.values (olda.answer s (length out)))
    → length old ≡ length out
    → (olda.results s out ≡ olda.results s old) × (length (olda.results s out) ≡ length out))
    × ((s : Subjobs) (ds asks fs old : List ℕ) (t : Totals)
    → accepted (edf.values (edf.answer s ds asks (length fs) t))
    → length old ≡ length fs
    → (edf.finishes s ds asks fs t ≡ edf.finishes s ds asks old t) × (length (edf.finishes s ds asks fs t) ≡ length fs))
    × ((g : Graph) (out old : List ℕ)
    → accepted (values (graph.answer g (length out)))
    → length old ≡ length out
    → (graph.results g out ≡ graph.results g old) × (length (graph.results g out) ≡ length out))
    × ((s : Subjobs) (ns out ks ps ks' ps' : List ℕ)
    → accepted (values (rooms.judgement (room s ns out ks ps)))
    → length ks' ≡ length ks
    → length ps' ≡ length ps
    → (rooms.numbers_after (room s ns out ks ps) ≡ rooms.numbers_after (room s ns out ks' ps'))
    × (rooms.places_after (room s ns out ks ps) ≡ rooms.places_after (room s ns out ks' ps'))
    × (length (rooms.deadlines_after (room s ns out ks ps)) ≡ length out)
    × (length (rooms.numbers_after (room s ns out ks ps)) ≡ length ks)
    × (length (rooms.places_after (room s ns out ks ps)) ≡ length ps))
    × ((bs out old : List ℕ)
    → door.assigned bs (length out) ≡ 0
    → length old ≡ length out
    → (door.assigned_bytes bs out ≡ door.assigned_bytes bs old) × (length (door.assigned_bytes bs out) ≡ length out))
    × ((es bs out old : List ℕ)
    → door.found es bs (length out) ≡ 0
    → length old ≡ length out
    → (door.found_bytes es bs out ≡ door.found_bytes es bs old) × (length (door.found_bytes es bs out) ≡ length out))

-- Two outcomes of a call that its contract allows are equal: the answer, each lent list and the lent record. The relations
-- are the contracts' own words.
abbrev pub OneAssign : Type 0
OneAssign =
    (s : Subjobs) (out new other : List ℕ) (r q : olda.Answer)
    → olda.Assigns s out r new
    → olda.Assigns s out q other
    → (r ≡ q) × (new ≡ other)

abbrev pub OneSimulate : Type 0
OneSimulate =
    (s : Subjobs) (ds asks fs new other : List ℕ) (t : Totals) (r q : Simulated)
    → edf.Simulates s ds asks fs t r new
    → edf.Simulates s ds asks fs t q other
    → (r ≡ q) × (new ≡ other)

abbrev pub OneRun : Type 0
OneRun =
    (s : Subjobs) (ds asks fs new other : List ℕ) (t u v : Totals) (r q : edf.Answer)
    → edf.Runs s ds asks fs t r u new
    → edf.Runs s ds asks fs t q v other
    → (r ≡ q) × (u ≡ v) × (new ≡ other)

abbrev pub OneCheck : Type 0
OneCheck = (s : Subjobs) (ds : List ℕ) (r q : checker.Answer) → checker.Checks s ds r → checker.Checks s ds q → r ≡ q

abbrev pub OneTable : Type 0
OneTable =
    (text out new other : List ℕ) (r q : ℕ)
    → table.Tables text out r new
    → table.Tables text out q other
    → (r ≡ q) × (new ≡ other)

abbrev pub OneCritical : Type 0
OneCritical =
    (g : Graph) (out new other : List ℕ) (r q : Judgement)
    → graph.Finds g out r new
    → graph.Finds g out q other
    → (r ≡ q) × (new ≡ other)

abbrev pub OneRoom : Type 0
OneRoom =
    (R : Room) (out ks ps out' ks' ps' : List ℕ) (r q : Judgement)
    → rooms.Assigns R r out ks ps
    → rooms.Assigns R q out' ks' ps'
    → (r ≡ q) × (out ≡ out') × (ks ≡ ks') × (ps ≡ ps')

abbrev pub OneDoorAssign : Type 0
OneDoorAssign =
    (bs out new other : List ℕ) (r q : ℕ)
    → door.AssignsBytes bs out r new
    → door.AssignsBytes bs out q other
    → (r ≡ q) × (new ≡ other)

abbrev pub OneDoorCheck : Type 0
OneDoorCheck = (bs ds : List ℕ) (r q : ℕ) → door.ChecksBytes bs ds r → door.ChecksBytes bs ds q → r ≡ q

abbrev pub OneDoorCritical : Type 0
OneDoorCritical =
    (es bs out new other : List ℕ) (r q : ℕ)
    → door.FindsBytes es bs out r new
    → door.FindsBytes es bs out q other
    → (r ≡ q) × (new ≡ other)

abbrev pub OneDoorRoom : Type 0
OneDoorRoom =
    (B : RoomBytes) (out ks ps out' ks' ps' : List ℕ) (r q : ℕ)
    → doorRooms.RoomsBytes B r out ks ps
    → doorRooms.RoomsBytes B q out' ks' ps'
    → (r ≡ q) × (out ≡ out') × (ks ≡ ks') × (ps ≡ ps')

abbrev pub OneJudge : Type 0
OneJudge = (s : Subjobs) (others : Bool) (r q : Judgement) → Judges s others r → Judges s others q → r ≡ q

abbrev pub OneLengths : Type 0
OneLengths = (s : Subjobs) (others r q : Bool) → r ≡ one_length s others → q ≡ one_length s others → r ≡ q

abbrev pub OneTell : Type 0
OneTell = (reason : Reason) (r q : Told) → r ≡ tell reason → q ≡ tell reason → r ≡ q

abbrev pub OneRecord : Type 0
OneRecord =
    (text : List ℕ) (at : ℕ) (out new other : List ℕ) (r q : Option ℕ)
    → Recorded text at out r new
    → Recorded text at out q other
    → (r ≡ q) × (new ≡ other)

abbrev pub OneAfterLine : Type 0
OneAfterLine = (w text : List ℕ) (r q : Option ℕ) → r ≡ after_line w text → q ≡ after_line w text → r ≡ q

abbrev pub OneWrite : Type 0
OneWrite =
    (out : List ℕ) (at : ℕ) (word new other : List ℕ) (r q : ℕ)
    → Wrote out at word new r
    → Wrote out at word other q
    → (r ≡ q) × (new ≡ other)
