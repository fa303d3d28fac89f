-- How much is listed of a job. Assumes nothing.
use Rattle.std.specs.Prelude.{ℕ}

-- how many gates an agenda has room for
abbrev pub agenda_places : ℕ
agenda_places = 256

-- how many operations a listing has room for
abbrev pub listing_places : ℕ
listing_places = 4000
