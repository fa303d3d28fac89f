-- The links along a path, and how long a CNOT along it lasts. Assumes nothing.
use Rattle.std.specs.Prelude.{ℕ, ◌+◌, ◌-◌, ◌*◌, cond, List, [], ◌∷◌, map, length, take, drop, sum, nat_lt, slice_index}
use Rattle.std.specs.Borrow.{Bor}
use Rattle.calibration.specs.declared.table.CalibrationTable.{CalibrationTable}
use Rattle.calibration.specs.Calibrations.{link_time}
use Rattle.calibration.specs.Tables.{table_grid, table_values}
use Rattle.cnot.specs.declared.link.Link.{Link}

-- all elements but the last
abbrev pub front : {X : Type 0} → List X → List X
front xs = take (length xs - 1) xs

-- the last element alone
abbrev pub final : {X : Type 0} → List X → List X
final xs = drop (length xs - 1) xs

-- the time of a link by the cells it joins
abbrev pub times_of : CalibrationTable → ℕ → ℕ → ℕ
times_of t a b = link_time (table_grid t) (table_values t) a b

-- the link from a to b
abbrev pub link : (ℕ → ℕ → ℕ) → ℕ → ℕ → Link
link time a b = record { from = a; to = b; time = time a b }

-- the link between two cells
abbrev pub link_of : (ℕ → ℕ → ℕ) → List ℕ → Link
link_of time ends = link time (slice_index ends 0) (slice_index ends 1)

-- the links between the cells that are lent two and two
unfoldable pub links_of : (ℕ → ℕ → ℕ) → List (Bor (List ℕ)) → List Link
links_of time es = map (λ e. link_of time e.now) es

-- the link from its other end
abbrev pub reversed : Link → Link
reversed l = record { from = l.to; to = l.from; time = l.time }

-- the links from a on
abbrev pub links_from : (ℕ → ℕ → ℕ) → ℕ → List ℕ → List Link
links_from time a [] = []
links_from time a (b ∷ cs) = link time a b ∷ links_from time b cs

-- the links along a path
abbrev pub links : (ℕ → ℕ → ℕ) → List ℕ → List Link
links time [] = []
links time (a ∷ cs) = links_from time a cs

-- how many operations a CNOT along so many cells has
abbrev pub operations_along : ℕ → ℕ
operations_along n = cond (nat_lt n 2) 0 (6 * (n - 2) + 1)

-- with link times d1 .. dm: 6 (d1 + .. + d(m-1)) + dm
abbrev pub route_time : List ℕ → ℕ
route_time ds = 6 * sum (front ds) + sum (final ds)

-- how long a CNOT over links lasts
abbrev pub time_over : List Link → ℕ
time_over ls = route_time (map (λ l. l.time) ls)
