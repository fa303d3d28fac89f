-- How a line holds its bytes, with the lemma behind its model. Assumes nothing.
use Rattle.std.specs.Prelude.{◌≡◌, ℕ, ◌-◌, ◌≤◌, List, ◌++◌, length, take, replicate}
use Rattle.std.proofs.Common.{arith}
use Rattle.std.proofs.lemmas.List.{length-take-le}
use Rattle.lines.specs.declared.line.Line.TheInside.{Inside}

-- the first `len` of the places
abbrev pub bytes_held : Inside → List ℕ
bytes_held l = take l.len l.places

-- the bytes, and 0 in the places behind them
abbrev pub padded : List ℕ → List ℕ
padded bs = bs ++ replicate (81 - length bs) 0

-- the places that hold these bytes
abbrev pub held_as : List ℕ → Inside
held_as bs = record { places = padded bs; len = length bs }

-- there are at most 81 bytes, and 0 behind them
pub record Padded (l : Inside) : Type 0 where
  pub few : l.len ≤ 81
  pub long : length l.places ≡ 81
  pub behind : padded (take l.len l.places) ≡ l.places

pub held_inverse : (l : Inside) → Padded l → held_as (bytes_held l) ≡ l
held_inverse l h = λ i. record { places = h.behind i; len = length-take-le l.len l.places (let a = h.few in let b = h.long in omega arith) i }
