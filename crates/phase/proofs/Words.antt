-- A bit of a word is flipped. Assumes nothing.
use Rattle.std.proofs.Common.{◌≡◌, ℕ, ◌*◌, ◌%◌, ◌^◌, ◌<◌, bit_xor, ap}
use Rattle.std.proofs.lemmas.Nat.{one_shl}
use Rattle.matrices.specs.Indices.{flipped}

pub flip_word : (n w : ℕ) → w < 64 → bit_xor n (1 * 2 ^ w % 2 ^ 64) ≡ flipped w n
flip_word n w h = ap (bit_xor n) (one_shl w 64 h)
