-- Words and parts of a file, byte by byte.
use Prim.Native.Nat.{ℕ}
use mathlib.Core.Path.{◌≡◌, sym}
use lib.ListN.{length, replicate, length-replicate}

pub zeros-counted : (n : ℕ) → n ≡ length {A = ℕ} (replicate n 0)
zeros-counted n = sym (length-replicate n 0)
