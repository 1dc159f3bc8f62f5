-- Sizes of blocks, matrices and buffers within the limits of question 9. Assumes nothing.
use Prim.Native.Nat.{ℕ, ◌*◌, ◌≤◌}
use native.Mathlib.Nat.{mul-le-mul}

pub square_le : {a b : ℕ} → a ≤ 64 → b ≤ 64 → a * b ≤ 4096
square_le h g = mul-le-mul h g

pub flags-le : {points bands : ℕ} → points ≤ 1024 → bands ≤ 64 → points * (bands * bands) ≤ 4194304
flags-le h g = mul-le-mul h (square_le g g)

pub weights-le : {channels points bands : ℕ} → channels ≤ 3 → points ≤ 1024 → bands ≤ 64 → channels * (points * (bands * bands)) ≤ 12582912
weights-le k h g = mul-le-mul k (flags-le h g)
