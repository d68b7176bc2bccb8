-- A thing by a test, and a number where a comparison holds.
use Rattle.std.specs.Prelude.{Bool, true, false, ℕ, suc, ◌+◌, leb, eqb}

-- the first where the test holds, else the second
abbrev pub pick : {A : Type 0} → Bool → A → A → A
pick true a b = a
pick false a b = b

-- w where a ≤ b, else 0
unfoldable pub within : ℕ → ℕ → ℕ → ℕ
within a b w = pick (leb a b) w 0

-- w where a is b, else 0
unfoldable pub same : ℕ → ℕ → ℕ → ℕ
same a b w = pick (eqb a b) w 0

-- w in the n columns from x0 on, else 0
unfoldable pub strip : ℕ → ℕ → ℕ → ℕ → ℕ
strip x0 n x w = within x0 x (within (suc x) (x0 + n) w)
