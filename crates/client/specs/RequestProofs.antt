-- What a client's requests keep to: clients and requests are numbered from 1.
use Rattle.std.proofs.Common.{ℕ, zero, suc, ◌+◌, ◌≤◌, arith}

-- the number of a client; there is no client 0
abbrev pub client_number : ℕ → ℕ
client_number zero = 1
client_number (suc k) = suc k

pub client_from_one : (c : ℕ) → 1 ≤ client_number c
client_from_one zero = omega arith
client_from_one (suc k) = omega arith

pub next_from_one : (n : ℕ) → 1 ≤ n + 1
next_from_one n = omega arith
