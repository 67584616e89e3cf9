-- Where the parts of an array begin and end.
use Rattle.std.proofs.Common.{◌≡◌, ℕ, ◌+◌, ◌*◌, ◌/◌, ◌<◌, ◌≤◌, arith}
use Rattle.std.proofs.Math.Nat.{div-mul-le_self, mul-div_cancel_left, mul-le-mul_right}
use Rattle.std.proofs.lemmas.Nat.{le-div}
use Rattle.lang_base.specs.Parts.{part_start, part_of, part_end}

-- a later part begins no earlier
pub part_start-≤ : (len parts j k : ℕ) → j ≤ k → 0 < parts → part_start len parts j ≤ part_start len parts k
part_start-≤ len parts j k h p =
    let below : j * len / parts * parts ≤ j * len = div-mul-le_self (j * len) parts in
    let more : j * len ≤ k * len = mul-le-mul_right len h in
    le-div (j * len / parts) (k * len) parts p (omega arith)

pub part_end-is : (len parts k : ℕ) → 0 < parts → part_end (part_of len parts k) ≡ part_start len parts (k + 1)
part_end-is len parts k p = let up : part_start len parts k ≤ part_start len parts (k + 1) = part_start-≤ len parts k (k + 1) (omega arith) p in omega arith

pub ends_at_length : (len parts k : ℕ) → k + 1 ≡ parts → part_end (part_of len parts k) ≡ len
ends_at_length len parts k e =
    let all : (k + 1) * len / (k + 1) ≡ len = mul-div_cancel_left len (omega arith) in
    rw (← e) (let is : part_end (part_of len (k + 1) k) ≡ part_start len (k + 1) (k + 1) = part_end-is len (k + 1) k (omega arith) in cc)

pub no_common_place : (len parts j k : ℕ) → j < k → 0 < parts → part_end (part_of len parts j) ≤ (part_of len parts k).from
no_common_place len parts j k h p =
    let is : part_end (part_of len parts j) ≡ part_start len parts (j + 1) = part_end-is len parts j p in
    let up : part_start len parts (j + 1) ≤ part_start len parts k = part_start-≤ len parts (j + 1) k (omega arith) p in
    omega arith
