-- Places of the parts of an array: they lie in the whole, and those of different parts differ.
use Rattle.std.proofs.Common.{◌≡◌, ◌≢◌, ◌<◌, ◌≤◌, ⊎_elim, ℕ, ℤ, FitsSigned, ◌+◌, ◌-◌, ◌*◌, ◌/◌, ◌^◌, ◌%◌, pos, negsuc, true, false, not, cond, refl, sym, ap, ◌∙◌, subst, arith}
use Rattle.std.specs.Prelude.{int_lt, ◌+ℤ◌}
use Rattle.std.specs.Int.{w32, int_wrapping_add, cast_unsigned, cast_signed}
use Rattle.std.proofs.Math.Nat.{mul-div_cancel_left}
use Rattle.std.proofs.lemmas.Bool.{cases_Bool, cases_order, and_parts, false≢true, ltb-true, lt-ltb, cond-true, cond-false, false_from_ne_true}
use Rattle.std.proofs.lemmas.Int.{of_z-to_z}
use Rattle.lang_base.proofs.Cutting.{part_start-≤}
use Rattle.lang_meaning.specs.Counts.{part_begin, is_part}
use Rattle.runs_theory.specs.Objects.{Value}
use Rattle.runs_sound.specs.Settings.{Places}
use Rattle.runs_sound.specs.Accesses.{Access, Through}
use Rattle.runs_sound.proofs.numbers.Ints.{zero_fits, add_fits}
use Rattle.runs_sound.proofs.numbers.Numbers.{number_one}

-- the part of a number, of so many, of an array of a length after its first place
abbrev pub taken : Value → ℤ → ℤ → ℤ → ℤ → Places
taken v first len parts at = record {
  array = v;
  first = cond (is_part len parts at) (int_wrapping_add w32 first (pos (part_begin len parts at))) (pos 0);
  len = cond (is_part len parts at) (pos (part_begin len parts (at +ℤ pos 1) - part_begin len parts at)) (pos 0);
}

-- a place in it, counted from the whole's first
record Taken (first len parts at : ℤ) (a : Access) : Type 0 where
  whole : ℕ
  count : ℕ
  number : ℕ
  place : ℕ
  len_is : len ≡ pos whole
  count_is : parts ≡ pos count
  number_is : at ≡ pos number
  there : number < count
  from : number * whole / count ≤ place
  below : place < (number + 1) * whole / count
  index : a.index ≡ int_wrapping_add w32 first (pos place)

no_index : (i : ℤ) → int_lt i (pos 0) ≡ false → int_lt i (pos 0) ≡ true → ⊥
no_index i h k = false≢true (sym h ∙ k)

add_twice : (first : ℤ) (b x : ℕ) → int_wrapping_add w32 (int_wrapping_add w32 first (pos b)) (pos x) ≡ int_wrapping_add w32 first (pos (b + x))
add_twice first b x =
    let c = cast_unsigned w32 first in
    let e = of_z-to_z w32 ((c + b) % 2 ^ 32) (omega arith) in
    ap (λ z. cast_signed w32 ((z + x) % 2 ^ 32)) e ∙ ap (cast_signed w32) (sum c b x)
  where
    sum : (c b x : ℕ) → ((c + b) % 2 ^ 32 + x) % 2 ^ 32 ≡ (c + (b + x)) % 2 ^ 32
    sum c b x = omega arith

taken_at : (first : ℤ) (n m q : ℕ) (a : Access) → q < m → (i : ℤ) → int_lt i (pos 0) ≡ false → int_lt i (pos ((q + 1) * n / m - q * n / m)) ≡ true →
    a.index ≡ int_wrapping_add w32 (int_wrapping_add w32 first (pos (q * n / m))) i → Taken first (pos n) (pos m) (pos q) a
taken_at first n m q a l (negsuc j) f b e = absurd (false≢true (sym f))
taken_at first n m q a l (pos x) f b e =
    let k : x < (q + 1) * n / m - q * n / m = ltb-true x _ b in
    record {
      whole = n;
      count = m;
      number = q;
      place = q * n / m + x;
      len_is = refl;
      count_is = refl;
      number_is = refl;
      there = l;
      from = omega arith;
      below = omega (arith, k);
      index = e ∙ add_twice first (q * n / m) x;
    }

is_part_true : (v : Value) (first len parts at : ℤ) (a : Access) → Through (taken v first len parts at) a → is_part len parts at ≡ true → Taken first len parts at a
is_part_true v first (negsuc n) parts at a h e = absurd (false≢true e)
is_part_true v first (pos n) parts (negsuc q) a h e = absurd (false≢true (and_parts (not (int_lt (pos n) (pos 0))) _ e).1)
is_part_true v first (pos n) (negsuc m) (pos q) a h e = absurd (false≢true (and_parts (not (int_lt (pos q) (pos 0))) _ (and_parts (not (int_lt (pos n) (pos 0))) _ e).1).1)
is_part_true v first (pos n) (pos m) (pos q) a h e =
    let l : int_lt (pos q) (pos m) ≡ true = (and_parts (not (int_lt (pos q) (pos 0))) _ (and_parts (not (int_lt (pos n) (pos 0))) _ e).1).1 in
    taken_at first n m q a (ltb-true q m l) h.index h.from_first
    (ap (int_lt h.index) (sym (cond-true (is_part (pos n) (pos m) (pos q)) (pos ((q + 1) * n / m - q * n / m)) (pos 0) e)) ∙ h.below_last)
    (h.place ∙ ap (λ z. int_wrapping_add w32 z h.index) (cond-true (is_part (pos n) (pos m) (pos q)) (int_wrapping_add w32 first (pos (q * n / m))) (pos 0) e))

through_taken : (v : Value) (first len parts at : ℤ) (a : Access) → Through (taken v first len parts at) a → Taken first len parts at a
through_taken v first len parts at a h = ⊎_elim (λ e. is_part_true v first len parts at a h e)
    (λ e. absurd (no_index h.index h.from_first (ap (int_lt h.index) (sym (cond-false (is_part len parts at) _ (pos 0) e)) ∙ h.below_last))) (cases_Bool (is_part len parts at))

-- the whole ends after its last part
ends_in : (n m q : ℕ) → q < m → (q + 1) * n / m ≤ n
ends_in n m q l =
    let up : (q + 1) * n / m ≤ m * n / m = part_start-≤ n m (q + 1) m (omega (arith, l)) (omega (arith, l)) in
    let all : m * n / m ≡ n = mul-div_cancel_left n (omega (arith, l)) in
    omega (arith, up, all)

not_below : (x : ℕ) → int_lt (pos x) (pos 0) ≡ false
not_below x = false_from_ne_true (int_lt (pos x) (pos 0)) (λ t. (let l = ltb-true x 0 t in omega (arith, l)))

-- its first place is an int
pub first_fits : (v : Value) (first len parts at : ℤ) → FitsSigned w32 (taken v first len parts at).first
first_fits v first len parts at =
    ⊎_elim (λ e. subst (FitsSigned w32) (sym (cond-true (is_part len parts at) _ (pos 0) e)) (add_fits first (pos (part_begin len parts at))))
    (λ e. subst (FitsSigned w32) (sym (cond-false (is_part len parts at) _ (pos 0) e)) zero_fits) (cases_Bool (is_part len parts at))

-- a part is no longer than the whole
pub part_fits : (v : Value) (first len parts at : ℤ) → FitsSigned w32 len → FitsSigned w32 (taken v first len parts at).len
part_fits v first len parts at small = ⊎_elim (λ e. subst (FitsSigned w32) (sym (cond-true (is_part len parts at) _ (pos 0) e)) (part_of len parts at e small))
    (λ e. subst (FitsSigned w32) (sym (cond-false (is_part len parts at) _ (pos 0) e)) zero_fits) (cases_Bool (is_part len parts at))
  where
    part_of : (len parts at : ℤ) → is_part len parts at ≡ true → FitsSigned w32 len → FitsSigned w32 (pos (part_begin len parts (at +ℤ pos 1) - part_begin len parts at))
    part_of (negsuc n) parts at e f = absurd (false≢true e)
    part_of (pos n) parts (negsuc q) e f = absurd (false≢true (and_parts (not (int_lt (pos n) (pos 0))) _ e).1)
    part_of (pos n) (negsuc m) (pos q) e f = absurd (false≢true (and_parts (not (int_lt (pos q) (pos 0))) _ (and_parts (not (int_lt (pos n) (pos 0))) _ e).1).1)
    part_of (pos n) (pos m) (pos q) e f =
        let l : int_lt (pos q) (pos m) ≡ true = (and_parts (not (int_lt (pos q) (pos 0))) _ (and_parts (not (int_lt (pos n) (pos 0))) _ e).1).1 in
        let end = ends_in n m q (ltb-true q m l) in
        let s = f.sfits in
        record { sfits = omega (arith, end, s) }

-- an access through a part is one through the whole
pub in_whole : (v : Value) (first len parts at : ℤ) (a : Access) → Through (taken v first len parts at) a → Through (record { array = v; first = first; len = len }) a
in_whole v first len parts at a h =
    let t = through_taken v first len parts at a h in
    let e = ends_in t.whole t.count t.number t.there in
    let b = t.below in
    record {
      array = h.array;
      index = pos t.place;
      from_first = not_below t.place;
      below_last = ap (int_lt (pos t.place)) t.len_is ∙ lt-ltb t.place t.whole (omega (arith, e, b));
      place = t.index;
    }

later_apart : (first len parts at other : ℤ) (a c : Access) → (t : Taken first len parts at a) → (u : Taken first len parts other c) → t.number < u.number →
    t.whole ≤ 2 ^ 32 → a.index ≡ c.index → ⊥
later_apart first len parts at other a c t u l few e =
    let w : t.whole ≡ u.whole = pos_one t.whole u.whole (sym t.len_is ∙ u.len_is) in
    let m : t.count ≡ u.count = pos_one t.count u.count (sym t.count_is ∙ u.count_is) in
    let b = t.below in
    let d = u.below in
    let end = ends_in t.whole t.count t.number t.there in
    let end' = ends_in u.whole u.count u.number u.there in
    let x = u.there in
    let up : (t.number + 1) * u.whole / u.count ≤ u.number * u.whole / u.count = part_start-≤ u.whole u.count (t.number + 1) u.number (omega (arith, l)) (omega (arith, x)) in
    let up' : (t.number + 1) * t.whole / t.count ≤ u.number * u.whole / u.count =
    subst (λ z. (t.number + 1) * z / t.count ≤ u.number * u.whole / u.count) (sym w)
    (subst (λ z. (t.number + 1) * u.whole / z ≤ u.number * u.whole / u.count) (sym m) up) in
    let f = u.from in
    let same : t.place ≡ u.place = number_one first t.place u.place (omega (arith, b, end, few)) (omega (arith, d, end', w, few)) (sym t.index ∙ e ∙ u.index) in
    omega (arith, b, up', f, same)
  where
    pos_one : (x y : ℕ) → pos x ≡ pos y → x ≡ y
    pos_one x y e = cc

-- accesses through different parts have different places
pub parts_apart : (v : Value) (first len parts at other : ℤ) (a c : Access) → Through (taken v first len parts at) a → Through (taken v first len parts other) c →
    at ≢ other → FitsSigned w32 len → a.index ≡ c.index → ⊥
parts_apart v first len parts at other a c h k ne few e =
    let t = through_taken v first len parts at a h in
    let u = through_taken v first len parts other c k in
    let w : t.whole ≡ u.whole = pos_one t.whole u.whole (sym t.len_is ∙ u.len_is) in
    let fits : FitsSigned w32 (pos t.whole) = subst (FitsSigned w32) t.len_is few in
    let bound = fits.sfits in
    let small : t.whole ≤ 2 ^ 32 = omega (arith, bound) in
    ⊎_elim (λ s. absurd (ne (t.number_is ∙ ap pos s ∙ sym u.number_is)))
    (λ r. ⊎_elim (λ l. later_apart first len parts at other a c t u l small e) (λ l. later_apart first len parts other at c a u t l (omega (arith, w, small)) (sym e)) r)
    (cases_order t.number u.number)
  where
    pos_one : (x y : ℕ) → pos x ≡ pos y → x ≡ y
    pos_one x y e = cc
