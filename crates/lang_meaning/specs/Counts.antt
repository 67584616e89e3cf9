-- What a value or an answer counts as, where an operation asks for one of another kind. No run of a well-typed program
-- meets such a one. The code's instructions count by the same functions.
use Rattle.std.specs.Prelude.{ℕ, ℤ, pos, negsuc, ◌+ℤ◌, zero, suc, ◌+◌, ◌-◌, ◌*◌, ◌/◌, int_lt, int_rem, slice_index_or, ◌||◌, ◌&&◌, Bool, true, false, ◌==◌}
use Rattle.std.specs.Prelude.{cond, not, List, [], ◌∷◌, ◌++◌, Option, Some, None, slice_set, codes}
use Rattle.std.specs.Fmt.{signed_decimal}
use Rattle.std.specs.Ordering.{int_eq}
use Rattle.std.specs.Int.{w32, int_wrapping_add, int_wrapping_sub, int_wrapping_mul, int_wrapping_div, int_wrapping_neg}
use Rattle.std.specs.List.{list_any}
use Rattle.lang_base.specs.declared.place.Place.{Place}
use Rattle.lang_base.specs.declared.value.Trap.{Trap}
use Rattle.lang_base.specs.declared.op.BinaryOp.{BinaryOp}
use Rattle.lang_base.specs.declared.op.BinaryOp.TheVariants as op
use Rattle.lang_base.specs.declared.op.UnaryOp.{UnaryOp}
use Rattle.lang_base.specs.declared.op.UnaryOp.TheVariants.{Negate, Not}
use Rattle.lang_typed.specs.Plain.{PlainParent}
use Rattle.lang_meaning.specs.Values.{Value, Int, Boolean, Null, Object, Region}
use Rattle.lang_meaning.specs.Actions.{Answer, Went, Got, Out, Class, Length, Named, Joined, Fell}

abbrev pub number : {N : Type 0} → Value N → ℤ
number (Int k) = k
number (Boolean b) = pos 0
number Null = pos 0
number (Object n) = pos 0

abbrev pub truth : {N : Type 0} → Value N → Bool
truth (Boolean b) = b
truth (Int k) = false
truth Null = false
truth (Object n) = false

-- an object or an array; all else counts as null
abbrev pub reference : {N : Type 0} → Value N → Option N
reference (Object n) = Some n
reference (Int k) = None
reference (Boolean b) = None
reference Null = None

-- a read: none where the index is out of bounds, and null where the answer is no value
abbrev pub value_read : {N M : Type 0} → Answer N M → Option (Value N)
value_read Out = None
value_read (Got v) = Some v
value_read Went = Some Null
value_read (Class c rs) = Some Null
value_read (Length k) = Some Null
value_read (Named n) = Some Null
value_read (Joined ls) = Some Null
value_read (Fell trap place) = Some Null

abbrev pub is_out : {N M : Type 0} → Answer N M → Bool
is_out Out = true
is_out (Got v) = false
is_out Went = false
is_out (Class c rs) = false
is_out (Length k) = false
is_out (Named n) = false
is_out (Joined ls) = false
is_out (Fell trap place) = false

abbrev pub length_seen : {N M : Type 0} → Answer N M → ℕ
length_seen (Length k) = k
length_seen (Got v) = 0
length_seen Out = 0
length_seen Went = 0
length_seen (Class c rs) = 0
length_seen (Named n) = 0
length_seen (Joined ls) = 0
length_seen (Fell trap place) = 0

abbrev pub name_made : {N M : Type 0} → Answer N M → Value N
name_made (Named n) = Object n
name_made (Got v) = Null
name_made Out = Null
name_made Went = Null
name_made (Class c rs) = Null
name_made (Length k) = Null
name_made (Joined ls) = Null
name_made (Fell trap place) = Null

-- the class of an object that is called, and its region arguments
abbrev pub class_seen : {N M : Type 0} → Answer N M → Option (ℕ × List (Region M))
class_seen (Class c rs) = Some (c, rs)
class_seen (Got v) = None
class_seen Out = None
class_seen Went = None
class_seen (Length k) = None
class_seen (Named n) = None
class_seen (Joined ls) = None
class_seen (Fell trap place) = None

-- two values as they are
abbrev pub same_value : {N : Type 0} → (N → N → Bool) → Value N → Value N → Bool
same_value same (Int j) (Int k) = int_eq j k
same_value same (Boolean a) (Boolean b) = cond a b (not b)
same_value same Null Null = true
same_value same (Object n) (Object m) = same n m
same_value same (Int j) (Boolean b) = false
same_value same (Int j) Null = false
same_value same (Int j) (Object m) = false
same_value same (Boolean a) (Int k) = false
same_value same (Boolean a) Null = false
same_value same (Boolean a) (Object m) = false
same_value same Null (Int k) = false
same_value same Null (Boolean b) = false
same_value same Null (Object m) = false
same_value same (Object n) (Int k) = false
same_value same (Object n) (Boolean b) = false
same_value same (Object n) Null = false

-- the first class is the second or below it, at most so many steps; the superclass of a class is given
abbrev pub is_below : (ℕ → Option PlainParent) → ℕ → ℕ → ℕ → Bool
is_below parent zero c d = c == d
is_below parent (suc k) c d = cond (c == d) true (elim (parent c) [ None ↦ false | Some p ↦ is_below parent k p.class d ])

-- the class whose row is entered where the look at the receiver is answered so, and its region arguments: the static class,
-- where the answer names none that is it or below it
abbrev pub class_entered : {M : Type 0} → (ℕ → Option PlainParent) → ℕ → ℕ → Option (ℕ × List (Region M)) → ℕ × List (Region M)
class_entered parent classes c None = (c, [])
class_entered parent classes c (Some seen) = cond (is_below parent classes seen.0 c) seen (c, seen.1)

-- arithmetic wraps at 32 bits, and a division rounds toward zero; none by zero
abbrev pub divided : {N : Type 0} → (ℤ → ℤ → ℤ) → ℤ → ℤ → Option (Value N)
divided d j k = cond (int_eq k (pos 0)) None (Some (Int (d j k)))

abbrev pub operated : {N : Type 0} → (N → N → Bool) → BinaryOp → Value N → Value N → Option (Value N)
operated same op.Add v u = Some (Int (int_wrapping_add w32 (number v) (number u)))
operated same op.Subtract v u = Some (Int (int_wrapping_sub w32 (number v) (number u)))
operated same op.Multiply v u = Some (Int (int_wrapping_mul w32 (number v) (number u)))
operated same op.Divide v u = divided (int_wrapping_div w32) (number v) (number u)
operated same op.Remainder v u = divided int_rem (number v) (number u)
operated same op.Equal v u = Some (Boolean (same_value same v u))
operated same op.NotEqual v u = Some (Boolean (not (same_value same v u)))
operated same op.Less v u = Some (Boolean (int_lt (number v) (number u)))
operated same op.AtMost v u = Some (Boolean (not (int_lt (number u) (number v))))
operated same op.Greater v u = Some (Boolean (int_lt (number u) (number v)))
operated same op.AtLeast v u = Some (Boolean (not (int_lt (number v) (number u))))

abbrev pub unary : {N : Type 0} → UnaryOp → Value N → Value N
unary Negate v = Int (int_wrapping_neg w32 (number v))
unary Not v = Boolean (not (truth v))

-- the value of a slot
abbrev pub slot_value : {N : Type 0} → List (Value N) → ℕ → Value N
slot_value vs x = slice_index_or vs x Null

-- so many slots, of which the first hold these values
abbrev pub padded : {N : Type 0} → ℕ → List (Value N) → List (Value N)
padded zero vs = []
padded (suc n) [] = Null ∷ padded n []
padded (suc n) (v ∷ vs) = v ∷ padded n vs

-- a part of an array has four slots: the array, its first place, its length, and how many parts there are; and the number of
-- the part stands in the fifth. The place of an index of the part: none outside it
abbrev pub part_place : {N : Type 0} → ℕ → ℤ → List (Value N) → Option ℤ
part_place k i vs =
    cond (int_lt i (pos 0) || not (int_lt i (number (slot_value vs (k + 2))))) None (Some (int_wrapping_add w32 (number (slot_value vs (k + 1))) i))

-- where a part of a length begins, and whether there is such a part
abbrev pub part_begin : ℤ → ℤ → ℤ → ℕ
part_begin (pos len) (pos parts) (pos k) = k * len / parts
part_begin len parts k = 0

abbrev pub is_part : ℤ → ℤ → ℤ → Bool
is_part len parts k = not (int_lt len (pos 0)) && (not (int_lt k (pos 0)) && int_lt k parts)

-- the first place and the length of the part that a branch takes: its own, computed from those of the whole; nothing, where
-- there is no such part
abbrev pub part_first : {N : Type 0} → ℕ → List (Value N) → ℤ
part_first k vs =
    let len : ℤ = number (slot_value vs (k + 2)) in
    let parts : ℤ = number (slot_value vs (k + 3)) in
    let at : ℤ = number (slot_value vs (k + 4)) in
    cond (is_part len parts at) (int_wrapping_add w32 (number (slot_value vs (k + 1))) (pos (part_begin len parts at))) (pos 0)

abbrev pub part_length : {N : Type 0} → ℕ → List (Value N) → ℤ
part_length k vs =
    let len : ℤ = number (slot_value vs (k + 2)) in
    let parts : ℤ = number (slot_value vs (k + 3)) in
    let at : ℤ = number (slot_value vs (k + 4)) in
    cond (is_part len parts at) (pos (part_begin len parts (at +ℤ pos 1) - part_begin len parts at)) (pos 0)

abbrev pub part_taken : {N : Type 0} → ℕ → List (Value N) → List (Value N)
part_taken k vs = slice_set (slice_set vs (k + 1) (Int (part_first k vs))) (k + 2) (Int (part_length k vs))

-- how many iterations a count makes
abbrev pub how_many : ℤ → ℕ
how_many (pos n) = n
how_many (negsuc n) = 0

-- the slots of an iteration: its number in that of the loop's variable
abbrev pub numbered : {N : Type 0} → ℕ → ℤ → ℕ → List (Value N) → List (Value N)
numbered x start i vs = slice_set vs x (Int (int_wrapping_add w32 start (pos i)))

-- the locals that a branch gives back
abbrev pub assigned : {N : Type 0} → List ℕ → List (Value N) → List (ℕ × Value N)
assigned [] vs = []
assigned (x ∷ xs) vs = (x, slot_value vs x) ∷ assigned xs vs

-- how a join came out: with locals that are copied back, or with a trap
pub data Brought (N : Type 0) : Type 0 where
  Back : (locals : List (ℕ × Value N)) → Brought N
  Trap_of_branch : (trap : Trap) (place : Place) → Brought N

abbrev pub brought : {N M : Type 0} → Answer N M → Brought N
brought (Joined ls) = Back ls
brought (Fell trap place) = Trap_of_branch trap place
brought (Got v) = Back []
brought Out = Back []
brought Went = Back []
brought (Class c rs) = Back []
brought (Length k) = Back []
brought (Named n) = Back []

-- the locals with those copied back that the join of the construct does copy back
abbrev pub copied_one : {N : Type 0} → List ℕ → ℕ → Value N → List (Value N) → List (Value N)
copied_one slots x v vs = cond (list_any (λ y. x == y) slots) (slice_set vs x v) vs

abbrev pub copied : {N : Type 0} → List ℕ → List (ℕ × Value N) → List (Value N) → List (Value N)
copied slots [] vs = vs
copied slots (l ∷ ls) vs = copied slots ls (copied_one slots l.0 l.1 vs)

-- a printed line
abbrev pub text_of : {N : Type 0} → Value N → List ℕ
text_of (Int k) = signed_decimal k
text_of (Boolean true) = codes "true"
text_of (Boolean false) = codes "false"
text_of Null = codes "0"
text_of (Object n) = codes "0"

abbrev pub line : List ℕ → List ℕ
line text = text ++ 10 ∷ []
