-- The heap of the code and that of the elision.
use Rattle.std.proofs.Common.{◌≡◌, ◌∙◌, ℕ, zero, suc, ◌<◌, ◌≤◌, List, [], ◌∷◌, map, length, get_or, refl, sym, ap, arith, Option, Some, None, Bool, true, false, cond, ℤ, pos, negsuc}
use Rattle.std.specs.Prelude.{slice_get, nat_lt, not, option_map}
use Rattle.std.specs.Option.{is_some}
use Rattle.std.proofs.lemmas.Option.{slice_get-map}
use Rattle.lang_base.specs.declared.value.Value.{Value as Constant}
use Rattle.exec_heap.specs.Heap.{Object, instance, array, Contents, object_at, values_of, with_values, no_object, class_of, regions_of}
use Rattle.exec_heap.specs.Heap.{written as code_written}
use Rattle.std.proofs.Math.ListN.{set}
use Rattle.std.proofs.lemmas.List.{map-set, length-set, length-map, set_past}
use Rattle.std.proofs.lemmas.Bool.{ltb-true, ltb-false, lt-ltb, le-ltb}
use Rattle.lang_meaning.specs.Values.{Value}
use Rattle.lang_meaning.specs.Actions.{Answer, Read, Write, Look, Went, Out, Got, Length}
use Rattle.lang_meaning.specs.Counts.{value_read, length_seen, is_out, class_seen}
use Rattle.lang_meaning.specs.Elision.{LocalRegion, Held, seen, at_index, read_of, write_of, look_of, answer, written}
use Rattle.exec_frames.specs.Names.{plain_value, plain_region}
use Rattle.exec_walker.specs.Cells.{cell_set, has_index, length_of, seen_of}
use Rattle.exec_walker.specs.Stores.{Sight, look_at, object_seen, held_seen}

pub record Both (o : Object) (h : Held) : Type 0 where
  pub look : look_at o ≡ seen h.thing
  pub values : map plain_value (values_of o) ≡ h.values

both : (o : Object) (h : Held) → object_seen o ≡ held_seen h → Both o h
both o h e = record { look = ap (λ s. s.0) e; values = ap (λ s. s.1) e }

seen_as : {a b : Answer ℕ LocalRegion} {vs us : List (Value ℕ)} → a ≡ b → vs ≡ us → (let s : Sight = (a, vs) in s) ≡ (let s : Sight = (b, us) in s)
seen_as {a} {b} {vs} {us} e f = ap (λ x. (let s : Sight = (x, vs) in s)) e ∙ ap (λ x. (let s : Sight = (b, x) in s)) f

-- what stands under a number of both
pub held_at : (os : List Object) (hs : List Held) (n : ℕ) → map object_seen os ≡ map held_seen hs → n < length os
    → (h : Held) × (slice_get hs n ≡ Some h) × Both (get_or os n no_object) h
held_at [] hs n e l = absurd (omega arith)
held_at (o ∷ os) [] n e l = absurd (cc)
held_at (o ∷ os) (h ∷ hs) zero e l = let f : object_seen o ≡ held_seen h = cc in (h, refl, both o h f)
held_at (o ∷ os) (h ∷ hs) (suc n) e l = let f : map object_seen os ≡ map held_seen hs = cc in held_at os hs n f (omega arith)

pub none_held : (os : List Object) (hs : List Held) (n : ℕ) → map object_seen os ≡ map held_seen hs → length os ≤ n → slice_get hs n ≡ None
none_held [] [] n e l = refl
none_held [] (h ∷ hs) n e l = absurd (cc)
none_held (o ∷ os) [] n e l = refl
none_held (o ∷ os) (h ∷ hs) zero e l = absurd (omega arith)
none_held (o ∷ os) (h ∷ hs) (suc n) e l = let f : map object_seen os ≡ map held_seen hs = cc in none_held os hs n f (omega arith)

pub same_count : (os : List Object) (hs : List Held) → map object_seen os ≡ map held_seen hs → length os ≡ length hs
same_count [] [] e = refl
same_count [] (h ∷ hs) e = absurd (cc)
same_count (o ∷ os) [] e = absurd (cc)
same_count (o ∷ os) (h ∷ hs) e = let f : map object_seen os ≡ map held_seen hs = cc in ap suc (same_count os hs f)

at_mapped : (vs : List Constant) (i : ℤ) → at_index (map plain_value vs) i ≡ option_map plain_value (at_index vs i)
at_mapped vs (pos k) = slice_get-map plain_value vs k
at_mapped vs (negsuc k) = refl

read_held : (h : Held) (i : ℤ) → value_read {M = LocalRegion} (read_of (Some h) i) ≡ at_index h.values i
read_held h i = by_cell (at_index h.values i)
  where
    by_cell : (o : Option (Value ℕ)) → value_read {N = ℕ} {M = LocalRegion} (elim o [ None ↦ Out | Some v ↦ Got v ]) ≡ o
    by_cell None = refl
    by_cell (Some v) = refl

-- a read of both
pub read_there : (os : List Object) (hs : List Held) (n : ℕ) (i : ℤ) (v : Option Constant) → map object_seen os ≡ map held_seen hs → n < length os
    → v ≡ at_index (values_of (get_or os n no_object)) i → option_map plain_value v ≡ value_read {M = LocalRegion} (answer hs (Read n i))
read_there os hs n i v e l is =
    let found = held_at os hs n e l in
    ap (option_map plain_value) is ∙ sym (at_mapped (values_of (get_or os n no_object)) i) ∙ ap (λ vs. at_index vs i) found.2.values
    ∙ sym (read_held found.0 i) ∙ ap (λ o. value_read {M = LocalRegion} (read_of o i)) (sym found.1)

length_held : (o : Object) → length_seen {N = ℕ} {M = LocalRegion} (look_at o) ≡ length_of o
length_held (instance c rs fs) = refl
length_held (array p es) = refl

pub length_there : (os : List Object) (hs : List Held) (n : ℕ) → map object_seen os ≡ map held_seen hs → n < length os
    → length_of (get_or os n no_object) ≡ length_seen {M = LocalRegion} (answer hs (Look n))
length_there os hs n e l =
    let found = held_at os hs n e l in
    sym (length_held (get_or os n no_object)) ∙ ap (length_seen {N = ℕ} {M = LocalRegion}) found.2.look
    ∙ ap (λ o. length_seen {N = ℕ} {M = LocalRegion} (look_of o)) (sym found.1)

-- a write to both
set_seen : (o : Object) (h : Held) (k : ℕ) (v : Constant) → Both o h
    → object_seen (with_values o (set (values_of o) k v)) ≡ held_seen (record h { values = set h.values k (plain_value v) })
set_seen (instance c rs fs) h k v b =
    let same : map plain_value (set fs k v) ≡ set h.values k (plain_value v) = map-set plain_value fs k v ∙ ap (λ vs. set vs k (plain_value v)) b.values in
    seen_as b.look same
set_seen (array p es) h k v b =
    let same : map plain_value (set es k v) ≡ set h.values k (plain_value v) = map-set plain_value es k v ∙ ap (λ vs. set vs k (plain_value v)) b.values in
    let long : look_at (array p (set es k v)) ≡ look_at (array p es) = ap Length (length-set es k v) in
    seen_as (long ∙ b.look) same

write_within : (os : List Object) (hs : List Held) (n k : ℕ) (v : Constant) → map object_seen os ≡ map held_seen hs → n < length os
    → map object_seen (set os n (with_values (get_or os n no_object) (set (values_of (get_or os n no_object)) k v)))
    ≡ map held_seen (written hs n (slice_get hs n) (pos k) (plain_value v))
write_within os hs n k v e l =
    let found = held_at os hs n e l in
    let o : Object = get_or os n no_object in
    map-set object_seen os n (with_values o (set (values_of o) k v)) ∙ ap (λ xs. set xs n (object_seen (with_values o (set (values_of o) k v)))) e
    ∙ ap (set (map held_seen hs) n) (set_seen o found.0 k v found.2)
    ∙ sym (map-set held_seen hs n (record found.0 { values = set found.0.values k (plain_value v) }))
    ∙ ap (λ x. map held_seen (written hs n x (pos k) (plain_value v))) (sym found.1)

held_twice : (hs : List Held) (n : ℕ) (h : Held) → slice_get hs n ≡ Some h → set hs n h ≡ hs
held_twice [] n h e = absurd (cc)
held_twice (x ∷ hs) zero h e = let f : h ≡ x = cc in ap (λ y. y ∷ hs) f
held_twice (x ∷ hs) (suc n) h e = ap (λ l. x ∷ l) (held_twice hs n h e)

-- a write out of bounds
write_past : (os : List Object) (hs : List Held) (n k : ℕ) (v : Constant) → map object_seen os ≡ map held_seen hs → n < length os
    → length (values_of (get_or os n no_object)) ≤ k → hs ≡ written hs n (slice_get hs n) (pos k) (plain_value v)
write_past os hs n k v e l past =
    let found = held_at os hs n e l in
    let o : Object = get_or os n no_object in
    let long : length found.0.values ≤ k = omega (arith, ap length (sym found.2.values), length-map (values_of o) plain_value) in
    sym (held_twice hs n found.0 found.1) ∙ ap (λ vs. set hs n (record found.0 { values = vs })) (sym (set_past found.0.values k (plain_value v) long))
    ∙ ap (λ x. written hs n x (pos k) (plain_value v)) (sym found.1)

write_below : (os : List Object) (hs : List Held) (n k : ℕ) (v : Constant) → map object_seen os ≡ map held_seen hs → n < length os
    → hs ≡ written hs n (slice_get hs n) (negsuc k) (plain_value v)
write_below os hs n k v e l =
    let found = held_at os hs n e l in
    sym (held_twice hs n found.0 found.1) ∙ ap (λ x. written hs n x (negsuc k) (plain_value v)) (sym found.1)

pub write_there : (heap : Contents) (hs : List Held) (n : ℕ) (i : ℤ) (v : Constant) → map object_seen heap.objects ≡ map held_seen hs → n < length heap.objects
    → map object_seen (cell_set heap n i v).objects ≡ map held_seen (written hs n (slice_get hs n) i (plain_value v))
write_there heap hs n (negsuc k) v e l = e ∙ ap (map held_seen) (write_below heap.objects hs n k v e l)
write_there heap hs n (pos k) v e l = by_bound (nat_lt k (length (values_of (object_at heap n)))) refl
  where
    by_bound : (b : Bool) → nat_lt k (length (values_of (object_at heap n))) ≡ b
        → map object_seen (cond b (code_written heap n k v) heap).objects ≡ map held_seen (written hs n (slice_get hs n) (pos k) (plain_value v))
    by_bound true is = write_within heap.objects hs n k v e l
    by_bound false is = e ∙ ap (map held_seen) (write_past heap.objects hs n k v e l (ltb-false k (length (values_of (object_at heap n))) is))

pub write_nowhere : (os : List Object) (hs : List Held) (n : ℕ) (i : ℤ) (v : Value ℕ) → map object_seen os ≡ map held_seen hs → length os ≤ n
    → hs ≡ written hs n (slice_get hs n) i v
write_nowhere os hs n i v e l = ap (λ x. written hs n x i v) (sym (none_held os hs n e l))

-- whether a write is out of bounds
out_held : (h : Held) (i : ℤ) (v : Value ℕ) → is_out {M = LocalRegion} (write_of (Some h) i) ≡ not (is_some (at_index h.values i))
out_held h i v = by_cell (at_index h.values i)
  where
    by_cell : (o : Option (Value ℕ)) → is_out {N = ℕ} {M = LocalRegion} (elim o [ None ↦ Out | Some u ↦ Went ]) ≡ not (is_some o)
    by_cell None = refl
    by_cell (Some u) = refl

in_list : {A : Type 0} (xs : List A) (k : ℕ) → is_some (slice_get xs k) ≡ nat_lt k (length xs)
in_list [] k = sym (le-ltb k 0 (omega arith))
in_list (x ∷ xs) zero = sym (lt-ltb zero (suc (length xs)) (omega arith))
in_list (x ∷ xs) (suc k) = in_list xs k ∙ one_up (nat_lt k (length xs)) refl
  where
    one_up : (b : Bool) → nat_lt k (length xs) ≡ b → b ≡ nat_lt (suc k) (suc (length xs))
    one_up true e = sym (lt-ltb (suc k) (suc (length xs)) (omega (arith, ltb-true k (length xs) e)))
    one_up false e = sym (le-ltb (suc k) (suc (length xs)) (omega (arith, ltb-false k (length xs) e)))

indexed : (o : Object) (i : ℤ) → is_some (at_index (map plain_value (values_of o)) i) ≡ has_index o i
indexed o (negsuc k) = refl
indexed o (pos k) = in_list (map plain_value (values_of o)) k ∙ ap (nat_lt k) (length-map (values_of o) plain_value)

pub out_there : (os : List Object) (hs : List Held) (n : ℕ) (i : ℤ) (b : Bool) (v : Value ℕ) → map object_seen os ≡ map held_seen hs → n < length os
    → b ≡ has_index (get_or os n no_object) i → not b ≡ is_out {M = LocalRegion} (answer hs (Write n i v))
out_there os hs n i b v e l is =
    let found = held_at os hs n e l in
    ap not (is ∙ sym (indexed (get_or os n no_object) i) ∙ ap (λ vs. is_some (at_index vs i)) found.2.values) ∙ sym (out_held found.0 i v)
    ∙ ap (λ o. is_out {N = ℕ} {M = LocalRegion} (write_of o i)) (sym found.1)

pub out_nowhere : (os : List Object) (hs : List Held) (n : ℕ) (i : ℤ) → map object_seen os ≡ map held_seen hs → length os ≤ n
    → false ≡ is_out {N = ℕ} {M = LocalRegion} (write_of (slice_get hs n) i)
out_nowhere os hs n i e l = ap (λ o. is_out {N = ℕ} {M = LocalRegion} (write_of o i)) (sym (none_held os hs n e l))

-- what a look at an object sees
seen_object : (o : Object) → class_seen {N = ℕ} (look_at o) ≡ seen_of (class_of o) (map plain_region (regions_of o))
seen_object (instance c rs fs) = refl
seen_object (array p es) = refl

pub class_there : (os : List Object) (hs : List Held) (n : ℕ) → map object_seen os ≡ map held_seen hs → n < length os
    → seen_of (class_of (get_or os n no_object)) (map plain_region (regions_of (get_or os n no_object))) ≡ class_seen (answer hs (Look n))
class_there os hs n e l =
    let found = held_at os hs n e l in
    sym (seen_object (get_or os n no_object)) ∙ ap (class_seen {N = ℕ} {M = LocalRegion}) found.2.look
    ∙ ap (λ o. class_seen {N = ℕ} {M = LocalRegion} (look_of o)) (sym found.1)
