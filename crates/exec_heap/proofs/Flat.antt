-- What the vectors of a heap show of its objects, header by header.
use Rattle.std.proofs.Common.{◌≡◌, ℕ, zero, suc, ◌+◌, ◌<◌, ◌≤◌, List, [], ◌∷◌, ◌++◌, length, take, drop, get_or, refl, sym, ap, subst, ◌∙◌, ◌-◌, arith, length-append, length-drop, slice_get, Some, None}
use Rattle.std.proofs.Math.ListN.{set, get_or-append}
use Rattle.std.proofs.lemmas.List.{drop-drop, drop-set-add, drop-set-lt, take-set-le, take-append-le, drop-append-le, length-take-le, take_all, get_or-take, get_or-drop}
use Rattle.std.proofs.Math.Seq.{take-set-lt}
use Rattle.std.proofs.lemmas.Option.{slice_get_read, slice_get_past}
use Rattle.std.specs.Prelude.{All}
use Rattle.lang_base.specs.declared.region.Region.{Region}
use Rattle.lang_base.specs.declared.value.Value.{Value}
use Rattle.exec_heap.specs.Heap.{Object, values_of, with_values, regions_of, class_of}
use Rattle.exec_heap.specs.Flat.{object_of, shown, objects_in, Follow, FitsKind, HasRow, first_region}
use Rattle.exec_heap.specs.declared.header.Kind.{Kind}
use Rattle.exec_heap.specs.declared.header.Kind.TheVariants.{Instance, Array}
use Rattle.exec_heap.specs.declared.header.Header.{Header}

pub length-objects_in : (rows : List (List Region)) (hs : List Header) (cells : List Value) → length (objects_in rows hs cells) ≡ length hs
length-objects_in rows [] cells = refl
length-objects_in rows (h ∷ hs) cells = ap suc (length-objects_in rows hs (drop h.len cells))

pub values_of-object_of : (k : Kind) (row : List Region) (values : List Value) → values_of (object_of k row values) ≡ values
values_of-object_of (Instance class) row values = refl
values_of-object_of Array row values = refl

pub with_values-object_of : (k : Kind) (row : List Region) (old new : List Value) → with_values (object_of k row old) new ≡ object_of k row new
with_values-object_of (Instance class) row old new = refl
with_values-object_of Array row old new = refl

pub follow_bound : (at : ℕ) (hs : List Header) (end : ℕ) → Follow at hs end → at ≤ end
follow_bound at [] end f = omega arith
follow_bound at (h ∷ hs) end f = omega (arith, follow_bound (at + h.len) hs end f.1)

-- the values of a header lie within the cells
pub header_within : (at : ℕ) (hs : List Header) (end k : ℕ) (d : Header) → Follow at hs end → k < length hs
    → (at ≤ (get_or hs k d).start) × ((get_or hs k d).start + (get_or hs k d).len ≤ end)
header_within at [] end k d f lt = absurd (omega arith)
header_within at (h ∷ hs) end zero d f lt = let b = follow_bound (at + h.len) hs end f.1 in (omega arith, omega arith)
header_within at (h ∷ hs) end (suc k) d f lt = let b = header_within (at + h.len) hs end k d f.1 (omega arith) in (omega arith, omega arith)

-- the object of a header has the header's values
pub object_shown : (rows : List (List Region)) (hs : List Header) (all : List Value) (at k : ℕ) (d : Object) (e : Header) → Follow at hs (length all)
    → k < length hs
    → get_or (objects_in rows hs (drop at all)) k d ≡ shown rows (get_or hs k e) (take (get_or hs k e).len (drop (get_or hs k e).start all))
object_shown rows [] all at k d e f lt = absurd (omega arith)
object_shown rows (h ∷ hs) all at zero d e f lt = ap (λ n. shown rows h (take h.len (drop n all))) (sym f.0)
object_shown rows (h ∷ hs) all at (suc k) d e f lt =
    ap (λ cs. get_or (objects_in rows hs cs) k d) (drop-drop h.len at all) ∙ object_shown rows hs all (at + h.len) k d e f.1 (omega arith)

-- a write within the values of a header changes those of its object alone
pub object_set : (rows : List (List Region)) (hs : List Header) (all : List Value) (at k i : ℕ) (v : Value) (d : Object) (e : Header)
    → Follow at hs (length all) → k < length hs → i < (get_or hs k e).len
    → objects_in rows hs (drop at (set all ((get_or hs k e).start + i) v))
    ≡ set (objects_in rows hs (drop at all)) k (shown rows (get_or hs k e) (set (take (get_or hs k e).len (drop (get_or hs k e).start all)) i v))
object_set rows [] all at k i v d e f lt in_h = absurd (omega arith)
object_set rows (h ∷ hs) all at zero i v d e f lt in_h =
    ap (λ n. objects_in rows (h ∷ hs) (drop at (set all (n + i) v))) f.0
    ∙ ap (objects_in rows (h ∷ hs)) (drop-set-add at all i v)
    ∙ ap (λ vs. shown rows h vs ∷ objects_in rows hs (drop h.len (set (drop at all) i v))) (take-set-lt h.len (drop at all) i v in_h)
    ∙ ap (λ cs. shown rows h (set (take h.len (drop at all)) i v) ∷ objects_in rows hs cs) (drop-set-lt h.len (drop at all) i v in_h)
    ∙ ap (λ n. shown rows h (set (take h.len (drop n all)) i v) ∷ objects_in rows hs (drop h.len (drop at all))) (sym f.0)
object_set rows (h ∷ hs) all at (suc k) i v d e f lt in_h =
    let within = header_within (at + h.len) hs (length all) k e f.1 (omega arith) in
    let p : ℕ = (get_or hs k e).start + i in
    let q : ℕ = p - at in
    let p_is : p ≡ at + q = omega (arith, within.0) in
    let far : h.len ≤ q = omega (arith, within.0) in
    let moved : drop at (set all p v) ≡ set (drop at all) q v = ap (λ n. drop at (set all n v)) p_is ∙ drop-set-add at all q v in
    ap (objects_in rows (h ∷ hs)) moved
    ∙ ap (λ vs. shown rows h vs ∷ objects_in rows hs (drop h.len (set (drop at all) q v))) (take-set-le h.len (drop at all) q v far)
    ∙ ap (λ cs. shown rows h (take h.len (drop at all)) ∷ objects_in rows hs (drop h.len cs)) (sym moved)
    ∙ ap (λ cs. shown rows h (take h.len (drop at all)) ∷ objects_in rows hs cs) (drop-drop h.len at (set all p v))
    ∙ ap (λ os. shown rows h (take h.len (drop at all)) ∷ os) (object_set rows hs all (at + h.len) k i v d e f.1 (omega arith) in_h)
    ∙ ap (λ cs. shown rows h (take h.len (drop at all)) ∷ set (objects_in rows hs cs) k (shown rows (get_or hs k e)
    (set (take (get_or hs k e).len (drop (get_or hs k e).start all)) i v))) (sym (drop-drop h.len at all))

no_values : (cells : List Value) (at : ℕ) → at ≡ at + length cells → cells ≡ []
no_values [] at e = refl
no_values (v ∷ cells) at e = absurd (omega arith)

-- an object more, with its values after the others
pub object_pushed : (rows : List (List Region)) (hs : List Header) (h : Header) (cells values : List Value) (at : ℕ)
    → Follow at hs (at + length cells) → h.len ≡ length values
    → objects_in rows (hs ++ h ∷ []) (cells ++ values) ≡ objects_in rows hs cells ++ shown rows h values ∷ []
object_pushed rows [] h cells values at f len =
    ap (λ cs. shown rows h (take h.len (cs ++ values)) ∷ []) (no_values cells at f) ∙ ap (λ vs. shown rows h vs ∷ []) (take_all h.len values (omega arith))
object_pushed rows (g ∷ hs) h cells values at f len =
    let fits : g.len ≤ length cells = omega (arith, follow_bound (at + g.len) hs (at + length cells) f.1) in
    let cut : length (drop g.len cells) ≡ length cells - g.len = length-drop g.len cells in
    let rest : (at + g.len) + length (drop g.len cells) ≡ at + length cells = omega arith in
    ap (λ vs. shown rows g vs ∷ objects_in rows (hs ++ h ∷ []) (drop g.len (cells ++ values))) (take-append-le g.len cells values fits)
    ∙ ap (λ cs. shown rows g (take g.len cells) ∷ objects_in rows (hs ++ h ∷ []) cs) (drop-append-le g.len cells values fits)
    ∙ ap (λ os. shown rows g (take g.len cells) ∷ os) (object_pushed rows hs h (drop g.len cells) values (at + g.len) (subst (Follow (at + g.len) hs)
    (sym rest) f.1) len)

pub follow_pushed : (at : ℕ) (hs : List Header) (end : ℕ) (h : Header) (new : ℕ) → Follow at hs end → h.start ≡ end → new ≡ end + h.len
    → Follow at (hs ++ h ∷ []) new
follow_pushed at [] end h new f start len = (omega arith, omega arith)
follow_pushed at (g ∷ hs) end h new f start len = (f.0, follow_pushed (at + g.len) hs end h new f.1 start len)

-- rows after the others change no object
pub objects_with_rows : (rows more : List (List Region)) (hs : List Header) (cells : List Value) → All (HasRow rows) hs
    → objects_in (rows ++ more) hs cells ≡ objects_in rows hs cells
objects_with_rows rows more [] cells all = refl
objects_with_rows rows more (h ∷ hs) cells all =
    ap (λ row. object_of h.kind row (take h.len cells) ∷ objects_in (rows ++ more) hs (drop h.len cells))
    (get_or-append rows more [] h.row (all 0 h (omega arith)).0)
    ∙ ap (λ os. shown rows h (take h.len cells) ∷ os) (objects_with_rows rows more hs (drop h.len cells) (λ k d lt. all (suc k) d (omega arith)))

more_rows : (rows more : List (List Region)) (h : Header) → HasRow rows h → HasRow (rows ++ more) h
more_rows rows more h has =
    (simp length-append (omega (arith, has.0)), subst (FitsKind h.kind) (sym (get_or-append rows more [] h.row has.0)) has.1)

pub all_rows_kept : (rows more : List (List Region)) (hs : List Header) → All (HasRow rows) hs → All (HasRow (rows ++ more)) hs
all_rows_kept rows more hs all = λ k d lt. more_rows rows more (get_or hs k d) (all k d lt)

-- the values of the object under a number
values_at : (rows : List (List Region)) (hs : List Header) (all : List Value) (n : ℕ) (h : Header) (d : Object)
    → Follow 0 hs (length all) → n < length hs → h ≡ get_or hs n h
    → values_of (get_or (objects_in rows hs all) n d) ≡ take h.len (drop h.start all)
values_at rows hs all n h d f lt is =
    ap values_of (object_shown rows hs all 0 n d h f lt ∙ ap (λ g. shown rows g (take g.len (drop g.start all))) (sym is)) ∙ values_of-object_of _ _ _

pub header_at : (hs : List Header) (end n : ℕ) (h : Header) → Follow 0 hs end → n < length hs → h ≡ get_or hs n h → h.start + h.len ≤ end
header_at hs end n h f lt is = subst (λ (g : Header). g.start + g.len ≤ end) (sym is) (header_within 0 hs end n h f lt).1

length-values_at : (all : List Value) (h : Header) → h.start + h.len ≤ length all → length (take h.len (drop h.start all)) ≡ h.len
length-values_at all h fits = length-take-le h.len (drop h.start all) (simp length-drop (omega arith))

pub count_of_values : (rows : List (List Region)) (hs : List Header) (all : List Value) (n : ℕ) (h : Header) (d : Object)
    → Follow 0 hs (length all) → n < length hs → h ≡ get_or hs n h → length (values_of (get_or (objects_in rows hs all) n d)) ≡ h.len
count_of_values rows hs all n h d f lt is =
    ap length (values_at rows hs all n h d f lt is) ∙ length-values_at all h (header_at hs (length all) n h f lt is)

pub read_within : (rows : List (List Region)) (hs : List Header) (all : List Value) (n i : ℕ) (h : Header) (d : Object) (x : Value)
    → Follow 0 hs (length all) → n < length hs → h ≡ get_or hs n h → i < h.len → x ≡ get_or all (h.start + i) x
    → slice_get (values_of (get_or (objects_in rows hs all) n d)) i ≡ Some x
read_within rows hs all n i h d x f lt is in_h at =
    ap (λ vs. slice_get vs i) (values_at rows hs all n h d f lt is)
    ∙ slice_get_read (take h.len (drop h.start all)) h.len i x (sym (length-values_at all h (header_at hs (length all) n h f lt is))) in_h
    (at ∙ sym (get_or-drop h.start all i x) ∙ sym (get_or-take h.len (drop h.start all) i x in_h))

pub read_past : (rows : List (List Region)) (hs : List Header) (all : List Value) (n i : ℕ) (h : Header) (d : Object)
    → Follow 0 hs (length all) → n < length hs → h ≡ get_or hs n h → h.len ≤ i
    → slice_get (values_of (get_or (objects_in rows hs all) n d)) i ≡ None
read_past rows hs all n i h d f lt is past = slice_get_past _ i (subst (λ m. m ≤ i) (sym (count_of_values rows hs all n h d f lt is)) past)

-- a write within the values of the object under a number
pub written_at : (rows : List (List Region)) (hs : List Header) (all : List Value) (n i : ℕ) (h : Header) (d : Object) (v : Value)
    → Follow 0 hs (length all) → n < length hs → h ≡ get_or hs n h → i < h.len
    → objects_in rows hs (set all (h.start + i) v)
    ≡ set (objects_in rows hs all) n (with_values (get_or (objects_in rows hs all) n d) (set (values_of (get_or (objects_in rows hs all) n d)) i v))
written_at rows hs all n i h d v f lt is in_h =
    ap (λ g. objects_in rows hs (set all (g.start + i) v)) is
    ∙ object_set rows hs all 0 n i v d h f lt (subst (λ (g : Header). i < g.len) is in_h)
    ∙ ap (set (objects_in rows hs all) n) (
    ap (λ g. shown rows g (set (take g.len (drop g.start all)) i v)) (sym is)
    ∙ sym (with_values-object_of h.kind _ (take h.len (drop h.start all)) _)
    ∙ ap (λ o. with_values o (set (take h.len (drop h.start all)) i v)) (sym (object_shown rows hs all 0 n d h f lt
    ∙ ap (λ g. shown rows g (take g.len (drop g.start all))) (sym is)))
    ∙ ap (λ vs. with_values (get_or (objects_in rows hs all) n d) (set vs i v)) (sym (values_at rows hs all n h d f lt is)))

-- an object's number is that of a header
pub number_of_header : (rows : List (List Region)) (hs : List Header) (cells : List Value) (n len : ℕ) (objects : List Object)
    → objects_in rows hs cells ≡ objects → len ≡ length hs → n < length objects → (n < len) × (n < length hs)
number_of_header rows hs cells n len objects is same lt =
    let count : length objects ≡ length hs = sym (ap length is) ∙ length-objects_in rows hs cells in
    (omega arith, omega arith)

-- the header under a number, and its row
pub header_shown : (rows : List (List Region)) (hs : List Header) (all : List Value) (n : ℕ) (h : Header) (d : Object)
    → Follow 0 hs (length all) → n < length hs → h ≡ get_or hs n h
    → get_or (objects_in rows hs all) n d ≡ shown rows h (take h.len (drop h.start all))
header_shown rows hs all n h d f lt is = object_shown rows hs all 0 n d h f lt ∙ ap (λ g. shown rows g (take g.len (drop g.start all))) (sym is)

pub row_of_header : (rows : List (List Region)) (hs : List Header) (n : ℕ) (h : Header) → All (HasRow rows) hs → n < length hs → h ≡ get_or hs n h
    → HasRow rows h
row_of_header rows hs n h all lt is = subst (HasRow rows) (sym is) (all n h lt)

one_pattern : (row : List Region) → length row ≡ 1 → row ≡ first_region row ∷ []
one_pattern [] len = absurd (omega arith)
one_pattern (r ∷ []) len = refl
one_pattern (r ∷ s ∷ row) len = absurd (omega arith)

pub regions_of-object_of : (k : Kind) (row : List Region) (values : List Value) → FitsKind k row → row ≡ regions_of (object_of k row values)
regions_of-object_of (Instance class) row values fits = refl
regions_of-object_of Array row values fits = one_pattern row fits

pub class_of-instance : (k : Kind) (class : ℕ) (row : List Region) (values : List Value) → k ≡ Instance class → Some class ≡ class_of (object_of k row values)
class_of-instance k class row values is = ap (λ kind. class_of (object_of kind row values)) (sym is)

pub class_of-array : (k : Kind) (row : List Region) (values : List Value) → k ≡ Array → None ≡ class_of (object_of k row values)
class_of-array k row values is = ap (λ kind. class_of (object_of kind row values)) (sym is)
