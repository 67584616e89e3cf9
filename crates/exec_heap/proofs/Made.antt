-- A heap with one object more: what its vectors show then, and that they keep their shape.
use Rattle.std.proofs.Common.{◌≡◌, ℕ, ◌+◌, ◌-◌, ◌<◌, ◌≤◌, List, [], ◌∷◌, ◌++◌, length, take, get_or, replicate, sym, ap, zero-add, subst, ◌∙◌, inl, inr, arith, length-append, zero, suc}
use Rattle.std.proofs.lemmas.List.{take_all, length-replicate}
use Rattle.std.proofs.lemmas.Option.{get_or_from_slice_get, slice_get_within}
use Rattle.std.proofs.lemmas.List.Elements.{All-append}
use Rattle.std.specs.Prelude.{All}
use Rattle.lang_base.specs.declared.region.Region.{Region}
use Rattle.lang_base.specs.declared.value.Value.{Value}
use Rattle.exec_heap.specs.Rows.{Placed}
use Rattle.exec_heap.specs.Flat.{first_region, object_of, objects_in, Follow, FitsKind, HasRow, IsFlat}
use Rattle.exec_heap.specs.Heap.{Object, array, Contents, with_object}
use Rattle.exec_heap.specs.declared.header.Header.{Header}
use Rattle.exec_heap.proofs.Flat.{object_pushed, follow_pushed, objects_with_rows, all_rows_kept}

row_placed : (rows new : List (List Region)) (regions : List Region) (n : ℕ) → Placed rows regions n new → get_or new n [] ≡ regions
row_placed rows new regions n p = get_or_from_slice_get new n regions [] p.found

-- more rows change nothing that is shown
rows_placed : (rows new : List (List Region)) (regions : List Region) (n : ℕ) (hs : List Header) (cells : List Value)
    → Placed rows regions n new → All (HasRow rows) hs → objects_in new hs cells ≡ objects_in rows hs cells
rows_placed rows new regions n hs cells p all =
    elim p.kept [
      | inl same ↦ ap (λ rs. objects_in rs hs cells) same
      | inr more ↦ ap (λ rs. objects_in rs hs cells) more.1 ∙ objects_with_rows rows (regions ∷ []) hs cells all
    ]

pub object_made : (rows new : List (List Region)) (regions : List Region) (hs : List Header) (h : Header) (cells values : List Value)
    → Placed rows regions h.row new → All (HasRow rows) hs → Follow 0 hs (length cells) → h.len ≡ length values
    → objects_in new (hs ++ h ∷ []) (cells ++ values) ≡ objects_in rows hs cells ++ object_of h.kind regions values ∷ []
object_made rows new regions hs h cells values p all f len =
    object_pushed new hs h cells values 0 (subst (Follow 0 hs) (sym (zero-add (length cells))) f) len
    ∙ ap (λ os. os ++ object_of h.kind (get_or new h.row []) values ∷ []) (rows_placed rows new regions h.row hs cells p all)
    ∙ ap (λ row. objects_in rows hs cells ++ object_of h.kind row values ∷ []) (row_placed rows new regions h.row p)

-- the vectors after one object more: room was made, the values were put after the cells and the header after the headers
pub record Grown (cells : List Value) (hs : List Header) (h : Header) (values : List Value) (room_cells new_cells : List Value)
    (room_hs new_hs : List Header) : Type 0 where
  pub roomy_cells : room_cells ≡ cells
  pub new_cells_are : new_cells ≡ room_cells ++ values
  pub roomy_hs : room_hs ≡ hs
  pub new_hs_are : new_hs ≡ room_hs ++ h ∷ []
  pub start : h.start ≡ length cells
  pub len : h.len ≡ length values

pub object_grown : (cells values room_cells new_cells : List Value) (hs room_hs new_hs : List Header) (h : Header) (rows new : List (List Region))
    (regions : List Region) (used limit : ℕ)
    → Grown cells hs h values room_cells new_cells room_hs new_hs → IsFlat cells hs rows used limit → Placed rows regions h.row new
    → objects_in new new_hs new_cells ≡ objects_in rows hs cells ++ object_of h.kind regions values ∷ []
object_grown cells values room_cells new_cells hs room_hs new_hs h rows new regions used limit g flat p =
    ap (λ a. objects_in new a new_cells) (g.new_hs_are ∙ ap (λ a. a ++ h ∷ []) g.roomy_hs)
    ∙ ap (objects_in new (hs ++ h ∷ [])) (g.new_cells_are ∙ ap (λ a. a ++ values) g.roomy_cells)
    ∙ object_made rows new regions hs h cells values p flat.rows_there flat.follow g.len

all_with : (rows new : List (List Region)) (regions : List Region) (hs : List Header) (h : Header)
    → Placed rows regions h.row new → FitsKind h.kind regions → All (HasRow rows) hs → All (HasRow new) (hs ++ h ∷ [])
all_with rows new regions hs h p fits all =
    let kept : All (HasRow new) hs = elim p.kept [
      | inl same ↦ subst (λ rs. All (HasRow rs) hs) (sym same) all
      | inr more ↦ subst (λ rs. All (HasRow rs) hs) (sym more.1) (all_rows_kept rows (regions ∷ []) hs all)
    ] in
    let there : h.row < length new = slice_get_within new h.row regions p.found in
    let one : FitsKind h.kind (get_or new h.row []) = subst (FitsKind h.kind) (sym (row_placed rows new regions h.row p)) fits in
    All-append (HasRow new) hs (h ∷ []) kept (All-from_one new h (there, one))
  where
    All-from_one : (rs : List (List Region)) (k : Header) → HasRow rs k → All (HasRow rs) (k ∷ [])
    All-from_one rs k has zero d lt = has
    All-from_one rs k has (suc n) d lt = absurd (omega arith)

few_with : (rows new : List (List Region)) (regions : List Region) (n row : ℕ) → Placed rows regions row new → length rows ≤ n → length new ≤ n + 1
few_with rows new regions n row p le =
    elim p.kept [
      | inl same ↦ omega (arith, ap length same)
      | inr more ↦ omega (arith, ap length more.1, length-append rows (regions ∷ []))
    ]

pub flat_grown : (cells values room_cells new_cells : List Value) (hs room_hs new_hs : List Header) (h : Header) (rows new : List (List Region))
    (regions : List Region) (used limit asked : ℕ)
    → Grown cells hs h values room_cells new_cells room_hs new_hs → IsFlat cells hs rows used limit → Placed rows regions h.row new → FitsKind h.kind regions
    → asked ≡ 1 + length values → asked ≤ limit - used → IsFlat new_cells new_hs new (used + asked) limit
flat_grown cells values room_cells new_cells hs room_hs new_hs h rows new regions used limit asked g flat p fits is le =
    let cells_are : new_cells ≡ cells ++ values = g.new_cells_are ∙ ap (λ a. a ++ values) g.roomy_cells in
    let hs_are : new_hs ≡ hs ++ h ∷ [] = g.new_hs_are ∙ ap (λ a. a ++ h ∷ []) g.roomy_hs in
    let count_cells : length new_cells ≡ length cells + length values = ap length cells_are ∙ length-append cells values in
    let count_hs : length new_hs ≡ length hs + 1 = ap length hs_are ∙ length-append hs (h ∷ []) in
    let few : length new ≤ length hs + 1 = few_with rows new regions (length hs) h.row p flat.few_rows in
    record {
      follow = subst (λ a. Follow 0 a (length new_cells)) (sym hs_are)
          (follow_pushed 0 hs (length cells) h (length new_cells) flat.follow g.start (omega (arith, g.len)));
      rows_there = subst (All (HasRow new)) (sym hs_are) (all_with rows new regions hs h p fits flat.rows_there);
      few_rows = omega arith;
      counted = omega (arith, flat.counted);
      within = omega (arith, flat.within);
      small = flat.small;
    }

-- filling up to a length after the cells puts that many values after them
pub filled : (cells : List Value) (n start len : ℕ) (v : Value) → start ≡ length cells → len ≡ length cells
    → take (start + n) cells ++ replicate ((start + n) - len) v ≡ cells ++ replicate n v
filled cells n start len v begin is =
    let count : (start + n) - len ≡ n = omega arith in
    ap (λ a. a ++ replicate ((start + n) - len) v) (take_all (start + n) cells (omega arith)) ∙ ap (λ a. cells ++ replicate a v) count

-- the heap with an array more, as it is counted
pub array_counted : (old new : List Object) (used from n limit : ℕ) (v : Value) (regions : List Region) (pattern : Region)
    → new ≡ old ++ array (first_region regions) (replicate n v) ∷ [] → from ≡ n → regions ≡ pattern ∷ []
    → ◌≡◌ {A = Contents} (record { objects = new; used = used + (1 + from); limit = limit }) (with_object (record {
      objects = old;
      used = used;
      limit = limit;
    }) (array pattern (replicate n v)))
array_counted old new used from n limit v regions pattern are is one =
    ap (λ os. record { objects = os; used = used + (1 + from); limit = limit }) (are ∙ ap (λ rs. old ++ array (first_region rs) (replicate n v) ∷ []) one)
    ∙ ap (λ k. record { objects = old ++ array pattern (replicate n v) ∷ []; used = used + (1 + k); limit = limit }) (is ∙ sym (length-replicate n v))
