-- The sample is well typed: its classes, its members, and `main`.
use Rattle.std.proofs.Common.{◌≡◌, ℕ, zero, suc, All, [], ◌∷◌, Some, IsTrue, slice_get, length, ◌<◌, ◌⊎◌, ◌≢◌, refl, sym, ap, ◌∙◌, subst, inl, inr, arith}
use Rattle.std.proofs.lemmas.Bool.{true≢false}
use Rattle.std.proofs.lemmas.List.Elements.{All-nil}
use Rattle.lang_base.specs.declared.elems.Elem.TheVariants.{Name, Star}
use Rattle.lang_base.specs.Effects.{covers_effect}
use Rattle.lang_base.specs.Regions.{fully_specified, generalised, substituted, within}
use Rattle.lang_base.specs.Types.{int}
use Rattle.lang_typed.specs.Effects.{does, reads, writes}
use Rattle.lang_typed.specs.Plain.{PlainClass, PlainParent}
use Rattle.lang_typed.specs.Plain.{ExprForm as expr}
use Rattle.lang_typed.specs.Samples.{anything, below_root}
use Rattle.lang_typed.specs.Scope.{IsBelow, Scope, below, in_atomic_block, itself, parent_of, row_at, same, through_parent, variable, with_local}
use Rattle.lang_typed.specs.Statements.{Passes, atomic, declare, no_more, return_nothing, return_value, store, store_field, then'}
use Rattle.lang_typed.specs.Table.{Extends, GoodClass, GoodConstraint, GoodField, GoodMember, IsConstructor, KeepsRow, Overrides, RowIsThere, body_scope, class_scope, member_scope}
use Rattle.lang_typed.specs.Types.{GoodElem, GoodPath, GoodType, Known, ints}
use Rattle.lang_typed.specs.Typing.{Has, call_method, none, read_field}
use Rattle.lang_typed.specs.WellTyped.{GoodMain, WellTyped}
use Rattle.trial_samples.specs.Sample.{sample, an_int, apart_params, cell, cell_constructor, class_cell, class_counter, class_main, class_shape, class_square, counter_get, counter_raise}
use Rattle.trial_samples.specs.Sample.{counter_this, get_of, gets, local_of, main_method, marked_read, marked_write, param, raises, shape_area, side, side_field, square_area}
use Rattle.trial_samples.proofs.Main.{main_covered, main_effects, main_passes}
use Rattle.trial_samples.proofs.Small.{all_one, all_two, alone, calculates, nd_free, each_of, int_known, int_readable, named_good, no_args, nothing_there, one_arg, outer, same_effects, small, some_is, var}

-- a superclass stands before its subclass
abbrev by_number : ℕ → ℕ
by_number c = c

param_good : (L : Scope) (depth p : ℕ) → p < length L.atomic → GoodPath sample L depth (param p)
param_good L depth p h = record { begins = h; elems = All-nil (GoodElem sample L depth) }

own_field : (k : PlainClass) → 0 < length k.params → GoodField sample k (record { ty = int; region = param 0 })
own_field k h = record { ty = tt; path = param_good (class_scope k) 0 0 h; full = refl }

cell_good : GoodClass sample by_number 0 class_cell
cell_good = record {
  given = All-nil (GoodConstraint sample (class_scope class_cell));
  parent = λ p e. nothing_there p e;
  fields = all_one (GoodField sample class_cell) _ (own_field class_cell (omega arith));
  rows = All-nil (RowIsThere sample 0);
  constructor = λ n e. subst (IsConstructor sample 0) (some_is 0 n e)
      (record { member = cell_constructor; is = refl; own = refl; params = refl; given = refl; result = refl });
}

shape_good : GoodClass sample by_number 1 class_shape
shape_good = record {
  given = All-nil (GoodConstraint sample (class_scope class_shape));
  parent = λ p e. nothing_there p e;
  fields = all_one (GoodField sample class_shape) side_field (own_field class_shape (omega arith));
  rows = all_one (RowIsThere sample 1) 1 (shape_area, refl, same);
  constructor = λ n e. nothing_there n e;
}

-- the area of a square in place of that of a shape
overrides : Overrides sample 2 class_square square_area shape_area
unfolding covers_effect substituted within
overrides = record {
  own = refl;
  seen = param 0 ∷ [];
  sees = through_parent refl itself;
  params = refl;
  given = refl;
  formals = (refl, tt);
  result = refl;
  covered = refl;
}

rows_kept : (r n : ℕ) → slice_get (1 ∷ []) r ≡ Some n → (m : ℕ) × (slice_get (2 ∷ []) r ≡ Some m) × KeepsRow sample 2 class_square n m
rows_kept zero n e = (2, refl, subst (λ k. KeepsRow sample 2 class_square k 2) (some_is 1 n e) (inr (square_area, shape_area, refl, refl, overrides)))
rows_kept (suc r) n e = nothing_there n e

extends : Extends sample by_number 2 class_square (record { class = 1; args = param 0 ∷ [] })
unfolding substituted
extends = record {
  above = class_shape;
  is = refl;
  before = omega arith;
  args = one_arg (class_scope class_square) [] (param 0) (param_good (class_scope class_square) 0 0 (omega arith));
  full = all_one (λ a. IsTrue (fully_specified a)) (param 0) refl;
  no_constructor = refl;
  own_fields = [];
  fields = refl;
  rows = rows_kept;
}

square_good : GoodClass sample by_number 2 class_square
square_good = record {
  given = All-nil (GoodConstraint sample (class_scope class_square));
  parent = λ p e. subst (Extends sample by_number 2 class_square) (some_is _ p e) extends;
  fields = all_one (GoodField sample class_square) side_field (own_field class_square (omega arith));
  rows = all_one (RowIsThere sample 2) 2 (square_area, refl, same);
  constructor = λ n e. nothing_there n e;
}

named_field : (n : ℕ) → n < 3 → GoodField sample class_main (record { ty = int; region = below_root (Name n ∷ []) })
named_field n h = record { ty = tt; path = named_good (class_scope class_main) 0 n h; full = refl }

main_class_good : GoodClass sample by_number 4 class_main
main_class_good = record {
  given = All-nil (GoodConstraint sample (class_scope class_main));
  parent = λ p e. nothing_there p e;
  fields = all_two (GoodField sample class_main) _ _ (named_field 1 (omega arith)) (named_field 2 (omega arith));
  rows = all_one (RowIsThere sample 4) 5 (main_method, refl, same);
  constructor = λ n e. nothing_there n e;
}

-- the constructor writes its field
cell_constructor_good : GoodMember sample nd_free 0 cell_constructor
unfolding covers_effect substituted within
cell_constructor_good = record {
  class = class_cell;
  is = refl;
  given = All-nil (GoodConstraint sample (member_scope class_cell cell_constructor));
  formals = all_one (GoodType sample (member_scope class_cell cell_constructor) 0) int tt;
  result = inl refl;
  summary = all_one (λ e. GoodPath sample (member_scope class_cell cell_constructor) 0 e.rpl) (writes (param 0))
      (param_good (member_scope class_cell cell_constructor) 0 0 (omega arith));
  room = omega arith;
  effects = does (writes (param 0)) ∷ [];
  passes = then' (store_field (outer refl) refl refl (int_known (param 0 ∷ [])) (var refl) ints) (inl refl) (then' (return_nothing refl) (inr refl) no_more);
  covered = refl;
  ends = inl refl;
}

-- in a scope of two region parameters
area_formals : (L : Scope) → 1 < length L.atomic → All (GoodType sample L 0) (cell (param 1) ∷ [])
area_formals L h = all_one (GoodType sample L 0) (cell (param 1)) (class_cell, refl, one_arg L [] (param 1) (param_good L 0 1 h))

area_given : (L : Scope) → 1 < length L.atomic → All (GoodConstraint sample L) (apart_params ∷ [])
area_given L h = all_one (GoodConstraint sample L) apart_params (param_good L 0 0 (omega arith), param_good L 0 1 h)

area_summary : (L : Scope) → 1 < length L.atomic → All (λ e. GoodPath sample L 0 e.rpl) (reads (param 0) ∷ reads (param 1) ∷ [])
area_summary L h = all_two (λ e. GoodPath sample L 0 e.rpl) (reads (param 0)) (reads (param 1)) (param_good L 0 0 (omega arith)) (param_good L 0 1 h)

shape_area_good : GoodMember sample nd_free 1 shape_area
unfolding covers_effect substituted within
shape_area_good = record {
  class = class_shape;
  is = refl;
  given = area_given (member_scope class_shape shape_area) (omega arith);
  formals = area_formals (member_scope class_shape shape_area) (omega arith);
  result = inr tt;
  summary = area_summary (member_scope class_shape shape_area) (omega arith);
  room = omega arith;
  effects = does (reads (param 0)) ∷ [];
  passes = alone (return_value refl (read_field {f = side_field} (outer refl) refl refl (int_readable (param 0 ∷ [])) refl) ints);
  covered = refl;
  ends = inr refl;
}

reads_side : Has sample (body_scope class_square nd_free 2 square_area) (side 2) (does (reads (param 0)) ∷ [])
unfolding substituted
reads_side = read_field {f = side_field} (outer refl) refl refl (int_readable (param 0 ∷ [])) refl

reads_unit : Has sample (body_scope class_square nd_free 2 square_area) (an_int (expr.field (local_of (cell (param 1)) 1) 0 0)) (does (reads (param 1)) ∷ [])
unfolding substituted
reads_unit = read_field {f = side_field} (var refl) refl refl (int_readable (param 1 ∷ [])) refl

square_area_good : GoodMember sample nd_free 2 square_area
unfolding covers_effect substituted within
square_area_good = record {
  class = class_square;
  is = refl;
  given = area_given (member_scope class_square square_area) (omega arith);
  formals = area_formals (member_scope class_square square_area) (omega arith);
  result = inr tt;
  summary = area_summary (member_scope class_square square_area) (omega arith);
  room = omega arith;
  effects = does (reads (param 0)) ∷ does (reads (param 0)) ∷ does (reads (param 1)) ∷ [];
  passes = alone (return_value refl (calculates (calculates reads_side reads_side refl) reads_unit refl) ints);
  covered = refl;
  ends = inr refl;
}

-- the counter: what its methods do they do in blocks
counter_good : GoodClass sample by_number 3 class_counter
counter_good = record {
  given = All-nil (GoodConstraint sample (class_scope class_counter));
  parent = λ p e. nothing_there p e;
  fields = all_one (GoodField sample class_counter) _ (own_field class_counter (omega arith));
  rows = all_two (RowIsThere sample 3) 3 4 (counter_get, refl, same) (counter_raise, refl, same);
  constructor = λ n e. nothing_there n e;
}

gets_pass : Passes sample (with_local 1 (variable int) (body_scope class_counter nd_free 3 counter_get)) gets (does (marked_read (param 0)) ∷ [])
unfolding substituted
gets_pass = atomic (alone (store refl (read_field {f = side_field} (outer refl) refl refl (int_readable (param 0 ∷ [])) refl) ints)) (same_effects (marked_read (param 0) ∷ []))

get_good : GoodMember sample nd_free 3 counter_get
unfolding covers_effect within generalised
get_good = record {
  class = class_counter;
  is = refl;
  given = All-nil (GoodConstraint sample (member_scope class_counter counter_get));
  formals = All-nil (GoodType sample (member_scope class_counter counter_get) 0);
  result = inr tt;
  summary = all_one (λ e. GoodPath sample (member_scope class_counter counter_get) 0 e.rpl) (marked_read (param 0))
      (param_good (member_scope class_counter counter_get) 0 0 (omega arith));
  room = omega arith;
  effects = does (marked_read (param 0)) ∷ [];
  passes = declare (refl, omega arith) tt (small 0 tt) ints (then' gets_pass (inl refl) (alone (return_value refl (var refl) ints)));
  covered = refl;
  ends = inr refl;
}

-- the shape alone has a class below it
parent_is_shape : (c : ℕ) (p : PlainParent) → parent_of sample c ≡ Some p → p.class ≡ 1
parent_is_shape zero p e = nothing_there p e
parent_is_shape (suc zero) p e = nothing_there p e
parent_is_shape (suc (suc zero)) p e = sym (ap (λ (q : PlainParent). q.class) (some_is _ p e))
parent_is_shape (suc (suc (suc zero))) p e = nothing_there p e
parent_is_shape (suc (suc (suc (suc zero)))) p e = nothing_there p e
parent_is_shape (suc (suc (suc (suc (suc c))))) p e = nothing_there p e

itself_or_shape : {c d : ℕ} → IsBelow sample c d → (c ≡ d) ⊎ (d ≡ 1)
itself_or_shape same = inl refl
itself_or_shape {c} {d} (below {p = p} e h) = inr (go (itself_or_shape h))
  where
    go : (p.class ≡ d) ⊎ (d ≡ 1) → d ≡ 1
    go (inl k) = sym k ∙ parent_is_shape c p e
    go (inr k) = k

-- so the first method of the counter is the one that a call of it reaches, and that forks nothing
only_counter : (c d : ℕ) → d ≢ 1 → (c ≡ d) ⊎ (d ≡ 1) → c ≡ d
only_counter c d n (inl k) = k
only_counter c d n (inr k) = absurd (n k)

get_stays_nd_free : (d m : ℕ) → IsBelow sample d 3 → row_at sample d 0 ≡ Some m → IsTrue (nd_free m)
get_stays_nd_free d m h e =
    let k : Some 3 ≡ Some m = subst (λ c. row_at sample c 0 ≡ Some m) (only_counter d 3 (λ e. (omega arith)) (itself_or_shape h)) e in
    subst (λ n. IsTrue (nd_free n)) (some_is 3 m k) refl

raises_pass : Passes sample (body_scope class_counter nd_free 4 counter_raise) raises (does (marked_read (param 0)) ∷ does (marked_write (param 0)) ∷ [])
unfolding substituted
raises_pass =
    atomic (alone (store_field (outer refl) refl refl (int_known (param 0 ∷ [])) (calculates gets_count (var refl) refl) ints))
    (same_effects (marked_read (param 0) ∷ marked_write (param 0) ∷ []))
  where
    gets_count : Has sample (in_atomic_block (body_scope class_counter nd_free 4 counter_raise)) (get_of counter_this) (does (marked_read (param 0)) ∷ [])
    gets_count =
        call_method {r = 0} {n = 3} {m = counter_get} (outer refl) refl refl refl itself (no_args _ (param 0 ∷ [])) (All-nil (λ a. IsTrue (fully_specified a)))
        (All-nil (Known (param 0 ∷ []))) (int_readable (param 0 ∷ [])) none (λ c. get_stays_nd_free) refl

raise_good : GoodMember sample nd_free 4 counter_raise
unfolding covers_effect within
raise_good = record {
  class = class_counter;
  is = refl;
  given = All-nil (GoodConstraint sample (member_scope class_counter counter_raise));
  formals = all_one (GoodType sample (member_scope class_counter counter_raise) 0) int tt;
  result = inl refl;
  summary = all_one (λ e. GoodPath sample (member_scope class_counter counter_raise) 0 e.rpl) (marked_write (param 0))
      (param_good (member_scope class_counter counter_raise) 0 0 (omega arith));
  room = omega arith;
  effects = does (marked_read (param 0)) ∷ does (marked_write (param 0)) ∷ [];
  passes = alone raises_pass;
  covered = refl;
  ends = inl refl;
}

main_good : GoodMember sample nd_free 5 main_method
main_good = record {
  class = class_main;
  is = refl;
  given = All-nil (GoodConstraint sample (member_scope class_main main_method));
  formals = all_one (GoodType sample (member_scope class_main main_method) 0) int tt;
  result = inr tt;
  summary = all_one (λ e. GoodPath sample (member_scope class_main main_method) 0 e.rpl) anything
      (record { begins = tt; elems = all_one (GoodElem sample (member_scope class_main main_method) 0) Star tt });
  room = omega arith;
  effects = main_effects;
  passes = main_passes;
  covered = main_covered;
  ends = inr refl;
}

begins_in_main : GoodMain sample
begins_in_main = record {
  class = class_main;
  class_is = refl;
  no_class_params = refl;
  nothing_given_of_class = refl;
  no_constructor = refl;
  member = main_method;
  member_is = refl;
  own = refl;
  no_params = refl;
  nothing_given = refl;
  formals = refl;
  result = refl;
}

pub well_typed : WellTyped sample
well_typed = record {
  rank = by_number;
  member_nd_free = nd_free;
  main = begins_in_main;
  without_nd = λ e. absurd (true≢false e);
  classes = each_of (GoodClass sample by_number) sample.classes (cell_good, (shape_good, (square_good, (counter_good, (main_class_good, tt)))));
  members = each_of (GoodMember sample nd_free) sample.members (cell_constructor_good, (shape_area_good, (square_area_good, (get_good, (raise_good, (main_good, tt))))));
}
