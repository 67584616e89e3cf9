-- The code does alike in a machine and with the names of a run: one clause an instruction.
use Rattle.std.specs.Int.{w32, int_wrapping_add}
use Rattle.std.proofs.Common.{◌≡◌, ℕ, zero, suc, ◌-◌, ℤ, pos, negsuc, Bool, true, false, cond, List, [], ◌∷◌, map, length, refl, ap, ap₂, ◌∙◌, subst, Option, Some, None, slice_get, arith}
use Rattle.std.specs.Prelude.{slice_index_or}
use Rattle.lang_base.specs.declared.place.Place.{Place}
use Rattle.lang_base.specs.declared.value.Trap.{Trap}
use Rattle.lang_base.specs.declared.value.Trap.TheVariants as trap
use Rattle.lang_base.specs.declared.value.FirstValue.{FirstValue}
use Rattle.lang_base.specs.declared.value.FirstValue.TheVariants as held
use Rattle.lang_base.specs.declared.op.BinaryOp.{BinaryOp}
use Rattle.lang_meaning.specs.Values.{Value, Region}
use Rattle.lang_typed.specs.declared.stmt.Forking.{Forking}
use Rattle.lang_meaning.specs.Actions.{Frame, Assigned, Read, Write, Print, Do, Fork}
use Rattle.lang_meaning.specs.Counts.{number, truth, value_read, is_out, part_place, how_many, assigned, Brought, text_of, line}
use Rattle.lang_meaning.specs.Expressions.{none}
use Rattle.lang_meaning.specs.Regions.{around, concrete, regions_above}
use Rattle.code_instrs.specs.declared.instr.Instr.{Instr}
use Rattle.code_instrs.specs.declared.instr.Instr.TheVariants as i
use Rattle.code_instrs.specs.Machine.{Level, State, On, Off, Stand, Goes, Waits, next, one, two, three, taken, trapped, or_trap, unless_null, cell_read, cell_written, reads, writes, deeper, unless_long, entered, calls_method, enters, called, held_first, creates, created, array_of, makes_array, returned, left_with, below, started, forked, each_started, waiting, spread, joined, all_copied, joins_fork, joins_spread, joins_site, site_of, line_before, joins, copies_of, ends_branch, in_part, operates, exec, exec_line, enters_block, rested_at, rested_line, step}
use Rattle.code_instrs.specs.Plain.{Line, Site, fork_site, spread_site, block_site, call_site, new_site, array_site, Method, PlainCode, body_at, class_at, parent_of, method_at, constructor_of, fields_of}
use Rattle.runs_theory.specs.Objects.{Path, Name, LocalRegion}
use Rattle.runs_program.specs.Steps.{named_by}
use Rattle.exec_task.specs.Names.{names_of}
use Rattle.runs_elision.proofs.Worlds.{Names, Distinct, name_later, ValueLike, int_like, boolean_like, null_like, object_like, ValuesLike, no_values, more_values, values_later, BroughtLike, back_like, trap_like, returned_like, assigned_like, trapped_like}
use Rattle.runs_elision.proofs.Counts.{number_like, truth_like, text_like, int_of, slot_like, set_like, padded_like, reverse_like, assigned_alike, copied_like, part_place_like, part_taken_like, numbered_like, MaybeLike, none_like, some_like, operated_like, unary_like}
use Rattle.runs_simulation.proofs.alike.Sights.{Sight, each_none, each_more, each_append, RegionsLike, RegionLike, FrameLike, LevelLike, level_later, LevelsLike, levels_later, StateLike, on_like, rested_like, off_like, nowhere_like, StartsLike, regions_later}
use Rattle.runs_simulation.proofs.alike.Sights.{an_object, an_array, rest_like, read_like, write_like, look_like, new_like, print_like, enter_like, exit_like, do_like, fork_like, begin_like, join_like, StandLike, goes_like, ticks_like, makes_like, waits_like, ends_like, stuck_like}
use Rattle.runs_simulation.proofs.alike.Readings.{each_set, concrete_like, concretes_like, effects_like, unmade_from_like, regions_above_like, is_long_like, some_long_like, is_out_like, length_seen_like, name_made_like, brought_like, SeenLike, class_entered_like}
use Rattle.runs_simulation.proofs.alike.Readings.{read_like as read_answer}

abbrev StandIn : Type 0
StandIn = Stand ℕ (ℕ × ℕ)

abbrev StandOf : Type 0
StandOf = Stand Name LocalRegion

abbrev LevelIn : Type 0
LevelIn = Level ℕ (ℕ × ℕ)

abbrev LevelOf : Type 0
LevelOf = Level Name LocalRegion

-- states
next_like : {w : Sight} {g : LevelIn} {h : LevelOf} {gs : List LevelIn} {hs : List LevelOf} {st : List (Value ℕ)} {ut : List (Value Name)} → LevelLike w g h
    → LevelsLike w gs hs → ValuesLike w.names st ut → StateLike w (next g st gs) (next h ut hs)
next_like l ls s = on_like (record { body = l.body; at = ap (λ n. suc n) l.at; frame = l.frame; stack = s }) ls

past_like : {w : Sight} {g : LevelIn} {h : LevelOf} {st : List (Value ℕ)} {ut : List (Value Name)} → LevelLike w g h → ValuesLike w.names st ut
    → LevelLike w (record g { at = suc g.at; stack = st }) (record h { at = suc h.at; stack = ut })
past_like l s = record { body = l.body; at = ap (λ n. suc n) l.at; frame = l.frame; stack = s }

with_stack : {w : Sight} {g : LevelIn} {h : LevelOf} {st : List (Value ℕ)} {ut : List (Value Name)} → LevelLike w g h → ValuesLike w.names st ut
    → LevelLike w (record g { stack = st }) (record h { stack = ut })
with_stack l s = record { body = l.body; at = l.at; frame = l.frame; stack = s }

with_values_like : {w : Sight} {g : LevelIn} {h : LevelOf} {vs st : List (Value ℕ)} {us ut : List (Value Name)} → LevelLike w g h
    → ValuesLike w.names vs us → ValuesLike w.names st ut
    → LevelLike w (record g { at = suc g.at; frame = record g.frame { values = vs }; stack = st }) (record h { at = suc h.at; frame = record h.frame { values = us }; stack = ut })
with_values_like l v s = record {
  body = l.body;
  at = ap (λ n. suc n) l.at;
  frame = record { values = v; regions = l.frame.regions; locals = l.frame.locals; left = l.frame.left };
  stack = s;
}

off_trapped : {w : Sight} (t : Trap) (at : Place) → StateLike w (trapped t at) (trapped t at)
off_trapped t at = off_like (trapped_like t at)

state_if : {w : Sight} {s t : State ℕ (ℕ × ℕ)} {u v : State Name LocalRegion} (a b : Bool) → a ≡ b → StateLike w s u → StateLike w t v
    → StateLike w (cond a s t) (cond b u v)
state_if true true e h k = h
state_if true false e h k = absurd (cc)
state_if false true e h k = absurd (cc)
state_if false false e h k = k

-- what is taken off a stack
one_like : {w : Sight} {st : List (Value ℕ)} {ut : List (Value Name)} {f : Value ℕ → List (Value ℕ) → StandIn} {g : Value Name → List (Value Name) → StandOf}
    → ValuesLike w.names st ut
    → ((v : Value ℕ) (u : Value Name) (vs : List (Value ℕ)) (us : List (Value Name)) → ValueLike w.names v u → ValuesLike w.names vs us → StandLike w (f v vs) (g u us))
    → StandLike w (one st f) (one ut g)
one_like no_values h = stuck_like
one_like (more_values {v} {u} {vs} {us} a b) h = h v u vs us a b

two_like : {w : Sight} {st : List (Value ℕ)} {ut : List (Value Name)} {f : Value ℕ → Value ℕ → List (Value ℕ) → StandIn}
    {g : Value Name → Value Name → List (Value Name) → StandOf} → ValuesLike w.names st ut
    → ((v v' : Value ℕ) (u u' : Value Name) (vs : List (Value ℕ)) (us : List (Value Name)) → ValueLike w.names v u → ValueLike w.names v' u' → ValuesLike w.names vs us
    → StandLike w (f v v' vs) (g u u' us)) → StandLike w (two st f) (two ut g)
two_like a h = one_like a (λ v' u' more more' b s. one_like s (λ v u vs us c t. h v v' u u' vs us c b t))

three_like : {w : Sight} {st : List (Value ℕ)} {ut : List (Value Name)} {f : Value ℕ → Value ℕ → Value ℕ → List (Value ℕ) → StandIn}
    {g : Value Name → Value Name → Value Name → List (Value Name) → StandOf} → ValuesLike w.names st ut
    → ((x y z : Value ℕ) (x' y' z' : Value Name) (vs : List (Value ℕ)) (us : List (Value Name)) → ValueLike w.names x x' → ValueLike w.names y y'
    → ValueLike w.names z z' → ValuesLike w.names vs us → StandLike w (f x y z vs) (g x' y' z' us)) → StandLike w (three st f) (three ut g)
three_like a h = one_like a (λ z z' more more' b s. two_like s (λ x y x' y' vs us c d t. h x y z x' y' z' vs us c d b t))

taken_like : {w : Sight} (n : ℕ) {st : List (Value ℕ)} {ut : List (Value Name)} {f : List (Value ℕ) → List (Value ℕ) → StandIn}
    {g : List (Value Name) → List (Value Name) → StandOf} → ValuesLike w.names st ut
    → ((vs rest : List (Value ℕ)) (us rest' : List (Value Name)) → ValuesLike w.names vs us → ValuesLike w.names rest rest' → StandLike w (f vs rest) (g us rest'))
    → StandLike w (taken n st f) (taken n ut g)
taken_like zero {st} {ut} a h = h [] st [] ut no_values a
taken_like (suc n) no_values h = stuck_like
taken_like (suc n) (more_values {v} {u} a b) h = taken_like n b (λ vs rest us rest' c d. h (v ∷ vs) rest (u ∷ us) rest' (more_values a c) d)

maybe_like : {w : Sight} (t : Trap) (at : Place) {o : Option (Value ℕ)} {r : Option (Value Name)} {f : Value ℕ → StandIn} {g : Value Name → StandOf}
    → MaybeLike w.names o r → ((v : Value ℕ) (u : Value Name) → ValueLike w.names v u → StandLike w (f v) (g u)) → StandLike w (or_trap t at o f) (or_trap t at r g)
maybe_like t at none_like h = goes_like (off_trapped t at)
maybe_like t at (some_like {v} {u} a) h = h v u a

place_like : {w : Sight} (t : Trap) (at : Place) (o r : Option ℤ) {f : ℤ → StandIn} {g : ℤ → StandOf} → o ≡ r → ((x : ℤ) → StandLike w (f x) (g x))
    → StandLike w (or_trap t at o f) (or_trap t at r g)
place_like t at None None e h = goes_like (off_trapped t at)
place_like t at None (Some y) e h = absurd (cc)
place_like t at (Some x) None e h = absurd (cc)
place_like {w} t at (Some x) (Some y) {f} {g} e h = let same : x ≡ y = cc in subst (λ (z : ℤ). StandLike w (f x) (g z)) same (h x)

unless_null_like : {w : Sight} (at : Place) {v : Value ℕ} {u : Value Name} {f : ℕ → StandIn} {g : Name → StandOf} → ValueLike w.names v u
    → ((n : ℕ) (x : Name) → slice_get w.names n ≡ Some x → StandLike w (f n) (g x)) → StandLike w (unless_null at v f) (unless_null at u g)
unless_null_like at (int_like j) h = goes_like (off_trapped trap.Null at)
unless_null_like at (boolean_like b) h = goes_like (off_trapped trap.Null at)
unless_null_like at null_like h = goes_like (off_trapped trap.Null at)
unless_null_like at (object_like n x e) h = h n x e

deeper_like : {w : Sight} (m n : ℕ) (at : Place) {s : StandIn} {t : StandOf} → m ≡ n → StandLike w s t → StandLike w (deeper m at s) (deeper n at t)
deeper_like zero zero at e h = goes_like (off_trapped trap.Stack at)
deeper_like zero (suc n) at e h = absurd (omega arith)
deeper_like (suc m) zero at e h = absurd (omega arith)
deeper_like (suc m) (suc n) at e h = h

unless_long_like : {w : Sight} (a b : Bool) (at : Place) {s : StandIn} {t : StandOf} → a ≡ b → StandLike w s t → StandLike w (unless_long a at s) (unless_long b at t)
unless_long_like true true at e h = goes_like (off_trapped trap.Stack at)
unless_long_like true false at e h = absurd (cc)
unless_long_like false true at e h = absurd (cc)
unless_long_like false false at e h = h

-- cells
cell_read_like : {v : Sight} (at : Place) {o : Option (Value ℕ)} {r : Option (Value Name)} {g : LevelIn} {h : LevelOf} {st : List (Value ℕ)}
    {ut : List (Value Name)} {gs : List LevelIn} {hs : List LevelOf} → MaybeLike v.names o r → LevelLike v g h → ValuesLike v.names st ut → LevelsLike v gs hs
    → StateLike v (cell_read at o g st gs) (cell_read at r h ut hs)
cell_read_like at none_like l s ls = off_trapped trap.Index at
cell_read_like at (some_like a) l s ls = next_like l ls (more_values a s)

reads_like : {w : Sight} (at : Place) {v : Value ℕ} {u : Value Name} (x y : ℤ) {g : LevelIn} {h : LevelOf} {st : List (Value ℕ)} {ut : List (Value Name)}
    {gs : List LevelIn} {hs : List LevelOf} → ValueLike w.names v u → x ≡ y → LevelLike w g h → ValuesLike w.names st ut → LevelsLike w gs hs
    → StandLike w (reads at v x g st gs) (reads at u y h ut hs)
reads_like {w} at x y {g} {h} {st} {ut} {gs} {hs} a e l s ls =
    unless_null_like at a (λ n q there.
    subst (λ (z : ℤ). StandLike w (Waits (Do (Read n x)) (λ a. cell_read at (value_read a) g st gs)) (Waits (Do (Read q z)) (λ a. cell_read at (value_read a) h ut hs))) e
    (waits_like (do_like (read_like n q x there)) (λ v b c wide k. cell_read_like at (read_answer k) (level_later wide l) (values_later wide.names s) (levels_later wide ls))))

writes_like : {w : Sight} (at : Place) {v v' : Value ℕ} {u u' : Value Name} (x y : ℤ) {g : LevelIn} {h : LevelOf} {st : List (Value ℕ)} {ut : List (Value Name)}
    {gs : List LevelIn} {hs : List LevelOf} → ValueLike w.names v u → x ≡ y → ValueLike w.names v' u' → LevelLike w g h → ValuesLike w.names st ut
    → LevelsLike w gs hs → StandLike w (writes at v x v' g st gs) (writes at u y u' h ut hs)
writes_like {w} at {v' = v'} {u' = u'} x y {g} {h} {st} {ut} {gs} {hs} a e b l s ls =
    unless_null_like at a (λ n q there.
    subst (λ (z : ℤ). StandLike w (Waits (Do (Write n x v')) (λ a. cell_written at (is_out a) g st gs)) (Waits (Do (Write q z u')) (λ a. cell_written at (is_out a) h ut hs))) e
    (waits_like (do_like (write_like n q x there b)) (λ v c d wide k. state_if (is_out c) (is_out d) (is_out_like k) (off_trapped trap.Index at)
    (next_like (level_later wide l) (levels_later wide ls) (values_later wide.names s)))))

first_like : (w : Names) (c : FirstValue) → ValueLike w (held_first c) (held_first c)
first_like w held.Zero = int_like (pos 0)
first_like w held.False = boolean_like false
first_like w held.Null = null_like

firsts_like : (w : Names) (cs : List FirstValue) → ValuesLike w (map held_first cs) (map held_first cs)
firsts_like w [] = no_values
firsts_like w (c ∷ cs) = more_values (first_like w c) (firsts_like w cs)

-- calls and creations, by the names of a task
module _ (C : PlainCode) (k : ℕ) (p : Path) where
  entered_like : {w : Sight} (j : ℕ) {vs : List (Value ℕ)} {us : List (Value Name)} {rs : List (Region (ℕ × ℕ))} {qs : List (Region LocalRegion)} {g : LevelIn}
      {h : LevelOf} {gs : List LevelIn} {hs : List LevelOf} → ValuesLike w.names vs us → RegionsLike w rs qs → LevelLike w g h → LevelsLike w gs hs
      → StateLike w (entered (names_of k) C j vs rs g gs) (entered (named_by p) C j us qs h hs)
  entered_like j a r l ls = on_like (record {
    body = refl;
    at = refl;
    frame = record {
      values = padded_like (body_at C j).slots a;
      regions = r;
      locals = unmade_from_like k p 0 (body_at C j).local_regions;
      left = ap (λ n. n - 1) l.frame.left;
    };
    stack = no_values;
  }) (each_more l ls)

  method_like : {w : Sight} (m : Option Method) {a : ℕ × List (Region (ℕ × ℕ))} {b : ℕ × List (Region LocalRegion)} {vs : List (Value ℕ)} {us : List (Value Name)}
      {rs : List (Region (ℕ × ℕ))} {qs : List (Region LocalRegion)} {g : LevelIn} {h : LevelOf} {gs : List LevelIn} {hs : List LevelOf} → SeenLike w a b
      → ValuesLike w.names vs us → RegionsLike w rs qs → LevelLike w g h → LevelsLike w gs hs
      → StateLike w (calls_method (names_of k) C m a vs rs g gs) (calls_method (named_by p) C m b us qs h hs)
  method_like None s v r l ls = nowhere_like
  method_like {w} (Some m) {a} {b} {rs = rs} s v r l ls = entered_like m.body v (each_append above r) l ls
    where
      above : RegionsLike w (regions_above (names_of k) (parent_of C) (length C.classes) a.0 a.1 m.owner) (regions_above (named_by p) (parent_of C) (length C.classes) b.0 b.1 m.owner)
      above = subst (λ (c : ℕ). RegionsLike w (regions_above (names_of k) (parent_of C) (length C.classes) a.0 a.1 m.owner)
          (regions_above (named_by p) (parent_of C) (length C.classes) c b.1 m.owner)) s.class (regions_above_like k p (parent_of C) (length C.classes) a.0 s.regions m.owner)

  enters_like : {w : Sight} {a : ℕ × List (Region (ℕ × ℕ))} {b : ℕ × List (Region LocalRegion)} (r : ℕ) {vs : List (Value ℕ)} {us : List (Value Name)}
      {rs : List (Region (ℕ × ℕ))} {qs : List (Region LocalRegion)} {g : LevelIn} {h : LevelOf} {gs : List LevelIn} {hs : List LevelOf} → SeenLike w a b
      → ValuesLike w.names vs us → RegionsLike w rs qs → LevelLike w g h → LevelsLike w gs hs
      → StateLike w (enters (names_of k) C a r vs rs g gs) (enters (named_by p) C b r us qs h hs)
  enters_like {w} {a} {b} r {vs} {us} {rs} {qs} {g} {h} {gs} {hs} s v o l ls =
      subst (λ (c : ℕ). StateLike w (calls_method (names_of k) C (method_at C a.0 r) a vs rs g gs) (calls_method (named_by p) C (method_at C c r) b us qs h hs)) s.class
      (method_like (method_at C a.0 r) s v o l ls)

  called_like : {w : Sight} (at : Place) (s : Option Site) {g : LevelIn} {h : LevelOf} {gs : List LevelIn} {hs : List LevelOf} → LevelLike w g h
      → LevelsLike w gs hs → StandLike w (called (names_of k) C at s g gs) (called (named_by p) C at s h hs)
  called_like at None l ls = stuck_like
  called_like at (Some (fork_site forking js copies)) l ls = stuck_like
  called_like at (Some (spread_site forking j x)) l ls = stuck_like
  called_like at (Some (block_site effects)) l ls = stuck_like
  called_like at (Some (new_site c n regions)) l ls = stuck_like
  called_like at (Some (array_site region first)) l ls = stuck_like
  called_like at (Some (call_site c r formals regions)) {g} {h} {gs} {hs} l ls =
      taken_like formals l.stack (λ vs rest us rest' a b. one_like b (λ v u st ut d e. unless_null_like at d (λ n x there.
      deeper_like g.frame.left h.frame.left at l.frame.left (unless_long_like _ _ at (some_long_like (concretes_like k p l.frame regions))
      (waits_like (do_like (look_like n x there)) (λ z y y' wide alike.
      enters_like r (class_entered_like (parent_of C) (length C.classes) c alike) (more_values (object_like n x (name_later n x wide.names there)) (values_later wide.names (reverse_like a)))
      (regions_later wide (concretes_like k p l.frame regions)) (past_like (level_later wide l) (values_later wide.names e)) (levels_later wide ls)))))))

  creates_like : {w : Sight} (at : Place) (c : ℕ) {rs : List (Region (ℕ × ℕ))} {qs : List (Region LocalRegion)} {vs : List (Value ℕ)} {us : List (Value Name)}
      (j : Option ℕ) {g : LevelIn} {h : LevelOf} {st : List (Value ℕ)} {ut : List (Value Name)} {gs : List LevelIn} {hs : List LevelOf} → RegionsLike w rs qs
      → ValuesLike w.names vs us → LevelLike w g h → ValuesLike w.names st ut → LevelsLike w gs hs
      → StandLike w (creates (names_of k) C at c rs vs j g st gs) (creates (named_by p) C at c qs us j h ut hs)
  creates_like at c None r a l s ls =
      waits_like (do_like (new_like false (an_object c r (firsts_like _ (fields_of (class_at C c))))))
      (λ z y y' wide alike. next_like (level_later wide l) (levels_later wide ls) (more_values (name_made_like alike) (values_later wide.names s)))
  creates_like at c (Some j) {g = g} {h = h} r a l s ls =
      deeper_like g.frame.left h.frame.left at l.frame.left (waits_like (do_like (new_like true (an_object c r (firsts_like _ (fields_of (class_at C c))))))
      (λ z y y' wide alike. entered_like j (more_values (name_made_like alike) (values_later wide.names a)) (regions_later wide r)
      (past_like (level_later wide l) (more_values (name_made_like alike) (values_later wide.names s))) (levels_later wide ls)))

  created_like : {w : Sight} (at : Place) (s : Option Site) {g : LevelIn} {h : LevelOf} {gs : List LevelIn} {hs : List LevelOf} → LevelLike w g h
      → LevelsLike w gs hs → StandLike w (created (names_of k) C at s g gs) (created (named_by p) C at s h hs)
  created_like at None l ls = stuck_like
  created_like at (Some (fork_site forking js copies)) l ls = stuck_like
  created_like at (Some (spread_site forking j x)) l ls = stuck_like
  created_like at (Some (block_site effects)) l ls = stuck_like
  created_like at (Some (call_site c r formals regions)) l ls = stuck_like
  created_like at (Some (array_site region first)) l ls = stuck_like
  created_like at (Some (new_site c formals regions)) l ls =
      taken_like formals l.stack (λ vs st us ut a b. unless_long_like _ _ at (some_long_like (concretes_like k p l.frame regions))
      (creates_like at c (constructor_of C c) (concretes_like k p l.frame regions) (reverse_like a) l b ls))

  array_of_like : {w : Sight} (at : Place) {r : Region (ℕ × ℕ)} {q : Region LocalRegion} (first : FirstValue) (len : ℤ) {g : LevelIn} {h : LevelOf}
      {st : List (Value ℕ)} {ut : List (Value Name)} {gs : List LevelIn} {hs : List LevelOf} → RegionLike w r q → LevelLike w g h → ValuesLike w.names st ut
      → LevelsLike w gs hs → StandLike w (array_of at r first len g st gs) (array_of at q first len h ut hs)
  array_of_like at first (negsuc n) r l s ls = goes_like (off_trapped trap.Size at)
  array_of_like at first (pos n) r l s ls =
      unless_long_like _ _ at (is_long_like r) (waits_like (do_like (new_like false (an_array n r (first_like _ first))))
      (λ z y y' wide alike. next_like (level_later wide l) (levels_later wide ls) (more_values (name_made_like alike) (values_later wide.names s))))

  makes_array_like : {w : Sight} (at : Place) (s : Option Site) {g : LevelIn} {h : LevelOf} {gs : List LevelIn} {hs : List LevelOf} → LevelLike w g h
      → LevelsLike w gs hs → StandLike w (makes_array (names_of k) at s g gs) (makes_array (named_by p) at s h hs)
  makes_array_like at None l ls = stuck_like
  makes_array_like at (Some (fork_site forking js copies)) l ls = stuck_like
  makes_array_like at (Some (spread_site forking j x)) l ls = stuck_like
  makes_array_like at (Some (block_site effects)) l ls = stuck_like
  makes_array_like at (Some (call_site c r formals regions)) l ls = stuck_like
  makes_array_like at (Some (new_site c n regions)) l ls = stuck_like
  makes_array_like {w} at (Some (array_site region first)) {g} {h} {gs} {hs} l ls =
      one_like l.stack (λ v u st ut a s.
      subst (λ (n : ℤ). StandLike w (array_of at (concrete (names_of k) (around g.frame) region) first (number v) g st gs)
      (array_of at (concrete (named_by p) (around h.frame) region) first n h ut hs)) (number_like a)
      (array_of_like at first (number v) (concrete_like k p l.frame region) l s ls))

-- returns
returned_to : {w : Sight} {v : Value ℕ} {u : Value Name} {gs : List LevelIn} {hs : List LevelOf} → ValueLike w.names v u → LevelsLike w gs hs
    → StateLike w (returned v gs) (returned u hs)
returned_to a each_none = off_like (returned_like a)
returned_to a (each_more l ls) = on_like (with_stack l (more_values a l.stack)) ls

left_to : {w : Sight} {gs : List LevelIn} {hs : List LevelOf} → LevelsLike w gs hs → StateLike w (left_with none gs) (left_with none hs)
left_to each_none = off_like (returned_like null_like)
left_to (each_more l ls) = on_like l ls

-- forks and joins
below_like : {w : Sight} {f : Frame ℕ (ℕ × ℕ)} {g : Frame Name LocalRegion} → FrameLike w f g → FrameLike w (below f) (below g)
below_like h = record { values = h.values; regions = h.regions; locals = h.locals; left = ap (λ n. n - 1) h.left }

pub started_like : {w : Sight} (js : List ℕ) {f : Frame ℕ (ℕ × ℕ)} {g : Frame Name LocalRegion} → FrameLike w f g → StartsLike w (started js f) (started js g)
started_like [] h = each_none
started_like (j ∷ js) h = each_more (record { body = refl; frame = below_like h }) (started_like js h)

pub each_started_like : {w : Sight} (j x : ℕ) {f : Frame ℕ (ℕ × ℕ)} {g : Frame Name LocalRegion} (start : ℤ) (n many : ℕ) → FrameLike w f g
    → StartsLike w (each_started j x f start n many) (each_started j x g start n many)
each_started_like j x start n zero h = each_none
each_started_like j x start n (suc many) h = each_more (record {
  body = refl;
  frame = below_like (record { values = numbered_like x start n h.values; regions = h.regions; locals = h.locals; left = h.left });
}) (each_started_like j x start (suc n) many h)

forked_like : {w : Sight} (at : Place) (s : Option Site) {g : LevelIn} {h : LevelOf} {gs : List LevelIn} {hs : List LevelOf} → LevelLike w g h
    → LevelsLike w gs hs → StandLike w (forked at s g gs) (forked at s h hs)
forked_like at None l ls = stuck_like
forked_like at (Some (spread_site forking j x)) l ls = stuck_like
forked_like at (Some (block_site effects)) l ls = stuck_like
forked_like at (Some (call_site c r formals regions)) l ls = stuck_like
forked_like at (Some (new_site c n regions)) l ls = stuck_like
forked_like at (Some (array_site region first)) l ls = stuck_like
forked_like at (Some (fork_site forking js copies)) {g} {h} l ls =
    deeper_like g.frame.left h.frame.left at l.frame.left (waits_like (fork_like forking (started_like js l.frame))
    (λ z y y' wide alike. next_like (level_later wide l) (levels_later wide ls) (more_values (int_like (pos (length js))) (values_later wide.names l.stack))))

waiting_like : (w : Names) (left : ℕ) (x : ℤ) (total : ℕ) {st : List (Value ℕ)} {ut : List (Value Name)} → ValuesLike w st ut
    → ValuesLike w (waiting left x total st) (waiting left x total ut)
waiting_like w left x total s = more_values (int_like (pos left)) (more_values (int_like x) (more_values (int_like (pos total)) s))

spread_on : {w : Sight} (at : Place) (forking : Forking) (j x : ℕ) (start count start' count' : ℤ) {g : LevelIn} {h : LevelOf} {st : List (Value ℕ)}
    {ut : List (Value Name)} {gs : List LevelIn} {hs : List LevelOf} → start ≡ start' → count ≡ count' → LevelLike w g h → ValuesLike w.names st ut
    → LevelsLike w gs hs
    → StandLike w (Waits (Fork (record { kind = forking; tasks = each_started j x g.frame start 0 (how_many count) }))
    (λ a. next g (waiting (how_many count) start (how_many count) st) gs))
    (Waits (Fork (record { kind = forking; tasks = each_started j x h.frame start' 0 (how_many count') }))
    (λ a. next h (waiting (how_many count') start' (how_many count') ut) hs))
spread_on {w} at forking j x start count start' count' {g} {h} {st} {ut} {gs} {hs} e d l s ls =
    subst (λ (z : ℤ). StandLike w (Waits (Fork (record { kind = forking; tasks = each_started j x g.frame start 0 (how_many count) }))
    (λ a. next g (waiting (how_many count) start (how_many count) st) gs))
    (Waits (Fork (record { kind = forking; tasks = each_started j x h.frame z 0 (how_many count') }))
    (λ a. next h (waiting (how_many count') z (how_many count') ut) hs))) e
    (subst (λ (z : ℤ). StandLike w (Waits (Fork (record { kind = forking; tasks = each_started j x g.frame start 0 (how_many count) }))
    (λ a. next g (waiting (how_many count) start (how_many count) st) gs))
    (Waits (Fork (record { kind = forking; tasks = each_started j x h.frame start 0 (how_many z) }))
    (λ a. next h (waiting (how_many z) start (how_many z) ut) hs))) d
    (waits_like (fork_like forking (each_started_like j x start 0 (how_many count) l.frame))
    (λ z y y' wide alike. next_like (level_later wide l) (levels_later wide ls) (waiting_like _ (how_many count) start (how_many count) (values_later wide.names s)))))

spread_like : {w : Sight} (at : Place) (s : Option Site) {g : LevelIn} {h : LevelOf} {gs : List LevelIn} {hs : List LevelOf} → LevelLike w g h
    → LevelsLike w gs hs → StandLike w (spread at s g gs) (spread at s h hs)
spread_like at None l ls = stuck_like
spread_like at (Some (fork_site forking js copies)) l ls = stuck_like
spread_like at (Some (block_site effects)) l ls = stuck_like
spread_like at (Some (call_site c r formals regions)) l ls = stuck_like
spread_like at (Some (new_site c n regions)) l ls = stuck_like
spread_like at (Some (array_site region first)) l ls = stuck_like
spread_like at (Some (spread_site forking j x)) {g} {h} l ls =
    two_like l.stack (λ v v' u u' st ut a b s. deeper_like g.frame.left h.frame.left at l.frame.left
    (spread_on at forking j x (number v) (number v') (number u) (number u') (number_like a) (number_like b) l s ls))

joined_to : {w : Sight} (copies : List ℕ) {b : Brought ℕ} {c : Brought Name} {g : LevelIn} {h : LevelOf} {gs : List LevelIn} {hs : List LevelOf}
    → BroughtLike w.names b c → LevelLike w g h → LevelsLike w gs hs → StateLike w (joined copies b g gs) (joined copies c h hs)
joined_to copies (back_like a) l ls = on_like (with_values_like l (copied_like copies a l.frame.values) l.stack) ls
joined_to copies (trap_like t place) l ls = off_trapped t place

joins_fork_like : {w : Sight} (total : ℕ) (copies : List ℕ) (m n : ℕ) {g : LevelIn} {h : LevelOf} {st : List (Value ℕ)} {ut : List (Value Name)}
    {gs : List LevelIn} {hs : List LevelOf} → m ≡ n → LevelLike w g h → ValuesLike w.names st ut → LevelsLike w gs hs
    → StandLike w (joins_fork total copies m g st gs) (joins_fork total copies n h ut hs)
joins_fork_like total copies zero zero e l s ls =
    waits_like join_like (λ z y y' wide alike. joined_to copies (brought_like alike) (with_stack (level_later wide l) (values_later wide.names s)) (levels_later wide ls))
joins_fork_like total copies zero (suc n) e l s ls = absurd (omega arith)
joins_fork_like total copies (suc m) zero e l s ls = absurd (omega arith)
joins_fork_like {w} total copies (suc m) (suc n) {g} {h} {st} {ut} {gs} {hs} e l s ls =
    let same : m ≡ n = omega arith in
    subst (λ (z : ℕ). StandLike w (joins_fork total copies (suc m) g st gs) (joins_fork total copies (suc z) h ut hs)) same
    (waits_like (begin_like (total - suc m)) (λ z y y' wide alike. on_like (with_stack (level_later wide l) (more_values (int_like (pos m)) (values_later wide.names s))) (levels_later wide ls)))

joins_spread_like : {w : Sight} {v : Value ℕ} {u : Value Name} (t t' m n : ℕ) {g : LevelIn} {h : LevelOf} {st : List (Value ℕ)} {ut : List (Value Name)}
    {gs : List LevelIn} {hs : List LevelOf} → ValueLike w.names v u → t ≡ t' → m ≡ n → LevelLike w g h → ValuesLike w.names st ut → LevelsLike w gs hs
    → StandLike w (joins_spread v t m g st gs) (joins_spread u t' n h ut hs)
joins_spread_like t t' zero zero a d e l s ls =
    waits_like join_like (λ z y y' wide alike. joined_to [] (brought_like alike) (with_stack (level_later wide l) (values_later wide.names s)) (levels_later wide ls))
joins_spread_like t t' zero (suc n) a d e l s ls = absurd (omega arith)
joins_spread_like t t' (suc m) zero a d e l s ls = absurd (omega arith)
joins_spread_like {w} {v} {u} t t' (suc m) (suc n) {g} {h} {st} {ut} {gs} {hs} a d e l s ls =
    let same : m ≡ n = omega arith in
    subst (λ (z : ℕ). StandLike w (joins_spread v t (suc m) g st gs) (joins_spread u t' (suc z) h ut hs)) same
    (subst (λ (z : ℕ). StandLike w (joins_spread v t (suc m) g st gs) (joins_spread u z (suc m) h ut hs)) d
    (waits_like (begin_like (t - suc m)) (λ z y y' wide alike. on_like (with_stack (level_later wide l)
    (more_values (int_like (pos m)) (more_values (int_of (ap (λ j. int_wrapping_add w32 j (pos 1)) (number_like a))) (more_values (int_like (pos t)) (values_later wide.names s)))))
    (levels_later wide ls))))

joins_site_like : {w : Sight} (s : Option Site) {g : LevelIn} {h : LevelOf} {gs : List LevelIn} {hs : List LevelOf} → LevelLike w g h → LevelsLike w gs hs
    → StandLike w (joins_site s g gs) (joins_site s h hs)
joins_site_like None l ls = stuck_like
joins_site_like (Some (block_site effects)) l ls = stuck_like
joins_site_like (Some (call_site c r formals regions)) l ls = stuck_like
joins_site_like (Some (new_site c n regions)) l ls = stuck_like
joins_site_like (Some (array_site region first)) l ls = stuck_like
joins_site_like (Some (fork_site forking js copies)) l ls =
    one_like l.stack (λ v u st ut a s. joins_fork_like (length js) (all_copied copies) (how_many (number v)) (how_many (number u)) (ap how_many (number_like a)) l s ls)
joins_site_like (Some (spread_site forking j x)) l ls =
    one_like l.stack (λ v u more more' a b. two_like b (λ t t' q q' st ut c d s.
    joins_spread_like (how_many (number t)) (how_many (number q)) (how_many (number v)) (how_many (number u)) d (ap how_many (number_like c)) (ap how_many (number_like a)) l s ls))

joins_like : {w : Sight} (C : PlainCode) (o r : Option ℕ) {g : LevelIn} {h : LevelOf} {gs : List LevelIn} {hs : List LevelOf} → o ≡ r → LevelLike w g h
    → LevelsLike w gs hs → StandLike w (joins C o g gs) (joins C r h hs)
joins_like C None None e l ls = stuck_like
joins_like C None (Some s) e l ls = absurd (cc)
joins_like C (Some s) None e l ls = absurd (cc)
joins_like {w} C (Some s) (Some t) {g} {h} {gs} {hs} e l ls =
    let same : s ≡ t = cc in
    subst (λ (z : ℕ). StandLike w (joins_site (slice_get C.sites s) g gs) (joins_site (slice_get C.sites z) h hs)) same (joins_site_like (slice_get C.sites s) l ls)

ends_branch_like : {w : Sight} (C : PlainCode) {g : LevelIn} {h : LevelOf} {gs : List LevelIn} {hs : List LevelOf} → LevelLike w g h → LevelsLike w gs hs
    → StandLike w (ends_branch C g gs) (ends_branch C h hs)
ends_branch_like {w} C {g} {h} l each_none =
    subst (λ (b : ℕ). StandLike w (ends_branch C g []) (Goes (Off (Assigned (assigned (copies_of C (body_at C b).title) h.frame.values))))) l.body
    (goes_like (off_like (assigned_like (assigned_alike (copies_of C (body_at C g.body).title) l.frame.values))))
ends_branch_like C l (each_more m ls) = stuck_like

in_part_like : {w : Sight} (at : Place) (k : ℕ) {v : Value ℕ} {u : Value Name} {g : LevelIn} {h : LevelOf} {f : ℤ → Value ℕ → StandIn} {f' : ℤ → Value Name → StandOf}
    → ValueLike w.names v u → LevelLike w g h → ((x : ℤ) (a : Value ℕ) (b : Value Name) → ValueLike w.names a b → StandLike w (f x a) (f' x b))
    → StandLike w (in_part at k v g f) (in_part at k u h f')
in_part_like at k {v} {u} {g} {h} a l j =
    place_like trap.Index at (part_place k (number v) g.frame.values) (part_place k (number u) h.frame.values)
    (part_place_like k (number v) l.frame.values ∙ ap (λ z. part_place k z h.frame.values) (number_like a)) (λ x. j x _ _ (slot_like l.frame.values k))

jumped_like : {w : Sight} (a b m n q : ℕ) (c d : Bool) {g : LevelIn} {h : LevelOf} {st : List (Value ℕ)} {ut : List (Value Name)} {gs : List LevelIn}
    {hs : List LevelOf} → m ≡ n → c ≡ d → LevelLike w g h → ValuesLike w.names st ut → LevelsLike w gs hs
    → StateLike w (On (record g { at = cond c m q; stack = st }) gs) (On (record h { at = cond d n q; stack = ut }) hs)
jumped_like a b m n q c d e f l s ls = on_like (record { body = l.body; at = ap₂ (λ x y. cond x y q) f e; frame = l.frame; stack = s }) ls

module _ (C : PlainCode) (k : ℕ) (p : Path) {w : Sight} (d : Distinct w.names) where
  operates_like : (at : Place) (o : BinaryOp) {g : LevelIn} {h : LevelOf} {gs : List LevelIn} {hs : List LevelOf} → LevelLike w g h → LevelsLike w gs hs
      → StandLike w (operates (names_of k) at o g gs) (operates (named_by p) at o h hs)
  operates_like at o l ls =
      two_like l.stack (λ v v' u u' st ut a b s. maybe_like trap.Divide at (operated_like d o a b) (λ x y c. goes_like (next_like l ls (more_values c s))))

  exec_like : (at : Place) (x : Instr) {g : LevelIn} {h : LevelOf} {gs : List LevelIn} {hs : List LevelOf} → LevelLike w g h → LevelsLike w gs hs
      → StandLike w (exec (names_of k) C at x g gs) (exec (named_by p) C at x h hs)
  exec_like at (i.Int n) l ls = goes_like (next_like l ls (more_values (int_like n) l.stack))
  exec_like at (i.Bool b) l ls = goes_like (next_like l ls (more_values (boolean_like b) l.stack))
  exec_like at i.Null l ls = goes_like (next_like l ls (more_values null_like l.stack))
  exec_like at (i.Load x) l ls = goes_like (next_like l ls (more_values (slot_like l.frame.values x) l.stack))
  exec_like at (i.Store x) l ls = one_like l.stack (λ v u st ut a s. goes_like (on_like (with_values_like l (set_like l.frame.values x a) s) ls))
  exec_like at i.Pop l ls = one_like l.stack (λ v u st ut a s. goes_like (next_like l ls s))
  exec_like at (i.Unary o) l ls = one_like l.stack (λ v u st ut a s. goes_like (next_like l ls (more_values (unary_like o a) s)))
  exec_like at (i.Binary o) l ls = operates_like at o l ls
  exec_like at (i.Jump n) l ls = goes_like (on_like (record { body = l.body; at = refl; frame = l.frame; stack = l.stack }) ls)
  exec_like at (i.Unless n) {g} {h} l ls =
      one_like l.stack (λ v u st ut a s. goes_like (jumped_like 0 0 (suc g.at) (suc h.at) n (truth v) (truth u) (ap (λ n. suc n) l.at) (truth_like a) l s ls))
  exec_like at i.Turn l ls = ticks_like (next_like l ls l.stack)
  exec_like at (i.Get x) l ls = one_like l.stack (λ v u st ut a s. reads_like at (pos x) (pos x) a refl l s ls)
  exec_like at (i.Put x) l ls = two_like l.stack (λ v v' u u' st ut a b s. writes_like at (pos x) (pos x) a refl b l s ls)
  exec_like at i.Elem l ls = two_like l.stack (λ v v' u u' st ut a b s. reads_like at (number v') (number u') a (number_like b) l s ls)
  exec_like at i.PutElem l ls = three_like l.stack (λ x y z x' y' z' st ut a b c s. writes_like at (number y) (number y') a (number_like b) c l s ls)
  exec_like at i.Length l ls = one_like l.stack (λ v u st ut a s. unless_null_like at a (λ n x there. waits_like (do_like (look_like n x there))
      (λ z y y' wide alike. next_like (level_later wide l) (levels_later wide ls) (more_values (int_of (ap (λ q. pos q) (length_seen_like alike))) (values_later wide.names s)))))
  exec_like at (i.Call s) l ls = called_like C k p at (slice_get C.sites s) l ls
  exec_like at (i.New s) l ls = created_like C k p at (slice_get C.sites s) l ls
  exec_like at (i.Array s) l ls = makes_array_like C k p at (slice_get C.sites s) l ls
  exec_like at i.Return l ls = one_like l.stack (λ v u st ut a s. goes_like (returned_to a ls))
  exec_like at i.Leave l ls = goes_like (left_to ls)
  exec_like at i.Print {g} {h} {gs} {hs} l ls =
      one_like l.stack (λ v u st ut a s.
      subst (λ (t : List ℕ). StandLike w (Waits (Do (Print (line (text_of v)))) (λ a. next g st gs)) (Waits (Do (Print (line t))) (λ a. next h ut hs))) (text_like a)
      (waits_like (do_like (print_like (line (text_of v)))) (λ z y y' wide alike. next_like (level_later wide l) (levels_later wide ls) (values_later wide.names s))))
  exec_like at (i.Text t) l ls =
      waits_like (do_like (print_like (line (slice_index_or C.texts t []))))
      (λ z y y' wide alike. next_like (level_later wide l) (levels_later wide ls) (values_later wide.names l.stack))
  exec_like at (i.Fork s) l ls = forked_like at (slice_get C.sites s) l ls
  exec_like at (i.Spread s) l ls = spread_like at (slice_get C.sites s) l ls
  exec_like at i.Join l ls = joins_like C _ _ (ap₂ (λ b q. site_of (line_before (body_at C b).lines q)) l.body l.at) l ls
  exec_like at (i.Enter s) l ls = waits_like (do_like rest_like) (λ z y y' wide alike. rested_like (level_later wide l) (levels_later wide ls))
  exec_like at i.Exit l ls =
      waits_like (do_like exit_like) (λ z y y' wide alike. next_like (level_later wide l) (levels_later wide ls) (values_later wide.names l.stack))
  exec_like at i.End l ls = ends_branch_like C l ls
  exec_like at (i.Region r) l ls = makes_like (λ m q a. on_like (record {
    body = l.body;
    at = ap (λ n. suc n) l.at;
    frame = record { values = l.frame.values; regions = l.frame.regions; locals = each_set l.frame.locals r a; left = l.frame.left };
    stack = l.stack;
  }) ls)
  exec_like at (i.Part x) l ls = goes_like (on_like (with_values_like l (part_taken_like x l.frame.values) l.stack) ls)
  exec_like at (i.InPart x) l ls =
      one_like l.stack (λ v u st ut a s. in_part_like at x a l (λ q b c e. goes_like (next_like l ls (more_values (int_like q) (more_values e s)))))
  exec_like at (i.InParts x) l ls =
      two_like l.stack (λ v v' u u' st ut a b s. in_part_like at x a l (λ q c c' e. goes_like (next_like l ls (more_values b (more_values (int_like q) (more_values e s))))))

  exec_line_like : (o : Option Line) {g : LevelIn} {h : LevelOf} {gs : List LevelIn} {hs : List LevelOf} → LevelLike w g h → LevelsLike w gs hs
      → StandLike w (exec_line (names_of k) C o g gs) (exec_line (named_by p) C o h hs)
  exec_line_like None l ls = stuck_like
  exec_line_like (Some x) l ls = exec_like x.place x.instr l ls

  enters_block_like : (s : Option Site) {g : LevelIn} {h : LevelOf} {gs : List LevelIn} {hs : List LevelOf} → LevelLike w g h → LevelsLike w gs hs
      → StandLike w (enters_block (names_of k) s g gs) (enters_block (named_by p) s h hs)
  enters_block_like None l ls = stuck_like
  enters_block_like (Some (fork_site forking js copies)) l ls = stuck_like
  enters_block_like (Some (spread_site forking j x)) l ls = stuck_like
  enters_block_like (Some (call_site c r formals regions)) l ls = stuck_like
  enters_block_like (Some (new_site c n regions)) l ls = stuck_like
  enters_block_like (Some (array_site region first)) l ls = stuck_like
  enters_block_like (Some (block_site effects)) l ls =
      waits_like (do_like (enter_like (effects_like k p l.frame effects)))
      (λ z y y' wide alike. next_like (level_later wide l) (levels_later wide ls) (values_later wide.names l.stack))

  rested_at_like : (x : Instr) {g : LevelIn} {h : LevelOf} {gs : List LevelIn} {hs : List LevelOf} → LevelLike w g h → LevelsLike w gs hs
      → StandLike w (rested_at (names_of k) C x g gs) (rested_at (named_by p) C x h hs)
  rested_at_like (i.Enter s) l ls = enters_block_like (slice_get C.sites s) l ls
  rested_at_like x l ls = stuck_like

  rested_line_like : (o : Option Line) {g : LevelIn} {h : LevelOf} {gs : List LevelIn} {hs : List LevelOf} → LevelLike w g h → LevelsLike w gs hs
      → StandLike w (rested_line (names_of k) C o g gs) (rested_line (named_by p) C o h hs)
  rested_line_like None l ls = stuck_like
  rested_line_like (Some x) l ls = rested_at_like x.instr l ls

  pub step_like : {s : State ℕ (ℕ × ℕ)} {t : State Name LocalRegion} → StateLike w s t → StandLike w (step (names_of k) C s) (step (named_by p) C t)
  unfolding step
  step_like (on_like {g} {h} {gs} {hs} l ls) =
      subst (λ (o : Option Line). StandLike w (exec_line (names_of k) C (slice_get (body_at C g.body).lines g.at) g gs) (exec_line (named_by p) C o h hs))
      (ap₂ (λ b q. slice_get (body_at C b).lines q) l.body l.at) (exec_line_like (slice_get (body_at C g.body).lines g.at) l ls)
  step_like (rested_like {g} {h} {gs} {hs} l ls) =
      subst (λ (o : Option Line). StandLike w (rested_line (names_of k) C (slice_get (body_at C g.body).lines g.at) g gs) (rested_line (named_by p) C o h hs))
      (ap₂ (λ b q. slice_get (body_at C b).lines q) l.body l.at) (rested_line_like (slice_get (body_at C g.body).lines g.at) l ls)
  step_like (off_like e) = ends_like e
  step_like nowhere_like = stuck_like
