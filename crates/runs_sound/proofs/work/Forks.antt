-- Branches at their fork: their scopes, the frames in which they begin, and what they may do.
use Rattle.std.proofs.Common.{◌≡◌, ◌<◌, ◌≤◌, ◌-◌, ◌^◌, inl, inr, ℕ, ℤ, zero, suc, ◌+◌, pos, Bool, true, false, List, [], ◌∷◌, map, length, refl, sym, ap, ◌∙◌, subst, arith, Option, Some, None, slice_get, slice_index_or}
use Rattle.std.specs.Prelude.{All, option_map}
use Rattle.std.specs.Int.{w32, int_wrapping_add}
use Rattle.std.proofs.lemmas.Bool.{and_from, false≢true}
use Rattle.std.proofs.lemmas.List.Elements.{All-head, All-tail, All-map}
use Rattle.lang_base.specs.declared.effect.Constraint.{Constraint}
use Rattle.lang_base.specs.declared.elems.Elem.{Elem}
use Rattle.lang_base.specs.declared.elems.Elem.TheVariants.{Name, At, Any, Star, Local}
use Rattle.lang_base.specs.declared.elems.Index.TheVariants.{Literal, Variable, Renamed, Own}
use Rattle.lang_base.specs.Branches.{iterations_clash}
use Rattle.region_paths.specs.Laws.{is_no_copy, no_copies, HasNoCopies}
use Rattle.lang_base.specs.Types.{PlainType, int}
use Rattle.lang_base.specs.declared.region.Rpl.{Rpl}
use Rattle.lang_typed.specs.declared.stmt.Forking.{Forking}
use Rattle.lang_typed.specs.declared.stmt.Forking.TheVariants.{Deterministic, Nondeterministic}
use Rattle.lang_typed.specs.Effects.{Own as EffectOwn, does, uses, effect_of, as_effects, marked, after_branches, outside_variable}
use Rattle.lang_typed.specs.Plain.{PlainProgram, TypedStmt, more_stmts, no_stmts}
use Rattle.lang_typed.specs.Scope.{Scope, variable, frozen, constant, part, reserved, read_alone, in_loop_branch, with_local, atomic_for}
use Rattle.lang_typed.specs.Scope.{Local as ScopeLocal}
use Rattle.lang_typed.specs.Statements.{IsFree, AllPass}
use Rattle.lang_meaning.specs.Counts.{copied}
use Rattle.lang_meaning.specs.Statements.{branch_of, iterations, numbered_frame}
use Rattle.runs_theory.specs.Actions.{Task}
use Rattle.runs_theory.specs.Objects.{Path, LocalRegion, Made, Unmade, Value, Int}
use Rattle.runs_sound.specs.Settings.{Setting, with_number}
use Rattle.runs_sound.specs.Accesses.{Access, unguarded, Covers, LiesIn, Bounds, Within}
use Rattle.runs_sound.specs.Branches.{BranchFits, Forks}
use Rattle.runs_sound.specs.Frames.{Frame, State, IsOld, LocalFits, FrameFits}
use Rattle.runs_sound.specs.Shapes.{Shapes}
use Rattle.runs_sound.specs.Scopes.{InScope, PathInScope, LocalInScope, GoodScope}
use Rattle.runs_sound.proofs.scopes.Frames.{frame_env}
use Rattle.runs_sound.proofs.scopes.Locals.{frame_declare, good_declare, lies_general}
use Rattle.runs_sound.proofs.numbers.Ints.{add_fits}
use Rattle.runs_sound.proofs.numbers.Numbers.{number_one}
use Rattle.runs_sound.proofs.paths.Quiet.{iterations_quiet_of, iterations_separate_of}
use Rattle.runs_sound.proofs.scopes.Placed.{LocalPlaced, PlacedScope, placed_wider}
use Rattle.runs_sound.proofs.scopes.Wider.{Wider, wider_path, wider_local}

-- the scope of a branch of a loop

pub seen_constant : (o : Option ScopeLocal) → option_map read_alone o ≡ Some (constant int) → o ≡ Some (constant int)
seen_constant (Some (variable t)) e = absurd (cc)
seen_constant (Some (frozen t)) e = absurd (cc)
seen_constant (Some (constant t)) e = e
seen_constant (Some (part t a)) e = absurd (cc)
seen_constant (Some reserved) e = absurd (cc)
seen_constant None e = absurd (cc)

-- what a local was that is seen so
pub seen_local : (o : Option ScopeLocal) (l : ScopeLocal) → option_map read_alone o ≡ Some l → (m : ScopeLocal) × (o ≡ Some m) × (read_alone m ≡ l)
seen_local (Some m) l e = (m, refl, cc)
seen_local None l e = absurd (cc)

pub seen_part : (m : ScopeLocal) (t : PlainType) (a : Rpl) → read_alone m ≡ part t a → m ≡ part t a
seen_part (variable u) t a e = absurd (let z : frozen u ≡ part t a = e in cc)
seen_part (frozen u) t a e = e
seen_part (constant u) t a e = e
seen_part (part u c) t a e = e
seen_part reserved t a e = e

pub free_in_loop : (L : Scope) (x : ℕ) → IsFree L x → IsFree (in_loop_branch L) x
free_in_loop L x free = (ap (option_map read_alone) free.0, free.1)

pub loop_wider : (L : Scope) → Wider L (in_loop_branch L)
loop_wider L = record { index = λ x e. ap (option_map read_alone) e; regions = λ r i. i }

pub loop_narrower : (L : Scope) → Wider (in_loop_branch L) L
loop_narrower L = record { index = λ x e. seen_constant (L.local x) e; regions = λ r i. i }

pub alone_in : (L : Scope) (m : ScopeLocal) → LocalInScope L m → LocalInScope L (read_alone m)
alone_in L (variable t) s = s
alone_in L (frozen t) s = s
alone_in L (constant t) s = s
alone_in L (part t a) s = s
alone_in L reserved s = s

pub alone_placed : (outer : ℕ → Bool) (L : Scope) (m : ScopeLocal) → LocalPlaced outer L m → LocalPlaced outer L (read_alone m)
alone_placed outer L (variable t) s = s
alone_placed outer L (frozen t) s = s
alone_placed outer L (constant t) s = s
alone_placed outer L (part t a) s = s
alone_placed outer L reserved s = s

pub alone_fits : (P : PlainProgram) (S : Shapes) (g : Setting) (vs : List Value) (x : ℕ) (m : ScopeLocal) → LocalFits P S g vs x m → LocalFits P S g vs x (read_alone m)
alone_fits P S g vs x (variable t) s = s
alone_fits P S g vs x (frozen t) s = s
alone_fits P S g vs x (constant t) s = s
alone_fits P S g vs x (part t a) s = s
alone_fits P S g vs x reserved s = s

pub good_loop : (L : Scope) → GoodScope L → GoodScope (in_loop_branch L)
good_loop L good = record {
  each = λ x l e. (let z = seen_local (L.local x) l e in
      subst (LocalInScope (in_loop_branch L)) z.2 (alone_in (in_loop_branch L) z.0 (wider_local L (in_loop_branch L) (loop_wider L) z.0 (good.each x z.0 z.1))));
  slots = λ x l e. (let z = seen_local (L.local x) l e in good.slots x z.0 z.1);
  parts = λ k t a e. (let z = seen_local (L.local k) (part t a) e in
      let r = good.parts k t a (z.1 ∙ ap (λ y. Some y) (seen_part z.0 t a z.2)) in (ap (option_map read_alone) r.0, ap (option_map read_alone) r.1));
  result = λ t e. absurd (cc);
  given = λ k c l. (let z = good.given k c l in (
    wider_path L (in_loop_branch L) (loop_wider L) 0 (slice_index_or L.given k c).left z.0,
    wider_path L (in_loop_branch L) (loop_wider L) 0 (slice_index_or L.given k c).right z.1,
  ));
}

pub placed_loop : (outer : ℕ → Bool) (L : Scope) → PlacedScope outer L → PlacedScope outer (in_loop_branch L)
placed_loop outer L placed = record {
  each = λ x l e. (let z = seen_local (L.local x) l e in
      subst (LocalPlaced outer (in_loop_branch L)) z.2 (alone_placed outer (in_loop_branch L) z.0 (placed_wider outer L (in_loop_branch L) (loop_wider L) z.0 (placed.each x z.0 z.1))));
  below = placed.below;
}

pub frame_loop : {P : PlainProgram} {p : Path} {s : State} {g : Setting} {f : Frame} (L : Scope) → FrameFits P p s g L f → FrameFits P p s g (in_loop_branch L) f
frame_loop {P} {p} {s} {g} {f} L ff = record {
  regions = ff.regions;
  plain = ff.plain;
  atomic = ff.atomic;
  given = ff.given;
  index = λ x e. ff.index x (seen_constant (L.local x) e);
  made = ff.made;
  distinct = ff.distinct;
  old = ff.old;
  slots = ff.slots;
  local_regions = ff.local_regions;
  each = λ x l e. (let z = seen_local (L.local x) l e in subst (LocalFits P s.shapes g f.values x) z.2 (alone_fits P s.shapes g f.values x z.0 (ff.each x z.0 z.1)));
}

-- where a branch begins: it has made no local region and stands inside no block by an entry of its own
abbrev pub begin_of : State → State
begin_of st = record { shapes = st.shapes; made = 0; entries = [] }

old_below : (p : Path) (m r : ℕ) (u : ℕ × ℕ) (l : LocalRegion) → IsOld p m r l → IsOld (u ∷ p) 0 r l
old_below p m r u (Unmade k) o = o
old_below p m r u (Made q c) o = elim o [
  | inl a ↦ inr (u, [], ap (λ z. u ∷ z) (sym a.0))
  | inr z ↦ inr (z.0, u ∷ z.1, ap (λ y. u ∷ y) z.2)
]

pub frame_below : {P : PlainProgram} {p : Path} {s : State} {g : Setting} {L : Scope} {f : Frame} (u : ℕ × ℕ) (left : ℕ) → FrameFits P p s g L f →
    FrameFits P (u ∷ p) (begin_of s) g L (record f { left = left })
frame_below {p = p} {s = s} {g = g} u left ff = record {
  regions = ff.regions;
  plain = ff.plain;
  atomic = ff.atomic;
  given = ff.given;
  index = ff.index;
  made = ff.made;
  distinct = ff.distinct;
  old = λ r. old_below p s.made r u (g.made r) (ff.old r);
  slots = ff.slots;
  local_regions = ff.local_regions;
  each = ff.each;
}

-- the iterations of a loop
pub iteration_at : (takes : Option ℕ) (x : ℕ) (s : TypedStmt) (f : Frame) (start : ℤ) (j n i : ℕ) (t : Task) → slice_get (iterations takes x s f start j n) i ≡ Some t →
    t ≡ branch_of takes [] s (numbered_frame x start (j + i) f)
iteration_at takes x s f start j zero i t e = absurd (cc)
iteration_at takes x s f start j (suc n) zero t e =
    let z : branch_of takes [] s (numbered_frame x start j f) ≡ t = cc in
    let k : j + 0 ≡ j = omega arith in
    sym z ∙ ap (λ y. branch_of takes [] s (numbered_frame x start y f)) (sym k)
iteration_at takes x s f start j (suc n) (suc i) t e =
    let k : suc j + i ≡ j + suc i = omega arith in
    iteration_at takes x s f start (suc j) n i t e ∙ ap (λ y. branch_of takes [] s (numbered_frame x start y f)) k

pub iterations_length : (takes : Option ℕ) (x : ℕ) (s : TypedStmt) (f : Frame) (start : ℤ) (j n : ℕ) → length (iterations takes x s f start j n) ≡ n
iterations_length takes x s f start j zero = refl
iterations_length takes x s f start j (suc n) = ap (λ y. suc y) (iterations_length takes x s f start (suc j) n)

-- a loop copies nothing back
pub copied_none : (ls : List (ℕ × Value)) (vs : List Value) → copied [] ls vs ≡ vs
copied_none [] vs = refl
copied_none (l ∷ ls) vs = copied_none ls vs

-- nothing in scope is a renamed copy
no_copy : (L : Scope) (y : Elem) → InScope L 0 y → is_no_copy y ≡ true
no_copy L (Name n) s = refl
no_copy L (At (Literal k)) s = refl
no_copy L (At (Variable x)) s = refl
no_copy L (At (Renamed x)) s = absurd s
no_copy L (At (Own d)) s = refl
no_copy L Any s = refl
no_copy L Star s = refl
no_copy L (Local r n) s = refl

all_no_copies : (L : Scope) (a : List Elem) → All (InScope L 0) a → no_copies a ≡ true
all_no_copies L [] s = refl
all_no_copies L (y ∷ a) s = and_from (is_no_copy y) _ (no_copy L y (All-head (InScope L 0) y a s)) (all_no_copies L a (All-tail (InScope L 0) y a s))

pub none_copied : (L : Scope) (c : Constraint) → PathInScope L 0 c.left × PathInScope L 0 c.right → HasNoCopies c
none_copied L c s = and_from (no_copies c.left.elems) _ (all_no_copies L c.left.elems s.0) (all_no_copies L c.right.elems s.1)

-- after a construct what its branches do is said without marks, or as they have it
unmarked : (g : Setting) (o : EffectOwn) (a : Access) → Covers g o a → Covers g (marked false o) a
unmarked g (does e) a c = record { includes = c.includes; writes = c.writes; guarded = λ z. absurd (false≢true z) }
unmarked g (uses k e) a c = c

lies_unmarked : (g : Setting) (E : List EffectOwn) (a : Access) → LiesIn g E a → LiesIn g (map (marked false) E) a
lies_unmarked g [] a h = h
lies_unmarked g (o ∷ E) a h = elim h [ inl c ↦ inl (unmarked g o a c) | inr r ↦ inr (lies_unmarked g E a r) ]

-- an effect through a part has no mark
abbrev pub HasNoMark : EffectOwn → Type 0
HasNoMark (does e) = Unit {0}
HasNoMark (uses k e) = e.atomic ≡ false

-- so without marks they speak of accesses outside blocks too
covers_unguarded : (g : Setting) (o : EffectOwn) (a : Access) → HasNoMark o → Covers g o a → Covers g (marked false o) (unguarded a)
covers_unguarded g (does e) a n c = record { includes = c.includes; writes = c.writes; guarded = λ z. absurd (false≢true z) }
covers_unguarded g (uses k e) a n c = (
  record { includes = c.0.includes; writes = c.0.writes; guarded = λ z. absurd (false≢true (sym n ∙ z)) },
  λ x. (let t = c.1 x in record { array = t.array; index = t.index; from_first = t.from_first; below_last = t.below_last; place = t.place }),
)

pub lies_unguarded : (g : Setting) (E : List EffectOwn) (a : Access) → All HasNoMark E → LiesIn g E a → LiesIn g (after_branches Deterministic E) (unguarded a)
lies_unguarded g [] a n h = h
lies_unguarded g (o ∷ E) a n h = elim h [
  | inl c ↦ inl (covers_unguarded g o a (All-head HasNoMark o E n) c)
  | inr r ↦ inr (lies_unguarded g E a (All-tail HasNoMark o E n) r)
]

-- what is said of marks outside blocks alone
pub outside_alone : {c d : Bool} → c ≡ false → c ≡ true → d ≡ true
outside_alone n t = absurd (false≢true (sym n ∙ t))

pub lies_branches : (forking : Forking) (g : Setting) (E : List EffectOwn) (a : Access) → LiesIn g E a → LiesIn g (after_branches forking E) a
lies_branches Deterministic g E a h = lies_unmarked g E a h
lies_branches Nondeterministic g E a h = h

module _ (P : PlainProgram) (b : Bounds) (st : State) (L : Scope) (good : GoodScope L) (g : Setting) (f : Frame) (ff : FrameFits P b.path st g L f) where
  -- the frame in which an iteration begins
  iteration_frame : (x : ℕ) (start : ℤ) (i : ℕ) (u : ℕ × ℕ) → IsFree L x →
      FrameFits P (u ∷ b.path) (begin_of st) (with_number x (int_wrapping_add w32 start (pos i)) g) (with_local x (constant int) (in_loop_branch L))
      (record (numbered_frame x start i f) { left = f.left - 1 })
  iteration_frame x start i u free =
      frame_below u (f.left - 1) (frame_declare P b.path st g (in_loop_branch L) (good_loop L good) f x true int (Int (int_wrapping_add w32 start (pos i)))
      (free_in_loop L x free) tt (add_fits start (pos i)) (frame_loop L ff))

  -- iterations are in order at their fork
  pub foreach_forks : (forking : Forking) {x : ℕ} {s : TypedStmt} {G : List EffectOwn} → IsFree L x → AllPass P (with_local x (constant int) (in_loop_branch L)) (more_stmts s no_stmts) G →
      iterations_clash L.given (atomic_for forking P L) x (as_effects G) ≡ false → All (λ o. PathInScope (with_local x (constant int) (in_loop_branch L)) 0 (effect_of o).rpl) G →
      All HasNoMark G → Within b st.entries g (outside_variable x (after_branches forking G)) → (start : ℤ) (n : ℕ) → n ≤ 2 ^ 32 →
      Forks P b st forking (iterations None x s f start 0 n)
  foreach_forks forking {x} {s} {G} free p clash in_scope plain w start n few = record {
    scope = λ i. with_local x (constant int) (in_loop_branch L);
    setting = λ i. with_number x (number_at i) g;
    effects = λ i. G;
    branch = λ i t e. subst (λ y. BranchFits P b st i y (with_local x (constant int) (in_loop_branch L)) (with_number x (number_at i) g) G)
        (sym (iteration_at None x s f start 0 n i t e ∙ (let k : 0 + i ≡ i = omega arith in ap (λ z. branch_of None [] s (numbered_frame x start z f)) k))) (record {
          is_branch = refl;
          no_return = refl;
          passes = p;
          scope = good_declare (in_loop_branch L) (good_loop L good) x true int (free_in_loop L x free) tt;
          fits = λ u. iteration_frame x start i (u, i) free;
          copies = λ k d l. absurd (omega (arith, l));
          within = λ a gu l. w a gu (lies_general g x (number_at i) (with_local x (constant int) (in_loop_branch L)) (after_branches forking G) a
              (branches_scope forking) (lies_branches forking (with_number x (number_at i) g) G a l));
        });
    quiet = λ i j ne l m. iterations_quiet_of P forking L (with_local x (constant int) (in_loop_branch L)) g x (number_at i) (number_at j)
        (frame_env (iteration_frame x start i (0, 0) free)) ff.atomic (λ k d l. none_copied L (slice_index_or L.given k d) (good.given k d l)) G in_scope clash
        (λ e. ne (number_one start i j (small i l) (small j m) e));
    unmarked = λ kind out i t e a l. w (unguarded a) (outside_alone out)
        (subst (λ z. LiesIn g (outside_variable x (after_branches z G)) (unguarded a)) (sym kind)
        (lies_general g x (number_at i) (with_local x (constant int) (in_loop_branch L)) (after_branches Deterministic G) (unguarded a) (branches_scope Deterministic)
        (lies_unguarded (with_number x (number_at i) g) G a plain l)));
    separate = λ kind i j ne l m. iterations_separate_of P forking L (with_local x (constant int) (in_loop_branch L)) g x (number_at i) (number_at j)
        (frame_env (iteration_frame x start i (0, 0) free)) ff.atomic (λ k d l. none_copied L (slice_index_or L.given k d) (good.given k d l)) G in_scope clash
        (λ e. ne (number_one start i j (small i l) (small j m) e)) kind;
  }
    where
      number_at : ℕ → ℤ
      number_at i = int_wrapping_add w32 start (pos i)

      small : (i : ℕ) → i < length (iterations None x s f start 0 n) → i < 2 ^ 32
      small i l = let k = iterations_length None x s f start 0 n in omega (arith, l, k, few)

      marked_scope : (E : List EffectOwn) → All (λ o. PathInScope (with_local x (constant int) (in_loop_branch L)) 0 (effect_of o).rpl) E →
          All (λ o. PathInScope (with_local x (constant int) (in_loop_branch L)) 0 (effect_of o).rpl) (map (marked false) E)
      marked_scope E h = All-map (λ o. PathInScope (with_local x (constant int) (in_loop_branch L)) 0 (effect_of o).rpl) (marked false) E (λ k d l. one (slice_index_or E k d) (h k d l))
        where
          one : (o : EffectOwn) → PathInScope (with_local x (constant int) (in_loop_branch L)) 0 (effect_of o).rpl →
              PathInScope (with_local x (constant int) (in_loop_branch L)) 0 (effect_of (marked false o)).rpl
          one (does e) h = h
          one (uses k e) h = h

      branches_scope : (forking : Forking) → All (λ o. PathInScope (with_local x (constant int) (in_loop_branch L)) 0 (effect_of o).rpl) (after_branches forking G)
      branches_scope Deterministic = marked_scope G in_scope
      branches_scope Nondeterministic = in_scope
