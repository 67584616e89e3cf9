-- Branches that take each a part of an array are in order at their fork.
use Rattle.std.proofs.Common.{◌≡◌, ◌≢◌, ◌<◌, ◌-◌, ◌^◌, ◌⊎◌, inl, inr, ℕ, ℤ, FitsSigned, ◌+◌, ◌≤◌, pos, Bool, true, false, not, cond, ◌==◌, ◌||◌, List, [], ◌∷◌, map, length, refl, sym, ap, ◌∙◌, subst, arith, Some, None, slice_set, slice_index_or}
use Rattle.std.specs.Prelude.{All, ◌+ℤ◌}
use Rattle.std.specs.List.{filter}
use Rattle.std.specs.Int.{w32, int_wrapping_add}
use Rattle.std.proofs.lemmas.List.{length-set}
use Rattle.std.proofs.lemmas.List.Elements.{All-head, All-tail, All-cons, All-map}
use Rattle.std.proofs.lemmas.Bool.{eqb-true, eq-eqb, cond-true, cond-false, or_left, or_right, false≢true, false_from_ne_true}
use Rattle.lang_base.specs.declared.effect.Effect.{Effect}
use Rattle.lang_base.specs.declared.region.Rpl.{Rpl}
use Rattle.lang_base.specs.Branches.{lists_clash, iterations_clash}
use Rattle.lang_base.specs.Matching.{Env, IsEnv}
use Rattle.lang_base.specs.Types.{PlainType, int, array, has_index, mentions_index}
use Rattle.lang_typed.specs.declared.stmt.Forking.{Forking}
use Rattle.lang_typed.specs.declared.stmt.Forking.TheVariants.{Deterministic, Nondeterministic}
use Rattle.lang_typed.specs.Effects.{Own as EffectOwn, does, uses, effect_of, as_effects, is_through, through_part, besides_part, handed_on, own_after, after_parts, after_branches, outside_variable, marked}
use Rattle.lang_typed.specs.Plain.{PlainProgram, Source, of_array, of_part, TypedStmt, more_stmts, no_stmts}
use Rattle.lang_typed.specs.Scope.{Scope, part, in_loop_branch}
use Rattle.lang_typed.specs.Statements.{IsFree, AllPass, with_part}
use Rattle.lang_meaning.specs.Counts.{number, slot_value, part_first, part_length, part_begin, is_part}
use Rattle.lang_meaning.specs.Statements.{branch_of, iterations, numbered_frame, with_value, begun}
use Rattle.runs_theory.specs.Objects.{Value, Int}
use Rattle.runs_sound.specs.Settings.{Places, Setting, env_of, with_number}
use Rattle.runs_sound.specs.Shapes.{FitsIn}
use Rattle.runs_sound.specs.Accesses.{Access, unguarded, Includes, Speaks, Through, Covers, LiesIn, Bounds, Within}
use Rattle.runs_sound.specs.Branches.{Meet, Quiet, BranchFits, Forks}
use Rattle.runs_sound.specs.Frames.{Frame, State, FrameFits}
use Rattle.runs_sound.specs.Scopes.{PathInScope, TypeInScope, GoodScope}
use Rattle.runs_sound.proofs.scopes.Alike.{setting_back, setting_alike, alike_includes, set_other, set_same}
use Rattle.runs_sound.proofs.work.Forks.{good_loop, loop_wider, frame_loop, frame_below, begin_of, iteration_at, iterations_length, HasNoMark, lies_branches, lies_unguarded, outside_alone, none_copied}
use Rattle.runs_sound.proofs.scopes.Frames.{frame_env}
use Rattle.runs_sound.proofs.scopes.InScope.{out_path}
use Rattle.runs_sound.proofs.scopes.Locals.{frame_outside, number_alike, lies_general}
use Rattle.runs_sound.proofs.numbers.Ints.{add_fits}
use Rattle.runs_sound.proofs.numbers.Numbers.{number_one}
use Rattle.runs_sound.proofs.work.Parts.{with_places, good_part, frame_part}
use Rattle.runs_sound.proofs.paths.Places.{taken, first_fits, part_fits, in_whole, parts_apart}
use Rattle.runs_sound.proofs.paths.Quiet.{Reaches, lists_quiet, reached_same, iterations_quiet}
use Rattle.runs_sound.proofs.paths.Uses.{UsesPart, without_marks, own_part, free_in_branch}
use Rattle.runs_sound.proofs.scopes.Wider.{wider_type}

meet_back : {a c : Access} → Meet a c → Meet c a
meet_back {a} {c} m = record { cells = (m.cells.1, m.cells.0); object = sym m.object; index = sym m.index; region = sym m.region; write = either a.write c.write m.write }
  where
    either : (x y : Bool) → (x || y) ≡ true → (y || x) ≡ true
    either true y h = or_right y true refl
    either false y h = or_left y false h

filter_all : {A : Type 0} (Q : A → Type 0) (p : A → Bool) (xs : List A) → All Q xs → All Q (filter p xs)
filter_all Q p [] h = h
filter_all Q p (x ∷ xs) h = kept (filter_all Q p xs (All-tail Q x xs h)) (p x)
  where
    kept : All Q (filter p xs) → (c : Bool) → All Q (cond c (x ∷ filter p xs) (filter p xs))
    kept rest true = All-cons Q x (filter p xs) (All-head Q x xs h) rest
    kept rest false = rest

-- an access that effects speak of inside is through the branch's own part, or these effects speak of it where the part is left aside
module _ (k : ℕ) (g : Setting) (n : ℤ) (pl : Places) (a : Access) where
  -- what is said of cells alone
  abbrev OfCell : Type 0 → Type 0
  OfCell C = a.of_cell ≡ true → C

  besides : EffectOwn → Bool
  besides o = not (is_through k o)

  through_it : (j : ℕ) → (j == k) ≡ true → Through ((with_places k pl g).part j) a → Through pl a
  through_it j q h = subst (λ p. Through p a) (cond-true (k == j) pl (g.part j) (eq-eqb k j (sym (eqb-true j k q)))) h

  through_other : (j : ℕ) → (j == k) ≡ false → Through ((with_places k pl g).part j) a → Through (g.part j) a
  through_other j q h = subst (λ p. Through p a) (cond-false (k == j) pl (g.part j)
      (false_from_ne_true (k == j) (λ t. false≢true (sym q ∙ eq-eqb j k (sym (eqb-true k j t)))))) h

  -- paths mean the same with the part and without
  speaks_same : (e : Effect) → Speaks (with_number (k + 4) n (with_places k pl g)) e a → Speaks (with_number (k + 4) n g) e a
  speaks_same e s = record { includes = s.includes; writes = s.writes; guarded = s.guarded }

  abbrev Split : List EffectOwn → Type 0
  Split E = LiesIn (with_number (k + 4) n g) (filter (λ o. not (is_through k o)) E) a
      ⊎ (Reaches (env_of (with_number (k + 4) n g)) (through_part k E) a × OfCell (Through pl a))

  split_more : (o : EffectOwn) (E : List EffectOwn) → Split E → Split (o ∷ E)
  split_more o E h = go (is_through k o)
    where
      go : (c : Bool) → LiesIn (with_number (k + 4) n g) (cond (not c) (o ∷ filter (λ o. not (is_through k o)) E) (filter (λ o. not (is_through k o)) E)) a
          ⊎ (Reaches (env_of (with_number (k + 4) n g)) (as_effects (cond c (o ∷ filter (is_through k) E) (filter (is_through k) E))) a × OfCell (Through pl a))
      go true = elim h [ inl l ↦ inl l | inr r ↦ inr (inr r.0, r.1) ]
      go false = elim h [ inl l ↦ inl (inr l) | inr r ↦ inr r ]

  split_use : (j : ℕ) (e : Effect) (E : List EffectOwn) → Speaks (with_number (k + 4) n g) e a → OfCell (Through ((with_places k pl g).part j) a) → Split (uses j e ∷ E)
  split_use j e E s h = go (j == k) refl
    where
      go : (c : Bool) → (j == k) ≡ c →
          LiesIn (with_number (k + 4) n g) (cond (not c) (uses j e ∷ filter (λ o. not (is_through k o)) E) (filter (λ o. not (is_through k o)) E)) a
          ⊎ (Reaches (env_of (with_number (k + 4) n g)) (as_effects (cond c (uses j e ∷ filter (is_through k) E) (filter (is_through k) E))) a × OfCell (Through pl a))
      go true q = inr (inl (s.includes, s.writes, s.guarded), λ c. through_it j q (h c))
      go false q = inl (inl (s, λ c. through_other j q (h c)))

  lies_split : (E : List EffectOwn) → LiesIn (with_number (k + 4) n (with_places k pl g)) E a → Split E
  lies_split [] h = absurd h
  lies_split (does e ∷ E) h = elim h [ inl c ↦ inl (inl (speaks_same e c)) | inr r ↦ split_more (does e) E (lies_split E r) ]
  lies_split (uses j e ∷ E) h = elim h [ inl c ↦ split_use j e E (speaks_same e c.0) c.1 | inr r ↦ split_more (uses j e) E (lies_split E r) ]

  -- after the construct it speaks of them too
  lies_after : (source : Source) → ((j : ℕ) → source ≡ of_part j → Through pl a → Through (g.part j) a) → (E : List EffectOwn) →
      LiesIn (with_number (k + 4) n (with_places k pl g)) E a → LiesIn (with_number (k + 4) n g) (after_parts k source E) a
  lies_after source up [] h = h
  lies_after source up (does e ∷ E) h = elim h [ inl c ↦ inl (speaks_same e c) | inr r ↦ inr (lies_after source up E r) ]
  lies_after source up (uses j e ∷ E) h = elim h [ inl c ↦ inl (one (j == k) refl (speaks_same e c.0) c.1) | inr r ↦ inr (lies_after source up E r) ]
    where
      handed : (s : Source) → ((i : ℕ) → s ≡ of_part i → Through pl a → Through (g.part i) a) → Speaks (with_number (k + 4) n g) e a → OfCell (Through pl a) →
          Covers (with_number (k + 4) n g) (handed_on s e) a
      handed (of_array x) up s t = s
      handed (of_part i) up s t = (s, λ c. up i refl (t c))

      one : (c : Bool) → (j == k) ≡ c → Speaks (with_number (k + 4) n g) e a → OfCell (Through ((with_places k pl g).part j) a) →
          Covers (with_number (k + 4) n g) (cond c (handed_on source e) (uses j e)) a
      one true q s t = handed source up s (λ c. through_it j q (t c))
      one false q s t = (s, λ c. through_other j q (t c))

module _ (P : PlainProgram) (b : Bounds) (st : State) (L : Scope) (good : GoodScope L) (g : Setting) (f : Frame) (ff : FrameFits P b.path st g L f)
    (k : ℕ) (t : PlainType) (a : Rpl) (free : (i : ℕ) → i < 5 → IsFree L (k + i)) (s : TypeInScope L 0 (array t a false)) where
  -- the whole that is cut, how many parts there are, and the part of a number
  abbrev whole : Places
  whole = record { array = slot_value f.values k; first = number (slot_value f.values (k + 1)); len = number (slot_value f.values (k + 2)) }

  abbrev count : ℤ
  count = number (slot_value f.values (k + 3))

  abbrev number_at : ℕ → ℤ
  number_at i = int_wrapping_add w32 (pos 0) (pos i)

  abbrev part_at : ℕ → Places
  part_at i = taken whole.array whole.first whole.len count (number_at i)

  abbrev inner : ℕ → Setting
  inner i = with_number (k + 4) (number_at i) (with_places k (part_at i) g)

  loop_free : (i : ℕ) → i < 5 → IsFree (in_loop_branch L) (k + i)
  loop_free = free_in_branch L k free

  in_branch_scope : TypeInScope (in_loop_branch L) 0 (array t a false)
  in_branch_scope = wider_type L (in_loop_branch L) (loop_wider L) 0 (array t a false) s

  pub good_parts : GoodScope (with_part k t a (in_loop_branch L))
  good_parts = good_part (in_loop_branch L) k t a loop_free (good_loop L good) in_branch_scope

  -- the slots with the number, and then with the part
  abbrev numbered_slots : ℕ → List Value
  numbered_slots i = slice_set f.values (k + 4) (Int (number_at i))

  there : (i : ℕ) → i < 5 → k + i < length f.values
  there i l = subst (λ z. k + i < z) (sym ff.slots) (free i l).1

  slot_kept : (i j : ℕ) → j < 4 → slot_value (numbered_slots i) (k + j) ≡ slot_value f.values (k + j)
  slot_kept i j l = set_other f.values (k + 4) (k + j) (Int (number_at i)) (λ e. omega (arith, l, e))

  slot_number : (i : ℕ) → slot_value (numbered_slots i) (k + 4) ≡ Int (number_at i)
  slot_number i = set_same f.values (k + 4) (Int (number_at i)) (there 4 (omega arith))

  first_at : (i : ℕ) → part_first k (numbered_slots i) ≡ (part_at i).first
  first_at i =
      let e1 = slot_kept i 1 (omega arith) in
      let e2 = slot_kept i 2 (omega arith) in
      let e3 = slot_kept i 3 (omega arith) in
      let e4 = slot_number i in
      λ z. cond (is_part (number (e2 z)) (number (e3 z)) (number (e4 z)))
      (int_wrapping_add w32 (number (e1 z)) (pos (part_begin (number (e2 z)) (number (e3 z)) (number (e4 z))))) (pos 0)

  length_at : (i : ℕ) → part_length k (numbered_slots i) ≡ (part_at i).len
  length_at i =
      let e2 = slot_kept i 2 (omega arith) in
      let e3 = slot_kept i 3 (omega arith) in
      let e4 = slot_number i in
      λ z. cond (is_part (number (e2 z)) (number (e3 z)) (number (e4 z)))
      (pos (part_begin (number (e2 z)) (number (e3 z)) (number (e4 z) +ℤ pos 1) - part_begin (number (e2 z)) (number (e3 z)) (number (e4 z)))) (pos 0)

  abbrev first_frame : ℕ → Frame
  first_frame i = with_value f (k + 4) (Int (number_at i))

  abbrev part_frame : ℕ → Frame
  part_frame i =
      with_value (with_value (first_frame i) (k + 1) (Int (part_first k (numbered_slots i)))) (k + 2) (Int (part_length k (numbered_slots i)))

  outside : {e : Frame} (j : ℕ) (v : Value) → j < 5 → FrameFits P b.path st g (in_loop_branch L) e → FrameFits P b.path st g (in_loop_branch L) (with_value e (k + j) v)
  outside {e} j v l fe = frame_outside P b.path st g (in_loop_branch L) (good_loop L good) e (k + j) v (loop_free j l).0 fe

  frame_at : (i : ℕ) → FrameFits P b.path st g (in_loop_branch L) (part_frame i)
  frame_at i = outside 2 (Int (part_length k (numbered_slots i))) (omega arith) (outside 1 (Int (part_first k (numbered_slots i))) (omega arith)
      (outside 4 (Int (number_at i)) (omega arith) (frame_loop L ff)))

  with_first : ℕ → List Value
  with_first i = slice_set (numbered_slots i) (k + 1) (Int (part_first k (numbered_slots i)))

  -- what stands in them
  array_kept : (i : ℕ) → slot_value (part_frame i).values k ≡ slot_value f.values k
  unfolding with_first
  array_kept i =
      set_other (with_first i) (k + 2) k (Int (part_length k (numbered_slots i))) (λ e. omega (arith, e))
      ∙ set_other (numbered_slots i) (k + 1) k (Int (part_first k (numbered_slots i))) (λ e. omega (arith, e))
      ∙ set_other f.values (k + 4) k (Int (number_at i)) (λ e. omega (arith, e))

  first_kept : (i : ℕ) → slot_value (part_frame i).values (k + 1) ≡ Int (part_first k (numbered_slots i))
  unfolding with_first
  first_kept i =
      set_other (with_first i) (k + 2) (k + 1) (Int (part_length k (numbered_slots i))) (λ e. omega (arith, e))
      ∙ set_same (numbered_slots i) (k + 1) (Int (part_first k (numbered_slots i)))
      (let l = there 1 (omega arith) in let n = length-set f.values (k + 4) (Int (number_at i)) in omega (arith, l, n))

  length_kept : (i : ℕ) → slot_value (part_frame i).values (k + 2) ≡ Int (part_length k (numbered_slots i))
  unfolding with_first
  length_kept i = set_same (with_first i) (k + 2) (Int (part_length k (numbered_slots i)))
      (let l = there 2 (omega arith) in let n = length-set f.values (k + 4) (Int (number_at i)) in
      let m = length-set (numbered_slots i) (k + 1) (Int (part_first k (numbered_slots i))) in omega (arith, l, n, m))

  number_kept : (i : ℕ) → slot_value (part_frame i).values (k + 4) ≡ Int (number_at i)
  unfolding with_first
  number_kept i =
      set_other (with_first i) (k + 2) (k + 4) (Int (part_length k (numbered_slots i))) (λ e. omega (arith, e))
      ∙ set_other (numbered_slots i) (k + 1) (k + 4) (Int (part_first k (numbered_slots i))) (λ e. omega (arith, e)) ∙ slot_number i

  module _ (alone : (has_index 0 a ≡ false) × (mentions_index 0 t ≡ false)) (array_fits : FitsIn P st.shapes (env_of g) (array t a false) (slot_value f.values k))
      (len_fits : FitsSigned w32 whole.len) where
    -- so the frame fits in which a branch begins
    branch_frame : (i : ℕ) (u : ℕ × ℕ) →
        FrameFits P (u ∷ b.path) (begin_of st) (inner i) (with_part k t a (in_loop_branch L)) (begun (Some k) (record (numbered_frame (k + 4) (pos 0) i f) { left = f.left - 1 }))
    branch_frame i u =
        let e0 = array_kept i in
        let e1 = first_kept i in
        let e2 = length_kept i in
        let e4 = number_kept i in
        let e1' : number (slot_value (part_frame i).values (k + 1)) ≡ (part_at i).first = ap number e1 ∙ first_at i in
        let e2' : number (slot_value (part_frame i).values (k + 2)) ≡ (part_at i).len = ap number e2 ∙ length_at i in
        let pl : record { array = slot_value (part_frame i).values k; first = number (slot_value (part_frame i).values (k + 1)); len = number (slot_value (part_frame i).values (k + 2)) }
        ≡ part_at i = (λ z. record { array = e0 z; first = e1' z; len = e2' z }) in
        frame_below u (f.left - 1)
        (subst (λ n. FrameFits P b.path st (with_number (k + 4) n (with_places k (part_at i) g)) (with_part k t a (in_loop_branch L)) (part_frame i)) (ap number e4)
        (subst (λ y. FrameFits P b.path st (with_number (k + 4) (number (slot_value (part_frame i).values (k + 4))) (with_places k y g)) (with_part k t a (in_loop_branch L)) (part_frame i)) pl
        (frame_part (in_loop_branch L) k t a loop_free P b.path st g (good_loop L good) in_branch_scope alone (part_frame i)
        (subst (FitsIn P st.shapes (env_of g) (array t a false)) (sym e0) array_fits)
        (subst (FitsIn P st.shapes (env_of g) int) (sym e1) (subst (FitsSigned w32) (sym (first_at i)) (first_fits whole.array whole.first whole.len count (number_at i))))
        (subst (FitsIn P st.shapes (env_of g) int) (sym e2) (subst (FitsSigned w32) (sym (length_at i)) (part_fits whole.array whole.first whole.len count (number_at i) len_fits)))
        (subst (FitsIn P st.shapes (env_of g) int) (sym e4) (add_fits (pos 0) (pos i))) (frame_at i))))

    -- what is done through a part has its path, which knows nothing of the number
    path_outside : PathInScope (in_loop_branch L) 0 a
    path_outside = out_path (in_loop_branch L) 0 a alone.0 in_branch_scope.0

    env_at : ℤ → Env
    env_at n = env_of (with_number (k + 4) n g)

    moves : (n m : ℤ) (r : List _) → Includes (env_of (with_number (k + 4) n g)) a r → Includes (env_of (with_number (k + 4) m g)) a r
    moves n m r h =
        alike_includes (in_loop_branch L) 0 (env_of g) (env_of (with_number (k + 4) m g)) (setting_alike (number_alike (in_loop_branch L) g (k + 4) m (loop_free 4 (omega arith)).0)) a path_outside r
        (alike_includes (in_loop_branch L) 0 (env_of (with_number (k + 4) n g)) (env_of g)
        (setting_alike (setting_back (number_alike (in_loop_branch L) g (k + 4) n (loop_free 4 (omega arith)).0))) a path_outside r h)

    through_moves : (n m : ℤ) (c : Access) (E : List EffectOwn) → All (UsesPart (with_part k t a (in_loop_branch L))) E →
        Reaches (env_of (with_number (k + 4) n g)) (through_part k E) c → Reaches (env_of (with_number (k + 4) m g)) (through_part k E) c
    through_moves n m c [] us h = h
    through_moves n m c (does e ∷ E) us h = through_moves n m c E (All-tail (UsesPart (with_part k t a (in_loop_branch L))) (does e) E us) h
    through_moves n m c (uses j e ∷ E) us h =
        one (j == k) refl (All-head (UsesPart (with_part k t a (in_loop_branch L))) (uses j e) E us)
        (through_moves n m c E (All-tail (UsesPart (with_part k t a (in_loop_branch L))) (uses j e) E us)) h
      where
        moved : e.rpl ≡ a → Includes (env_of (with_number (k + 4) n g)) e.rpl c.region → Includes (env_of (with_number (k + 4) m g)) e.rpl c.region
        moved q h = subst (λ z. Includes (env_of (with_number (k + 4) m g)) z c.region) (sym q) (moves n m c.region (subst (λ z. Includes (env_of (with_number (k + 4) n g)) z c.region) q h))

        one : (d : Bool) → (j == k) ≡ d → UsesPart (with_part k t a (in_loop_branch L)) (uses j e) →
            (Reaches (env_of (with_number (k + 4) n g)) (through_part k E) c → Reaches (env_of (with_number (k + 4) m g)) (through_part k E) c) →
            Reaches (env_of (with_number (k + 4) n g)) (as_effects (cond d (uses j e ∷ filter (is_through k) E) (filter (is_through k) E))) c →
            Reaches (env_of (with_number (k + 4) m g)) (as_effects (cond d (uses j e ∷ filter (is_through k) E) (filter (is_through k) E))) c
        one false q u rest h = rest h
        one true q u rest h = elim h [
          | inl x ↦ inl (moved (own_part (in_loop_branch L) k t a u.0 e.rpl (subst (λ z. (with_part k t a (in_loop_branch L)).local z ≡ Some (part u.0 e.rpl)) (eqb-true j k q) u.1)) x.0, x.1, x.2)
          | inr r ↦ inr (rest r)
        ]

    module _ {G : List EffectOwn} {body : TypedStmt} (p : AllPass P (with_part k t a (in_loop_branch L)) (more_stmts body no_stmts) G)
        (clash : iterations_clash L.given None (k + 4) (besides_part k G) ≡ false) (apart : lists_clash L.given None (besides_part k G) (through_part k G) ≡ false)
        (in_scope : All (λ o. PathInScope (with_part k t a (in_loop_branch L)) 0 (effect_of o).rpl) G)
        (us : All (UsesPart (with_part k t a (in_loop_branch L))) G) where
      is_env : (i : ℕ) → IsEnv L.given (env_of (with_number (k + 4) (number_at i) g))
      is_env i = frame_env (branch_frame i (0, 0))

      parts_quiet : (i j : ℕ) → number_at i ≢ number_at j → Quiet P Deterministic (inner i) G (inner j) G
      parts_quiet i j ne x y meet hx hy = both (lies_split k g (number_at i) (part_at i) x G hx) (lies_split k g (number_at j) (part_at j) y G hy)
        where
          -- neither, one or both are through a branch's own part
          both : Split k g (number_at i) (part_at i) x G → Split k g (number_at j) (part_at j) y G → ⊥
          both (inl hx) (inl hy) = iterations_quiet P L.given (with_part k t a (in_loop_branch L)) g (k + 4) (number_at i) (number_at j) (is_env i)
              (λ q d l. none_copied L (slice_index_or L.given q d) (good.given q d l)) (filter (λ o. not (is_through k o)) G)
              (filter_all (λ o. PathInScope (with_part k t a (in_loop_branch L)) 0 (effect_of o).rpl) (λ o. not (is_through k o)) G in_scope) clash ne x y meet hx hy
          both (inl hx) (inr hy) = lists_quiet L.given None (env_of (with_number (k + 4) (number_at i) g)) (is_env i) tt x y meet (besides_part k G) (through_part k G) apart
              (reached_same (with_number (k + 4) (number_at i) g) x (filter (λ o. not (is_through k o)) G) hx) (through_moves (number_at j) (number_at i) y G us hy.0)
          both (inr hx) (inl hy) = lists_quiet L.given None (env_of (with_number (k + 4) (number_at j) g)) (is_env j) tt y x (meet_back meet) (besides_part k G) (through_part k G) apart
              (reached_same (with_number (k + 4) (number_at j) g) y (filter (λ o. not (is_through k o)) G) hy) (through_moves (number_at i) (number_at j) x G us hx.0)
          both (inr hx) (inr hy) = parts_apart (slot_value f.values k) (number (slot_value f.values (k + 1))) (number (slot_value f.values (k + 2))) (number (slot_value f.values (k + 3)))
              (number_at i) (number_at j) x y (hx.1 meet.cells.0) (hy.1 meet.cells.1) ne len_fits meet.index

      marked_scope : (E : List EffectOwn) → All (λ o. PathInScope (with_part k t a (in_loop_branch L)) 0 (effect_of o).rpl) E →
          All (λ o. PathInScope (with_part k t a (in_loop_branch L)) 0 (effect_of o).rpl) (map (marked false) E)
      marked_scope E h = All-map (λ o. PathInScope (with_part k t a (in_loop_branch L)) 0 (effect_of o).rpl) (marked false) E (λ q d l. one (slice_index_or E q d) (h q d l))
        where
          one : (o : EffectOwn) → PathInScope (with_part k t a (in_loop_branch L)) 0 (effect_of o).rpl → PathInScope (with_part k t a (in_loop_branch L)) 0 (effect_of (marked false o)).rpl
          one (does e) h = h
          one (uses q e) h = h

      after_scope : (source : Source) (E : List EffectOwn) → All (λ o. PathInScope (with_part k t a (in_loop_branch L)) 0 (effect_of o).rpl) E →
          All (λ o. PathInScope (with_part k t a (in_loop_branch L)) 0 (effect_of o).rpl) (after_parts k source E)
      after_scope source E h = All-map (λ o. PathInScope (with_part k t a (in_loop_branch L)) 0 (effect_of o).rpl) (own_after k source) E
          (λ q d l. one (is_through k (slice_index_or E q d)) (slice_index_or E q d) (h q d l))
        where
          handed : (s : Source) (e : Effect) → PathInScope (with_part k t a (in_loop_branch L)) 0 e.rpl → PathInScope (with_part k t a (in_loop_branch L)) 0 (effect_of (handed_on s e)).rpl
          handed (of_array x) e h = h
          handed (of_part i) e h = h

          one : (c : Bool) (o : EffectOwn) → PathInScope (with_part k t a (in_loop_branch L)) 0 (effect_of o).rpl →
              PathInScope (with_part k t a (in_loop_branch L)) 0 (effect_of (cond c (handed_on source (effect_of o)) o)).rpl
          one true o h = handed source (effect_of o) h
          one false o h = h

      no_marks_after : (source : Source) (E : List EffectOwn) → All HasNoMark E → All HasNoMark (after_parts k source E)
      no_marks_after source E h = All-map HasNoMark (own_after k source) E (λ q d l. one (slice_index_or E q d) (h q d l))
        where
          handed : (s : Source) (e : Effect) → e.atomic ≡ false → HasNoMark (handed_on s e)
          handed (of_array x) e h = tt
          handed (of_part i) e h = h

          picked : (c : Bool) (j : ℕ) (e : Effect) → e.atomic ≡ false → HasNoMark (cond c (handed_on source e) (uses j e))
          picked true j e h = handed source e h
          picked false j e h = h

          one : (o : EffectOwn) → HasNoMark o → HasNoMark (own_after k source o)
          one (does e) h = tt
          one (uses j e) h = picked (j == k) j e h

      -- the branches are in order at their fork
      pub parts_forks : (source : Source) → ((j : ℕ) → source ≡ of_part j →
          g.part j ≡ record { array = slot_value f.values k; first = number (slot_value f.values (k + 1)); len = number (slot_value f.values (k + 2)) }) →
          Within b st.entries g (outside_variable (k + 4) (after_branches Deterministic (after_parts k source G))) → (n : ℕ) → n ≤ 2 ^ 32 →
          Forks P b st Deterministic (iterations (Some k) (k + 4) body f (pos 0) 0 n)
      parts_forks source is w n few = record {
        scope = λ i. with_part k t a (in_loop_branch L);
        setting = inner;
        effects = λ i. G;
        branch = λ i x e. subst (λ y. BranchFits P b st i y (with_part k t a (in_loop_branch L)) (inner i) G)
            (sym (iteration_at (Some k) (k + 4) body f (pos 0) 0 n i x e ∙ (let z : 0 + i ≡ i = omega arith in ap (λ z. branch_of (Some k) [] body (numbered_frame (k + 4) (pos 0) z f)) z)))
            (record {
              is_branch = refl;
              no_return = refl;
              passes = p;
              scope = good_parts;
              fits = λ u. branch_frame i (u, i);
              copies = λ q d l. absurd (omega (arith, l));
              within = λ c gu l. w c gu (after i c (lies_branches Deterministic (with_number (k + 4) (number_at i) g) (after_parts k source G) c (before i c l)));
            });
        quiet = λ i j ne l m. parts_quiet i j (λ e. ne (number_one (pos 0) i j (small i l) (small j m) e));
        unmarked = λ kind out i x e c l. w (unguarded c) (outside_alone out) (after i (unguarded c) (lies_unguarded (with_number (k + 4) (number_at i) g) (after_parts k source G) c
            (no_marks_after source G (without_marks (with_part k t a (in_loop_branch L)) G us)) (before i c l)));
        separate = λ kind. absurd (let z : ◌≡◌ {A = Forking} Deterministic Nondeterministic = kind in cc);
      }
        where
          -- what a branch does, by what the construct does after it
          before : (i : ℕ) (c : Access) → LiesIn (inner i) G c → LiesIn (with_number (k + 4) (number_at i) g) (after_parts k source G) c
          before i c l = lies_after k g (number_at i) (part_at i) c source (λ j q h. subst (λ z. Through z c) (sym (is j q))
              (in_whole (slot_value f.values k) (number (slot_value f.values (k + 1))) (number (slot_value f.values (k + 2))) (number (slot_value f.values (k + 3))) (number_at i) c h)) G l

          after : (i : ℕ) (c : Access) → LiesIn (with_number (k + 4) (number_at i) g) (after_branches Deterministic (after_parts k source G)) c →
              LiesIn g (outside_variable (k + 4) (after_branches Deterministic (after_parts k source G))) c
          after i c l = lies_general g (k + 4) (number_at i) (with_part k t a (in_loop_branch L)) (after_branches Deterministic (after_parts k source G)) c
              (marked_scope (after_parts k source G) (after_scope source G in_scope)) l

          small : (i : ℕ) → i < length (iterations (Some k) (k + 4) body f (pos 0) 0 n) → i < 2 ^ 32
          small i l = let c = iterations_length (Some k) (k + 4) body f (pos 0) 0 n in omega (arith, l, c, few)
