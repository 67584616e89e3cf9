-- The elision is a legal run, and all legal runs come out as it does.
use Rattle.std.proofs.Common.{◌≡◌, ℕ, zero, suc, ◌+◌, ◌<◌, ◌≤◌, ◌⊎◌, inl, inr, ⊎_elim, ℤ, pos, Bool, true, false, cond, List, [], ◌∷◌, map, refl, sym, ap}
use Rattle.std.proofs.Common.{◌∙◌, subst, arith, Option, Some, None, slice_get, nat_lt, ◌||◌, true≢false}
use Rattle.std.proofs.lemmas.Option.{slice_get_within}
use Rattle.std.proofs.lemmas.Bool.{ltb-true, lt-ltb, cases_lt}
use Rattle.lang_typed.specs.Plain.{PlainMember, PlainProgram}
use Rattle.lang_typed.specs.Scope.{member_at}
use Rattle.lang_meaning.specs.Actions.{Ending as EndingOver, Task as TaskOver}
use Rattle.lang_meaning.specs.Asking.{does, most_ticks}
use Rattle.lang_meaning.specs.Core.{Done, Stopped, Lost, run}
use Rattle.lang_meaning.specs.Core.{Out as out}
use Rattle.lang_meaning.specs.Elision.{LocalRegion as Counted, Store, at_start, elided, enters_main, held, in_order, judged, main_object, ran_through, root_task}
use Rattle.lang_meaning.specs.Elision.{sequential}
use Rattle.lang_meaning.specs.Outcomes.{Came, Limited}
use Rattle.lang_meaning.specs.Values.{Value as ValueOver}
use Rattle.runs_theory.specs.Actions.{Assigned, Ending, Program, Returned}
use Rattle.runs_theory.specs.Blocks.{Legal}
use Rattle.runs_theory.specs.Laws.{AllFree}
use Rattle.runs_theory.specs.Meaning.{Disciplined}
use Rattle.runs_theory.specs.Objects.{Name, Value, first_value, or_else, size, slot_of}
use Rattle.runs_theory.specs.Order.{Comes, InOrder, Outcome, ending_of, printed, trapped}
use Rattle.runs_theory.specs.Runs.{Ended, Run, cells_of, entry_step, event_cells, event_steps, mine, now, root, steps_of}
use Rattle.runs_theory.specs.Schedules.{Finished, Greedy, Limits, Ran, Within, ended, no_room, over}
use Rattle.runs_theory.proofs.events.Cells.{last_nil}
use Rattle.runs_theory.proofs.events.Cost.{total_nil}
use Rattle.runs_theory.proofs.runs.Finishing.{none_over}
use Rattle.runs_theory.proofs.events.Mine.{mine_nil, mine_same}
use Rattle.runs_theory.proofs.runs.Schedules.{ran_legal}
use Rattle.runs_theory.proofs.Theorems.{each_comes_out, same_outcome}
use Rattle.runs_program.specs.Steps.{first_name, named_by, stepped}
use Rattle.runs_elision.specs.Laws.{ComesOutAsElided, ElisionIsLegal, IsElided, NoneCostsMoreThanElision, RunsAreElided, SchedulesAreElided, in_limits}
use Rattle.runs_elision.specs.Laws.{over_limits}
use Rattle.runs_elision.specs.Renamed.{Distinct, EndingHasNames, HasName, HasNames, HaveNames, object_named, renamed, renamed_ending, renamed_value}
use Rattle.runs_elision.proofs.Worlds.{EndingLike, LocalsLike, Names, TaskLike, ThingLike, ValueLike, assigned_like, boolean_like, int_like, more_locals}
use Rattle.runs_elision.proofs.Worlds.{more_values, no_locals, no_regions, no_values, null_like, object_like, returned_like, trapped_like}
use Rattle.runs_elision.proofs.Counts.{MaybeLike, padded_like}
use Rattle.runs_elision.proofs.Meaning.{does_alike, object_alike}
use Rattle.runs_elision.proofs.Memory.{Holds, Stands, cell_value, size_like}
use Rattle.runs_elision.proofs.NewThings.{first_cell, held_like, held_thing}
use Rattle.runs_elision.proofs.Fuel.{Same, same_through}
use Rattle.runs_elision.proofs.Simulation.{D}
use Rattle.runs_elision.proofs.Branches.{One, PostOne, fallen, one_branch}
use Rattle.runs_elision.proofs.Programs.{prog_sim}
use Rattle.runs_theory.proofs.order.Working.{starts}

-- values under their names
value_renamed : {ns : Names} {v : ValueOver ℕ} {u : Value} → ValueLike ns v u → u ≡ renamed_value ns v
value_renamed (int_like k) = refl
value_renamed (boolean_like b) = refl
value_renamed null_like = refl
value_renamed {ns} (object_like n x h) = ap object_named (sym h)

locals_renamed : {ns : Names} {vs : List (ℕ × ValueOver ℕ)} {us : List (ℕ × Value)} → LocalsLike ns vs us → us ≡ map (λ l. (l.0, renamed_value ns l.1)) vs
locals_renamed no_locals = refl
locals_renamed (more_locals x h k) = let a = value_renamed h in let b = locals_renamed k in λ z. (x, a z) ∷ b z

ending_renamed : {ns : Names} {x : EndingOver ℕ} {y : Ending} → EndingLike ns x y → y ≡ renamed_ending ns x
ending_renamed (returned_like h) = ap Returned (value_renamed h)
ending_renamed (assigned_like h) = ap Assigned (locals_renamed h)
ending_renamed (trapped_like trap p) = refl

-- each of its objects has a name
value_has : {ns : Names} {v : ValueOver ℕ} {u : Value} → ValueLike ns v u → HasName ns v
value_has (int_like k) = tt
value_has (boolean_like b) = tt
value_has null_like = tt
value_has {ns} (object_like n x h) = slice_get_within ns n x h

locals_have : {ns : Names} {vs : List (ℕ × ValueOver ℕ)} {us : List (ℕ × Value)} → LocalsLike ns vs us → HaveNames ns vs
locals_have no_locals = tt
locals_have (more_locals x h k) = (value_has h, locals_have k)

ending_has : {ns : Names} {x : EndingOver ℕ} {y : Ending} → EndingLike ns x y → EndingHasNames ns x
ending_has (returned_like h) = value_has h
ending_has (assigned_like h) = locals_have h
ending_has (trapped_like trap p) = tt

-- the root's end is its first trap
end_is_first : {ns : Names} {x : EndingOver ℕ} {y : Ending} → EndingLike ns x y → ending_of (fallen x None) y ≡ y
end_is_first (returned_like h) = refl
end_is_first (assigned_like h) = refl
end_is_first (trapped_like trap p) = refl

elided_is : (P : PlainProgram) (arg : ℤ) (L : Limits) → elided P arg L ≡ judged L (ran_through P arg (suc L.steps))
unfolding elided
elided_is P arg L = refl

module _ (P : PlainProgram) (arg : ℤ) where
  abbrev QP : Program
  QP = stepped P arg

  abbrev DP : Disciplined (stepped P arg)
  DP = D P arg

  -- where it begins
  abbrev first_names : Names
  first_names = first_name ∷ []

  pub one_name : Distinct first_names
  one_name = record { one = λ n m x h k. zero_is n x h ∙ sym (zero_is m x k) }
    where
      zero_is : (n : ℕ) (x : Name) → slice_get (first_name ∷ []) n ≡ Some x → n ≡ 0
      zero_is zero x h = refl
      zero_is (suc n) x h = absurd (let k : None ≡ Some x = h in cc)

  pub root_like : TaskLike first_names (root_task in_order P 0 arg) (root_task (named_by []) P first_name arg)
  root_like = at (member_at P P.main_member)
    where
      at : (o : Option PlainMember) → TaskLike first_names (enters_main in_order 0 arg o) (enters_main (named_by []) first_name arg o)
      at None = record {
        left = 499;
        work = refl;
        frame = record { values = no_values; regions = no_regions; left = refl; left_too = refl; distinct = one_name };
      }
      at (Some m) = record {
        left = 499;
        work = refl;
        frame = record {
          values = padded_like m.slots (more_values (object_like 0 first_name refl) (more_values (int_like arg) no_values));
          regions = no_regions;
          left = refl;
          left_too = refl;
          distinct = one_name;
        };
      }

  pub main_like : ThingLike first_names (main_object P) QP.object
  main_like = object_alike P P.main_class no_regions

  stands_first : (n : ℕ) → Stands QP [] first_names (at_start P n).heap 0 first_name
  stands_first n = record {
    held = held (main_object P);
    is_held = refl;
    thing = QP.object;
    is_thing = refl;
    like = held_thing main_like;
    values = λ k. subst (λ (r : Option Value). MaybeLike first_names (slice_get (held (main_object P)).values k) r) (firsts (slot_of (pos k)
        (size QP.object))) (held_like main_like k);
  }
    where
      firsts : (o : Option ℕ) → first_cell QP.object o ≡ cell_value [] QP.object first_name o
      firsts None = refl
      firsts (Some k) = ap (λ o. Some (or_else o (first_value QP.object k))) (sym (last_nil (record { object = first_name; slot = k })))

  nothing_printed : printed [] ≡ []
  unfolding printed
  nothing_printed = refl

  nothing_trapped : trapped [] ≡ None
  unfolding trapped
  nothing_trapped = refl

  pub holds_first : (n : ℕ) → Holds QP [] first_names 0 (at_start P n)
  holds_first n = record {
    many = refl;
    distinct = one_name;
    there = at;
    unwritten = λ c h. last_nil c;
    output = sym nothing_printed;
    trap = sym nothing_trapped;
    steps = (let z = total_nil event_steps in omega arith);
    cells = (let z = total_nil event_cells in let s = size_like main_like in omega arith);
  }
    where
      at : (m : ℕ) (x : Name) → slice_get (first_name ∷ []) m ≡ Some x → Stands QP [] first_names (at_start P n).heap m x
      at zero x h = let e : first_name ≡ x = cc in subst (λ (y : Name). Stands QP [] first_names (at_start P n).heap 0 y) e (stands_first n)
      at (suc m) x h = absurd (let k : None ≡ Some x = h in cc)

  -- the run that the elision makes
  made_run : (n : ℕ) → PostOne P arg [] [] first_names (at_start P n) (ran_through P arg n)
  unfolding ran_through
  made_run n =
      let t : TaskOver ℕ Counted = root_task in_order P 0 arg in
      one_branch P arg [] [] first_names (at_start P n) t (root_task (named_by []) P first_name arg) (λ w. run sequential (does in_order P t) w) root_like
      (λ ns s q h b. prog_sim P arg (does in_order P t) h.left ns (does (named_by q) P s) q h.frame.distinct (does_alike q P h) b)
      tt (record { each = λ y x Y X h k. elim h [ ] }) tt (starts QP DP) (root refl refl) (mine_nil []) (holds_first n)

  -- how it comes out where it is done
  module _ (n : ℕ) {v : Store} {x : EndingOver ℕ} (o : One P arg [] [] first_names (at_start P n) v x) where
    abbrev whole : Run
    whole = o.event ∷ o.before

    root_ended : Ended whole [] o.ending
    root_ended = record { before = o.before; event = o.event; stands = now; path = o.path; act = o.act }

    entered : entry_step (mine whole []) ≡ 1
    entered = ap entry_step (mine_same o.event o.before [] o.path)

    steps_are : v.steps ≡ steps_of whole
    steps_are = let a = o.holds.steps in let b = entered in omega arith

    comes : Comes QP whole (renamed o.names (Came x v.output v.steps v.cells))
    comes = record {
      end = o.ending;
      ended = root_ended;
      sorted = whole;
      in_order = o.order;
      events = λ p. refl;
      outcome = λ z. Came (ending z) (o.holds.output z) (steps_are z) (o.holds.cells z);
    }
      where
        ending : renamed_ending o.names x ≡ ending_of (trapped whole) o.ending
        ending = sym (ending_renamed o.like) ∙ sym (end_is_first o.like) ∙ ap (λ f. ending_of f o.ending) (sym o.trap ∙ o.holds.trap)

    -- it is judged by its costs
    done_judged : (L : Limits) → elided P arg L ≡ judged L (Done x v) → ComesOutAsElided P arg L whole
    done_judged L e = go (nat_lt L.steps v.steps) refl (nat_lt L.cells v.cells) refl
      where
        go : (a : Bool) → nat_lt L.steps v.steps ≡ a → (b : Bool) → nat_lt L.cells v.cells ≡ b → ComesOutAsElided P arg L whole
        go true ea b eb = over_limits (λ w. (let i = w.steps in let j = steps_are in let k = ltb-true L.steps v.steps ea in omega arith))
            (e ∙ ap (λ c. cond (c || nat_lt L.cells v.cells) (Limited L.steps L.cells) (Came x v.output v.steps v.cells)) ea)
        go false ea true eb = over_limits (λ w. (let i = w.cells in let j = o.holds.cells in let k = ltb-true L.cells v.cells eb in omega arith))
            (e ∙ (λ z. cond (ea z || eb z) (Limited L.steps L.cells) (Came x v.output v.steps v.cells)))
        go false ea false eb = in_limits (renamed o.names (Came x v.output v.steps v.cells)) comes
            (record {
              steps = (let j = steps_are in ⊎_elim (λ l. absurd (true≢false (sym (lt-ltb L.steps v.steps l)
                  ∙ ea))) (λ l. omega arith) (cases_lt L.steps v.steps));
              cells = (let j = o.holds.cells in ⊎_elim (λ l. absurd (true≢false (sym (lt-ltb L.cells v.cells l)
                  ∙ eb))) (λ l. omega arith) (cases_lt L.cells v.cells));
            })
            (record {
              names = o.names;
              distinct = o.holds.distinct;
              named = subst (HasNames o.names)
                  (sym (e ∙ (λ z. cond (ea z || eb z) (Limited L.steps L.cells) (Came x v.output v.steps v.cells)))) (ending_has o.like);
              is = sym (ap (renamed o.names) (e ∙ (λ z. cond (ea z || eb z) (Limited L.steps L.cells) (Came x v.output v.steps v.cells))));
            })

  abbrev Result_of : Limits → Type 0
  Result_of L = (R : Run) × Legal QP R × InOrder R × Greedy QP R × ComesOutAsElided P arg L R

  -- it comes to its end, or its ticks run out and with more of them it is over the limit of steps
  comes_out : (L : Limits) (o q : out ℕ Counted (EndingOver ℕ) Store) → elided P arg L ≡ judged L o → Same most_ticks (suc L.steps) o q
      → PostOne P arg [] [] first_names (at_start P (suc L.steps)) o → PostOne P arg [] [] first_names (at_start P (suc L.steps + most_ticks)) q → Result_of L
  comes_out L (Done x v) q e s a b = (a.event ∷ a.before, a.legal, a.order, a.greedy, done_judged (suc L.steps) a L e)
  comes_out L (out.Trapped trap p v) q e s a b = absurd a
  comes_out L (Stopped n c) q e s a b = absurd a
  comes_out L (Lost v) (Done x u) e s a b = (
    b.event ∷ b.before,
    b.legal,
    b.order,
    b.greedy,
    over_limits (λ w. (let i = w.steps in let j = steps_are
        (suc L.steps + most_ticks) b in let k = b.spent in let m = s in omega arith)) e,
  )
  comes_out L (Lost v) (out.Trapped trap p u) e s a b = absurd b
  comes_out L (Lost v) (Stopped n c) e s a b = absurd b
  comes_out L (Lost v) (Lost u) e s a b = (
    b.log,
    b.legal,
    b.order,
    b.greedy,
    over_limits (λ w. (let i = w.steps in let j = b.holds.steps in let k = b.spent in let m = b.low in let n = b.empty in omega arith)) e,
  )

pub elision_is_legal : ElisionIsLegal
elision_is_legal P arg L =
    comes_out P arg L (ran_through P arg (suc L.steps)) (ran_through P arg (suc L.steps + most_ticks)) (elided_is P arg L)
    (same_through P arg (suc L.steps) most_ticks) (made_run P arg (suc L.steps)) (made_run P arg (suc L.steps + most_ticks))

-- within the limits, or not
pub within_cases : (P : Program) (L : Limits) (R : Run) → Within P L R ⊎ (Within P L R → ⊥)
within_cases P L R = go (cases_lt L.steps (steps_of R)) (cases_lt L.cells (cells_of P R))
  where
    go : (L.steps < steps_of R) ⊎ (steps_of R ≤ L.steps) → (L.cells < cells_of P R) ⊎ (cells_of P R ≤ L.cells) → Within P L R ⊎ (Within P L R → ⊥)
    go (inl a) b = inr (λ w. (let i = w.steps in omega arith))
    go (inr a) (inl b) = inr (λ w. (let i = w.cells in omega arith))
    go (inr a) (inr b) = inl (record { steps = a; cells = b })

ran_within : (P : Program) (L : Limits) (ks : List ℕ) (R : Run) → Ran P L ks R → Within P L R
ran_within P L [] [] r = r
ran_within P L [] (e ∷ R) r = absurd r
ran_within P L (k ∷ ks) [] r = absurd r
ran_within P L (k ∷ ks) (e ∷ R) r = r.2

-- what stands at the start costs no more than any run
starts_within : (P : Program) (L : Limits) (R : Run) → Within P L R → Within P L []
starts_within P L R w = record {
  steps = (let z = total_nil event_steps in let n = none_entered in omega arith);
  cells = (let z = total_nil event_cells in let i = w.cells in omega arith);
}
  where
    none_entered : entry_step (mine [] []) ≡ 0
    none_entered = ap entry_step (mine_nil [])

pub limited : (P : PlainProgram) (arg : ℤ) (L : Limits) → elided P arg L ≡ Limited L.steps L.cells → IsElided P arg L (Limited L.steps L.cells)
limited P arg L e = record { names = []; distinct = record { one = λ n m x h k. absurd (let z : None ≡ Some x = h in cc) }; named = subst (HasNames []) (sym e) tt; is = ap (renamed []) (sym e) }

module _ (P : PlainProgram) (arg : ℤ) (free : AllFree (stepped P arg)) (L : Limits) where
  abbrev QF : Program
  QF = stepped P arg

  DF : Disciplined (stepped P arg)
  DF = D P arg

  E : (R : Run) × Legal QF R × InOrder R × Greedy QF R × ComesOutAsElided P arg L R
  E = elision_is_legal P arg L

  as_elided : (R : Run) (x : Ending) (S : Run) → Legal QF R → Ended R [] x → Legal QF S → ComesOutAsElided P arg L S → ComesOutAsElided P arg L R
  as_elided R x S l g m (in_limits o c w i) =
      let r = each_comes_out QF R x l g in
      let same : r.0 ≡ o = same_outcome QF DF R S r.0 o l m (free R l) (free S m) r.1 c in
      in_limits r.0 r.1 (none_over QF DF free L S R c.end m w c.ended l) (record { names = i.names; distinct = i.distinct; named = i.named; is = same ∙ i.is })
  as_elided R x S l g m (over_limits n e) = over_limits (λ w. n (none_over QF DF free L R S x l w g m)) e

  finished_elided : (ks : List ℕ) (o : Outcome) → Finished QF L ks o → IsElided P arg L o
  finished_elided ks o (ended R r c) = at (as_elided R c.end E.0 (ran_legal QF L ks R r) c.ended E.1 E.4)
    where
      at : ComesOutAsElided P arg L R → IsElided P arg L o
      at (in_limits q d w i) =
          let l = ran_legal QF L ks R r in
          let same : o ≡ q = same_outcome QF DF R R o q l l (free R l) (free R l) c d in
          record { names = i.names; distinct = i.distinct; named = i.named; is = same ∙ i.is }
      at (over_limits n e) = absurd (n (ran_within QF L ks R r))
  finished_elided _ _ (over k ks R e r ready n) = at E.4
    where
      at : ComesOutAsElided P arg L E.0 → IsElided P arg L (Limited L.steps L.cells)
      at (in_limits q d w i) = absurd (n (none_over QF DF free L E.0 (e ∷ R) d.end E.1 w d.ended (ready.allowed, ran_legal QF L ks R r)))
      at (over_limits m h) = limited P arg L h
  finished_elided _ _ (no_room n) = at E.4
    where
      at : ComesOutAsElided P arg L E.0 → IsElided P arg L (Limited L.steps L.cells)
      at (in_limits q d w i) = absurd (n (starts_within QF L E.0 w))
      at (over_limits m h) = limited P arg L h

  costs_no_more : (x : EndingOver ℕ) (output : List ℕ) (steps cells : ℕ) → elided P arg L ≡ Came x output steps cells → (R : Run) → Legal QF R
      → (steps_of R ≤ steps) × (cells_of QF R ≤ cells)
  costs_no_more x output steps cells e R l = at E.4
    where
      came_steps : (o q : Outcome) → o ≡ q → (a b : Ending) (s t : List ℕ) (i j m n : ℕ) → o ≡ Came a s i j → q ≡ Came b t m n → (i ≡ m) × (j ≡ n)
      came_steps o q h a b s t i j m n k y = let z : Came a s i j ≡ Came b t m n = sym k ∙ h ∙ y in (cc, cc)

      at : ComesOutAsElided P arg L E.0 → (steps_of R ≤ steps) × (cells_of QF R ≤ cells)
      at (over_limits n h) = absurd (let z : Came x output steps cells ≡ Limited L.steps L.cells = sym e ∙ h in cc)
      at (in_limits q d w i) =
          let k = came_steps q q refl _ _ _ _ _ _ _ _ d.outcome (i.is ∙ ap (renamed i.names) e) in
          let k0 = k.0 in
          let k1 = k.1 in
          let limits : Limits = record { steps = steps_of E.0; cells = cells_of QF E.0 } in
          let v : Within QF limits E.0 = record { steps = omega arith; cells = omega arith } in
          let u = none_over QF DF free limits E.0 R d.end E.1 v d.ended l in
          let us = u.steps in
          let uc = u.cells in (omega arith, omega arith)

pub runs_are_elided : RunsAreElided
runs_are_elided P arg free L R x l g = (let e = elision_is_legal P arg L in as_elided P arg free L R x e.0 l g e.1 e.4)

pub schedules_are_elided : SchedulesAreElided
schedules_are_elided P arg free L ks o f = finished_elided P arg free L ks o f

pub none_costs_more_than_elision : NoneCostsMoreThanElision
none_costs_more_than_elision P arg free L x output steps cells e R l = costs_no_more P arg free L x output steps cells e R l
