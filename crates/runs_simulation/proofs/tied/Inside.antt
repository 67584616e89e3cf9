-- Who stands inside an open block: the locks of a machine and the standing of the run's tasks.
use Rattle.std.proofs.Common.{◌≡◌, ◌≢◌, ◌≤◌, ◌<◌, ◌⊎◌, ℕ, zero, suc, ◌+◌, ◌-◌, ℤ, Bool, true, false, cond, nat_lt, List, [], ◌∷◌, map, length, refl, sym, ap, ◌∙◌, subst, Option, Some, None, slice_get, arith, length-append}
use Rattle.std.proofs.lemmas.Option.{slice_get_within}
use Rattle.std.proofs.lemmas.Bool.{lt-ltb}
use Rattle.std.specs.Prelude.{is_some}
use Rattle.std.specs.Cmp.{nat_cmp_total}
use Rattle.std.specs.FinMap.{get, insert, remove, get-insert, get-remove}
use Rattle.lang_base.specs.declared.effect.Effect.{Effect as PathEffect}
use Rattle.lang_typed.specs.Plain.{PlainProgram}
use Rattle.lang_meaning.specs.Actions.{Effect as EffectOver}
use Rattle.lang_meaning.specs.Values.{Part as PartOver}
use Rattle.code_instrs.specs.Plain.{PlainCode}
use Rattle.runs_theory.specs.Actions.{Begin, Ending, Enter, Exit, Rule}
use Rattle.runs_theory.specs.Blocks.{Hold, In_block, Out_of, hold, hold_after, own_hold}
use Rattle.runs_theory.specs.Objects.{Effect, LocalRegion, Part, Path}
use Rattle.runs_theory.specs.Runs.{Ended, Event, Faithful, Run, Upto, count, event_steps, mine, total}
use Rattle.runs_theory.specs.Standing.{Inside, Outside, Standing, above, first_of, joined_by, standing}
use Rattle.runs_theory.proofs.runs.Faithful.{begin_after}
use Rattle.runs_theory.proofs.events.Mine.{found, mine_at}
use Rattle.runs_theory.proofs.events.Numbers.{begins_step, number_one}
use Rattle.runs_theory.proofs.runs.Standing.{above_step, first_is, hold_since}
use Rattle.runs_theory.proofs.events.Upto.{upto_length, upto_tail}
use Rattle.exec_locks.specs.Locks.{HasEntry, Standings, deepened, entered, entered_from, exited, exited_from, is_inner, next, opener_of, shallower}
use Rattle.exec_locks.specs.declared.standing.Standing.{Standing as Lock}
use Rattle.exec_locks.specs.declared.standing.Standing.TheVariants.{Adopted, Opener}
use Rattle.exec_tasks.proofs.Numbers.{itself, other_number}
use Rattle.exec_tasks.specs.Scope.{Branches as Scope}
use Rattle.exec_tasks.specs.declared.task.Task.{Task as Live}
use Rattle.exec_world.specs.World.{adopted_by}
use Rattle.exec_world.specs.declared.world.World.{World}
use Rattle.exec_machine.specs.Wants.{noted}
use Rattle.runs_simulation.proofs.alike.Sights.{Sight, each_weaker, EffectsLike, LocalLike, PartLike, a_local, a_name, a_number, any_index, any_parts, made_like, own_index, unmade_like}
use Rattle.runs_simulation.proofs.events.Asked.{disciplined}
use Rattle.runs_simulation.proofs.tied.Ties.{ForkTied, NumbersTied, Q}
use Rattle.runs_simulation.proofs.tied.Trees.{numbered_later}

abbrev pub EffectsIn : Type 0
EffectsIn = List (EffectOver (ℕ × ℕ))

-- effects that are like stay so as long as tasks keep their numbers
abbrev pub PathsStay : Sight → Sight → Type 0
PathsStay v w = (k : ℕ) (p : Path) → slice_get v.paths k ≡ Some p → slice_get w.paths k ≡ Some p

module _ {v w : Sight} (stay : PathsStay v w) where
  local_on : {l : ℕ × ℕ} {m : LocalRegion} → LocalLike v l m → LocalLike w l m
  local_on (made_like k c p e) = made_like k c p (stay k p e)
  local_on (unmade_like r) = unmade_like r

  part_on : {x : PartOver (ℕ × ℕ)} {y : Part} → PartLike v x y → PartLike w x y
  part_on (a_name n) = a_name n
  part_on (a_number k) = a_number k
  part_on (a_local l) = a_local (local_on l)
  part_on own_index = own_index
  part_on any_index = any_index
  part_on any_parts = any_parts

  pub effects_on : {E : EffectsIn} {F : List Effect} → EffectsLike v E F → EffectsLike w E F
  effects_on h = each_weaker (λ x y e. record { access = e.access; region = each_weaker (λ a b k. part_on k) e.region }) h

pub get_there : {A : Type 0} (xs : List A) (n : ℕ) → n < length xs → (x : A) × (slice_get xs n ≡ Some x)
get_there [] n l = absurd (omega (arith, l))
get_there (x ∷ xs) zero l = (x, refl)
get_there (x ∷ xs) (suc n) l = get_there xs n (omega (arith, l))

-- numbers are kept over an event
pub paths_stay : {v w : Sight} {R : Run} {e : Event} {a b : ℕ} → NumbersTied v R a → NumbersTied w (e ∷ R) b → PathsStay v w
paths_stay {v} {w} {R} {e} M N k p h =
    let within = slice_get_within v.paths k p h in
    let many = M.many in
    let more = N.many in
    let counted = M.count in
    let counts = N.count in
    let step = begins_step e R in
    let x = get_there w.paths k (omega (arith, within, many, more, counted, counts, step)) in
    let same : x.0 ≡ p = number_one (N.numbered k x.0 x.1) (numbered_later e (M.numbered k p h)) in
    subst (λ q. slice_get w.paths k ≡ Some q) same x.1

-- how many entries of its own a task has open
abbrev pub entries_open : Hold → ℕ
entries_open Out_of = 0
entries_open (In_block n E) = suc n

-- how a live task stands
pub data StandTied (w : Sight) (R : Run) (p : Path) : Option Lock → Type 0 where
  stands_out : above R p ≡ Outside → hold (mine R p) ≡ Out_of → StandTied w R p None
  has_opened : (n d : ℕ) (E : EffectsIn) (F : List Effect) → above R p ≡ Outside → hold (mine R p) ≡ In_block n F → EffectsLike w E F → d ≡ suc n
      → n < total event_steps R → StandTied w R p (Some (Opener (map noted E) d))
  was_adopted : (o d : ℕ) (q : Path) (F : List Effect) → above R p ≡ Inside q F → slice_get w.paths o ≡ Some q → d ≡ entries_open (hold (mine R p))
      → d ≤ total event_steps R → StandTied w R p (Some (Adopted o d))

pub record BlocksTied (w : Sight) (R : Run) (world : World) : Type 0 where
  -- each live task
  pub stand : (k : ℕ) (x : Live) (p : Path) → get world.tree.tasks k ≡ Some x → slice_get w.paths k ≡ Some p → StandTied w R p (get world.locks k)
  -- and no other
  pub none : (k : ℕ) → get world.tree.tasks k ≡ None → get world.locks k ≡ None
  -- a task that has begun is live, or has ended
  pub there : (k : ℕ) (p : Path) → slice_get w.paths k ≡ Some p → ((x : Live) × (get world.tree.tasks k ≡ Some x)) ⊎ ((x : Ending) × Ended R p x)

-- who has no entry open in a machine has none in the run
pub none_open : {w : Sight} {R : Run} {p : Path} {s : Option Lock} → StandTied w R p s → (HasEntry s → ⊥) → hold (mine R p) ≡ Out_of
none_open (stands_out a h) closed = h
none_open (has_opened n d E F a h l s b) closed = absurd (closed tt)
none_open {R = R} {p = p} (was_adopted o d q F a t n b) closed = go (hold (mine R p)) n
  where
    go : (h : Hold) → d ≡ entries_open h → h ≡ Out_of
    go Out_of e = refl
    go (In_block k E) e = absurd (closed (omega (arith, e)))

-- the standing that a lock tells
pub tells_standing : {w : Sight} {R : Run} {p : Path} {s : Option Lock} → StandTied w R p s → standing R p ≡ Outside → s ≡ None
tells_standing (stands_out a h) e = refl
tells_standing {R = R} {p = p} (has_opened n d E F a h l s b) e =
    absurd (let both : joined_by (above R p) p (hold (mine R p)) ≡ Inside p F = ap (λ s. joined_by s p (hold (mine R p))) a ∙ ap (λ k. joined_by Outside p k) h in
    let no : Inside p F ≡ Outside = sym both ∙ e in cc)
tells_standing {R = R} {p = p} (was_adopted o d q F a t n b) e =
    absurd (let both : joined_by (above R p) p (hold (mine R p)) ≡ Inside q F = ap (λ s. joined_by s p (hold (mine R p))) a in
    let no : Inside q F ≡ Outside = sym both ∙ e in cc)

-- what stands under a number after changes of another, or its own
module _ (locks : Standings) (k : ℕ) where
  pub put_own : (s : Lock) → get (insert locks k s) k ≡ Some s
  put_own s = get-insert nat_cmp_total locks k s k ∙ ap (λ b. cond b (Some s) (get locks k)) (itself k)

  pub put_other : (s : Lock) (j : ℕ) → j ≢ k → get (insert locks k s) j ≡ get locks j
  put_other s j apart = get-insert nat_cmp_total locks k s j ∙ ap (λ b. cond b (Some s) (get locks j)) (other_number j k apart)

  pub gone_own : get (remove locks k) k ≡ None
  gone_own = get-remove nat_cmp_total locks k k ∙ ap (λ b. cond b None (get locks k)) (itself k)

  pub gone_other : (j : ℕ) → j ≢ k → get (remove locks k) j ≡ get locks j
  gone_other j apart = get-remove nat_cmp_total locks k j ∙ ap (λ b. cond b None (get locks j)) (other_number j k apart)

abbrev pub lock_entered : List PathEffect → Option Lock → Option Lock
lock_entered wants None = Some (Opener wants 1)
lock_entered wants (Some s) = Some (deepened s)

abbrev pub lock_exited : Option Lock → Option Lock
lock_exited None = None
lock_exited (Some s) = cond (is_inner s) (Some (shallower s)) None

abbrev pub lock_adopted : ℕ → Option Lock → Option Lock
lock_adopted by None = None
lock_adopted by (Some s) = Some (Adopted (opener_of by (Some s)) 0)

module _ (locks : Standings) (k : ℕ) where
  pub entered_own : (wants : List PathEffect) → get (entered locks k wants) k ≡ lock_entered wants (get locks k)
  entered_own wants = go (get locks k)
    where
      go : (s : Option Lock) → get (entered_from locks k wants s) k ≡ lock_entered wants s
      go None = put_own locks k (Opener wants 1)
      go (Some s) = put_own locks k (deepened s)

  pub entered_other : (wants : List PathEffect) (j : ℕ) → j ≢ k → get (entered locks k wants) j ≡ get locks j
  entered_other wants j apart = go (get locks k)
    where
      go : (s : Option Lock) → get (entered_from locks k wants s) j ≡ get locks j
      go None = put_other locks k (Opener wants 1) j apart
      go (Some s) = put_other locks k (deepened s) j apart

  pub exited_own : get (exited locks k) k ≡ lock_exited (get locks k)
  exited_own = go (get locks k) refl
    where
      inner : (s : Lock) (b : Bool) → get (cond b (insert locks k (shallower s)) (remove locks k)) k ≡ cond b (Some (shallower s)) None
      inner s true = put_own locks k (shallower s)
      inner s false = gone_own locks k

      go : (s : Option Lock) → get locks k ≡ s → get (exited_from locks k s) k ≡ lock_exited s
      go None e = e
      go (Some s) e = inner s (is_inner s)

  pub exited_other : (j : ℕ) → j ≢ k → get (exited locks k) j ≡ get locks j
  exited_other j apart = go (get locks k)
    where
      inner : (s : Lock) (b : Bool) → get (cond b (insert locks k (shallower s)) (remove locks k)) j ≡ get locks j
      inner s true = put_other locks k (shallower s) j apart
      inner s false = gone_other locks k j apart

      go : (s : Option Lock) → get (exited_from locks k s) j ≡ get locks j
      go None = refl
      go (Some s) = inner s (is_inner s)

  pub adopted_own : (c : ℕ) → get locks c ≡ None → get (adopted_by locks k c) c ≡ lock_adopted k (get locks k)
  adopted_own c free = go (get locks k)
    where
      go : (s : Option Lock) → get (cond (is_some s) (insert locks c (Adopted (opener_of k s) 0)) locks) c ≡ lock_adopted k s
      go None = free
      go (Some s) = put_own locks c (Adopted (opener_of k (Some s)) 0)

  pub adopted_other : (c j : ℕ) → j ≢ c → get (adopted_by locks k c) j ≡ get locks j
  adopted_other c j apart = go (get locks k)
    where
      go : (s : Option Lock) → get (cond (is_some s) (insert locks c (Adopted (opener_of k s) 0)) locks) j ≡ get locks j
      go None = refl
      go (Some s) = put_other locks c (Adopted (opener_of k (Some s)) 0) j apart

-- a count that is far from its last value
next_small : (n : ℕ) → n < 4294967296 → next n ≡ suc n
next_small n l = omega (arith, l)

entered_open : (F : List Effect) (h : Hold) → entries_open (own_hold (Enter F) h) ≡ suc (entries_open h)
entered_open F Out_of = refl
entered_open F (In_block n E) = refl

exited_open : (h : Hold) → entries_open (own_hold Exit h) ≡ entries_open h - 1
exited_open Out_of = refl
exited_open (In_block zero E) = refl
exited_open (In_block (suc n) E) = omega arith

-- how standings go on
module _ {v w : Sight} (stay : PathsStay v w) {R S : Run} (more : total event_steps R ≤ total event_steps S) {p : Path} (same : above R p ≡ above S p) where
  pub stand_same : {s : Option Lock} → hold (mine R p) ≡ hold (mine S p) → StandTied v R p s → StandTied w S p s
  stand_same h (stands_out a o) = stands_out (sym same ∙ a) (sym h ∙ o)
  stand_same h (has_opened n d E F a o l e b) = has_opened n d E F (sym same ∙ a) (sym h ∙ o) (effects_on stay l) e (omega (arith, b, more))
  stand_same h (was_adopted o d q F a t n b) = was_adopted o d q F (sym same ∙ a) (stay o q t) (n ∙ ap entries_open h) (omega (arith, b, more))

  -- over an entry of its own
  pub stand_entered : {s : Option Lock} {E : EffectsIn} {F : List Effect} → hold (mine S p) ≡ own_hold (Enter F) (hold (mine R p)) → EffectsLike w E F
      → total event_steps R < total event_steps S → total event_steps R < 4294967295 → StandTied v R p s → StandTied w S p (lock_entered (map noted E) s)
  stand_entered {E = E} {F = F} h like less few (stands_out a o) =
      has_opened 0 1 E F (sym same ∙ a) (h ∙ ap (λ k. own_hold (Enter F) k) o) like refl (omega (arith, less))
  stand_entered {E = E} {F = F} h like less few (has_opened n d G H a o l e b) =
      has_opened (suc n) (next d) G H (sym same ∙ a) (h ∙ ap (λ k. own_hold (Enter F) k) o) (effects_on stay l) (next_small d (omega (arith, few, e, b)) ∙ ap (λ n. suc n) e)
      (omega (arith, b, less))
  stand_entered {F = F} h like less few (was_adopted o d q G a t n b) =
      was_adopted o (next d) q G (sym same ∙ a) (stay o q t)
      (next_small d (omega (arith, few, b)) ∙ ap (λ n. suc n) n ∙ sym (entered_open F (hold (mine R p))) ∙ sym (ap entries_open h))
      (let s = next_small d (omega (arith, few, b)) in omega (arith, s, b, less))

  -- over an exit of its own
  pub stand_exited : {s : Option Lock} → hold (mine S p) ≡ own_hold Exit (hold (mine R p)) → StandTied v R p s → StandTied w S p (lock_exited s)
  stand_exited h (stands_out a o) = stands_out (sym same ∙ a) (h ∙ ap (λ k. own_hold Exit k) o)
  stand_exited h (was_adopted o d q F a t n b) =
      was_adopted o (d - 1) q F (sym same ∙ a) (stay o q t) (ap (λ n. n - 1) n ∙ sym (exited_open (hold (mine R p))) ∙ sym (ap entries_open h)) (omega (arith, b, more))
  stand_exited h (has_opened zero d G H a o l e b) =
      subst (λ x. StandTied w S p (cond x (Some (Opener (map noted G) (d - 1))) None)) (sym (outermost d e)) (stands_out (sym same ∙ a) (h ∙ ap (λ k. own_hold Exit k) o))
    where
      outermost : (d : ℕ) → d ≡ 1 → nat_lt 1 d ≡ false
      outermost d e = ap (λ n. nat_lt 1 n) e
  stand_exited h (has_opened (suc n) d G H a o l e b) =
      subst (λ x. StandTied w S p (cond x (Some (Opener (map noted G) (d - 1))) None)) (sym (lt-ltb 1 d (omega (arith, e))))
      (has_opened n (d - 1) G H (sym same ∙ a) (h ∙ ap (λ k. own_hold Exit k) o) (effects_on stay l) (omega (arith, e)) (omega (arith, b, more)))

standing_as : (R : Run) (q : Path) (s : Standing) → above R q ≡ s → standing R q ≡ joined_by s q (hold (mine R q))
standing_as R q s e = ap (λ s. joined_by s q (hold (mine R q))) e

-- a branch of a task that stands so, which has made nothing yet
module _ {w : Sight} {R : Run} (k : ℕ) {q p : Path} (there : slice_get w.paths k ≡ Some q) (up : above R p ≡ standing R q) (none : hold (mine R p) ≡ Out_of) where
  pub stand_branch : {s : Option Lock} → StandTied w R q s → StandTied w R p (lock_adopted k s)
  stand_branch (stands_out a o) = stands_out (up ∙ standing_as R q Outside a ∙ ap (λ h. joined_by Outside q h) o) none
  stand_branch (has_opened n d E F a o l e b) =
      was_adopted k 0 q F (up ∙ standing_as R q Outside a ∙ ap (λ h. joined_by Outside q h) o) there (sym (ap entries_open none)) (omega arith)
  stand_branch (was_adopted o d r F a t n b) = was_adopted o 0 r F (up ∙ standing_as R q (Inside r F) a) t (sym (ap entries_open none)) (omega arith)

module _ (P : PlainProgram) (arg : ℤ) (rule : Rule) (C : PlainCode) where
  -- a branch was begun where its parent stands, as long as the fork is open
  pub branch_above : {w : Sight} {R : Run} {q : Path} {z : _} {scope : Scope} → Faithful (Q P arg rule C) R → ForkTied P arg rule C w R q z scope → (u : ℕ × ℕ)
      → suc (u.0 + length scope.ends) ≡ count R q → above R (u ∷ q) ≡ standing R q
  branch_above {w} {R} {q} {z} {scope} faithful F u number =
      above_step R u q ∙ ap (λ h. joined_by (above R q) q h) (ap hold firsts ∙ sym (hold_since stands begins_alone ∙ ap (λ a. hold_after a (hold (mine F.before q))) F.act))
    where
      stands : Upto (F.fork ∷ mine F.before q) (mine R q)
      stands = mine_at q F.stands F.path

      counted : count R q ≡ length F.since + suc (count F.before q)
      counted = ap length F.last ∙ length-append F.since (F.fork ∷ mine F.before q)

      same : count F.before q ≡ u.0
      same = (let a = counted in let b = F.begun in omega (arith, a, b, number))

      firsts : first_of u.0 (mine R q) ≡ mine F.before q
      firsts = subst (λ n. first_of n (mine R q) ≡ mine F.before q) same (first_is (upto_tail stands))

      begins_alone : (X : Run) (x : Event) → Upto (x ∷ X) (mine R q) → length (F.fork ∷ mine F.before q) ≤ length X → (b : ℕ) × (x.act ≡ Begin b)
      begins_alone X x h l =
          let w = found R q h in
          let n = ap length w.mine_is in
          let less = upto_length h in
          let c = counted in
          let f = F.begun in
          let g = F.within in
          let m = F.many in (
            length X - suc (count F.before q),
            begin_after (Q P arg rule C) (disciplined P arg rule C) q F.tasks (length X - suc (count F.before q)) faithful F.stands F.path F.act w.stands w.path
                (omega (arith, n, l)) (omega (arith, less, c, f, g, m, l)),
          )
