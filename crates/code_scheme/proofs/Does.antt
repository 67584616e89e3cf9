-- A state of the machine does what a stretch of work does, where less than so many ticks are possible.
use Rattle.std.proofs.Common.{◌≡◌, ℕ, zero, suc, ◌+◌, ◌-◌, ◌*◌, ◌<◌, ◌≤◌, Bool, true, false, List, [], ◌∷◌, length, refl, sym, ap, ◌∙◌, subst, arith, Some, if◌then◌else◌, ◌==◌, lit<}
use Rattle.std.proofs.lemmas.Bool.{eqb-false}
use Rattle.lang_typed.specs.Plain.{PlainProgram}
use Rattle.lang_meaning.specs.Values.{Naming}
use Rattle.lang_meaning.specs.Actions.{Task, Ending, Trapped, Rest, Action, Do, Begin, Join, Answer, Reply, Next, Unknown}
use Rattle.lang_meaning.specs.Core.{Result, Prog, Ret, Traps, Act, Makes, Again, Split, on, each_from, Out, Done, Stopped, Lost, bind, World, loop, run}
use Rattle.lang_meaning.specs.Core.{Out as out}
use Rattle.lang_meaning.specs.Counts.{Brought, brought}
use Rattle.lang_meaning.specs.Asking.{most_ticks, Reported, take_answer, asked, begins_then, reported_join, reported, ending}
use Rattle.lang_meaning.specs.Asking.{ticked as ticked_reported}
use Rattle.code_instrs.specs.Plain.{PlainCode}
use Rattle.code_instrs.specs.Machine.{Start, State, Off, Goes, Ticks, Waits, step, solo, stood, answered, ticked}
use Rattle.code_instrs.specs.Machine.{Stand as stand}
use Rattle.code_scheme.specs.Compiled.{SameAct, SameReply}

-- the reply of a stretch of work and what follows it
abbrev pub after : {N M : Type 0} → Out N M (Result N M) (Reported N M) → (Result N M → Reported N M → Reply N M (Task N M)) → Reply N M (Task N M)
after (Done r w) k = k r w
after (out.Trapped trap p w) k = ending (Trapped trap p) w.since w.to_come
after (Stopped n a) k = Next n a
after (Lost w) k = Unknown

pub most_pos : 0 < most_ticks
unfolding most_ticks
most_pos = lit< tt

-- the ticks that a task can make at most on these answers
abbrev pub room : {N M : Type 0} → Reported N M → ℕ
room w = most_ticks * length w.to_come + (most_ticks - w.since)

bind_through : {N M V U T W : Type 0} (o : Out N M V W) (k : V → W → Out N M U W) (h : V → W → Out N M T W) (m : T → W → Out N M U W) →
    ((v : V) (w : W) → k v w ≡ bind (h v w) m) → bind o k ≡ bind (bind o h) m
bind_through (Done v w) k h m e = e v w
bind_through (out.Trapped t p w) k h m e = refl
bind_through (Stopped n a) k h m e = refl
bind_through (Lost w) k h m e = refl

pub run_on : {N M W : Type 0} (wd : World N M W) (p : Prog N M) (k : Result N M → Prog N M) (w : W) →
    run wd (on p k) w ≡ bind (run wd p w) (λ r v. run wd (k r) v)
run_on wd (Ret r) k w = refl
run_on wd (Traps t p) k w = refl
run_on wd (Act o j) k w = bind_through (wd.act o w) (λ x v. run wd (on (j x) k) v) (λ x v. run wd (j x) v) (λ f v. run wd (k f) v) (λ x v. run_on wd (j x) k v)
run_on wd (Makes j) k w = bind_through (wd.make w) (λ x v. run wd (on (j x) k) v) (λ x v. run wd (j x) v) (λ f v. run wd (k f) v) (λ x v. run_on wd (j x) k v)
run_on wd (Again t b f j) k w =
    bind_through (loop wd.tick (λ g v. run wd (t g) v) (λ g v. run wd (b g) v) (wd.ticks w) f w) (λ x v. run wd (on (j x) k) v) (λ x v. run wd (j x) v)
    (λ f v. run wd (k f) v) (λ x v. run_on wd (j x) k v)
run_on wd (Split nd ts bs j) k w =
    bind_through (wd.fork nd ts (each_from (λ i v. run wd (bs i) v) 0 ts) w) (λ x v. run wd (on (j x) k) v) (λ x v. run wd (j x) v) (λ f v. run wd (k f) v)
    (λ x v. run_on wd (j x) k v)

pub after_assoc : {N M : Type 0} (o : Out N M (Result N M) (Reported N M)) (j : Result N M → Reported N M → Out N M (Result N M) (Reported N M)) (K : Result N M →
    Reported N M → Reply N M (Task N M)) → after (bind o j) K ≡ after o (λ r v. after (j r v) K)
after_assoc (Done v w) j K = refl
after_assoc (out.Trapped t p w) j K = refl
after_assoc (Stopped n a) j K = refl
after_assoc (Lost w) j K = refl

pub bind_assoc : {N M V U T W : Type 0} (o : Out N M V W) (j : V → W → Out N M U W) (k : U → W → Out N M T W) →
    bind (bind o j) k ≡ bind o (λ v w. bind (j v w) k)
bind_assoc (Done v w) j k = refl
bind_assoc (out.Trapped t p w) j k = refl
bind_assoc (Stopped n a) j k = refl
bind_assoc (Lost w) j k = refl

-- with some fuel
pub record Replies {N M : Type 0} (names : Naming N M) (C : PlainCode) (P : PlainProgram) (n m : ℕ) (s : State N M) (xs : List (Answer N M))
    (r : Reply N M (Task N M)) : Type 0 where
  pub fuel : ℕ
  pub reply : Reply N M (Start N M)
  pub stands : solo names C fuel n m s xs ≡ Some reply
  pub same : SameReply C P r reply

pub record Does {N M : Type 0} (names : Naming N M) (C : PlainCode) (P : PlainProgram) (b : ℕ) (s : State N M) (h : Reported N M →
    Reply N M (Task N M)) : Type 0 where
  pub from : (w : Reported N M) → w.since < most_ticks → room w < b → Replies names C P w.since w.made s w.to_come (h w)

-- what an action and its answers lead to
record Answers {N M : Type 0} (names : Naming N M) (C : PlainCode) (P : PlainProgram) (n m : ℕ) (a : Action N M (Start N M)) (k : Answer N M →
    State N M) (xs : List (Answer N M)) (r : Reply N M (Task N M)) : Type 0 where
  fuel : ℕ
  reply : Reply N M (Start N M)
  stands : answered (λ n m t ys. solo names C fuel n m t ys) n m a k xs ≡ Some reply
  same : SameReply C P r reply

room_falls : {N M : Type 0} (b n : ℕ) (xs ys : List (Answer N M)) (x : Answer N M) → xs ≡ x ∷ ys → most_ticks * length xs + (most_ticks - n) < b →
    most_ticks * length ys + (most_ticks - 0) < b
room_falls b n xs ys x e r =
    let l = ap length e in
    let m : most_ticks * length xs ≡ most_ticks * length ys + most_ticks = rw l (omega arith) in
    omega arith

record Ticking {N M : Type 0} (names : Naming N M) (C : PlainCode) (P : PlainProgram) (n m : ℕ) (s : State N M) (xs : List (Answer N M))
    (r : Reply N M (Task N M)) : Type 0 where
  fuel : ℕ
  reply : Reply N M (Start N M)
  stands : ticked (λ n m t ys. solo names C fuel n m t ys) n m s xs ≡ Some reply
  same : SameReply C P r reply

module _ {N M : Type 0} {names : Naming N M} {C : PlainCode} {P : PlainProgram} where
  pub does_same : {b : ℕ} {s : State N M} {h k : Reported N M → Reply N M (Task N M)} → ((w : Reported N M) → h w ≡ k w) → Does names C P b s h → Does names C P b s k
  does_same {b} {s} {h} {k} e d = record { from = λ w l r. subst (λ x. Replies names C P w.since w.made s w.to_come x) (e w) (d.from w l r) }

  pub does_less : {a b : ℕ} {s : State N M} {h : Reported N M → Reply N M (Task N M)} → b ≤ a → Does names C P a s h → Does names C P b s h
  does_less m d = record { from = λ w l r. d.from w l (omega arith) }

  pub does_on : {b : ℕ} {s : State N M} (p : Prog N M) (j : Result N M → Prog N M) (K : Result N M → Reported N M → Reply N M (Task N M)) →
      Does names C P b s (λ w. after (run (reported names) p w) (λ r v. after (run (reported names) (j r) v) K)) →
      Does names C P b s (λ w. after (run (reported names) (on p j) w) K)
  does_on p j K d = does_same
      (λ w. sym (ap (λ o. after o K) (run_on (reported names) p j w) ∙ after_assoc (run (reported names) p w) (λ r v. run (reported names) (j r) v) K)) d

  pub does_step : {b : ℕ} {s t : State N M} {h : Reported N M → Reply N M (Task N M)} → step names C s ≡ Goes t → Does names C P b t h → Does names C P b s h
  does_step e d = record {
    from = λ w l r. (let x = d.from w l r in
        record {
          fuel = suc x.fuel;
          reply = x.reply;
          stands = ap (λ o. stood names (λ n m t ys. solo names C x.fuel n m t ys) w.since w.made o w.to_come) e ∙
              x.stands;
          same = x.same;
        });
  }

  answers : (w : Reported N M) (a : Action N M (Task N M)) (b : Action N M (Start N M)) (k : Answer N M → State N M) (m : Answer N M → Reported N M →
      Out N M (Result N M) (Reported N M)) (K : Result N M → Reported N M → Reply N M (Task N M)) (xs : List (Answer N M)) → SameAct C P a b →
      ((x : Answer N M) (ys : List (Answer N M)) → xs ≡ x ∷ ys →
      Replies names C P 0 w.made (k x) ys (after (m x (record { since = 0; made = w.made; to_come = ys })) K)) →
      Answers names C P w.since w.made b k xs (after (bind (take_answer a w xs) m) K)
  answers w a b k m K [] s h = record { fuel = 0; reply = Next w.since b; stands = refl; same = (b, refl, s) }
  answers w a b k m K (x ∷ ys) s h = let r = h x ys refl in record { fuel = r.fuel; reply = r.reply; stands = r.stands; same = r.same }

  pub does_act : {b : ℕ} {s : State N M} {k : Answer N M → State N M} (a : Action N M (Task N M)) (c : Action N M (Start N M)) (m : Answer N M → Reported N M →
      Out N M (Result N M) (Reported N M)) (K : Result N M → Reported N M → Reply N M (Task N M)) → SameAct C P a c → step names C s ≡ Waits c k →
      ((x : Answer N M) → Does names C P b (k x) (λ w. after (m x w) K)) → Does names C P b s (λ w. after (bind (asked a w) m) K)
  does_act {b} {s} {k} a c m K q e d = record {
    from = λ w l r. (let x =
        answers w a c k m K w.to_come q
        (λ x ys z. (d x).from (record { since = 0; made = w.made; to_come = ys }) most_pos (room_falls b w.since w.to_come ys x z r)) in
        record {
          fuel = suc x.fuel;
          reply = x.reply;
          stands = ap (λ o. stood names (λ n m t ys. solo names C x.fuel n m t ys) w.since w.made o w.to_come) e ∙
              x.stands;
          same = x.same;
        });
  }

  -- a tick takes from the number of ticks that are possible
  ticks : {b : ℕ} {s : State N M} (m : Reported N M → Out N M (Result N M) (Reported N M)) (K : Result N M → Reported N M → Reply N M (Task N M)) →
      Does names C P b s (λ w. after (m w) K) → (w : Reported N M) → w.since < most_ticks → room w < suc b →
      Ticking names C P w.since w.made s w.to_come (after (bind (ticked_reported w) (λ u v. m v)) K)
  ticks {b} {s} m K d w l r = go (suc w.since == most_ticks) refl
    where
      later : Reported N M
      later = record w { since = suc w.since }

      room_rest : (xs ys : List (Answer N M)) (x : Answer N M) → xs ≡ x ∷ ys → most_ticks * length xs + (most_ticks - w.since) < suc b →
          most_ticks * length ys + (most_ticks - 0) < b
      room_rest xs ys x z h =
          let i = ap length z in
          let j : most_ticks * length xs ≡ most_ticks * length ys + most_ticks = rw i (omega arith) in
          omega arith

      go : (t : Bool) → (suc w.since == most_ticks) ≡ t → Ticking names C P w.since w.made s w.to_come (after (bind (ticked_reported w) (λ u v. m v)) K)
      go true q =
          let x = answers (record w { since = suc w.since }) (Do Rest) (Do Rest) (λ x. s) (λ a v. m v) K w.to_come refl
          (λ x ys z. d.from (record { since = 0; made = w.made; to_come = ys }) most_pos (room_rest w.to_come ys x z r)) in
          record {
            fuel = x.fuel;
            reply = x.reply;
            stands = ap (λ c. if c then answered (λ n m t ys. solo names C x.fuel n m t ys) (suc w.since) w.made (Do Rest)
                (λ y. s) w.to_come else solo names C x.fuel (suc w.since) w.made s w.to_come) q ∙ x.stands;
            same = subst (λ y. SameReply C P y x.reply)
                (sym (ap (λ o. after o K)
                (ap (λ c. bind (if c then bind (asked (Do Rest) (record w { since = suc w.since })) (λ a v. Done tt v) else Done tt
                (record w { since = suc w.since })) (λ u v. m v)) q ∙
                bind_assoc (asked (Do Rest) (record w { since = suc w.since })) (λ a v. Done tt v) (λ u v. m v)))) x.same;
          }
      go false q =
          let ne = eqb-false (suc w.since) most_ticks q in
          let lt : suc w.since < most_ticks = grind arith in
          let x = d.from (record w { since = suc w.since }) lt (omega arith) in
          record {
            fuel = x.fuel;
            reply = x.reply;
            stands = ap (λ c. if c then answered (λ n m t ys. solo names C x.fuel n m t ys) (suc w.since) w.made (Do Rest)
                (λ y. s) w.to_come else solo names C x.fuel (suc w.since) w.made s w.to_come) q ∙ x.stands;
            same = subst (λ y. SameReply C P y x.reply)
                (sym (ap (λ o. after o K)
                (ap (λ c. bind (if c then bind (asked (Do Rest) (record w { since = suc w.since })) (λ a v. Done tt v) else Done tt
                (record w { since = suc w.since })) (λ u v. m v)) q))) x.same;
          }

  pub does_tick : {b : ℕ} {s t : State N M} (m : Reported N M → Out N M (Result N M) (Reported N M)) (K : Result N M → Reported N M → Reply N M (Task N M)) →
      step names C s ≡ Ticks t → Does names C P b t (λ w. after (m w) K) → Does names C P (suc b) s (λ w. after (bind (ticked_reported w) (λ u v. m v)) K)
  does_tick {b} {s} {t} m K e d = record {
    from = λ w l r. (let x = ticks m K d w l r in
        record {
          fuel = suc x.fuel;
          reply = x.reply;
          stands = ap (λ o. stood names (λ n m t ys. solo names C x.fuel n m t ys) w.since w.made o w.to_come) e ∙
              x.stands;
          same = x.same;
        });
  }

  -- a new local region
  pub does_make : {b : ℕ} {s : State N M} {k : M → State N M} (q : M → Reported N M → Out N M (Result N M) (Reported N M)) (K : Result N M → Reported N M →
      Reply N M (Task N M)) → step names C s ≡ stand.Makes k → ((r : M) → Does names C P b (k r) (λ w. after (q r w) K)) →
      Does names C P b s (λ w. after (bind ((reported names).make w) q) K)
  does_make {b} {s} {k} q K e d = record {
    from = λ w l r. (let x =
        ticks {b = b} {s = k (names.made w.made)} (λ v. q (names.made w.made) v) K (d (names.made w.made)) (record w { made = suc w.made }) l (omega arith) in
        record {
          fuel = suc x.fuel;
          reply = x.reply;
          stands = ap (λ o. stood names (λ n m t ys. solo names C x.fuel n m t ys) w.since w.made o w.to_come) e ∙ x.stands;
          same = subst (λ y. SameReply C P y x.reply)
              (sym (ap (λ o. after o K) (bind_assoc (ticked_reported (record w { made = suc w.made })) (λ u v. Done (names.made w.made) v) q))) x.same;
        });
  }

  pub does_end : {b : ℕ} (e : Ending N) → Does names C P b (Off e) (λ w. ending e w.since w.to_come)
  unfolding step
  does_end e = record { from = λ w l r. at_end w.since w.made w.to_come }
    where
      at_end : (n m : ℕ) (xs : List (Answer N M)) → Replies names C P n m (Off e) xs (ending e n xs)
      at_end n m [] = record { fuel = 1; reply = _; stands = refl; same = (_, refl, refl) }
      at_end n m (x ∷ xs) = record { fuel = 1; reply = _; stands = refl; same = refl }

  -- in front of a join, where branch k is next and m are left of n; D: after it
  pub does_begins : {b : ℕ} (n : ℕ) (J : ℕ → ℕ → State N M) (D : Brought N → State N M) (Y : Brought N → Reported N M →
      Out N M (Result N M) (Reported N M)) (K : Result N M → Reported N M → Reply N M (Task N M)) →
      ((k m : ℕ) → k + suc m ≡ n → step names C (J k (suc m)) ≡ Waits (Begin k) (λ x. J (suc k) m)) →
      ((k : ℕ) → step names C (J k 0) ≡ Waits Join (λ x. D (brought x))) → ((x : Brought N) → Does names C P b (D x) (λ w. after (Y x w) K)) → (m k : ℕ) →
      k + m ≡ n → Does names C P b (J k m) (λ w. after (bind (begins_then k m reported_join w) Y) K)
  does_begins n J D Y K begin join out zero k e =
      does_same (λ w. ap (λ o. after o K) (sym (bind_assoc (asked Join w) (λ a v. Done (brought a) v) Y)))
      (does_act Join Join (λ x v. Y (brought x) v) K refl (join k) (λ x. out (brought x)))
  does_begins n J D Y K begin join out (suc m) k e =
      does_same (λ w. ap (λ o. after o K) (sym (bind_assoc (asked (Begin k) w) (λ a v. begins_then (suc k) m reported_join v) Y)))
      (does_act (Begin k) (Begin k) (λ a v. bind (begins_then (suc k) m reported_join v) Y) K refl (begin k m e)
      (λ x. does_begins n J D Y K begin join out m (suc k) (omega arith)))
