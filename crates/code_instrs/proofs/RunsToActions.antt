-- From action to action a task makes its solo run.
use Rattle.std.proofs.Common.{◌≡◌, ℕ, zero, suc, Bool, true, false, if◌then◌else◌, ◌==◌, List, [], ◌∷◌, ◌++◌, reverse, refl, sym, ap, ◌∙◌, subst, Option, Some, append-nil, append_assoc}
use Rattle.std.proofs.lemmas.List.{reverse-append}
use Rattle.lang_meaning.specs.Values.{Naming}
use Rattle.lang_meaning.specs.Actions.{Rest, Action, Do, End, Answer, Reply, Next, Over, Unknown}
use Rattle.lang_meaning.specs.Asking.{most_ticks}
use Rattle.code_instrs.specs.Plain.{PlainCode}
use Rattle.code_instrs.specs.Machine.{Start, State, Stand, Goes, Ticks, Makes, Waits, Ends, Stuck, answered, ticked, stood, step, solo, begins_at, Solo}
use Rattle.code_instrs.specs.RunsToActions.{Halt, Asks, Finished, Dead, ran_on_tick, ran_on, run_to_action, Halts, said}

pub record Run {N M : Type 0} (names : Naming N M) (C : PlainCode) (n m : ℕ) (s : State N M) (xs : List (Answer N M)) (r : Reply N M (Start N M)) : Type 0 where
  pub fuel : ℕ
  pub stands : solo names C fuel n m s xs ≡ Some r

module _ {N M : Type 0} (names : Naming N M) (C : PlainCode) where
  -- what follows from where a task stands
  abbrev pub Resumes : Halt N M → List (Answer N M) → Reply N M (Start N M) → Type 0
  Resumes (Asks n m a k) [] r = r ≡ Next n a
  Resumes (Asks n m a k) (x ∷ xs) r = Run names C 0 m (k x) xs r
  Resumes (Finished n e) [] r = r ≡ Next n (End e)
  Resumes (Finished n e) (x ∷ xs) r = r ≡ Over
  Resumes Dead xs r = r ≡ Unknown

  record Stood (n m : ℕ) (o : Stand N M) (xs : List (Answer N M)) (r : Reply N M (Start N M)) : Type 0 where
    fuel : ℕ
    stands : stood names (λ n m t ys. solo names C fuel n m t ys) n m o xs ≡ Some r

  asks : (n m : ℕ) (a : Action N M (Start N M)) (k : Answer N M → State N M) (xs : List (Answer N M)) (r : Reply N M (Start N M)) →
      Resumes (Asks n m a k) xs r → (fuel : ℕ) × (answered (λ n m t ys. solo names C fuel n m t ys) n m a k xs ≡ Some r)
  asks n m a k [] r h = (0, ap Some (sym h))
  asks n m a k (x ∷ xs) r h = (h.fuel, h.stands)

  on_tick : (more : ℕ → ℕ → State N M → Option (Halt N M)) → ((n m : ℕ) (t : State N M) (h : Halt N M) (ys : List (Answer N M)) (r : Reply N M (Start N M)) →
      more n m t ≡ Some h → Resumes h ys r → Run names C n m t ys r) →
      (n m : ℕ) (s : State N M) (h : Halt N M) (xs : List (Answer N M)) (r : Reply N M (Start N M)) → ran_on_tick more n m s ≡ Some h → Resumes h xs r →
      (fuel : ℕ) × (ticked (λ n m t ys. solo names C fuel n m t ys) n m s xs ≡ Some r)
  on_tick more rec n m s h xs r e z = go (suc n == most_ticks) e
    where
      go : (b : Bool) → (if b then Some (Asks (suc n) m (Do Rest) (λ x. s)) else more (suc n) m s) ≡ Some h →
          (fuel : ℕ) × ((if b then answered (λ n m t ys. solo names C fuel n m t ys) (suc n) m (Do Rest) (λ x. s) xs else solo names C fuel (suc n) m s xs) ≡
          Some r)
      go true i = let g : Asks (suc n) m (Do Rest) (λ x. s) ≡ h = cc in asks (suc n) m (Do Rest) (λ x. s) xs r (subst (λ y. Resumes y xs r) (sym g) z)
      go false i = let x = rec (suc n) m s h xs r i z in (x.fuel, x.stands)

  on_stand : (more : ℕ → ℕ → State N M → Option (Halt N M)) → ((n m : ℕ) (t : State N M) (h : Halt N M) (ys : List (Answer N M)) (r : Reply N M (Start N M)) →
      more n m t ≡ Some h → Resumes h ys r → Run names C n m t ys r) →
      (n m : ℕ) (o : Stand N M) (h : Halt N M) (xs : List (Answer N M)) (r : Reply N M (Start N M)) → ran_on names more n m o ≡ Some h → Resumes h xs r →
      Stood n m o xs r
  on_stand more rec n m (Goes s) h xs r e z = let x = rec n m s h xs r e z in record { fuel = x.fuel; stands = x.stands }
  on_stand more rec n m (Ticks s) h xs r e z = let x = on_tick more rec n m s h xs r e z in record { fuel = x.0; stands = x.1 }
  on_stand more rec n m (Makes k) h xs r e z = let x = on_tick more rec n (suc m) (k (names.made m)) h xs r e z in record { fuel = x.0; stands = x.1 }
  on_stand more rec n m (Waits a k) h xs r e z = let g : Asks n m a k ≡ h = cc in let x = asks n m a k xs r (subst (λ y. Resumes y xs r) (sym g) z) in
      record { fuel = x.0; stands = x.1 }
  on_stand more rec n m (Ends d) h [] r e z = let g : Finished n d ≡ h =
      cc in record { fuel = 0; stands = ap Some (sym (subst (λ y. Resumes y [] r) (sym g) z)) }
  on_stand more rec n m (Ends d) h (x ∷ xs) r e z = let g : Finished n d ≡ h =
      cc in record { fuel = 0; stands = ap Some (sym (subst (λ y. Resumes y (x ∷ xs) r) (sym g) z)) }
  on_stand more rec n m Stuck h xs r e z = let g : Dead ≡ h = cc in record { fuel = 0; stands = ap Some (sym (subst (λ y. Resumes y xs r) (sym g) z)) }

  on_run : (fuel n m : ℕ) (s : State N M) (h : Halt N M) (xs : List (Answer N M)) (r : Reply N M (Start N M)) → run_to_action names C fuel n m s ≡ Some h →
      Resumes h xs r → Run names C n m s xs r
  on_run zero n m s h xs r e z = absurd (cc)
  on_run (suc f) n m s h xs r e z = let x =
      on_stand (λ n m t. run_to_action names C f n m t) (λ n m t h ys r i z. on_run f n m t h ys r i z) n m (step names C s) h xs r e z in
      record { fuel = suc x.fuel; stands = x.stands }

  latest : (x : Answer N M) (got xs : List (Answer N M)) → reverse (x ∷ got) ++ xs ≡ reverse got ++ x ∷ xs
  latest x got xs = ap (λ l. l ++ xs) (reverse-append (x ∷ []) got) ∙ append_assoc (reverse got) (x ∷ []) xs

  on_halts : (b : Start N M) (got : List (Answer N M)) (h : Halt N M) (xs : List (Answer N M)) (r : Reply N M (Start N M)) → Halts names C b got h →
      Resumes h xs r → Run names C 0 0 (begins_at b) (reverse got ++ xs) r
  on_halts b [] h xs r a z = on_run a.fuel 0 0 (begins_at b) h xs r a.runs z
  on_halts b (x ∷ got) h xs r a z =
      subst (λ l. Run names C 0 0 (begins_at b) l r) (sym (latest x got xs))
      (on_halts b got (Asks a.0 a.1 a.2 a.3) (x ∷ xs) r a.4 (on_run a.5.fuel 0 a.1 (a.3 x) h xs r a.5.runs z))

  stops : (h : Halt N M) → Resumes h [] (said h)
  stops (Asks n m a k) = refl
  stops (Finished n e) = refl
  stops Dead = refl

  pub runs_are_solo : (b : Start N M) (got : List (Answer N M)) (h : Halt N M) → Halts names C b got h → Solo names C b got (said h)
  runs_are_solo b got h a =
      let x = subst (λ l. Run names C 0 0 (begins_at b) l (said h)) (append-nil (reverse got)) (on_halts b got h [] (said h) a (stops h)) in
      record { fuel = x.fuel; stands = x.stands }

  -- where a solo run stands at something, its way to that action has ended
  abbrev HasRun : (ℕ → ℕ → State N M → Option (Halt N M)) → (ℕ → ℕ → State N M → List (Answer N M) → Option (Reply N M (Start N M))) → Type 0
  HasRun more runs = (n m : ℕ) (t : State N M) (ys : List (Answer N M)) (r : Reply N M (Start N M)) → runs n m t ys ≡ Some r →
      (h : Halt N M) × (more n m t ≡ Some h)

  tick_ends : (fuel n m : ℕ) → HasRun (λ n m t. run_to_action names C fuel n m t) (λ n m t ys. solo names C fuel n m t ys) →
      (s : State N M) (xs : List (Answer N M)) (r : Reply N M (Start N M)) → ticked (λ n m t ys. solo names C fuel n m t ys) n m s xs ≡ Some r →
      (h : Halt N M) × (ran_on_tick (λ n m t. run_to_action names C fuel n m t) n m s ≡ Some h)
  tick_ends fuel n m rec s xs r e = go (suc n == most_ticks) e
    where
      go : (b : Bool) → (if b then answered (λ n m t ys. solo names C fuel n m t ys) (suc n) m (Do Rest) (λ x. s) xs else solo names C fuel (suc n) m s xs) ≡
          Some r → (h : Halt N M) × ((if b then Some (Asks (suc n) m (Do Rest) (λ x. s)) else run_to_action names C fuel (suc n) m s) ≡ Some h)
      go true i = (_, refl)
      go false i = rec (suc n) m s xs r i

  stand_ends : (fuel n m : ℕ) → HasRun (λ n m t. run_to_action names C fuel n m t) (λ n m t ys. solo names C fuel n m t ys) →
      (o : Stand N M) (xs : List (Answer N M)) (r : Reply N M (Start N M)) → stood names (λ n m t ys. solo names C fuel n m t ys) n m o xs ≡ Some r →
      (h : Halt N M) × (ran_on names (λ n m t. run_to_action names C fuel n m t) n m o ≡ Some h)
  stand_ends fuel n m rec (Goes s) xs r e = rec n m s xs r e
  stand_ends fuel n m rec (Ticks s) xs r e = tick_ends fuel n m rec s xs r e
  stand_ends fuel n m rec (Makes k) xs r e = tick_ends fuel n (suc m) rec (k (names.made m)) xs r e
  stand_ends fuel n m rec (Waits a k) xs r e = (_, refl)
  stand_ends fuel n m rec (Ends d) xs r e = (_, refl)
  stand_ends fuel n m rec Stuck xs r e = (_, refl)

  pub run_ends : (fuel n m : ℕ) (s : State N M) (xs : List (Answer N M)) (r : Reply N M (Start N M)) → solo names C fuel n m s xs ≡ Some r →
      (h : Halt N M) × (run_to_action names C fuel n m s ≡ Some h)
  run_ends zero n m s xs r e = absurd (cc)
  run_ends (suc f) n m s xs r e = stand_ends f n m (λ n m t ys q i. run_ends f n m t ys q i) (step names C s) xs r e

  -- of a solo run that goes past an action, what is after it
  abbrev Following : Halt N M → Answer N M → List (Answer N M) → Reply N M (Start N M) → Type 0
  Following (Asks n m a k) x ys r = Run names C 0 m (k x) ys r
  Following (Finished n e) x ys r = Unit {0}
  Following Dead x ys r = Unit {0}

  abbrev Goes_past : ℕ → ℕ → Type 0
  Goes_past f g = (n m : ℕ) (t : State N M) (x : Answer N M) (ys : List (Answer N M)) (r : Reply N M (Start N M)) (h : Halt N M) →
      solo names C f n m t (x ∷ ys) ≡ Some r → run_to_action names C g n m t ≡ Some h → Following h x ys r

  past_tick : (f g n m : ℕ) → Goes_past f g → (s : State N M) (x : Answer N M) (ys : List (Answer N M)) (r : Reply N M (Start N M)) (h : Halt N M) →
      ticked (λ n m t ys. solo names C f n m t ys) n m s (x ∷ ys) ≡ Some r → ran_on_tick (λ n m t. run_to_action names C g n m t) n m s ≡ Some h → Following h x ys r
  past_tick f g n m rec s x ys r h e i = go (suc n == most_ticks) e i
    where
      go : (b : Bool) → (if b then answered (λ n m t ys. solo names C f n m t ys) (suc n) m (Do Rest) (λ x. s) (x ∷ ys) else solo names C f (suc n) m s
          (x ∷ ys)) ≡ Some r → (if b then Some (Asks (suc n) m (Do Rest) (λ x. s)) else run_to_action names C g (suc n) m s) ≡ Some h → Following h x ys r
      go true e i = let j : Asks (suc n) m (Do Rest) (λ x. s) ≡ h = cc in subst (λ q. Following q x ys r) j (record { fuel = f; stands = e })
      go false e i = rec (suc n) m s x ys r h e i

  past_stand : (f g n m : ℕ) → Goes_past f g → (o : Stand N M) (x : Answer N M) (ys : List (Answer N M)) (r : Reply N M (Start N M)) (h : Halt N M) →
      stood names (λ n m t ys. solo names C f n m t ys) n m o (x ∷ ys) ≡ Some r → ran_on names (λ n m t. run_to_action names C g n m t) n m o ≡ Some h → Following h x ys r
  past_stand f g n m rec (Goes s) x ys r h e i = rec n m s x ys r h e i
  past_stand f g n m rec (Ticks s) x ys r h e i = past_tick f g n m rec s x ys r h e i
  past_stand f g n m rec (Makes k) x ys r h e i = past_tick f g n (suc m) rec (k (names.made m)) x ys r h e i
  past_stand f g n m rec (Waits a k) x ys r h e i = let j : Asks n m a k ≡ h = cc in subst (λ q. Following q x ys r) j (record { fuel = f; stands = e })
  past_stand f g n m rec (Ends d) x ys r h e i = let j : Finished n d ≡ h = cc in subst (λ q. Following q x ys r) j tt
  past_stand f g n m rec Stuck x ys r h e i = let j : Dead ≡ h = cc in subst (λ q. Following q x ys r) j tt

  past_run : (f g : ℕ) → Goes_past f g
  past_run zero g n m s x ys r h e i = absurd (cc)
  past_run (suc f) zero n m s x ys r h e i = absurd (cc)
  past_run (suc f) (suc g) n m s x ys r h e i = past_stand f g n m (past_run f g) (step names C s) x ys r h e i

  -- what a solo run does after the answers so far
  pub past_halts : (b : Start N M) (got : List (Answer N M)) (n m : ℕ) (a : Action N M (Start N M)) (k : Answer N M →
      State N M) (x : Answer N M) (ys : List (Answer N M)) (r : Reply N M (Start N M)) → Halts names C b got (Asks n m a k) →
      Run names C 0 0 (begins_at b) (reverse got ++ x ∷ ys) r → Run names C 0 m (k x) ys r
  past_halts b [] n m a k x ys r t q = past_run q.fuel t.fuel 0 0 (begins_at b) x ys r (Asks n m a k) q.stands t.runs
  past_halts b (z ∷ got) n m a k x ys r t q =
      let p = past_halts b got t.0 t.1 t.2 t.3 z (x ∷ ys) r t.4 (subst (λ l. Run names C 0 0 (begins_at b) l r) (latest z got (x ∷ ys)) q) in
      past_run p.fuel t.5.fuel 0 t.1 (t.3 z) x ys r (Asks n m a k) p.stands t.5.runs
