-- A task that counts its local regions comes out as one that doesn't, but for the number with which it stops; and a loop is here too what its next tick
-- leads to.
use Rattle.std.proofs.Common.{◌≡◌, ℕ, zero, suc, ◌+◌, ◌-◌, ◌<◌, ◌≤◌, ⊎_elim, Bool, true, false, List, [], ◌∷◌, refl, sym, ap, ◌∙◌, subst, arith, ◌==◌}
use Rattle.std.proofs.lemmas.Bool.{eqb-false, cases_lt}
use Rattle.lang_meaning.specs.Actions.{Action, Answer, Do, Frame, Next, Own, Rest, Task, Work}
use Rattle.lang_meaning.specs.Asking.{most_ticks, Reported, take_answer, asked, ticked, made_region, reported_fork, reported, replied}
use Rattle.lang_meaning.specs.Core.{Result, Goes_on, Returns, Prog, Ret, Traps, Act, Makes, Again, Split, Out, Done, Trapped, Stopped, Lost, bind, loop, tested, rounded, run}
use Rattle.lang_meaning.specs.Counts.{truth}
use Rattle.lang_meaning.specs.Values.{Naming}
use Rattle.lang_meaning.proofs.Ticks.{Body, room, past_test, ticked_if, bind_done, run_fits, most_pos}
use Rattle.runs_sound.specs.Counting.{acts_counting, counting}

-- the same outcome, but for the number of a stop
abbrev pub Twin : {N M V W : Type 0} → Out N M V W → Out N M V W → Type 0
Twin (Done v w) c = c ≡ Done v w
Twin (Trapped trap p w) c = c ≡ Trapped trap p w
Twin (Stopped n a) c = (k : ℕ) × (c ≡ Stopped k a)
Twin (Lost w) c = c ≡ Lost w

twin_self : {N M V W : Type 0} (o : Out N M V W) → Twin o o
twin_self (Done v w) = refl
twin_self (Trapped trap p w) = refl
twin_self (Stopped n a) = (n, refl)
twin_self (Lost w) = refl

twin_bind : {N M V U W : Type 0} (o c : Out N M V W) (k j : V → W → Out N M U W) → Twin o c → ((v : V) (w : W) → Twin (k v w) (j v w)) → Twin (bind o k) (bind c j)
twin_bind (Done v w) c k j t h = subst (λ x. Twin (k v w) (bind x j)) (sym t) (h v w)
twin_bind (Trapped trap p w) c k j t h = ap (λ x. bind x j) t
twin_bind (Stopped n a) c k j t h = (t.0, ap (λ x. bind x j) t.1)
twin_bind (Lost w) c k j t h = ap (λ x. bind x j) t

was_done : {N M V W : Type 0} (o c : Out N M V W) → Twin o c → (v : V) (w : W) → c ≡ Done v w → o ≡ Done v w
was_done (Done x y) c t v w e = sym t ∙ e
was_done (Trapped trap p y) c t v w e = absurd (let k : Trapped trap p y ≡ Done v w = sym t ∙ e in cc)
was_done (Stopped n a) c t v w e = absurd (let k : Stopped t.0 a ≡ Done v w = sym t.1 ∙ e in cc)
was_done (Lost y) c t v w e = absurd (let k : Lost y ≡ Done v w = sym t ∙ e in cc)

was_lost : {N M V W : Type 0} (o c : Out N M V W) → Twin o c → (w : W) → c ≡ Lost w → o ≡ Lost w
was_lost (Lost y) c t w e = sym t ∙ e
was_lost (Done x y) c t w e = absurd (let k : Done x y ≡ Lost w = sym t ∙ e in cc)
was_lost (Trapped trap p y) c t w e = absurd (let k : Trapped trap p y ≡ Lost w = sym t ∙ e in cc)
was_lost (Stopped n a) c t w e = absurd (let k : Stopped t.0 a ≡ Lost w = sym t.1 ∙ e in cc)

-- the same outcome, where the first isn't lost
abbrev Under : {N M V W : Type 0} → Out N M V W → Out N M V W → Type 0
Under (Done v w) c = c ≡ Done v w
Under (Trapped trap p w) c = c ≡ Trapped trap p w
Under (Stopped n a) c = c ≡ Stopped n a
Under (Lost w) c = Unit {0}

under_self : {N M V W : Type 0} (o : Out N M V W) → Under o o
under_self (Done v w) = refl
under_self (Trapped trap p w) = refl
under_self (Stopped n a) = refl
under_self (Lost w) = tt

under_under : {N M V W : Type 0} (o c d : Out N M V W) → Under o c → Under c d → Under o d
under_under (Done v w) c d a b = subst (λ x. Under x d) a b
under_under (Trapped trap p w) c d a b = subst (λ x. Under x d) a b
under_under (Stopped n m) c d a b = subst (λ x. Under x d) a b
under_under (Lost w) c d a b = tt

under_same : {N M V W : Type 0} (o c : Out N M V W) → Under o c → ((w : W) → o ≡ Lost w → ⊥) → c ≡ o
under_same (Done v w) c a n = a
under_same (Trapped trap p w) c a n = a
under_same (Stopped k m) c a n = a
under_same (Lost w) c a n = absurd (n w refl)

under_bind : {N M V U W : Type 0} (o : Out N M V W) (k j : V → W → Out N M U W) → ((v : V) (w : W) → o ≡ Done v w → Under (k v w) (j v w)) → Under (bind o k) (bind o j)
under_bind (Done v w) k j h = h v w refl
under_bind (Trapped trap p w) k j h = refl
under_bind (Stopped n a) k j h = refl
under_bind (Lost w) k j h = tt

tick_low : {N M : Type 0} (w u : Reported N M) (z : Unit {0}) → w.since < most_ticks → ticked w ≡ Done z u → u.since < most_ticks
tick_low {N} {M} w u z l = go (suc w.since == most_ticks) refl
  where
    rested : (xs : List (Answer N M)) → bind {U = Unit {0}} (take_answer (Do Rest) (record w { since = suc w.since }) xs) (λ a v. Done tt v) ≡ Done z u → u.since < most_ticks
    rested [] e = absurd (cc)
    rested (x ∷ xs) e =
        let k : record { since = 0; made = w.made; to_come = xs } ≡ u = cc in
        subst (λ (y : Reported N M). y.since < most_ticks) k most_pos

    go : (b : Bool) → (suc w.since == most_ticks) ≡ b → ticked_if b w ≡ Done z u → u.since < most_ticks
    go true q e = rested w.to_come e
    go false q e =
        let ne = eqb-false (suc w.since) most_ticks q in
        let lt : suc w.since < most_ticks = grind arith in
        let k : record w { since = suc w.since } ≡ u = cc in
        subst (λ (y : Reported N M). y.since < most_ticks) k lt

module _ {N M : Type 0} where
  abbrev Twins : Body N M → Body N M → Type 0
  Twins a c = (f : Frame N M) (w : Reported N M) → Twin (a f w) (c f w)

  twin_round : (a c : Body N M) → Twins a c → (r : Result N M) (w : Reported N M) → Twin (rounded a r w) (rounded c r w)
  twin_round a c t (Returns v) w = refl
  twin_round a c t (Goes_on v f) w = t f w

  twin_tested : (b d a c : Body N M) → Twins b d → Twins a c → (r : Result N M) (w : Reported N M) → Twin (tested ticked b a r w) (tested ticked d c r w)
  twin_tested b d a c s t (Returns v) w = refl
  twin_tested b d a c s t (Goes_on v f) w = go (truth v)
    where
      go : (z : Bool) → Twin (past_test b a v f w z) (past_test d c v f w z)
      go false = refl
      go true = twin_bind (ticked w) (ticked w) _ _ (twin_self (ticked w)) (λ u x. twin_bind (b f x) (d f x) _ _ (s f x) (λ r y. twin_round a c t r y))

  twin_loop : (b d e g : Body N M) → Twins b d → Twins e g → (n : ℕ) → Twins (λ f w. loop ticked b e n f w) (λ f w. loop ticked d g n f w)
  twin_loop b d e g s t zero f w = refl
  twin_loop b d e g s t (suc n) f w =
      twin_bind (b f w) (d f w) _ _ (s f w) (λ r x. twin_tested e g (λ f w. loop ticked b e n f w) (λ f w. loop ticked d g n f w) t (twin_loop b d e g s t n) r x)

  twin_act : (o : Own N M) (w : Reported N M) (xs : List (Answer N M)) → Twin (take_answer (Do o) w xs) (acts_counting o w xs)
  twin_act o w [] = (w.made, refl)
  twin_act o w (x ∷ xs) = refl

module _ {N M : Type 0} (names : Naming N M) where
  pub twin_run : (p : Prog N M) (w : Reported N M) → Twin (run (reported names) p w) (run (counting names) p w)
  twin_run (Ret r) w = refl
  twin_run (Traps trap p) w = refl
  twin_run (Act o k) w = twin_bind (asked (Do o) w) (acts_counting o w w.to_come) _ _ (twin_act o w w.to_come) (λ x v. twin_run (k x) v)
  twin_run (Makes k) w = twin_bind (made_region names w) (made_region names w) _ _ (twin_self (made_region names w)) (λ m v. twin_run (k m) v)
  twin_run (Again t b f k) w =
      twin_bind _ _ _ _ (twin_loop (λ g v. run (reported names) (t g) v) (λ g v. run (counting names) (t g) v) (λ g v. run (reported names) (b g) v) (λ g v. run (counting names) (b g) v)
      (λ g v. twin_run (t g) v) (λ g v. twin_run (b g) v) (suc (room w)) f w) (λ r v. twin_run (k r) v)
  twin_run (Split forking ts bs k) w = twin_bind (reported_fork forking ts w) (reported_fork forking ts w) _ _ (twin_self (reported_fork forking ts w)) (λ x v. twin_run (k x) v)

  -- so no bound runs out
  not_lost : (p : Prog N M) (w : Reported N M) → w.since < most_ticks → (u : Reported N M) → run (counting names) p w ≡ Lost u → ⊥
  not_lost p w l u e = (run_fits names p w l).total u (was_lost _ _ (twin_run p w) u e)

  low : (p : Prog N M) (w : Reported N M) → w.since < most_ticks → (v : Result N M) (u : Reported N M) → run (counting names) p w ≡ Done v u → u.since < most_ticks
  low p w l v u e = (run_fits names p w l).low v u (was_done _ _ (twin_run p w) v u e)

  abbrev pub again_counting : (test body : Frame N M → Prog N M) → Body N M
  again_counting test body f w = run (counting names) (Again test body f (λ r. Ret r)) w

  module _ (t b : Frame N M → Prog N M) where
    abbrev test : Body N M
    test g v = run (counting names) (t g) v

    abbrev body : Body N M
    body g v = run (counting names) (b g) v

    abbrev Unders : Body N M → Body N M → Type 0
    Unders a c = (f : Frame N M) (w : Reported N M) → w.since < most_ticks → Under (a f w) (c f w)

    under_tested : (a c : Body N M) → Unders a c → (r : Result N M) (w : Reported N M) → w.since < most_ticks → Under (tested ticked body a r w) (tested ticked body c r w)
    under_tested a c h (Returns v) w l = refl
    under_tested a c h (Goes_on v f) w l = go (truth v)
      where
        round : (r : Result N M) (x : Reported N M) → x.since < most_ticks → Under (rounded a r x) (rounded c r x)
        round (Returns v) x m = refl
        round (Goes_on v g) x m = h g x m

        go : (z : Bool) → Under (past_test body a v f w z) (past_test body c v f w z)
        go false = refl
        go true = under_bind (ticked w) _ _ (λ u x e. under_bind (body f x) _ _ (λ r y q. round r y (low (b f) x (tick_low w x u l e) r y q)))

    abbrev looped : ℕ → Body N M
    looped n f w = loop ticked test body n f w

    under_next : (n : ℕ) → Unders (looped n) (looped (suc n))
    under_next zero f w l = tt
    under_next (suc n) f w l = under_bind (test f w) _ _ (λ r x e. under_tested (looped n) (looped (suc n)) (under_next n) r x (low (t f) w l r x e))

    under_more : (k n m : ℕ) → k + n ≡ m → Unders (looped n) (looped m)
    under_more zero n m e f w l = let same : n ≡ m = omega (arith, e) in subst (λ x. Under (looped n f w) (looped x f w)) same (under_self (looped n f w))
    under_more (suc k) n m e f w l =
        let same : suc (k + n) ≡ m = omega (arith, e) in
        under_under (looped n f w) (looped (k + n) f w) (looped m f w) (under_more k n (k + n) refl f w l) (subst (λ x. Under (looped (k + n) f w) (looped x f w)) same (under_next (k + n) f w l))

    again_is : (f : Frame N M) (w : Reported N M) → again_counting t b f w ≡ looped (suc (room w)) f w
    again_is f w = bind_done _

    -- with any bound on its ticks it is as with enough
    under_again : (n : ℕ) → Unders (looped n) (again_counting t b)
    under_again n f w l = subst (λ o. Under (looped n f w) o) (sym (again_is f w)) (⊎_elim few many (cases_lt n (suc (room w))))
      where
        few : n < suc (room w) → Under (looped n f w) (looped (suc (room w)) f w)
        few h = under_more (suc (room w) - n) n (suc (room w)) (omega (arith, h)) f w l

        many : suc (room w) ≤ n → Under (looped n f w) (looped (suc (room w)) f w)
        many h =
            let more = under_more (n - suc (room w)) (suc (room w)) n (omega (arith, h)) f w l in
            subst (λ o. Under o (looped (suc (room w)) f w))
            (sym (under_same (looped (suc (room w)) f w) (looped n f w) more (λ u e. not_lost (Again t b f (λ r. Ret r)) w l u (again_is f w ∙ e)))) (under_self (looped (suc (room w)) f w))

    pub loops_counting : (f : Frame N M) (w : Reported N M) → w.since < most_ticks → again_counting t b f w ≡ bind (test f w) (λ r v. tested ticked body (again_counting t b) r v)
    loops_counting f w l =
        again_is f w ∙ sym (under_same (looped (suc (room w)) f w) _ (under_bind (test f w) _ _ (λ r x e. under_tested (looped (room w)) (again_counting t b) (under_again (room w)) r x (low (t f) w l r x e)))
        (λ u e. not_lost (Again t b f (λ r. Ret r)) w l u (again_is f w ∙ e)))

-- so it asks for the same
pub asks_the_same : {N M : Type 0} (k : Work) (o c : Out N M (Result N M) (Reported N M)) → Twin o c → (n : ℕ) (a : Action N M (Task N M)) → replied k o ≡ Next n a → (m : ℕ) × (replied k c ≡ Next m a)
asks_the_same k (Done r w) c t n a e = (n, ap (replied k) t ∙ e)
asks_the_same k (Trapped trap p w) c t n a e = (n, ap (replied k) t ∙ e)
asks_the_same k (Stopped i b) c t n a e = (t.0, ap (replied k) t.1 ∙ (let q : Next i b ≡ Next n a = e in let same : b ≡ a = cc in ap (λ x. Next t.0 x) same))
asks_the_same k (Lost w) c t n a e = (n, ap (replied k) t ∙ e)
